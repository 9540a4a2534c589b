-- That the contract of each callable function of the writer settles its answer and every byte of the output. Assumes nothing.
use Rattle.std.specs.Prelude.{ℕ, List}
use Rattle.write.specs.File.{Outcome}
use Rattle.walk_order.proofs as walk_order
use Rattle.proper.proofs as proper
use Rattle.tree_write.proofs as tree_write
use Rattle.write_entries.proofs as write_entries
use Rattle.write.proofs as write
use Rattle.claims_settled.specs.Law.{Settles, settled}

-- ---- `walk_order`, `proper`

pub in_walk_order_settled : Settles walk_order.in_walk_order.Kinds.ps walk_order.in_walk_order.Kinds.r walk_order.in_walk_order.Reads.Learnt
in_walk_order_settled κs a z z' w w' = settled (λ r. (r, w))

pub walks_within_settled : Settles walk_order.walks_within.Kinds.ps walk_order.walks_within.Kinds.r walk_order.walks_within.Reads.Learnt
walks_within_settled κs a z z' w w' = settled (λ r. (r, w))

pub kid_above_settled : Settles walk_order.kid_above.Kinds.ps walk_order.kid_above.Kinds.r walk_order.kid_above.Reads.Learnt
kid_above_settled κs a z z' w w' = settled (λ r. (r, w))

pub is_proper_settled : Settles proper.is_proper.Kinds.ps proper.is_proper.Kinds.r proper.is_proper.Reads.Learnt
is_proper_settled κs a z z' w w' = settled (λ r. (r, w))

-- ---- `tree_write`

pub tree_size_settled : Settles tree_write.tree_size.Kinds.ps tree_write.tree_size.Kinds.r tree_write.tree_size.Reads.Learnt
tree_size_settled κs a z z' w w' = settled (λ r. (r, w))

pub put_tree_settled : Settles tree_write.put_tree.Kinds.ps tree_write.put_tree.Kinds.r tree_write.put_tree.Reads.Learnt
put_tree_settled κs a z z' w w' = settled (λ o. (tt, (tt, (tt, (o, (tt, tt))))))

-- ---- `write_entries`

pub size_entries_settled : Settles write_entries.size_entries.Kinds.ps write_entries.size_entries.Kinds.r write_entries.size_entries.Reads.Learnt
size_entries_settled κs a z z' w w' = settled (λ r. (r, w))

pub put_entries_settled : Settles write_entries.put_entries.Kinds.ps write_entries.put_entries.Kinds.r write_entries.put_entries.Reads.Learnt
put_entries_settled κs a z z' w w' = settled (λ (x : ℕ × List ℕ). (x.0, (tt, (tt, (x.1, (tt, tt))))))

-- ---- `write`

pub write_to_settled : Settles write.write_to.Kinds.ps write.write_to.Kinds.r write.write_to.Reads.Learnt
write_to_settled κs a z z' w w' = settled (λ (o : Outcome). (o.answer, (tt, (tt, (tt, (tt, (tt, (o.out, tt))))))))
