use mathlib.Core.Path.{refl}
use native.Mathlib.Omega.{arith}
use borrow.Author.Rules.{rules}
use Rattle.tree_write.proofs.Laws.{tree_laws, tree_fits_lem, tree_ends, tree_done}
use Rattle.tree_write.proofs.Heads.{flat_room, flat_put}
use Rattle.tree_write.proofs.put_tree.Goals as goal

pub returns-then-out-at : goal.returns-then-out-at
returns-then-out-at c = search (tree_laws, rules)

pub returns-then-room-size : goal.returns-then-room-size
returns-then-room-size c = search (tree_laws, rules)

pub put_heads-requires : goal.put_heads-requires
put_heads-requires c = flat_room _ _ _ c.is_flat.ensures c.if-is_flat.true _ _ (tree_fits_lem _ _ _ _ _ c.if-out-at.false c.tree_size-size.ensures c.if-room-size.false (omega arith))

pub returns-then-is_flat : goal.returns-then-is_flat
returns-then-is_flat c = tree_done _ _ _ c.if-out-at.false _ c.tree_size-size.ensures (omega (arith, c)) c.if-room-size.false _ (flat_put _ _ _ c.is_flat.ensures c.if-is_flat.true _ _ _ c.put_heads.ensures)

pub put_merged-requires : goal.put_merged-requires
put_merged-requires c = tree_ends _ _ _ _ _ _ c.if-out-at.false c.tree_size-size.ensures c.if-room-size.false (omega arith) refl

pub returns-else-is_flat : goal.returns-else-is_flat
returns-else-is_flat c = tree_done _ _ _ c.if-out-at.false _ c.tree_size-size.ensures (omega (arith, c)) c.if-room-size.false _ c.put_merged.ensures
