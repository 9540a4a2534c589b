-- `tree_write::Table::put_node` meets its contract. The measure is the depth. The loop's invariant: putting the bytes of the children that are left at the present place gives the whole output, and they fit. Assumes nothing.
use Prim.Native.Nat.{◌-◌}
use Rattle.tree_write.proofs.Laws.{Writing}
use Rattle.tree_write.proofs.Table.+put_node.Given as goal

abbrev pub decreases-put_node : goal.decreases-put_node
decreases-put_node l = l.depth

abbrev pub invariant-loop-taken : goal.invariant-loop-taken
invariant-loop-taken l = Writing l.self.nodes.now l.self.names.now (l.depth - 1) l.me l.initial.out l.initial.pos l.out l.pos (l._taken-end - l._taken) l.last
