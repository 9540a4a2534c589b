-- `tree_write::Table::node_size` meets its contract. The measure is the depth. The loop's invariant: the size so far and that of the children that are left make up the whole. Assumes nothing.
use Prim.Native.Nat.{◌-◌}
use lib.ListN.{length}
use Rattle.sums.specs.Cap.{cap}
use Rattle.format.specs.Format.{id_size}
use Rattle.tree_write.specs.Tree.{node_bytes}
use Rattle.tree_write.proofs.Laws.{Adding}
use Rattle.tree_write.proofs.Table.+node_size.Given as goal

abbrev pub decreases-node_size : goal.decreases-node_size
decreases-node_size l = l.depth

abbrev pub invariant-loop-j : goal.invariant-loop-j
invariant-loop-j l = Adding l.self.nodes.now l.self.names.now (l.depth - 1) l.me l.j-end l.j l.size (cap (length (node_bytes id_size l.self.nodes.now l.self.names.now l.depth l.me)))
