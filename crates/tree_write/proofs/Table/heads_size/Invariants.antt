-- `tree_write::Table::heads_size` meets its contract. The invariant: the size so far and that of the heads that are left make up the whole. Assumes nothing.
use Rattle.tree_write.proofs.Heads.{Sizing}
use Rattle.tree_write.proofs.Table.heads_size.Given as goal

abbrev pub invariant-loop-i : goal.invariant-loop-i
invariant-loop-i l = Sizing l.self.nodes.now l.self.names.now l.i-end l.i l.size
