-- `tree_write::Table::last_tail` meets its contract. The invariant: the last of the tails that are passed is known, with its place. Assumes nothing.
use Rattle.tree_write.proofs.Merge.{Searched}
use Rattle.tree_write.proofs.Table.last_tail.Given as goal

abbrev pub invariant-loop-i : goal.invariant-loop-i
invariant-loop-i l = Searched l.self.nodes.now l.self.names.now l.tails l.i l.kid l.place
