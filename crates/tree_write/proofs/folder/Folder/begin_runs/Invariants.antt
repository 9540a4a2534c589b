-- `tree_write::folder::Folder::begin_runs` meets its contract. The invariant: the children that are passed stand in the runs so far. Assumes nothing.
use Rattle.tree_write.proofs.Merge.{Begun}
use Rattle.tree_write.proofs.folder.Folder.begin_runs.Given as goal

abbrev pub invariant-loop-child : goal.invariant-loop-child
invariant-loop-child l = Begun l.self.table.nodes.now l.self.table.names.now l.self.node l.self.end l.stop l.child l.used l.tails

abbrev pub decreases-loop-child : goal.decreases-loop-child
decreases-loop-child l = l.stop
