-- `tree_write::folder::Folder::listed` meets its contract. The invariant: the last of the children that are passed and come before the bound is known. Assumes nothing.
use Rattle.tree_write.proofs.Merge.{Listing}
use Rattle.tree_write.proofs.folder.Folder.listed.Given as goal

abbrev pub invariant-loop-child : goal.invariant-loop-child
invariant-loop-child l = Listing l.self.table.nodes.now l.self.table.names.now l.self.node l.self.end l.bound l.stop l.child l.last

abbrev pub decreases-loop-child : goal.decreases-loop-child
decreases-loop-child l = l.stop
