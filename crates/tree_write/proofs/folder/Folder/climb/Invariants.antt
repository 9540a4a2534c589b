-- `tree_write::folder::Folder::climb` meets its contract. The invariant: the node is the leaf or stands above it, and so do all that are kept. Assumes nothing.
use Rattle.walk_order.specs.Below.{Above}
use Rattle.tree_write.specs.Spine.{Spine}
use Rattle.tree_write.proofs.folder.Folder.climb.Given as goal

abbrev pub invariant-loop-k : goal.invariant-loop-k
invariant-loop-k l = Above l.self.table.nodes.now l.node l.leaf × Spine l.self.table.nodes.now l.spine
