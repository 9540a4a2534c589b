-- `tree_write::folder::Folder::put_ending` meets its contract. The measure is the depth. The loop's invariant: the children that were taken are written up to the present place. Assumes nothing.
use Prim.Native.Nat.{◌-◌}
use Rattle.tree_write.specs.Spine.{Spine}
use Rattle.tree_write.proofs.Backing.{Backing, left_at}
use Rattle.tree_write.proofs.folder.Folder.+put_ending.Given as goal

abbrev pub decreases-put_ending : goal.decreases-put_ending
decreases-put_ending l = l.depth

abbrev pub invariant-loop-kid : goal.invariant-loop-kid
invariant-loop-kid l = Backing l.self.table.nodes.now l.self.table.names.now l.self.node (l.depth - 1) l.initial.out l.to l.runs l.out l.pos l.bound l.tails × Spine l.self.table.nodes.now l.spine

abbrev pub decreases-loop-kid : goal.decreases-loop-kid
decreases-loop-kid l = left_at l.self.table.nodes.now l.self.table.names.now l.self.node l.bound
