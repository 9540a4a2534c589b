use Rattle.tree_write.proofs.Backing.{root_walk, root_span, asked_root}
use Rattle.tree_write.proofs.Table.put_tree_ending.Goals as goal

pub invariant_of-root : goal.invariant_of-root
invariant_of-root c = record { walk = root_walk _ c.requires.shallow; span = root_span _ c.requires.shallow _ c.nodes_in.ensures }

pub put_ending-requires : goal.put_ending-requires
put_ending-requires c = asked_root _ _ _ _ c.requires.room.0 c.requires.room.1
