-- The rightmost ways down a table in walk order, of which one node a level is kept, so that a last child is found with no climb of its own. Assumes nothing.
use Rattle.std.specs.Prelude.{List, ℕ, get_or}
use Rattle.walk_order.specs.Below.{Above}
use Rattle.tree_write.specs.declared.spine.Rung.{Rung}

abbrev pub root : Rung
root = record { node = 0; leaf = 0 }

-- each node that is kept is the leaf beside it, or stands above it
pub record Spine (ns : List ℕ) (spine : List Rung) : Type 0 where
  pub up : (i : ℕ) → Above ns (get_or spine i root).node (get_or spine i root).leaf
