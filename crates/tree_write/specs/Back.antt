-- A node and what is below it, put so that it ends at a place (01, Writing): what is asked of the call, and what it tells. Assumes nothing.
use Rattle.std.specs.Prelude.{◌≡◌, List, ℕ, ◌+◌, ◌≤◌, length}
use Rattle.laws.specs.Put.{put}
use Rattle.format.specs.Format.{id_size}
use Rattle.tree_write.specs.declared.spine.Rung.{Rung}
use Rattle.tree_write.specs.Tree.{node_bytes}
use Rattle.tree_write.specs.Spine.{Spine}

-- its bytes fit before the place, and the spine has room for what is below it
pub record Asked (ns nm : List ℕ) (me depth : ℕ) (out : List ℕ) (to : ℕ) (spine : List Rung) : Type 0 where
  pub room : length (node_bytes id_size ns nm depth me) ≤ to
  pub inside : to ≤ length out
  pub levels : depth ≤ length spine
  pub kept : Spine ns spine

-- the bytes stand before the place, from `at` on
pub record Filed (bytes out : List ℕ) (to : ℕ) (new : List ℕ) (at : ℕ) : Type 0 where
  pub start : at + length bytes ≡ to
  pub run : new ≡ put out at bytes
