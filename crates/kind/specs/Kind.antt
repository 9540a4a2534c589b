-- WHAT A KIND IS (gitformat-index: ids, the trailer and EOIE's hash are of the repository's hash function; 01 takes SHA-1, and 02, A9, asks for a second). Definitions
-- and claims that need a hash are over a kind; those that need an id's length alone are over that number. Assumes nothing.
use Rattle.std.specs.Prelude.{ℕ, ◌≤◌, ◌≡◌, List, length}
use Rattle.format.specs.Format.{id_room}

pub record Kind : Type 0 where
  -- how many bytes an id has, and the hash
  pub id : ℕ
  pub hash : List ℕ → List ℕ
  -- the hash answers ids
  pub answers : (s : List ℕ) → length (hash s) ≡ id
  -- and a record and a node have room for one
  pub fits : id ≤ id_room
