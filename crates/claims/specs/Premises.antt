-- THE PREMISES of the claims on whole files that the grammar does not have: `Slices`, and `GoodTrailer`, the trailer's rule, which `kind/specs/Trailer.antt` says. No reader is named
-- here. Assumes nothing.
use Rattle.std.specs.Prelude.{ℕ, ◌^◌, ◌<◌, List, length, get_or}
pub use Rattle.kind.specs.Trailer.{GoodTrailer, zeros, hashed}

-- what every lent slice has: its elements are bytes, and there are fewer than 2^64 of them
pub record Slices (s ps ns : List ℕ) : Type 0 where
  pub bytes : (i : ℕ) → get_or s i 0 < 256
  pub file : length s < 2 ^ 64
  pub paths : length ps < 2 ^ 64
  pub nodes : length ns < 2 ^ 64
