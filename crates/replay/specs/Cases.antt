-- The cases of a list, each with its length in two bytes before it, the high byte first. Assumes nothing.
use Rattle.std.specs.Prelude.{ℕ, ◌≡◌, ◌+◌, ◌<◌, List, length, take, drop, Option, MatchOption}
use denote.Bor.{Bor}
use Rattle.std.specs.Int.{from_be_bytes, w16}

-- how long the first case is
abbrev pub first_size : List ℕ → ℕ
first_size xs = from_be_bytes w16 (take 2 xs)

-- of the list xs comes its first case, and ys is what stands behind that; none comes where it is cut short
abbrev pub GivesFirst : List ℕ → Option (Bor (List ℕ)) → List ℕ → Type 0
GivesFirst xs r ys = MatchOption r (length xs < 2 + first_size xs) (λ x. (x.now ≡ take (first_size xs) (drop 2 xs)) × (ys ≡ drop (2 + first_size xs) xs))
