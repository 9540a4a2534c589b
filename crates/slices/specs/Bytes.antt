-- What the contracts of `src/` cite: whether two byte lists are equal, and the first NUL of a part. Assumes nothing.
use Rattle.std.specs.Prelude.{ℕ, zero, suc, ◌+◌, ◌-◌, Bool, true, false, List, [], ◌∷◌, drop, eqb, None, Option, Some}
use Rattle.laws.specs.Pick.{pick}

unfoldable pub same_bytes : List ℕ → List ℕ → Bool
same_bytes [] [] = true
same_bytes [] (y ∷ ys) = false
same_bytes (x ∷ xs) [] = false
same_bytes (x ∷ xs) (y ∷ ys) = pick (eqb x y) (same_bytes xs ys) false

-- the first NUL among the first f bytes of l, the first of which is byte i of the file
unfoldable pub nul_in : ℕ → List ℕ → ℕ → Option ℕ
nul_in zero l i = None
nul_in (suc f) [] i = None
nul_in (suc f) (c ∷ l) i = pick (eqb c 0) (Some i) (nul_in f l (i + 1))

unfoldable pub nul_at : List ℕ → ℕ → ℕ → Option ℕ
nul_at s at end = nul_in (end - at) (drop at s) at
