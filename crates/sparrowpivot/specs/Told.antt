-- What a call comes to, as programs in other languages meet it: the number that is returned, eight numbers, and what the lent stores hold (01: "Extern C functions
-- on numbers and byte slices"). Assumes nothing.
use Rattle.std.specs.Prelude.{ℕ, List, [], ◌∷◌, get_or}

pub record Told : Type 0 where
  pub code : ℕ
  pub values : List ℕ
  pub stores : List (List ℕ)

abbrev pub told : ℕ → List ℕ → List (List ℕ) → Told
told c vs ss = record { code = c; values = vs; stores = ss }

-- the eight numbers in which what goes with an answer is told: those, and 0 behind them
abbrev pub eight : List ℕ → List ℕ
eight vs = get_or vs 0 0 ∷ get_or vs 1 0 ∷ get_or vs 2 0 ∷ get_or vs 3 0 ∷ get_or vs 4 0 ∷ get_or vs 5 0 ∷ get_or vs 6 0 ∷ get_or vs 7 0 ∷ []
