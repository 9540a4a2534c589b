-- The order check (01, Order and lookup, and "Order check: at each record 12, then 13"): what it answers, and 01's number and value of each answer. Assumes nothing.
use Rattle.std.specs.Prelude.{ℕ, zero, suc, ◌+◌, ◌-◌, Bool, true, false, List, [], ◌∷◌, eqb, Err, Ok, Result, ⊤}
use Rattle.laws.specs.Pick.{pick}
use Rattle.refusal.specs.Refusal.{path_outside, not_after}
use Rattle.entry.specs.Paths.{Paths}
use Rattle.entry.specs.Record.{records_in, stage_at, lies_inside, path_at}
use Rattle.access.specs.Order.{placed}
use Rattle.access.specs.declared.verify.Error.{Error as VerifyError}
use Rattle.access.specs.declared.verify.Error.TheVariants.{NotAfter, PathOutside}
use Rattle.std.specs.declared.cmp.Ordering.{Ordering}
use Rattle.std.specs.declared.cmp.Ordering.TheVariants.{Equal, Greater, Less}

abbrev pub is_less : Ordering → Bool
is_less Less = true
is_less Equal = false
is_less Greater = false

-- whether record i is strictly after the one before; the first one is
unfoldable pub follows_at : List ℕ → Paths → ℕ → Bool
follows_at rs ps i = pick (eqb i 0) true (is_less (placed (path_at rs ps (i - 1)) (stage_at rs (i - 1)) (path_at rs ps i) (stage_at rs i)))

-- f records, from record i on
unfoldable pub verify_from : List ℕ → Paths → ℕ → ℕ → Result ⊤ VerifyError
verify_from rs ps zero i = Ok tt
verify_from rs ps (suc f) i = pick (lies_inside rs ps i) (pick (follows_at rs ps i) (verify_from rs ps f (i + 1)) (Err (NotAfter i))) (Err (PathOutside i))

unfoldable pub verify_at : List ℕ → Paths → Result ⊤ VerifyError
verify_at rs ps = verify_from rs ps (records_in rs) 0

-- 01's number of an answer, 0 where nothing is refused, and the record that a refusal carries
abbrev pub number_of : Result ⊤ VerifyError → ℕ
number_of (Ok _) = 0
number_of (Err (PathOutside i)) = path_outside
number_of (Err (NotAfter i)) = not_after

abbrev pub carried_of : Result ⊤ VerifyError → List ℕ
carried_of (Ok _) = []
carried_of (Err (PathOutside i)) = i ∷ []
carried_of (Err (NotAfter i)) = i ∷ []
