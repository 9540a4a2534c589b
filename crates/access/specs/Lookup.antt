-- Lookup by halving (01, Order and lookup): what it answers, the steps of the halving rule, and 01's number and value of each answer. Assumes nothing.
use Rattle.std.specs.Prelude.{ℕ, zero, suc, ◌+◌, ◌/◌, List, [], ◌∷◌, ltb, Err, None, Ok, Option, Result, Some}
use Rattle.laws.specs.Pick.{pick}
use Rattle.refusal.specs.Refusal.{no_stage, path_outside}
use Rattle.entry.specs.Paths.{Paths}
use Rattle.entry.specs.Record.{records_in, stage_at, lies_inside, path_at}
use Rattle.access.specs.Order.{placed}
use Rattle.access.specs.declared.Error.{Error as LookupError}
use Rattle.access.specs.declared.Error.TheVariants.{NoStage, PathOutside}
use Rattle.access.specs.declared.Found.{Found}
use Rattle.access.specs.declared.Found.TheVariants.{Absent, At}
use Rattle.std.specs.declared.cmp.Ordering.{Ordering}
use Rattle.std.specs.declared.cmp.Ordering.TheVariants.{Equal, Greater, Less}

abbrev pub highest_stage : ℕ
highest_stage = 3

-- how record i stands to the path and stage that are looked for
unfoldable pub probe_at : List ℕ → Paths → List ℕ → ℕ → ℕ → Option Ordering
probe_at rs ps key stage i = pick (lies_inside rs ps i) (Some (placed (path_at rs ps i) (stage_at rs i) key stage)) None

-- one turn: what the record in the middle m says, with `more` for what is left
abbrev pub turn : (ℕ → ℕ → Result Found LookupError) → ℕ → ℕ → ℕ → ℕ → Option Ordering → Result Found LookupError
turn more low high m k None = Err (PathOutside m)
turn more low high m k (Some Equal) = Ok (At m k)
turn more low high m k (Some Less) = more (m + 1) high
turn more low high m k (Some Greater) = more low m

-- the halving rule over a probe p: at most f turns, k records compared so far
unfoldable pub halve : (ℕ → Option Ordering) → ℕ → ℕ → ℕ → ℕ → Result Found LookupError
halve p zero low high k = Ok (Absent k)
halve p (suc f) low high k =
    pick (ltb low high)
    (turn (λ l h. halve p f l h (k + 1)) low high ((low + high) / 2) (k + 1) (p ((low + high) / 2)))
    (Ok (Absent k))

-- a table of n records needs no more than n turns
unfoldable pub search_at : List ℕ → Paths → List ℕ → ℕ → Result Found LookupError
search_at rs ps key stage = halve (probe_at rs ps key stage) (records_in rs) 0 (records_in rs) 0

unfoldable pub lookup_at : List ℕ → Paths → List ℕ → ℕ → Result Found LookupError
lookup_at rs ps key stage = pick (ltb highest_stage stage) (Err NoStage) (search_at rs ps key stage)

-- ---- the rule's own steps: how many records it compares

abbrev pub steps_after : (ℕ → ℕ → ℕ) → ℕ → ℕ → ℕ → Option Ordering → ℕ
steps_after more low high m None = 0
steps_after more low high m (Some Equal) = 0
steps_after more low high m (Some Less) = more (m + 1) high
steps_after more low high m (Some Greater) = more low m

unfoldable pub steps : (ℕ → Option Ordering) → ℕ → ℕ → ℕ → ℕ
steps p zero low high = 0
steps p (suc f) low high = pick (ltb low high) (1 + steps_after (steps p f) low high ((low + high) / 2) (p ((low + high) / 2))) 0

-- ---- 01's number of an answer, 0 where nothing is refused, and what goes with it: whether there is such a record, its index, and how many records were compared, or
-- the record whose path lies outside

abbrev pub number_of : Result Found LookupError → ℕ
number_of (Ok (At i k)) = 0
number_of (Ok (Absent k)) = 0
number_of (Err NoStage) = no_stage
number_of (Err (PathOutside i)) = path_outside

abbrev pub carried_of : Result Found LookupError → List ℕ
carried_of (Ok (At i k)) = 1 ∷ i ∷ k ∷ []
carried_of (Ok (Absent k)) = 0 ∷ 0 ∷ k ∷ []
carried_of (Err NoStage) = []
carried_of (Err (PathOutside i)) = i ∷ []
