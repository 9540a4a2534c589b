-- The space behind the entries (01, "Extensions": "They fill the space from the last entry to the last 20 bytes exactly"; 02, A4) and rows 7 and 8 of "When the desk says
-- no". Assumes nothing.
use Rattle.std.specs.Prelude.{ℕ, Bool, true, false, List, [], ◌∷◌, ltb, leb, eqb, Err, None, Ok, Option, Result, Some}
use Rattle.laws.specs.Pick.{pick}
use Rattle.wire.specs.Places.{file_at}
use Rattle.wire.specs.declared.FileAt.{FileAt}
use Rattle.refusal.specs.Refusal as refusal
use Rattle.extension.specs.Signatures.{TREE, sdir, first_byte}
use Rattle.extension.specs.Iter.{Found, Ending, filled, stray, Run, run_at, of_signature, last_where}
use Rattle.extension.specs.declared.decode.Bodies.{Bodies}
use Rattle.extension.specs.Made.{body_between, filled_by}
use Rattle.extension.specs.declared.decode.Error.{Error as SpaceError}
use Rattle.extension.specs.declared.decode.Error.TheVariants.{Mandatory, NotFilled}
use Rattle.extension.specs.declared.decode.Filled.{Filled}
use Rattle.extension.specs.declared.iter.Body.{Body}

-- an extension is optional when its signature's first byte lies in 65 to 90, and else mandatory
abbrev pub optional : ℕ → Bool
optional first = pick (leb 65 first) (leb first 90) false

abbrev pub mandatory : ℕ → Bool
mandatory first = pick (optional first) false true

-- what makes a reader stop: a mandatory extension that is no empty `sdir`
unfoldable pub forbidden : ℕ → ℕ → ℕ → Bool
forbidden signature start stop = pick (mandatory (first_byte signature)) (pick (eqb signature sdir) (ltb start stop) true) false

abbrev pub is_forbidden : Found → Bool
is_forbidden f = forbidden f.signature f.start.0 f.stop.0

-- the mark after one more extension
abbrev pub marks : ℕ → Bool → Bool
marks signature sparse = pick (eqb signature sdir) true sparse

-- the last body of the wanted signature after one more extension
abbrev pub latest : ℕ → ℕ → FileAt → FileAt → Option Body → Option Body
latest wanted signature start stop last = pick (eqb signature wanted) (Some (body_between start stop)) last

-- the bodies that the reader goes into, each the last of its signature: before all extensions, after one more, and after a list of them. A further signature is a further field
abbrev pub no_bodies : Bodies
no_bodies = record { tree = None }

abbrev pub latest_of : ℕ → FileAt → FileAt → Bodies → Bodies
latest_of signature start stop last = record { tree = latest TREE signature start stop last.tree }

abbrev pub bodies_in : Bodies → List Found → Bodies
bodies_in last fs = record { tree = last_where (of_signature TREE) last.tree fs }

-- whether an `sdir` is among the extensions, or the index was marked before
unfoldable pub sparse_in : Bool → List Found → Bool
sparse_in sparse [] = sparse
sparse_in sparse (f ∷ fs) = sparse_in (marks f.signature sparse) fs

-- the first fault in file order; where there is none, what is given
unfoldable pub judged : List Found → Ending → Result Filled SpaceError → Result Filled SpaceError
judged [] filled good = good
judged [] (stray place) good = Err (NotFilled (file_at place))
judged (f ∷ fs) ending good = pick (is_forbidden f) (Err (Mandatory f.signature)) (judged fs ending good)

-- what a run comes to, after a mark and bodies that were met before it
abbrev pub all_from : Bool → Bodies → Run → Result Filled SpaceError
all_from sparse last r = judged r.items r.ending (Ok (filled_by (sparse_in sparse r.items) (bodies_in last r.items)))

-- the space from `from` up to `end`: the first fault, or the mark and the bodies that the reader goes into
unfoldable pub all_at : List ℕ → ℕ → ℕ → Result Filled SpaceError
all_at s from end = all_from false no_bodies (run_at s from end)

-- 01's number of an answer, 0 where nothing is refused, and what a refusal carries
abbrev pub number_of : Result Filled SpaceError → ℕ
number_of (Ok f) = 0
number_of (Err (NotFilled place)) = refusal.not_filled
number_of (Err (Mandatory signature)) = refusal.mandatory

abbrev pub carried_of : Result Filled SpaceError → List ℕ
carried_of (Ok f) = []
carried_of (Err (NotFilled place)) = place.0 ∷ []
carried_of (Err (Mandatory signature)) = signature ∷ []
