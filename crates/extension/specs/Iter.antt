-- Extensions one behind the other in a part of the file (01, "Modules in port order" 1: "an extension is a 4-byte signature, a big-endian 32-bit size, then that many
-- bytes"): what stands at a place, and all that are found from a place on, with how the run ends. Assumes nothing.
use Rattle.std.specs.Prelude.{ℕ, zero, suc, ◌+◌, ◌-◌, Bool, List, [], ◌∷◌, length, ltb, eqb, Err, None, Ok, Option, Result, Some}
use Rattle.laws.specs.Pick.{pick}
use Rattle.wire.specs.BigEndian.{be_at}
use Rattle.wire.specs.Places.{file_at}
use Rattle.wire.specs.declared.FileAt.{FileAt}
use Rattle.format.specs.Format.{extension_header_size}
use Rattle.extension.specs.declared.iter.Cursor.{Cursor}
use Rattle.extension.specs.Made.{body_between, broken, extension_between}
use Rattle.extension.specs.declared.iter.Body.{Body}
use Rattle.extension.specs.declared.iter.Broken.{Broken}
use Rattle.extension.specs.declared.iter.Extension.{Extension}

abbrev pub cursor : ℕ → ℕ → Cursor
cursor at end = record { at = file_at at; end = file_at end }

-- an extension of a signature and a size whose header begins at a place
abbrev pub extension_at : ℕ → ℕ → ℕ → ℕ → Result (Option Extension) Broken
extension_at at end signature size = Ok (Some (extension_between signature (file_at (at + extension_header_size)) (file_at (at + extension_header_size + size)) (cursor (at + extension_header_size + size) end)))

-- what stands at `at`, in a part of the file that ends at `end`. Where the end lies beyond the file, or before the place, that is no extension
unfoldable pub step_at : List ℕ → ℕ → ℕ → Result (Option Extension) Broken
step_at s at end =
    pick (ltb (length s) end) (Err broken)
    (pick (ltb end at) (Err broken)
    (pick (eqb at end) (Ok None)
    (pick (ltb (end - at) extension_header_size) (Err broken)
    (pick (ltb (end - at - extension_header_size) (be_at 4 s (at + 4))) (Err broken)
    (extension_at at end (be_at 4 s at) (be_at 4 s (at + 4)))))))

-- ---- a run of extensions

-- an extension that was found: its signature, where its header begins, and where its body starts and stops
pub record Found : Type 0 where
  pub signature : ℕ
  pub place : ℕ
  pub start : FileAt
  pub stop : FileAt

-- how a run ends: the part of the file is used up, or no extension stands at a place
pub data Ending : Type 0 where
  filled : Ending
  stray : ℕ → Ending

pub record Run : Type 0 where
  pub items : List Found
  pub ending : Ending

abbrev pub ended : Ending → Run
ended e = record { items = []; ending = e }

abbrev pub cons : Found → Run → Run
cons f r = record { items = f ∷ r.items; ending = r.ending }

abbrev pub on_step : {A : Type 0} → Result (Option Extension) Broken → A → A → (ℕ → FileAt → FileAt → A) → A
on_step (Ok (Some e)) done broken more = more e.signature e.body.start e.body.stop
on_step (Ok None) done broken more = done
on_step (Err _) done broken more = broken

-- the extensions from `at` on, by fuel: no more of them than bytes
unfoldable pub run_by : ℕ → List ℕ → ℕ → ℕ → Run
run_by zero s at end = ended (stray at)
run_by (suc n) s at end =
    on_step (step_at s at end) (ended filled) (ended (stray at))
    (λ signature start stop. cons (record { signature = signature; place = at; start = start; stop = stop }) (run_by n s stop.0 end))

unfoldable pub run_at : List ℕ → ℕ → ℕ → Run
run_at s at end = run_by (suc (end - at)) s at end

-- ---- the first and the last of some kind

abbrev pub body_of : Found → Option Body
body_of f = Some (body_between f.start f.stop)

abbrev pub on_body : {A : Type 0} → Option Body → A → (ℕ → ℕ → A) → A
on_body (Some b) none some = some b.start.0 b.stop.0
on_body None none some = none

abbrev pub of_signature : ℕ → Found → Bool
of_signature wanted f = eqb f.signature wanted

-- the last of some kind, or what was the last before
unfoldable pub last_where : (Found → Bool) → Option Body → List Found → Option Body
last_where p b [] = b
last_where p b (f ∷ fs) = last_where p (pick (p f) (body_of f) b) fs

unfoldable pub first_where : (Found → Bool) → List Found → Option Body
first_where p [] = None
first_where p (f ∷ fs) = pick (p f) (body_of f) (first_where p fs)

-- the last extension of a signature
abbrev pub last_of : ℕ → List Found → Option Body
last_of wanted fs = last_where (of_signature wanted) None fs

-- the first extension of a signature that a walk finds, which stops where none stands
unfoldable pub first_at : List ℕ → ℕ → ℕ → ℕ → Option Body
first_at s from end wanted = first_where (of_signature wanted) (run_at s from end).items
