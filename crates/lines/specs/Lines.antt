-- The lines of a listing (01, Marked pages: "Modes are six octal digits; path bytes are printed as they are", and the line of a refusal). Assumes nothing.
use Rattle.std.specs.Prelude.{ℕ, zero, suc, ◌+◌, ◌/◌, ◌%◌, Bool, true, false, ◌≡◌, refl, List, [], ◌∷◌, ◌++◌, Option, is_some, unwrap_or}
use Rattle.std.specs.Bool.{then_some}
use Rattle.laws.specs.Pick.{pick}
use Rattle.wire.specs.Written.{digits_of}
use Rattle.entry.specs.Paths.{Paths}
use Rattle.entry.specs.Record.{mode_at, id_at, stage_at, path_at}
use Rattle.show.specs.Hex.{hex}

abbrev pub newline : ℕ
newline = 10

abbrev pub space : ℕ
space = 32

abbrev pub tab : ℕ
tab = 9

-- the lowest n octal digits
unfoldable pub octal : ℕ → ℕ → List ℕ
octal zero m = []
octal (suc n) m = octal n (m / 8) ++ ((48 + m % 8) ∷ [])

-- mode, id and stage
unfoldable pub head_of : ℕ → List ℕ → ℕ → List ℕ
head_of mode id stage = octal 6 mode ++ (space ∷ []) ++ hex id ++ (space ∷ (48 + stage) ∷ tab ∷ [])

unfoldable pub line_of : ℕ → List ℕ → ℕ → List ℕ → List ℕ
line_of mode id stage path = head_of mode id stage ++ path ++ (newline ∷ [])

-- the line of record i, over the length of an id
unfoldable pub line_at : ℕ → List ℕ → Paths → ℕ → List ℕ
line_at id rs ps i = line_of (mode_at rs i) (id_at id rs i) (stage_at rs i) (path_at rs ps i)

-- the lines of the n records from record i on
unfoldable pub lines_from : ℕ → List ℕ → Paths → ℕ → ℕ → List ℕ
lines_from id rs ps zero i = []
lines_from id rs ps (suc n) i = line_at id rs ps i ++ lines_from id rs ps n (i + 1)

-- "refused "
abbrev pub refused_word : List ℕ
refused_word = 114 ∷ 101 ∷ 102 ∷ 117 ∷ 115 ∷ 101 ∷ 100 ∷ space ∷ []

-- what follows a refusal's number: the value that it carries, if any, and the line's end
unfoldable pub tail_of : Bool → ℕ → List ℕ
tail_of carries value = pick carries ((space ∷ []) ++ digits_of 10 value ++ (newline ∷ [])) (newline ∷ [])

unfoldable pub refused_text : ℕ → Bool → ℕ → List ℕ
refused_text number carries value = refused_word ++ digits_of 10 number ++ tail_of carries value

-- the same of a refusal that carries a value or none
abbrev pub tail_with : Option ℕ → List ℕ
tail_with carried = tail_of (is_some carried) (unwrap_or carried 0)

abbrev pub refused_with : ℕ → Option ℕ → List ℕ
refused_with number carried = refused_text number (is_some carried) (unwrap_or carried 0)

-- which is the same where a flag says whether the value is carried
pub refused_flag : (number value : ℕ) (carries : Bool) → refused_with number (then_some carries value) ≡ refused_text number carries value
unfolding refused_text tail_of
refused_flag number value true = refl
refused_flag number value false = refl
