-- The text of an answer, and all that the listing program prints of a file (01, Marked pages: "The program reads standard input up to 65,536 bytes, with room for
-- 512 records, 65,536 path bytes and 256 nodes ... longer input only `too big`"). Assumes nothing.
use Rattle.std.specs.Prelude.{ℕ, ◌*◌, List, [], ◌∷◌, ltb, eqb, length, replicate, Err, Ok, Result, is_some, unwrap_or}
use Rattle.laws.specs.Pick.{pick}
use Rattle.kind.specs.Kind.{Kind}
use Rattle.entry.specs.Paths.{Paths, lying_in}
use Rattle.file.specs.Answer.{number_of, carries_of, value_of}
use Rattle.file.specs.Read.{Outcome, read_file}
use Rattle.lines.specs.Lines.{space, newline, lines_from, refused_text}
use Rattle.file.specs.declared.Error.{Error as FileError}
use Rattle.file.specs.declared.Error.TheVariants.{BadTrailer, Mandatory, NoEntryRoom, NoNodeRoom, NoSignature, NotFilled, NotSpelled, OtherVersion, ShortFile, TooDeep}
use Rattle.file.specs.declared.Reading.{Reading}

-- how many records were read; none by a refusal
abbrev pub records_of : Result Reading FileError → ℕ
records_of (Ok r) = r.records
records_of (Err ShortFile) = 0
records_of (Err NoSignature) = 0
records_of (Err (OtherVersion version)) = 0
records_of (Err BadTrailer) = 0
records_of (Err (NotSpelled k)) = 0
records_of (Err (NoEntryRoom k)) = 0
records_of (Err (NotFilled place)) = 0
records_of (Err (Mandatory signature)) = 0
records_of (Err TooDeep) = 0
records_of (Err NoNodeRoom) = 0

-- number 0 is a file that was read: a line for each record; any other is a refusal: one line
unfoldable pub text_of : ℕ → Result Reading FileError → List ℕ → Paths → List ℕ
text_of id a rs ps = pick (eqb (number_of a) 0) (lines_from id rs ps (records_of a) 0) (refused_text (number_of a) (carries_of a) (value_of a))

-- "too big" and a newline
abbrev pub too_big : List ℕ
too_big = 116 ∷ 111 ∷ 111 ∷ space ∷ 98 ∷ 105 ∷ 103 ∷ newline ∷ []

abbrev pub text_of_outcome : ℕ → Outcome → List ℕ
text_of_outcome id o = text_of id o.answer o.records (lying_in o.paths)

-- what the listing program prints of a file, over the kind and the depth limit of trees
unfoldable pub listed : Kind → ℕ → List ℕ → List ℕ
listed kind limit s = pick (ltb 65536 (length s)) too_big (text_of_outcome kind.id (read_file kind limit s (replicate (512 * 96) 0) (replicate 65536 0) (replicate (256 * 72) 0)))
