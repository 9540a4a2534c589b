-- Laws of the text of an answer and of a file, turned the way that the needs ask. Assumes nothing.
use mathlib.Core.Path.{◌≡◌, refl, sym, ap, ◌∙◌}
use mathlib.Core.Bool.{Bool}
use mathlib.Core.List.{List}
use Prim.Native.Nat.{ℕ, ◌≤◌, ◌<◌}
use native.Mathlib.Omega.{arith}
use Rattle.std.specs.Prelude.{Option, Err}
use lib.ListN.{length, drop, replicate}
use lib.Seq.{paste}
use borrow.Author.Tests.{lt-ltb, le-ltb}
use Rattle.format.specs.Format.{depth_limit, id_size}
use Rattle.lines.specs.Lines.{lines_from, refused_with}
use Rattle.sums.specs.Cap.{cap_fits}
use Rattle.kind.specs.Sha1.{sha1_kind}
use Rattle.entry.specs.Paths.{Paths, lying_in}
use Rattle.lines.specs.Written.{Outcome, outcome, written, copied, text_short, text_written}
use Rattle.file.specs.Answer.{number_of, value_carried}
use Rattle.file.specs.Read as read
use Rattle.list_text.specs.Listed.{text_of, too_big, text_of_outcome, listed}
use Rattle.std.specs.Prelude.{Ok, Result}
use Rattle.file.specs.declared.Error.TheVariants.{ShortFile, NoSignature, OtherVersion, BadTrailer, NotSpelled, NoEntryRoom, NotFilled, Mandatory, TooDeep, NoNodeRoom}
use Rattle.file.specs.declared.Error.{Error as FileError}
use Rattle.file.specs.declared.Reading.{Reading}

-- the line of a refusal is its text
refused_is : (a : FileError) (rs : List ℕ) (ps : Paths) → refused_with (number_of (Err a)) (value_carried (Err a)) ≡ text_of id_size (Err a) rs ps
unfolding text_of
refused_is ShortFile rs ps = refl
refused_is NoSignature rs ps = refl
refused_is (OtherVersion version) rs ps = refl
refused_is BadTrailer rs ps = refl
refused_is (NotSpelled k) rs ps = refl
refused_is (NoEntryRoom k) rs ps = refl
refused_is (NotFilled place) rs ps = refl
refused_is (Mandatory signature) rs ps = refl
refused_is TooDeep rs ps = refl
refused_is NoNodeRoom rs ps = refl

module _ (a : Result Reading FileError) (rs : List ℕ) (ps : Paths) (out : List ℕ) (o : Outcome) where
  pub answer_read : (r : Reading) → a ≡ Ok r → o ≡ written (lines_from id_size rs ps r.records 0) out → o ≡ written (text_of id_size a rs ps) out
  unfolding text_of
  answer_read r q e = e ∙ sym (rw q)

  pub answer_refused : (f : FileError) → a ≡ Err f → (number : ℕ) (carried : Option ℕ) → number ≡ number_of a → carried ≡ value_carried a
      → o ≡ written (refused_with number carried) out → o ≡ written (text_of id_size a rs ps) out
  answer_refused f q number carried en ec e =
      let line : refused_with number carried ≡ refused_with (number_of (Err f)) (value_carried (Err f)) = (λ j. refused_with (en' j) (ec' j)) in
      e ∙ ap (λ (t : List ℕ). written t out) (line ∙ refused_is f rs ps) ∙ sym (ap (λ (x : Result Reading FileError). written (text_of id_size x rs ps) out) q)
    where
      en' : number ≡ number_of (Err f)
      en' = en ∙ ap number_of q

      ec' : carried ≡ value_carried (Err f)
      ec' = ec ∙ ap value_carried q

module _ (s out : List ℕ) (o : Outcome) where
  pub listed_big : 65536 < length s → o ≡ written too_big out → o ≡ written (listed sha1_kind depth_limit s) out
  unfolding listed
  listed_big h e = e ∙ sym (rw (lt-ltb 65536 (length s) h))

  pub listed_read : length s ≤ 65536 → (a : Result Reading FileError) (rs ps ns : List ℕ) → read.outcome a rs ps ns ≡ read.read_file sha1_kind depth_limit s (replicate 49152 0) (replicate 65536 0) (replicate 18432 0)
      → o ≡ written (text_of id_size a rs (lying_in ps)) out → o ≡ written (listed sha1_kind depth_limit s) out
  unfolding listed
  listed_read h a rs ps ns er e = e ∙ ap (λ (q : read.Outcome). written (text_of_outcome id_size q) out) er ∙ sym (rw (le-ltb 65536 (length s) h))

pub too_short : (out : List ℕ) → length out < 8 → outcome 8 out ≡ written too_big out
too_short out h = text_short too_big out 8 (sym (cap_fits 8 (omega arith))) h

pub too_written : (out out₁ : List ℕ) → 8 ≤ length out → length out < 18446744073709551615 → out₁ ≡ paste out 0 (drop 0 too_big) 8 → outcome 8 out₁ ≡ written too_big out
too_written out out₁ h k e = text_written too_big out 8 (sym (cap_fits 8 (omega arith))) h k out₁ (copied out out₁ too_big 0 8 e refl)

pub ruleset laws = (answer_read, answer_refused, listed_big, listed_read, too_short, too_written)
