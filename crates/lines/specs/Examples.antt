-- Lines that compute (01, Marked pages): an entry of mode 100644, zero id, stage 0 and path "a"; refusal 5 of entry 0; refusal 1, which carries nothing. Assumes
-- nothing.
use Rattle.std.specs.Prelude.{true, false, [], ◌∷◌, ◌++◌, ◌≡◌, refl, replicate}
use Rattle.wire.specs.Written.{digits_by, digits_of}
use Rattle.show.specs.Hex.{digit, hex}
use Rattle.lines.specs.Lines.{octal, head_of, line_of, refused_word, tail_of, refused_text}

pub marked_line : line_of 33188 (replicate 20 0) 0 (97 ∷ []) ≡ (49 ∷ 48 ∷ 48 ∷ 54 ∷ 52 ∷ 52 ∷ []) ++ (32 ∷ []) ++ replicate 40 48 ++ (32 ∷ 48 ∷ 9 ∷ 97 ∷ 10 ∷ [])
unfolding line_of head_of octal hex digit
marked_line = refl

pub refused_five : refused_text 5 true 0 ≡ refused_word ++ (53 ∷ 32 ∷ 48 ∷ 10 ∷ [])
unfolding refused_text tail_of digits_of digits_by
refused_five = refl

pub refused_one : refused_text 1 false 0 ≡ refused_word ++ (49 ∷ 10 ∷ [])
unfolding refused_text tail_of digits_of digits_by
refused_one = refl
