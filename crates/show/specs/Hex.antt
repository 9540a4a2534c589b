-- Bytes in hexadecimal digits: two for each byte, the upper first, the digits above 9 in small letters. Assumes nothing.
use Rattle.std.specs.Prelude.{◌≡◌, refl, ℕ, ◌+◌, ◌*◌, ◌/◌, ◌%◌, List, [], ◌∷◌, length, ltb}
use Rattle.std.proofs.Common.{arith}
use Rattle.laws.specs.Pick.{pick}

-- the digit of the lowest four bits: '0' is 48, 'a' is 97
unfoldable pub digit : ℕ → ℕ
digit x = pick (ltb (x % 16) 10) (48 + x % 16) (87 + x % 16)

unfoldable pub hex : List ℕ → List ℕ
hex [] = []
hex (x ∷ s) = digit (x / 16) ∷ digit x ∷ hex s

pub length-hex : (s : List ℕ) → length (hex s) ≡ length s * 2
unfolding hex
length-hex [] = refl
length-hex (x ∷ s) = let h : length (hex s) ≡ length s * 2 = length-hex s in omega arith
