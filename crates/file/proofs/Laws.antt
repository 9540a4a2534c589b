-- What a header that is one says of the file. Assumes nothing.
use Rattle.std.specs.Prelude.{◌≡◌, ℕ, ◌+◌, ◌≤◌, Bool, true, false, List, length, ltb, eqb, Err, Ok}
use Rattle.std.proofs.Common.{arith, refl}
use borrow.Author.Tests.{ltb-false}
use Rattle.laws.specs.Pick.{pick}
use Rattle.wire.specs.BigEndian.{be_at}
use Rattle.format.specs.Format.{header_size, id_size}
use Rattle.decode.specs.Header.{signature, on_version, header_at}
use Rattle.decode.specs.declared.header.Header.{Header}
use Rattle.decode.specs.declared.header.Error.TheVariants.{NoSignature, ShortFile}

-- a file whose header opens is long enough for a trailer
pub long_enough : (s : List ℕ) (h : Header) → header_at id_size s ≡ Ok h → id_size ≤ length s
unfolding header_at
long_enough s h q = by (ltb (length s) (header_size + id_size)) refl q
  where
    by : (t : Bool) → ltb (length s) (header_size + id_size) ≡ t → pick t (Err ShortFile) (pick (eqb (be_at 4 s 0) signature) (on_version (be_at 4 s 4) (be_at 4 s 8)) (Err NoSignature)) ≡ Ok h → id_size ≤ length s
    by true x y = let z : ◌≡◌ {A = ℕ} 0 1 = cc in absurd (omega arith)
    by false x y = omega (arith, ltb-false (length s) (header_size + id_size) x)
