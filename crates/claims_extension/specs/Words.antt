-- A signature as four bytes, in the grammar, and as one big_endian_lem number, in the reader: the two are the same (gitformat-index, "Extensions": "4-byte extension signature").
-- Assumes nothing.
use Rattle.std.specs.Prelude.{ℕ, zero, suc, ◌+◌, ◌*◌, ◌/◌, ◌≤◌, ◌<◌, ◌≡◌, refl, Bool, true, false, List, [], ◌∷◌, ltb, length, get_or, take, drop}
use Rattle.std.proofs.Common.{sym, ap, ◌∙◌, arith, take-append-drop}
use Rattle.laws.specs.Pick.{pick}
use Rattle.laws.specs.Tests.{Less, less, not_less, less?}
use Rattle.wire.specs.BigEndian.{be_at, be_left}
use Rattle.extension.specs.Signatures as reader
use Rattle.claims_entries.specs.Parts.{be_is}
use Rattle.claims_entries.specs.Rendering.{Bytes}
use Rattle.claims_entries.proofs.Fields.{bytes_left, bytes_right}
use Rattle.grammar.specs.Number.{followed_by, big_endian, BigEndian, big_endian_lem}
use Rattle.grammar.specs.Extension.{sdir, TREE}

-- ---- bytes

-- of a part of the list
pub bytes_within : (s : List ℕ) (from end : ℕ) → Bytes s → Bytes (drop from (take end s))
bytes_within s from end h =
    bytes_right (take from (take end s)) (drop from (take end s)) (rw (take-append-drop from (take end s)) (bytes_left (take end s) (drop end s) (rw (take-append-drop end s) h)))

-- of a list that is written out it is computed
unfoldable pub all_bytes : List ℕ → Bool
all_bytes [] = true
all_bytes (c ∷ b) = pick (ltb c 256) (all_bytes b) false

pub bytes_if : (s : List ℕ) → all_bytes s ≡ true → Bytes s
unfolding all_bytes
bytes_if [] e i = omega arith
bytes_if (c ∷ b) e i = go (λ h. bytes_if b h) (less? c 256) e i
  where
    go : (all_bytes b ≡ true → Bytes b) → {t : Bool} → Less c 256 t → pick t (all_bytes b) false ≡ true → Bytes (c ∷ b)
    go ih (less h) q zero = h
    go ih (less h) q (suc i) = ih q i
    go ih (not_less h) q i = cc

pub record FourBytes (b : List ℕ) : Type 0 where
  pub four : length b ≡ 4
  pub small : Bytes b

-- ---- two lists of bytes, as long as one another, that spell the same number are the same

followed_injective : (a b : List ℕ) (v w : ℕ) → Bytes a → Bytes b → length a ≡ length b → followed_by v a ≡ followed_by w b → (v ≡ w) × (a ≡ b)
followed_injective [] [] v w x y l e = (e, refl)
followed_injective [] (d ∷ b) v w x y l e = absurd (omega arith)
followed_injective (c ∷ a) [] v w x y l e = absurd (omega arith)
followed_injective (c ∷ a) (d ∷ b) v w x y l e =
    let (p, q) = followed_injective a b (v * 256 + c) (w * 256 + d) (λ i. x (suc i)) (λ i. y (suc i)) (omega arith) e in
    let k : c < 256 = x zero in
    let m : d < 256 = y zero in
    let r : c ≡ d = omega (arith, p) in
    (omega (arith, p), (λ n. r n ∷ q n))

pub big_endian_injective : (a b : List ℕ) → Bytes a → Bytes b → length a ≡ length b → big_endian a ≡ big_endian b → a ≡ b
big_endian_injective [] [] x y l e = refl
big_endian_injective [] (d ∷ b) x y l e = absurd (omega arith)
big_endian_injective (c ∷ a) [] x y l e = absurd (omega arith)
big_endian_injective (c ∷ a) (d ∷ b) x y l e =
    let (p, q) = followed_injective a b c d (λ i. x (suc i)) (λ i. y (suc i)) (omega arith) e in
    (λ n. p n ∷ q n)

pub signature_injective : {a b : List ℕ} → FourBytes a → FourBytes b → big_endian a ≡ big_endian b → a ≡ b
signature_injective {a} {b} x y e = big_endian_injective a b x.small y.small (x.four ∙ sym y.four) e

-- ---- what stands at a place of a list

-- the bytes from `end` on do not matter
pub big_endian_before : (w : ℕ) (s : List ℕ) (at end : ℕ) → at + w ≤ length (take end s) → big_endian (take w (drop at (take end s))) ≡ be_at w s at
big_endian_before w s at end h =
    be_is w (take end s) at h ∙ sym (ap (λ (l : List ℕ). be_at w l at) (sym (take-append-drop end s)) ∙ be_left w (take end s) (drop end s) at h)

pub big_endian_value : {w v : ℕ} {b : List ℕ} → BigEndian w b v → v ≡ big_endian b
big_endian_value (big_endian_lem h) = refl

-- ---- the reader's numbers are the grammar's signatures

pub first_byte_lem : {b : List ℕ} → FourBytes b → reader.first_byte (big_endian b) ≡ get_or b 0 0
first_byte_lem {b} x = go b x.four x.small
  where
    upper : (p q r t : ℕ) → q < 256 → r < 256 → t < 256 → (((p * 256 + q) * 256 + r) * 256 + t) / 16777216 ≡ p
    upper p q r t h k l = omega arith

    go : (a : List ℕ) → length a ≡ 4 → Bytes a → reader.first_byte (big_endian a) ≡ get_or a 0 0
    go [] l h = absurd (omega arith)
    go (p ∷ []) l h = absurd (omega arith)
    go (p ∷ q ∷ []) l h = absurd (omega arith)
    go (p ∷ q ∷ r ∷ []) l h = absurd (omega arith)
    go (p ∷ q ∷ r ∷ t ∷ []) l h = upper p q r t (h 1) (h 2) (h 3)
    go (p ∷ q ∷ r ∷ t ∷ u ∷ a) l h = absurd (omega arith)

pub TREE-bytes : FourBytes TREE
unfolding all_bytes
TREE-bytes = record { four = refl; small = bytes_if TREE refl }

pub sdir_bytes : FourBytes sdir
unfolding all_bytes
sdir_bytes = record { four = refl; small = bytes_if sdir refl }
