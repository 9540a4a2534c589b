-- Laws of the definitions of wire in the directions that proofs ask: the library's bytes of a number, turns of the loops, and where a number ends. Assumes nothing.
use mathlib.Core.Path.{◌≡◌, refl, sym, ap, ◌∙◌}
use mathlib.Core.Bool.{true, false}
use mathlib.Core.List.{List, [], ◌∷◌, ◌++◌, append_assoc, append-nil}
use Prim.Native.Nat.{ℕ, zero, suc, ◌+◌, ◌-◌, ◌*◌, ◌/◌, ◌%◌, ◌^◌, ◌≤◌, ◌<◌}
use native.Mathlib.Nat.{pow-succ', div-div-eq-div-mul, le_trans, mul-le-mul_right, div-mul-le_self, div-lt_iff_lt-mul}
use native.Mathlib.Numerals.{add-one}
use native.Mathlib.Omega.{arith}
use lib.ListN.{length, get_or, set, drop}
use lib.Seq.{paste, sets-eq}
use Rattle.std.specs.Prelude.{Bool, Option, None, MatchOption, ltb}
use Rattle.std.specs.Bool.{then_some}
use borrow.Author.Tests.{ltb-true, ltb-false, lt-ltb, le-ltb, le-leb, lt-leb, eq-eqb, ne_eqb}
use Rattle.std.proofs.Common.{⊎_elim}
use Rattle.laws.specs.Lists.{drop-next}
use Rattle.laws.specs.Tests.{lt_or_ge}
use Rattle.std.proofs.lemmas.Slice.{put_mid-paste}
use Rattle.std.specs.Int.{byte_at, bytes_high_first}
use borrow.Rule.Slice.PartMut.{put_mid}
use Rattle.laws.specs.Paste.{set-four, paste_then}
use Rattle.laws.specs.Put.{put, put_put, length-put, set-put}
use Rattle.wire.specs.BigEndian.{bytes_of, length-bytes}
use Rattle.wire.specs.Groups.{groups_in, groups_end}
use Rattle.wire.specs.Written.{digits_of, digits_one, digits_more, size_one, size_more}
use Rattle.wire.specs.Digits.{is_digit, grown, on_grown, digits_in, unsigned_at, plain, negated, signed_at}
use Rattle.std.specs.Prelude.{Err, None, Ok, Option, Result, Some}
use Rattle.wire.specs.declared.NumberError.{NumberError}
use Rattle.wire.specs.declared.NumberError.TheVariants.{Cut, Over}
use Rattle.wire.specs.declared.Signed.{Signed}
use Rattle.wire.specs.declared.Signed.TheVariants.{Negative, Plain}

-- ---- big-endian: the library's bytes of a number are those of the definition

byte_up : (i x : ℕ) → byte_at (suc i) x ≡ byte_at i (x / 256)
byte_up zero x = refl
byte_up (suc i) x = ap (λ (k : ℕ). k % 256) (ap (λ (k : ℕ). x / k) (pow-succ' 256 (suc i)) ∙ sym (div-div-eq-div-mul x 256 (256 ^ suc i)))

lowest_last : (w x : ℕ) → bytes_high_first (suc w) x ≡ bytes_high_first w (x / 256) ++ (x % 256 ∷ [])
lowest_last zero x = refl
lowest_last (suc w) x = rw (byte_up w x) (ap (λ (l : List ℕ). byte_at w (x / 256) ∷ l) (lowest_last w x))

high_first : (w x : ℕ) → bytes_high_first w x ≡ bytes_of w x
unfolding bytes_of
high_first zero x = refl
high_first (suc w) x = lowest_last w x ∙ ap (λ (l : List ℕ). l ++ (x % 256 ∷ [])) (high_first w (x / 256))

pub put_is : (w : ℕ) (d : List ℕ) (at x k : ℕ) (bs : List ℕ) → w ≡ k → bs ≡ bytes_high_first w x → put_mid at k d bs ≡ paste d at (bytes_of w x) w
put_is w d at x k bs e f = put_mid-paste at k d bs (bytes_of w x) w (f ∙ high_first w x) e (sym (length-bytes w x))

-- a number's bytes are those of its upper part and, behind them, those of the lower
pub bytes_join : (w v x : ℕ) → bytes_of (w + v) x ≡ bytes_of w (x / 256 ^ v) ++ bytes_of v x
unfolding bytes_of
bytes_join w zero x = let e : w + 0 ≡ w = omega arith in let q : x / 256 ^ 0 ≡ x = omega arith in rw (e, q, append-nil)
bytes_join w (suc v) x =
    let e : w + suc v ≡ suc (w + v) = omega arith in
    let q : x / 256 ^ suc v ≡ x / 256 / 256 ^ v = ap (λ (k : ℕ). x / k) (pow-succ' 256 v) ∙ sym (div-div-eq-div-mul x 256 (256 ^ v)) in
    rw (e, q, bytes_join w v (x / 256), append_assoc)

-- bytes that are set one by one are the bytes of the number
pub put16_is : (d : List ℕ) (i a b x : ℕ) → a ≡ x / 256 % 256 → b ≡ x % 256 → i + 2 ≤ length d → set (set d i a) (i + 1) b ≡ paste d i (bytes_of 2 x) 2
unfolding bytes_of
put16_is d i a b x ea eb h =
    let p : i + 1 ≡ suc i = add-one i in
    rw (ea, eb, p) (sets-eq (x / 256 % 256 ∷ x % 256 ∷ []) d i h)

pub put32_is : (s : List ℕ) (i a b c e x : ℕ) → a ≡ x / 256 / 256 / 256 % 256 → b ≡ x / 256 / 256 % 256 → c ≡ x / 256 % 256 → e ≡ x % 256 → i + 4 ≤ length s
    → set (set (set (set s i a) (i + 1) b) (i + 2) c) (i + 3) e ≡ paste s i (bytes_of 4 x) 4
unfolding bytes_of
put32_is s i a b c e x ea eb ec ee h = rw (ea, eb, ec, ee) (set-four s i (x / 256 / 256 / 256 % 256) (x / 256 / 256 % 256) (x / 256 % 256) (x % 256) h)

-- the bytes of a number of 32 bits are those of its remainder
low_bytes : (x : ℕ) → bytes_of 4 (x % 4294967296) ≡ bytes_of 4 x
unfolding bytes_of
low_bytes x =
    let a : x % 4294967296 / 256 / 256 / 256 % 256 ≡ x / 256 / 256 / 256 % 256 = omega arith in
    let b : x % 4294967296 / 256 / 256 % 256 ≡ x / 256 / 256 % 256 = omega arith in
    let c : x % 4294967296 / 256 % 256 ≡ x / 256 % 256 = omega arith in
    let d : x % 4294967296 % 256 ≡ x % 256 = omega arith in
    rw (a, b, c, d)

-- the two halves of a number, one behind the other
pub put64_is : (s s₁ s₂ : List ℕ) (i x : ℕ) → s₁ ≡ paste s i (bytes_of 4 (x / 4294967296)) 4 → s₂ ≡ paste s₁ (i + 4) (bytes_of 4 (x % 4294967296)) 4 → i + 8 ≤ length s → s₂ ≡ paste s i (bytes_of 8 x) 8
put64_is s s₁ s₂ i x e f h =
    let g : s₂ ≡ paste s₁ (i + 4) (bytes_of 4 x) 4 = f ∙ ap (λ (l : List ℕ). paste s₁ (i + 4) l 4) (low_bytes x) in
    paste_then s s₁ s₂ i (i + 4) (bytes_of 4 (x / 4294967296)) (bytes_of 4 x) 4 4 8 e g refl refl (length-bytes 4 (x / 4294967296)) (omega (arith, length-bytes 4 x)) h
    ∙ ap (λ (l : List ℕ). paste s i l 8) (sym (bytes_join 4 4 x))

-- ---- groups: what is left of a number, from the present state, answers r

module _ (s : List ℕ) (i end a : ℕ) (r : Result (ℕ × ℕ) NumberError) (inv : groups_in (end - i) (drop i s) i a ≡ r) where
  pub groups_cut : end ≤ i → Err (Cut a) ≡ r
  unfolding groups_in
  groups_cut h = let z : end - i ≡ 0 = omega arith in sym (rw z) ∙ inv

  module _ (c : ℕ) (same : c ≡ get_or s i 0) (h : i < end) (k : end ≤ length s) where
    group : drop i s ≡ c ∷ drop (i + 1) s
    group = drop-next s i (omega arith) ∙ ap (λ (x : ℕ). x ∷ drop (i + 1) s) (sym same)

    groups_left : end - i ≡ suc (end - (i + 1))
    groups_left = omega arith

    pub groups_last : c < 128 → Ok (a * 128 + c % 128, i + 1) ≡ r
    groups_last m = sym (groups_end s i end a c same h k m) ∙ inv

    pub groups_more : 128 ≤ c → a * 128 + c % 128 ≤ 144115188075855870 → groups_in (end - (i + 1)) (drop (i + 1) s) (i + 1) (a * 128 + c % 128 + 1) ≡ r
    unfolding groups_in
    groups_more m n = sym (rw (groups_left, group, le-ltb c 128 m, lt-ltb (a * 128 + c % 128) (2 ^ 57 - 1) (omega arith))) ∙ inv

    pub groups_over : 128 ≤ c → 144115188075855870 < a * 128 + c % 128 → Err Over ≡ r
    unfolding groups_in
    groups_over m n = sym (rw (groups_left, group, le-ltb c 128 m, le-ltb (a * 128 + c % 128) (2 ^ 57 - 1) (omega arith))) ∙ inv

-- ---- digits

digit_under : (base x : ℕ) → x < 48 → is_digit base x ≡ false
unfolding is_digit
digit_under base x h = rw (lt-ltb x 48 h)

digit_over : (base x : ℕ) → 48 ≤ x → base ≤ x - 48 → is_digit base x ≡ false
unfolding is_digit
digit_over base x h k = rw (le-ltb x 48 h, le-ltb (x - 48) base k)

digit_is : (base x : ℕ) → 48 ≤ x → x - 48 < base → is_digit base x ≡ true
unfolding is_digit
digit_is base x h k = rw (le-ltb x 48 h, lt-ltb (x - 48) base k)

-- base 0 has no digit
pub base_above : (base x : ℕ) → is_digit base x ≡ true → 0 < base
base_above base x e =
    ⊎_elim (λ l. l)
    (λ z. ⊎_elim (λ l. let f = digit_under base x l in let n : ◌≡◌ {A = ℕ} 0 1 = cc in absurd (omega arith))
    (λ g. let f = digit_over base x g (omega arith) in let n : ◌≡◌ {A = ℕ} 0 1 = cc in absurd (omega arith)) (lt_or_ge x 48))
    (lt_or_ge 0 base)

-- what the code tells of a byte
abbrev Told : ℕ → ℕ → Option ℕ → Type 0
Told base x r = MatchOption r (is_digit base x ≡ false) (λ d. (is_digit base x ≡ true) × (d ≡ x - 48))

pub digit_none : (base x : ℕ) (r : Option ℕ) → x < 48 → r ≡ None → Told base x r
digit_none base x r h e = rw e (digit_under base x h)

pub digit_some : (base x d : ℕ) (r : Option ℕ) → 48 ≤ x → d ≡ x - 48 → r ≡ then_some (ltb d base) d → Told base x r
digit_some base x d r h e = by (ltb d base) refl
  where
    by : (t : Bool) → ltb d base ≡ t → r ≡ then_some t d → Told base x r
    by true q p = rw p (digit_is base x h (omega (arith, ltb-true d base q)), e)
    by false q p = rw p (digit_over base x h (omega (arith, ltb-false d base q)))

-- the largest value that may still be multiplied
below_largest : (v base most : ℕ) → v ≤ most / base → v * base ≤ most
below_largest v base most h = le_trans (mul-le-mul_right base h) (div-mul-le_self most base)

above_largest : (v base most : ℕ) → 0 < base → most / base < v → most < v * base
above_largest v base most b h = (div-lt_iff_lt-mul b).0 h

module _ (v digit base most largest : ℕ) (pos : 0 < base) (q : largest ≡ most / base) where
  pub grow_over : largest < v → None ≡ grown v digit base most
  unfolding grown
  grow_over h = sym (rw (lt-leb (v * base + digit) most (omega (arith, above_largest v base most pos (omega arith)))))

  module _ (h : v ≤ largest) where
    most_of : v * base ≤ most
    most_of = below_largest v base most (omega arith)

    pub grow_under : v * base ≤ most
    grow_under = most_of

    pub grow_large : (p : ℕ) → p ≡ v * base → most - p < digit → None ≡ grown v digit base most
    unfolding grown
    grow_large p e k = sym (rw (lt-leb (v * base + digit) most (omega (arith, most_of))))

    pub grow_to : (p : ℕ) → p ≡ v * base → digit ≤ most - p → Some (p + digit) ≡ grown v digit base most
    unfolding grown
    grow_to p e k = rw e (sym (rw (le-leb (v * base + digit) most (omega (arith, most_of)))))

-- what is left of the digits, from the present state, answers r. The byte x is the one at i
module _ (base most : ℕ) (s : List ℕ) (i end v : ℕ) (r : Option (ℕ × ℕ)) (inv : digits_in base most (end - i) (drop i s) i v ≡ r) where
  pub digits_end : end ≤ i → i ≤ end → Some (v, end) ≡ r
  unfolding digits_in
  digits_end h k = let z : end - i ≡ 0 = omega arith in let e : end ≡ i = omega arith in sym (rw (z, e)) ∙ inv

  module _ (h : i < end) (k : end ≤ length s) where
    digits_left : end - i ≡ suc (end - (i + 1))
    digits_left = omega arith

    pub digits_other : is_digit base (get_or s i 0) ≡ false → Some (v, i) ≡ r
    unfolding digits_in
    digits_other m = sym (rw (digits_left, drop-next s i (omega arith), m)) ∙ inv

    module _ (m : is_digit base (get_or s i 0) ≡ true) (d : ℕ) (e : d ≡ get_or s i 0 - 48) (g : Option ℕ) (y : g ≡ grown v d base most) where
      opened : digits_in base most (end - i) (drop i s) i v ≡ on_grown g None (λ w. digits_in base most (end - (i + 1)) (drop (i + 1) s) (i + 1) w)
      unfolding digits_in
      opened = rw (digits_left, drop-next s i (omega arith), m, y, e)

      pub digits_large : g ≡ None → None ≡ r
      digits_large p = sym (opened ∙ rw p) ∙ inv

      pub digits_next : (w : ℕ) → g ≡ Some w → digits_in base most (end - (i + 1)) (drop (i + 1) s) (i + 1) w ≡ r
      digits_next w p = sym (opened ∙ rw p) ∙ inv

-- the first digit
module _ (base most : ℕ) (s : List ℕ) (i end : ℕ) where
  pub unsigned_past : end ≤ i → None ≡ unsigned_at base most s i end
  unfolding unsigned_at
  unsigned_past h = sym (rw (le-leb end i h))

  module _ (h : i < end) where
    pub unsigned_other : is_digit base (get_or s i 0) ≡ false → None ≡ unsigned_at base most s i end
    unfolding unsigned_at
    unsigned_other m = sym (rw (lt-leb end i h, m))

    pub unsigned_run : is_digit base (get_or s i 0) ≡ true → (u : Option (ℕ × ℕ)) → u ≡ digits_in base most (end - i) (drop i s) i 0 → u ≡ unsigned_at base most s i end
    unfolding unsigned_at
    unsigned_run m u e = e ∙ sym (rw (lt-leb end i h, m))

-- ---- the sign

pub plain_value : (u : Option (ℕ × ℕ)) (v n : ℕ) → u ≡ Some (v, n) → Some (Plain v, n) ≡ plain u
plain_value u v n q = sym (rw q)

pub negated_zero : (u : Option (ℕ × ℕ)) (v n : ℕ) → u ≡ Some (v, n) → v ≡ 0 → Some (Plain 0, n) ≡ negated u
negated_zero u v n q z = sym (rw (q, eq-eqb v 0 z))

pub negated_value : (u : Option (ℕ × ℕ)) (v n : ℕ) → u ≡ Some (v, n) → (v ≡ 0 → ⊥) → Some (Negative v, n) ≡ negated u
negated_value u v n q z = sym (rw (q, ne_eqb v 0 z))

module _ (base half : ℕ) (s : List ℕ) (i end : ℕ) where
  pub signed_past : end ≤ i → None ≡ signed_at base half s i end
  unfolding signed_at
  signed_past h = sym (rw (le-leb end i h))

  module _ (h : i < end) (u : Option (ℕ × ℕ)) (r : Option (Signed × ℕ)) where
    pub signed_plus : get_or s i 0 ≡ 43 → u ≡ unsigned_at base (half - 1) s (i + 1) end → r ≡ plain u → r ≡ signed_at base half s i end
    unfolding signed_at
    signed_plus p e f = f ∙ sym (rw (lt-leb end i h, eq-eqb (get_or s i 0) 43 p, ← e))

    module _ (n : get_or s i 0 ≡ 43 → ⊥) where
      pub signed_minus : get_or s i 0 ≡ 45 → u ≡ unsigned_at base half s (i + 1) end → r ≡ negated u → r ≡ signed_at base half s i end
      unfolding signed_at
      signed_minus p e f = f ∙ sym (rw (lt-leb end i h, ne_eqb (get_or s i 0) 43 n, eq-eqb (get_or s i 0) 45 p, ← e))

      pub signed_none : (get_or s i 0 ≡ 45 → ⊥) → u ≡ unsigned_at base (half - 1) s i end → r ≡ plain u → r ≡ signed_at base half s i end
      unfolding signed_at
      signed_none p e f = f ∙ sym (rw (lt-leb end i h, ne_eqb (get_or s i 0) 43 n, ne_eqb (get_or s i 0) 45 p, ← e))

-- ---- digits that are written

module _ (d : List ℕ) (i x : ℕ) (room : i + length (digits_of 10 x) ≤ length d) where
  pub put_digit : x < 10 → (c : ℕ) → c ≡ 48 + x → set d i c ≡ put d i (digits_of 10 x)
  put_digit h c e = rw (digits_one 10 x h, e) (set-put d i (48 + x) (omega (arith, size_one x h)))

  pub put_digits : 10 ≤ x → (d₁ : List ℕ) → d₁ ≡ put d i (digits_of 10 (x / 10)) → (n c : ℕ) → n ≡ i + length (digits_of 10 (x / 10)) → c ≡ 48 + x % 10
      → set d₁ n c ≡ put d i (digits_of 10 x)
  put_digits h d₁ e n c en ec =
      let ds : List ℕ = digits_of 10 (x / 10) in
      let l : length (put d i ds) ≡ length d = length-put d ds i (omega (arith, size_more x h)) in
      (λ k. set (e k) (en k) (ec k))
      ∙ set-put (put d i ds) (i + length ds) (48 + x % 10) (omega (arith, size_more x h))
      ∙ put_put d ds ((48 + x % 10) ∷ []) i (omega arith)
      ∙ ap (λ (xs : List ℕ). put d i xs) (sym (digits_more 10 x (omega arith) h))

  pub put_digit_slot : x < 10 → i < length d
  put_digit_slot h = omega (arith, size_one x h)

  pub put_digit_next : x < 10 → i + 1 ≡ i + length (digits_of 10 x)
  put_digit_next h = omega (arith, size_one x h)

  pub put_digits_slot : 10 ≤ x → (d₁ : List ℕ) → d₁ ≡ put d i (digits_of 10 (x / 10)) → (n : ℕ) → n ≡ i + length (digits_of 10 (x / 10)) → n < length d₁
  put_digits_slot h d₁ e n en = omega (arith, size_more x h, ap length e, length-put d (digits_of 10 (x / 10)) i (omega (arith, size_more x h)))

  pub put_digits_next : 10 ≤ x → (n : ℕ) → n ≡ i + length (digits_of 10 (x / 10)) → n + 1 ≡ i + length (digits_of 10 x)
  put_digits_next h n en = omega (arith, size_more x h)

  pub put_room : 10 ≤ x → i + length (digits_of 10 (x / 10)) ≤ length d
  put_room h = omega (arith, size_more x h)

pub ruleset groups = (groups_cut, groups_last, groups_more, groups_over)

pub ruleset grows = (grow_over, grow_large, grow_to)

pub ruleset digits = (base_above, digits_end, digits_other, digits_large, digits_next, unsigned_past, unsigned_other, unsigned_run)

pub ruleset signs = (plain_value, negated_zero, negated_value, signed_past, signed_plus, signed_minus, signed_none)

pub ruleset written = (put_digit, put_digit_slot, put_digit_next, put_digits, put_digits_slot, put_digits_next, put_room)
