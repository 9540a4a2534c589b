-- Numbers in digits: what the reader's definition answers is spelled (`says`), and what is spelled is read (`complete`). Assumes nothing.
use Rattle.std.specs.Prelude.{ℕ, zero, suc, ◌+◌, ◌-◌, ◌*◌, ◌≤◌, ◌<◌, ◌≡◌, refl, List, [], ◌∷◌, ◌++◌, Bool, true, false, length, get_or, drop, None, Option, Some}
use Rattle.std.proofs.Common.{sym, ap, ◌∙◌, subst, append_assoc, ⊎_elim, arith, add-zero, length-append, lt-ltb, le-ltb, le-leb, ne_eqb}
use Rattle.std.proofs.lemmas.Bool.{lt-leb}
use Rattle.laws.specs.Pick.{pick}
use Rattle.laws.specs.Tests.{Less, less, not_less, less?, AtMost, at_most, above, at_most?, lt_or_ge, Same, same, differs, same?}
use Rattle.laws.specs.Lists.{drop-next}
use Rattle.wire.specs.Digits.{is_digit, grown, on_grown, digits_in, unsigned_at, plain, negated, signed_at}
use Rattle.node.specs.Head.{count_half}
use Rattle.grammar.specs.Number.{Digit, Digits, last_digit, digit, Count, covers, invalid, Signed as SignedNumber, plain as no_sign, plus, minus_zero_lem, minus}
use Rattle.claims_entries.specs.Place.{Lies}
use Rattle.claims_tree.specs.Place.{lies_head, lies_tail, lies_cons}
use Rattle.wire.specs.declared.Signed.{Signed}
use Rattle.wire.specs.declared.Signed.TheVariants.{Negative, Plain}

-- ---- digits

-- digits behind the number v, or none
data Run (v : ℕ) : List ℕ → ℕ → Type 0 where
  over : Run v [] v
  some : {b : List ℕ} {w : ℕ} → Digits 10 v b w → Run v b w

data Said (R : List ℕ → ℕ → Type 0) (most f : ℕ) (l : List ℕ) (i : ℕ) : Option (ℕ × ℕ) → Type 0 where
  value : {w e : ℕ} (b r : List ℕ) → l ≡ b ++ r → length b ≤ f → e ≡ i + length b → R b w → w ≤ most → Said R most f l i (Some (w, e))
  bad : Said R most f l i None

-- one digit more, where that is not too large
grown_fits : (v x most : ℕ) (k : ℕ → Option (ℕ × ℕ)) → v * 10 + x ≤ most → on_grown (grown v x 10 most) None k ≡ k (v * 10 + x)
unfolding grown
grown_fits v x most k h = rw (le-leb (v * 10 + x) most h)

grown_over : (v x most : ℕ) (k : ℕ → Option (ℕ × ℕ)) → most < v * 10 + x → on_grown (grown v x 10 most) None k ≡ None
unfolding grown
grown_over v x most k h = rw (lt-leb (v * 10 + x) most h)

-- one digit, and what follows it
grow_says : (most f : ℕ) (l : List ℕ) (i v x : ℕ) → Digit 10 x → ((u : ℕ) → u ≤ most → Said (Run u) most f l (i + 1) (digits_in 10 most f l (i + 1) u))
    → Said (Digits 10 v) most (suc f) (x ∷ l) i (on_grown (grown v (x - 48) 10 most) None (λ w. digits_in 10 most f l (i + 1) w))
grow_says most f l i v x d ih =
    ⊎_elim
    (λ h. subst (Said (Digits 10 v) most (suc f) (x ∷ l) i) (sym (grown_over v (x - 48) most (λ w. digits_in 10 most f l (i + 1) w) h)) bad)
    (λ h. subst (Said (Digits 10 v) most (suc f) (x ∷ l) i) (sym (grown_fits v (x - 48) most (λ w. digits_in 10 most f l (i + 1) w) h)) (more (ih (v * 10 + (x - 48)) h)))
    (lt_or_ge most (v * 10 + (x - 48)))
  where
    put : {b : List ℕ} {w : ℕ} → Run (v * 10 + (x - 48)) b w → Digits 10 v (x ∷ b) w
    put over = last_digit d
    put (some y) = digit d y

    more : {g : Option (ℕ × ℕ)} → Said (Run (v * 10 + (x - 48))) most f l (i + 1) g → Said (Digits 10 v) most (suc f) (x ∷ l) i g
    more bad = bad
    more (value b r e n y k m) = let turn : i + 1 + length b ≡ i + length (x ∷ b) = omega arith in value (x ∷ b) r (ap (x ∷◌) e) (omega arith) (y ∙ turn) (put k) m

digits_say : (most f : ℕ) (l : List ℕ) (i v : ℕ) → v ≤ most → Said (Run v) most f l i (digits_in 10 most f l i v)
unfolding digits_in is_digit
digits_say most zero l i v h = value [] l refl (omega arith) (sym (add-zero i)) over h
digits_say most (suc f) [] i v h = value [] [] refl (omega arith) (sym (add-zero i)) over h
digits_say most (suc f) (x ∷ l) i v h = go (less? x 48) (less? (x - 48) 10) (λ d. grow_says most f l i v x d (λ u k. digits_say most f l (i + 1) u k))
  where
    put : {g : Option (ℕ × ℕ)} → Said (Digits 10 v) most (suc f) (x ∷ l) i g → Said (Run v) most (suc f) (x ∷ l) i g
    put bad = bad
    put (value b r e n y k m) = value b r e n y (some k) m

    go : {t u : Bool} {g : Option (ℕ × ℕ)} → Less x 48 t → Less (x - 48) 10 u → (Digit 10 x → Said (Digits 10 v) most (suc f) (x ∷ l) i g) → Said (Run v) most (suc f) (x ∷ l) i (pick (pick t false u) g (Some (v, i)))
    go (less a) b k = value [] (x ∷ l) refl (omega arith) (sym (add-zero i)) over h
    go (not_less a) (not_less b) k = value [] (x ∷ l) refl (omega arith) (sym (add-zero i)) over h
    go (not_less a) (less b) k = put (k (record { least = a; below = omega arith }))

digit_is : {x : ℕ} → Digit 10 x → is_digit 10 x ≡ true
unfolding is_digit
digit_is {x} d = let a : 48 ≤ x = d.least in let b : x - 48 < 10 = omega (arith, d.below) in rw (le-ltb x 48 a, lt-ltb (x - 48) 10 b)

digit_not : (x : ℕ) → x < 48 → is_digit 10 x ≡ false
unfolding is_digit
digit_not x h = rw (lt-ltb x 48 h)

-- where no digit follows
digits_stop : (most f : ℕ) (c : ℕ) (r : List ℕ) (i v : ℕ) → c < 48 → digits_in 10 most f (c ∷ r) i v ≡ Some (v, i)
unfolding digits_in
digits_stop most zero c r i v h = refl
digits_stop most (suc f) c r i v h = rw (digit_not c h)

digits_least : {v w : ℕ} {b : List ℕ} → Digits 10 v b w → v * 10 ≤ w
digits_least (last_digit d) = omega arith
digits_least (digit d y) = let l = digits_least y in omega arith

digits_read : {v w : ℕ} {b : List ℕ} → Digits 10 v b w → (most : ℕ) → w ≤ most → (f : ℕ) → length b ≤ f → (c : ℕ) → c < 48 → (r : List ℕ) (i : ℕ) → digits_in 10 most f (b ++ (c ∷ r)) i v ≡ Some (w, i + length b)
unfolding digits_in
digits_read (last_digit d) most h zero k c m r i = absurd (omega arith)
digits_read {v} {w} (last_digit {c = x} d) most h (suc f) k c m r i =
    rw (digit_is d, grown_fits v (x - 48) most (λ u. digits_in 10 most f (c ∷ r) (i + 1) u) h) (digits_stop most f c r (i + 1) (v * 10 + (x - 48)) m)
digits_read (digit d y) most h zero k c m r i = absurd (omega arith)
digits_read {v} {w} (digit {c = x} {b = b} d y) most h (suc f) k c m r i =
    let l : (v * 10 + (x - 48)) * 10 ≤ w = digits_least y in
    let n : v * 10 + (x - 48) ≤ most = omega arith in
    let e : i + 1 + length b ≡ i + length (x ∷ b) = omega arith in
    rw (digit_is d, grown_fits v (x - 48) most (λ u. digits_in 10 most f (b ++ (c ∷ r)) (i + 1) u) n) (digits_read y most h f (omega arith) c m r (i + 1) ∙ ap (λ (j : ℕ). Some (w, j)) e)

-- ---- a number without sign

pub data SaysUnsigned (most : ℕ) (s : List ℕ) (at end : ℕ) : Option (ℕ × ℕ) → Type 0 where
  value : {w e : ℕ} (b : List ℕ) → Lies s at end b → e ≡ at + length b → Digits 10 0 b w → w ≤ most → SaysUnsigned most s at end (Some (w, e))
  bad : SaysUnsigned most s at end None

run_says : (most : ℕ) (s : List ℕ) (at end : ℕ) → end ≤ length s → at < end → Digit 10 (get_or s at 0) → SaysUnsigned most s at end (digits_in 10 most (end - at) (drop at s) at 0)
unfolding digits_in
run_says most s at end inside h d =
    let n : end - at ≡ suc (end - (at + 1)) = omega arith in
    let m : drop at s ≡ get_or s at 0 ∷ drop (at + 1) s = drop-next s at (omega arith) in
    rw (n, m, digit_is d) (of n m (grow_says most (end - (at + 1)) (drop (at + 1) s) at 0 (get_or s at 0) d (λ u k. digits_say most (end - (at + 1)) (drop (at + 1) s) (at + 1) u k)))
  where
    of : {g : Option (ℕ × ℕ)} → end - at ≡ suc (end - (at + 1)) → drop at s ≡ get_or s at 0 ∷ drop (at + 1) s → Said (Digits 10 0) most (suc (end - (at + 1))) (get_or s at 0 ∷ drop (at + 1) s) at g
        → SaysUnsigned most s at end g
    of n m bad = bad
    of n m (value b r e f y k l) = value b (record { fits = omega arith; rest = r; is = m ∙ e }) y k l

pub unsigned_says : (most : ℕ) (s : List ℕ) (at end : ℕ) → end ≤ length s → SaysUnsigned most s at end (unsigned_at 10 most s at end)
unfolding unsigned_at is_digit
unsigned_says most s at end inside = go (at_most? end at) (less? (get_or s at 0) 48) (less? (get_or s at 0 - 48) 10)
  where
    go : {t u v : Bool} → AtMost end at t → Less (get_or s at 0) 48 u → Less (get_or s at 0 - 48) 10 v
        → SaysUnsigned most s at end (pick t None (pick (pick u false v) (digits_in 10 most (end - at) (drop at s) at 0) None))
    go (at_most h) b c = bad
    go (above h) (less b) c = bad
    go (above h) (not_less b) (not_less c) = bad
    go (above h) (not_less b) (less c) = run_says most s at end inside h (record { least = b; below = omega arith })

-- the first digit
digits_first : {v w : ℕ} {b : List ℕ} → Digits 10 v b w → (x : ℕ) × (r : List ℕ) × (b ≡ x ∷ r) × Digit 10 x
digits_first (last_digit {c = c} d) = (c, [], refl, d)
digits_first (digit {c = c} {b = b} d y) = (c, b, refl, d)

pub unsigned_complete : {b : List ℕ} {w : ℕ} → Digits 10 0 b w → (most : ℕ) → w ≤ most → (c : ℕ) → c < 48 → (p : List ℕ) {s : List ℕ} {at end : ℕ} → Lies s at end (b ++ (c ∷ p))
    → unsigned_at 10 most s at end ≡ Some (w, at + length b)
unfolding unsigned_at
unsigned_complete {b} {w} y most h c k p {s} {at} {end} l =
    let (x, r, e, d) = digits_first y in
    let first : get_or s at 0 ≡ x = lies_head (subst (λ (z : List ℕ). Lies s at end (z ++ (c ∷ p))) e l) in
    let more : at < end = omega (arith, l.fits, length-append b (c ∷ p)) in
    let room : length b ≤ end - at = omega (arith, l.fits, length-append b (c ∷ p)) in
    rw (lt-leb end at more, first, digit_is d, l.is, append_assoc b (c ∷ p) l.rest) (digits_read y most h (end - at) room c k (p ++ l.rest) at)

-- ---- a number with a sign

-- what the answer says of a count
pub data Counts : Count → ℕ → Option (Signed × ℕ) → Type 0 where
  counts_plain : {v e : ℕ} → Counts (covers v) e (Some (Plain v, e))
  counts_negative : {v e : ℕ} → Counts invalid e (Some (Negative v, e))

pub data SaysSigned (s : List ℕ) (at end : ℕ) : Option (Signed × ℕ) → Type 0 where
  count : {g : Option (Signed × ℕ)} {c : Count} (b : List ℕ) → Lies s at end b → SignedNumber b c → Counts c (at + length b) g → SaysSigned s at end g
  no_count : SaysSigned s at end None

pub signed_says : (s : List ℕ) (at end : ℕ) → end ≤ length s → SaysSigned s at end (signed_at 10 count_half s at end)
unfolding signed_at
signed_says s at end inside =
    go (at_most? end at) (same? (get_or s at 0) 43) (same? (get_or s at 0) 45) (unsigned_says (count_half - 1) s (at + 1) end inside) (unsigned_says count_half s (at + 1) end inside) (unsigned_says (count_half - 1) s at end inside)
  where
    of_plus : at < end → get_or s at 0 ≡ 43 → {u : Option (ℕ × ℕ)} → SaysUnsigned (count_half - 1) s (at + 1) end u → SaysSigned s at end (plain u)
    of_plus h e bad = no_count
    of_plus h e (value {w = w} {e = i} b l f y k) =
        let j : at + length (43 ∷ b) ≡ at + 1 + length b = omega arith in
        count {g = Some (Plain w, i)} {c = covers w} (43 ∷ b) (lies_cons s at end 43 h inside e l) (plus y (omega arith)) (rw (f, ← j) counts_plain)

    of_none : {u : Option (ℕ × ℕ)} → SaysUnsigned (count_half - 1) s at end u → SaysSigned s at end (plain u)
    of_none bad = no_count
    of_none (value {w = w} {e = i} b l f y k) = count {g = Some (Plain w, i)} {c = covers w} b l (no_sign y (omega arith)) (rw f counts_plain)

    minus_by : {w e : ℕ} {t : Bool} (b : List ℕ) → at < end → get_or s at 0 ≡ 45 → Lies s (at + 1) end b → e ≡ at + 1 + length b → Digits 10 0 b w → w ≤ count_half → Same w 0 t → SaysSigned s at end (pick t (Some (Plain 0, e)) (Some (Negative w, e)))
    minus_by {e = i} b h e l f y k (same z) =
        let j : at + length (45 ∷ b) ≡ at + 1 + length b = omega arith in
        count {g = Some (Plain 0, i)} {c = covers 0} (45 ∷ b) (lies_cons s at end 45 h inside e l) (minus_zero_lem (subst (Digits 10 0 b) z y)) (rw (f, ← j) counts_plain)
    minus_by {w} {e = i} b h e l f y k (differs z) =
        let j : at + length (45 ∷ b) ≡ at + 1 + length b = omega arith in
        let m : 0 < w = omega arith in
        count {g = Some (Negative w, i)} {c = invalid} (45 ∷ b) (lies_cons s at end 45 h inside e l) (minus y m (omega arith)) (rw (f, ← j) counts_negative)

    of_minus : at < end → get_or s at 0 ≡ 45 → {u : Option (ℕ × ℕ)} → SaysUnsigned count_half s (at + 1) end u → SaysSigned s at end (negated u)
    of_minus h e bad = no_count
    of_minus h e (value {w = w} b l f y k) = minus_by b h e l f y k (same? w 0)

    go : {t u v : Bool} {a b c : Option (ℕ × ℕ)} → AtMost end at t → Same (get_or s at 0) 43 u → Same (get_or s at 0) 45 v → SaysUnsigned (count_half - 1) s (at + 1) end a → SaysUnsigned count_half s (at + 1) end b
        → SaysUnsigned (count_half - 1) s at end c → SaysSigned s at end (pick t None (pick u (plain a) (pick v (negated b) (plain c))))
    go (at_most h) x y a b c = no_count
    go (above h) (same x) y a b c = of_plus h x a
    go (above h) (differs x) (same y) a b c = of_minus h y b
    go (above h) (differs x) (differs y) a b c = of_none c

-- a count is read where a byte below "0" ends it
pub signed_complete : {b : List ℕ} {v : Count} → SignedNumber b v → (c : ℕ) → c < 48 → (p : List ℕ) {s : List ℕ} {at end : ℕ} → Lies s at end (b ++ (c ∷ p)) → Counts v (at + length b) (signed_at 10 count_half s at end)
unfolding signed_at
signed_complete (no_sign {b = b} {v = v} y h) c k p {s} {at} {end} l =
    let (x, r, e, d) = digits_first y in
    let first : get_or s at 0 ≡ x = lies_head (subst (λ (z : List ℕ). Lies s at end (z ++ (c ∷ p))) e l) in
    let more : at < end = omega (arith, l.fits, length-append b (c ∷ p)) in
    let o : 48 ≤ x = d.least in
    rw (lt-leb end at more, first, ne_eqb x 43 (λ q. omega arith), ne_eqb x 45 (λ q. omega arith), unsigned_complete y (count_half - 1) (omega arith) c k p l) counts_plain
signed_complete (plus {b = b} {v = v} y h) c k p {s} {at} {end} l =
    let more : at < end = omega (arith, l.fits) in
    let j : at + 1 + length b ≡ at + length (43 ∷ b) = omega arith in
    rw (lt-leb end at more, lies_head l, unsigned_complete y (count_half - 1) (omega arith) c k p (lies_tail l), j) counts_plain
signed_complete (minus_zero_lem {b = b} y) c k p {s} {at} {end} l =
    let more : at < end = omega (arith, l.fits) in
    let j : at + 1 + length b ≡ at + length (45 ∷ b) = omega arith in
    rw (lt-leb end at more, lies_head l, unsigned_complete y count_half (omega arith) c k p (lies_tail l), j) counts_plain
signed_complete (minus {b = b} {v = v} y h m) c k p {s} {at} {end} l =
    let more : at < end = omega (arith, l.fits) in
    let j : at + 1 + length b ≡ at + length (45 ∷ b) = omega arith in
    rw (lt-leb end at more, lies_head l, unsigned_complete y count_half m c k p (lies_tail l), ne_eqb v 0 (λ q. omega arith), j) counts_negative
