-- A size of 64 bits, and the laws of sums that stop at the largest (01, What must change shape: sizing, then filling). Assumes nothing.
use Rattle.std.specs.Prelude.{◌≡◌, ℕ, ◌+◌, ◌-◌, ◌≤◌, ◌<◌, ltb, min}
use Rattle.std.proofs.Common.{sym, ap, ◌∙◌, ⊎_elim, arith, lt-ltb, le-ltb}
use Rattle.laws.specs.Pick.{pick}
use Rattle.laws.specs.Tests.{lt_or_ge}

abbrev pub largest : ℕ
largest = 18446744073709551615

-- n, or the largest number where n does not fit
unfoldable pub cap : ℕ → ℕ
cap n = pick (ltb largest n) largest n

pub cap_fits : (n : ℕ) → n ≤ largest → cap n ≡ n
unfolding cap
cap_fits n h = rw (le-ltb largest n h)

pub cap_over : (n : ℕ) → largest < n → cap n ≡ largest
unfolding cap
cap_over n h = rw (lt-ltb largest n h)

pub cap_small : (n : ℕ) → cap n ≤ largest
cap_small n = ⊎_elim (λ h. omega (arith, cap_over n h)) (λ h. omega (arith, cap_fits n h)) (lt_or_ge largest n)

pub cap_le : (n : ℕ) → cap n ≤ n
cap_le n = ⊎_elim (λ h. omega (arith, cap_over n h)) (λ h. omega (arith, cap_fits n h)) (lt_or_ge largest n)

-- a capped number below the largest is the number
pub cap_below : (n m : ℕ) → cap n ≤ m → m < largest → n ≤ m
cap_below n m a b = ⊎_elim (λ h. omega (arith, cap_over n h)) (λ h. omega (arith, cap_fits n h)) (lt_or_ge largest n)

big : (m : ℕ) → largest ≤ m → cap m ≡ largest
big m g = ⊎_elim (λ h. cap_over m h) (λ h. cap_fits m h ∙ omega arith) (lt_or_ge largest m)

-- a sum that goes on from a capped one
pub cap_cap : (a b : ℕ) → cap (cap a + b) ≡ cap (a + b)
cap_cap a b = ⊎_elim over (λ h. ap (λ (k : ℕ). cap (k + b)) (cap_fits a h)) (lt_or_ge largest a)
  where
    over : largest < a → cap (cap a + b) ≡ cap (a + b)
    over h = big (cap a + b) (omega (arith, cap_over a h)) ∙ sym (big (a + b) (omega arith))

pub cap_cap_right : (a b : ℕ) → cap (a + cap b) ≡ cap (a + b)
cap_cap_right a b =
    let p : a + cap b ≡ cap b + a = omega arith in
    let q : b + a ≡ a + b = omega arith in
    ap cap p ∙ cap_cap b a ∙ ap cap q

-- the smaller of a sum and the largest number, as the library's method gives it, is the capped sum
pub cap_min : (n : ℕ) → min n largest ≡ cap n
cap_min n = ⊎_elim (λ h. omega (arith, cap_over n h)) (λ h. omega (arith, cap_fits n h)) (lt_or_ge largest n)

pub min_cap : (n r : ℕ) → r ≡ min n largest → r ≡ cap n
min_cap n r e = e ∙ cap_min n

-- a sum by cases: whether the second number fits beside the first
pub add_over : (a b : ℕ) → a ≤ largest → largest - a < b → largest ≡ cap (a + b)
add_over a b k h = sym (cap_over (a + b) (omega arith))

pub add_fits : (a b : ℕ) → a ≤ largest → b ≤ largest - a → a + b ≡ cap (a + b)
add_fits a b k h = sym (cap_fits (a + b) (omega arith))
