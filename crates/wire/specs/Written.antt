-- A number written in the fewest digits of a base (01, Writing: TREE's counts are decimal; refusals are printed in decimal), over the base, with the law that it
-- has a digit at least. Assumes nothing.
use Rattle.std.specs.Prelude.{◌≡◌, refl, List, [], ◌∷◌, ◌++◌, ℕ, zero, suc, ◌+◌, ◌/◌, ◌%◌, ◌*◌, ◌^◌, max, ◌≤◌, ◌<◌, ltb, length}
use Rattle.std.proofs.Common.{pow-suc, sym, ap, ◌∙◌, arith, length-append, lt-ltb, le-ltb, ⊎_elim}
use Rattle.std.proofs.Math.Nat.{div-lt_self}
use Rattle.laws.specs.Pick.{pick}
use Rattle.laws.specs.Tests.{lt_or_ge}

-- at most f digits; there are fewer than x + 1
unfoldable pub digits_by : ℕ → ℕ → ℕ → List ℕ
digits_by base zero x = []
digits_by base (suc f) x = pick (ltb x base) ((48 + x) ∷ []) (digits_by base f (x / base) ++ ((48 + x % base) ∷ []))

unfoldable pub digits_of : ℕ → ℕ → List ℕ
digits_of base x = digits_by base (suc x) x

-- any number of digits that is enough is the same
digits_enough : (base f g x : ℕ) → 1 < base → x < f → x < g → digits_by base f x ≡ digits_by base g x
unfolding digits_by
digits_enough base zero g x b h k = absurd (omega arith)
digits_enough base (suc f) zero x b h k = absurd (omega arith)
digits_enough base (suc f) (suc g) x b h k =
    ⊎_elim (λ l. rw (lt-ltb x base l))
    (λ l.
    let p : 0 < x = omega arith in
    let d : x / base < x = div-lt_self p b in
    let l₁ : x / base < f = omega arith in
    let l₂ : x / base < g = omega arith in
    rw (le-ltb x base l, digits_enough base f g (x / base) b l₁ l₂))
    (lt_or_ge x base)

pub digits_one : (base x : ℕ) → x < base → digits_of base x ≡ (48 + x) ∷ []
unfolding digits_of digits_by
digits_one base x h = rw (lt-ltb x base h)

pub digits_more : (base x : ℕ) → 1 < base → base ≤ x → digits_of base x ≡ digits_of base (x / base) ++ ((48 + x % base) ∷ [])
unfolding digits_of digits_by
digits_more base x b h =
    let p : 0 < x = omega arith in
    let d : x / base < x = div-lt_self p b in
    rw (le-ltb x base h) (ap (λ (l : List ℕ). l ++ ((48 + x % base) ∷ [])) (digits_enough base x (suc (x / base)) (x / base) b d (omega arith)))

-- ---- how many there are

pub size_one : (x : ℕ) → x < 10 → 1 ≡ length (digits_of 10 x)
size_one x h = sym (ap length (digits_one 10 x h))

pub size_more : (x : ℕ) → 10 ≤ x → length (digits_of 10 x) ≡ length (digits_of 10 (x / 10)) + 1
size_more x h = ap length (digits_more 10 x (omega arith) h) ∙ length-append (digits_of 10 (x / 10)) ((48 + x % 10) ∷ [])

tens : (k : ℕ) → 0 < 10 ^ k
tens zero = let e : 10 ^ 0 ≡ 1 = refl in omega arith
tens (suc k) = omega (arith, pow-suc 10 k, tens k)

-- a number below 10 ^ (k + 1) and not below 10 ^ k has k + 1 digits; 0 has one
pub size_between : (k x : ℕ) → 10 ^ k ≤ max x 1 → max x 1 < 10 * 10 ^ k → k + 1 ≡ length (digits_of 10 x)
size_between zero x l h = let e : 10 ^ 0 ≡ 1 = refl in size_one x (omega arith)
size_between (suc k) x l h =
    let p : 10 ^ suc k ≡ 10 ^ k * 10 = pow-suc 10 k in
    let q : 0 < 10 ^ k = tens k in
    let ten : 10 ≤ x = omega arith in
    omega (arith, size_more x ten, size_between k (x / 10) (omega arith) (omega arith))
