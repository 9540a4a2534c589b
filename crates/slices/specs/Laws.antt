-- Laws of `same_bytes` and `nul_at`: what the library's methods answer is what they say, and what an answer says. Assumes nothing.
use Rattle.std.specs.Prelude.{◌≡◌, ◌≢◌, refl, Bool, true, false, List, [], ◌∷◌, length, get_or, take, drop, eqb, ◌&&◌, None, Option, Some}
use Rattle.std.proofs.Math.Path.{sym}
use Rattle.std.proofs.Common.{◌∙◌, add-zero}
use Prim.Native.Nat.{ℕ, zero, suc, ◌+◌, ◌-◌, ◌≤◌, ◌<◌}
use native.Mathlib.Omega.{arith}
use borrow.Author.Tests.{eq-eqb, ne_eqb}
use Rattle.std.proofs.lemmas.Bool.Decides.{same_from_decides}
use Rattle.laws.specs.Pick.{pick}
use Rattle.laws.specs.Lists.{drop-next}
use Rattle.std.proofs.lemmas.Slice.Eq.{compares_Decides}
use Rattle.std.specs.Bool.{Decides}
use Rattle.slices.specs.Bytes.{same_bytes, nul_in, nul_at}

-- ---- equality

both : (t u : Bool) → pick t u false ≡ (t && u)
both true u = refl
both false u = refl

same_decides : (a b : List ℕ) → Decides (same_bytes a b) (a ≡ b)
unfolding same_bytes
same_decides a b =
    compares_Decides same_bytes (record { empty = refl; shorter = λ y ys. refl; longer = λ x xs. refl; heads = λ x y xs ys. both (eqb x y) (same_bytes xs ys) }) a b

pub same_refl : (a : List ℕ) → same_bytes a a ≡ true
same_refl a = (same_decides a a).1 refl

-- yes is said of equal lists alone
pub same_equal : (a b : List ℕ) → same_bytes a b ≡ true → a ≡ b
same_equal a b = (same_decides a b).0

-- what the library's equality decides of two parts
pub same_parts : (a b : List ℕ) (i j n : ℕ) (r : Bool) → Decides r (take (i + n - i) (drop i a) ≡ take (j + n - j) (drop j b)) → r ≡ same_bytes (take n (drop i a)) (take n (drop j b))
same_parts a b i j n r h =
    let p : i + n - i ≡ n = omega arith in
    let q : j + n - j ≡ n = omega arith in
    let k : Decides r (take n (drop i a) ≡ take n (drop j b)) = rw (p, q) at h in
    same_from_decides r _ k (same_decides _ _)

-- what a comparison byte by byte says turn by turn
pub same_start : (a : List ℕ) (i : ℕ) (b : List ℕ) (j n : ℕ) → same_bytes (take (n - 0) (drop (i + 0) a)) (take (n - 0) (drop (j + 0) b)) ≡ same_bytes (take n (drop i a)) (take n (drop j b))
same_start a i b j n = let p : n - 0 ≡ n = omega arith in rw (p, add-zero i, add-zero j)

take_next : (s : List ℕ) (i n : ℕ) → i < length s → take (suc n) (drop i s) ≡ get_or s i 0 ∷ take n (drop (i + 1) s)
take_next s i n h = rw (drop-next s i h)

module _ (a : List ℕ) (i : ℕ) (b : List ℕ) (j n k : ℕ) (r : Bool) (inv : same_bytes (take (n - k) (drop (i + k) a)) (take (n - k) (drop (j + k) b)) ≡ r) where
  pub same_done : n ≤ k → true ≡ r
  unfolding same_bytes
  same_done h = let z : n - k ≡ 0 = omega arith in sym (rw z) ∙ inv

  module _ (h : k < n) (ha : i + n ≤ length a) (hb : j + n ≤ length b) where
    left : n - k ≡ suc (n - (k + 1))
    left = omega arith

    one : same_bytes (take (n - k) (drop (i + k) a)) (take (n - k) (drop (j + k) b))
        ≡ pick (eqb (get_or a (i + k) 0) (get_or b (j + k) 0)) (same_bytes (take (n - (k + 1)) (drop (i + k + 1) a)) (take (n - (k + 1)) (drop (j + k + 1) b))) false
    unfolding same_bytes
    one = rw (left, take_next a (i + k) (n - (k + 1)) (omega arith), take_next b (j + k) (n - (k + 1)) (omega arith))

    pub same_differs : (get_or a (i + k) 0 ≡ get_or b (j + k) 0 → ⊥) → false ≡ r
    same_differs e = sym (one ∙ rw (ne_eqb (get_or a (i + k) 0) (get_or b (j + k) 0) e)) ∙ inv

    pub same_more : get_or a (i + k) 0 ≡ get_or b (j + k) 0 → same_bytes (take (n - (k + 1)) (drop (i + (k + 1)) a)) (take (n - (k + 1)) (drop (j + (k + 1)) b)) ≡ r
    same_more e =
        let p : i + (k + 1) ≡ i + k + 1 = omega arith in
        let q : j + (k + 1) ≡ j + k + 1 = omega arith in
        rw (p, q) (sym (one ∙ rw (eq-eqb (get_or a (i + k) 0) (get_or b (j + k) 0) e)) ∙ inv)

-- ---- the first NUL

-- a NUL in a part, with none before it, is the first
nul_in_at : (f : ℕ) (l : List ℕ) (i n : ℕ) → n < length (take f l) → get_or (take f l) n 0 ≡ 0 → ((k : ℕ) → k < n → get_or (take f l) k 0 ≢ 0) → Some (i + n) ≡ nul_in f l i
unfolding nul_in
nul_in_at zero l i n h e before = absurd (omega arith)
nul_in_at (suc f) [] i n h e before = absurd (omega arith)
nul_in_at (suc f) (c ∷ l) i zero h e before = rw (eq-eqb c 0 e, add-zero i)
nul_in_at (suc f) (c ∷ l) i (suc n) h e before =
    let p : i + suc n ≡ i + 1 + n = omega arith in
    rw (ne_eqb c 0 (before 0 (omega arith)), p) (nul_in_at f l (i + 1) n (omega arith) e (λ k q. before (suc k) (omega arith)))

nul_in_none : (f : ℕ) (l : List ℕ) (i : ℕ) → ((k : ℕ) → k < length (take f l) → get_or (take f l) k 0 ≢ 0) → None ≡ nul_in f l i
unfolding nul_in
nul_in_none zero l i before = refl
nul_in_none (suc f) [] i before = refl
nul_in_none (suc f) (c ∷ l) i before = rw (ne_eqb c 0 (before 0 (omega arith))) (nul_in_none f l (i + 1) (λ k q. before (suc k) (omega arith)))

module _ (s : List ℕ) (at end : ℕ) where
  pub nul_found : (n : ℕ) → n < length (take (end - at) (drop at s)) → get_or (take (end - at) (drop at s)) n 0 ≡ 0
      → ((k : ℕ) → k < n → get_or (take (end - at) (drop at s)) k 0 ≢ 0) → Some (at + n) ≡ nul_at s at end
  unfolding nul_at
  nul_found n h e before = nul_in_at (end - at) (drop at s) at n h e before

  pub nul_absent : ((k : ℕ) → k < length (take (end - at) (drop at s)) → get_or (take (end - at) (drop at s)) k 0 ≢ 0) → None ≡ nul_at s at end
  unfolding nul_at
  nul_absent before = nul_in_none (end - at) (drop at s) at before

  pub nul_past : end ≤ at → None ≡ nul_at s at end
  unfolding nul_at nul_in
  nul_past h = let z : end - at ≡ 0 = omega arith in rw z

-- what a search from byte i on says turn by turn
module _ (s : List ℕ) (i end : ℕ) (r : Option ℕ) (inv : nul_in (end - i) (drop i s) i ≡ r) where
  pub nul_none : end ≤ i → None ≡ r
  unfolding nul_in
  nul_none h = let z : end - i ≡ 0 = omega arith in sym (rw z) ∙ inv

  module _ (h : i < end) (k : end ≤ length s) where
    pub nul_here : get_or s i 0 ≡ 0 → Some i ≡ r
    unfolding nul_in
    nul_here e = let z : end - i ≡ suc (end - (i + 1)) = omega arith in sym (rw (z, drop-next s i (omega arith), eq-eqb (get_or s i 0) 0 e)) ∙ inv

    pub nul_more : (get_or s i 0 ≡ 0 → ⊥) → nul_in (end - (i + 1)) (drop (i + 1) s) (i + 1) ≡ r
    unfolding nul_in
    nul_more e = let z : end - i ≡ suc (end - (i + 1)) = omega arith in sym (rw (z, drop-next s i (omega arith), ne_eqb (get_or s i 0) 0 e)) ∙ inv

nul_step : (f : ℕ) (l : List ℕ) (i z : ℕ) (t : Bool) → (nul_in f l (i + 1) ≡ Some z → (i + 1 ≤ z) × (z < i + 1 + f)) → pick t (Some i) (nul_in f l (i + 1)) ≡ Some z → (i ≤ z) × (z < i + suc f)
nul_step f l i z true ih q = let w : i ≡ z = cc in (omega arith, omega arith)
nul_step f l i z false ih q = let h = ih q in (omega (arith, h.0), omega (arith, h.1))

nul_bounds_in : (f : ℕ) (l : List ℕ) (i z : ℕ) → nul_in f l i ≡ Some z → (i ≤ z) × (z < i + f)
unfolding nul_in
nul_bounds_in zero l i z q = let w : ◌≡◌ {A = ℕ} 0 1 = cc in absurd (omega arith)
nul_bounds_in (suc f) [] i z q = let w : ◌≡◌ {A = ℕ} 0 1 = cc in absurd (omega arith)
nul_bounds_in (suc f) (c ∷ l) i z q = nul_step f l i z (eqb c 0) (λ k. nul_bounds_in f l (i + 1) z k) q

-- a NUL that is found lies in the part
pub nul_bounds : (s : List ℕ) (at end z : ℕ) → nul_at s at end ≡ Some z → (at ≤ z) × (z < end)
unfolding nul_at
nul_bounds s at end z q = let h = nul_bounds_in (end - at) (drop at s) at z q in (h.0, omega (arith, h.0, h.1))

pub ruleset laws = (same_start, same_done, same_differs, same_more, nul_none, nul_here, nul_more)
