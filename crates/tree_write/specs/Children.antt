-- The children of a node as they stand in the table. Whatever is added up over them comes to the same in the order in which the tree is written; and where they stand in that
-- order, the two lists are one. Over all tables. Assumes nothing.
use Rattle.std.specs.Prelude.{Bool, true, false, ◌≡◌, refl, ◌⊎◌, List, [], ◌∷◌, ◌++◌, ℕ, zero, suc, ◌+◌, ◌-◌, ◌≤◌, ◌<◌, eqb, length}
use Rattle.std.proofs.Common.{sym, ap, ◌∙◌, subst, inl, inr, ⊎_elim, length-append}
use native.Mathlib.Omega.{arith}
use borrow.Author.Tests.{eq-eqb, ne_eqb, eqb-true}
use Rattle.laws.specs.Pick.{pick}
use Rattle.laws.specs.Tests.{lt_or_ge, Same, same, differs, same?}
use Rattle.node.specs.Store.{nodes_in, parent_at}
use Rattle.siblings.specs.Siblings.{is_child}
use Rattle.tree_write.specs.Order.{before, false_true, before_not, before_trans}
use Rattle.tree_write.specs.Tree.{kids, each}
use Rattle.tree_write.specs.Kids.{Mem, here, there, Rising, done, more, not_mem, children, children_are, children_rise}

pub mem_cases : {i x : ℕ} {l : List ℕ} → Mem i (x ∷ l) → (i ≡ x) ⊎ Mem i l
mem_cases here = inl refl
mem_cases (there m) = inr m

-- ---- the numbers that pass a test, as they stand

-- those of k numbers from j on
unfoldable pub passing : (ℕ → Bool) → ℕ → ℕ → List ℕ
passing f zero j = []
passing f (suc k) j = pick (f j) (j ∷ passing f k (j + 1)) (passing f k (j + 1))

-- the children of p in the order of the table
abbrev pub table_kids : List ℕ → ℕ → ℕ → ℕ → List ℕ
table_kids ns p k j = passing (is_child ns p) k j

pub passing_none : (f : ℕ → Bool) (k j : ℕ) → ((i : ℕ) → j ≤ i → i < j + k → f i ≡ false) → passing f k j ≡ []
unfolding passing
passing_none f zero j h = refl
passing_none f (suc k) j h = rw (h j (omega arith) (omega arith)) (passing_none f k (j + 1) (λ i a b. h i (omega arith) (omega arith)))

passing_same : (f g : ℕ → Bool) (k j : ℕ) → ((i : ℕ) → j ≤ i → i < j + k → f i ≡ g i) → passing f k j ≡ passing g k j
unfolding passing
passing_same f g zero j h = refl
passing_same f g (suc k) j h =
    rw (h j (omega arith) (omega arith)) (ap (λ (l : List ℕ). pick (g j) (j ∷ l) l) (passing_same f g k (j + 1) (λ i a b. h i (omega arith) (omega arith))))

-- those behind d that do not pass
pub passing_skip : (f : ℕ → Bool) (d k j : ℕ) → ((i : ℕ) → j ≤ i → i < j + d → f i ≡ false) → passing f (d + k) j ≡ passing f k (j + d)
unfolding passing
passing_skip f zero k j h = let a : 0 + k ≡ k = omega arith in let b : j ≡ j + 0 = omega arith in rw a (ap (λ (x : ℕ). passing f k x) b)
passing_skip f (suc d) k j h =
    let a : suc d + k ≡ suc (d + k) = omega arith in
    let b : j + 1 + d ≡ j + suc d = omega arith in
    rw (a, h j (omega arith) (omega arith)) (passing_skip f d k (j + 1) (λ i x y. h i (omega arith) (omega arith)) ∙ ap (λ (x : ℕ). passing f k x) b)

-- those before d that do not pass
pub passing_cut : (f : ℕ → Bool) (k d j : ℕ) → ((i : ℕ) → j + k ≤ i → i < j + k + d → f i ≡ false) → passing f (k + d) j ≡ passing f k j
unfolding passing
passing_cut f zero d j h = let a : 0 + d ≡ d = omega arith in rw a (passing_none f d j (λ i x y. h i (omega arith) (omega arith)))
passing_cut f (suc k) d j h =
    let a : suc k + d ≡ suc (k + d) = omega arith in
    rw a (ap (λ (l : List ℕ). pick (f j) (j ∷ l) l) (passing_cut f k d (j + 1) (λ i x y. h i (omega arith) (omega arith))))

pub passing_in : (f : ℕ → Bool) (k j i : ℕ) → Mem i (passing f k j) → (j ≤ i) × (i < j + k) × (f i ≡ true)
unfolding passing
passing_in f zero j i m = absurd (not_mem m refl)
passing_in f (suc k) j i m = by (f j) refl m (λ q. let (a, b, c) = passing_in f k (j + 1) i q in (omega arith, omega arith, c))
  where
    by : (t : Bool) → f j ≡ t → Mem i (pick t (j ∷ passing f k (j + 1)) (passing f k (j + 1))) → (Mem i (passing f k (j + 1)) → (j ≤ i) × (i < j + suc k) × (f i ≡ true)) → (j ≤ i) × (i < j + suc k) × (f i ≡ true)
    by true e q later = ⊎_elim (λ z. (omega arith, omega arith, ap f z ∙ e)) later (mem_cases q)
    by false e q later = later q

pub passing_all : (f : ℕ → Bool) (k j i : ℕ) → j ≤ i → i < j + k → f i ≡ true → Mem i (passing f k j)
unfolding passing
passing_all f zero j i a b e = absurd (omega arith)
passing_all f (suc k) j i a b e = by (lt_or_ge j i) (f j) refl (λ q. passing_all f k (j + 1) i (omega arith) (omega arith) e)
  where
    by : (j < i) ⊎ (i ≤ j) → (t : Bool) → f j ≡ t → (j < i → Mem i (passing f k (j + 1))) → Mem i (pick t (j ∷ passing f k (j + 1)) (passing f k (j + 1)))
    by (inl q) true g ih = there (ih q)
    by (inl q) false g ih = ih q
    by (inr q) true g ih = let z : j ≡ i = omega arith in subst (λ (x : ℕ). Mem x (j ∷ passing f k (j + 1))) z here
    by (inr q) false g ih = let z : j ≡ i = omega arith in absurd (false_true (sym g ∙ ap f z ∙ e))

-- ---- sums over a list

unfoldable pub sum_over : (ℕ → ℕ) → List ℕ → ℕ
sum_over g [] = 0
sum_over g (x ∷ l) = g x + sum_over g l

pub sum_same : (g h : ℕ → ℕ) (l : List ℕ) → ((x : ℕ) → Mem x l → g x ≡ h x) → sum_over g l ≡ sum_over h l
unfolding sum_over
sum_same g h [] e = refl
sum_same g h (x ∷ l) e = omega (arith, e x here, sum_same g h l (λ y m. e y (there m)))

pub each_length : (f : ℕ → List ℕ) (l : List ℕ) → length (each f l) ≡ sum_over (λ x. length (f x)) l
unfolding each sum_over
each_length f [] = refl
each_length f (x ∷ l) = omega (arith, length-append (f x) (each f l), each_length f l)

pub each_same : (f g : ℕ → List ℕ) (l : List ℕ) → ((x : ℕ) → Mem x l → f x ≡ g x) → each f l ≡ each g l
unfolding each
each_same f g [] e = refl
each_same f g (x ∷ l) e = rw (e x here) (ap (λ (r : List ℕ). g x ++ r) (each_same f g l (λ y m. e y (there m))))

-- the test without x
abbrev but : (ℕ → Bool) → ℕ → ℕ → Bool
but f x j = pick (eqb j x) false (f j)

but_other : (f : ℕ → Bool) (x j : ℕ) → (j ≡ x → ⊥) → but f x j ≡ f j
but_other f x j d = rw (ne_eqb j x d)

-- one number taken out of the sum
sum-out : (f : ℕ → Bool) (g : ℕ → ℕ) (x k j : ℕ) → j ≤ x → x < j + k → f x ≡ true → sum_over g (passing f k j) ≡ g x + sum_over g (passing (but f x) k j)
unfolding passing sum_over
sum-out f g x zero j a b e = absurd (omega arith)
sum-out f g x (suc k) j a b e = by (same? j x) (λ l. sum-out f g x k (j + 1) l (omega arith) e)
  where
    by : {t : Bool} → Same j x t → (j + 1 ≤ x → sum_over g (passing f k (j + 1)) ≡ g x + sum_over g (passing (but f x) k (j + 1)))
        → sum_over g (pick (f j) (j ∷ passing f k (j + 1)) (passing f k (j + 1))) ≡ g x + sum_over g (pick (pick t false (f j)) (j ∷ passing (but f x) k (j + 1)) (passing (but f x) k (j + 1)))
    by (same q) ih =
        let s : passing (but f x) k (j + 1) ≡ passing f k (j + 1) = passing_same (but f x) f k (j + 1) (λ i l m. but_other f x i (λ z. omega arith)) in
        rw (ap f q ∙ e, s) (omega (arith, ap g q))
    by (differs d) ih = inner (f j) (ih (omega arith))
      where
        inner : (u : Bool) → sum_over g (passing f k (j + 1)) ≡ g x + sum_over g (passing (but f x) k (j + 1))
            → sum_over g (pick u (j ∷ passing f k (j + 1)) (passing f k (j + 1))) ≡ g x + sum_over g (pick u (j ∷ passing (but f x) k (j + 1)) (passing (but f x) k (j + 1)))
        inner true h = omega arith
        inner false h = h

-- a list in which each stands once, and exactly those that pass
pub sum-passing : (R : ℕ → ℕ → Type 0) → ((x : ℕ) → R x x → ⊥) → (g : ℕ → ℕ) (k j : ℕ) {l : List ℕ} → Rising R l → (f : ℕ → Bool) → ((i : ℕ) → Mem i l → (j ≤ i) × (i < j + k) × (f i ≡ true))
    → ((i : ℕ) → j ≤ i → i < j + k → f i ≡ true → Mem i l) → sum_over g l ≡ sum_over g (passing f k j)
unfolding sum_over
sum-passing R irr g k j done f to from = ap (sum_over g) (sym (passing_none f k j (λ i a b. out i a b (f i) refl)))
  where
    out : (i : ℕ) → j ≤ i → i < j + k → (t : Bool) → f i ≡ t → t ≡ false
    out i a b true e = absurd (not_mem (from i a b e) refl)
    out i a b false e = refl
sum-passing R irr g k j (more {x = x} {xs = xs} h r) f to from =
    let (a, b, e) = to x here in
    let rest : sum_over g xs ≡ sum_over g (passing (but f x) k j) = sum-passing R irr g k j r (but f x) (λ i m. inside i m (to i (there m))) (λ i p q t. others i (same? i x) t (λ s. from i p q s)) in
    omega (arith, sum-out f g x k j a b e)
  where
    inside : (i : ℕ) → Mem i xs → (j ≤ i) × (i < j + k) × (f i ≡ true) → (j ≤ i) × (i < j + k) × (but f x i ≡ true)
    inside i m (a, b, e) = (a, b, but_other f x i (λ z. irr x (subst (λ (y : ℕ). R x y) z (h i m))) ∙ e)

    others : (i : ℕ) {t : Bool} → Same i x t → pick t false (f i) ≡ true → (f i ≡ true → Mem i (x ∷ xs)) → Mem i xs
    others i (same z) e q = absurd (false_true e)
    others i (differs d) e q = ⊎_elim (λ z. absurd (d z)) (λ m. m) (mem_cases (q e))

-- ---- lists in order

pub passing_rises : (R : ℕ → ℕ → Type 0) (f : ℕ → Bool) (k j : ℕ) → ((x y : ℕ) → j ≤ x → x < y → y < j + k → f x ≡ true → f y ≡ true → R x y) → Rising R (passing f k j)
unfolding passing
passing_rises R f zero j h = done
passing_rises R f (suc k) j h = by (f j) refl (passing_rises R f k (j + 1) (λ x y a b c d e. h x y (omega arith) b (omega arith) d e))
  where
    by : (t : Bool) → f j ≡ t → Rising R (passing f k (j + 1)) → Rising R (pick t (j ∷ passing f k (j + 1)) (passing f k (j + 1)))
    by true e r = more (λ y m. let (a, b, c) = passing_in f k (j + 1) y m in h j y (omega arith) (omega arith) (omega arith) e c) r
    by false e r = r

-- two lists of the same numbers, each in order, are one
rising_once : (R : ℕ → ℕ → Type 0) → ((x : ℕ) → R x x → ⊥) → ((x y z : ℕ) → R x y → R y z → R x z) → {l m : List ℕ} → Rising R l → Rising R m → ((i : ℕ) → Mem i l → Mem i m) → ((i : ℕ) → Mem i m → Mem i l) → l ≡ m
rising_once R irr trans done done to from = refl
rising_once R irr trans done (more {x = y} h r) to from = absurd (not_mem (from y here) refl)
rising_once R irr trans (more {x = x} h r) done to from = absurd (not_mem (to x here) refl)
rising_once R irr trans (more {x = x} {xs = xs} h r) (more {x = y} {xs = ys} g s) to from =
    let e : x ≡ y = ⊎_elim (λ z. z) (λ m. ⊎_elim (λ z. sym z) (λ n. absurd (irr x (trans x y x (h y n) (g x m)))) (mem_cases (from y here))) (mem_cases (to x here)) in
    let rest : xs ≡ ys = rising_once R irr trans r s
    (λ i m. ⊎_elim (λ z. absurd (irr x (subst (λ (a : ℕ). R x a) (z ∙ sym e) (h i m)))) (λ n. n) (mem_cases (to i (there m))))
    (λ i m. ⊎_elim (λ z. absurd (irr y (subst (λ (a : ℕ). R y a) (z ∙ e) (g i m)))) (λ n. n) (mem_cases (from i (there m)))) in
    λ k. e k ∷ rest k

-- ---- the children of a node

module _ (ns nm : List ℕ) (p : ℕ) where
  abbrev written_kids : List ℕ
  written_kids = kids ns nm p (nodes_in ns) 0

  inside : (i : ℕ) → Mem i written_kids → (1 ≤ i) × (i < 1 + (nodes_in ns - 1)) × (is_child ns p i ≡ true)
  unfolding children
  inside i m = let (a, b, c) = (children_are ns nm p i).0 m in (a, omega arith, eq-eqb (parent_at ns i) p c)

  all : (i : ℕ) → 1 ≤ i → i < 1 + (nodes_in ns - 1) → is_child ns p i ≡ true → Mem i written_kids
  unfolding children
  all i a b c = (children_are ns nm p i).1 (a, omega arith, eqb-true (parent_at ns i) p c)

  rise : Rising (λ x y. before ns nm x y ≡ true) written_kids
  unfolding children
  rise = children_rise ns nm p

  -- THE CLAIMS

  pub kids_sum : (g : ℕ → ℕ) → sum_over g written_kids ≡ sum_over g (table_kids ns p (nodes_in ns - 1) 1)
  kids_sum g = sum-passing (λ x y. before ns nm x y ≡ true) (before_not ns nm) g (nodes_in ns - 1) 1 rise (is_child ns p) inside all

  -- where each child comes before those behind it
  pub kids_same : ((x y : ℕ) → 0 < x → x < y → y < nodes_in ns → parent_at ns x ≡ p → parent_at ns y ≡ p → before ns nm x y ≡ true) → written_kids ≡ table_kids ns p (nodes_in ns - 1) 1
  kids_same h =
      rising_once (λ x y. before ns nm x y ≡ true) (before_not ns nm) (before_trans ns nm) rise
      (passing_rises (λ x y. before ns nm x y ≡ true) (is_child ns p) (nodes_in ns - 1) 1 (λ x y a b c d e. h x y a b (omega arith) (eqb-true (parent_at ns x) p d) (eqb-true (parent_at ns y) p e)))
      (λ i m. let (a, b, c) = inside i m in passing_all (is_child ns p) (nodes_in ns - 1) 1 i a b c)
      (λ i m. let (a, b, c) = passing_in (is_child ns p) (nodes_in ns - 1) 1 i m in all i a b c)
