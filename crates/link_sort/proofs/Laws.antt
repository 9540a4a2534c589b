-- Laws of the definitions, turned the way a return or a loop asks, for `search`. Assumes nothing.
use mathlib.Core.Bool.{Bool, true, false, not}
use mathlib.Core.Path.{◌≡◌, refl, sym, ap, ◌∙◌}
use mathlib.Core.List.{List}
use Rattle.std.proofs.Common.{◌⊎◌, ⊎_elim}
use Prim.Native.Nat.{ℕ, zero, suc, ◌+◌, ◌-◌, ◌/◌, ◌≤◌, ◌<◌}
use native.Mathlib.Numerals.{sub-one}
use native.Mathlib.Omega.{arith}
use lib.Dec.{ltb}
use borrow.Author.Tests.{lt-ltb, le-ltb}
use Rattle.node.specs.Store.{with_parent}
use Rattle.walk_order.specs.Walk.{kid_above}
use Rattle.walk_order.specs.Kid.{kid_low}
use Rattle.link_sort.specs.declared.Runs.{Runs}
use Rattle.link_sort.specs.declared.Strung.{Strung}
use Rattle.link_sort.specs.declared.Sorted.{Sorted}
use Rattle.link_sort.specs.declared.Walk.{Walk}
use Rattle.std.specs.Ordering.{ordering_then, nat_cmp, is_lt, is_ne}
use Rattle.std.proofs.lemmas.Bool.Decides.{nat_tests}
use Rattle.std.specs.Prelude.{cond}
use Rattle.link_sort.specs.Runs.{foremost, unless_equal, opposite, turn_of, merge_run, lone_of, both_of, halves, sort_run, step_of, walk_run, strung_from, strung_kids}
use Rattle.link_sort.specs.Enough.{strung_none, strung_step, earlier_low, strung_enough}
use Rattle.std.specs.declared.cmp.Ordering.{Ordering}
use Rattle.std.specs.declared.cmp.Ordering.TheVariants.{Equal, Greater, Less}

-- ---- the order of two nodes, in std's words

pub foremost_is : (o : Ordering) (i j : ℕ) → is_lt (ordering_then o (nat_cmp i j)) ≡ foremost o (ltb i j)
foremost_is Less i j = refl
foremost_is Equal i j = grind (arith, nat_tests)
foremost_is Greater i j = refl

pub unless_is : (o : Ordering) (was : Bool) → cond was (is_ne o) false ≡ unless_equal o was
unless_is Less true = refl
unless_is Less false = refl
unless_is Equal true = refl
unless_is Equal false = refl
unless_is Greater true = refl
unless_is Greater false = refl

pub ruleset orders = (foremost_is, unless_is)

-- ---- in the loop of a merge: what is left behind k turns, from the present state, gives o

module _ (file : List ℕ) (up : Bool) (n k : ℕ) (s : List ℕ) (r : Runs) (o : ℕ × List ℕ) (inv : merge_run file up (n - k) s r ≡ o) where
  pub merge_end : n ≤ k → (r.out, s) ≡ o
  unfolding merge_run
  merge_end h = let q : n - k ≡ 0 = omega arith in sym (rw q) ∙ inv

  pub merge_next : k < n → (r₁ : Runs) (s₁ : List ℕ) → (r₁, s₁) ≡ turn_of file up s r → merge_run file up (n - (k + 1)) s₁ r₁ ≡ o
  unfolding merge_run
  merge_next more r₁ s₁ e =
      let q : n - k ≡ suc (n - (k + 1)) = omega arith in
      let turn : merge_run file up (n - (k + 1)) s₁ r₁ ≡ merge_run file up (suc (n - (k + 1))) s r = ap (λ (t : Runs × List ℕ). merge_run file up (n - (k + 1)) t.1 t.0) e in
      turn ∙ ap (λ (m : ℕ). merge_run file up m s r) (sym q) ∙ inv

-- ---- the sort

opposite_is : (up : Bool) → not up ≡ opposite up
opposite_is true = refl
opposite_is false = refl

module _ (file : List ℕ) (d : ℕ) (up : Bool) (first n : ℕ) (s : List ℕ) where
  pub sort_lone : (r : Sorted) → r ≡ lone_of first n s → (d ≡ 0) ⊎ (n < 2) → (r, s) ≡ sort_run file d up first n s
  unfolding sort_run
  sort_lone r e q = ⊎_elim flat (few d) q
    where
      flat : d ≡ 0 → (r, s) ≡ sort_run file d up first n s
      flat z = rw (z, e)

      few : (m : ℕ) → n < 2 → (r, s) ≡ sort_run file m up first n s
      few zero h = rw e
      few (suc m) h = rw (lt-ltb n 2 h, e)

  module _ (deep : d ≡ 0 → ⊥) (many : 2 ≤ n) where
    sort_step : sort_run file d up first n s ≡ halves file (sort_run file (d - 1) (opposite up)) up first n s
    unfolding sort_run
    sort_step = by d deep
      where
        by : (m : ℕ) → (m ≡ 0 → ⊥) → sort_run file m up first n s ≡ halves file (sort_run file (m - 1) (opposite up)) up first n s
        by zero q = absurd (q refl)
        by (suc m) q = rw (le-ltb n 2 many, sub-one (suc m))

    pub sort_both : (a b : Sorted) (s₁ s₂ s₃ : List ℕ) (f : ℕ) → (a, s₁) ≡ sort_run file (d - 1) (not up) first (n / 2) s
        → (b, s₂) ≡ sort_run file (d - 1) (not up) a.rest (n - n / 2) s₁ → (f, s₃) ≡ merge_run file (not up) n s₂ (both_of (n / 2) (n - n / 2) a b)
        → (record { first = f; rest = b.rest }, s₃) ≡ sort_run file d up first n s
    sort_both a b s₁ s₂ s₃ f e g h = sym (sort_step ∙ rw (← opposite_is up, ← e, ← g, ← h))

pub ruleset sorts = (merge_end, merge_next, sort_lone)

-- ---- the walk

module _ (file : List ℕ) (me n : ℕ) (s : List ℕ) (w : Walk) (o : Bool × List ℕ) (inv : walk_run file me n s w ≡ o) where
  pub walk_end : n ≤ 0 → (w.differ, s) ≡ o
  unfolding walk_run
  walk_end h = let q : n ≡ 0 = omega arith in sym (rw q) ∙ inv

  pub walk_next : 0 < n → (w₁ : Walk) (s₁ : List ℕ) → (w₁, s₁) ≡ step_of file me n s w → walk_run file me (n - 1) s₁ w₁ ≡ o
  unfolding walk_run
  walk_next more w₁ s₁ e = sym (by n more e) ∙ inv
    where
      by : (m : ℕ) → 0 < m → (w₁, s₁) ≡ step_of file me m s w → walk_run file me m s w ≡ walk_run file me (m - 1) s₁ w₁
      by zero h e = absurd (omega arith)
      by (suc m) h e = rw (sub-one (suc m), ← e)

-- ---- the list

pub strung_start : (me last : ℕ) (s : List ℕ) → strung_from me last last (record { first = 0; count = 0 }) s ≡ strung_kids me last s
unfolding strung_kids
strung_start me last s = refl

module _ (me kid : ℕ) (r : Strung) (s : List ℕ) (o : Strung × List ℕ) (inv : strung_from me kid kid r s ≡ o) where
  pub strung_end : kid ≤ me → (r, s) ≡ o
  strung_end h = sym (strung_none me kid kid r s h) ∙ inv

  pub strung_next : me < kid → (earlier : ℕ) (s₁ : List ℕ) (count : ℕ) → earlier ≡ kid_above s me (kid - 1) → s₁ ≡ with_parent s kid r.first → count ≡ r.count + 1
      → strung_from me earlier earlier (record { first = kid; count = count }) s₁ ≡ o
  strung_next more earlier s₁ count e f g =
      let z : kid ≡ suc (kid - 1) = omega arith in
      let low : earlier ≤ kid - 1 = rw e (kid_low s me (kid - 1)) in
      strung_enough me earlier (kid - 1) earlier (record { first = kid; count = count }) s₁ (omega arith) low
      ∙ (λ i. strung_from me (kid - 1) (e i) (record { first = kid; count = g i }) (f i))
      ∙ sym (strung_step me (kid - 1) kid r s more)
      ∙ ap (λ (k : ℕ). strung_from me k kid r s) (sym z)
      ∙ inv

pub earlier_less : (me kid : ℕ) (s : List ℕ) (earlier : ℕ) → me < kid → earlier ≡ kid_above s me (kid - 1) → earlier < kid
earlier_less me kid s earlier h e = rw e (earlier_low me s kid h)

pub earlier_fits : (me kid : ℕ) (s : List ℕ) (earlier count last : ℕ) → count + kid ≤ last → me < kid → earlier ≡ kid_above s me (kid - 1) → count + 1 + earlier ≤ last
earlier_fits me kid s earlier count last h k e = let low = earlier_less me kid s earlier k e in omega arith

pub ruleset walks = (walk_end, walk_next, strung_start, strung_end, strung_next, earlier_less, earlier_fits)
