-- Laws of the walk order's definitions, turned the way that the needs ask. Assumes nothing.
use mathlib.Core.Bool.{Bool, false}
use mathlib.Core.Path.{◌≡◌, refl, sym, ap, ◌∙◌}
use mathlib.Core.List.{List}
use Prim.Native.Nat.{ℕ, zero, suc, ◌+◌, ◌-◌, ◌≤◌, ◌<◌}
use native.Mathlib.Omega.{arith}
use lib.Dec.{leb, eqb}
use borrow.Author.Tests.{lt-ltb, le-ltb, le-leb, lt-leb, eq-eqb, ne_eqb}
use Rattle.laws.specs.Pick.{pick}
use Rattle.format.specs.Format.{depth_limit}
use Rattle.node.specs.Store.{nodes_in, parent_at}
use Rattle.walk_order.specs.Walk.{climbs_to, walks_from, walks, kid_from, kid_above}
use Rattle.walk_order.specs.Depth.{all_in}
use Rattle.walk_order.specs.Kid.{kid_enough}

-- ---- a climb

climb_step : (ns : List ℕ) (k i q : ℕ) → q < i → climbs_to ns k (parent_at ns i) q ≡ climbs_to ns (suc k) i q
unfolding climbs_to
climb_step ns k i q h = sym (rw (lt-ltb q i h))

module _ (ns : List ℕ) (left i q : ℕ) (r : Bool) (inv : climbs_to ns left i q ≡ r) where
  pub climb_none : left ≤ 0 → false ≡ r
  unfolding climbs_to
  climb_none h = let z : left ≡ 0 = omega arith in rw z at inv

  pub climb_there : 0 < left → i ≤ q → (t : Bool) → t ≡ eqb i q → t ≡ r
  unfolding climbs_to
  climb_there h k t e = let z : left ≡ suc (left - 1) = omega arith in e ∙ sym (rw (z, le-ltb q i k)) ∙ inv

  pub climb_up : 0 < left → q < i → (p next : ℕ) → p ≡ parent_at ns i → next ≡ left - 1 → climbs_to ns next p q ≡ r
  climb_up h k p next e f =
      let z : suc next ≡ left = omega arith in
      ap (λ (x : ℕ). climbs_to ns next x q) e ∙ climb_step ns next i q k ∙ ap (λ (x : ℕ). climbs_to ns x i q) z ∙ inv

-- ---- the pass over the table

-- node j does as walk order asks
abbrev pub follows : List ℕ → ℕ → Bool
follows ns j = climbs_to ns depth_limit (j - 1) (parent_at ns j)

walk_all : (ns : List ℕ) (k j : ℕ) → all_in (follows ns) k j ≡ walks_from depth_limit ns k j
unfolding all_in walks_from
walk_all ns zero j = refl
walk_all ns (suc k) j = ap (λ (t : Bool). pick (follows ns j) t false) (walk_all ns k (j + 1))

pub walk_is : (ns : List ℕ) (n : ℕ) → n ≡ nodes_in ns → all_in (follows ns) (n - 1) 1 ≡ walks depth_limit ns
unfolding walks
walk_is ns n e = walk_all ns (n - 1) 1 ∙ rw e

-- ---- the climb to a child

pub kid_start : (ns : List ℕ) (p x : ℕ) → kid_from ns p x x ≡ kid_above ns p x
unfolding kid_above
kid_start ns p x = refl

module _ (ns : List ℕ) (p x r : ℕ) (inv : kid_from ns p x x ≡ r) where
  pub kid_end : x ≤ p → 0 ≡ r
  unfolding kid_from
  kid_end h = by x h ∙ inv
    where
      by : (k : ℕ) → x ≤ p → 0 ≡ kid_from ns p k x
      by zero h = refl
      by (suc k) h = sym (rw (le-leb x p h))

  module _ (h : p < x) (q : ℕ) (e : q ≡ parent_at ns x) where
    cut_kid : pick (eqb q p) x (pick (leb x q) 0 (kid_from ns p (x - 1) q)) ≡ r
    unfolding kid_from
    cut_kid = let z : x ≡ suc (x - 1) = omega arith in sym (ap (λ (k : ℕ). kid_from ns p k x) z ∙ rw (lt-leb x p h, ← e)) ∙ inv

    pub kid_here : q ≡ p → x ≡ r
    kid_here k = sym (rw (eq-eqb q p k)) ∙ cut_kid

    pub kid_lost : (q ≡ p → ⊥) → x ≤ q → 0 ≡ r
    kid_lost k l = sym (rw (ne_eqb q p k, le-leb x q l)) ∙ cut_kid

    pub kid_up : (q ≡ p → ⊥) → q < x → kid_from ns p q q ≡ r
    kid_up k l = kid_enough ns p q (x - 1) q (omega arith) (omega arith) ∙ sym (rw (ne_eqb q p k, lt-leb x q l)) ∙ cut_kid

pub ruleset laws = (climb_none, climb_there, climb_up, kid_start, kid_end, kid_here, kid_lost, kid_up)
