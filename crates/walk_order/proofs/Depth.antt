-- Laws of the pass that tells how deep the nodes of a table stand, turned the way that the needs ask. Assumes nothing.
use Rattle.std.specs.Prelude.{Bool, true, false, cond, ◌≡◌, refl, List, Option, Some, None, ℕ, zero, suc, ◌+◌, ◌-◌, ◌≤◌, ◌<◌, eqb}
use Rattle.std.proofs.Math.Path.{subst₂}
use Rattle.std.proofs.Common.{sym, ap, ◌∙◌, subst, arith, le-ltb, eq-eqb, ne_eqb}
use Rattle.laws.specs.Tests.{Same, same, differs, same?}
use Rattle.laws.specs.Pick.{pick}
use Rattle.format.specs.Format.{depth_limit}
use Rattle.node.specs.Store.{nodes_in, parent_at}
use Rattle.walk_order.specs.Walk.{climbs_to, walks_from, walks}
use Rattle.walk_order.specs.Depth.{climbs, all_in, walks_within, Level, root, below, level_some, level_up, level_within, level_climbs, Climbed}
use Rattle.walk_order.proofs.Laws.{climb_up}

-- ---- the climb

-- the node stands so deep, and from it the climb answers what the whole answers
pub record Climbing (ns : List ℕ) (from depth to node left : ℕ) : Type 0 where
  pub level : Level ns left node
  pub small : left ≤ depth_limit
  pub run : climbs_to ns (left + (depth_limit - depth)) node to ≡ climbs_to ns depth_limit from to

pub climbing_start : (ns : List ℕ) (from depth to : ℕ) → Level ns depth from → depth ≤ depth_limit → Climbing ns from depth to from depth
climbing_start ns from depth to l h = let z : depth + (depth_limit - depth) ≡ depth_limit = omega arith in record { level = l; small = h; run = rw z }

module _ (ns : List ℕ) (from depth to node left : ℕ) (inv : Climbing ns from depth to node left) where
  pub climbing_some : 1 ≤ left
  climbing_some = level_some inv.level

  pub climbing_less : left - 1 < left
  climbing_less = omega (arith, climbing_some)

  pub climbing_up : to < node → (up : ℕ) → up ≡ parent_at ns node → Climbing ns from depth to up (left - 1)
  climbing_up h up e =
      let some : 1 ≤ left = climbing_some in
      let z : left + (depth_limit - depth) - 1 ≡ left - 1 + (depth_limit - depth) = omega arith in
      record {
        level = subst (λ (x : ℕ). Level ns (left - 1) x) (sym e) (level_up inv.level (omega arith));
        small = omega (arith, inv.small);
        run = ap (λ (k : ℕ). climbs_to ns k up to) (sym z) ∙ climb_up ns (left + (depth_limit - depth)) node to (climbs_to ns depth_limit from to) inv.run (omega arith) h up (left + (depth_limit - depth) - 1) e refl;
      }

  ends : (k : ℕ) → 1 ≤ k → node ≤ to → climbs_to ns k node to ≡ pick (eqb node to) true false
  unfolding climbs_to
  ends zero a h = absurd (omega arith)
  ends (suc k) a h = rw (le-ltb to node h) (by (eqb node to))
    where
      by : (t : Bool) → t ≡ pick t true false
      by true = refl
      by false = refl

  end : node ≤ to → climbs_to ns depth_limit from to ≡ pick (eqb node to) true false
  end h = let some : 1 ≤ left = climbing_some in sym inv.run ∙ ends (left + (depth_limit - depth)) (omega arith) h

  pub climbing_end : node ≤ to → (r : Option ℕ) → r ≡ cond (eqb node to) (Some left) None → Climbed ns from to r
  climbing_end h r e = by (same? node to) e
    where
      by : {t : Bool} → Same node to t → r ≡ cond t (Some left) None → Climbed ns from to r
      by (same q) e = record {
        lost = λ z. let clash : ◌≡◌ {A = Option ℕ} (Some left) None = sym e ∙ z in cc;
        found = λ up z. let z : left ≡ up = cc in (end h ∙ rw (eq-eqb node to q), subst₂ (λ (k x : ℕ). Level ns k x) z q inv.level, omega (arith, inv.small));
      }
      by (differs d) e = record {
        lost = λ z. end h ∙ rw (ne_eqb node to d);
        found = λ up z. let clash : ◌≡◌ {A = Option ℕ} None (Some up) = sym e ∙ z in cc;
      }

-- ---- the pass

-- node j - 1 stands so deep, and the test of the nodes that are left answers what the whole answers
pub record Deepening (ns : List ℕ) (n depth j : ℕ) : Type 0 where
  pub low : 1 ≤ j
  pub level : Level ns depth (j - 1)
  pub within : depth ≤ depth_limit
  pub run : pick (walks_from depth_limit ns (n - j) j) (all_in (climbs ns depth_limit) (n - j) j) false ≡ walks_within depth_limit ns

pub deepening_start : (ns : List ℕ) (n : ℕ) → n ≡ nodes_in ns → Deepening ns n 1 1
unfolding walks_within walks all_in climbs
deepening_start ns n e = record {
  low = omega arith;
  level = root;
  within = omega arith;
  run = rw e (ap (λ (t : Bool). pick (walks_from depth_limit ns (nodes_in ns - 1) 1) t false) (first (nodes_in ns)));
}
  where
    first : (m : ℕ) → all_in (climbs ns depth_limit) (m - 1) 1 ≡ all_in (climbs ns depth_limit) m 0
    first zero = refl
    first (suc m) = let z : suc m - 1 ≡ m = omega arith in rw z

module _ (ns : List ℕ) (n depth j : ℕ) (inv : Deepening ns n depth j) where
  pub deepening_end : n ≤ j → true ≡ walks_within depth_limit ns
  unfolding walks_from all_in
  deepening_end h = let z : n - j ≡ 0 = omega arith in rw z at inv.run

  pub deepening_level : (b : ℕ) → b ≡ j - 1 → Level ns depth b
  deepening_level b e = subst (λ (x : ℕ). Level ns depth x) (sym e) inv.level

  module _ (h : j < n) (p b : ℕ) (ep : p ≡ parent_at ns j) (eb : b ≡ j - 1) (r : Option ℕ) (climbed : Climbed ns b p r) where
    moved : {t : Bool} → climbs_to ns depth_limit b p ≡ t → climbs_to ns depth_limit (j - 1) (parent_at ns j) ≡ t
    moved {t} = λ q. sym (λ k. climbs_to ns depth_limit (eb k) (ep k)) ∙ q

    cut : pick (pick (climbs_to ns depth_limit (j - 1) (parent_at ns j)) (walks_from depth_limit ns (n - (j + 1)) (j + 1)) false) (pick (climbs ns depth_limit j) (all_in (climbs ns depth_limit) (n - (j + 1)) (j + 1)) false) false ≡ walks_within depth_limit ns
    unfolding walks_from all_in
    cut = let z : n - j ≡ suc (n - (j + 1)) = omega arith in rw z at inv.run

    pub deepening_lost : r ≡ None → false ≡ walks_within depth_limit ns
    deepening_lost z = sym (rw (moved (climbed.lost z))) ∙ cut

    module _ (up : ℕ) (some : r ≡ Some up) where
      level_here : Level ns (suc up) j
      level_here = let low : 1 ≤ j = inv.low in below {j = j} (omega arith) (sym ep) (climbed.found up some).1

      pub deepening_deep : up ≡ depth_limit → false ≡ walks_within depth_limit ns
      deepening_deep z = by (climbs ns depth_limit j) refl (walks_from depth_limit ns (n - (j + 1)) (j + 1)) (all_in (climbs ns depth_limit) (n - (j + 1)) (j + 1)) (climbs_to ns depth_limit (j - 1) (parent_at ns j)) cut
        where
          by : (t : Bool) → climbs ns depth_limit j ≡ t → (a b c : Bool) → pick (pick c a false) (pick t b false) false ≡ walks_within depth_limit ns → false ≡ walks_within depth_limit ns
          by true e a b c q = absurd (deep (level_within level_here depth_limit e))
            where
              deep : suc up ≤ depth_limit → ⊥
              deep l = omega arith
          by false e a b true q = both_false a q
            where
              both_false : (a : Bool) → pick a false false ≡ walks_within depth_limit ns → false ≡ walks_within depth_limit ns
              both_false true q = q
              both_false false q = q
          by false e a b false q = q

      pub deepening_small : (up ≡ depth_limit → ⊥) → up + 1 ≤ depth_limit
      deepening_small z = let small : up ≤ depth_limit = (climbed.found up some).2 in omega arith

      pub deepening_more : (up ≡ depth_limit → ⊥) → Deepening ns n (up + 1) (j + 1)
      deepening_more z = record {
        low = omega arith;
        level = let a : suc up ≡ up + 1 = omega arith in let b : j ≡ j + 1 - 1 = omega arith in subst₂ (λ (k i : ℕ). Level ns k i) a b level_here;
        within = deepening_small z;
        run = sym (rw (moved (climbed.found up some).0, level_climbs level_here depth_limit (omega (arith, deepening_small z)))) ∙ cut;
      }

pub ruleset depth-laws = (climbing_start, climbing_some, climbing_less, climbing_up, climbing_end, deepening_start, deepening_end, deepening_level, deepening_lost, deepening_deep, deepening_small, deepening_more)
