-- In a table in walk order all nodes stand below the first, and every child stands behind its parent. Over the depth and over all such tables. Assumes nothing.
use Rattle.std.specs.Prelude.{Bool, true, false, ◌≡◌, refl, List, ℕ, zero, suc, ◌+◌, ◌-◌, ◌≤◌, ◌<◌, eqb}
use Rattle.std.proofs.Common.{sym, subst, ⊎_elim, arith, eqb-true}
use Rattle.laws.specs.Pick.{pick}
use Rattle.laws.specs.Tests.{lt_or_ge, Less, less, not_less, less?}
use Rattle.node.specs.Store.{nodes_in, parent_at}
use Rattle.walk_order.specs.Walk.{climbs_to, walks_from, walks}
use Rattle.walk_order.specs.Below.{Above, higher, above_same, Below, parent_before}

pub false_true : false ≡ true → ⊥
false_true e = let z : ◌≡◌ {A = ℕ} 0 1 = cc in omega arith

-- ---- a climb

-- where a climb ends stands above its start
climb_above : (ns : List ℕ) (k x q : ℕ) → climbs_to ns k x q ≡ true → Above ns q x
unfolding climbs_to
climb_above ns zero x q e = absurd (false_true e)
climb_above ns (suc k) x q e = by (less? q x) (λ h. climb_above ns k (parent_at ns x) q h) e
  where
    by : {t : Bool} → Less q x t → (climbs_to ns k (parent_at ns x) q ≡ true → Above ns q (parent_at ns x)) → pick t (climbs_to ns k (parent_at ns x) q) (eqb x q) ≡ true → Above ns q x
    by (less l) f h = higher l (f h)
    by (not_less l) f h = above_same ns q x (sym (eqb-true x q h))

-- ---- a table in walk order

pub both : (a b : Bool) → pick a b false ≡ true → (a ≡ true) × (b ≡ true)
both true b h = (refl, h)
both false b h = absurd (false_true h)

each_walks : (limit : ℕ) (ns : List ℕ) (k j : ℕ) → walks_from limit ns k j ≡ true → (i : ℕ) → j ≤ i → i < j + k → climbs_to ns limit (i - 1) (parent_at ns i) ≡ true
unfolding walks_from
each_walks limit ns zero j h i l m = absurd (omega arith)
each_walks limit ns (suc k) j h i l m =
    let t = both (climbs_to ns limit (j - 1) (parent_at ns j)) (walks_from limit ns k (j + 1)) h in
    ⊎_elim (λ q. each_walks limit ns k (j + 1) t.1 i (omega arith) (omega arith)) (λ q. subst (λ (x : ℕ). climbs_to ns limit (x - 1) (parent_at ns x) ≡ true) (equal q) t.0) (lt_or_ge j i)
  where
    equal : i ≤ j → j ≡ i
    equal q = omega arith

module _ (limit : ℕ) (ns : List ℕ) (w : walks limit ns ≡ true) where
  reached : (i : ℕ) → 0 < i → i < nodes_in ns → climbs_to ns limit (i - 1) (parent_at ns i) ≡ true
  unfolding walks
  reached i h l = each_walks limit ns (nodes_in ns - 1) 1 w i (omega arith) (omega arith)

  -- the whole table stands below node 0
  pub whole_below : Below ns 0 (nodes_in ns)
  whole_below = record { inside = λ j h l. omega arith; follows = λ j h l. climb_above ns limit (j - 1) (parent_at ns j) (reached j h l) }

  -- a child stands behind its parent
  pub child_behind : (i : ℕ) → 0 < i → i < nodes_in ns → parent_at ns i < i
  child_behind i h l = parent_before ns 0 (nodes_in ns) whole_below i h l
