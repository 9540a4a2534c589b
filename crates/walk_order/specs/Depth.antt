-- How deep the nodes of a table stand (01, Writing: "depth is at most 64", by 02, A2, 512; the root has depth 1), and the tables in walk order in which no node stands too deep. Over
-- the depth. Assumes nothing.
use Rattle.std.specs.Prelude.{Bool, true, false, ◌≡◌, refl, Option, Some, None, List, eqb, ◌&&◌}
use Rattle.std.proofs.Math.Path.{sym}
use Rattle.std.proofs.Common.{ap, ◌∙◌, subst, ⊎_elim, ne_eqb}
use Prim.Native.Nat.{ℕ, zero, suc, ◌+◌, ◌-◌, ◌≤◌, ◌<◌}
use native.Mathlib.Omega.{arith}
use Rattle.std.specs.List.{list_all, range_with_len}
use Rattle.laws.specs.Pick.{pick}
use Rattle.laws.specs.Tests.{lt_or_ge}
use Rattle.node.specs.Store.{nodes_in, parent_at}
use Rattle.format.specs.Format.{depth_limit}
use Rattle.walk_order.specs.Walk.{climbs_to, walks}
use Rattle.walk_order.specs.Child.{false_true, both}

-- ---- the tests

-- from node i the root is reached by at most so many nodes, i and the root counted
unfoldable pub climbs : List ℕ → ℕ → ℕ → Bool
climbs ns zero i = false
climbs ns (suc levels) i = pick (eqb i 0) true (climbs ns levels (parent_at ns i))

-- k numbers from i on all pass the test
unfoldable pub all_in : (ℕ → Bool) → ℕ → ℕ → Bool
all_in p zero i = true
all_in p (suc k) i = pick (p i) (all_in p k (i + 1)) false

-- in walk order, and no node deeper than allowed
unfoldable pub walks_within : ℕ → List ℕ → Bool
walks_within limit ns = pick (walks limit ns) (all_in (climbs ns limit) (nodes_in ns) 0) false

-- ---- what they say

pub all_each : (p : ℕ → Bool) (n i : ℕ) → all_in p n i ≡ true → (k : ℕ) → i ≤ k → k < i + n → p k ≡ true
unfolding all_in
all_each p zero i h k l m = absurd (omega arith)
all_each p (suc n) i h k l m =
    let t = both (p i) (all_in p n (i + 1)) h in
    ⊎_elim (λ q. all_each p n (i + 1) t.1 k (omega arith) (omega arith)) (λ q. subst (λ (x : ℕ). p x ≡ true) (same q) t.0) (lt_or_ge i k)
  where
    same : k ≤ i → i ≡ k
    same q = omega arith

pub each_all : (p : ℕ → Bool) (n i : ℕ) → ((k : ℕ) → i ≤ k → k < i + n → p k ≡ true) → all_in p n i ≡ true
unfolding all_in
each_all p zero i h = refl
each_all p (suc n) i h = rw (h i (omega arith) (omega arith)) (each_all p n (i + 1) (λ k l m. h k (omega arith) (omega arith)))

-- the library's `all` over a range
pub all_is : (p : ℕ → Bool) (n i : ℕ) → list_all p (range_with_len i n) ≡ all_in p n i
unfolding all_in
all_is p zero i = refl
all_is p (suc n) i = by (p i) (all_is p n (i + 1))
  where
    by : (t : Bool) → list_all p (range_with_len (i + 1) n) ≡ all_in p n (i + 1) → (t && list_all p (range_with_len (i + 1) n)) ≡ pick t (all_in p n (i + 1)) false
    by true h = h
    by false h = refl

-- what is left of a test of all numbers before n, from i on
module _ (p : ℕ → Bool) (n i : ℕ) (r : Bool) (inv : all_in p (n - i) i ≡ r) where
  pub all_end : n ≤ i → true ≡ r
  unfolding all_in
  all_end h = let z : n - i ≡ 0 = omega arith in rw z at inv

  cut : (t : Bool) → i < n → t ≡ p i → pick t (all_in p (n - (i + 1)) (i + 1)) false ≡ r
  unfolding all_in
  cut t h e = let z : n - i ≡ suc (n - (i + 1)) = omega arith in sym (rw (z, ← e)) ∙ inv

  pub all_more : i < n → (t : Bool) → t ≡ p i → t ≡ true → all_in p (n - (i + 1)) (i + 1) ≡ r
  all_more h t e k = sym (ap (λ (b : Bool). pick b (all_in p (n - (i + 1)) (i + 1)) false) k) ∙ cut t h e

  pub all_not : i < n → (t : Bool) → t ≡ p i → t ≡ false → false ≡ r
  all_not h t e k = sym (ap (λ (b : Bool). pick b (all_in p (n - (i + 1)) (i + 1)) false) k) ∙ cut t h e

pub within_walks : (limit : ℕ) (ns : List ℕ) → walks_within limit ns ≡ true → walks limit ns ≡ true
unfolding walks_within
within_walks limit ns w = (both (walks limit ns) (all_in (climbs ns limit) (nodes_in ns) 0) w).0

pub within_climbs : (limit : ℕ) (ns : List ℕ) → walks_within limit ns ≡ true → (i : ℕ) → i < nodes_in ns → climbs ns limit i ≡ true
unfolding walks_within
within_climbs limit ns w i l =
    all_each (climbs ns limit) (nodes_in ns) 0 (both (walks limit ns) (all_in (climbs ns limit) (nodes_in ns) 0) w).1 i (omega arith) (omega arith)

-- ---- how deep a node stands

-- the root has depth 1
pub data Level (ns : List ℕ) : ℕ → ℕ → Type 0 where
  root : Level ns 1 0
  below : {k i j : ℕ} → 0 < j → parent_at ns j ≡ i → Level ns k i → Level ns (suc k) j

pub level_some : {ns : List ℕ} {k j : ℕ} → Level ns k j → 1 ≤ k
level_some root = omega arith
level_some (below a p l) = omega arith

pub level_up : {ns : List ℕ} {k j : ℕ} → Level ns k j → 0 < j → Level ns (k - 1) (parent_at ns j)
level_up root h = absurd (omega arith)
level_up {ns} (below {k = k} {i = i} {j = j} a p l) h =
    let e : k ≡ suc k - 1 = omega arith in
    subst (λ (x : ℕ). Level ns (suc k - 1) x) (sym p) (subst (λ (m : ℕ). Level ns m i) e l)

pub level_within : {ns : List ℕ} {k i : ℕ} → Level ns k i → (levels : ℕ) → climbs ns levels i ≡ true → k ≤ levels
unfolding climbs
level_within root zero e = absurd (false_true e)
level_within root (suc levels) e = omega arith
level_within (below h p l) zero e = absurd (false_true e)
level_within {ns} (below {k = k} {i = i} {j = j} h p l) (suc levels) e =
    let d : j ≡ 0 → ⊥ = λ q. omega arith in
    let f : climbs ns levels (parent_at ns j) ≡ true = rw (ne_eqb j 0 d) at e in
    let g = level_within l levels (subst (λ (x : ℕ). climbs ns levels x ≡ true) p f) in
    omega arith

pub level_climbs : {ns : List ℕ} {k i : ℕ} → Level ns k i → (levels : ℕ) → k ≤ levels → climbs ns levels i ≡ true
unfolding climbs
level_climbs l zero h = absurd (none (level_some l) h)
  where
    none : {k : ℕ} → 1 ≤ k → k ≤ 0 → ⊥
    none a b = omega arith
level_climbs root (suc levels) h = refl
level_climbs {ns} (below {j = j} a p l) (suc levels) h =
    let d : j ≡ 0 → ⊥ = λ e. omega arith in
    rw (ne_eqb j 0 d) (subst (λ (x : ℕ). climbs ns levels x ≡ true) (sym p) (level_climbs l levels (omega arith)))

-- ---- a climb from node `from`: how deep its end stands, where it is reached

pub record Climbed (ns : List ℕ) (from to : ℕ) (r : Option ℕ) : Type 0 where
  pub lost : r ≡ None → climbs_to ns depth_limit from to ≡ false
  pub found : (up : ℕ) → r ≡ Some up → (climbs_to ns depth_limit from to ≡ true) × Level ns up to × (up ≤ depth_limit)
