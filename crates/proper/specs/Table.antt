-- The test of a table says what 01 lists: a table passes exactly if it is proper. Over the depth and over all tables. Assumes nothing.
use Rattle.std.specs.Prelude.{Bool, false, ◌≡◌, refl, ◌⊎◌, ◌↔◌, List, ℕ, ◌-◌, ◌<◌, ltb, eqb}
use Rattle.std.proofs.Math.Bool.{true}
use Rattle.std.proofs.Math.Path.{ap}
use Rattle.std.proofs.Common.{◌∙◌, inl, inr, pos_of_ne-zero, arith}
use borrow.Author.Tests.{lt-ltb, eq-eqb, ltb-true, eqb-true, eqb-false}
use Rattle.laws.specs.Pick.{pick}
use Rattle.node.specs.Head.{count_half, minus_one}
use Rattle.node.specs.Store.{nodes_in, count_at, subtrees_at, parent_at, name_inside, name_at}
use Rattle.siblings.specs.Siblings.{siblings_differ}
use Rattle.walk_order.specs.Child.{both}
use Rattle.walk_order.specs.Depth.{all_each, each_all}
use Rattle.proper.specs.Proper.{parent_fits, count_fits, holds_none, name_fits, climbs, node_fits, child_count, kids_fit, nodes_fit, all_kids_fit, is_proper}

pub record Proper (limit : ℕ) (ns nm : List ℕ) : Type 0 where
  pub some : 0 < nodes_in ns
  pub root : parent_at ns 0 ≡ minus_one
  pub parents : (i : ℕ) → 0 < i → i < nodes_in ns → parent_at ns i < i
  pub counts : (i : ℕ) → i < nodes_in ns → (count_at ns i ≡ minus_one) ⊎ (count_at ns i < count_half)
  pub inside : (i : ℕ) → i < nodes_in ns → name_inside nm ns i ≡ true
  pub plain : (i : ℕ) → i < nodes_in ns → holds_none (name_at nm ns i) ≡ true
  pub depth : (i : ℕ) → i < nodes_in ns → climbs ns limit i ≡ true
  pub subtrees : (i : ℕ) → i < nodes_in ns → subtrees_at ns i ≡ child_count ns i (nodes_in ns - 1) 1
  pub distinct : (i : ℕ) → i < nodes_in ns → siblings_differ nm ns i 1 (nodes_in ns) ≡ true

-- ---- one node

parent_says : (ns : List ℕ) (i : ℕ) → parent_fits ns i ≡ true → (0 < i → parent_at ns i < i) × (i ≡ 0 → parent_at ns i ≡ minus_one)
unfolding parent_fits
parent_says ns i h = by (eqb i 0) refl h
  where
    by : (t : Bool) → eqb i 0 ≡ t → pick t (eqb (parent_at ns i) minus_one) (ltb (parent_at ns i) i) ≡ true → (0 < i → parent_at ns i < i) × (i ≡ 0 → parent_at ns i ≡ minus_one)
    by true e q = ((λ l. absurd (none (eqb-true i 0 e) l)), (λ z. eqb-true (parent_at ns i) minus_one q))
      where
        none : i ≡ 0 → 0 < i → ⊥
        none z l = omega arith
    by false e q = ((λ l. ltb-true (parent_at ns i) i q), (λ z. absurd (eqb-false i 0 e z)))

parent_is : (ns : List ℕ) (i : ℕ) → (0 < i → parent_at ns i < i) → (i ≡ 0 → parent_at ns i ≡ minus_one) → parent_fits ns i ≡ true
unfolding parent_fits
parent_is ns i f g = by (eqb i 0) refl
  where
    by : (t : Bool) → eqb i 0 ≡ t → pick t (eqb (parent_at ns i) minus_one) (ltb (parent_at ns i) i) ≡ true
    by true e = eq-eqb (parent_at ns i) minus_one (g (eqb-true i 0 e))
    by false e = lt-ltb (parent_at ns i) i (f (pos_of_ne-zero (eqb-false i 0 e)))

count_says : (ns : List ℕ) (i : ℕ) → count_fits ns i ≡ true → (count_at ns i ≡ minus_one) ⊎ (count_at ns i < count_half)
unfolding count_fits
count_says ns i h = by (eqb (count_at ns i) minus_one) refl h
  where
    by : (t : Bool) → eqb (count_at ns i) minus_one ≡ t → pick t true (ltb (count_at ns i) count_half) ≡ true → (count_at ns i ≡ minus_one) ⊎ (count_at ns i < count_half)
    by true e q = inl (eqb-true (count_at ns i) minus_one e)
    by false e q = inr (ltb-true (count_at ns i) count_half q)

count_is : (ns : List ℕ) (i : ℕ) → (count_at ns i ≡ minus_one) ⊎ (count_at ns i < count_half) → count_fits ns i ≡ true
unfolding count_fits
count_is ns i (inl e) = rw (eq-eqb (count_at ns i) minus_one e)
count_is ns i (inr l) = by (eqb (count_at ns i) minus_one)
  where
    by : (t : Bool) → pick t true (ltb (count_at ns i) count_half) ≡ true
    by true = refl
    by false = lt-ltb (count_at ns i) count_half l

module _ (limit : ℕ) (ns nm : List ℕ) where
  -- what a node that passes says
  node_says : (i : ℕ) → node_fits limit ns nm i ≡ true → (parent_fits ns i ≡ true) × (count_fits ns i ≡ true) × (name_inside nm ns i ≡ true) × (holds_none (name_at nm ns i) ≡ true) × (climbs ns limit i ≡ true)
  unfolding node_fits name_fits
  node_says i h =
      let a = both (parent_fits ns i) (pick (count_fits ns i) (pick (name_fits ns nm i) (climbs ns limit i) false) false) h in
      let b = both (count_fits ns i) (pick (name_fits ns nm i) (climbs ns limit i) false) a.1 in
      let c = both (name_fits ns nm i) (climbs ns limit i) b.1 in
      let d = both (name_inside nm ns i) (holds_none (name_at nm ns i)) c.0 in
      (a.0, b.0, d.0, d.1, c.1)

  node_is : (i : ℕ) → parent_fits ns i ≡ true → count_fits ns i ≡ true → name_inside nm ns i ≡ true → holds_none (name_at nm ns i) ≡ true → climbs ns limit i ≡ true → node_fits limit ns nm i ≡ true
  unfolding node_fits name_fits
  node_is i a b c d e = rw (a, b, c, d) e

  kids_say : (i : ℕ) → kids_fit ns nm i ≡ true → (subtrees_at ns i ≡ child_count ns i (nodes_in ns - 1) 1) × (siblings_differ nm ns i 1 (nodes_in ns) ≡ true)
  unfolding kids_fit
  kids_say i h =
      let a = both (eqb (subtrees_at ns i) (child_count ns i (nodes_in ns - 1) 1)) (siblings_differ nm ns i 1 (nodes_in ns)) h in
      (eqb-true (subtrees_at ns i) (child_count ns i (nodes_in ns - 1) 1) a.0, a.1)

  kids_are : (i : ℕ) → subtrees_at ns i ≡ child_count ns i (nodes_in ns - 1) 1 → siblings_differ nm ns i 1 (nodes_in ns) ≡ true → kids_fit ns nm i ≡ true
  unfolding kids_fit
  kids_are i e h = rw (eq-eqb (subtrees_at ns i) (child_count ns i (nodes_in ns - 1) 1) e) h

  nodes_say : nodes_fit limit ns nm ≡ true → (i : ℕ) → i < nodes_in ns → (parent_fits ns i ≡ true) × (count_fits ns i ≡ true) × (name_inside nm ns i ≡ true) × (holds_none (name_at nm ns i) ≡ true) × (climbs ns limit i ≡ true)
  nodes_say h i l = node_says i (all_each (node_fits limit ns nm) (nodes_in ns) 0 h i (omega arith) (omega arith))

  all_kids_say : all_kids_fit ns nm ≡ true → (i : ℕ) → i < nodes_in ns → (subtrees_at ns i ≡ child_count ns i (nodes_in ns - 1) 1) × (siblings_differ nm ns i 1 (nodes_in ns) ≡ true)
  all_kids_say h i l = kids_say i (all_each (kids_fit ns nm) (nodes_in ns) 0 h i (omega arith) (omega arith))

  to : is_proper limit ns nm ≡ true → Proper limit ns nm
  unfolding is_proper
  to h =
      let a = both (ltb 0 (nodes_in ns)) (pick (nodes_fit limit ns nm) (all_kids_fit ns nm) false) h in
      let b = both (nodes_fit limit ns nm) (all_kids_fit ns nm) a.1 in
      let s : 0 < nodes_in ns = ltb-true 0 (nodes_in ns) a.0 in
      record {
        some = s;
        root = (parent_says ns 0 (nodes_say b.0 0 s).0).1 refl;
        parents = λ i p l. (parent_says ns i (nodes_say b.0 i l).0).0 p;
        counts = λ i l. count_says ns i (nodes_say b.0 i l).1;
        inside = λ i l. (nodes_say b.0 i l).2;
        plain = λ i l. (nodes_say b.0 i l).3;
        depth = λ i l. (nodes_say b.0 i l).4;
        subtrees = λ i l. (all_kids_say b.1 i l).0;
        distinct = λ i l. (all_kids_say b.1 i l).1;
      }

  from : Proper limit ns nm → is_proper limit ns nm ≡ true
  unfolding is_proper
  from w =
      let n : nodes_fit limit ns nm ≡ true = each_all (node_fits limit ns nm) (nodes_in ns) 0 (λ i l m. one i (omega arith)) in
      let k : all_kids_fit ns nm ≡ true = each_all (kids_fit ns nm) (nodes_in ns) 0 (λ i l m. two i (omega arith)) in
      rw (lt-ltb 0 (nodes_in ns) w.some, n) k
    where
      one : (i : ℕ) → i < nodes_in ns → node_fits limit ns nm i ≡ true
      one i l = node_is i (parent_is ns i (λ p. w.parents i p l) (λ z. ap (λ (x : ℕ). parent_at ns x) z ∙ w.root)) (count_is ns i (w.counts i l)) (w.inside i l) (w.plain i l) (w.depth i l)

      two : (i : ℕ) → i < nodes_in ns → kids_fit ns nm i ≡ true
      two i l = kids_are i (w.subtrees i l) (w.distinct i l)

  -- THE CLAIM
  pub proper_exactly : (is_proper limit ns nm ≡ true) ↔ Proper limit ns nm
  proper_exactly = (to, from)
