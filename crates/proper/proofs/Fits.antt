-- Laws of what a proper table is, turned the way that the needs ask. Assumes nothing.
use mathlib.Core.Bool.{Bool, true, false}
use mathlib.Core.Path.{◌≡◌, refl, sym, ap, ◌∙◌}
use mathlib.Core.List.{List, ◌∷◌}
use Rattle.std.specs.Prelude.{zero, cond}
use Rattle.std.specs.List.{filter, range_with_len}
use Prim.Native.Nat.{ℕ, suc, ◌+◌, ◌-◌, ◌≤◌, ◌<◌}
use native.Mathlib.Omega.{arith}
use lib.Dec.{ltb, eqb}
use lib.ListN.{length}
use borrow.Author.Tests.{lt-ltb, le-ltb, eq-eqb, ne_eqb}
use Rattle.laws.specs.Pick.{pick}
use Rattle.slices.specs.Bytes.{nul_at}
use Rattle.format.specs.Format.{depth_limit}
use Rattle.node.specs.Head.{count_half, minus_one}
use Rattle.node.specs.Store.{nodes_in, count_at, subtrees_at, parent_at, name_inside, name_at}
use Rattle.siblings.specs.Siblings.{is_child, siblings_differ}
use Rattle.walk_order.specs.Walk.{walks}
use Rattle.walk_order.specs.Child.{false_true}
use Rattle.walk_order.specs.Depth.{each_all, walks_within, within_climbs}
use Rattle.proper.specs.Proper.{parent_fits, count_fits, holds_none, name_fits, climbs, node_fits, child_count, kids_fit, nodes_fit, all_kids_fit, is_proper}
use Rattle.proper.specs.Table.{proper_exactly}
use Rattle.std.specs.Prelude.{None, Option, Some}

-- ---- one node

module _ (ns : List ℕ) (i p : ℕ) (e : p ≡ parent_at ns i) where
  pub parent_root : i ≡ 0 → (t : Bool) → t ≡ eqb p minus_one → t ≡ parent_fits ns i
  unfolding parent_fits
  parent_root h t q = q ∙ sym (rw (eq-eqb i 0 h, ← e))

  pub parent_other : (i ≡ 0 → ⊥) → (t : Bool) → t ≡ ltb p i → t ≡ parent_fits ns i
  unfolding parent_fits
  parent_other h t q = q ∙ sym (rw (ne_eqb i 0 h, ← e))

module _ (ns : List ℕ) (i count : ℕ) (e : count ≡ count_at ns i) where
  pub count_none : count ≡ minus_one → eqb count minus_one ≡ count_fits ns i
  unfolding count_fits
  count_none h = rw (← e, eq-eqb count minus_one h)

  pub count_some : (count ≡ minus_one → ⊥) → (t : Bool) → t ≡ ltb count count_half → t ≡ count_fits ns i
  unfolding count_fits
  count_some h t q = q ∙ sym (rw (← e, ne_eqb count minus_one h))

module _ (ns nm : List ℕ) (i : ℕ) (inside : Bool) (e : inside ≡ name_inside nm ns i) where
  pub name_in : inside ≡ true → (name : List ℕ) → name ≡ name_at nm ns i → (t : Bool) → t ≡ holds_none name → t ≡ name_fits ns nm i
  unfolding name_fits
  name_in h name en t q = q ∙ ap (λ (x : List ℕ). holds_none x) en ∙ sym (rw (sym e ∙ h))

  pub name_out : inside ≡ false → inside ≡ name_fits ns nm i
  unfolding name_fits
  name_out h = h ∙ sym (rw (sym e ∙ h))

climb_step : (ns : List ℕ) (k i : ℕ) → (i ≡ 0 → ⊥) → climbs ns k (parent_at ns i) ≡ climbs ns (suc k) i
unfolding climbs
climb_step ns k i h = sym (rw (ne_eqb i 0 h))

module _ (ns : List ℕ) (left i : ℕ) (r : Bool) (inv : climbs ns left i ≡ r) where
  pub climb_none : left ≤ 0 → false ≡ r
  unfolding climbs
  climb_none h = let z : left ≡ 0 = omega arith in rw z at inv

  pub climb_root : 0 < left → i ≡ 0 → true ≡ r
  unfolding climbs
  climb_root h k = let z : left ≡ suc (left - 1) = omega arith in sym (rw (z, eq-eqb i 0 k)) ∙ inv

  pub climb_up : 0 < left → (i ≡ 0 → ⊥) → (p next : ℕ) → p ≡ parent_at ns i → next ≡ left - 1 → climbs ns next p ≡ r
  climb_up h k p next e f =
      let z : suc next ≡ left = omega arith in
      ap (λ (x : ℕ). climbs ns next x) e ∙ climb_step ns next i k ∙ ap (λ (x : ℕ). climbs ns x i) z ∙ inv

regroup : (a b c d : Bool) → pick (pick (pick a b false) c false) d false ≡ pick a (pick b (pick c d false) false) false
regroup true true c d = refl
regroup true false c d = refl
regroup false b c d = refl

-- what does not ask how deep node i stands
module _ (ns nm : List ℕ) (i : ℕ) (plain : Bool) (e : plain ≡ pick (pick (parent_fits ns i) (count_fits ns i) false) (name_fits ns nm i) false) where
  whole : pick plain (climbs ns depth_limit i) false ≡ node_fits depth_limit ns nm i
  unfolding node_fits
  whole = ap (λ (t : Bool). pick t (climbs ns depth_limit i) false) e ∙ regroup (parent_fits ns i) (count_fits ns i) (name_fits ns nm i) (climbs ns depth_limit i)

  pub fits_not : plain ≡ false → plain ≡ node_fits depth_limit ns nm i
  fits_not h = h ∙ (rw h at whole)

  pub fits_shallow : plain ≡ true → (shallow : Bool) → shallow ≡ walks_within depth_limit ns → shallow ≡ true → i < nodes_in ns → shallow ≡ node_fits depth_limit ns nm i
  fits_shallow h shallow k w inside = w ∙ sym (within_climbs depth_limit ns (sym k ∙ w) i inside) ∙ (rw h at whole)

  pub fits_depth : plain ≡ true → (t : Bool) → t ≡ climbs ns depth_limit i → t ≡ node_fits depth_limit ns nm i
  fits_depth h t q = q ∙ (rw h at whole)

-- ---- the children

-- the library's `filter` and `length` over a range
pub count_is : (ns : List ℕ) (p n i : ℕ) → length (filter (is_child ns p) (range_with_len i n)) ≡ child_count ns p n i
unfolding child_count
count_is ns p zero i = refl
count_is ns p (suc n) i = by (is_child ns p i) (count_is ns p n (i + 1))
  where
    by : (t : Bool) → length (filter (is_child ns p) (range_with_len (i + 1) n)) ≡ child_count ns p n (i + 1)
        → length (cond t (i ∷ filter (is_child ns p) (range_with_len (i + 1) n)) (filter (is_child ns p) (range_with_len (i + 1) n))) ≡ pick t 1 0 + child_count ns p n (i + 1)
    by true h = omega arith
    by false h = omega arith

module _ (ns nm : List ℕ) (i said count : ℕ) (es : said ≡ subtrees_at ns i) (ec : count ≡ child_count ns i (nodes_in ns - 1) 1) where
  pub kids_miscounted : (said ≡ count → ⊥) → eqb said count ≡ kids_fit ns nm i
  unfolding kids_fit
  kids_miscounted h = rw (← es, ← ec, ne_eqb said count h)

  pub kids_counted : said ≡ count → (t : Bool) (n : ℕ) → t ≡ siblings_differ nm ns i 1 n → n ≡ nodes_in ns → t ≡ kids_fit ns nm i
  unfolding kids_fit
  kids_counted h t n q e = q ∙ ap (λ (k : ℕ). siblings_differ nm ns i 1 k) e ∙ sym (rw (← es, ← ec, eq-eqb said count h))

-- ---- all of them

module _ (ns nm : List ℕ) where
  pub proper_empty : length ns < 72 → false ≡ is_proper depth_limit ns nm
  unfolding is_proper
  proper_empty h = let l : nodes_in ns ≤ 0 = omega arith in sym (rw (le-ltb 0 (nodes_in ns) l))

  -- a proper table in walk order has no node that stands too deep
  proper_within : is_proper depth_limit ns nm ≡ true → walks depth_limit ns ≡ true → walks_within depth_limit ns ≡ true
  unfolding walks_within
  proper_within p w = rw w (each_all (climbs ns depth_limit) (nodes_in ns) 0 (λ i a b. ((proper_exactly depth_limit ns nm).0 p).depth i (omega arith)))

  pub proper_deep : (shallow : Bool) → shallow ≡ walks_within depth_limit ns → (t : Bool) → t ≡ pick shallow false (walks depth_limit ns) → t ≡ true → false ≡ is_proper depth_limit ns nm
  proper_deep true e t et h = absurd (false_true (sym et ∙ h))
  proper_deep false e t et h = by (is_proper depth_limit ns nm) refl
    where
      by : (p : Bool) → is_proper depth_limit ns nm ≡ p → false ≡ p
      by true q = absurd (false_true (e ∙ proper_within q (sym et ∙ h)))
      by false q = refl

  pub shallow_some : 72 ≤ length ns → 0 < nodes_in ns
  shallow_some h = omega arith

  module _ (h : 72 ≤ length ns) (a : Bool) (ea : a ≡ nodes_fit depth_limit ns nm) where
    some : 0 < nodes_in ns
    some = omega arith

    pub proper_nodes : a ≡ false → false ≡ is_proper depth_limit ns nm
    unfolding is_proper
    proper_nodes k = sym (rw (lt-ltb 0 (nodes_in ns) some, sym ea ∙ k))

    pub proper_kids : a ≡ true → (t : Bool) → t ≡ all_kids_fit ns nm → t ≡ is_proper depth_limit ns nm
    unfolding is_proper
    proper_kids k t q = q ∙ sym (rw (lt-ltb 0 (nodes_in ns) some, sym ea ∙ k))

pub ruleset fits = (parent_root, parent_other, count_none, count_some, name_in, name_out, climb_none, climb_root, climb_up, fits_not, fits_shallow, fits_depth, kids_miscounted, kids_counted, proper_empty, proper_deep, proper_nodes, proper_kids, shallow_some)
