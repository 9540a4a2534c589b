-- The tree of a table in walk order in which no node stands too deep (01, Writing): it has as many bytes as the heads of all nodes; and where each child comes before
-- those behind it, it is these heads, one after the other, as they stand. Over the length of an id and the depth. Assumes nothing.
use Rattle.std.specs.Prelude.{Bool, false, ◌≡◌, refl, ◌⊎◌, ltb, eqb}
use Rattle.std.proofs.Math.Bool.{true}
use Rattle.std.proofs.Math.Path.{sym, ap, subst}
use Rattle.std.proofs.Common.{◌∙◌, inl, inr}
use Rattle.std.proofs.Math.Logic.{⊎_elim}
use mathlib.Core.List.{List, [], ◌∷◌, ◌++◌, append_assoc}
use Prim.Native.Nat.{ℕ, zero, suc, ◌+◌, ◌-◌, ◌≤◌, ◌<◌}
use native.Mathlib.Omega.{arith}
use Rattle.std.proofs.Math.ListN.{length, length-append}
use borrow.Author.Tests.{ltb-true, eq-eqb, ne_eqb}
use Rattle.laws.specs.Pick.{pick}
use Rattle.laws.specs.Tests.{lt_or_ge, Less, less, not_less, less?}
use Rattle.node.specs.Store.{nodes_in, parent_at}
use Rattle.siblings.specs.Siblings.{is_child}
use Rattle.walk_order.specs.Walk.{walks, kid_above}
use Rattle.walk_order.specs.Below.{Above, Below, left_behind, parent_before}
use Rattle.walk_order.specs.Child.{both, whole_below, child_behind}
use Rattle.walk_order.specs.Kid.{LastKid, kid_last}
use Rattle.walk_order.specs.Depth.{all_in, all_each, walks_within, within_walks, within_climbs, Level, root, below, level_within}
use Rattle.tree_write.specs.Order.{before, before_trans}
use Rattle.tree_write.specs.Tree.{head_bytes, kids, each, node_bytes, tree_bytes}
use Rattle.tree_write.specs.Kids.{Mem, children, children_are}
use Rattle.tree_write.specs.Span.{Span, span_child}
use Rattle.tree_write.specs.Children.{passing, table_kids, passing_skip, passing_cut, sum_over, sum_same, each_length, each_same, kids_sum, kids_same}

-- the heads of k nodes from j on, as they stand
unfoldable pub heads_from : ℕ → List ℕ → List ℕ → ℕ → ℕ → List ℕ
heads_from id ns nm zero j = []
heads_from id ns nm (suc k) j = head_bytes id ns nm j ++ heads_from id ns nm k (j + 1)

pub heads_split : (id : ℕ) (ns nm : List ℕ) (k m j : ℕ) → heads_from id ns nm (k + m) j ≡ heads_from id ns nm k j ++ heads_from id ns nm m (j + k)
unfolding heads_from
heads_split id ns nm zero m j = let a : 0 + m ≡ m = omega arith in let b : j ≡ j + 0 = omega arith in rw a (ap (λ (x : ℕ). heads_from id ns nm m x) b)
heads_split id ns nm (suc k) m j =
    let a : suc k + m ≡ suc (k + m) = omega arith in
    let b : j + 1 + k ≡ j + suc k = omega arith in
    rw a
    (ap (λ (l : List ℕ). head_bytes id ns nm j ++ l) (heads_split id ns nm k m (j + 1) ∙ ap (λ (x : ℕ). heads_from id ns nm k (j + 1) ++ heads_from id ns nm m x) b)
    ∙ sym (append_assoc (head_bytes id ns nm j) (heads_from id ns nm k (j + 1)) (heads_from id ns nm m (j + suc k))))

-- ---- the test

-- node j comes after the child of its parent before it, or is the first
unfoldable pub rises_at : List ℕ → List ℕ → ℕ → Bool
rises_at ns nm j = pick (eqb (kid_above ns (parent_at ns j) (j - 1)) 0) true (before ns nm (kid_above ns (parent_at ns j) (j - 1)) j)

unfoldable pub siblings_rise : List ℕ → List ℕ → Bool
siblings_rise ns nm = all_in (rises_at ns nm) (nodes_in ns - 1) 1

-- there are nodes, they are in walk order, and none stands too deep
unfoldable pub is_shallow : ℕ → List ℕ → Bool
is_shallow limit ns = pick (ltb 0 (nodes_in ns)) (walks_within limit ns) false

-- and each child comes after the one before it
unfoldable pub is_flat : ℕ → List ℕ → List ℕ → Bool
is_flat limit ns nm = pick (is_shallow limit ns) (siblings_rise ns nm) false

-- ---- what stands below a node

-- the first of k nodes from j on whose parent stands before p
unfoldable end_from : List ℕ → ℕ → ℕ → ℕ → ℕ
end_from ns p zero j = j
end_from ns p (suc k) j = pick (ltb (parent_at ns j) p) j (end_from ns p k (j + 1))

abbrev end_of : List ℕ → ℕ → ℕ
end_of ns p = end_from ns p (nodes_in ns - (p + 1)) (p + 1)

span_from : (ns : List ℕ) (p k j : ℕ) → p < j → j + k ≡ nodes_in ns → ((i : ℕ) → p < i → i < j → p ≤ parent_at ns i) → Span ns p (end_from ns p k j)
unfolding end_from
span_from ns p zero j h e f = record { behind = h; within = omega arith; inner = f; left = λ l. absurd (omega arith) }
span_from ns p (suc k) j h e f = by (less? (parent_at ns j) p) (λ g. span_from ns p k (j + 1) (omega arith) (omega arith) (λ i a b. ⊎_elim (λ l. f i a l) (λ l. same i g l b) (lt_or_ge i j)))
  where
    same : (i : ℕ) → p ≤ parent_at ns j → j ≤ i → i < j + 1 → p ≤ parent_at ns i
    same i g l b = let z : j ≡ i = omega arith in subst (λ (x : ℕ). p ≤ parent_at ns x) z g

    by : {t : Bool} → Less (parent_at ns j) p t → (p ≤ parent_at ns j → Span ns p (end_from ns p k (j + 1))) → Span ns p (pick t j (end_from ns p k (j + 1)))
    by (less l) ih = record { behind = h; within = omega arith; inner = f; left = λ m. l }
    by (not_less l) ih = ih l

span_of : (ns : List ℕ) (p : ℕ) → p < nodes_in ns → Span ns p (end_of ns p)
span_of ns p h = span_from ns p (nodes_in ns - (p + 1)) (p + 1) (omega arith) (omega arith) (λ i a b. absurd (omega arith))

module _ (id : ℕ) (ns nm : List ℕ) (w : Below ns 0 (nodes_in ns)) where
  -- the heads of a node and of what stands below it
  abbrev subtree : ℕ → List ℕ
  subtree c = heads_from id ns nm (end_of ns c - c) c

  -- behind what stands below a child of p stands the next child, or nothing more that is below p
  next_at : (p e c f : ℕ) → Span ns p e → p < c → c < e → parent_at ns c ≡ p → Span ns c f → (f ≤ e) × ((f ≡ e) ⊎ (parent_at ns f ≡ p))
  next_at p e c f sp h l q sc = by (lt_or_ge e f)
    where
      past : e < f → ⊥
      past m = let a : c ≤ parent_at ns e = sc.inner e l m in let b : parent_at ns e < p = sp.left (omega (arith, sc.within)) in omega arith

      child : f < e → parent_at ns f ≡ p
      child m =
          let a : c < f = sc.behind in
          let b : p ≤ parent_at ns f = sp.inner f (omega arith) m in
          let d : f < nodes_in ns = omega (arith, sp.within) in
          let g : parent_at ns f < c = sc.left d in
          let z : f - 1 ≡ c + (f - 1 - c) = omega arith in
          ⊎_elim
          (λ k. absurd (left_behind ns 0 (nodes_in ns) w (parent_at ns f) c (omega arith) g (omega arith) (f - 1 - c) (omega arith) (subst (λ (x : ℕ). Above ns (parent_at ns f) x) z (w.follows f (omega arith) d))))
          (λ k. omega arith) (lt_or_ge p (parent_at ns f))

      by : (e < f) ⊎ (f ≤ e) → (f ≤ e) × ((f ≡ e) ⊎ (parent_at ns f ≡ p))
      by (inl m) = absurd (past m)
      by (inr m) = (m, ⊎_elim (λ k. inr (child k)) (λ k. inl (omega arith)) (lt_or_ge f e))

  spread : (p e : ℕ) → Span ns p e → (k a : ℕ) → e - a ≤ k → p < a → a ≤ e → (a ≡ e) ⊎ (parent_at ns a ≡ p) → each subtree (table_kids ns p (e - a) a) ≡ heads_from id ns nm (e - a) a
  unfolding each heads_from passing
  spread p e sp zero a f h l c = let z : e - a ≡ 0 = omega arith in rw z
  spread p e sp (suc k) a f h l (inl q) = let z : e - a ≡ 0 = omega arith in rw z
  spread p e sp (suc k) a f h l (inr q) = by (lt_or_ge a e) (λ b m n o r. spread p e sp k b m n o r)
    where
      by : (a < e) ⊎ (e ≤ a) → ((b : ℕ) → e - b ≤ k → p < b → b ≤ e → (b ≡ e) ⊎ (parent_at ns b ≡ p) → each subtree (table_kids ns p (e - b) b) ≡ heads_from id ns nm (e - b) b)
          → each subtree (table_kids ns p (e - a) a) ≡ heads_from id ns nm (e - a) a
      by (inr m) ih = let z : e - a ≡ 0 = omega arith in rw z
      by (inl m) ih =
          let sa : Span ns a (end_of ns a) = span_of ns a (omega (arith, sp.within)) in
          let (low, next) = next_at p e a (end_of ns a) sp h m q sa in
          let up : a < end_of ns a = sa.behind in
          let x : e - a ≡ suc (e - (a + 1)) = omega arith in
          let y : e - (a + 1) ≡ end_of ns a - (a + 1) + (e - end_of ns a) = omega arith in
          let v : a + 1 + (end_of ns a - (a + 1)) ≡ end_of ns a = omega arith in
          let u : e - a ≡ end_of ns a - a + (e - end_of ns a) = omega arith in
          let t : a + (end_of ns a - a) ≡ end_of ns a = omega arith in
          let rest : table_kids ns p (e - (a + 1)) (a + 1) ≡ table_kids ns p (e - end_of ns a) (end_of ns a) =
          ap (λ (n : ℕ). table_kids ns p n (a + 1)) y
          ∙ passing_skip (is_child ns p) (end_of ns a - (a + 1)) (e - end_of ns a) (a + 1) (λ i b d. ne_eqb (parent_at ns i) p (λ z. omega (arith, sa.inner i (omega arith) (omega arith))))
          ∙ ap (λ (n : ℕ). table_kids ns p (e - end_of ns a) n) v in
          let first : table_kids ns p (e - a) a ≡ a ∷ table_kids ns p (e - end_of ns a) (end_of ns a) = ap (λ (n : ℕ). table_kids ns p n a) x ∙ rw (eq-eqb (parent_at ns a) p q) (ap (λ (r : List ℕ). a ∷ r) rest) in
          ap (each subtree) first
          ∙ ap (λ (r : List ℕ). subtree a ++ r) (ih (end_of ns a) (omega arith) (omega arith) low next)
          ∙ sym (ap (λ (n : ℕ). heads_from id ns nm n a) u ∙ heads_split id ns nm (end_of ns a - a) (e - end_of ns a) a ∙ ap (λ (n : ℕ). heads_from id ns nm (end_of ns a - a) a ++ heads_from id ns nm (e - end_of ns a) n) t)

  -- the subtrees of all children of p, as they stand
  kids_spread : (p : ℕ) → p < nodes_in ns → each subtree (table_kids ns p (nodes_in ns - 1) 1) ≡ heads_from id ns nm (end_of ns p - (p + 1)) (p + 1)
  kids_spread p h =
      ap (each subtree) (ap (λ (n : ℕ). table_kids ns p n 1) x ∙ passing_skip (is_child ns p) p (nodes_in ns - (p + 1)) 1 early ∙ ap (λ (n : ℕ). table_kids ns p (nodes_in ns - (p + 1)) n) y ∙ ap (λ (n : ℕ). table_kids ns p n (p + 1)) z ∙ passing_cut (is_child ns p) (e - (p + 1)) (nodes_in ns - e) (p + 1) late)
      ∙ spread p e sp (e - (p + 1)) (p + 1) (omega arith) (omega arith) (omega (arith, up)) first
    where
      e : ℕ
      e = end_of ns p

      sp : Span ns p e
      sp = span_of ns p h

      up : p < e
      up = sp.behind

      x : nodes_in ns - 1 ≡ p + (nodes_in ns - (p + 1))
      x = omega arith

      y : 1 + p ≡ p + 1
      y = omega arith

      z : nodes_in ns - (p + 1) ≡ e - (p + 1) + (nodes_in ns - e)
      z = omega (arith, sp.within, up)

      early : (i : ℕ) → 1 ≤ i → i < 1 + p → is_child ns p i ≡ false
      early i a b = ne_eqb (parent_at ns i) p (λ q. omega (arith, (span_child ns w p e sp i a (omega arith) q).0))

      late : (i : ℕ) → p + 1 + (e - (p + 1)) ≤ i → i < p + 1 + (e - (p + 1)) + (nodes_in ns - e) → is_child ns p i ≡ false
      late i a b = ne_eqb (parent_at ns i) p (λ q. omega (arith, up, (span_child ns w p e sp i (omega arith) (omega (arith, sp.within, up)) q).1))

      first : (p + 1 ≡ e) ⊎ (parent_at ns (p + 1) ≡ p)
      first = ⊎_elim (λ l. inr (omega (arith, sp.inner (p + 1) (omega arith) l, parent_before ns 0 (nodes_in ns) w (p + 1) (omega arith) (omega (arith, sp.within))))) (λ l. inl (omega (arith, up))) (lt_or_ge (p + 1) e)

-- ---- the tree

module _ (id limit : ℕ) (ns nm : List ℕ) (w : walks_within limit ns ≡ true) where
  abbrev whole : Below ns 0 (nodes_in ns)
  whole = whole_below limit ns (within_walks limit ns w)

  cut : (p : ℕ) → p < nodes_in ns → subtree id ns nm whole p ≡ head_bytes id ns nm p ++ heads_from id ns nm (end_of ns p - (p + 1)) (p + 1)
  unfolding heads_from
  cut p h = let up : p < end_of ns p = (span_of ns p h).behind in let z : end_of ns p - p ≡ suc (end_of ns p - (p + 1)) = omega arith in ap (λ (k : ℕ). heads_from id ns nm k p) z

  kid : (p j : ℕ) → Mem j (kids ns nm p (nodes_in ns) 0) → (0 < j) × (j < nodes_in ns) × (parent_at ns j ≡ p)
  unfolding children
  kid p j m = (children_are ns nm p j).0 m

  -- below the root stand all nodes
  all_nodes : 0 < nodes_in ns → subtree id ns nm whole 0 ≡ heads_from id ns nm (nodes_in ns) 0
  all_nodes some = ap (λ (k : ℕ). heads_from id ns nm k 0) z
    where
      sp : Span ns 0 (end_of ns 0)
      sp = span_of ns 0 some

      z : end_of ns 0 - 0 ≡ nodes_in ns
      z = ⊎_elim (λ l. absurd (omega (arith, sp.left l))) (λ l. omega (arith, sp.within)) (lt_or_ge (end_of ns 0) (nodes_in ns))

  sized : (d k p : ℕ) → p < nodes_in ns → Level ns k p → k + d ≡ limit + 1 → length (node_bytes id ns nm d p) ≡ length (subtree id ns nm whole p)
  unfolding node_bytes
  sized zero k p h l e = absurd (omega (arith, level_within l limit (within_climbs limit ns w p h)))
  sized (suc d) k p h l e =
      let inner : sum_over (λ x. length (node_bytes id ns nm d x)) (kids ns nm p (nodes_in ns) 0) ≡ sum_over (λ x. length (subtree id ns nm whole x)) (kids ns nm p (nodes_in ns) 0) =
      sum_same (λ x. length (node_bytes id ns nm d x)) (λ x. length (subtree id ns nm whole x)) (kids ns nm p (nodes_in ns) 0) (λ x m. let (a, b, c) = kid p x m in sized d (suc k) x b (below a c l) (omega arith)) in
      omega (
        arith,
        length-append (head_bytes id ns nm p) (each (node_bytes id ns nm d) (kids ns nm p (nodes_in ns) 0)),
        each_length (node_bytes id ns nm d) (kids ns nm p (nodes_in ns) 0),
        kids_sum ns nm p (λ x. length (subtree id ns nm whole x)),
        each_length (subtree id ns nm whole) (table_kids ns p (nodes_in ns - 1) 1),
        ap length (kids_spread id ns nm whole p h),
        length-append (head_bytes id ns nm p) (heads_from id ns nm (end_of ns p - (p + 1)) (p + 1)),
        ap length (cut p h),
      )

  -- THE CLAIMS

  flat_length : 0 < nodes_in ns → length (tree_bytes id limit ns nm) ≡ length (heads_from id ns nm (nodes_in ns) 0)
  flat_length some = sized limit 1 0 some root (omega arith) ∙ ap length (all_nodes some)

  -- each child comes before those behind it
  module _ (sorted : (x y : ℕ) → 0 < x → x < y → y < nodes_in ns → parent_at ns x ≡ parent_at ns y → before ns nm x y ≡ true) where
    laid : (d k p : ℕ) → p < nodes_in ns → Level ns k p → k + d ≡ limit + 1 → node_bytes id ns nm d p ≡ subtree id ns nm whole p
    unfolding node_bytes
    laid zero k p h l e = absurd (omega (arith, level_within l limit (within_climbs limit ns w p h)))
    laid (suc d) k p h l e =
        ap (λ (r : List ℕ). head_bytes id ns nm p ++ r)
        (each_same (node_bytes id ns nm d) (subtree id ns nm whole) (kids ns nm p (nodes_in ns) 0) (λ x m. let (a, b, c) = kid p x m in laid d (suc k) x b (below a c l) (omega arith))
        ∙ ap (each (subtree id ns nm whole)) (kids_same ns nm p (λ x y a b c q r. sorted x y a b c (q ∙ sym r)))
        ∙ kids_spread id ns nm whole p h)
        ∙ sym (cut p h)

    flat_tree : 0 < nodes_in ns → tree_bytes id limit ns nm ≡ heads_from id ns nm (nodes_in ns) 0
    flat_tree some = laid limit 1 0 some root (omega arith) ∙ all_nodes some

-- ---- what the test says

module _ (limit : ℕ) (ns nm : List ℕ) (w : walks limit ns ≡ true) (rise : siblings_rise ns nm ≡ true) where
  -- node y comes after the child before it
  after_last : (p x y : ℕ) → p < x → x < y → y < nodes_in ns → parent_at ns x ≡ p → parent_at ns y ≡ p → (s : ℕ) × (x ≤ s) × (s < y) × (parent_at ns s ≡ p) × (before ns nm s y ≡ true)
  unfolding siblings_rise rises_at
  after_last p x y h l m q r =
      let up : Above ns p (y - 1) = subst (λ (z : ℕ). Above ns z (y - 1)) r ((whole_below limit ns w).follows y (omega arith) m) in
      let k : LastKid ns p (y - 1) (kid_above ns p (y - 1)) = kid_last ns 0 (nodes_in ns) (whole_below limit ns w) p (omega arith) (y - 1) (omega arith) (omega arith) up in
      let t : rises_at ns nm y ≡ true = all_each (rises_at ns nm) (nodes_in ns - 1) 1 rise y (omega arith) (omega arith) in
      let some : kid_above ns p (y - 1) ≡ 0 → ⊥ = λ z. omega (arith, k.behind) in (
        kid_above ns p (y - 1),
        ⊎_elim (λ a. absurd (k.last x a (omega arith) q)) (λ a. a) (lt_or_ge (kid_above ns p (y - 1)) x),
        omega (arith, k.within),
        k.child,
        told some (subst (λ (z : ℕ). pick (eqb (kid_above ns z (y - 1)) 0) true (before ns nm (kid_above ns z (y - 1)) y) ≡ true) r t),
      )
    where
      told : (kid_above ns p (y - 1) ≡ 0 → ⊥) → pick (eqb (kid_above ns p (y - 1)) 0) true (before ns nm (kid_above ns p (y - 1)) y) ≡ true → before ns nm (kid_above ns p (y - 1)) y ≡ true
      told some e = rw (ne_eqb (kid_above ns p (y - 1)) 0 some) at e

  rises_by : (f p x y : ℕ) → y - x ≤ f → p < x → x < y → y < nodes_in ns → parent_at ns x ≡ p → parent_at ns y ≡ p → before ns nm x y ≡ true
  rises_by zero p x y g h l m q r = absurd (omega arith)
  rises_by (suc f) p x y g h l m q r =
      let (s, a, b, c, d) = after_last p x y h l m q r in
      ⊎_elim (λ k. before_trans ns nm x s y (rises_by f p x s (omega arith) h k (omega arith) q c) d) (λ k. let z : s ≡ x = omega arith in subst (λ (j : ℕ). before ns nm j y ≡ true) z d) (lt_or_ge x s)

  all_rise : (x y : ℕ) → 0 < x → x < y → y < nodes_in ns → parent_at ns x ≡ parent_at ns y → before ns nm x y ≡ true
  all_rise x y a l m q = rises_by (y - x) (parent_at ns x) x y (omega arith) (child_behind limit ns w x a (omega arith)) l m refl (sym q)

pub shallow_says : (limit : ℕ) (ns : List ℕ) → is_shallow limit ns ≡ true → (0 < nodes_in ns) × (walks_within limit ns ≡ true)
unfolding is_shallow
shallow_says limit ns t = let (a, b) = both (ltb 0 (nodes_in ns)) (walks_within limit ns) t in (ltb-true 0 (nodes_in ns) a, b)

-- where the tests say so, the tree has as many bytes as the heads, and is the heads as they stand
pub shallow_length : (id limit : ℕ) (ns nm : List ℕ) → is_shallow limit ns ≡ true → length (tree_bytes id limit ns nm) ≡ length (heads_from id ns nm (nodes_in ns) 0)
shallow_length id limit ns nm t = let (some, w) = shallow_says limit ns t in flat_length id limit ns nm w some

pub flat_is : (id limit : ℕ) (ns nm : List ℕ) → is_flat limit ns nm ≡ true → tree_bytes id limit ns nm ≡ heads_from id ns nm (nodes_in ns) 0
unfolding is_flat
flat_is id limit ns nm t =
    let (s, r) = both (is_shallow limit ns) (siblings_rise ns nm) t in
    let (some, w) = shallow_says limit ns s in
    flat_tree id limit ns nm w (all_rise limit ns nm (within_walks limit ns w) r) some
