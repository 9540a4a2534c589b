-- What stands below a node of a table in walk order (01, Extensions: "Nodes go to a lent store in file order"): the nodes right behind it, up to an end. So
-- its children are listed from the last to the first, each with where what stands below it ends. Assumes nothing.
use Rattle.std.specs.Prelude.{◌≡◌, refl, ◌⊎◌, List, ℕ, ◌+◌, ◌-◌, ◌≤◌, ◌<◌}
use Rattle.std.proofs.Common.{sym, subst, inl, inr, ⊎_elim, arith}
use Rattle.laws.specs.Tests.{lt_or_ge}
use Rattle.node.specs.Store.{nodes_in, parent_at}
use Rattle.walk_order.specs.Walk.{kid_above}
use Rattle.walk_order.specs.Below.{Above, above_low, Below, parent_before, all_below, left_behind, nested}
use Rattle.walk_order.specs.Kid.{LastKid, kid_last, kid_none}

-- what stands below p ends before e
pub record Span (ns : List ℕ) (p e : ℕ) : Type 0 where
  pub behind : p < e
  pub within : e ≤ nodes_in ns
  pub inner : (j : ℕ) → p < j → j < e → p ≤ parent_at ns j
  pub left : e < nodes_in ns → parent_at ns e < p

-- e is where what stands below p ends, or a child of p
pub record Cut (ns : List ℕ) (p end e : ℕ) : Type 0 where
  pub behind : p < e
  pub within : e ≤ end
  pub is : (e ≡ end) ⊎ (parent_at ns e ≡ p)

-- c is the last child of p before e, and what stands below it ends before e; or it is 0 and there is none
pub record Prior (ns : List ℕ) (p e c : ℕ) : Type 0 where
  pub behind : (c ≡ 0 → ⊥) → p < c
  pub before : (c ≡ 0 → ⊥) → c < e
  pub child : (c ≡ 0 → ⊥) → parent_at ns c ≡ p
  pub span : (c ≡ 0 → ⊥) → Span ns c e
  pub none : (j : ℕ) → 0 < j → c < j → j < e → parent_at ns j ≡ p → ⊥

-- below the root stand all nodes
pub span_root : (ns : List ℕ) → 0 < nodes_in ns → Span ns 0 (nodes_in ns)
span_root ns h = record { behind = h; within = omega arith; inner = λ j a b. omega arith; left = λ l. absurd (omega arith) }

-- in a table in walk order
module _ (ns : List ℕ) (whole : Below ns 0 (nodes_in ns)) (p end : ℕ) (sp : Span ns p end) where
  part : Below ns p end
  part = record { inside = sp.inner; follows = λ j a b. whole.follows j (omega arith) (omega (arith, sp.within)) }

  -- all of it stands below p
  pub span_below : (x : ℕ) → p ≤ x → x < end → Above ns p x
  span_below x a b = all_below ns p end part x a b

  pub cut_end : Cut ns p end end
  cut_end = record { behind = sp.behind; within = omega arith; is = inl refl }

  -- every child of p stands in it
  pub span_child : (j : ℕ) → 0 < j → j < nodes_in ns → parent_at ns j ≡ p → (p < j) × (j < end)
  span_child j a b e = (subst (λ (x : ℕ). x < j) e (parent_before ns 0 (nodes_in ns) whole j a b), ⊎_elim (λ l. l) (λ l. absurd (late l)) (lt_or_ge j end))
    where
      late : end ≤ j → ⊥
      late l = ⊎_elim
          (λ m. nested ns 0 (nodes_in ns) whole p end j (omega arith) sp.behind m b (sp.left (omega arith)) e)
          (λ m. let z : end ≡ j = omega arith in omega (arith, subst (λ (x : ℕ). parent_at ns x < p) z (sp.left (omega arith)))) (lt_or_ge end j)

  pub cut_child : (j : ℕ) → 0 < j → j < nodes_in ns → parent_at ns j ≡ p → Cut ns p end j
  cut_child j a b e = let (l, m) = span_child j a b e in record { behind = l; within = omega arith; is = inr e }

  -- what stands below a child ends where the next one stands, or with what stands below p
  kid_span : (c e : ℕ) → p < c → c < e → parent_at ns c ≡ p → Cut ns p end e → ((j : ℕ) → c < j → j < e → parent_at ns j ≡ p → ⊥) → Span ns c e
  kid_span c e h l q cut none = record { behind = l; within = omega (arith, cut.within, sp.within); inner = inner; left = left }
    where
      inner : (j : ℕ) → c < j → j < e → c ≤ parent_at ns j
      inner j a b = ⊎_elim (λ m. absurd (by m (lt_or_ge p (parent_at ns j)))) (λ m. m) (lt_or_ge (parent_at ns j) c)
        where
          low : p ≤ parent_at ns j
          low = sp.inner j (omega arith) (omega (arith, cut.within))

          inside : j < nodes_in ns
          inside = omega (arith, cut.within, sp.within)

          by : parent_at ns j < c → (p < parent_at ns j) ⊎ (parent_at ns j ≤ p) → ⊥
          by m (inl k) =
              let z : j - 1 ≡ c + (j - 1 - c) = omega arith in
              left_behind ns 0 (nodes_in ns) whole (parent_at ns j) c (omega arith) m (omega arith) (j - 1 - c) (omega (arith, inside))
              (subst (λ (x : ℕ). Above ns (parent_at ns j) x) z (whole.follows j (omega arith) inside))
          by m (inr k) = none j a b (omega (arith, low))

      left : e < nodes_in ns → parent_at ns e < c
      left a =
          ⊎_elim
          (λ z. let g : parent_at ns e < p = subst (λ (x : ℕ). parent_at ns x < p) (sym z) (sp.left (omega arith)) in omega arith)
          (λ z. omega arith) cut.is

  -- the climb from a node of it finds the last child that stands there or before
  last_kid : (x : ℕ) → p < x → x < end → LastKid ns p x (kid_above ns p x)
  last_kid x l m = kid_last ns 0 (nodes_in ns) whole p (omega arith) x l (omega (arith, sp.within)) (span_below x (omega arith) m)

  -- THE CLAIM: the climb from the node before e leads to the last child before e
  pub prior : (e : ℕ) → Cut ns p end e → Prior ns p e (kid_above ns p (e - 1))
  prior e cut = by (lt_or_ge p (e - 1))
    where
      inside : e ≤ nodes_in ns
      inside = omega (arith, cut.within, sp.within)

      by : (p < e - 1) ⊎ (e - 1 ≤ p) → Prior ns p e (kid_above ns p (e - 1))
      by (inl l) =
          let k : LastKid ns p (e - 1) (kid_above ns p (e - 1)) = last_kid (e - 1) l (omega (arith, cut.within)) in
          let low : kid_above ns p (e - 1) < e = omega (arith, k.within) in
          record {
            behind = λ d. k.behind;
            before = λ d. low;
            child = λ d. k.child;
            span = λ d. kid_span (kid_above ns p (e - 1)) e k.behind low k.child cut (λ j a b q. k.last j a (omega arith) q);
            none = λ j r a b q. k.last j a (omega arith) q;
          }
      by (inr l) =
          let z : kid_above ns p (e - 1) ≡ 0 = kid_none ns p (e - 1) l in
          record {
            behind = λ d. absurd (d z);
            before = λ d. absurd (d z);
            child = λ d. absurd (d z);
            span = λ d. absurd (d z);
            none = λ j r a b q. omega (arith, parent_before ns 0 (nodes_in ns) whole j r (omega (arith, inside)));
          }

  -- a child that the last node stands below is the last child
  pub kid_is : (k : ℕ) → p < k → parent_at ns k ≡ p → Above ns k (end - 1) → k ≡ kid_above ns p (end - 1)
  kid_is k h e a =
      let low : k ≤ end - 1 = above_low a in
      by (kid_above ns p (end - 1)) (last_kid (end - 1) (omega arith) (omega arith)) low
      (lt_or_ge k (kid_above ns p (end - 1))) (lt_or_ge (kid_above ns p (end - 1)) k)
    where
      by : (y : ℕ) → LastKid ns p (end - 1) y → k ≤ end - 1 → (k < y) ⊎ (y ≤ k) → (y < k) ⊎ (k ≤ y) → k ≡ y
      by y l low (inl m) n =
          let z : end - 1 ≡ y + (end - 1 - y) = omega (arith, l.within) in
          absurd
          (left_behind ns 0 (nodes_in ns) whole k y (omega arith) m (omega (arith, l.child)) (end - 1 - y) (omega (arith, l.within, sp.within))
          (subst (λ (x : ℕ). Above ns k x) z a))
      by y l low (inr m) (inl n) = absurd (l.last k n low e)
      by y l low (inr m) (inr n) = omega arith
