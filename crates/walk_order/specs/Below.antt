-- The nodes below a node (01, Extensions: "Nodes go to a lent store in file order"), for a part of a store in walk order: from `me`, behind which stands what is
-- below it, up to `used`. Once a node is left, nothing that comes later stands below it. Assumes nothing.
use Rattle.std.specs.Prelude.{◌≡◌, refl, ◌⊎◌, List, ℕ, zero, suc, ◌+◌, ◌-◌, ◌≤◌, ◌<◌}
use Rattle.std.proofs.Common.{sym, subst, inl, inr, ⊎_elim, arith}
use Rattle.laws.specs.Tests.{lt_or_ge}
use Rattle.node.specs.Store.{parent_at}

-- ---- what stands above a node

-- p is the node, or stands above it
pub data Above (ns : List ℕ) (p : ℕ) : ℕ → Type 0 where
  itself : Above ns p p
  higher : {x : ℕ} → p < x → Above ns p (parent_at ns x) → Above ns p x

pub above_same : (ns : List ℕ) (p x : ℕ) → p ≡ x → Above ns p x
above_same ns p x e = subst (λ (y : ℕ). Above ns p y) e itself

pub above_low : {ns : List ℕ} {p x : ℕ} → Above ns p x → p ≤ x
above_low itself = omega arith
above_low (higher l a) = omega arith

pub above_cases : {ns : List ℕ} {p x : ℕ} → Above ns p x → (p ≡ x) ⊎ ((p < x) × Above ns p (parent_at ns x))
above_cases itself = inl refl
above_cases (higher l a) = inr (l, a)

-- what stands above a node stands above all below that
pub above_on : {ns : List ℕ} {p q x : ℕ} → Above ns p q → Above ns q x → Above ns p x
above_on a itself = a
above_on {p = p} {x = x} a (higher l b) = let low = above_low a in let up : p < x = omega arith in higher up (above_on a b)

-- it depends on the parents of the node and of those before it
pub above_kept : {ns : List ℕ} {p x : ℕ} (ms : List ℕ) → ((j : ℕ) → j ≤ x → parent_at ms j ≡ parent_at ns j) → ((j : ℕ) → j ≤ x → p < j → parent_at ns j < j) → Above ns p x → Above ms p x
above_kept ms same less itself = itself
above_kept {ns} {p} {x} ms same less (higher l a) =
    let up : parent_at ns x < x = less x (omega arith) l in
    higher l (subst (λ (y : ℕ). Above ms p y) (sym (same x (omega arith))) (above_kept ms (λ j h. same j (omega arith)) (λ j h k. less j (omega arith) k) a))

-- ---- a part of a store in walk order

-- each node behind `me` and before `used` has a parent that is not before `me`, and is the node before it or stands above that
pub record Below (ns : List ℕ) (me used : ℕ) : Type 0 where
  pub inside : (j : ℕ) → me < j → j < used → me ≤ parent_at ns j
  pub follows : (j : ℕ) → me < j → j < used → Above ns (parent_at ns j) (j - 1)

module _ (ns : List ℕ) (me used : ℕ) (b : Below ns me used) where
  -- a child stands behind its parent
  pub parent_before : (j : ℕ) → me < j → j < used → parent_at ns j < j
  parent_before j h l = let low : parent_at ns j ≤ j - 1 = above_low (b.follows j h l) in omega arith

  -- all of it stands below `me`
  below_from : (f x : ℕ) → x ≤ f → me ≤ x → x < used → Above ns me x
  below_from zero x h l m = above_same ns me x (omega arith)
  below_from (suc f) x h l m = ⊎_elim (λ k. climbed k (parent_before x k m) (λ q r. below_from f (parent_at ns x) q r)) (λ k. above_same ns me x (omega arith)) (lt_or_ge me x)
    where
      climbed : me < x → parent_at ns x < x → (parent_at ns x ≤ f → me ≤ parent_at ns x → parent_at ns x < used → Above ns me (parent_at ns x)) → Above ns me x
      climbed k less up = higher k (up (omega arith) (b.inside x k m) (omega arith))

  pub all_below : (x : ℕ) → me ≤ x → x < used → Above ns me x
  all_below x l m = below_from x x (omega arith) l m

  -- p, which is left at node j, stands above nothing from there on
  pub left_behind : (p j : ℕ) → me ≤ p → p < j → parent_at ns j < p → (d : ℕ) → j + d < used → Above ns p (j + d) → ⊥
  left_behind p j g h l zero m a = by (above_cases (subst (λ (x : ℕ). Above ns p x) here a))
    where
      here : j + 0 ≡ j
      here = omega arith

      by : (p ≡ j) ⊎ ((p < j) × Above ns p (parent_at ns j)) → ⊥
      by (inl e) = omega arith
      by (inr c) = let low : p ≤ parent_at ns j = above_low c.1 in omega arith
  left_behind p j g h l (suc d) m a = by (left_behind p j g h l d (omega arith)) (above_cases a)
    where
      last : j + suc d - 1 ≡ j + d
      last = omega arith

      by : (Above ns p (j + d) → ⊥) → (p ≡ j + suc d) ⊎ ((p < j + suc d) × Above ns p (parent_at ns (j + suc d))) → ⊥
      by f (inl e) = omega arith
      by f (inr c) = f (subst (λ (x : ℕ). Above ns p x) last (above_on c.1 (b.follows (j + suc d) (omega arith) m)))

  -- behind a node whose parent stands before p there is no child of p
  pub nested : (p j k : ℕ) → me ≤ p → p < j → j < k → k < used → parent_at ns j < p → parent_at ns k ≡ p → ⊥
  nested p j k g h l m q e =
      let z : k - 1 ≡ j + (k - 1 - j) = omega arith in
      left_behind p j g h q (k - 1 - j) (omega arith)
      (subst (λ (x : ℕ). Above ns p x) z (subst (λ (x : ℕ). Above ns x (k - 1)) e (b.follows k (omega arith) m)))
