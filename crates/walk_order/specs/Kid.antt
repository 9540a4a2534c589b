-- The climb from a node to the child of p that it stands below. In walk order this is the last child of p that stands there or before; so a folder's children are
-- listed backwards, from each to the one before it, with no search through what stands below them. Assumes nothing.
use Rattle.std.specs.Prelude.{Bool, ◌≡◌, ◌⊎◌, List, leb, eqb}
use Rattle.std.proofs.Math.Path.{refl}
use Rattle.std.proofs.Common.{subst, inl, inr, ⊎_elim, le-leb}
use Prim.Native.Nat.{ℕ, zero, suc, ◌+◌, ◌-◌, ◌≤◌, ◌<◌}
use native.Mathlib.Omega.{arith}
use Rattle.laws.specs.Pick.{pick}
use Rattle.laws.specs.Tests.{AtMost, at_most, above, at_most?, Same, same, differs, same?, lt_or_ge}
use Rattle.node.specs.Store.{parent_at}
use Rattle.walk_order.specs.Walk.{kid_from, kid_above}
use Rattle.walk_order.specs.Below.{Above, itself, higher, above_low, above_cases, Below, parent_before, left_behind}

-- ---- in every table

module _ (ns : List ℕ) (p : ℕ) where
  -- as many nodes as the number of the first are enough
  pub kid_enough : (k l x : ℕ) → x ≤ k → x ≤ l → kid_from ns p k x ≡ kid_from ns p l x
  unfolding kid_from
  kid_enough zero zero x h m = refl
  kid_enough zero (suc l) x h m = by (at_most? x p)
    where
      by : {t : Bool} → AtMost x p t → 0 ≡ pick t 0 (pick (eqb (parent_at ns x) p) x (pick (leb x (parent_at ns x)) 0 (kid_from ns p l (parent_at ns x))))
      by (at_most g) = refl
      by (above g) = absurd (omega arith)
  kid_enough (suc k) zero x h m = by (at_most? x p)
    where
      by : {t : Bool} → AtMost x p t → pick t 0 (pick (eqb (parent_at ns x) p) x (pick (leb x (parent_at ns x)) 0 (kid_from ns p k (parent_at ns x)))) ≡ 0
      by (at_most g) = refl
      by (above g) = absurd (omega arith)
  kid_enough (suc k) (suc l) x h m = by (at_most? x (parent_at ns x)) (λ g. kid_enough k l (parent_at ns x) (omega arith) (omega arith))
    where
      by : {t : Bool} → AtMost x (parent_at ns x) t → (parent_at ns x < x → kid_from ns p k (parent_at ns x) ≡ kid_from ns p l (parent_at ns x))
          → pick (leb x p) 0 (pick (eqb (parent_at ns x) p) x (pick t 0 (kid_from ns p k (parent_at ns x)))) ≡ pick (leb x p) 0 (pick (eqb (parent_at ns x) p) x (pick t 0 (kid_from ns p l (parent_at ns x))))
      by (at_most g) f = refl
      by (above g) f = rw (f g)

  low_from : (k x : ℕ) → kid_from ns p k x ≤ x
  unfolding kid_from
  low_from zero x = omega arith
  low_from (suc k) x = by (at_most? x p) (same? (parent_at ns x) p) (at_most? x (parent_at ns x)) (low_from k (parent_at ns x))
    where
      by : {t u v : Bool} → AtMost x p t → Same (parent_at ns x) p u → AtMost x (parent_at ns x) v → kid_from ns p k (parent_at ns x) ≤ parent_at ns x
          → pick t 0 (pick u x (pick v 0 (kid_from ns p k (parent_at ns x)))) ≤ x
      by (at_most g) b c f = omega arith
      by (above g) (same e) c f = omega arith
      by (above g) (differs e) (at_most l) f = omega arith
      by (above g) (differs e) (above l) f = omega arith

  -- it never goes up
  pub kid_low : (x : ℕ) → kid_above ns p x ≤ x
  unfolding kid_above
  kid_low x = low_from x x

  -- it looks at the parents of x and of nodes before it
  same_from : (ms : List ℕ) (k x : ℕ) → ((j : ℕ) → j ≤ x → parent_at ms j ≡ parent_at ns j) → kid_from ms p k x ≡ kid_from ns p k x
  unfolding kid_from
  same_from ms zero x h = refl
  same_from ms (suc k) x h = rw (h x (omega arith)) (by (at_most? x (parent_at ns x)) (λ g. same_from ms k (parent_at ns x) (λ j l. h j (omega arith))))
    where
      by : {t : Bool} → AtMost x (parent_at ns x) t → (parent_at ns x < x → kid_from ms p k (parent_at ns x) ≡ kid_from ns p k (parent_at ns x))
          → pick (leb x p) 0 (pick (eqb (parent_at ns x) p) x (pick t 0 (kid_from ms p k (parent_at ns x)))) ≡ pick (leb x p) 0 (pick (eqb (parent_at ns x) p) x (pick t 0 (kid_from ns p k (parent_at ns x))))
      by (at_most g) f = refl
      by (above g) f = rw (f g)

  pub kid_same : (ms : List ℕ) (x : ℕ) → ((j : ℕ) → j ≤ x → parent_at ms j ≡ parent_at ns j) → kid_above ms p x ≡ kid_above ns p x
  unfolding kid_above
  kid_same ms x h = same_from ms x x h

  none_from : (k x : ℕ) → x ≤ p → kid_from ns p k x ≡ 0
  unfolding kid_from
  none_from zero x h = refl
  none_from (suc k) x h = rw (le-leb x p h)

  pub kid_none : (x : ℕ) → x ≤ p → kid_above ns p x ≡ 0
  unfolding kid_above
  kid_none x h = none_from x x h

-- ---- in walk order

-- y is a child of p, and the last of those that stand at x or before
pub record LastKid (ns : List ℕ) (p x y : ℕ) : Type 0 where
  pub behind : p < y
  pub within : y ≤ x
  pub child : parent_at ns y ≡ p
  pub last : (j : ℕ) → y < j → j ≤ x → parent_at ns j ≡ p → ⊥

-- y is a child of p, and is x or stands above it
record Reached (ns : List ℕ) (p x y : ℕ) : Type 0 where
  behind : p < y
  child : parent_at ns y ≡ p
  up : Above ns y x

module _ (ns : List ℕ) (me used : ℕ) (b : Below ns me used) (p : ℕ) (l : me ≤ p) where
  reached_from : (k x : ℕ) → x ≤ k → p < x → x < used → Above ns p x → Reached ns p x (kid_from ns p k x)
  unfolding kid_from
  reached_from zero x h m n a = absurd (omega arith)
  reached_from (suc k) x h m n a = by (at_most? x p) (same? (parent_at ns x) p) (at_most? x (parent_at ns x)) (above_cases a) (λ q c. reached_from k (parent_at ns x) (omega (arith, less)) q (omega (arith, less)) c)
    where
      less : parent_at ns x < x
      less = parent_before ns me used b x (omega arith) n

      by : {t u v : Bool} → AtMost x p t → Same (parent_at ns x) p u → AtMost x (parent_at ns x) v → (p ≡ x) ⊎ ((p < x) × Above ns p (parent_at ns x))
          → (p < parent_at ns x → Above ns p (parent_at ns x) → Reached ns p (parent_at ns x) (kid_from ns p k (parent_at ns x)))
          → Reached ns p x (pick t 0 (pick u x (pick v 0 (kid_from ns p k (parent_at ns x)))))
      by (at_most g) c d e f = absurd (omega arith)
      by (above g) (same q) d e f = record { behind = m; child = q; up = itself }
      by (above g) (differs q) (at_most d) e f = absurd (omega (arith, less))
      by (above g) (differs q) (above d) (inl e) f = absurd (omega arith)
      by (above g) (differs q) (above d) (inr e) f =
          let low : p ≤ parent_at ns x = above_low e.1 in
          let r = f (⊎_elim (λ z. z) (λ z. absurd (q (omega arith))) (lt_or_ge p (parent_at ns x))) e.1 in
          let y : ℕ = kid_from ns p k (parent_at ns x) in
          let under : y ≤ parent_at ns x = above_low r.up in
          record { behind = r.behind; child = r.child; up = higher {x = x} (omega (arith, under, less)) r.up }

  -- THE CLAIM: below p the climb finds the last child
  pub kid_last : (x : ℕ) → p < x → x < used → Above ns p x → LastKid ns p x (kid_above ns p x)
  unfolding kid_above
  kid_last x m n a = by (kid_from ns p x x) (reached_from x x (omega arith) m n a)
    where
      by : (y : ℕ) → Reached ns p x y → LastKid ns p x y
      by y r = record {
        behind = r.behind;
        within = above_low r.up;
        child = r.child;
        last = λ j h k e.
            let g = r.behind in
            let z : x ≡ j + (x - j) = omega arith in
            left_behind ns me used b y j (omega arith) h (omega arith) (x - j) (omega arith) (subst (λ (i : ℕ). Above ns y i) z r.up);
      }
