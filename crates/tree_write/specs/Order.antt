-- Nodes in byte order of name (01, Writing: "siblings in byte order of name"), and by index where the names are equal, so that every table has one order. It is a
-- strict order. Assumes nothing.
use Rattle.std.specs.Prelude.{Bool, true, false, ◌≡◌, ◌⊎◌, List, ℕ, ◌≤◌, ◌<◌, ltb}
use Rattle.std.proofs.Math.Path.{refl}
use Rattle.std.proofs.Common.{sym, ◌∙◌, subst, inl, inr, ⊎_elim, lt-ltb, le-ltb, ltb-true}
use native.Mathlib.Omega.{arith}
use Rattle.laws.specs.Tests.{tri}
use Rattle.laws.specs.Order.{Before, transitive, Comparison, below, equal, beyond, compared, Compares, is_below_lem, is_equal_lem, is_beyond, compares, before_below, compared_same}
use Rattle.node.specs.Store.{name_at}
pub use Rattle.walk_order.specs.Child.{false_true}

unfoldable pub by_index : Comparison → ℕ → ℕ → Bool
by_index below i j = true
by_index equal i j = ltb i j
by_index beyond i j = false

-- node i comes before node j
unfoldable pub before : List ℕ → List ℕ → ℕ → ℕ → Bool
before ns nm i j = by_index (compared (name_at nm ns i) (name_at nm ns j)) i j

equal_names : (a b : List ℕ) → a ≡ b → compared a b ≡ equal
equal_names a b e = subst (λ (x : List ℕ). compared a x ≡ equal) e (compared_same a)

trans_by : {a b c : List ℕ} (i j k : ℕ) {x y : Comparison} → Compares a b x → Compares b c y → by_index x i j ≡ true → by_index y j k ≡ true → by_index (compared a c) i k ≡ true
unfolding by_index
trans_by i j k (is_beyond s) t e q = absurd (false_true e)
trans_by i j k (is_below_lem s) (is_beyond t) e q = absurd (false_true q)
trans_by i j k (is_equal_lem s) (is_beyond t) e q = absurd (false_true q)
trans_by i j k (is_below_lem s) (is_below_lem t) e q = rw (before_below (transitive s t))
trans_by {a} {b} {c} i j k (is_below_lem s) (is_equal_lem t) e q = rw (before_below (subst (Before a) t s))
trans_by {a} {b} {c} i j k (is_equal_lem s) (is_below_lem t) e q = rw (before_below (subst (λ (x : List ℕ). Before x c) (sym s) t))
trans_by {a} {b} {c} i j k (is_equal_lem s) (is_equal_lem t) e q = rw (equal_names a c (s ∙ t)) (lt-ltb i k (omega (arith, ltb-true i j e, ltb-true j k q)))

total_by : {a b : List ℕ} (i j : ℕ) {x : Comparison} → Compares a b x → compared a b ≡ x → (i ≡ j) ⊎ ((by_index (compared a b) i j ≡ true) ⊎ (by_index (compared b a) j i ≡ true))
unfolding by_index
total_by i j (is_below_lem s) e = inr (inl (rw e))
total_by i j (is_beyond s) e = inr (inr (rw (before_below s)))
total_by {a} {b} i j (is_equal_lem s) e =
    ⊎_elim (λ l. inr (inl (rw e (lt-ltb i j l)))) (⊎_elim (λ l. inl l) (λ l. inr (inr (rw (equal_names b a (sym s)) (lt-ltb j i l))))) (tri i j)

module _ (ns nm : List ℕ) where
  pub before_not : (i : ℕ) → before ns nm i i ≡ true → ⊥
  unfolding before by_index
  before_not i e = let h : i ≤ i = omega arith in false_true (sym (rw (compared_same (name_at nm ns i)) (le-ltb i i h)) ∙ e)

  pub before_trans : (i j k : ℕ) → before ns nm i j ≡ true → before ns nm j k ≡ true → before ns nm i k ≡ true
  unfolding before
  before_trans i j k e q = trans_by i j k (compares (name_at nm ns i) (name_at nm ns j)) (compares (name_at nm ns j) (name_at nm ns k)) e q

  pub before_total : (i j : ℕ) → (i ≡ j) ⊎ ((before ns nm i j ≡ true) ⊎ (before ns nm j i ≡ true))
  unfolding before
  before_total i j = total_by i j (compares (name_at nm ns i) (name_at nm ns j)) refl

  -- nodes whose names differ are in order of name
  pub before_names : (i j : ℕ) → before ns nm i j ≡ true → (name_at nm ns i ≡ name_at nm ns j → i ≡ j) → Before (name_at nm ns i) (name_at nm ns j)
  unfolding before by_index
  before_names i j h d = by (compares (name_at nm ns i) (name_at nm ns j)) h
    where
      same : i ≡ j → i < j → ⊥
      same p q = omega arith

      by : {x : Comparison} → Compares (name_at nm ns i) (name_at nm ns j) x → by_index x i j ≡ true → Before (name_at nm ns i) (name_at nm ns j)
      by (is_below_lem s) l = s
      by (is_beyond s) l = absurd (false_true l)
      by (is_equal_lem s) l = absurd (same (d s) (ltb-true i j l))
