-- The listing of children: as many turns as the number of the last child are enough, and the children are no more. Assumes nothing.
use Rattle.std.specs.Prelude.{Bool, ◌≡◌}
use Rattle.std.proofs.Math.Path.{refl}
use Rattle.std.proofs.Common.{sym, ◌∙◌, lt-ltb, le-ltb}
use mathlib.Core.List.{List}
use Prim.Native.Nat.{ℕ, zero, suc, ◌+◌, ◌-◌, ◌≤◌, ◌<◌}
use native.Mathlib.Omega.{arith}
use Rattle.laws.specs.Pick.{pick}
use Rattle.laws.specs.Tests.{Less, less, not_less, less?}
use Rattle.node.specs.Store.{with_parent}
use Rattle.walk_order.specs.Walk.{kid_above}
use Rattle.walk_order.specs.Kid.{kid_low}
use Rattle.link_sort.specs.declared.Strung.{Strung}
use Rattle.link_sort.specs.Runs.{strung_from}

-- child `kid` in front of a list
abbrev pub one_more : ℕ → Strung → Strung
one_more kid r = record { first = kid; count = r.count + 1 }

module _ (me : ℕ) where
  pub strung_none : (k kid : ℕ) (r : Strung) (s : List ℕ) → kid ≤ me → strung_from me k kid r s ≡ (r, s)
  unfolding strung_from
  strung_none zero kid r s h = refl
  strung_none (suc k) kid r s h = rw (le-ltb me kid h)

  pub strung_step : (k kid : ℕ) (r : Strung) (s : List ℕ) → me < kid → strung_from me (suc k) kid r s ≡ strung_from me k (kid_above s me (kid - 1)) (one_more kid r) (with_parent s kid r.first)
  unfolding strung_from
  strung_step k kid r s h = rw (lt-ltb me kid h)

  -- the child before stands before
  pub earlier_low : (s : List ℕ) (kid : ℕ) → me < kid → kid_above s me (kid - 1) < kid
  earlier_low s kid h = let low = kid_low s me (kid - 1) in omega arith

  pub strung_enough : (k l kid : ℕ) (r : Strung) (s : List ℕ) → kid ≤ k → kid ≤ l → strung_from me k kid r s ≡ strung_from me l kid r s
  strung_enough zero l kid r s h m = strung_none zero kid r s (omega arith) ∙ sym (strung_none l kid r s (omega arith))
  strung_enough (suc k) zero kid r s h m = strung_none (suc k) kid r s (omega arith) ∙ sym (strung_none zero kid r s (omega arith))
  strung_enough (suc k) (suc l) kid r s h m = by (less? me kid) (λ a b. strung_enough k l (kid_above s me (kid - 1)) (one_more kid r) (with_parent s kid r.first) a b)
    where
      earlier : ℕ
      earlier = kid_above s me (kid - 1)

      by : {t : Bool} → Less me kid t
          → (earlier ≤ k → earlier ≤ l → strung_from me k earlier (one_more kid r) (with_parent s kid r.first) ≡ strung_from me l earlier (one_more kid r) (with_parent s kid r.first))
          → strung_from me (suc k) kid r s ≡ strung_from me (suc l) kid r s
      by (less g) f = let low = earlier_low s kid g in strung_step k kid r s g ∙ f (omega arith) (omega arith) ∙ sym (strung_step l kid r s g)
      by (not_less g) f = strung_none (suc k) kid r s g ∙ sym (strung_none (suc l) kid r s g)

  pub strung_few : (k kid : ℕ) (r : Strung) (s : List ℕ) → (strung_from me k kid r s).0.count ≤ r.count + kid
  unfolding strung_from
  strung_few zero kid r s = omega arith
  strung_few (suc k) kid r s = by (less? me kid) (strung_few k (kid_above s me (kid - 1)) (one_more kid r) (with_parent s kid r.first))
    where
      later : Strung × List ℕ
      later = strung_from me k (kid_above s me (kid - 1)) (one_more kid r) (with_parent s kid r.first)

      by : {t : Bool} → Less me kid t → later.0.count ≤ r.count + 1 + kid_above s me (kid - 1) → (pick {A = Strung × List ℕ} t later (r, s)).0.count ≤ r.count + kid
      by (less g) f = let low = earlier_low s kid g in omega arith
      by (not_less g) f = omega arith
