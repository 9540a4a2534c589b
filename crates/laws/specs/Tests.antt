-- Tests of numbers and what each answer says: as a ruleset for `search`, as views that a match opens, and as a choice of cases. Assumes nothing.
use Rattle.std.specs.Prelude.{ℕ, ◌≤◌, ◌<◌, Bool, true, false, ◌≡◌, refl, ◌⊎◌, ltb, leb, eqb}
use Rattle.std.proofs.Common.{inl, inr, ⊎_elim, arith, ltb-true, ltb-false, leb-true, leb-false, eqb-true, lt-ltb, le-ltb, le-leb, eq-eqb, ne_eqb}
use Rattle.std.proofs.lemmas.Bool.{eqb-false, lt-leb}

-- a fact turned into the test's answer, in the goal's direction
pub ruleset tests = (lt-ltb, le-ltb, le-leb, lt-leb, eq-eqb, ne_eqb)

-- ---- views: the test's answer with what it says

pub data Less (a b : ℕ) : Bool → Type 0 where
  less : a < b → Less a b true
  not_less : b ≤ a → Less a b false

pub less? : (a b : ℕ) → Less a b (ltb a b)
less? a b = go (ltb a b) refl
  where
    go : (t : Bool) → ltb a b ≡ t → Less a b t
    go true e = less (ltb-true a b e)
    go false e = not_less (ltb-false a b e)

pub data AtMost (a b : ℕ) : Bool → Type 0 where
  at_most : a ≤ b → AtMost a b true
  above : b < a → AtMost a b false

pub at_most? : (a b : ℕ) → AtMost a b (leb a b)
at_most? a b = go (leb a b) refl
  where
    go : (t : Bool) → leb a b ≡ t → AtMost a b t
    go true e = at_most (leb-true a b e)
    go false e = above (leb-false a b e)

pub data Same (a b : ℕ) : Bool → Type 0 where
  same : a ≡ b → Same a b true
  differs : (a ≡ b → ⊥) → Same a b false

pub same? : (a b : ℕ) → Same a b (eqb a b)
same? a b = go (eqb a b) refl
  where
    go : (t : Bool) → eqb a b ≡ t → Same a b t
    go true e = same (eqb-true a b e)
    go false e = differs (eqb-false a b e)

-- ---- cases

pub lt_or_ge : (a b : ℕ) → (a < b) ⊎ (b ≤ a)
lt_or_ge a b = by (ltb a b) refl
  where
    by : (t : Bool) → ltb a b ≡ t → (a < b) ⊎ (b ≤ a)
    by true e = inl (ltb-true a b e)
    by false e = inr (ltb-false a b e)

-- one of three
pub tri : (a b : ℕ) → (a < b) ⊎ ((a ≡ b) ⊎ (b < a))
tri a b = ⊎_elim (λ h. inl h) (λ h. ⊎_elim (λ k. inr (inr k)) (λ k. inr (inl (omega arith))) (lt_or_ge b a)) (lt_or_ge a b)
