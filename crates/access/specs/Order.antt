-- The order of records (01, Order and lookup: "Order is by path bytes, unsigned, a prefix first, then stage"): as a relation, `Precedes`, and as the walk that
-- decides it; and how many leading bytes of two paths agree. Assumes nothing.
use Rattle.std.specs.Prelude.{◌≡◌, refl, List, [], ◌∷◌, ℕ, suc, ◌+◌, ◌<◌, ◌≤◌, length, drop, ltb, eqb}
use Rattle.std.proofs.Common.{sym, subst, ⊎_elim, arith, lt-ltb, le-ltb}
use Rattle.laws.specs.Pick.{pick}
use Rattle.laws.specs.Tests.{tri}
use Rattle.laws.specs.Order.{Before, irreflexive, transitive, Comparison, below, equal, beyond, compared, Compares, is_below_lem, is_equal_lem, is_beyond, compares, before_below, before_beyond, compared_same}
use Rattle.wire.specs.BigEndian.{be_at}
use Rattle.access.specs.declared.order.Eights.{Eights}
use Rattle.access.specs.declared.order.Eights.TheVariants.{DifferAt, AgreeTo}
use Rattle.std.specs.declared.cmp.Ordering.{Ordering}
use Rattle.std.specs.declared.cmp.Ordering.TheVariants.{Equal, Greater, Less}

-- the code's name for an answer of the walk
abbrev pub order_of : Comparison → Ordering
order_of below = Less
order_of equal = Equal
order_of beyond = Greater

abbrev pub stage_order : ℕ → ℕ → Ordering
stage_order g h = pick (ltb g h) Less (pick (ltb h g) Greater Equal)

-- the first, and where that is equal the second
abbrev pub then_by : Ordering → Ordering → Ordering
then_by Less o = Less
then_by Greater o = Greater
then_by Equal o = o

-- how a record of path a and stage g stands to one of path b and stage h: where the paths are equal the stages decide
abbrev pub placed : List ℕ → ℕ → List ℕ → ℕ → Ordering
placed a g b h = then_by (order_of (compared a b)) (stage_order g h)

-- how many leading bytes agree
unfoldable pub agreeing : List ℕ → List ℕ → ℕ
agreeing [] b = 0
agreeing (x ∷ xs) [] = 0
agreeing (x ∷ xs) (y ∷ ys) = pick (eqb x y) (suc (agreeing xs ys)) 0

-- k leading bytes agree: what agrees is k and what agrees behind k, and what stands behind k decides
pub record Passed (a b : List ℕ) (k : ℕ) : Type 0 where
  pub agrees : k + agreeing (drop k a) (drop k b) ≡ agreeing a b
  pub decides : compared (drop k a) (drop k b) ≡ compared a b

-- how many agree in eights: up to eight that differ, or to where one of the two has no eight left
pub data EightsOf (a b : List ℕ) : Eights → Type 0 where
  differ_at : {k : ℕ} → Passed a b k → k + 8 ≤ length a → k + 8 ≤ length b → (be_at 8 a k ≡ be_at 8 b k → ⊥) → EightsOf a b (DifferAt k)
  agree_to : {k : ℕ} → Passed a b k → EightsOf a b (AgreeTo k)

-- ---- the relation

-- path a and stage g come strictly before path b and stage h
pub data Precedes : List ℕ → ℕ → List ℕ → ℕ → Type 0 where
  by_path : {a b : List ℕ} {g h : ℕ} → Before a b → Precedes a g b h
  by_stage : {a : List ℕ} {g h : ℕ} → g < h → Precedes a g a h

pub precedes_transitive : {a b c : List ℕ} {g h m : ℕ} → Precedes a g b h → Precedes b h c m → Precedes a g c m
precedes_transitive (by_path p) (by_path q) = by_path (transitive p q)
precedes_transitive (by_path p) (by_stage q) = by_path p
precedes_transitive (by_stage p) (by_path q) = by_path q
precedes_transitive (by_stage {g = g} p) (by_stage {h = m} q) = let l : g < m = omega arith in by_stage l

-- said of two records, since one that stands on both sides cannot be taken apart
precedes_apart : {a b : List ℕ} {g h : ℕ} → Precedes a g b h → a ≡ b → g ≡ h → ⊥
precedes_apart (by_path {b = b} p) e f = irreflexive (subst (λ (z : List ℕ). Before z b) e p)
precedes_apart (by_stage p) e f = omega arith

pub precedes_irreflexive : {a : List ℕ} {g : ℕ} → Precedes a g a g → ⊥
precedes_irreflexive p = precedes_apart p refl refl

-- ---- the walk decides the relation

pub data Places (a : List ℕ) (g : ℕ) (b : List ℕ) (h : ℕ) : Ordering → Type 0 where
  is_less_lem : Precedes a g b h → Places a g b h Less
  is_same : a ≡ b → g ≡ h → Places a g b h Equal
  is_greater : Precedes b h a g → Places a g b h Greater

stage_lt : (g h : ℕ) → g < h → stage_order g h ≡ Less
stage_lt g h l = rw (lt-ltb g h l)

stage_gt : (g h : ℕ) → h < g → stage_order g h ≡ Greater
stage_gt g h l = let m : h ≤ g = omega arith in rw (le-ltb g h m, lt-ltb h g l)

stage_eq : (g h : ℕ) → g ≡ h → stage_order g h ≡ Equal
stage_eq g h e = let l : h ≤ g = omega arith in let m : g ≤ h = omega arith in rw (le-ltb g h l, le-ltb h g m)

same_path : (a : List ℕ) (g h : ℕ) → Places a g a h (stage_order g h)
same_path a g h =
    ⊎_elim (λ l. subst (Places a g a h) (sym (stage_lt g h l)) (is_less_lem (by_stage l)))
    (⊎_elim (λ e. subst (Places a g a h) (sym (stage_eq g h e)) (is_same refl e)) (λ l. subst (Places a g a h) (sym (stage_gt g h l)) (is_greater (by_stage l))))
    (tri g h)

pub places : (a : List ℕ) (g : ℕ) (b : List ℕ) (h : ℕ) → Places a g b h (placed a g b h)
places a g b h = by (compares a b)
  where
    by : {c : Comparison} → Compares a b c → Places a g b h (then_by (order_of c) (stage_order g h))
    by (is_below_lem t) = is_less_lem (by_path t)
    by (is_equal_lem e) = subst (λ (z : List ℕ). Places a g z h (stage_order g h)) e (same_path a g h)
    by (is_beyond t) = is_greater (by_path t)

-- ---- each answer exactly when

pub precedes_less : {a b : List ℕ} {g h : ℕ} → Precedes a g b h → placed a g b h ≡ Less
precedes_less (by_path p) = rw (before_below p)
precedes_less (by_stage {a} {g} {h} l) = rw (compared_same a) (stage_lt g h l)

pub precedes_greater : {a b : List ℕ} {g h : ℕ} → Precedes b h a g → placed a g b h ≡ Greater
precedes_greater (by_path p) = rw (before_beyond p)
precedes_greater (by_stage {a} {g} {h} l) = rw (compared_same a) (stage_gt h g l)

pub same_equal : (a b : List ℕ) (g h : ℕ) → a ≡ b → g ≡ h → placed a g b h ≡ Equal
same_equal a b g h p e = rw (← p, compared_same a) (stage_eq g h e)

module _ (a : List ℕ) (g : ℕ) (b : List ℕ) (h : ℕ) where
  pub less_precedes : placed a g b h ≡ Less → Precedes a g b h
  less_precedes e = by (subst (Places a g b h) e (places a g b h))
    where
      by : Places a g b h Less → Precedes a g b h
      by (is_less_lem p) = p

  pub equal_same : placed a g b h ≡ Equal → (a ≡ b) × (g ≡ h)
  equal_same e = by (subst (Places a g b h) e (places a g b h))
    where
      by : Places a g b h Equal → (a ≡ b) × (g ≡ h)
      by (is_same p q) = (p, q)

  pub greater_precedes : placed a g b h ≡ Greater → Precedes b h a g
  greater_precedes e = by (subst (Places a g b h) e (places a g b h))
    where
      by : Places a g b h Greater → Precedes b h a g
      by (is_greater p) = p
