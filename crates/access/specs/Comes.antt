-- Refusal 12 of a lookup exactly (01, Order and lookup, and "Lookup: 11, then 12 at a record when compared"): which records the halving rule comes to, said
-- without the code's walk, and that 12 is answered exactly at the first of them whose path lies outside its store. Over any table, sorted or not. Assumes
-- nothing.
use Rattle.std.proofs.Math.Path.{◌≡◌, refl, ap}
use Rattle.std.proofs.Common.{sym, ◌∙◌, subst}
use Rattle.std.specs.Prelude.{Bool, List, ◌↔◌, Err, None, Ok, Option, Some}
use Rattle.std.proofs.Math.Bool.{true, false}
use Rattle.std.proofs.Math.Logic.{⊎_elim}
use Prim.Native.Nat.{ℕ, zero, suc, ◌+◌, ◌-◌, ◌/◌, ◌≤◌, ◌<◌}
use native.Mathlib.Omega.{arith}
use Rattle.laws.specs.Pick.{pick}
use Rattle.laws.specs.Tests.{lt_or_ge}
use Rattle.entry.specs.Paths.{Paths}
use Rattle.entry.specs.Record.{records_in, stage_at, lies_inside, path_at}
use Rattle.access.specs.Order.{Precedes, placed, Places, is_less_lem, is_same, is_greater, places, precedes_less, precedes_greater}
use Rattle.access.specs.Lookup.{highest_stage, probe_at, turn, halve, search_at, lookup_at}
use Rattle.access.specs.Steps.{halve_some, halve_none}
use Rattle.access.specs.Sorted.{Lies, yes_lies, lies_yes}
use Rattle.access.specs.Finds.{near, said_refusal_11}
use Rattle.access.specs.declared.Error.TheVariants.{PathOutside}
use Rattle.access.specs.declared.Found.TheVariants.{Absent, At}
use Rattle.std.specs.declared.cmp.Ordering.{Ordering}
use Rattle.std.specs.declared.cmp.Ordering.TheVariants.{Equal, Greater, Less}

-- ---- THE HALVING RULE

-- "middle (low + high) / 2 rounded down"
abbrev pub middle : ℕ → ℕ → ℕ
middle low high = (low + high) / 2

-- the records from low on and before high are what is left at some turn: "low 0, high n", and where the record in the middle has its path in its store,
-- "smaller record sets low to middle + 1, larger sets high to middle"
pub data ComesTo (rs : List ℕ) (ps : Paths) (key : List ℕ) (stage : ℕ) : ℕ → ℕ → Type 0 where
  all_records : ComesTo rs ps key stage 0 (records_in rs)
  past_smaller : {low high : ℕ} → ComesTo rs ps key stage low high → low < high → Lies rs ps (middle low high)
      → Precedes (path_at rs ps (middle low high)) (stage_at rs (middle low high)) key stage → ComesTo rs ps key stage (middle low high + 1) high
  before_larger : {low high : ℕ} → ComesTo rs ps key stage low high → low < high → Lies rs ps (middle low high)
      → Precedes key stage (path_at rs ps (middle low high)) (stage_at rs (middle low high)) → ComesTo rs ps key stage low (middle low high)

-- record i is one that is compared: at some turn records are left, and it is in the middle of them
abbrev pub IsCompared : List ℕ → Paths → List ℕ → ℕ → ℕ → Type 0
IsCompared rs ps key stage i = (low high : ℕ) × ComesTo rs ps key stage low high × (low < high) × (i ≡ middle low high)

-- ---- what the record in the middle says

module _ (rs : List ℕ) (ps : Paths) (key : List ℕ) (stage : ℕ) where
  data Stands (m : ℕ) : Option Ordering → Type 0 where
    outside : (Lies rs ps m → ⊥) → Stands m None
    smaller : Lies rs ps m → Precedes (path_at rs ps m) (stage_at rs m) key stage → Stands m (Some Less)
    equal : Lies rs ps m → Stands m (Some Equal)
    larger : Lies rs ps m → Precedes key stage (path_at rs ps m) (stage_at rs m) → Stands m (Some Greater)

  stands : (m : ℕ) → m < records_in rs → Stands m (probe_at rs ps key stage m)
  unfolding probe_at
  stands m h = by (lies_inside rs ps m) refl
    where
      placed_so : Lies rs ps m → {o : Ordering} → Places (path_at rs ps m) (stage_at rs m) key stage o → Stands m (Some o)
      placed_so l (is_less_lem p) = smaller l p
      placed_so l (is_same p q) = equal l
      placed_so l (is_greater p) = larger l p

      by : (t : Bool) → lies_inside rs ps m ≡ t → Stands m (pick t (Some (placed (path_at rs ps m) (stage_at rs m) key stage)) None)
      by true e = placed_so (yes_lies rs ps m h e) (places (path_at rs ps m) (stage_at rs m) key stage)
      by false e = outside (λ l. cc (lies_yes rs ps m h l))

  -- ---- an answer of 12 comes from such a record

  abbrev p : ℕ → Option Ordering
  p = probe_at rs ps key stage

  other : {A : Type 0} {i j k : ℕ} → Ok (At j k) ≡ Err (PathOutside i) → A
  other e = cc

  said_turn : (i f low high k : ℕ)
      → ((l h : ℕ) → h ≤ records_in rs → ComesTo rs ps key stage l h → halve p f l h (k + 1) ≡ Err (PathOutside i) → IsCompared rs ps key stage i × (Lies rs ps i → ⊥))
      → low < high → high ≤ records_in rs → ComesTo rs ps key stage low high → {a : Option Ordering} → Stands (middle low high) a
      → turn (λ l h. halve p f l h (k + 1)) low high (middle low high) (k + 1) a ≡ Err (PathOutside i) → IsCompared rs ps key stage i × (Lies rs ps i → ⊥)
  said_turn i f low high k ih l n c (outside q) e =
      let same : middle low high ≡ i = cc in
      ((low, high, c, l, sym same), subst (λ (m : ℕ). Lies rs ps m → ⊥) same q)
  said_turn i f low high k ih l n c (smaller q r) e = ih (middle low high + 1) high n (past_smaller c l q r) e
  said_turn i f low high k ih l n c (equal q) e = other e
  said_turn i f low high k ih l n c (larger q r) e = ih low (middle low high) (omega arith) (before_larger c l q r) e

  said_from : (i f low high k : ℕ) → high ≤ records_in rs → ComesTo rs ps key stage low high → halve p f low high k ≡ Err (PathOutside i)
      → IsCompared rs ps key stage i × (Lies rs ps i → ⊥)
  unfolding halve
  said_from i zero low high k n c e = cc
  said_from i (suc f) low high k n c e =
      ⊎_elim
      (λ l. said_turn i f low high k (λ l' h' n' c' e'. said_from i f l' h' (k + 1) n' c' e') l n c (stands (middle low high) (omega arith)) (sym (halve_some p f low high k l) ∙ e))
      (λ l. none (sym (halve_none p f low high k l) ∙ e))
      (lt_or_ge low high)
    where
      none : {A : Type 0} → Ok (Absent k) ≡ Err (PathOutside i) → A
      none q = cc

  said : (i : ℕ) → search_at rs ps key stage ≡ Err (PathOutside i) → IsCompared rs ps key stage i × (Lies rs ps i → ⊥)
  unfolding search_at
  said i e = said_from i (records_in rs) 0 (records_in rs) 0 (omega arith) all_records e

  -- ---- and the walk does come to what the rule comes to

  -- the answer is the one for these records, with turns enough left
  record Left (low high : ℕ) : Type 0 where
    turns : ℕ
    count : ℕ
    enough : high - low ≤ turns
    within : high ≤ records_in rs
    same : search_at rs ps key stage ≡ halve p turns low high count

  inside_probe : (m : ℕ) → m < records_in rs → Lies rs ps m → p m ≡ Some (placed (path_at rs ps m) (stage_at rs m) key stage)
  unfolding probe_at
  inside_probe m h l = rw (lies_yes rs ps m h l)

  outside_probe : (m : ℕ) → m < records_in rs → (Lies rs ps m → ⊥) → p m ≡ None
  unfolding probe_at
  outside_probe m h l = by (lies_inside rs ps m) refl
    where
      by : (t : Bool) → lies_inside rs ps m ≡ t → pick t (Some (placed (path_at rs ps m) (stage_at rs m) key stage)) None ≡ None
      by true e = absurd (l (yes_lies rs ps m h e))
      by false e = refl

  -- one turn more, for what the record in the middle says
  record Turned (low high : ℕ) (a : Option Ordering) : Type 0 where
    turns : ℕ
    count : ℕ
    enough : high - low ≤ suc turns
    same : search_at rs ps key stage ≡ turn (λ l h. halve p turns l h (count + 1)) low high (middle low high) (count + 1) a

  turned : {low high : ℕ} {a : Option Ordering} → low < high → Left low high → p (middle low high) ≡ a → Turned low high a
  turned {low} {high} {a} l x e = by x.turns x.enough x.same
    where
      by : (f : ℕ) → high - low ≤ f → search_at rs ps key stage ≡ halve p f low high x.count → Turned low high a
      by zero w q = absurd (omega arith)
      by (suc f) w q =
          record {
            turns = f;
            count = x.count;
            enough = w;
            same = q ∙ halve_some p f low high x.count l ∙ ap (λ (b : Option Ordering). turn (λ l h. halve p f l h (x.count + 1)) low high (middle low high) (x.count + 1) b) e;
          }

  left : {low high : ℕ} → ComesTo rs ps key stage low high → Left low high
  unfolding search_at
  left all_records = record { turns = records_in rs; count = 0; enough = omega arith; within = omega arith; same = refl }
  left (past_smaller {low} {high} c l q r) =
      let x = left c in
      let n : high ≤ records_in rs = x.within in
      let m : middle low high < records_in rs = omega arith in
      let t : Turned low high (Some Less) = turned l x (inside_probe (middle low high) m q ∙ ap Some (precedes_less r)) in
      record { turns = t.turns; count = t.count + 1; enough = omega (arith, t.enough); within = n; same = t.same }
  left (before_larger {low} {high} c l q r) =
      let x = left c in
      let n : high ≤ records_in rs = x.within in
      let m : middle low high < records_in rs = omega arith in
      let t : Turned low high (Some Greater) = turned l x (inside_probe (middle low high) m q ∙ ap Some (precedes_greater r)) in
      record { turns = t.turns; count = t.count + 1; enough = omega (arith, t.enough); within = omega arith; same = t.same }

  -- ---- THE CLAIM

  -- 12 is answered for record i exactly if the stage is one of 0 to 3, the halving comes to record i, having found the path of each record that it compared
  -- before inside, and the path of record i lies outside
  pub refusal_12_exactly : (i : ℕ) → (lookup_at rs ps key stage ≡ Err (PathOutside i)) ↔ ((stage ≤ highest_stage) × IsCompared rs ps key stage i × (Lies rs ps i → ⊥))
  refusal_12_exactly i = (to, from)
    where
      to : lookup_at rs ps key stage ≡ Err (PathOutside i) → (stage ≤ highest_stage) × IsCompared rs ps key stage i × (Lies rs ps i → ⊥)
      to e =
          ⊎_elim (λ h. cc (said_refusal_11 rs ps key stage h))
          (λ h. let (a, b) = said i (sym (near rs ps key stage h) ∙ e) in (h, a, b))
          (lt_or_ge highest_stage stage)

      from : (stage ≤ highest_stage) × IsCompared rs ps key stage i × (Lies rs ps i → ⊥) → lookup_at rs ps key stage ≡ Err (PathOutside i)
      from (h, (low, high, c, l, e), q) =
          let x = left c in
          let n : high ≤ records_in rs = x.within in
          let m : middle low high < records_in rs = omega arith in
          let o : p (middle low high) ≡ None = outside_probe (middle low high) m (subst (λ (k : ℕ). Lies rs ps k → ⊥) e q) in
          near rs ps key stage h ∙ (turned l x o).same ∙ cc
