-- The records that are written, by their indices: exactly those that are not marked REMOVE, in the table's order; all of them where none is marked. Assumes nothing.
use Prim.Native.Nat.{ℕ, zero, suc, ◌+◌, ◌≤◌, ◌<◌}
use Rattle.std.specs.Prelude.{◌≡◌, Bool, List, [], ◌∷◌, map, length}
use Rattle.std.proofs.Math.Path.{refl, ap}
use Rattle.std.proofs.Common.{sym, ◌∙◌}
use Rattle.std.proofs.Math.Bool.{true, false}
use Rattle.std.proofs.Math.Logic.{⊎_elim}
use Rattle.std.proofs.Math.Option.{Option, some}
use native.Mathlib.Omega.{arith}
use Rattle.std.proofs.Math.ListN.{get_elem?}
use Rattle.laws.specs.Pick.{pick}
use Rattle.laws.specs.Tests.{lt_or_ge}
use Rattle.write_entries.specs.Entries.{is_gone}
use Rattle.claims_write.specs.Meaning.{kept_from}

pub at_map : {A : Type 0} (f : ℕ → A) (l : List ℕ) (j i : ℕ) → get_elem? l j ≡ some i → get_elem? (map f l) j ≡ some (f i)
at_map f [] j i e = let z : ◌≡◌ {A = ℕ} 0 1 = cc in absurd (omega arith)
at_map f (x ∷ l) zero i e = let q : x ≡ i = cc in ap (λ (y : ℕ). some (f y)) q
at_map f (x ∷ l) (suc j) i e = at_map f l j i e

-- what an index among them says
pub record IsKept (rs : List ℕ) (k from i : ℕ) : Type 0 where
  pub least : from ≤ i
  pub most : i < from + k
  pub stays : is_gone rs i ≡ false

none_there : (j i : ℕ) → get_elem? {A = ℕ} [] j ≡ some i → ⊥
none_there j i e = let z : ◌≡◌ {A = ℕ} 0 1 = cc in omega arith

module _ (rs : List ℕ) where
  pub kept_is : (k from j i : ℕ) → get_elem? (kept_from rs k from) j ≡ some i → IsKept rs k from i
  unfolding kept_from
  kept_is zero from j i e = absurd (none_there j i e)
  kept_is (suc k) from j i e = by (λ l f. later (kept_is k (from + 1) l i f)) (is_gone rs from) refl j e
    where
      later : IsKept rs k (from + 1) i → IsKept rs (suc k) from i
      later x = record { least = omega (arith, x.least); most = omega (arith, x.most); stays = x.stays }

      by : ((l : ℕ) → get_elem? (kept_from rs k (from + 1)) l ≡ some i → IsKept rs (suc k) from i) → (t : Bool) → is_gone rs from ≡ t → (j : ℕ)
          → get_elem? (pick t (kept_from rs k (from + 1)) (from ∷ kept_from rs k (from + 1))) j ≡ some i → IsKept rs (suc k) from i
      by ih true q j e = ih j e
      by ih false q zero e = let r : from ≡ i = cc in record { least = omega arith; most = omega arith; stays = ap (is_gone rs) (sym r) ∙ q }
      by ih false q (suc j) e = ih j e

  -- each that stays is among them
  pub kept_all : (k from i : ℕ) → IsKept rs k from i → (j : ℕ) × (get_elem? (kept_from rs k from) j ≡ some i)
  unfolding kept_from
  kept_all zero from i x = absurd (omega (arith, x.least, x.most))
  kept_all (suc k) from i x = ⊎_elim (λ h. by (is_gone rs from) (kept_all k (from + 1) i (record { least = omega arith; most = omega (arith, x.most); stays = x.stays }))) (λ h. here (is_gone rs from) refl (omega (arith, x.least))) (lt_or_ge from i)
    where
      by : (t : Bool) → (j : ℕ) × (get_elem? (kept_from rs k (from + 1)) j ≡ some i) → (j : ℕ) × (get_elem? (pick t (kept_from rs k (from + 1)) (from ∷ kept_from rs k (from + 1))) j ≡ some i)
      by true (j, e) = (j, e)
      by false (j, e) = (suc j, e)

      here : (t : Bool) → is_gone rs from ≡ t → from ≡ i → (j : ℕ) × (get_elem? (pick t (kept_from rs k (from + 1)) (from ∷ kept_from rs k (from + 1))) j ≡ some i)
      here true q e = let a : is_gone rs from ≡ false = ap (is_gone rs) e ∙ x.stays in let z : ◌≡◌ {A = ℕ} 0 1 = cc in absurd (omega arith)
      here false q e = (0, ap {B = Option ℕ} some e)

  -- in the table's order
  pub kept_rise : (k from j l i m : ℕ) → j < l → get_elem? (kept_from rs k from) j ≡ some i → get_elem? (kept_from rs k from) l ≡ some m → i < m
  unfolding kept_from
  kept_rise zero from j l i m h e f = absurd (none_there j i e)
  kept_rise (suc k) from j l i m h e f = by (λ a b. kept_rise k (from + 1) a b i m) (is_gone rs from) j l h e f
    where
      by : ((a b : ℕ) → a < b → get_elem? (kept_from rs k (from + 1)) a ≡ some i → get_elem? (kept_from rs k (from + 1)) b ≡ some m → i < m) → (t : Bool) (j l : ℕ) → j < l → get_elem? (pick t (kept_from rs k (from + 1)) (from ∷ kept_from rs k (from + 1))) j ≡ some i → get_elem? (pick t (kept_from rs k (from + 1)) (from ∷ kept_from rs k (from + 1))) l ≡ some m → i < m
      by ih true j l h e f = ih j l h e f
      by ih false zero zero h e f = absurd (omega arith)
      by ih false (suc j) zero h e f = absurd (omega arith)
      by ih false zero (suc l) h e f = let r : from ≡ i = cc in let x = kept_is k (from + 1) l m f in omega (arith, x.least)
      by ih false (suc j) (suc l) h e f = ih j l (omega arith) e f

  -- where none is marked, record j is the one at j
  pub kept_here : (k from : ℕ) → ((i : ℕ) → from ≤ i → i < from + k → is_gone rs i ≡ false) → (j : ℕ) → j < k → get_elem? (kept_from rs k from) j ≡ some (from + j)
  unfolding kept_from
  kept_here zero from stays j h = absurd (omega arith)
  kept_here (suc k) from stays j h = rw (stays from (omega arith) (omega arith)) (by (λ l q. kept_here k (from + 1) (λ i a b. stays i (omega arith) (omega arith)) l q) j h)
    where
      by : ((l : ℕ) → l < k → get_elem? (kept_from rs k (from + 1)) l ≡ some (from + 1 + l)) → (j : ℕ) → j < suc k → get_elem? (from ∷ kept_from rs k (from + 1)) j ≡ some (from + j)
      by ih zero h = let e : from ≡ from + 0 = omega arith in ap {B = Option ℕ} some e
      by ih (suc j) h = let e : from + 1 + j ≡ from + suc j = omega arith in ih j (omega arith) ∙ ap {B = Option ℕ} some e

  pub kept_length : (k from : ℕ) → ((i : ℕ) → from ≤ i → i < from + k → is_gone rs i ≡ false) → length (kept_from rs k from) ≡ k
  unfolding kept_from
  kept_length zero from stays = refl
  kept_length (suc k) from stays = rw (stays from (omega arith) (omega arith)) (ap suc (kept_length k (from + 1) (λ i a b. stays i (omega arith) (omega arith))))
