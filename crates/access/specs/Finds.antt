-- Demand 2: in a strictly sorted table lookup at stages 0 to 3 says absent exactly when no record has that path and stage, and found i exactly when record i has
-- them; there is at most one such record. Assumes nothing.
use Rattle.std.specs.Prelude.{◌≡◌, refl, List, ℕ, zero, suc, ◌+◌, ◌-◌, ◌/◌, ◌≤◌, ◌<◌, Err, None, Ok, Option, Result, Some}
use Rattle.std.proofs.Common.{sym, ap, ◌∙◌, ⊎_elim, arith, lt-ltb, le-ltb}
use Rattle.laws.specs.Tests.{lt_or_ge, tri}
use Rattle.entry.specs.Paths.{Paths}
use Rattle.entry.specs.Record.{records_in, stage_at, path_at}
use Rattle.access.specs.Order.{precedes_transitive, precedes_irreflexive, placed, precedes_less, precedes_greater, same_equal, less_precedes, equal_same, greater_precedes}
use Rattle.access.specs.Lookup.{highest_stage, probe_at, turn, halve, search_at, lookup_at}
use Rattle.access.specs.Steps.{halve_some, halve_none}
use Rattle.access.specs.Sorted.{Lies, After, StrictlySorted, in_order, lies_yes}
use Rattle.access.specs.declared.Error.{Error as LookupError}
use Rattle.access.specs.declared.Error.TheVariants.{NoStage, PathOutside}
use Rattle.access.specs.declared.Found.{Found}
use Rattle.access.specs.declared.Found.TheVariants.{Absent, At}
use Rattle.std.specs.declared.cmp.Ordering.{Ordering}
use Rattle.std.specs.declared.cmp.Ordering.TheVariants.{Equal, Greater, Less}

-- record i has that path and stage
pub record Has (rs : List ℕ) (ps : Paths) (key : List ℕ) (stage i : ℕ) : Type 0 where
  pub there : i < records_in rs
  pub path : path_at rs ps i ≡ key
  pub level : stage_at rs i ≡ stage

-- ---- halving over any probe: every answer but absent names a record that gave it

pub data Halved (p : ℕ → Option Ordering) (n : ℕ) : Result Found LookupError → Type 0 where
  halved_at : (i k : ℕ) → i < n → p i ≡ Some Equal → Halved p n (Ok (At i k))
  halved_absent : (k : ℕ) → Halved p n (Ok (Absent k))
  halved_outside : (i : ℕ) → i < n → p i ≡ None → Halved p n (Err (PathOutside i))

halved_turn : (p : ℕ → Option Ordering) (n f low high m k : ℕ) → ((l h : ℕ) → h ≤ n → Halved p n (halve p f l h (k + 1))) → m < high → high ≤ n → (a : Option Ordering) → p m ≡ a → Halved p n (turn (λ l h. halve p f l h (k + 1)) low high m (k + 1) a)
halved_turn p n f low high m k ih l h None e = halved_outside m (omega arith) e
halved_turn p n f low high m k ih l h (Some Equal) e = halved_at m (k + 1) (omega arith) e
halved_turn p n f low high m k ih l h (Some Less) e = ih (m + 1) high h
halved_turn p n f low high m k ih l h (Some Greater) e = ih low m (omega arith)

pub halved : (p : ℕ → Option Ordering) (n f low high k : ℕ) → high ≤ n → Halved p n (halve p f low high k)
unfolding halve
halved p n zero low high k h = halved_absent k
halved p n (suc f) low high k h =
    ⊎_elim
    (λ l. rw (halve_some p f low high k l) (halved_turn p n f low high ((low + high) / 2) k (λ l' h' q. halved p n f l' h' (k + 1) q) (omega arith) h (p ((low + high) / 2)) refl))
    (λ l. rw (halve_none p f low high k l) (halved_absent k))
    (lt_or_ge low high)

-- ---- any table: when 11 and 12 are said

module _ (rs : List ℕ) (ps : Paths) (key : List ℕ) (stage : ℕ) where
  pub near : stage ≤ highest_stage → lookup_at rs ps key stage ≡ search_at rs ps key stage
  unfolding lookup_at
  near h = rw (le-ltb highest_stage stage h)

  pub answers : Halved (probe_at rs ps key stage) (records_in rs) (search_at rs ps key stage)
  unfolding search_at
  answers = halved (probe_at rs ps key stage) (records_in rs) (records_in rs) 0 (records_in rs) 0 (omega arith)

  pub said_refusal_11 : highest_stage < stage → lookup_at rs ps key stage ≡ Err NoStage
  unfolding lookup_at
  said_refusal_11 h = rw (lt-ltb highest_stage stage h)

  pub refusal_11_said : lookup_at rs ps key stage ≡ Err NoStage → highest_stage < stage
  refusal_11_said e = ⊎_elim (λ h. h) (λ h. absurd (by (search_at rs ps key stage) answers (sym (near h) ∙ e))) (lt_or_ge highest_stage stage)
    where
      by : (r : Result Found LookupError) → Halved (probe_at rs ps key stage) (records_in rs) r → r ≡ Err NoStage → ⊥
      by (Ok (At i k)) h q = cc
      by (Ok (Absent k)) h q = cc
      by (Err NoStage) h q = elim h [ ]
      by (Err (PathOutside i)) h q = cc

  outside_lies : (i : ℕ) → i < records_in rs → probe_at rs ps key stage i ≡ None → Lies rs ps i → ⊥
  unfolding probe_at
  outside_lies i h e l = cc (rw (lies_yes rs ps i h l) at e)

  -- 12 names a record whose path lies outside
  pub refusal_12_said : (i : ℕ) → lookup_at rs ps key stage ≡ Err (PathOutside i) → (i < records_in rs) × (Lies rs ps i → ⊥)
  refusal_12_said i e =
      ⊎_elim (λ h. cc (said_refusal_11 h)) (λ h. by (rw (sym (near h) ∙ e) at answers)) (lt_or_ge highest_stage stage)
    where
      by : Halved (probe_at rs ps key stage) (records_in rs) (Err (PathOutside i)) → (i < records_in rs) × (Lies rs ps i → ⊥)
      by (halved_outside _ h q) = (h, outside_lies i h q)

-- ---- halving over a probe whose answers rise: absent says that no record is equal

pub record Rises (p : ℕ → Option Ordering) (n : ℕ) : Type 0 where
  pub below : (i j : ℕ) → i < j → j < n → p j ≡ Some Less → p i ≡ Some Less
  pub above : (i j : ℕ) → i < j → j < n → p i ≡ Some Greater → p j ≡ Some Greater

absent_turn : (p : ℕ → Option Ordering) (n : ℕ) → Rises p n → (f low high k k' m : ℕ)
    → ((l h : ℕ) → h - l ≤ f → h ≤ n → halve p f l h (k + 1) ≡ Ok (Absent k') → (i : ℕ) → l ≤ i → i < h → p i ≡ Some Equal → ⊥)
    → low ≤ m → m < high → high ≤ n → high - low ≤ suc f → (a : Option Ordering) → p m ≡ a → turn (λ l h. halve p f l h (k + 1)) low high m (k + 1) a ≡ Ok (Absent k')
    → (i : ℕ) → low ≤ i → i < high → p i ≡ Some Equal → ⊥
absent_turn p n r f low high k k' m ih lm mh hn w None e t i li ih' q = cc
absent_turn p n r f low high k k' m ih lm mh hn w (Some Equal) e t i li ih' q = cc
absent_turn p n r f low high k k' m ih lm mh hn w (Some Less) e t i li ih' q =
    ⊎_elim (λ u. cc (r.below i m u (omega arith) e))
    (⊎_elim (λ u. cc) (λ u. ih (m + 1) high (omega arith) hn t i (omega arith) ih' q))
    (tri i m)
absent_turn p n r f low high k k' m ih lm mh hn w (Some Greater) e t i li ih' q =
    ⊎_elim (λ u. ih low m (omega arith) (omega arith) t i li u q)
    (⊎_elim (λ u. cc) (λ u. cc (r.above m i u (omega arith) e)))
    (tri i m)

pub absent_none : (p : ℕ → Option Ordering) (n : ℕ) → Rises p n → (f low high k k' : ℕ) → high - low ≤ f → high ≤ n → halve p f low high k ≡ Ok (Absent k') → (i : ℕ) → low ≤ i → i < high → p i ≡ Some Equal → ⊥
absent_none p n r zero low high k k' w hn t i li ih q = omega arith
absent_none p n r (suc f) low high k k' w hn t i li ih q =
    let l : low < high = omega arith in
    absent_turn p n r f low high k k' ((low + high) / 2) (λ l' h' w' n' t' i'. absent_none p n r f l' h' (k + 1) k' w' n' t' i') (omega arith) (omega arith) hn w (p ((low + high) / 2)) refl
    (sym (halve_some p f low high k l) ∙ t) i li ih q

-- ---- a strictly sorted table

module _ (rs : List ℕ) (ps : Paths) (sorted : StrictlySorted rs ps) where
  -- there is at most one
  pub at_most_one : (key : List ℕ) (stage i j : ℕ) → Has rs ps key stage i → Has rs ps key stage j → i ≡ j
  at_most_one key stage i j a b =
      ⊎_elim (λ l. absurd (never i j a b (in_order rs ps sorted i j l b.there))) (⊎_elim (λ e. e) (λ l. absurd (never j i b a (in_order rs ps sorted j i l a.there)))) (tri i j)
    where
      never : (x y : ℕ) → Has rs ps key stage x → Has rs ps key stage y → After rs ps x y → ⊥
      never x y u v w = precedes_irreflexive (rw (u.path, u.level, v.path, v.level) at w)

  module _ (key : List ℕ) (stage : ℕ) where
    probe_is : (i : ℕ) → i < records_in rs → probe_at rs ps key stage i ≡ Some (placed (path_at rs ps i) (stage_at rs i) key stage)
    unfolding probe_at
    probe_is i h = rw (lies_yes rs ps i h (sorted.inside i h))

    stands : (i : ℕ) (o : Ordering) → i < records_in rs → probe_at rs ps key stage i ≡ Some o → placed (path_at rs ps i) (stage_at rs i) key stage ≡ o
    stands i o h e = cc (probe_is i h)

    probes_rise : Rises (probe_at rs ps key stage) (records_in rs)
    probes_rise =
        record {
          below = λ i j l h e. probe_is i (omega arith) ∙ ap Some (precedes_less (precedes_transitive (in_order rs ps sorted i j l h) (less_precedes (path_at rs ps j) (stage_at rs j) key stage (stands j Less h e))));
          above = λ i j l h e.
              let k : i < records_in rs = omega arith in
              probe_is j h ∙ ap Some (precedes_greater (precedes_transitive (greater_precedes (path_at rs ps i) (stage_at rs i) key stage (stands i Greater k e)) (in_order rs ps sorted i j l h)));
        }

    equal_has : (i : ℕ) → i < records_in rs → probe_at rs ps key stage i ≡ Some Equal → Has rs ps key stage i
    equal_has i h e =
        let both = equal_same (path_at rs ps i) (stage_at rs i) key stage (stands i Equal h e) in
        record { there = h; path = both.0; level = both.1 }

    has_equal : (i : ℕ) → Has rs ps key stage i → probe_at rs ps key stage i ≡ Some Equal
    has_equal i h = probe_is i h.there ∙ ap Some (same_equal (path_at rs ps i) key (stage_at rs i) stage h.path h.level)

    never_outside : (i : ℕ) → i < records_in rs → probe_at rs ps key stage i ≡ None → ⊥
    never_outside i h e = cc (probe_is i h)

    module _ (small : stage ≤ highest_stage) where
      -- absent: no record has that path and stage
      pub absent_then_none : (k : ℕ) → lookup_at rs ps key stage ≡ Ok (Absent k) → (i : ℕ) → Has rs ps key stage i → ⊥
      unfolding search_at
      absent_then_none k e i h =
          absent_none (probe_at rs ps key stage) (records_in rs) probes_rise (records_in rs) 0 (records_in rs) 0 k (omega arith) (omega arith) (sym (near rs ps key stage small) ∙ e) i (omega arith) h.there (has_equal i h)

      -- and where none has them, absent
      pub none_then_absent : ((i : ℕ) → Has rs ps key stage i → ⊥) → (k : ℕ) × (lookup_at rs ps key stage ≡ Ok (Absent k))
      none_then_absent none = by (search_at rs ps key stage) (answers rs ps key stage) (near rs ps key stage small)
        where
          by : (r : Result Found LookupError) → Halved (probe_at rs ps key stage) (records_in rs) r → lookup_at rs ps key stage ≡ r → (k : ℕ) × (lookup_at rs ps key stage ≡ Ok (Absent k))
          by (Ok (At i k)) (halved_at _ _ h e) q = absurd (none i (equal_has i h e))
          by (Ok (Absent k)) (halved_absent _) q = (k, q)
          by (Err NoStage) h q = elim h [ ]
          by (Err (PathOutside i)) (halved_outside _ h e) q = absurd (never_outside i h e)

      -- found i: record i has them
      pub found_then_has : (i k : ℕ) → lookup_at rs ps key stage ≡ Ok (At i k) → Has rs ps key stage i
      found_then_has i k e = by (rw (sym (near rs ps key stage small) ∙ e) at (answers rs ps key stage))
        where
          by : Halved (probe_at rs ps key stage) (records_in rs) (Ok (At i k)) → Has rs ps key stage i
          by (halved_at _ _ h q) = equal_has i h q

      -- and the record that has them is found
      pub has_then_found : (i : ℕ) → Has rs ps key stage i → (k : ℕ) × (lookup_at rs ps key stage ≡ Ok (At i k))
      has_then_found i h = by (search_at rs ps key stage) (answers rs ps key stage) (near rs ps key stage small)
        where
          by : (r : Result Found LookupError) → Halved (probe_at rs ps key stage) (records_in rs) r → lookup_at rs ps key stage ≡ r → (k : ℕ) × (lookup_at rs ps key stage ≡ Ok (At i k))
          by (Ok (At j k)) (halved_at _ _ l e) q = let same : j ≡ i = at_most_one key stage j i (equal_has j l e) h in (k, q ∙ ap (λ (x : ℕ). Ok (At x k)) same)
          by (Ok (Absent k)) (halved_absent _) q = absurd (absent_then_none k q i h)
          by (Err NoStage) l q = elim l [ ]
          by (Err (PathOutside j)) (halved_outside _ l e) q = absurd (never_outside j l e)
