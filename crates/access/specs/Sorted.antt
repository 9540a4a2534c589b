-- What a sorted table is (01, Order and lookup: "strict from record to record, each path in its store"), said without the check, and that the check answers
-- exactly this: yes if the table is sorted, and otherwise 12 or 13 at the first record that fails. Assumes nothing.
use Rattle.std.specs.Prelude.{◌≡◌, Bool, true, false, List, length, Err, Ok, Result, ⊤}
use Rattle.std.proofs.Math.Path.{refl}
use Rattle.std.proofs.Common.{sym, ap, ◌∙◌, ⊎_elim, le-leb, leb-true, eq-eqb, ne_eqb}
use Prim.Native.Nat.{ℕ, zero, suc, ◌+◌, ◌-◌, ◌≤◌, ◌<◌}
use native.Mathlib.Omega.{arith}
use Rattle.laws.specs.Pick.{pick}
use Rattle.laws.specs.Tests.{lt_or_ge, tri}
use Rattle.entry.specs.Paths.{Paths}
use Rattle.entry.specs.Record.{records_in, start_at, end_at, stage_at, lies_inside, path_at}
use Rattle.entry.specs.Laws.{inside_crossed, inside_is}
use Rattle.access.specs.Order.{Precedes, precedes_transitive, placed, precedes_less, less_precedes}
use Rattle.access.specs.Verify.{is_less, follows_at, verify_from, verify_at}
use Rattle.access.specs.declared.verify.Error.{Error as VerifyError}
use Rattle.access.specs.declared.verify.Error.TheVariants.{NotAfter, PathOutside}
use Rattle.std.specs.declared.cmp.Ordering.{Ordering}
use Rattle.std.specs.declared.cmp.Ordering.TheVariants.{Equal, Greater, Less}

-- the path of record i lies where paths lie
abbrev pub Lies : List ℕ → Paths → ℕ → Type 0
Lies rs ps i = (start_at rs i ≤ end_at rs i) × (end_at rs i ≤ length ps.store)

-- record j comes strictly after record i
abbrev pub After : List ℕ → Paths → ℕ → ℕ → Type 0
After rs ps i j = Precedes (path_at rs ps i) (stage_at rs i) (path_at rs ps j) (stage_at rs j)

-- every path lies in the store, and each record comes strictly after the one before
pub record StrictlySorted (rs : List ℕ) (ps : Paths) : Type 0 where
  pub inside : (i : ℕ) → i < records_in rs → Lies rs ps i
  pub rising : (i : ℕ) → i + 1 < records_in rs → After rs ps i (i + 1)

-- each record comes strictly after all that stand before it
pub rises : (rs : List ℕ) (ps : Paths) → StrictlySorted rs ps → (d i : ℕ) → i + (1 + d) < records_in rs → After rs ps i (i + (1 + d))
rises rs ps s zero i h = s.rising i h
rises rs ps s (suc d) i h =
    let q : i + (1 + suc d) ≡ i + (1 + d) + 1 = omega arith in
    rw q (precedes_transitive (rises rs ps s d i (omega arith)) (s.rising (i + (1 + d)) (omega arith)))

pub in_order : (rs : List ℕ) (ps : Paths) → StrictlySorted rs ps → (i j : ℕ) → i < j → j < records_in rs → After rs ps i j
in_order rs ps s i j h k = let q : j ≡ i + (1 + (j - i - 1)) = omega arith in rw q (rises rs ps s (j - i - 1) i (omega arith))

-- ---- one record: what it lacks

-- record i comes after the one before, if there is one
abbrev pub Follows : List ℕ → Paths → ℕ → Type 0
Follows rs ps i = 0 < i → After rs ps (i - 1) i

abbrev pub Passes : List ℕ → Paths → ℕ → Type 0
Passes rs ps i = Lies rs ps i × Follows rs ps i

module _ (rs : List ℕ) (ps : Paths) (i : ℕ) where
  pub lies_yes : i < records_in rs → Lies rs ps i → lies_inside rs ps i ≡ true
  lies_yes h l = sym (inside_is rs ps.store i h (start_at rs i) (end_at rs i) refl refl l.0) ∙ le-leb (end_at rs i) (length ps.store) l.1

  pub yes_lies : i < records_in rs → lies_inside rs ps i ≡ true → Lies rs ps i
  yes_lies h e =
      ⊎_elim (λ k. cc (inside_crossed rs ps i h (start_at rs i) (end_at rs i) refl refl k)) (λ k. (k, leb-true (end_at rs i) (length ps.store) (inside_is rs ps.store i h (start_at rs i) (end_at rs i) refl refl k ∙ e))) (lt_or_ge (end_at rs i) (start_at rs i))

  follows_later : 0 < i → follows_at rs ps i ≡ is_less (placed (path_at rs ps (i - 1)) (stage_at rs (i - 1)) (path_at rs ps i) (stage_at rs i))
  unfolding follows_at
  follows_later h = rw (ne_eqb i 0 (λ e. omega arith))

  follows_first : i ≡ 0 → follows_at rs ps i ≡ true
  unfolding follows_at
  follows_first e = rw (eq-eqb i 0 e)

  pub follows_yes : Follows rs ps i → follows_at rs ps i ≡ true
  follows_yes f = ⊎_elim (λ h. follows_later h ∙ ap is_less (precedes_less (f h))) (λ h. follows_first (omega arith)) (lt_or_ge 0 i)

  less_only : (o : Ordering) → is_less o ≡ true → o ≡ Less
  less_only Less e = refl
  less_only Equal e = cc
  less_only Greater e = cc

  pub yes_follows : follows_at rs ps i ≡ true → Follows rs ps i
  yes_follows e h = less_precedes (path_at rs ps (i - 1)) (stage_at rs (i - 1)) (path_at rs ps i) (stage_at rs i) (less_only (placed (path_at rs ps (i - 1)) (stage_at rs (i - 1)) (path_at rs ps i) (stage_at rs i)) (sym (follows_later h) ∙ e))

-- ---- what each answer says, and that the check gives the one that holds

pub data Says (rs : List ℕ) (ps : Paths) : Result ⊤ VerifyError → Type 0 where
  says_sorted : ((j : ℕ) → j < records_in rs → Passes rs ps j) → Says rs ps (Ok tt)
  says_outside : (i : ℕ) → i < records_in rs → ((j : ℕ) → j < i → Passes rs ps j) → (Lies rs ps i → ⊥) → Says rs ps (Err (PathOutside i))
  says_not_after : (i : ℕ) → i < records_in rs → ((j : ℕ) → j < i → Passes rs ps j) → Lies rs ps i → (Follows rs ps i → ⊥) → Says rs ps (Err (NotAfter i))

module _ (rs : List ℕ) (ps : Paths) where
  one_more_lem : (i : ℕ) → ((j : ℕ) → j < i → Passes rs ps j) → Passes rs ps i → (j : ℕ) → j < i + 1 → Passes rs ps j
  one_more_lem i good here j h = ⊎_elim (λ l. good j l) (λ l. let e : j ≡ i = omega arith in rw e here) (lt_or_ge j i)

  says_from : (f i : ℕ) → i + f ≡ records_in rs → ((j : ℕ) → j < i → Passes rs ps j) → Says rs ps (verify_from rs ps f i)
  unfolding verify_from
  says_from zero i e good = says_sorted (λ j h. good j (omega arith))
  says_from (suc f) i e good = by (lies_inside rs ps i) refl (follows_at rs ps i) refl (λ good'. says_from f (i + 1) (omega arith) good')
    where
      there : i < records_in rs
      there = omega arith

      by : (t : Bool) → lies_inside rs ps i ≡ t → (u : Bool) → follows_at rs ps i ≡ u → (((j : ℕ) → j < i + 1 → Passes rs ps j) → Says rs ps (verify_from rs ps f (i + 1)))
          → Says rs ps (pick t (pick u (verify_from rs ps f (i + 1)) (Err (NotAfter i))) (Err (PathOutside i)))
      by true p true q ih = ih (one_more_lem i good (yes_lies rs ps i there p, yes_follows rs ps i q))
      by true p false q ih = says_not_after i there good (yes_lies rs ps i there p) (λ x. cc (follows_yes rs ps i x))
      by false p u q ih = says_outside i there good (λ x. cc (lies_yes rs ps i there x))

  pub says : Says rs ps (verify_at rs ps)
  unfolding verify_at
  says = says_from (records_in rs) 0 (omega arith) (λ j h. absurd (omega arith))

  -- only one answer holds
  pub one_answer : {v w : Result ⊤ VerifyError} → Says rs ps v → Says rs ps w → v ≡ w
  one_answer (says_sorted a) (says_sorted b) = refl
  one_answer (says_sorted a) (says_outside i h g n) = absurd (n (a i h).0)
  one_answer (says_sorted a) (says_not_after i h g l n) = absurd (n (a i h).1)
  one_answer (says_outside i h g n) (says_sorted b) = absurd (n (b i h).0)
  one_answer (says_not_after i h g l n) (says_sorted b) = absurd (n (b i h).1)
  one_answer (says_outside i h g n) (says_outside j k f m) =
      ⊎_elim (λ l. absurd (n (f i l).0)) (⊎_elim (λ e. cc) (λ l. absurd (m (g j l).0))) (tri i j)
  one_answer (says_outside i h g n) (says_not_after j k f p m) =
      ⊎_elim (λ l. absurd (n (f i l).0)) (⊎_elim (λ e. absurd (n (rw e p))) (λ l. absurd (m (g j l).1))) (tri i j)
  one_answer (says_not_after i h g p n) (says_outside j k f m) =
      ⊎_elim (λ l. absurd (n (f i l).1)) (⊎_elim (λ e. absurd (m (rw (← e) p))) (λ l. absurd (m (g j l).0))) (tri i j)
  one_answer (says_not_after i h g p n) (says_not_after j k f q m) =
      ⊎_elim (λ l. absurd (n (f i l).1)) (⊎_elim (λ e. cc) (λ l. absurd (m (g j l).1))) (tri i j)

  said : {v : Result ⊤ VerifyError} → verify_at rs ps ≡ v → Says rs ps v
  said e = rw e at says

  -- ---- the three answers, each exactly when

  pub sorted_said : verify_at rs ps ≡ Ok tt → StrictlySorted rs ps
  sorted_said e = by (said e)
    where
      by : Says rs ps (Ok tt) → StrictlySorted rs ps
      by (says_sorted a) =
          record {
            inside = λ i h. (a i h).0;
            rising = λ i h. let q : i + 1 - 1 ≡ i = omega arith in rw q at ((a (i + 1) h).1 (omega arith));
          }

  pub said_sorted : StrictlySorted rs ps → verify_at rs ps ≡ Ok tt
  said_sorted s = one_answer says (says_sorted (λ j h. (s.inside j h, λ k. in_order rs ps s (j - 1) j (omega arith) h)))

  -- 12: the first record that fails has its path outside
  pub refusal_12_said : (i : ℕ) → verify_at rs ps ≡ Err (PathOutside i) → (i < records_in rs) × (((j : ℕ) → j < i → Passes rs ps j) × (Lies rs ps i → ⊥))
  refusal_12_said i e = by (said e)
    where
      by : Says rs ps (Err (PathOutside i)) → (i < records_in rs) × (((j : ℕ) → j < i → Passes rs ps j) × (Lies rs ps i → ⊥))
      by (says_outside k h g n) = (h, (g, n))

  pub said_refusal_12 : (i : ℕ) → i < records_in rs → ((j : ℕ) → j < i → Passes rs ps j) → (Lies rs ps i → ⊥) → verify_at rs ps ≡ Err (PathOutside i)
  said_refusal_12 i h g n = one_answer says (says_outside i h g n)

  -- 13: the first record that fails has its path inside, and does not come after the one before
  pub refusal_13_said : (i : ℕ) → verify_at rs ps ≡ Err (NotAfter i) → (i < records_in rs) × (((j : ℕ) → j < i → Passes rs ps j) × (Lies rs ps i × (Follows rs ps i → ⊥)))
  refusal_13_said i e = by (said e)
    where
      by : Says rs ps (Err (NotAfter i)) → (i < records_in rs) × (((j : ℕ) → j < i → Passes rs ps j) × (Lies rs ps i × (Follows rs ps i → ⊥)))
      by (says_not_after k h g l n) = (h, (g, (l, n)))

  pub said_refusal_13 : (i : ℕ) → i < records_in rs → ((j : ℕ) → j < i → Passes rs ps j) → Lies rs ps i → (Follows rs ps i → ⊥) → verify_at rs ps ≡ Err (NotAfter i)
  said_refusal_13 i h g l n = one_answer says (says_not_after i h g l n)
