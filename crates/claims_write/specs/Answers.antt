-- WHAT THE WRITER ANSWERS, AND WHEN (01, "Writing" and "When the desk says no"): it is done exactly if every path that is written lies in the path store, the node table is proper where TREE
-- is to be written, the limits hold and there is room, and then it answers the version and the size; and 12, 16, 15 and 14, tried in this order, each exactly when. In 01's words over the
-- tables and what is asked for; `Sizes` says how long a file is. Assumes nothing.
use Prim.Native.Nat.{ℕ, zero, suc, ◌+◌, ◌-◌, ◌^◌, ◌≤◌, ◌<◌}
use Rattle.std.specs.Prelude.{◌≡◌, Bool, List, ◌++◌, ◌⊎◌, ◌↔◌, ltb, drop, Err, Ok, Result}
use Rattle.std.proofs.Math.Path.{refl, ap, subst}
use Rattle.std.proofs.Common.{sym, ◌∙◌, inl, inr}
use Rattle.std.proofs.Math.Bool.{true, false, true≢false}
use Rattle.std.proofs.Math.Logic.{⊎_elim}
use native.Mathlib.Omega.{arith}
use Rattle.std.proofs.Math.ListN.{length}
use Rattle.laws.specs.Pick.{pick}
use Rattle.laws.specs.Tests.{Less, less, not_less, less?, lt_or_ge}
use Rattle.format.specs.Format.{depth_limit}
use Rattle.kind.specs.Kind.{Kind}
use Rattle.entry.specs.Flags.{bit, extended, removed}
use Rattle.entry.specs.Paths.{Paths}
use Rattle.entry.specs.Record.{records_in, flags_at, lies_inside}
use Rattle.access.specs.Sorted.{Lies, lies_yes, yes_lies}
use Rattle.proper.specs.Proper.{is_proper}
use Rattle.proper.specs.Table.{Proper, proper_exactly}
use Rattle.write.specs.declared.Options.{Options}
use Rattle.write_entries.specs.Entries.{fault_of, before_at, any_extended, First, found, nowhere, first_fault, on_first}
use Rattle.write.specs.File.{version_of, writes_tree, tree_fits, body_bytes, file_bytes, Outcome, outcome, most, write_file, write_all}
use Rattle.claims_write.specs.ProperTable.{ProperTable, proper_exactly_in_words}
use Rattle.claims_write.specs.Sizes.{tree_asked, size_before_eoie, file_size}
use Rattle.claims_write.specs.Lengths.{writes_tree_is, body_length, file_length}
use Rattle.write.specs.Made.{written_with}
use Rattle.write.specs.declared.Error.{Error as WriteError}
use Rattle.write.specs.declared.Error.TheVariants.{NotProper, PathOutside, ShortOutput, TooLarge}
use Rattle.write.specs.declared.Written.{Written}

-- ---- THE WORDS

-- record i is of the table and not marked REMOVE, so it is written
pub record Stays (rs : List ℕ) (i : ℕ) : Type 0 where
  pub there : i < records_in rs
  pub unmarked : bit removed (flags_at rs i) ≡ false

-- the paths of all records that are written lie in the path store
abbrev pub PathsInside : List ℕ → Paths → Type 0
PathsInside rs ps = (i : ℕ) → Stays rs i → Lies rs ps i

-- "first record not REMOVE with 12"
pub record FirstOutside (rs : List ℕ) (ps : Paths) (i : ℕ) : Type 0 where
  pub stays : Stays rs i
  pub outside : ¬ Lies rs ps i
  pub first : (j : ℕ) → j < i → Stays rs j → Lies rs ps j

-- "only if TREE is to be written"
abbrev pub ProperIfAsked : List ℕ → List ℕ → Options → Type 0
ProperIfAsked ns nm o = tree_asked o ≡ true → ProperTable depth_limit ns nm

-- the largest number that the file's 32 bits can hold
abbrev pub largest : ℕ
largest = 2 ^ 32 - 1

-- "V3 if any record has EXTENDED, even one marked REMOVE; else V2."
pub data Version (rs : List ℕ) : ℕ → Type 0 where
  three : {i : ℕ} → i < records_in rs → bit extended (flags_at rs i) ≡ true → Version rs 3
  two : ((i : ℕ) → i < records_in rs → bit extended (flags_at rs i) ≡ false) → Version rs 2

abbrev pub IsDone : Result Written WriteError → Type 0
IsDone a = (version size : ℕ) × (a ≡ Ok (written_with version size))

module _ (kind : Kind) where
  -- "over 2^32 - 1 records, or bytes before EOIE's place"
  abbrev pub OverTheLimits : List ℕ → Paths → List ℕ → List ℕ → Options → Type 0
  OverTheLimits rs ps ns nm o = (largest < records_in rs) ⊎ (largest < size_before_eoie kind.id rs ps ns nm o)

  pub record WithinLimits (rs : List ℕ) (ps : Paths) (ns nm : List ℕ) (o : Options) : Type 0 where
    pub records : records_in rs ≤ largest
    pub bytes : size_before_eoie kind.id rs ps ns nm o ≤ largest

  -- what may be written, given room
  pub record MayBeWritten (rs : List ℕ) (ps : Paths) (ns nm : List ℕ) (o : Options) : Type 0 where
    pub inside : PathsInside rs ps
    pub proper : ProperIfAsked ns nm o
    pub limits : WithinLimits rs ps ns nm o

  -- ---- what is said of each answer

  pub data Says (rs : List ℕ) (ps : Paths) (ns nm : List ℕ) (o : Options) (out : List ℕ) : Result Written WriteError → Type 0 where
    says_outside : {i : ℕ} → FirstOutside rs ps i → Says rs ps ns nm o out (Err (PathOutside i))
    says_not_proper : PathsInside rs ps → tree_asked o ≡ true → ¬ ProperTable depth_limit ns nm → Says rs ps ns nm o out (Err NotProper)
    says_too_large : PathsInside rs ps → ProperIfAsked ns nm o → OverTheLimits rs ps ns nm o → Says rs ps ns nm o out (Err TooLarge)
    says_short : MayBeWritten rs ps ns nm o → length out < file_size kind.id rs ps ns nm o → Says rs ps ns nm o out (Err (ShortOutput (file_size kind.id rs ps ns nm o)))
    says_done : {version : ℕ} → MayBeWritten rs ps ns nm o → file_size kind.id rs ps ns nm o ≤ length out → Version rs version
        → Says rs ps ns nm o out (Ok (written_with version (file_size kind.id rs ps ns nm o)))

  -- ---- the first record outside

  -- what the search for it finds
  data FirstIs (rs : List ℕ) (ps : Paths) (k from : ℕ) : First → Type 0 where
    is_found : {i : ℕ} → FirstOutside rs ps i → FirstIs rs ps k from (found i)
    is_nowhere : ((i : ℕ) → from ≤ i → i < from + k → Stays rs i → Lies rs ps i) → FirstIs rs ps k from nowhere

  -- record i is written and has a path outside, or lies inside if it is written
  data FaultIs (rs : List ℕ) (ps : Paths) (i : ℕ) : Bool → Type 0 where
    faulty : Stays rs i → ¬ Lies rs ps i → FaultIs rs ps i true
    faultless : (Stays rs i → Lies rs ps i) → FaultIs rs ps i false

  module _ (rs : List ℕ) (ps : Paths) where
    fault_is : (i : ℕ) → i < records_in rs → (b : List ℕ) → FaultIs rs ps i (fault_of rs ps b i)
    unfolding fault_of
    fault_is i h b = by (bit removed (flags_at rs i)) refl (lies_inside rs ps i) refl
      where
        by : (g : Bool) → bit removed (flags_at rs i) ≡ g → (l : Bool) → lies_inside rs ps i ≡ l → FaultIs rs ps i (pick g false (pick l false true))
        by true eg l el = faultless (λ s. absurd (true≢false (sym eg ∙ s.unmarked)))
        by false eg true el = faultless (λ s. yes_lies rs ps i h el)
        by false eg false el = faulty (record { there = h; unmarked = eg }) (λ l. true≢false (sym (lies_yes rs ps i h l) ∙ el))

    first_is : (k from : ℕ) → from + k ≤ records_in rs → ((j : ℕ) → j < from → Stays rs j → Lies rs ps j) → FirstIs rs ps k from (first_fault rs ps k from)
    unfolding first_fault
    first_is zero from h before = is_nowhere (λ i a b s. absurd (omega arith))
    first_is (suc k) from h before = by (fault_is from (omega arith) (before_at rs ps from)) (λ q. first_is k (from + 1) (omega arith) q)
      where
        upto : (Stays rs from → Lies rs ps from) → (j : ℕ) → j < from + 1 → Stays rs j → Lies rs ps j
        upto q j l s = ⊎_elim (λ a. before j a s) (λ a. let e : from ≡ j = omega arith in subst (λ (x : ℕ). Lies rs ps x) e (q (subst (Stays rs) (sym e) s))) (lt_or_ge j from)

        rest : {f : First} → (Stays rs from → Lies rs ps from) → FirstIs rs ps k (from + 1) f → FirstIs rs ps (suc k) from f
        rest q (is_found x) = is_found x
        rest q (is_nowhere r) = is_nowhere (λ i a b s. ⊎_elim (λ l. r i (omega arith) (omega arith) s) (λ l. upto q i (omega arith) s) (lt_or_ge from i))

        by : {t : Bool} → FaultIs rs ps from t → (((j : ℕ) → j < from + 1 → Stays rs j → Lies rs ps j) → FirstIs rs ps k (from + 1) (first_fault rs ps k (from + 1)))
            → FirstIs rs ps (suc k) from (pick t (found from) (first_fault rs ps k (from + 1)))
        by (faulty s l) ih = is_found (record { stays = s; outside = l; first = before })
        by (faultless q) ih = rest q (ih (upto q))

    search_is : FirstIs rs ps (records_in rs) 0 (first_fault rs ps (records_in rs) 0)
    search_is = first_is (records_in rs) 0 (omega arith) (λ j l s. absurd (omega arith))

    all_inside : ((i : ℕ) → 0 ≤ i → i < 0 + records_in rs → Stays rs i → Lies rs ps i) → PathsInside rs ps
    all_inside r i s = r i (omega arith) (omega (arith, s.there)) s

  -- ---- the version

  module _ (rs : List ℕ) where
    data Extends (k from : ℕ) : Bool → Type 0 where
      some_extends : {i : ℕ} → i < records_in rs → bit extended (flags_at rs i) ≡ true → Extends k from true
      none_extends : ((i : ℕ) → from ≤ i → i < from + k → bit extended (flags_at rs i) ≡ false) → Extends k from false

    extends : (k from : ℕ) → from + k ≤ records_in rs → Extends k from (any_extended rs k from)
    unfolding any_extended
    extends zero from h = none_extends (λ i a b. absurd (omega arith))
    extends (suc k) from h = by (bit extended (flags_at rs from)) refl (extends k (from + 1) (omega arith))
      where
        rest : {t : Bool} → bit extended (flags_at rs from) ≡ false → Extends k (from + 1) t → Extends (suc k) from t
        rest e (some_extends h f) = some_extends h f
        rest e (none_extends r) = none_extends (λ i a b. ⊎_elim (λ l. r i (omega arith) (omega arith)) (λ l. let q : from ≡ i = omega arith in ap (λ (x : ℕ). bit extended (flags_at rs x)) (sym q) ∙ e) (lt_or_ge from i))

        by : (t : Bool) → bit extended (flags_at rs from) ≡ t → Extends k (from + 1) (any_extended rs k (from + 1)) → Extends (suc k) from (pick t true (any_extended rs k (from + 1)))
        by true e ih = some_extends {i = from} (omega arith) e
        by false e ih = rest e ih

    version_says : Version rs (version_of rs)
    version_says = by (extends (records_in rs) 0 (omega arith))
      where
        by : {t : Bool} → Extends (records_in rs) 0 t → Version rs (pick t 3 2)
        by (some_extends h e) = three h e
        by (none_extends r) = two (λ i l. r i (omega arith) (omega arith))

    -- there is one
    pub one_version : {v w : ℕ} → Version rs v → Version rs w → v ≡ w
    one_version (three h e) (three i f) = refl
    one_version (three h e) (two r) = absurd (true≢false (sym e ∙ r _ h))
    one_version (two r) (three h e) = absurd (true≢false (sym e ∙ r _ h))
    one_version (two r) (two s) = refl

  -- ---- the table of nodes

  module _ (ns nm : List ℕ) (o : Options) where
    data Fits : Bool → Type 0 where
      fits : ProperIfAsked ns nm o → Fits true
      fits_not : tree_asked o ≡ true → ¬ ProperTable depth_limit ns nm → Fits false

    fits? : Fits (tree_fits depth_limit ns nm (writes_tree o))
    unfolding tree_fits
    fits? = subst (λ (w : Bool). Fits (pick w (is_proper depth_limit ns nm) true)) (sym (writes_tree_is o)) (by (tree_asked o) refl (is_proper depth_limit ns nm) refl)
      where
        by : (w : Bool) → tree_asked o ≡ w → (t : Bool) → is_proper depth_limit ns nm ≡ t → Fits (pick w t true)
        by false e t f = fits (λ a. absurd (true≢false (sym a ∙ e)))
        by true e true f = fits (λ a. (proper_exactly_in_words depth_limit ns nm).0 f)
        by true e false f = fits_not e (λ p. true≢false (sym ((proper_exactly_in_words depth_limit ns nm).1 p) ∙ f))

    -- in the words of the test
    tested : ProperIfAsked ns nm o → tree_asked o ≡ true → Proper depth_limit ns nm
    tested p a = (proper_exactly depth_limit ns nm).0 ((proper_exactly_in_words depth_limit ns nm).1 (p a))

  -- ---- the answer

  module _ (rs : List ℕ) (ps : Paths) (ns nm : List ℕ) (o : Options) (out : List ℕ) where
    abbrev writing : Outcome
    writing = write_all kind depth_limit rs ps ns nm o out

    abbrev body : List ℕ
    body = body_bytes kind.id depth_limit rs ps ns nm o

    abbrev whole : List ℕ
    whole = file_bytes kind depth_limit rs ps ns nm o

    abbrev last : Bool → Bool → Bool → Outcome
    last a b c = pick a (outcome (Err TooLarge) out) (pick b (outcome (Err TooLarge) out) (pick c (outcome (Err (ShortOutput (length whole))) out) (outcome (Ok (written_with (version_of rs) (length whole))) (whole ++ drop (length whole) out))))

    answer_says : Says rs ps ns nm o out writing.answer
    unfolding write_all write_file
    answer_says = by (search_is rs ps) (fits? ns nm o) (less? most (records_in rs)) (less? most (length body)) (less? (length out) (length whole))
      where
        may : PathsInside rs ps → ProperIfAsked ns nm o → records_in rs ≤ most → length body ≤ most → MayBeWritten rs ps ns nm o
        may x p q r = record { inside = x; proper = p; limits = record { records = omega arith; bytes = omega (arith, body_length kind rs ps ns nm o (tested ns nm o p)) } }

        by : {f : First} {t a b c : Bool} → FirstIs rs ps (records_in rs) 0 f → Fits ns nm o t
            → Less most (records_in rs) a → Less most (length body) b → Less (length out) (length whole) c
            → Says rs ps ns nm o out (on_first f (λ i. outcome (Err (PathOutside i)) out) (pick t (last a b c) (outcome (Err NotProper) out))).answer
        by (is_found x) p q r s = says_outside x
        by (is_nowhere x) (fits_not w p) q r s = says_not_proper (all_inside rs ps x) w p
        by (is_nowhere x) (fits p) (less q) r s = says_too_large (all_inside rs ps x) p (inl (omega arith))
        by (is_nowhere x) (fits p) (not_less q) (less r) s = says_too_large (all_inside rs ps x) p (inr (omega (arith, body_length kind rs ps ns nm o (tested ns nm o p))))
        by (is_nowhere x) (fits p) (not_less q) (not_less r) (less s) =
            subst (λ (n : ℕ). Says rs ps ns nm o out (Err (ShortOutput n))) (sym (file_length kind rs ps ns nm o (tested ns nm o p)))
            (says_short (may (all_inside rs ps x) p q r) (omega (arith, file_length kind rs ps ns nm o (tested ns nm o p))))
        by (is_nowhere x) (fits p) (not_less q) (not_less r) (not_less s) =
            subst (λ (n : ℕ). Says rs ps ns nm o out (Ok (written_with (version_of rs) n))) (sym (file_length kind rs ps ns nm o (tested ns nm o p)))
            (says_done (may (all_inside rs ps x) p q r) (omega (arith, file_length kind rs ps ns nm o (tested ns nm o p))) (version_says rs))

    -- no two answers are said
    first_once : {i j : ℕ} → FirstOutside rs ps i → FirstOutside rs ps j → i ≡ j
    first_once {i} {j} x y =
        ⊎_elim (λ l. absurd (x.outside (y.first i l x.stays)))
        (λ l. ⊎_elim (λ k. absurd (y.outside (x.first j k y.stays))) (λ k. omega arith) (lt_or_ge j i)) (lt_or_ge i j)

    not_both : {i : ℕ} → FirstOutside rs ps i → PathsInside rs ps → ⊥
    not_both {i} x q = x.outside (q i x.stays)

    not_over : OverTheLimits rs ps ns nm o → WithinLimits rs ps ns nm o → ⊥
    not_over (inl h) l = omega (arith, l.records)
    not_over (inr h) l = omega (arith, l.bytes)

    pub no_second_answer : {a b : Result Written WriteError} → Says rs ps ns nm o out a → Says rs ps ns nm o out b → a ≡ b
    no_second_answer (says_outside x) (says_outside y) = ap (λ (k : ℕ). Err (PathOutside k)) (first_once x y)
    no_second_answer (says_outside x) (says_not_proper q w p) = absurd (not_both x q)
    no_second_answer (says_outside x) (says_too_large q p l) = absurd (not_both x q)
    no_second_answer (says_outside x) (says_short m s) = absurd (not_both x m.inside)
    no_second_answer (says_outside x) (says_done m s v) = absurd (not_both x m.inside)
    no_second_answer (says_not_proper q w p) (says_outside x) = absurd (not_both x q)
    no_second_answer (says_not_proper q w p) (says_not_proper q₁ w₁ p₁) = refl
    no_second_answer (says_not_proper q w p) (says_too_large q₁ p₁ l) = absurd (p (p₁ w))
    no_second_answer (says_not_proper q w p) (says_short m s) = absurd (p (m.proper w))
    no_second_answer (says_not_proper q w p) (says_done m s v) = absurd (p (m.proper w))
    no_second_answer (says_too_large q p l) (says_outside x) = absurd (not_both x q)
    no_second_answer (says_too_large q p l) (says_not_proper q₁ w p₁) = absurd (p₁ (p w))
    no_second_answer (says_too_large q p l) (says_too_large q₁ p₁ l₁) = refl
    no_second_answer (says_too_large q p l) (says_short m s) = absurd (not_over l m.limits)
    no_second_answer (says_too_large q p l) (says_done m s v) = absurd (not_over l m.limits)
    no_second_answer (says_short m s) (says_outside x) = absurd (not_both x m.inside)
    no_second_answer (says_short m s) (says_not_proper q w p) = absurd (p (m.proper w))
    no_second_answer (says_short m s) (says_too_large q p l) = absurd (not_over l m.limits)
    no_second_answer (says_short m s) (says_short m₁ s₁) = refl
    no_second_answer (says_short m s) (says_done m₁ s₁ v) = absurd (omega arith)
    no_second_answer (says_done m s v) (says_outside x) = absurd (not_both x m.inside)
    no_second_answer (says_done m s v) (says_not_proper q w p) = absurd (p (m.proper w))
    no_second_answer (says_done m s v) (says_too_large q p l) = absurd (not_over l m.limits)
    no_second_answer (says_done m s v) (says_short m₁ s₁) = absurd (omega arith)
    no_second_answer (says_done m s v) (says_done m₁ s₁ w) = ap (λ (n : ℕ). Ok (written_with n (file_size kind.id rs ps ns nm o))) (one_version rs v w)

    told : {a : Result Written WriteError} → writing.answer ≡ a → Says rs ps ns nm o out a
    told e = subst (Says rs ps ns nm o out) e answer_says

    gives : {a : Result Written WriteError} → Says rs ps ns nm o out a → writing.answer ≡ a
    gives x = no_second_answer answer_says x

    -- ---- THE THEOREMS

    -- an answer is given exactly when it is said
    pub answer_exactly : (a : Result Written WriteError) → (writing.answer ≡ a) ↔ Says rs ps ns nm o out a
    answer_exactly a = (told, gives)

    -- SUCCESS IS A CONCLUSION: what may be written and has room is written
    pub done_exactly : IsDone writing.answer ↔ (MayBeWritten rs ps ns nm o × (file_size kind.id rs ps ns nm o ≤ length out))
    done_exactly = ((λ (version, size, e). to (told e)), (λ (m, s). (version_of rs, file_size kind.id rs ps ns nm o, gives (says_done m s (version_says rs)))))
      where
        to : {version size : ℕ} → Says rs ps ns nm o out (Ok (written_with version size)) → MayBeWritten rs ps ns nm o × (file_size kind.id rs ps ns nm o ≤ length out)
        to (says_done m s v) = (m, s)

    -- and then the writer answers version and size
    pub done_answers : (version size : ℕ) → writing.answer ≡ Ok (written_with version size) → Version rs version × (size ≡ file_size kind.id rs ps ns nm o)
    done_answers version size e = to (told e)
      where
        to : {version size : ℕ} → Says rs ps ns nm o out (Ok (written_with version size)) → Version rs version × (size ≡ file_size kind.id rs ps ns nm o)
        to (says_done m s v) = (v, refl)

    pub refusal_12_exactly : (i : ℕ) → (writing.answer ≡ Err (PathOutside i)) ↔ FirstOutside rs ps i
    refusal_12_exactly i = ((λ e. to (told e)), (λ x. gives (says_outside x)))
      where
        to : {i : ℕ} → Says rs ps ns nm o out (Err (PathOutside i)) → FirstOutside rs ps i
        to (says_outside x) = x

    pub refusal_16_exactly : (writing.answer ≡ Err NotProper) ↔ (PathsInside rs ps × (tree_asked o ≡ true) × ¬ ProperTable depth_limit ns nm)
    refusal_16_exactly = ((λ e. to (told e)), (λ (q, w, p). gives (says_not_proper q w p)))
      where
        to : Says rs ps ns nm o out (Err NotProper) → PathsInside rs ps × (tree_asked o ≡ true) × ¬ ProperTable depth_limit ns nm
        to (says_not_proper q w p) = (q, w, p)

    pub refusal_15_exactly : (writing.answer ≡ Err TooLarge) ↔ (PathsInside rs ps × ProperIfAsked ns nm o × OverTheLimits rs ps ns nm o)
    refusal_15_exactly = ((λ e. to (told e)), (λ (q, p, l). gives (says_too_large q p l)))
      where
        to : Says rs ps ns nm o out (Err TooLarge) → PathsInside rs ps × ProperIfAsked ns nm o × OverTheLimits rs ps ns nm o
        to (says_too_large q p l) = (q, p, l)

    pub refusal_14_exactly : (size : ℕ) → (writing.answer ≡ Err (ShortOutput size)) ↔ (MayBeWritten rs ps ns nm o × (size ≡ file_size kind.id rs ps ns nm o) × (length out < size))
    refusal_14_exactly size = ((λ e. to (told e)), (λ (m, e, s). gives (says_short m (omega arith)) ∙ ap (λ (k : ℕ). Err (ShortOutput k)) (sym e)))
      where
        to : {size : ℕ} → Says rs ps ns nm o out (Err (ShortOutput size)) → MayBeWritten rs ps ns nm o × (size ≡ file_size kind.id rs ps ns nm o) × (length out < size)
        to (says_short m s) = (m, refl, s)

    -- a writer that is not done leaves the output as it was
    pub refused_leaves_the_output : ¬ IsDone writing.answer → writing.out ≡ out
    unfolding write_all write_file
    refused_leaves_the_output = by (first_fault rs ps (records_in rs) 0) (tree_fits depth_limit ns nm (writes_tree o)) (ltb most (records_in rs)) (ltb most (length body)) (ltb (length out) (length whole))
      where
        by : (f : First) (t a b c : Bool)
            → ¬ IsDone (on_first f (λ i. outcome (Err (PathOutside i)) out) (pick t (last a b c) (outcome (Err NotProper) out))).answer
            → (on_first f (λ i. outcome (Err (PathOutside i)) out) (pick t (last a b c) (outcome (Err NotProper) out))).out ≡ out
        by (found i) t a b c n = refl
        by nowhere false a b c n = refl
        by nowhere true true b c n = refl
        by nowhere true false true c n = refl
        by nowhere true false false true n = refl
        by nowhere true false false false n = absurd (n (version_of rs, length whole, refl))
