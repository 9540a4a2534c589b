-- ORDER AND LOOKUP OVER ENTRIES: where each record of a table shows its entry, the order check and the lookup of the table are those of the entries; and from what a call tells back to their
-- answers. Assumes nothing.
use Rattle.std.specs.Prelude.{ℕ, zero, suc, ◌+◌, ◌-◌, ◌≤◌, ◌<◌, ◌≡◌, refl, List, [], ◌∷◌, ◌↔◌, ◌⊎◌, length, Err, Ok, Result, ⊤}
use Rattle.std.proofs.Common.{sym, ap, ◌∙◌, subst, inl, inr, ⊎_elim, arith}
use Rattle.laws.specs.Tests.{lt_or_ge}
use Rattle.refusal.specs.Refusal.{no_stage, not_after}
use Rattle.format.specs.Format.{id_size}
use Rattle.entry.specs.Paths.{Paths}
use Rattle.entry.specs.Record.{records_in}
use Rattle.access.specs.Lookup as lookup
use Rattle.access.specs.Lookup.{highest_stage, lookup_at}
use Rattle.access.specs.Verify as verify
use Rattle.access.specs.Verify.{verify_at}
use Rattle.access.specs.Sorted.{Lies, After, StrictlySorted, yes_lies, sorted_said, said_sorted, refusal_12_said, refusal_13_said, said_refusal_13}
use Rattle.access.specs.Finds as finds
use Rattle.access.specs.Finds.{Has}
use Rattle.grammar.specs.Entry.{Meaning}
use Rattle.claims_entries.proofs.Fields.{meaning_at_lem}
use Rattle.claims_entries.specs.Shown.{EachShown}
use Rattle.sparrowpivot.specs.Told.{Told, eight}
use Rattle.claims_settled.specs.Exports.{LookupCall, lookup_tells, CheckOrderCall, check_order_tells}
use Rattle.claims_c.specs.Terms.{value, EntryIs, ComesBefore, InOrder, FirstNotAfter, EntryHas}
use Rattle.access.specs.declared.verify.Error.TheVariants as verified
use Rattle.access.specs.declared.Error.{Error as LookupError}
use Rattle.access.specs.declared.Error.TheVariants.{NoStage, PathOutside}
use Rattle.access.specs.declared.Found.{Found}
use Rattle.access.specs.declared.Found.TheVariants.{Absent, At}
use Rattle.access.specs.declared.verify.Error.{Error as VerifyError}

-- an entry that is there is within the length
pub entry_within : (es : List Meaning) (i : ℕ) (e : Meaning) → EntryIs es i e → i < length es
entry_within [] i e q = let z : ◌≡◌ {A = ℕ} 0 1 = cc in absurd (omega arith)
entry_within (d ∷ es) zero e q = omega arith
entry_within (d ∷ es) (suc i) e q = omega (arith, entry_within es i e q)

one_entry : (es : List Meaning) (i : ℕ) (d e : Meaning) → EntryIs es i d → EntryIs es i e → d ≡ e
one_entry es i d e p q = let both = sym p ∙ q in cc

module _ (rs : List ℕ) (ps : Paths) (es : List Meaning) (shown : EachShown id_size rs ps es) (many : records_in rs ≡ length es) where
  -- ---- order

  lies : (i : ℕ) → i < records_in rs → Lies rs ps i
  lies i h = let (e, q) = meaning_at_lem es i (omega arith) in yes_lies rs ps i h (shown i e q).inside

  -- record j comes after record i exactly if their entries do so
  module _ (i j : ℕ) (d e : Meaning) (p : EntryIs es i d) (q : EntryIs es j e) where
    comes_before : After rs ps i j → ComesBefore d e
    comes_before a = rw ((shown i d p).path, (shown i d p).stage, (shown j e q).path, (shown j e q).stage) at a

    is_after : ComesBefore d e → After rs ps i j
    is_after a = rw ((shown i d p).path, (shown i d p).stage, (shown j e q).path, (shown j e q).stage) a

  sorted_in_order : StrictlySorted rs ps → InOrder es
  sorted_in_order s i d e p q = comes_before i (i + 1) d e p q (s.rising i (omega (arith, entry_within es (i + 1) e q)))

  in_order_sorted : InOrder es → StrictlySorted rs ps
  in_order_sorted o =
      record {
        inside = lies;
        rising = λ i h.
            let (d, p) = meaning_at_lem es i (omega arith) in
            let (e, q) = meaning_at_lem es (i + 1) (omega arith) in
            is_after i (i + 1) d e p q (o i d e p q);
      }

  pub sorted_exactly : (verify_at rs ps ≡ Ok tt) ↔ InOrder es
  sorted_exactly = ((λ e. sorted_in_order (sorted_said rs ps e)), (λ o. said_sorted rs ps (in_order_sorted o)))

  pub never_outside : (i : ℕ) → verify_at rs ps ≡ Err (verified.PathOutside i) → ⊥
  never_outside i e = let (h, (g, n)) = refusal_12_said rs ps i e in n (lies i h)

  pub not_after_exactly : (i : ℕ) → (verify_at rs ps ≡ Err (verified.NotAfter i)) ↔ FirstNotAfter es i
  not_after_exactly i = (to, from)
    where
      to : verify_at rs ps ≡ Err (verified.NotAfter i) → FirstNotAfter es i
      to q =
          let (h, (good, (l, n))) = refusal_13_said rs ps i q in
          let some-before : 0 < i = ⊎_elim (λ k. k) (λ (k : i ≤ 0). absurd (n (λ z. absurd (omega arith)))) (lt_or_ge 0 i) in
          let (d, x) = meaning_at_lem es (i - 1) (omega arith) in
          let (e, y) = meaning_at_lem es i (omega arith) in
          record {
            behind = some-before;
            before = d;
            entry = e;
            stands_before = x;
            stands = y;
            not_after = λ a. n (λ z. is_after (i - 1) i d e x y a);
            first = λ j k a b p r.
                let s : j + 1 - 1 ≡ j = omega arith in
                comes_before j (j + 1) a b p r (subst (λ (z : ℕ). After rs ps z (j + 1)) s ((good (j + 1) k).1 (omega arith)));
          }

      from : FirstNotAfter es i → verify_at rs ps ≡ Err (verified.NotAfter i)
      from f =
          let h : i < records_in rs = omega (arith, entry_within es i f.entry f.stands) in
          said_refusal_13 rs ps i h
          (λ j k. (
            lies j (omega arith),
            λ z.
                let (a, p) = meaning_at_lem es (j - 1) (omega arith) in
                let (b, q) = meaning_at_lem es j (omega arith) in
                let s : j - 1 + 1 ≡ j = omega arith in
                is_after (j - 1) j a b p q (f.first (j - 1) (omega arith) a b p (rw s q)),
          ))
          (lies i h)
          (λ g. f.not_after (comes_before (i - 1) i f.before f.entry f.stands_before f.stands (g f.behind)))

  -- ---- lookup

  module _ (key : List ℕ) (stage : ℕ) where
    has_entry : (i : ℕ) → Has rs ps key stage i → EntryHas es key stage i
    has_entry i h =
        let (e, q) = meaning_at_lem es i (omega (arith, h.there)) in
        (e, q, sym (shown i e q).path ∙ h.path, sym (shown i e q).stage ∙ h.level)

    entry_has : (i : ℕ) → EntryHas es key stage i → Has rs ps key stage i
    entry_has i (e, q, p, g) = record { there = (shown i e q).there; path = (shown i e q).path ∙ p; level = (shown i e q).stage ∙ g }

    module _ (order : InOrder es) (small : stage ≤ highest_stage) where
      pub found_exactly : (i : ℕ) → ((k : ℕ) × (lookup_at rs ps key stage ≡ Ok (At i k))) ↔ EntryHas es key stage i
      found_exactly i = (
        (λ (k, e). has_entry i (finds.found_then_has rs ps (in_order_sorted order) key stage small i k e)),
        (λ x. finds.has_then_found rs ps (in_order_sorted order) key stage small i (entry_has i x)),
      )

      pub absent_exactly : ((k : ℕ) × (lookup_at rs ps key stage ≡ Ok (Absent k))) ↔ ((i : ℕ) → ¬ EntryHas es key stage i)
      absent_exactly = (
        (λ (k, e) i x. finds.absent_then_none rs ps (in_order_sorted order) key stage small k e i (entry_has i x)),
        (λ n. finds.none_then_absent rs ps (in_order_sorted order) key stage small (λ i x. n i (has_entry i x))),
      )

      pub no_refusal : (lookup.number_of (lookup_at rs ps key stage) ≡ 0)
      no_refusal = by (lookup_at rs ps key stage) refl
        where
          by : (f : Result Found LookupError) → lookup_at rs ps key stage ≡ f → lookup.number_of f ≡ 0
          by (Ok (At i k)) e = refl
          by (Ok (Absent k)) e = refl
          by (Err NoStage) e = let h : highest_stage < stage = finds.refusal_11_said rs ps key stage e in absurd (omega arith)
          by (Err (PathOutside i)) e = let (h, n) = finds.refusal_12_said rs ps key stage i e in absurd (n (lies i h))

-- ---- from what is told back to the answer

pub zero_is_sorted : (v : Result ⊤ VerifyError) → verify.number_of v ≡ 0 → v ≡ Ok tt
zero_is_sorted (Ok _) e = refl
zero_is_sorted (Err (verified.PathOutside i)) e = absurd (omega arith)
zero_is_sorted (Err (verified.NotAfter i)) e = absurd (omega arith)

pub thirteen_is_not_after : (v : Result ⊤ VerifyError) → verify.number_of v ≡ not_after → v ≡ Err (verified.NotAfter (value (verify.carried_of v) 0))
thirteen_is_not_after (Ok _) e = absurd (omega arith)
thirteen_is_not_after (Err (verified.PathOutside i)) e = absurd (omega arith)
thirteen_is_not_after (Err (verified.NotAfter i)) e = refl

pub one_is_found : (f : Result Found LookupError) → lookup.number_of f ≡ 0 → value (lookup.carried_of f) 0 ≡ 1 → (k : ℕ) × (f ≡ Ok (At (value (lookup.carried_of f) 1) k))
one_is_found (Ok (At i k)) e q = (k, refl)
one_is_found (Ok (Absent k)) e q = absurd (omega arith)
one_is_found (Err NoStage) e q = absurd (omega arith)
one_is_found (Err (PathOutside i)) e q = absurd (omega arith)

pub zero_is_absent : (f : Result Found LookupError) → lookup.number_of f ≡ 0 → value (lookup.carried_of f) 0 ≡ 0 → (k : ℕ) × (f ≡ Ok (Absent k))
zero_is_absent (Ok (At i k)) e q = absurd (omega arith)
zero_is_absent (Ok (Absent k)) e q = (k, refl)
zero_is_absent (Err NoStage) e q = absurd (omega arith)
zero_is_absent (Err (PathOutside i)) e q = absurd (omega arith)

pub eleven_is_no_stage : (f : Result Found LookupError) → lookup.number_of f ≡ no_stage → f ≡ Err NoStage
eleven_is_no_stage (Ok (At i k)) e = absurd (omega arith)
eleven_is_no_stage (Ok (Absent k)) e = absurd (omega arith)
eleven_is_no_stage (Err NoStage) e = refl
eleven_is_no_stage (Err (PathOutside i)) e = absurd (omega arith)

-- ---- calls

module _ {rs : List ℕ} {ps : Paths} {values : List ℕ} {code : ℕ} (call : CheckOrderCall rs ps code values) (es : List Meaning) (shown : EachShown id_size rs ps es)
    (many : records_in rs ≡ length es) where
  order_number : code ≡ verify.number_of (verify_at rs ps)
  order_number = ap (λ (t : Told). t.code) (check_order_tells call)

  order_values : values ≡ eight (verify.carried_of (verify_at rs ps))
  order_values = ap (λ (t : Told). t.values) (check_order_tells call)

  pub order_0_exactly : (code ≡ 0) ↔ InOrder es
  order_0_exactly =
      let both = sorted_exactly rs ps es shown many in
      ((λ e. both.0 (zero_is_sorted (verify_at rs ps) (sym order_number ∙ e))), (λ o. order_number ∙ ap verify.number_of (both.1 o)))

  pub order_13_exactly : (i : ℕ) → ((code ≡ not_after) × (value values 0 ≡ i)) ↔ FirstNotAfter es i
  order_13_exactly i =
      let both = not_after_exactly rs ps es shown many i in (
        (λ (e, f). both.0 (thirteen_is_not_after (verify_at rs ps) (sym order_number ∙ e) ∙ ap (λ (j : ℕ). Err (verified.NotAfter j)) (ap (λ (l : List ℕ). value l 0) (sym order_values) ∙ f))),
        (λ o. (order_number ∙ ap verify.number_of (both.1 o), ap (λ (l : List ℕ). value l 0) (order_values ∙ ap (λ (v : Result ⊤ VerifyError). eight (verify.carried_of v)) (both.1 o)))),
      )

  pub order_0_or_13 : (code ≡ 0) ⊎ (code ≡ not_after)
  order_0_or_13 = by (verify_at rs ps) refl
    where
      by : (v : Result ⊤ VerifyError) → verify_at rs ps ≡ v → (code ≡ 0) ⊎ (code ≡ not_after)
      by (Ok _) e = inl (order_number ∙ ap verify.number_of e)
      by (Err (verified.PathOutside i)) e = absurd (never_outside rs ps es shown many i e)
      by (Err (verified.NotAfter i)) e = inr (order_number ∙ ap verify.number_of e)

module _ {rs : List ℕ} {ps : Paths} {key values : List ℕ} {stage code : ℕ} (call : LookupCall rs ps key stage code values) where
  found_number : code ≡ lookup.number_of (lookup_at rs ps key stage)
  found_number = ap (λ (t : Told). t.code) (lookup_tells call)

  found_values : values ≡ eight (lookup.carried_of (lookup_at rs ps key stage))
  found_values = ap (λ (t : Told). t.values) (lookup_tells call)

  pub lookup_11_exactly : (code ≡ no_stage) ↔ (highest_stage < stage)
  lookup_11_exactly = (
    (λ e. finds.refusal_11_said rs ps key stage (eleven_is_no_stage (lookup_at rs ps key stage) (sym found_number ∙ e))),
    (λ h. found_number ∙ ap lookup.number_of (finds.said_refusal_11 rs ps key stage h)),
  )

  module _ (es : List Meaning) (shown : EachShown id_size rs ps es) (many : records_in rs ≡ length es) (order : InOrder es) (small : stage ≤ highest_stage) where
    none_refused : lookup.number_of (lookup_at rs ps key stage) ≡ 0
    none_refused = no_refusal rs ps es shown many key stage order small

    pub lookup_0 : code ≡ 0
    lookup_0 = found_number ∙ none_refused

    pub lookup_finds_exactly : (i : ℕ) → ((value values 0 ≡ 1) × (value values 1 ≡ i)) ↔ EntryHas es key stage i
    lookup_finds_exactly i =
        let both = found_exactly rs ps es shown many key stage order small i in (
          (λ (e, f).
              let (k, q) = one_is_found (lookup_at rs ps key stage) none_refused (ap (λ (l : List ℕ). value l 0) (sym found_values) ∙ e) in
              both.0 (k, q ∙ ap (λ (j : ℕ). Ok (At j k)) (ap (λ (l : List ℕ). value l 1) (sym found_values) ∙ f))),
          (λ x. let (k, q) = both.1 x in (ap (λ (l : List ℕ). value l 0) (found_values ∙ ap (λ (f : Result Found LookupError). eight (lookup.carried_of f)) q), ap (λ (l : List ℕ). value l 1) (found_values ∙ ap (λ (f : Result Found LookupError). eight (lookup.carried_of f)) q))),
        )

    pub lookup_finds_none_exactly : (value values 0 ≡ 0) ↔ ((i : ℕ) → ¬ EntryHas es key stage i)
    lookup_finds_none_exactly =
        let both = absent_exactly rs ps es shown many key stage order small in (
          (λ e. both.0 (zero_is_absent (lookup_at rs ps key stage) none_refused (ap (λ (l : List ℕ). value l 0) (sym found_values) ∙ e))),
          (λ n. let (k, q) = both.1 n in ap (λ (l : List ℕ). value l 0) (found_values ∙ ap (λ (f : Result Found LookupError). eight (lookup.carried_of f)) q)),
        )
