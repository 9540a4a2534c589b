-- THE WHOLE TABLE AS ONE DEMAND (01, "When the desk says no"): a reader that answers every file by the table is ours on all slices, so it meets demand 3, and
-- every fraud of a reader fails the table. Assumes nothing.
use Rattle.std.specs.Prelude.{ℕ, ◌+◌, ◌≡◌, Bool, true, false, List, [], ◌↔◌, ltb, length, take, Err}
use Rattle.std.proofs.Common.{sym, ap, ◌∙◌, subst, arith, lit<, le-ltb}
use Rattle.laws.specs.Pick.{pick}
use Rattle.format.specs.Format.{id_size}
use Rattle.kind.specs.Sha1.{sha1_kind}
use Rattle.grammar.specs.File.{Index, DIRC, header_length, File, version_of, count_of, space, GoodHeader}
use Rattle.grammar.proofs.Space.{spelled_has_good_header}
use Rattle.file.specs.Read.{Outcome, outcome}
use Rattle.claims_entries.specs.Said.{StopsAt}
use Rattle.claims.specs.Premises.{Slices}
use Rattle.claims.specs.Said.{SaysFile}
use Rattle.claims.specs.Reading.{no_second_answer}
use Rattle.claims.specs.Claims.{Renders, IsRead, refusal_1_exactly}
use Rattle.claims_frauds.specs.Demands.{Reader, Demand3, AnswersByTheTable}
use Rattle.claims_frauds.specs.Ours.{reader, demand_3, answers_by_the_table}
use Rattle.claims_frauds.specs.Frauds.{refuses_all_fails, ReportsNone, reports_none_fails, reads_unsigned_fails}
use Rattle.file.specs.declared.Error.TheVariants.{NoSignature, NotSpelled}

-- of all files and stores, answer and stores are ours
abbrev pub IsOurs : Reader → Type 0
IsOurs read = (s rs ps ns : List ℕ) → Slices s ps ns → read s rs ps ns ≡ reader s rs ps ns

pub only_ours_answers_by_the_table : (read : Reader) → AnswersByTheTable sha1_kind read ↔ IsOurs read
only_ours_answers_by_the_table read = (
  (λ table s rs ps ns slices. sym (no_second_answer sha1_kind s rs ps ns slices (table s rs ps ns slices))),
  (λ ours s rs ps ns slices. subst (SaysFile sha1_kind s rs ps ns) (sym (ours s rs ps ns slices)) (answers_by_the_table s rs ps ns slices)),
)

pub another_answer_fails_the_table : (read : Reader) (s rs ps ns : List ℕ) → Slices s ps ns → ¬ (read s rs ps ns ≡ reader s rs ps ns) → ¬ AnswersByTheTable sha1_kind read
another_answer_fails_the_table read s rs ps ns slices other table = other ((only_ours_answers_by_the_table read).0 table s rs ps ns slices)

-- the table leaves nothing of demand 3 to ask for
pub the_table_meets_demand_3 : (read : Reader) → AnswersByTheTable sha1_kind read → Demand3 sha1_kind read
the_table_meets_demand_3 read table =
    record {
      accepted_exactly_if_spelled = λ s rs ps ns x t.
          subst (λ (o : Outcome). IsRead o.answer ↔ ((m : Index) × File id_size s m)) (ours s rs ps ns x.slices) (demand_3.accepted_exactly_if_spelled s rs ps ns x t);
      one_meaning = demand_3.one_meaning;
      stores_are_the_meaning = λ s rs ps ns x t m y. subst (Renders sha1_kind s rs ps ns m) (ours s rs ps ns x.slices) (demand_3.stores_are_the_meaning s rs ps ns x t m y);
      refusal_5_exactly = λ s rs ps ns x g k.
          subst (λ (o : Outcome). (o.answer ≡ Err (NotSpelled k)) ↔ StopsAt id_size (version_of s) (space id_size s) (count_of s) k) (ours s rs ps ns x.slices) (demand_3.refusal_5_exactly s rs ps ns x g k);
      refusal_5_stores = λ s rs ps ns x g k y. sym (ours s rs ps ns x.slices) ∙ demand_3.refusal_5_stores s rs ps ns x g k y;
    }
  where
    ours : (s rs ps ns : List ℕ) → Slices s ps ns → reader s rs ps ns ≡ read s rs ps ns
    ours s rs ps ns slices = sym ((only_ours_answers_by_the_table read).0 table s rs ps ns slices)

pub fails_demand_3_fails_the_table : (read : Reader) → ¬ Demand3 sha1_kind read → ¬ AnswersByTheTable sha1_kind read
fails_demand_3_fails_the_table read fails table = fails (the_table_meets_demand_3 read table)

-- ---- so the frauds of a reader fail it

pub refuses_all_fails_the_table : (read : Reader) → ((s rs ps ns : List ℕ) → ¬ IsRead (read s rs ps ns).answer) → ¬ AnswersByTheTable sha1_kind read
refuses_all_fails_the_table read never = fails_demand_3_fails_the_table read (refuses_all_fails read never)

pub reports_none_fails_the_table : (read : Reader) → ReportsNone read → ¬ AnswersByTheTable sha1_kind read
reports_none_fails_the_table read none = fails_demand_3_fails_the_table read (reports_none_fails read none)

pub reads_unsigned_fails_the_table : (read : Reader) → ((s rs ps ns : List ℕ) → ¬ (take 4 s ≡ DIRC) → IsRead (read s rs ps ns).answer) → ¬ AnswersByTheTable sha1_kind read
reads_unsigned_fails_the_table read reads = fails_demand_3_fails_the_table read (reads_unsigned_fails read reads)

-- ---- what demand 3 leaves open the table does not: which refusal but 5 is given. A reader that gives 2 for 1 meets demand 3, and fails the table

abbrev pub hasty : Reader
hasty s rs ps ns = pick (ltb (length s) (header_length + id_size)) (outcome (Err NoSignature) rs ps ns) (reader s rs ps ns)

hasty_is_ours : (s rs ps ns : List ℕ) → GoodHeader id_size s → reader s rs ps ns ≡ hasty s rs ps ns
hasty_is_ours s rs ps ns g = ap (λ (t : Bool). pick t (outcome (Err NoSignature) rs ps ns) (reader s rs ps ns)) (sym (le-ltb (length s) (header_length + id_size) g.long))

pub hasty_meets_demand_3 : Demand3 sha1_kind hasty
hasty_meets_demand_3 =
    record {
      accepted_exactly_if_spelled = λ s rs ps ns x t. (
        (λ q. (demand_3.accepted_exactly_if_spelled s rs ps ns x t).0 (read_by s rs ps ns (ltb (length s) (header_length + id_size)) q)),
        (λ (m, y). subst (λ (o : Outcome). IsRead o.answer) (hasty_is_ours s rs ps ns (spelled_has_good_header y)) ((demand_3.accepted_exactly_if_spelled s rs ps ns x t).1 (m, y))),
      );
      one_meaning = demand_3.one_meaning;
      stores_are_the_meaning = λ s rs ps ns x t m y. subst (Renders sha1_kind s rs ps ns m) (hasty_is_ours s rs ps ns (spelled_has_good_header y)) (demand_3.stores_are_the_meaning s rs ps ns x t m y);
      refusal_5_exactly = λ s rs ps ns x g k.
          subst (λ (o : Outcome). (o.answer ≡ Err (NotSpelled k)) ↔ StopsAt id_size (version_of s) (space id_size s) (count_of s) k) (hasty_is_ours s rs ps ns g) (demand_3.refusal_5_exactly s rs ps ns x g k);
      refusal_5_stores = λ s rs ps ns x g k y. sym (hasty_is_ours s rs ps ns g) ∙ demand_3.refusal_5_stores s rs ps ns x g k y;
    }
  where
    read_by : (s rs ps ns : List ℕ) (t : Bool) → IsRead (pick t (outcome (Err NoSignature) rs ps ns) (reader s rs ps ns)).answer → IsRead (reader s rs ps ns).answer
    read_by s rs ps ns true (r, q) = let z : ◌≡◌ {A = ℕ} 0 1 = cc in absurd (omega arith)
    read_by s rs ps ns false q = q

pub hasty_fails_the_table : ¬ AnswersByTheTable sha1_kind hasty
hasty_fails_the_table =
    another_answer_fails_the_table hasty [] [] [] [] nothing
    (λ e. let f = (refusal_1_exactly sha1_kind [] [] [] [] nothing).1 (lit< tt) in let g : Err NoSignature ≡ (reader [] [] [] []).answer = ap (λ (o : Outcome). o.answer) e in let z : ◌≡◌ {A = ℕ} 0 1 = cc in omega arith)
  where
    nothing : Slices [] [] []
    nothing = record { bytes = λ i. lit< tt; file = lit< tt; paths = lit< tt; nodes = lit< tt }
