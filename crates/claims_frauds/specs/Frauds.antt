-- EACH FRAUD OF 01 FAILS ("Settling every answer: Frauds to try"). Each is stated of every program of its kind, and then of the plainest one by name. Assumes nothing.
use Rattle.std.specs.Prelude.{ℕ, zero, suc, ◌+◌, ◌^◌, ◌≤◌, ◌<◌, ◌≡◌, refl, Bool, true, false, length, take, drop, Err, Ok, Result}
use Rattle.std.proofs.Common.{sym, ap, ◌∙◌, subst, ⊎_elim, arith, lit≤, lit<, length-append, take-append-drop, take-take}
use mathlib.Core.List.{List, [], ◌∷◌, flatten}
use Rattle.laws.specs.Pick.{pick}
use Rattle.laws.specs.Tests.{lt_or_ge}
use Rattle.slices.specs.Bytes.{same_bytes}
use Rattle.slices.specs.Laws.{same_equal}
use Rattle.sha1_hash.specs.Pieces as pieces
use Rattle.sha1_hash.specs.declared.Digest.{Digest}
use Rattle.kind.specs.Sha1.{sha1_kind}
use Rattle.entry.specs.Paths.{Paths}
use Rattle.access.specs.Lookup.{lookup_at}
use Rattle.access.specs.Finds.{Has, absent_then_none, found_then_has}
use Rattle.access.specs.Steps.{found_counts_the_steps, absent_counts_the_steps}
use Rattle.access.specs.Marked.{table, paths, page_sorted, page_found, page_absent}
use Rattle.grammar.specs.File.{DIRC}
use Rattle.file.specs.Read as reading
use Rattle.write.specs.File as writing
use Rattle.claims_entries.specs.Rendering.{Bytes}
use Rattle.claims_entries.proofs.Fields.{bytes_left}
use Rattle.claims.specs.Premises.{Slices}
use Rattle.claims.specs.Claims.{IsRead, refusal_1_exactly, refusal_2_exactly}
use Rattle.claims_frauds.specs.Demands.{Reader, Writer, Lookup, Digester, Demand3, Case, written, file_in, ReadsBack, Finds, Demand2, CountsTheSteps, DigestsEachPrefix}
use Rattle.claims_frauds.specs.Ours.{reader, digest}
use Rattle.claims_frauds.specs.Witness as witness
use Rattle.claims_frauds.specs.Witness.{case}
use Rattle.access.specs.declared.Error.{Error as LookupError}
use Rattle.access.specs.declared.Error.TheVariants.{NoStage, PathOutside}
use Rattle.access.specs.declared.Found.{Found}
use Rattle.access.specs.declared.Found.TheVariants.{Absent, At}
use Rattle.file.specs.Made.{read_with_all}
use Rattle.file.specs.declared.Error.{Error as FileError}
use Rattle.file.specs.declared.Reading.{Reading}
use Rattle.write.specs.Made.{written_with}
use Rattle.laws.specs.Same.{ok_same}

-- ---- A READER THAT REFUSES ALL fails demand 3

pub refuses_all_fails : (read : Reader) → ((s rs ps ns : List ℕ) → ¬ IsRead (read s rs ps ns).answer) → ¬ Demand3 sha1_kind read
refuses_all_fails read never demand =
    never witness.one_entry witness.records witness.paths witness.nodes
    ((demand.accepted_exactly_if_spelled witness.one_entry witness.records witness.paths witness.nodes witness.readable witness.tree_fits_lem).1 (witness.the_index, witness.one_entry_spelled))

-- whatever it refuses with
pub refuses_with_fails : (a : Result Reading FileError) → ¬ IsRead a → ¬ Demand3 sha1_kind (λ s rs ps ns. reading.outcome a rs ps ns)
refuses_with_fails a refusal = refuses_all_fails (λ s rs ps ns. reading.outcome a rs ps ns) (λ s rs ps ns. refusal)

-- ---- A READER THAT ALWAYS REPORTS AN EMPTY INDEX fails demand 3, and so does every one that never reports a record

abbrev pub ReportsNone : Reader → Type 0
ReportsNone read = (s rs ps ns : List ℕ) (r : Reading) → (read s rs ps ns).answer ≡ Ok r → r.records ≡ 0

pub reports_none_fails : (read : Reader) → ReportsNone read → ¬ Demand3 sha1_kind read
reports_none_fails read none demand =
    let rendered = demand.stores_are_the_meaning witness.one_entry witness.records witness.paths witness.nodes witness.readable witness.tree_fits_lem witness.the_index witness.one_entry_spelled in
    let z : ◌≡◌ {A = ℕ} 1 0 = none witness.one_entry witness.records witness.paths witness.nodes _ rendered.answer in
    omega arith

pub always_empty_fails : ¬ Demand3 sha1_kind (λ s rs ps ns. reading.outcome (Ok (read_with_all 2 false false 0 0 0)) rs ps ns)
always_empty_fails = reports_none_fails (λ s rs ps ns. reading.outcome (Ok (read_with_all 2 false false 0 0 0)) rs ps ns) (λ s rs ps ns r e. sym (ap (λ (x : Reading). x.records) (ok_same e)))

-- ---- A READER THAT TAKES EVERY FILE WITHOUT "DIRC" FOR AN INDEX fails demand 3

pub reads_unsigned_fails : (read : Reader) → ((s rs ps ns : List ℕ) → ¬ (take 4 s ≡ DIRC) → IsRead (read s rs ps ns).answer) → ¬ Demand3 sha1_kind read
reads_unsigned_fails read reads demand =
    let (m, x) = (demand.accepted_exactly_if_spelled witness.zeros_alone [] [] [] witness.zeros_readable witness.zeros_tree_fits).0 (reads witness.zeros_alone [] [] [] witness.zeros_unsigned) in
    witness.zeros_not_spelled m x

-- ours, but for an empty index where there is no "DIRC"
abbrev pub lenient : Reader
lenient s rs ps ns = pick (same_bytes (take 4 s) DIRC) (reader s rs ps ns) (reading.outcome (Ok (read_with_all 2 false false 0 0 0)) rs ps ns)

pub lenient_fails : ¬ Demand3 sha1_kind lenient
lenient_fails = reads_unsigned_fails lenient (λ s rs ps ns other. by s rs ps ns (same_bytes (take 4 s) DIRC) (λ e. other (same_equal (take 4 s) DIRC e)))
  where
    by : (s rs ps ns : List ℕ) (t : Bool) → (t ≡ true → ⊥) → IsRead (pick t (reader s rs ps ns) (reading.outcome (Ok (read_with_all 2 false false 0 0 0)) rs ps ns)).answer
    by s rs ps ns true never = absurd (never refl)
    by s rs ps ns false never = (_, refl)

-- ---- A WRITER THAT STORES NOTHING fails demand 2: one that leaves every output as it was, and says Done for 01's marked table and an output that does not happen to begin with "DIRC"

length-take-most : (n : ℕ) (l : List ℕ) → length (take n l) ≤ n
length-take-most zero l = omega arith
length-take-most (suc n) [] = omega arith
length-take-most (suc n) (x ∷ l) = omega (arith, length-take-most n l)

-- what does not begin with "DIRC" is not read
not_read : (s rs ps ns : List ℕ) → Slices s ps ns → (32 ≤ length s → ¬ (take 4 s ≡ DIRC)) → ¬ IsRead (reader s rs ps ns).answer
not_read s rs ps ns slices other (r, e) =
    ⊎_elim
    (λ h. let f = (refusal_1_exactly sha1_kind s rs ps ns slices).1 h in let z : ◌≡◌ {A = ℕ} 0 1 = cc in omega arith)
    (λ h. let f = (refusal_2_exactly sha1_kind s rs ps ns slices).1 (h, other h) in let z : ◌≡◌ {A = ℕ} 0 1 = cc in omega arith)
    (lt_or_ge (length s) 32)

pub stores_nothing_fails : (write : Writer) → ((c : Case) → (written write c).out ≡ c.out) → (out : List ℕ) → Bytes out → length out < 2 ^ 64 → ¬ (take 4 out ≡ DIRC) → (version size : ℕ)
    → (written write (case out version size)).answer ≡ Ok (written_with version size) → ¬ ReadsBack sha1_kind write reader
stores_nothing_fails write leaves out bytes long other version size done demand =
    not_read (file_in write c) c.records' c.paths' c.nodes' slices begins
    (_, (demand.reads_back c (record { done = done; few = lit< tt; table = witness.writable; slices = slices; room = witness.roomy out version size })).2)
  where
    c : Case
    c = case out version size

    same : file_in write c ≡ take size out
    same = ap (λ (l : List ℕ). take size l) (leaves c)

    parts : length (take size out) + length (drop size out) ≡ length out
    parts = sym (length-append (take size out) (drop size out)) ∙ ap length (take-append-drop size out)

    slices : Slices (file_in write c) c.paths' c.nodes'
    slices =
        subst (λ (s : List ℕ). Slices s c.paths' c.nodes') (sym same)
        (record { bytes = bytes_left (take size out) (drop size out) (subst Bytes (sym (take-append-drop size out)) bytes); file = omega (arith, parts); paths = lit< tt; nodes = lit< tt })

    begins : 32 ≤ length (file_in write c) → ¬ (take 4 (file_in write c) ≡ DIRC)
    begins h e = other (sym (take-take 4 size out (omega (arith, ap length same, length-take-most size out))) ∙ ap (λ (l : List ℕ). take 4 l) (sym same) ∙ e)

-- the plainest: it says Done for everything
pub says_done_fails : (lookup : Lookup) (version size : ℕ) → ¬ Demand2 sha1_kind (λ rs ps ns nm o out. writing.outcome (Ok (written_with version size)) out) reader lookup
says_done_fails lookup version size demand =
    stores_nothing_fails (λ rs ps ns nm o out. writing.outcome (Ok (written_with version size)) out) (λ c. refl) (9 ∷ []) (λ i. nine i) (lit< tt) (λ e. let z : ◌≡◌ {A = ℕ} 0 1 = cc in omega arith) version size refl demand.reads_back
  where
    nine : Bytes (9 ∷ [])
    nine zero = lit< tt
    nine (suc i) = lit< tt

-- ---- A LOOKUP THAT ALWAYS SAYS ABSENT fails demand 2

-- in 01's marked table record 1 is "a" at stage 2, and there is no "a" at stage 1
a_at_2 : Has table paths (97 ∷ []) 2 1
a_at_2 = found_then_has table paths page_sorted (97 ∷ []) 2 (lit≤ tt) 1 1 page_found

no_a_at_1 : (i : ℕ) → ¬ Has table paths (97 ∷ []) 1 i
no_a_at_1 = absent_then_none table paths page_sorted (97 ∷ []) 1 (lit≤ tt) 2 page_absent

pub always_absent_fails : (lookup : Lookup) → ((rs : List ℕ) (ps : Paths) (key : List ℕ) (stage : ℕ) → (k : ℕ) × (lookup rs ps key stage ≡ Ok (Absent k))) → ¬ Finds lookup
always_absent_fails lookup absent finds = (finds.absent_exactly table paths page_sorted (97 ∷ []) 2 (lit≤ tt)).0 (absent table paths (97 ∷ []) 2) 1 a_at_2

pub always_absent_fails_demand_2 : (write : Writer) (read : Reader) (k : ℕ) → ¬ Demand2 sha1_kind write read (λ rs ps key stage. Ok (Absent k))
always_absent_fails_demand_2 write read k demand = always_absent_fails (λ rs ps key stage. Ok (Absent k)) (λ rs ps key stage. (k, refl)) demand.finds

-- ---- A MADE-UP PROBE COUNT fails the halving rule

-- one number for every answer, though the lookup finds what it should
pub constant_count_fails : (lookup : Lookup) (c : ℕ) → Finds lookup
    → ((rs : List ℕ) (ps : Paths) (key : List ℕ) (stage i k : ℕ) → lookup rs ps key stage ≡ Ok (At i k) → k ≡ c)
    → ((rs : List ℕ) (ps : Paths) (key : List ℕ) (stage k : ℕ) → lookup rs ps key stage ≡ Ok (Absent k) → k ≡ c) → ¬ CountsTheSteps lookup
constant_count_fails lookup c finds found absent counts =
    let (k, e) = (finds.found_exactly table paths page_sorted (97 ∷ []) 2 (lit≤ tt) 1).1 a_at_2 in
    let (l, f) = (finds.absent_exactly table paths page_sorted (97 ∷ []) 1 (lit≤ tt)).1 no_a_at_1 in
    omega (
      arith,
      counts.found table paths (97 ∷ []) 2 1 k e,
      found table paths (97 ∷ []) 2 1 k e,
      found_counts_the_steps table paths (97 ∷ []) 2 1 1 page_found,
      counts.absent table paths (97 ∷ []) 1 l f,
      absent table paths (97 ∷ []) 1 l f,
      absent_counts_the_steps table paths (97 ∷ []) 1 2 page_absent,
    )

-- one more than was compared
abbrev pub overstated : Result Found LookupError → Result Found LookupError
overstated (Ok (At i k)) = Ok (At i (k + 1))
overstated (Ok (Absent k)) = Ok (Absent (k + 1))
overstated (Err NoStage) = Err NoStage
overstated (Err (PathOutside i)) = Err (PathOutside i)

pub one_too_many_fails : ¬ CountsTheSteps (λ rs ps key stage. overstated (lookup_at rs ps key stage))
one_too_many_fails counts =
    omega (arith, counts.found table paths (97 ∷ []) 2 1 2 (ap overstated page_found), found_counts_the_steps table paths (97 ∷ []) 2 1 1 page_found)

-- ---- A DIGEST THAT IGNORES LATER PIECES fails SHA-1's definition after each piece

pub ignores_later_fails : (d : Digester) → ((p q : List ℕ) → d.finish (d.feed (d.feed d.new p) q) ≡ d.finish (d.feed d.new p)) → ¬ DigestsEachPrefix d
unfolding flatten
ignores_later_fails d ignores right = witness.digests_differ (sym (right ([] ∷ (97 ∷ []) ∷ []) 2) ∙ ignores [] (97 ∷ []) ∙ right ([] ∷ []) 1)

-- ours, deaf after its first piece
abbrev heard : Digest × Bool → List ℕ → Digest × Bool
heard (x, true) p = (x, true)
heard (x, false) p = (pieces.fed x p, true)

abbrev pub deaf : Digester
deaf = record { State = Digest × Bool; new = (digest.new, false); feed = heard; finish = λ (x, t). pieces.finished x }

pub deaf_fails : ¬ DigestsEachPrefix deaf
deaf_fails = ignores_later_fails deaf (λ p q. refl)
