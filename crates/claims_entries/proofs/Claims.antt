-- THE CLAIMS on entries: what `read_entries` answers with nothing before it, and what the stores hold after it, is said by the grammar alone. `SaysRead` has one rule for each
-- answer; the reading gives an answer of which its rule holds, and the only one. With room for all entries that come before the first not spelled, it is Done exactly if all
-- are spelled. Assumes that a record has room for an id, that the file is bytes and that the entries' space lies in it, each a premise with a name.
use Prim.Native.Nat.{ℕ, suc, ◌+◌, ◌-◌, ◌*◌, ◌≤◌, ◌<◌}
use Rattle.std.specs.Prelude.{◌≡◌, refl, Bool, ◌↔◌, take, Err, Ok, Result}
use Rattle.std.proofs.Common.{sym, ◌∙◌, subst, ⊎_elim, zero-add, length-append, length-drop, take_all}
use Rattle.std.proofs.Math.Path.{ap}
use mathlib.Core.List.{List, [], ◌∷◌, ◌++◌, append_assoc, append-nil, append_cancel_left}
use Rattle.std.proofs.Math.Bool.{true, false}
use native.Mathlib.Omega.{arith}
use Rattle.std.proofs.Math.ListN.{length, drop}
use Rattle.std.proofs.Math.Seq.{paste}
use Rattle.laws.specs.Read.{Begins}
use Rattle.laws.specs.Times.{times_snoc}
use Rattle.wire.specs.Places.{file_at, path_at}
use Rattle.wire.specs.declared.FileAt.{FileAt}
use Rattle.wire.specs.declared.PathAt.{PathAt}
use Rattle.format.specs.Format.{id_room}
use Rattle.decode.specs.Entries.{Outcome, run}
use Rattle.decode.specs.Stores.{read_is_run}
use Rattle.grammar.specs.Entry.{Meaning, start, Entry, Entries}
use Rattle.claims_entries.specs.Place.{Lies, lies_from, lies_to}
use Rattle.claims_entries.specs.Measure.{refused_exactly_if_not_spelled}
use Rattle.claims_entries.specs.Rendering.{records_bytes, paths_bytes, sparse_by, Bytes}
use Rattle.claims_entries.specs.Said.{entries_space, SpaceIn, nothing_before, reading_of, filled, after, holding, done_by, Fits, SaysRead, says_done, says_not_spelled, says_no_room, IsDone, AllSpelled, StopsAt, RoomFor, LacksRoomAt}
use Rattle.claims_entries.specs.Reach.{Reach, whole, part, full, reach}
use Rattle.claims_entries.proofs.Run.{Stands, none_yet, knows, first_after, run_steps, run_full, run_refused}
use Rattle.decode.specs.Made.{done_at}
use Rattle.decode.specs.declared.entries.Done.{Done}
use Rattle.decode.specs.declared.entries.Error.{Error as EntriesError}
use Rattle.decode.specs.declared.entries.Error.TheVariants.{NoRoom, NotSpelled}

paths_snoc : (ms : List Meaning) (m : Meaning) → length (paths_bytes (ms ++ (m ∷ []))) ≡ length (paths_bytes ms) + length m.path
unfolding paths_bytes
paths_snoc [] m = ap length (append-nil m.path) ∙ sym (zero-add (length m.path))
paths_snoc (o ∷ ms) m = length-append o.path (paths_bytes (ms ++ (m ∷ []))) ∙ omega (arith, paths_snoc ms m, length-append o.path (paths_bytes ms))

filled_is : (d x : List ℕ) (n : ℕ) → length x ≡ n → paste d 0 x n ≡ filled d x
filled_is d x n e = (λ i. take_all n x (omega arith) i ++ drop (zero-add n i) d) ∙ ap (λ (j : ℕ). x ++ drop j d) (sym e)

-- with nothing before it
reading_runs : (n : ℕ) (file : List ℕ) (version from end count : ℕ) (rs ps : List ℕ)
    → reading_of n file version from end count rs ps ≡ run n file (file_at end) version count 0 (file_at from) (path_at 0) true 0 false rs ps
reading_runs n file version from end count rs ps = read_is_run n file (file_at end) version count 0 (file_at from) nothing_before rs ps (omega arith) (omega arith)

module _ (id : ℕ) (fits : id ≤ id_room) (file : List ℕ) (bytes : Bytes file) (version from end count : ℕ) (lies_in : SpaceIn file from end) (rs ps : List ℕ) where
  inside : end ≤ length file
  inside = lies_in.inside

  ahead : from ≤ end
  ahead = lies_in.ahead

  abbrev space : List ℕ
  space = entries_space file from end

  abbrev reading : Outcome
  reading = reading_of id file version from end count rs ps

  -- after the first k
  record After (k : ℕ) (b : List ℕ) (ms : List Meaning) : Type 0 where
    last : ℕ
    lies : Lies file from end b
    stands : Stands last (length (paths_bytes ms)) (filled ps (paths_bytes ms)) (first_after true ms) (after ms)
    rows : length (filled rs (records_bytes id 0 ms)) ≡ length rs
    texts : length (filled ps (paths_bytes ms)) ≡ length ps
    runs : reading
        ≡ run id file (file_at end) version (count - k) k (file_at (from + length b)) (path_at (length (paths_bytes ms))) (first_after true ms) last (sparse_by false ms) (filled rs (records_bytes id 0 ms))
        (filled ps (paths_bytes ms))

  ran : {k : ℕ} {b : List ℕ} {ms : List Meaning} (rest : List ℕ) → k ≤ count → space ≡ b ++ rest → Entries id version start k b ms → Fits rs ps k ms → After k b ms
  ran {k} {b} {ms} rest h i x f =
      let l : Lies file from end b = lies_from file from end b rest ahead inside i in
      let none : Stands 0 0 ps true start = none_yet in
      let r = run_steps id fits file bytes end version inside x none l rs 0 (omega (arith, f.records)) (omega (arith, f.paths)) (count - k) false in
      let p : List ℕ = paths_bytes ms in
      let q : List ℕ = records_bytes id 0 ms in
      let lq : length q ≡ k * 96 = r.size in
      let e₁ : k + (count - k) ≡ count = omega arith in
      let e₂ : paste rs 0 q (k * 96) ≡ filled rs q = filled_is rs q (k * 96) lq in
      let e₃ : paste ps 0 p (length p) ≡ filled ps p = filled_is ps p (length p) refl in
      record {
        last = r.last;
        lies = l;
        stands = subst (λ (j : ℕ). Stands r.last j (filled ps p) (first_after true ms) (after ms)) (zero-add (length p))
            (subst (λ (z : List ℕ). Stands r.last (0 + length p) z (first_after true ms) (after ms)) e₃ r.stands);
        rows = length-append q (drop (length q) rs) ∙ omega (arith, length-drop (length q) rs, f.records);
        texts = length-append p (drop (length p) ps) ∙ omega (arith, length-drop (length p) ps, f.paths);
        runs = reading_runs id file version from end count rs ps
            ∙ ap (λ (j : ℕ). run id file (file_at end) version j 0 (file_at from) (path_at 0) true 0 false rs ps) (sym e₁) ∙ r.runs
            ∙ (λ j. run id file (file_at end) version (count - k) (zero-add k j) (file_at (from + length b)) (path_at (zero-add (length p) j)) (first_after true ms) r.last (sparse_by false ms) (e₂ j) (e₃ j));
      }

  -- an answer of which its rule holds is the one that is given
  pub no_second_answer : {o : Outcome} → SaysRead id version from space count rs ps o → reading ≡ o
  unfolding run
  no_second_answer (says_done rest i x f) =
      let a = ran rest (omega arith) i x f in
      let z : count - count ≡ 0 = omega arith in
      a.runs ∙ rw z
  no_second_answer (says_not_spelled {k = k} {b = b} {ms = ms} rest h i x f none) =
      let a = ran rest (omega arith) i x f in
      let z : count - k ≡ suc (count - (k + 1)) = omega arith in
      let r : rest ≡ drop (from + length b) (take end file) = append_cancel_left b rest (drop (from + length b) (take end file)) (sym i ∙ lies_to file from end b ahead inside a.lies) in
      let q = (refused_exactly_if_not_spelled id file (from + length b) end version (after ms) (first_after true ms) a.last (knows a.stands) inside (omega (arith, a.lies.fits))).1
      (subst (λ (l : List ℕ). (m : Meaning) (s : List ℕ) → ¬ Begins (Entry id version (after ms)) l m s) r none) in
      a.runs
      ∙ ap (λ (n : ℕ). run id file (file_at end) version n k (file_at (from + length b)) (path_at (length (paths_bytes ms))) (first_after true ms) a.last (sparse_by false ms) (filled rs (records_bytes id 0 ms)) (filled ps (paths_bytes ms))) z
      ∙ run_refused id fits file bytes end version inside (first_after true ms) a.last (length (paths_bytes ms)) (from + length b) k (count - (k + 1)) (sparse_by false ms) (filled rs (records_bytes id 0 ms)) (filled ps (paths_bytes ms)) q
  no_second_answer (says_no_room {k = k} {b = b} {ms = ms} rest q h i x f (c, j, y) lacks) =
      let a = ran rest (omega arith) i x f in
      let z : count - k ≡ suc (count - (k + 1)) = omega arith in
      let r : rest ≡ drop (from + length b) (take end file) = append_cancel_left b rest (drop (from + length b) (take end file)) (sym i ∙ lies_to file from end b ahead inside a.lies) in
      let l : Lies file (from + length b) end c = lies_from file (from + length b) end c q (omega (arith, a.lies.fits)) inside (sym r ∙ j) in
      a.runs
      ∙ ap (λ (n : ℕ). run id file (file_at end) version n k (file_at (from + length b)) (path_at (length (paths_bytes ms))) (first_after true ms) a.last (sparse_by false ms) (filled rs (records_bytes id 0 ms)) (filled ps (paths_bytes ms))) z
      ∙ run_full id fits file bytes end version inside y a.stands l (filled rs (records_bytes id 0 ms)) k (omega (arith, a.texts, f.paths))
      (rw (a.rows, a.texts) lacks) (count - (k + 1)) (sparse_by false ms)

  -- there is an answer of which its rule holds
  some_answer : (o : Outcome) × SaysRead id version from space count rs ps o
  some_answer = go (reach id file end version (length rs) (length ps) inside count start from 0 0 ahead (omega arith) (omega arith))
    where
      go : Reach id file end version (length rs) (length ps) start from 0 0 count → (o : Outcome) × SaysRead id version from space count rs ps o
      go (whole {b = b} {ms = ms} x l f) =
          (_, says_done (drop (from + length b) (take end file)) (lies_to file from end b ahead inside l) x (record { records = omega (arith, f.records); paths = omega (arith, f.paths) }))
      go (part {k = k} {b = b} {ms = ms} h x l f none) = (
        _,
        says_not_spelled (drop (from + length b) (take end file)) h (lies_to file from end b ahead inside l) x (record { records = omega (arith, f.records); paths = omega (arith, f.paths) })
            (λ m q (c, i, y). none c m y (lies_from file (from + length b) end c q (omega (arith, l.fits)) inside i)),
      )
      go (full {k = k} {b = b} {c = c} {ms = ms} {m = m} h x l f y v lacks) = (
        _,
        says_no_room (drop (from + length b) (take end file)) (drop (from + length b + length c) (take end file)) h (lies_to file from end b ahead inside l) x (record { records = omega (arith, f.records); paths = omega (arith, f.paths) })
            (c, lies_to file (from + length b) end c (omega (arith, l.fits)) inside v, y) (rw (zero-add k, zero-add (length (paths_bytes ms))) at lacks),
      )

  -- so of the answer that is given its rule holds
  pub answer_says : SaysRead id version from space count rs ps reading
  answer_says = let (o, x) = some_answer in rw (no_second_answer x) x

  -- ---- THE THEOREMS

  -- the answer and both stores are the rendering of the meaning
  pub stores_are_the_meaning : RoomFor id version space count rs ps → (ms : List Meaning) (rest : List ℕ) (x : Begins (Entries id version start count) space ms rest)
      → reading ≡ holding id rs ps ms (done_by from x.0 ms)
  stores_are_the_meaning room ms rest (b, i, x) = no_second_answer (says_done rest i x (room count ms rest (omega arith) (b, i, x)))

  -- and Done says all of it, with no premise of room
  pub done_is_the_meaning : (next : FileAt) (used : PathAt) (sparse : Bool) → reading.answer ≡ Ok (done_at next used sparse)
      → (ms : List Meaning) × (rest : List ℕ) × (x : Begins (Entries id version start count) space ms rest) × (reading ≡ holding id rs ps ms (done_by from x.0 ms))
  done_is_the_meaning next used sparse q = to answer_says refl q
    where
      to : {o : Outcome} → SaysRead id version from space count rs ps o → reading ≡ o → o.answer ≡ Ok (done_at next used sparse)
          → (ms : List Meaning) × (rest : List ℕ) × (x : Begins (Entries id version start count) space ms rest) × (reading ≡ holding id rs ps ms (done_by from x.0 ms))
      to (says_done {b = b} {ms = ms} rest i x f) e q = (ms, rest, (b, i, x), e)
      to (says_not_spelled rest h i x f none) e q = let z : ◌≡◌ {A = ℕ} 0 1 = cc in absurd (omega arith)
      to (says_no_room rest r h i x f y lacks) e q = let z : ◌≡◌ {A = ℕ} 0 1 = cc in absurd (omega arith)

  pub done_exactly_if_spelled : RoomFor id version space count rs ps → IsDone reading.answer ↔ AllSpelled id version space count
  done_exactly_if_spelled room =
      ((λ (next, used, sparse, q). let (ms, rest, x, e) = done_is_the_meaning next used sparse q in (ms, rest, x)), (λ (ms, rest, x). (_, _, _, ap (λ (o : Outcome). o.answer) (stores_are_the_meaning room ms rest x))))

  -- refusal 5
  pub not_spelled_exactly : RoomFor id version space count rs ps → (k : ℕ) → (reading.answer ≡ Err (NotSpelled k)) ↔ StopsAt id version space count k
  not_spelled_exactly room k = (to answer_says, of)
    where
      to : {o : Outcome} → SaysRead id version from space count rs ps o → o.answer ≡ Err (NotSpelled k) → StopsAt id version space count k
      to (says_done rest i x f) q = let z : ◌≡◌ {A = ℕ} 0 1 = cc in absurd (omega arith)
      to (says_not_spelled {k = j} {b = b} {ms = ms} rest h i x f none) q =
          let e : j ≡ k = cc in
          subst (StopsAt id version space count) e (h, (ms, rest, (b, i, x), none))
      to (says_no_room rest r h i x f y lacks) q = let z : ◌≡◌ {A = ℕ} 0 1 = cc in absurd (omega arith)

      of : StopsAt id version space count k → reading.answer ≡ Err (NotSpelled k)
      of (h, (ms, rest, (b, i, x), none)) = ap (λ (o : Outcome). o.answer) (no_second_answer (says_not_spelled rest h i x (room k ms rest (omega arith) (b, i, x)) none))

  -- entries before the one refused are stored, and nothing else
  pub refused_stores_are_the_meaning : RoomFor id version space count rs ps → (k : ℕ) (x : StopsAt id version space count k) → reading ≡ holding id rs ps x.1.0 (Err (NotSpelled k))
  refused_stores_are_the_meaning room k (h, (ms, rest, (b, i, x), none)) = no_second_answer (says_not_spelled rest h i x (room k ms rest (omega arith) (b, i, x)) none)

  -- refusal 6, which needs no RoomFor
  pub no_room_exactly : (k : ℕ) → (reading.answer ≡ Err (NoRoom k)) ↔ LacksRoomAt id version space count rs ps k
  no_room_exactly k = (to answer_says, of)
    where
      to : {o : Outcome} → SaysRead id version from space count rs ps o → o.answer ≡ Err (NoRoom k) → LacksRoomAt id version space count rs ps k
      to (says_done rest i x f) q = let z : ◌≡◌ {A = ℕ} 0 1 = cc in absurd (omega arith)
      to (says_not_spelled rest h i x f none) q = let z : ◌≡◌ {A = ℕ} 0 1 = cc in absurd (omega arith)
      to (says_no_room {k = j} {b = b} {ms = ms} {m = m} rest r h i x f y lacks) q =
          let e : j ≡ k = cc in
          subst (LacksRoomAt id version space count rs ps) e (h, (ms, rest, m, r, (b, i, x), f, y, lacks))

      of : LacksRoomAt id version space count rs ps k → reading.answer ≡ Err (NoRoom k)
      of (h, (ms, rest, m, r, (b, i, x), f, y, lacks)) = ap (λ (o : Outcome). o.answer) (no_second_answer (says_no_room rest r h i x f y lacks))

  pub full_stores_are_the_meaning : (k : ℕ) (x : LacksRoomAt id version space count rs ps k) → reading ≡ holding id rs ps x.1.0 (Err (NoRoom k))
  full_stores_are_the_meaning k (h, (ms, rest, m, r, (b, i, x), f, y, lacks)) = no_second_answer (says_no_room rest r h i x f y lacks)

  pub room_is_enough : RoomFor id version space count rs ps → (k : ℕ) → ¬ (reading.answer ≡ Err (NoRoom k))
  room_is_enough room k = to answer_says
    where
      to : {o : Outcome} → SaysRead id version from space count rs ps o → ¬ (o.answer ≡ Err (NoRoom k))
      to (says_done rest i x f) q = let z : ◌≡◌ {A = ℕ} 0 1 = cc in omega arith
      to (says_not_spelled rest h i x f none) q = let z : ◌≡◌ {A = ℕ} 0 1 = cc in omega arith
      to (says_no_room {k = j} {b = b} {ms = ms} {m = m} rest r h i x f (c, w, y) lacks) q =
          let f : Fits rs ps (suc j) (ms ++ (m ∷ [])) = room (suc j) (ms ++ (m ∷ [])) r (omega arith) (b ++ c, i ∙ ap (λ (l : List ℕ). b ++ l) w ∙ sym (append_assoc b c r), times_snoc x y) in
          ⊎_elim (λ (a : length rs < (j + 1) * 96). omega (arith, f.records)) (λ (a : length ps < length (paths_bytes ms) + length m.path). omega (arith, f.paths, paths_snoc ms m)) lacks

-- longer stores, same word: an answer that is no room refusal is given again, over the same records and paths
module _ (id : ℕ) (fits : id ≤ id_room) (file : List ℕ) (bytes : Bytes file) (version from end count : ℕ) (lies_in : SpaceIn file from end) (rs ps rs₂ ps₂ : List ℕ) (wider : length rs ≤ length rs₂) (longer : length ps ≤ length ps₂) where
  pub more_room_same_word : ((k : ℕ) → ¬ ((reading_of id file version from end count rs ps).answer ≡ Err (NoRoom k)))
      → (a : Result Done EntriesError) × (ms : List Meaning) × (reading_of id file version from end count rs ps ≡ holding id rs ps ms a) × (reading_of id file version from end count rs₂ ps₂ ≡ holding id rs₂ ps₂ ms a)
  more_room_same_word no_refusal = go (answer_says id fits file bytes version from end count lies_in rs ps) refl
    where
      again : {o : Outcome} → SaysRead id version from (entries_space file from end) count rs₂ ps₂ o → reading_of id file version from end count rs₂ ps₂ ≡ o
      again = no_second_answer id fits file bytes version from end count lies_in rs₂ ps₂

      still_fits : {k : ℕ} {ms : List Meaning} → Fits rs ps k ms → Fits rs₂ ps₂ k ms
      still_fits f = record { records = omega (arith, f.records); paths = omega (arith, f.paths) }

      go : {o : Outcome} → SaysRead id version from (entries_space file from end) count rs ps o → reading_of id file version from end count rs ps ≡ o
          → (a : Result Done EntriesError) × (ms : List Meaning) × (reading_of id file version from end count rs ps ≡ holding id rs ps ms a) × (reading_of id file version from end count rs₂ ps₂ ≡ holding id rs₂ ps₂ ms a)
      go (says_done {b = b} {ms = ms} rest i x f) e = (done_by from b ms, ms, e, again (says_done rest i x (still_fits f)))
      go (says_not_spelled {k = k} {ms = ms} rest h i x f none) e = (Err (NotSpelled k), ms, e, again (says_not_spelled rest h i x (still_fits f) none))
      go (says_no_room {k = k} rest r h i x f y lacks) e = absurd (no_refusal k (ap (λ (o : Outcome). o.answer) e))
