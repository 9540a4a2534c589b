-- What a run leaves in its stores, over the id's length: a run as turns, the lengths, what stands before it, and that the path of each record it read lies in the
-- path store. Later crates cite these and not the run's text. Assumes nothing.
use Prim.Native.Nat.{ℕ, zero, suc, ◌+◌, ◌-◌, ◌*◌, ◌^◌, ◌≤◌, ◌<◌}
use Rattle.std.specs.Prelude.{◌≡◌, Bool, true, ◌⊎◌, min, drop, ltb, leb, Err, Ok, Result, is_none, unwrap_or}
use Rattle.std.proofs.Math.Path.{refl}
use Rattle.std.proofs.Common.{ap, ◌∙◌, inl, inr, ⊎_elim, take-take, length-take-le}
use Rattle.std.proofs.Math.Bool.{false}
use mathlib.Core.List.{List, ◌++◌, append_assoc}
use native.Mathlib.Omega.{arith}
use Rattle.std.proofs.Math.ListN.{length, take, length-append}
use Rattle.std.proofs.Math.Seq.{paste, length-paste}
use Rattle.std.proofs.lemmas.List.{take-append-le}
use Rattle.laws.specs.Pick.{pick}
use Rattle.laws.specs.Lists.{length_part}
use Rattle.laws.specs.Tests.{Less, less, not_less, less?, AtMost, at_most, above, at_most?, lt_or_ge}
use Rattle.wire.specs.Places.{path_at}
use Rattle.wire.specs.declared.FileAt.{FileAt}
use Rattle.wire.specs.declared.PathAt.{PathAt}
use Rattle.entry.specs.Paths.{lying_in}
use Rattle.entry.specs.Record.{record_of, records_in, put_record, lies_inside}
use Rattle.entry.specs.Laws.{put_is_paste}
use Rattle.entry.specs.Found.{kept_length, kept_inside, put_inside}
use Rattle.measure.specs.Entry.{measure_at}
use Rattle.measure.specs.Inside.{Inside, measured_inside}
use Rattle.decode.specs.declared.entries.Before.{Before as Start}
use Rattle.decode.specs.Entries.{path_of, marked, Outcome, outcome, on_measured, run, read_entries}
use Rattle.decode.specs.Made.{done_at, done_same}
use Rattle.decode.specs.declared.entries.Done.{Done}
use Rattle.decode.specs.declared.entries.Error.{Error as EntriesError}
use Rattle.decode.specs.declared.entries.Error.TheVariants.{NoRoom, NotSpelled}
use Rattle.measure.specs.Made.{measured_as}
use Rattle.measure.specs.declared.Measured.{Measured}
use Rattle.measure.specs.declared.Unspelled.{Unspelled}
use Rattle.measure.specs.declared.Unspelled.TheVariants.{Fault, Short}

-- a run as turns: it is done, or stops at an entry that is not spelled or has no room, or stores an entry and goes on
pub data Ran (id : ℕ) (s : List ℕ) (end : FileAt) (version : ℕ) : ℕ → ℕ → FileAt → PathAt → Bool → ℕ → Bool → List ℕ → List ℕ → Outcome → Type 0 where
  done : {i : ℕ} {at : FileAt} {used : PathAt} {first : Bool} {prev : ℕ} {sparse : Bool} {rs ps : List ℕ} → Ran id s end version zero i at used first prev sparse rs ps (outcome (Ok (done_at at used sparse)) rs ps)
  unspelled : {n i : ℕ} {at : FileAt} {used : PathAt} {first : Bool} {prev : ℕ} {sparse : Bool} {rs ps : List ℕ} → Ran id s end version (suc n) i at used first prev sparse rs ps (outcome (Err (NotSpelled i)) rs ps)
  full : {n i : ℕ} {at : FileAt} {used : PathAt} {first : Bool} {prev : ℕ} {sparse : Bool} {rs ps : List ℕ} → Ran id s end version (suc n) i at used first prev sparse rs ps (outcome (Err (NoRoom i)) rs ps)
  stored : {n i : ℕ} {at : FileAt} {used : PathAt} {first : Bool} {prev : ℕ} {sparse : Bool} {rs ps : List ℕ} {o : Outcome} (flags keep : ℕ) (suffix : FileAt) (len : ℕ) (next : FileAt)
      → measure_at id s at.0 end.0 version first prev ≡ Ok (measured_as flags keep suffix len next) → i < records_in rs → keep + len ≤ length ps - used.0
      → Ran id s end version n (i + 1) next (path_at (used.0 + (keep + len))) false (keep + len) (marked s at.0 sparse) (put_record id s at.0 flags used.0 (used.0 + (keep + len)) rs i)
      (paste ps used.0 (path_of s ps keep suffix.0 len prev used.0) (keep + len)) o
      → Ran id s end version (suc n) i at used first prev sparse rs ps o

module _ (id : ℕ) (s : List ℕ) (end : FileAt) (version : ℕ) where
  room_turn : {n i : ℕ} {at : FileAt} {used : PathAt} {first : Bool} {prev : ℕ} {sparse : Bool} {rs ps : List ℕ} {o : Outcome} {t u : Bool} (flags keep : ℕ) (suffix : FileAt) (len : ℕ) (next : FileAt)
      → measure_at id s at.0 end.0 version first prev ≡ Ok (measured_as flags keep suffix len next) → AtMost (records_in rs) i t → Less (length ps - used.0) (keep + len) u
      → Ran id s end version n (i + 1) next (path_at (used.0 + (keep + len))) false (keep + len) (marked s at.0 sparse) (put_record id s at.0 flags used.0 (used.0 + (keep + len)) rs i)
      (paste ps used.0 (path_of s ps keep suffix.0 len prev used.0) (keep + len)) o
      → Ran id s end version (suc n) i at used first prev sparse rs ps (pick t (outcome (Err (NoRoom i)) rs ps) (pick u (outcome (Err (NoRoom i)) rs ps) o))
  room_turn flags keep suffix len next e (at_most h) k r = full
  room_turn flags keep suffix len next e (above h) (less k) r = full
  room_turn flags keep suffix len next e (above h) (not_less k) r = stored flags keep suffix len next e h k r

  -- every run is one of turns
  pub ran : (n i : ℕ) (at : FileAt) (used : PathAt) (first : Bool) (prev : ℕ) (sparse : Bool) (rs ps : List ℕ) → Ran id s end version n i at used first prev sparse rs ps (run id s end version n i at used first prev sparse rs ps)
  unfolding run
  ran zero i at used first prev sparse rs ps = done
  ran (suc n) i at used first prev sparse rs ps = go (measure_at id s at.0 end.0 version first prev) refl (ran n (i + 1))
    where
      go : (m : Result Measured Unspelled) → measure_at id s at.0 end.0 version first prev ≡ m
          → ((at' : FileAt) (used' : PathAt) (first' : Bool) (prev' : ℕ) (sparse' : Bool) (rs' ps' : List ℕ) → Ran id s end version n (i + 1) at' used' first' prev' sparse' rs' ps' (run id s end version n (i + 1) at' used' first' prev' sparse' rs' ps'))
          → Ran id s end version (suc n) i at used first prev sparse rs ps
          (on_measured m (outcome (Err (NotSpelled i)) rs ps)
          (λ flags keep suffix len next.
          pick (leb (records_in rs) i) (outcome (Err (NoRoom i)) rs ps)
          (pick (ltb (length ps - used.0) (keep + len)) (outcome (Err (NoRoom i)) rs ps)
          (run id s end version n (i + 1) next (path_at (used.0 + (keep + len))) false (keep + len) (marked s at.0 sparse) (put_record id s at.0 flags used.0 (used.0 + (keep + len)) rs i)
          (paste ps used.0 (path_of s ps keep suffix.0 len prev used.0) (keep + len))))))
      go (Err Short) e ih = unspelled
      go (Err Fault) e ih = unspelled
      go (Ok m) e ih =
          room_turn m.flags m.keep m.suffix m.len m.next e (at_most? (records_in rs) i) (less? (length ps - used.0) (m.keep + m.len))
          (ih m.next (path_at (used.0 + (m.keep + m.len))) false (m.keep + m.len) (marked s at.0 sparse) (put_record id s at.0 m.flags used.0 (used.0 + (m.keep + m.len)) rs i)
          (paste ps used.0 (path_of s ps m.keep m.suffix.0 m.len prev used.0) (m.keep + m.len)))

-- how far a run came: the number of the first entry that is not stored
abbrev pub reached : ℕ → ℕ → Result Done EntriesError → ℕ
reached n i (Ok d) = i + n
reached n i (Err (NotSpelled k)) = k
reached n i (Err (NoRoom k)) = k

take-before : (j : ℕ) (d : List ℕ) (to : ℕ) (x : List ℕ) (n : ℕ) → j ≤ to → to ≤ length d → take j (paste d to x n) ≡ take j d
take-before j d to x n h k =
    ap (take j) (append_assoc (take to d) (take n x) (drop (to + n) d))
    ∙ take-append-le j (take to d) (take n x ++ drop (to + n) d) (omega (arith, length-take-le to d k))
    ∙ take-take j to d h

-- what one stored entry does to the stores
record Turn (id : ℕ) (s rs ps rs' ps' : List ℕ) (end : FileAt) (at : FileAt) (used prev keep len : ℕ) (next : FileAt) : Type 0 where
  records : length rs' ≡ length rs
  paths : length ps' ≡ length ps
  ends : used + (keep + len) ≤ length ps
  front : at.0 + (40 + id) ≤ length s
  forth : at.0 < next.0
  stops : next.0 ≤ end.0

module _ (id : ℕ) (hid : id ≤ 32) (s : List ℕ) (end : FileAt) (version : ℕ) where
  turn : (i : ℕ) (at : FileAt) (used : ℕ) (first : Bool) (prev : ℕ) (rs ps : List ℕ) (flags keep : ℕ) (suffix : FileAt) (len : ℕ) (next : FileAt) → measure_at id s at.0 end.0 version first prev ≡ Ok (measured_as flags keep suffix len next)
      → prev ≤ used → used ≤ length ps → keep + len ≤ length ps - used
      → Turn id s rs ps (put_record id s at.0 flags used (used + (keep + len)) rs i) (paste ps used (path_of s ps keep suffix.0 len prev used) (keep + len)) end at used prev keep len next
  unfolding path_of
  turn i at used first prev rs ps flags keep suffix len next e hp hu h =
      let a : Inside id s at.0 end.0 prev keep suffix len next = measured_inside id s at.0 end.0 version first prev flags keep suffix len next (measure_at id s at.0 end.0 version first prev) refl e in
      let x : List ℕ = take keep (drop (used - prev) ps) in
      let y : List ℕ = take len (drop suffix.0 s) in
      let lx : length x ≡ keep = length_part keep (used - prev) ps (omega arith) in
      let ly : length y ≡ len = length_part len suffix.0 s (omega arith) in
      let l : length (x ++ y) ≡ keep + len = length-append x y ∙ omega arith in
      record {
        records = kept_length id s at.0 flags used (used + (keep + len)) rs i hid;
        paths = length-paste ps used (x ++ y) (keep + len) (omega arith) (omega arith);
        ends = omega arith;
        front = omega arith;
        forth = omega arith;
        stops = a.stops;
      }

  -- both stores keep their lengths
  pub record Lengths (rs ps : List ℕ) (o : Outcome) : Type 0 where
    pub records : length o.records ≡ length rs
    pub paths : length o.paths ≡ length ps

  pub lengths_kept : {n i : ℕ} {at : FileAt} {used : PathAt} {first : Bool} {prev : ℕ} {sparse : Bool} {rs ps : List ℕ} {o : Outcome} → Ran id s end version n i at used first prev sparse rs ps o → prev ≤ used.0 → used.0 ≤ length ps → Lengths rs ps o
  lengths_kept done hp hu = record { records = refl; paths = refl }
  lengths_kept unspelled hp hu = record { records = refl; paths = refl }
  lengths_kept full hp hu = record { records = refl; paths = refl }
  lengths_kept (stored {i = i} {at = at} {used = used} {first = first} {prev = prev} {rs = rs} {ps = ps} flags keep suffix len next e hi h r) hp hu =
      let t = turn i at used.0 first prev rs ps flags keep suffix len next e hp hu h in
      let l = lengths_kept r (omega arith) (omega (arith, t.paths, t.ends)) in
      record { records = l.records ∙ t.records; paths = l.paths ∙ t.paths }

  -- where a run that is done came to
  pub record Reaches (n i at used : ℕ) (rs ps : List ℕ) (next used' : ℕ) : Type 0 where
    pub forth : at ≤ next
    pub stops : at ≤ end.0 → next ≤ end.0
    pub grows : used ≤ used'
    pub within : used' ≤ length ps
    pub slots : (n ≡ 0) ⊎ (i + n ≤ records_in rs)

  pub done_reaches : {n i : ℕ} {at : FileAt} {used : PathAt} {first : Bool} {prev : ℕ} {sparse : Bool} {rs ps : List ℕ} {o : Outcome} → Ran id s end version n i at used first prev sparse rs ps o → prev ≤ used.0 → used.0 ≤ length ps
      → (next : FileAt) (used' : PathAt) (sparse' : Bool) → o.answer ≡ Ok (done_at next used' sparse') → Reaches n i at.0 used.0 rs ps next.0 used'.0
  done_reaches (done {at = at} {used = used}) hp hu next used' sparse' q =
      let parts = done_same q in
      let a : at.0 ≡ next.0 = ap (λ (y : FileAt). y.0) parts.next in
      let b : used.0 ≡ used'.0 = ap (λ (y : PathAt). y.0) parts.used in
      record { forth = omega arith; stops = λ h. omega arith; grows = omega arith; within = omega arith; slots = inl refl }
  done_reaches unspelled hp hu next used' sparse' q = let z : ◌≡◌ {A = ℕ} 0 1 = cc in absurd (omega arith)
  done_reaches full hp hu next used' sparse' q = let z : ◌≡◌ {A = ℕ} 0 1 = cc in absurd (omega arith)
  done_reaches (stored {n = n} {i = i} {at = at} {used = used} {first = first} {prev = prev} {rs = rs} {ps = ps} flags keep suffix len mid e hi h r) hp hu next used' sparse' q =
      let t = turn i at used.0 first prev rs ps flags keep suffix len mid e hp hu h in
      let l = done_reaches r (omega arith) (omega (arith, t.paths, t.ends)) next used' sparse' q in
      record {
        forth = omega (arith, t.forth, l.forth);
        stops = λ k. l.stops t.stops;
        grows = omega (arith, l.grows);
        within = omega (arith, l.within, t.paths);
        slots = inr (⊎_elim (λ z. omega arith) (λ z. omega (arith, t.records)) l.slots);
      }

  -- the records and the path bytes that stand before a run are as they were
  pub before_kept : {n i : ℕ} {at : FileAt} {used : PathAt} {first : Bool} {prev : ℕ} {sparse : Bool} {rs ps : List ℕ} {o : Outcome} → Ran id s end version n i at used first prev sparse rs ps o → prev ≤ used.0 → used.0 ≤ length ps
      → (j u : ℕ) → j ≤ i * 96 → u ≤ used.0 → (take j o.records ≡ take j rs) × (take u o.paths ≡ take u ps)
  before_kept done hp hu j u hj hk = (refl, refl)
  before_kept unspelled hp hu j u hj hk = (refl, refl)
  before_kept full hp hu j u hj hk = (refl, refl)
  before_kept (stored {i = i} {at = at} {used = used} {first = first} {prev = prev} {rs = rs} {ps = ps} flags keep suffix len next e hi h r) hp hu j u hj hk =
      let t = turn i at used.0 first prev rs ps flags keep suffix len next e hp hu h in
      let l = before_kept r (omega arith) (omega (arith, t.paths, t.ends)) j u (omega arith) (omega arith) in
      let p = put_is_paste id s at.0 flags used.0 (used.0 + (keep + len)) rs i t.front (omega arith) in (
        l.0 ∙ ap (take j) p ∙ take-before j rs (i * 96) (record_of id s at.0 flags used.0 (used.0 + (keep + len))) 96 hj (omega arith),
        l.1 ∙ take-before u ps used.0 (path_of s ps keep suffix.0 len prev used.0) (keep + len) hk (omega arith),
      )

  -- whether a record's path lies in the store depends on the store's length alone
  inside_length : (rs ps ps' : List ℕ) (j : ℕ) → length ps' ≡ length ps → lies_inside rs (lying_in ps') j ≡ lies_inside rs (lying_in ps) j
  unfolding lies_inside
  inside_length rs ps ps' j e = rw e

  -- it stays so for the records before a run
  pub inside_kept : {n i : ℕ} {at : FileAt} {used : PathAt} {first : Bool} {prev : ℕ} {sparse : Bool} {rs ps : List ℕ} {o : Outcome} → Ran id s end version n i at used first prev sparse rs ps o → prev ≤ used.0 → used.0 ≤ length ps
      → (j : ℕ) → j < i → lies_inside o.records (lying_in o.paths) j ≡ lies_inside rs (lying_in ps) j
  inside_kept done hp hu j hj = refl
  inside_kept unspelled hp hu j hj = refl
  inside_kept full hp hu j hj = refl
  inside_kept (stored {i = i} {at = at} {used = used} {first = first} {prev = prev} {rs = rs} {ps = ps} flags keep suffix len next e hi h r) hp hu j hj =
      let t = turn i at used.0 first prev rs ps flags keep suffix len next e hp hu h in
      let ps' : List ℕ = paste ps used.0 (path_of s ps keep suffix.0 len prev used.0) (keep + len) in
      inside_kept r (omega arith) (omega (arith, t.paths, t.ends)) j (omega arith)
      ∙ kept_inside id s at.0 flags used.0 (used.0 + (keep + len)) rs i hid j (inl hj) (lying_in ps')
      ∙ inside_length rs ps ps' j t.paths

  -- and the path of each record that a run read lies in the path store
  pub inside_read : {n i : ℕ} {at : FileAt} {used : PathAt} {first : Bool} {prev : ℕ} {sparse : Bool} {rs ps : List ℕ} {o : Outcome} → Ran id s end version n i at used first prev sparse rs ps o → prev ≤ used.0 → used.0 ≤ length ps → length ps < 2 ^ 64
      → (j : ℕ) → i ≤ j → j < reached n i o.answer → lies_inside o.records (lying_in o.paths) j ≡ true
  inside_read done hp hu hl j a b = absurd (omega arith)
  inside_read unspelled hp hu hl j a b = absurd (omega arith)
  inside_read full hp hu hl j a b = absurd (omega arith)
  inside_read (stored {n = n} {i = i} {at = at} {used = used} {first = first} {prev = prev} {rs = rs} {ps = ps} {o = o} flags keep suffix len next e hi h r) hp hu hl j a b =
      let t = turn i at used.0 first prev rs ps flags keep suffix len next e hp hu h in
      let stop : ℕ = used.0 + (keep + len) in
      let rs' : List ℕ = put_record id s at.0 flags used.0 stop rs i in
      let ps' : List ℕ = paste ps used.0 (path_of s ps keep suffix.0 len prev used.0) (keep + len) in
      let here : lies_inside rs' (lying_in ps') i ≡ true = put_inside id s at.0 flags used.0 stop rs i hid t.front hi ps' (omega arith) (omega (arith, t.paths, t.ends)) (omega (arith, t.ends)) in
      ⊎_elim
      (λ l. inside_read r (omega arith) (omega (arith, t.paths, t.ends)) (omega (arith, t.paths)) j (omega arith) (next_reached o.answer b))
      (λ l.
      let q : j ≡ i = omega arith in
      rw q (inside_kept r (omega arith) (omega (arith, t.paths, t.ends)) i (omega arith) ∙ here))
      (lt_or_ge i j)
    where
      next_reached : (x : Result Done EntriesError) → j < reached (suc n) i x → j < reached n (i + 1) x
      next_reached (Ok d) k = omega arith
      next_reached (Err (NotSpelled y)) k = k
      next_reached (Err (NoRoom y)) k = k

-- ---- a run whose caller says what is so

pub least_left : (a b : ℕ) → a ≤ b → a ≡ min a b
least_left a b h = omega arith

module _ (id : ℕ) (s : List ℕ) (end : FileAt) (version n i : ℕ) (at : FileAt) (before : Start) (rs ps : List ℕ) where
  pub read_is_run : before.used.0 ≤ length ps → unwrap_or before.path 0 ≤ before.used.0 → read_entries id s end version n i at before rs ps ≡ run id s end version n i at before.used (is_none before.path) (unwrap_or before.path 0) false rs ps
  unfolding read_entries
  read_is_run h k = rw (← (least_left before.used.0 (length ps) h), ← (least_left (unwrap_or before.path 0) before.used.0 k))
