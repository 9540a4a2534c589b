-- What a reading of entries leaves, through the accessors: each record shows its entry's meaning, and its path lies in the path store, so that refusal 12 never arises on it.
-- Assumes that a record has room for an id, that the file is bytes, that the entries' space lies in it, and that the path store can be addressed by 64 bits, each a premise with a name.
use Rattle.std.specs.Prelude.{ℕ, ◌+◌, ◌≤◌, ◌<◌, ◌≡◌, List, Bool, true, take, drop, Ok}
use Rattle.std.proofs.Common.{sym, subst, arith, take-append-drop, get_or-drop}
use Rattle.laws.specs.Read.{Begins}
use Rattle.wire.specs.declared.FileAt.{FileAt}
use Rattle.wire.specs.declared.PathAt.{PathAt}
use Rattle.format.specs.Format.{id_room}
use Rattle.entry.specs.Paths.{lying_in}
use Rattle.entry.specs.Record.{lies_inside}
use Rattle.decode.specs.Entries.{Outcome}
use Rattle.grammar.specs.Entry.{Meaning, start, Entries}
use Rattle.claims_entries.specs.Rendering.{records_bytes, paths_bytes, Bytes}
use Rattle.claims_entries.specs.Said.{entries_space, SpaceIn, reading_of, filled, Fits, SaysRead, says_done, says_not_spelled, says_no_room, IsDone}
use Rattle.claims_entries.proofs.Claims.{answer_says}
use Rattle.claims_entries.proofs.Fields.{bytes_left, spelled_each_fits, spelled_length, rendered_fields, meaning_at_lem}
use Rattle.claims_entries.specs.Shown.{Addressable, EachShown}
use Rattle.decode.specs.Made.{done_at}

-- a part of bytes is bytes
bytes_space : (file : List ℕ) (from end : ℕ) → Bytes file → Bytes (entries_space file from end)
bytes_space file from end h i =
    rw (get_or-drop from (take end file) i 0) (bytes_left (take end file) (drop end file) (subst Bytes (sym (take-append-drop end file)) h) (from + i))

module _ (id : ℕ) (fits : id ≤ id_room) (file : List ℕ) (bytes : Bytes file) (version from end count : ℕ) (lies_in : SpaceIn file from end) (rs ps : List ℕ) (small : Addressable ps) where
  -- k entries that are spelled and have room, whatever the answer
  pub stored_entries_show : (k : ℕ) (ms : List Meaning) (rest : List ℕ) → Begins (Entries id version start k) (entries_space file from end) ms rest → Fits rs ps k ms
      → EachShown id (filled rs (records_bytes id 0 ms)) (lying_in (filled ps (paths_bytes ms))) ms
  stored_entries_show k ms rest (b, e, x) f = rendered_fields id fits rs ps ms (spelled_each_fits x (bytes_left b rest (subst Bytes e (bytes_space file from end bytes)))) (omega (arith, f.paths))

  abbrev reading : Outcome
  reading = reading_of id file version from end count rs ps

  -- what is read is shown
  pub done_shows : IsDone reading.answer → (ms : List Meaning) × (rest : List ℕ) × Begins (Entries id version start count) (entries_space file from end) ms rest × EachShown id reading.records (lying_in reading.paths) ms
  done_shows (next, used, sparse, q) = go (answer_says id fits file bytes version from end count lies_in rs ps) q
    where
      go : {o : Outcome} {next : FileAt} {used : PathAt} {sparse : Bool} → SaysRead id version from (entries_space file from end) count rs ps o → o.answer ≡ Ok (done_at next used sparse)
          → (ms : List Meaning) × (rest : List ℕ) × Begins (Entries id version start count) (entries_space file from end) ms rest × EachShown id o.records (lying_in o.paths) ms
      go (says_done {b = b} {ms = ms} rest i x f) q = (ms, rest, (b, i, x), stored_entries_show count ms rest (b, i, x) f)
      go (says_not_spelled rest h i x f none) q = let z : ◌≡◌ {A = ℕ} 0 1 = cc in absurd (omega arith)
      go (says_no_room rest r h i x f y lacks) q = let z : ◌≡◌ {A = ℕ} 0 1 = cc in absurd (omega arith)

  -- what is read always has its paths in their store
  pub paths_stay_inside : IsDone reading.answer → (i : ℕ) → i < count → lies_inside reading.records (lying_in reading.paths) i ≡ true
  paths_stay_inside d i h =
      let (ms, rest, x, shown) = done_shows d in
      let (m, e) = meaning_at_lem ms i (omega (arith, spelled_length x.2)) in
      (shown i m e).inside
