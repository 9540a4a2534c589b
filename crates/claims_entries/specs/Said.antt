-- What the claims say: the rule of each answer, and the premises, in the grammar's terms, over the length of an id. Of a reader only `read_entries`, which its contract cites,
-- and the outcome are named here (01, "When the desk says no", 5 and 6). Assumes nothing.
use Rattle.std.specs.Prelude.{ℕ, ◌+◌, ◌*◌, ◌≤◌, ◌<◌, ◌≡◌, List, ◌++◌, Bool, false, ◌⊎◌, length, take, drop, Err, None, Ok, Result}
use Rattle.laws.specs.Read.{Begins}
use Rattle.laws.specs.Times.{later}
use Rattle.wire.specs.Places.{file_at, path_at}
use Rattle.wire.specs.declared.FileAt.{FileAt}
use Rattle.wire.specs.declared.PathAt.{PathAt}
use Rattle.entry.specs.Layout.{record_size}
use Rattle.decode.specs.Entries.{Outcome, outcome, read_entries}
use Rattle.decode.specs.declared.entries.Before.{Before as Standing}
use Rattle.grammar.specs.Entry.{Meaning, Before, start, Entry, behind, Entries}
use Rattle.claims_entries.specs.Rendering.{records_bytes, paths_bytes, sparse_by}
use Rattle.decode.specs.Made.{done_at}
use Rattle.decode.specs.declared.entries.Done.{Done}
use Rattle.decode.specs.declared.entries.Error.{Error as EntriesError}
use Rattle.decode.specs.declared.entries.Error.TheVariants.{NoRoom, NotSpelled}

-- the entries' space: from `from` to `end`
abbrev pub entries_space : List ℕ → ℕ → ℕ → List ℕ
entries_space file from end = drop from (take end file)

-- it lies in the file
pub record SpaceIn (file : List ℕ) (from end : ℕ) : Type 0 where
  pub ahead : from ≤ end
  pub inside : end ≤ length file

-- no path comes before, and nothing of the path store is in use
abbrev pub nothing_before : Standing
nothing_before = record { used = path_at 0; path = None }

-- what the reader's contract cites
abbrev pub reading_of : ℕ → List ℕ → ℕ → ℕ → ℕ → ℕ → List ℕ → List ℕ → Outcome
reading_of n file version from end count rs ps = read_entries n file (file_at end) version count 0 (file_at from) nothing_before rs ps

-- a store whose first bytes are x, and the rest as it was
abbrev pub filled : List ℕ → List ℕ → List ℕ
filled store x = x ++ drop (length x) store

-- the path that the entry behind these is spelled in the context of
abbrev pub after : List Meaning → Before
after ms = later behind start ms

-- what both stores hold, and the answer beside them: the records and the paths of these entries in front, and the rest as it was
abbrev pub holding : ℕ → List ℕ → List ℕ → List Meaning → Result Done EntriesError → Outcome
holding n rs ps ms a = outcome a (filled rs (records_bytes n 0 ms)) (filled ps (paths_bytes ms))

-- all entries are read, of which b are the bytes
abbrev pub done_by : ℕ → List ℕ → List Meaning → Result Done EntriesError
done_by from b ms = Ok (done_at (file_at (from + length b)) (path_at (length (paths_bytes ms))) (sparse_by false ms))

-- room for k records and the paths of ms
pub record Fits (rs ps : List ℕ) (k : ℕ) (ms : List Meaning) : Type 0 where
  pub records : k * record_size ≤ length rs
  pub paths : length (paths_bytes ms) ≤ length ps

-- no room for one more, m, behind k records and the paths of ms
abbrev pub Lacks : List ℕ → List ℕ → ℕ → List Meaning → Meaning → Type 0
Lacks rs ps k ms m = (length rs < (k + 1) * record_size) ⊎ (length ps < length (paths_bytes ms) + length m.path)

-- what each answer says, and what the stores hold then: xs is the entries' space, which starts at `from`
pub data SaysRead (n version from : ℕ) (xs : List ℕ) (count : ℕ) (rs ps : List ℕ) : Outcome → Type 0 where
  -- all are spelled
  says_done : {b : List ℕ} {ms : List Meaning} (rest : List ℕ) → xs ≡ b ++ rest → Entries n version start count b ms → Fits rs ps count ms
      → SaysRead n version from xs count rs ps (holding n rs ps ms (done_by from b ms))
  -- the first k are spelled, and what is left begins with none
  says_not_spelled : {k : ℕ} {b : List ℕ} {ms : List Meaning} (rest : List ℕ) → k < count → xs ≡ b ++ rest → Entries n version start k b ms → Fits rs ps k ms
      → ((m : Meaning) (q : List ℕ) → ¬ Begins (Entry n version (after ms)) rest m q)
      → SaysRead n version from xs count rs ps (holding n rs ps ms (Err (NotSpelled k)))
  -- the first k and one more are spelled, and there is no room for that one
  says_no_room : {k : ℕ} {b : List ℕ} {ms : List Meaning} {m : Meaning} (rest q : List ℕ) → k < count → xs ≡ b ++ rest → Entries n version start k b ms → Fits rs ps k ms
      → Begins (Entry n version (after ms)) rest m q → Lacks rs ps k ms m
      → SaysRead n version from xs count rs ps (holding n rs ps ms (Err (NoRoom k)))

-- an answer is Done
abbrev pub IsDone : Result Done EntriesError → Type 0
IsDone a = (next : FileAt) × (used : PathAt) × (sparse : Bool) × (a ≡ Ok (done_at next used sparse))

module _ (n version : ℕ) (xs : List ℕ) (count : ℕ) where
  abbrev pub AllSpelled : Type 0
  AllSpelled = (ms : List Meaning) × (rest : List ℕ) × Begins (Entries n version start count) xs ms rest

  -- the first k are spelled, and what is left begins with no entry
  abbrev pub StopsAt : ℕ → Type 0
  StopsAt k = (k < count) × ((ms : List Meaning) × (rest : List ℕ) × Begins (Entries n version start k) xs ms rest × ((m : Meaning) (q : List ℕ) → ¬ Begins (Entry n version (after ms)) rest m q))

  module _ (rs ps : List ℕ) where
    -- room for the records and path bytes of all entries within the count that come before the first not spelled
    abbrev pub RoomFor : Type 0
    RoomFor = (k : ℕ) (ms : List Meaning) (rest : List ℕ) → k ≤ count → Begins (Entries n version start k) xs ms rest → Fits rs ps k ms

    -- the first k have room, and one more is spelled, which has none
    abbrev pub LacksRoomAt : ℕ → Type 0
    LacksRoomAt k =
        (k < count)
        × ((ms : List Meaning) × (rest : List ℕ) × (m : Meaning) × (q : List ℕ) × Begins (Entries n version start k) xs ms rest × Fits rs ps k ms
        × Begins (Entry n version (after ms)) rest m q × Lacks rs ps k ms m)
