-- A run of entries into two stores, one entry after the other, over the id's length (01, How an entry is spelled; When the desk says no, 5 and 6). Each entry is
-- measured first; then record room and path room are tested; only then is it stored. Assumes nothing.
use Rattle.std.specs.Prelude.{ℕ, zero, suc, ◌+◌, ◌-◌, ◌≤◌, min, Bool, true, false, List, [], ◌∷◌, ◌++◌, length, take, drop, ltb, leb, Err, Ok, Result, is_none, unwrap_or}
use Rattle.std.proofs.Math.Seq.{paste}
use Rattle.laws.specs.Pick.{pick}
use Rattle.wire.specs.Places.{path_at}
use Rattle.wire.specs.declared.FileAt.{FileAt}
use Rattle.wire.specs.declared.PathAt.{PathAt}
use Rattle.refusal.specs.Refusal.{not_spelled, no_entry_room}
use Rattle.refusal.specs.Bit.{bit}
use Rattle.entry.specs.Mode.{dir_at}
use Rattle.entry.specs.Record.{records_in, put_record}
use Rattle.measure.specs.Entry.{measure_at}
use Rattle.decode.specs.declared.entries.Before.{Before}
use Rattle.decode.specs.declared.entries.Stored.{Stored}
use Rattle.decode.specs.declared.entries.Run.{Run}
use Rattle.decode.specs.Made.{done_at}
use Rattle.decode.specs.declared.entries.Done.{Done}
use Rattle.decode.specs.declared.entries.Error.{Error as EntriesError}
use Rattle.decode.specs.declared.entries.Error.TheVariants.{NoRoom, NotSpelled}
use Rattle.measure.specs.declared.Measured.{Measured}
use Rattle.measure.specs.declared.Unspelled.{Unspelled}
use Rattle.measure.specs.declared.Unspelled.TheVariants.{Fault, Short}

-- 01's number of an answer, 0 where nothing is refused, and what goes with it: the place behind the entries, the path bytes in use and whether the index is sparse, or
-- the entry that is refused
abbrev pub number_of : Result Done EntriesError → ℕ
number_of (Ok d) = 0
number_of (Err (NotSpelled k)) = not_spelled
number_of (Err (NoRoom k)) = no_entry_room

abbrev pub carried_of : Result Done EntriesError → List ℕ
carried_of (Ok d) = d.next.0 ∷ d.used.0 ∷ bit d.sparse ∷ []
carried_of (Err (NotSpelled k)) = k ∷ []
carried_of (Err (NoRoom k)) = k ∷ []

-- a path: what is kept of the one before, which ends at `used`, and a part of the file
unfoldable pub path_of : List ℕ → List ℕ → ℕ → ℕ → ℕ → ℕ → ℕ → List ℕ
path_of s ps keep suffix len prev used = take keep (drop (used - prev) ps) ++ take len (drop suffix s)

-- sparse so far, or by the entry at a place
unfoldable pub marked : List ℕ → ℕ → Bool → Bool
marked s at sparse = pick (dir_at s at) true sparse

-- where a path can be stored
pub record Room (s ps : List ℕ) (keep suffix len prev used : ℕ) : Type 0 where
  pub text : suffix + len ≤ length s
  pub keeps : keep ≤ prev
  pub before : prev ≤ used
  pub paths : used + (keep + len) ≤ length ps

-- what reading comes to: the answer, and what the two stores hold
pub record Outcome : Type 0 where
  pub answer : Result Done EntriesError
  pub records : List ℕ
  pub paths : List ℕ

abbrev pub outcome : Result Done EntriesError → List ℕ → List ℕ → Outcome
outcome a rs ps = record { answer = a; records = rs; paths = ps }

abbrev pub on_measured : Result Measured Unspelled → Outcome → (ℕ → ℕ → FileAt → ℕ → FileAt → Outcome) → Outcome
on_measured (Ok m) bad good = good m.flags m.keep m.suffix m.len m.next
on_measured (Err Short) bad good = bad
on_measured (Err Fault) bad good = bad

-- n entries from `at` on, the first of which is number i. So far `used` bytes of the paths are in use; `first` says that no path comes before, and else the last
-- `prev` of these bytes are the path before
unfoldable pub run : ℕ → List ℕ → FileAt → ℕ → ℕ → ℕ → FileAt → PathAt → Bool → ℕ → Bool → List ℕ → List ℕ → Outcome
run id s end version zero i at used first prev sparse rs ps = outcome (Ok (done_at at used sparse)) rs ps
run id s end version (suc n) i at used first prev sparse rs ps =
    on_measured (measure_at id s at.0 end.0 version first prev) (outcome (Err (NotSpelled i)) rs ps)
    (λ flags keep suffix len next.
    pick (leb (records_in rs) i) (outcome (Err (NoRoom i)) rs ps)
    (pick (ltb (length ps - used.0) (keep + len)) (outcome (Err (NoRoom i)) rs ps)
    (run id s end version n (i + 1) next (path_at (used.0 + (keep + len))) false (keep + len) (marked s at.0 sparse)
    (put_record id s at.0 flags used.0 (used.0 + (keep + len)) rs i)
    (paste ps used.0 (path_of s ps keep suffix.0 len prev used.0) (keep + len)))))

-- ---- the same by the code's structs

abbrev pub RoomFor : List ℕ → List ℕ → Stored → Type 0
RoomFor s ps e = Room s ps e.keep e.suffix e.len e.prev e.used

-- what storing an entry leaves in the two stores
abbrev pub with_record : ℕ → List ℕ → Stored → List ℕ → List ℕ
with_record id s e rs = put_record id s e.at e.flags e.used (e.used + (e.keep + e.len)) rs e.index

abbrev pub with_path : List ℕ → Stored → List ℕ → List ℕ
with_path s e ps = paste ps e.used (path_of s ps e.keep e.suffix e.len e.prev e.used) (e.keep + e.len)

abbrev pub run_of : ℕ → List ℕ → Run → Before → List ℕ → List ℕ → Outcome
run_of id s r b rs ps = run id s r.end r.version r.count r.index r.from b.used (is_none b.path) (unwrap_or b.path 0) false rs ps

-- ---- from what a caller says

-- a run whose caller says anything: a place past the path store counts as its end, and a path before that is longer than what is in use counts as all of that
unfoldable pub read_entries : ℕ → List ℕ → FileAt → ℕ → ℕ → ℕ → FileAt → Before → List ℕ → List ℕ → Outcome
read_entries id s end version n i at before rs ps =
    run id s end version n i at (path_at (min before.used.0 (length ps))) (is_none before.path) (min (unwrap_or before.path 0) (min before.used.0 (length ps))) false rs ps
