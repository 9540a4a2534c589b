-- The entries as they are written (01, Writing, and entry/write.rs), over the length of an id: what is wrong with a record, its bytes, and those of the whole table,
-- one record after the other. The path written before a record is at hand in both; versions 2 and 3 do not look at it. Then the two passes over the table: how long
-- the entries are, and how they are put into an output of any length. Assumes nothing.
use Rattle.std.specs.Prelude.{ℕ, zero, suc, ◌+◌, ◌-◌, ◌*◌, ◌/◌, ◌%◌, Bool, true, false, List, [], ◌++◌, ltb, leb, length, take, drop, replicate, Err, Ok, Result}
use Rattle.laws.specs.Pick.{pick}
use Rattle.laws.specs.Put.{put}
use Rattle.wire.specs.BigEndian.{bytes_of}
use Rattle.sums.specs.Cap.{cap}
use Rattle.format.specs.Format.{header_size, long_path}
use Rattle.entry.specs.Flags.{bit, extended, removed, to_storage, extended_to_storage}
use Rattle.entry.specs.Layout.{record_size}
use Rattle.entry.specs.Paths.{Paths}
use Rattle.entry.specs.Record.{records_in, flags_at, lies_inside, path_at}
use Rattle.write_entries.specs.Made.{outside_at, sized_as}
use Rattle.write_entries.specs.declared.Outside.{Outside}
use Rattle.write_entries.specs.declared.Sized.{Sized}

-- ---- one record

-- a record marked REMOVE is skipped
abbrev pub is_gone : List ℕ → ℕ → Bool
is_gone rs i = bit removed (flags_at rs i)

-- whether its path does not lie in the store: refusal 12
unfoldable pub fault_of : List ℕ → Paths → List ℕ → ℕ → Bool
fault_of rs ps before i = pick (is_gone rs i) false (pick (lies_inside rs ps i) false true)

unfoldable pub stated : ℕ → ℕ
stated n = pick (ltb n long_path) n long_path

-- how many bytes stand before the path: ten fields, the id, the flags and, under EXTENDED, 16 bits more
unfoldable pub fixed_of : ℕ → ℕ → ℕ
fixed_of id flags = pick (bit extended flags) (44 + id) (42 + id)

-- the fields and the id as they stand in record i, the mode too
unfoldable pub front_at : ℕ → List ℕ → ℕ → List ℕ
front_at id rs i = take (40 + id) (drop (i * record_size) rs)

-- the flags, for a path of so many bytes, and under EXTENDED 16 bits more
unfoldable pub flag_bytes : ℕ → ℕ → List ℕ
flag_bytes flags len = bytes_of 2 (to_storage flags + stated len) ++ pick (bit extended flags) (bytes_of 2 (extended_to_storage flags)) []

-- NULs behind the path, at least one, up to a multiple of 8 bytes
abbrev pub pad_of : ℕ → ℕ → ℕ
pad_of fixed len = 8 - (fixed + len) % 8

abbrev pub whole_of : ℕ → ℕ → ℕ
whole_of fixed len = (fixed + len + 8) / 8 * 8

-- the entry of record i, whose path is p
unfoldable pub entry_of : ℕ → List ℕ → ℕ → List ℕ → List ℕ
entry_of id rs i p = ((front_at id rs i ++ flag_bytes (flags_at rs i) (length p)) ++ p) ++ replicate (pad_of (fixed_of id (flags_at rs i)) (length p)) 0

-- what is written of record i
unfoldable pub record_bytes : ℕ → List ℕ → Paths → List ℕ → ℕ → List ℕ
record_bytes id rs ps before i = pick (is_gone rs i) [] (entry_of id rs i (path_at rs ps i))

-- ---- the table

-- the path written before record i
unfoldable pub before_at : List ℕ → Paths → ℕ → List ℕ
before_at rs ps zero = []
before_at rs ps (suc i) = pick (is_gone rs i) (before_at rs ps i) (path_at rs ps i)

-- what is wrong with record i of the table, and what is written of it
abbrev pub fault_at : List ℕ → Paths → ℕ → Bool
fault_at rs ps i = fault_of rs ps (before_at rs ps i) i

abbrev pub bytes_at : ℕ → List ℕ → Paths → ℕ → List ℕ
bytes_at id rs ps i = record_bytes id rs ps (before_at rs ps i) i

-- n records from i on
unfoldable pub entries_bytes : ℕ → List ℕ → Paths → ℕ → ℕ → List ℕ
entries_bytes id rs ps zero i = []
entries_bytes id rs ps (suc n) i = bytes_at id rs ps i ++ entries_bytes id rs ps n (i + 1)

-- how many of them are written
unfoldable pub kept_of : List ℕ → ℕ → ℕ
kept_of rs i = pick (is_gone rs i) 0 1

unfoldable pub count_of : List ℕ → ℕ → ℕ → ℕ
count_of rs zero i = 0
count_of rs (suc n) i = kept_of rs i + count_of rs n (i + 1)

-- whether one of them has EXTENDED, also one that is not written
unfoldable pub any_extended : List ℕ → ℕ → ℕ → Bool
any_extended rs zero i = false
any_extended rs (suc n) i = pick (bit extended (flags_at rs i)) true (any_extended rs n (i + 1))

-- the version so far, after one more record
unfoldable pub version_with : ℕ → ℕ → ℕ
version_with flags version = pick (bit extended flags) 3 version

-- the first of them with a fault
pub data First : Type 0 where
  found : ℕ → First
  nowhere : First

unfoldable pub first_fault : List ℕ → Paths → ℕ → ℕ → First
first_fault rs ps zero i = nowhere
first_fault rs ps (suc n) i = pick (fault_at rs ps i) (found i) (first_fault rs ps n (i + 1))

abbrev pub on_first : {A : Type 0} → First → (ℕ → A) → A → A
on_first (found i) f x = f i
on_first nowhere f x = x

-- ---- the sizing pass, record by record

unfoldable pub size_run : ℕ → List ℕ → Paths → ℕ → ℕ → ℕ → ℕ → ℕ → Result Sized Outside
size_run id rs ps zero i version count size = Ok (sized_as version count size)
size_run id rs ps (suc n) i version count size =
    pick (fault_at rs ps i) (Err (outside_at i))
    (size_run id rs ps n (i + 1) (version_with (flags_at rs i) version) (count + kept_of rs i) (cap (size + length (bytes_at id rs ps i))))

abbrev pub size_table : ℕ → List ℕ → Paths → Result Sized Outside
size_table id rs ps = size_run id rs ps (records_in rs) 0 2 0 header_size

abbrev pub table_bytes : ℕ → List ℕ → Paths → List ℕ
table_bytes id rs ps = entries_bytes id rs ps (records_in rs) 0

-- ---- the filling pass, record by record

-- bytes put where they fit, and where they end; nothing is put, and the place stays, where they do not
unfoldable pub put_one : ℕ → List ℕ → List ℕ → ℕ × List ℕ
put_one at out bytes = pick (leb (at + length bytes) (length out)) (at + length bytes, put out at bytes) (at, out)

-- n records from i on, each put where the one before ends
unfoldable pub put_entries : ℕ → List ℕ → Paths → ℕ → ℕ → ℕ → List ℕ → ℕ × List ℕ
put_entries id rs ps zero i at out = (at, out)
put_entries id rs ps (suc n) i at out = put_entries id rs ps n (i + 1) (put_one at out (bytes_at id rs ps i)).0 (put_one at out (bytes_at id rs ps i)).1

abbrev pub put_table : ℕ → List ℕ → Paths → ℕ → List ℕ → ℕ × List ℕ
put_table id rs ps at out = put_entries id rs ps (records_in rs) 0 at out
