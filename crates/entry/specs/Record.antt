-- A record's bytes, over the length of an id, and a record put into its table (01, How an entry is spelled: "A record holds all fields above and its path's start
-- and end"). Assumes nothing.
use Rattle.std.specs.Prelude.{ℕ, ◌+◌, ◌-◌, ◌*◌, ◌/◌, Bool, false, List, [], ◌++◌, length, take, drop, replicate, leb, ltb}
use Rattle.std.proofs.Math.Seq.{paste}
use Rattle.laws.specs.Pick.{pick}
use Rattle.wire.specs.BigEndian.{be_at, bytes_of}
use Rattle.format.specs.Format.{id_room}
use Rattle.entry.specs.Flags.{stage_raw}
use Rattle.entry.specs.Layout.{record_size, mode_place, uid_place, id_place, flags_place, start_place, end_place}
use Rattle.entry.specs.Paths.{Paths}
use Rattle.entry.specs.Mode.{mode_in}

-- how many records a table has: bytes behind the last whole record are none
abbrev pub records_in : List ℕ → ℕ
records_in rs = length rs / record_size

-- the fields and the id of the entry at `at`: 40 + id bytes, as in the file but for the mode
unfoldable pub front_of : ℕ → List ℕ → ℕ → List ℕ
front_of id s at = take mode_place (drop at s) ++ bytes_of 4 (mode_in s at) ++ take (id_place - uid_place + id) (drop (at + uid_place) s)

-- zeros up to 72, flags, the path's start and end, four zeros
unfoldable pub rest_of : ℕ → ℕ → ℕ → ℕ → List ℕ
rest_of id flags start end = replicate (id_room - id) 0 ++ bytes_of 4 flags ++ bytes_of 8 start ++ bytes_of 8 end ++ replicate 4 0

unfoldable pub record_of : ℕ → List ℕ → ℕ → ℕ → ℕ → ℕ → List ℕ
record_of id s at flags start end = front_of id s at ++ rest_of id flags start end

-- the table with record i put; as it was where the entry's bytes or the record are not there
unfoldable pub put_record : ℕ → List ℕ → ℕ → ℕ → ℕ → ℕ → List ℕ → ℕ → List ℕ
put_record id s at flags start end rs i =
    pick (leb (at + (id_place + id)) (length s))
    (pick (ltb i (records_in rs)) (paste rs (i * record_size) (record_of id s at flags start end) record_size) rs)
    rs

-- ---- what a table's record holds

-- the number of w bytes at k of record i; 0 behind the last record
unfoldable pub field_at : ℕ → ℕ → List ℕ → ℕ → ℕ
field_at w k rs i = pick (ltb i (records_in rs)) (be_at w rs (i * record_size + k)) 0

abbrev pub mode_at : List ℕ → ℕ → ℕ
mode_at = field_at 4 mode_place

abbrev pub flags_at : List ℕ → ℕ → ℕ
flags_at = field_at 4 flags_place

abbrev pub stage_at : List ℕ → ℕ → ℕ
stage_at rs i = stage_raw (flags_at rs i)

-- where its path starts and ends in the path store
abbrev pub start_at : List ℕ → ℕ → ℕ
start_at = field_at 8 start_place

abbrev pub end_at : List ℕ → ℕ → ℕ
end_at = field_at 8 end_place

-- the id, over its length; zeros behind the last record
unfoldable pub id_at : ℕ → List ℕ → ℕ → List ℕ
id_at id rs i = pick (ltb i (records_in rs)) (take id (drop (i * record_size + id_place) rs)) (replicate id 0)

-- whether record i is there and its path lies where paths lie
unfoldable pub lies_inside : List ℕ → Paths → ℕ → Bool
lies_inside rs ps i = pick (ltb i (records_in rs)) (pick (leb (start_at rs i) (end_at rs i)) (leb (end_at rs i) (length ps.store)) false) false

-- the path of record i; empty where it does not lie there
unfoldable pub path_at : List ℕ → Paths → ℕ → List ℕ
path_at rs ps i = pick (lies_inside rs ps i) (take (end_at rs i - start_at rs i) (drop (start_at rs i) ps.store)) []
