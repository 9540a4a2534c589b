-- THE MARKED PAGES of 01, the lines with a star under "Marked pages from the file": one statement over one list, in 01's order. A case is what is asked and what 01 says; the definitions
-- that the contracts cite must answer the same, by computation. Assumes nothing.
use Rattle.std.specs.Prelude.{ℕ, ◌+◌, ◌-◌, ◌/◌, ◌%◌, false, List, [], ◌∷◌, ◌++◌, map, ◌≡◌, refl, length, take, drop, replicate, Err, None, Ok, Result, ⊤}
use Rattle.laws.specs.Order as laws
use Rattle.slices.specs.Bytes.{same_bytes, nul_in, nul_at}
use Rattle.wire.specs.BigEndian.{be_at, bytes_of}
use Rattle.wire.specs.Groups.{groups_in, number_at}
use Rattle.format.specs.Format.{depth_limit, id_size}
use Rattle.kind.specs.Sha1.{sha1_kind}
use Rattle.entry.specs.Flags.{extended_to_memory}
use Rattle.entry.specs.Mode.{keep_mode}
use Rattle.entry.specs.Paths.{Paths}
use Rattle.entry.specs.Record.{record_of, front_of, rest_of, field_at, lies_inside, path_at}
use Rattle.measure.specs.Entry.{extended_at, head_with, head_at, whole_of, padded_to, padded_at, kept_of, suffixed_at, compressed_at, measure_at}
use Rattle.decode.specs.Header.{on_version, header_at}
use Rattle.decode.specs.Entries.{run, read_entries}
use Rattle.decode.specs.Bounds.{block_size, min_entry_size, max_entries}
use Rattle.extension.specs.Iter.{step_at, run_by, run_at, last_where}
use Rattle.extension.specs.Decode.{sparse_in, judged, all_at}
use Rattle.access.specs.Verify.{follows_at, verify_from, verify_at}
use Rattle.access.specs.Marked.{row, table, paths}
use Rattle.file.specs.Answer.{number_of}
use Rattle.file.specs.Trailer.{good_trailer}
use Rattle.file.specs.Read.{Outcome, outcome, extensions_into, entries_into, read_file}
use Rattle.access.specs.declared.verify.Error.{Error as VerifyError}
use Rattle.file.specs.Made.{read_with_all}
use Rattle.file.specs.declared.Error.{Error as FileError}
use Rattle.file.specs.declared.Error.TheVariants.{ShortFile}
use Rattle.file.specs.declared.Reading.{Reading}
use Rattle.measure.specs.declared.Measured.{Measured}
use Rattle.measure.specs.declared.Unspelled.{Unspelled}
use Rattle.measure.specs.declared.Unspelled.TheVariants.{Fault, Short}
use Rattle.wire.specs.declared.NumberError.{NumberError}
use Rattle.wire.specs.declared.NumberError.TheVariants.{Cut, Over}

-- ---- what is asked, and what can be said

pub data Asked : Type 0 where
  -- a whole file, with stores of nines lent
  file : List ℕ → Asked
  -- an entry of version 3 with so many path bytes, and what its length field says
  plain : ℕ → ℕ → Asked
  -- the same with EXTENDED, and none of its bits set
  wider : ℕ → ℕ → Asked
  -- a number in groups
  groups : List ℕ → Asked
  -- after a path, a strip and a suffix
  after : List ℕ → ℕ → List ℕ → Asked
  -- the sixteen bits behind EXTENDED
  bits : ℕ → Asked
  -- how many entries there can be in a file of so many bytes
  file_size : ℕ → Asked
  -- whether a record table over a path store is sorted
  order : List ℕ → Paths → Asked

pub data Said : Type 0 where
  -- 01's number, 0 where the file is read; the answer and what the three stores hold
  reads : ℕ → Outcome → Said
  -- the entry's length, and how much of it is padding
  entry : ℕ → ℕ → Said
  number : ℕ → Said
  path : List ℕ → Said
  -- the bits pass, and become these flags of the record
  passes : ℕ → Said
  at_most : ℕ → Said
  checked : Result ⊤ VerifyError → Said
  refuses : Said

-- ---- the definitions' answers

abbrev lent_records : List ℕ
lent_records = replicate 192 9

abbrev lent_paths : List ℕ
lent_paths = replicate 10 9

abbrev lent_nodes : List ℕ
lent_nodes = replicate 100 9

abbrev pub untouched : Result Reading FileError → Outcome
untouched a = outcome a lent_records lent_paths lent_nodes

abbrev numbered : Outcome → Said
numbered o = reads (number_of o.answer) o

-- the fixed part of an entry: forty bytes of numbers, an id, and the flags
abbrev pub fixed : ℕ → List ℕ
fixed flags = replicate 60 1 ++ (flags / 256 ∷ flags % 256 ∷ [])

-- the bytes of each page on an entry
abbrev pub plain_bytes : ℕ → ℕ → List ℕ
plain_bytes n field = fixed field ++ replicate n 97 ++ replicate 8 0

abbrev pub wider_bytes : ℕ → ℕ → List ℕ
wider_bytes n field = fixed (16384 + field) ++ (0 ∷ 0 ∷ []) ++ replicate n 97 ++ replicate 8 0

abbrev pub stripped_bytes : ℕ → List ℕ → List ℕ
stripped_bytes strip suffix = fixed 0 ++ (strip ∷ suffix) ++ (0 ∷ [])

abbrev pub bits_bytes : ℕ → List ℕ
bits_bytes more = fixed 16385 ++ (more / 256 ∷ more % 256 ∷ []) ++ replicate 9 97

-- the measure of the entry that a file of version v is but for its trailer, after a path of so many bytes
abbrev whole : List ℕ → ℕ → ℕ → Result Measured Unspelled
whole s v before = measure_at id_size (s ++ replicate id_size 9) 0 (length s) v false before

abbrev lengths : ℕ → ℕ → Result Measured Unspelled → Said
lengths size n (Ok m) = entry m.next.0 (m.next.0 - size - n)
lengths size n (Err Short) = refuses
lengths size n (Err Fault) = refuses

abbrev value : Result (ℕ × ℕ) NumberError → Said
value (Ok (v, e)) = number v
value (Err (Cut a)) = refuses
value (Err Over) = refuses

abbrev path_of : List ℕ → List ℕ → Result Measured Unspelled → Said
path_of s before (Ok m) = path (take m.keep before ++ take m.len (drop m.suffix.0 s))
path_of s before (Err Short) = refuses
path_of s before (Err Fault) = refuses

abbrev flags_of : Result Measured Unspelled → Said
flags_of (Ok m) = passes m.flags
flags_of (Err Short) = refuses
flags_of (Err Fault) = refuses

pub answer : Asked → Said
answer (file s) = numbered (read_file sha1_kind depth_limit s lent_records lent_paths lent_nodes)
answer (plain n field) = lengths 62 n (whole (plain_bytes n field) 3 0)
answer (wider n field) = lengths 64 n (whole (wider_bytes n field) 3 0)
answer (groups s) = value (number_at s 0 (length s))
answer (after before strip suffix) = path_of (stripped_bytes strip suffix) before (whole (stripped_bytes strip suffix) 4 (length before))
answer (bits more) = flags_of (whole (bits_bytes more) 3 0)
answer (file_size n) = at_most (max_entries n None 2 id_size)
answer (order rs ps) = checked (verify_at rs ps)

-- ---- the pages

pub record Page : Type 0 where
  pub asked : Asked
  pub said : Said

unfoldable pub page : Asked → Said → Page
page q a = record { asked = q; said = a }

-- "DIRC", version 2, count 0, 20 zeros
abbrev pub least_file : List ℕ
least_file = (68 ∷ 73 ∷ 82 ∷ 67 ∷ []) ++ (0 ∷ 0 ∷ 0 ∷ 2 ∷ []) ++ (0 ∷ 0 ∷ 0 ∷ 0 ∷ []) ++ replicate 20 0

-- "exhibit/pair", "exhibit/pear", "ear"
unfoldable pub pair : List ℕ
pair = 101 ∷ 120 ∷ 104 ∷ 105 ∷ 98 ∷ 105 ∷ 116 ∷ 47 ∷ 112 ∷ 97 ∷ 105 ∷ 114 ∷ []

unfoldable pub pear : List ℕ
pear = 101 ∷ 120 ∷ 104 ∷ 105 ∷ 98 ∷ 105 ∷ 116 ∷ 47 ∷ 112 ∷ 101 ∷ 97 ∷ 114 ∷ []

unfoldable pub ear : List ℕ
ear = 101 ∷ 97 ∷ 114 ∷ []

unfoldable pub pages : List Page
pages =
    -- 31 bytes: 1. "DIRC", version 2, count 0, 20 zeros (32 bytes): read, no entries
    page (file (replicate 31 0)) (reads 1 (untouched (Err ShortFile)))
    ∷ page (file least_file) (reads 0 (untouched (Ok (read_with_all 2 false false 0 0 0))))
    -- V3 paths of 1, 2, 9, 10 bytes: entries of 64, 72, 72, 80. With EXTENDED, 7 and 8: 72, 80
    ∷ page (plain 1 1) (entry 64 1)
    ∷ page (plain 2 2) (entry 72 8)
    ∷ page (plain 9 9) (entry 72 1)
    ∷ page (plain 10 10) (entry 80 8)
    ∷ page (wider 7 7) (entry 72 1)
    ∷ page (wider 8 8) (entry 80 8)
    -- Paths of 4094 and 4095: both 4160, padding 4 and 3
    ∷ page (plain 4094 4094) (entry 4160 4)
    ∷ page (plain 4095 4095) (entry 4160 3)
    -- Groups 7F: 127. 80 00: 128. FF 7F: 16511
    ∷ page (groups (0x7f ∷ [])) (number 127)
    ∷ page (groups (0x80 ∷ 0x00 ∷ [])) (number 128)
    ∷ page (groups (0xff ∷ 0x7f ∷ [])) (number 16511)
    -- After "exhibit/pair", strip 3, suffix "ear": "exhibit/pear". Strip 12 keeps nothing; 13 refuses
    ∷ page (after pair 3 ear) (path pear)
    ∷ page (after pair 12 ear) (path ear)
    ∷ page (after pair 13 ear) refuses
    -- Extended bits 0x6000 pass; 0x8000 and 0x0001 refuse. What passes stands beside EXTENDED, bit 14, as bits 29 and 30
    ∷ page (bits 0x6000) (passes 0x6000_4000)
    ∷ page (bits 0x8000) refuses
    ∷ page (bits 0x0001) refuses
    -- File sizes 159, 160: at most 1, 2 entries. 10: 0
    ∷ page (file_size 159) (at_most 1)
    ∷ page (file_size 160) (at_most 2)
    ∷ page (file_size 10) (at_most 0)
    -- "a" stage 0, "a" stage 2, "a.b" stage 0 is sorted
    ∷ page (order table paths) (checked (Ok tt))
    ∷ []

-- THE THEOREM
pub marked_pages : map (λ (p : Page). answer p.asked) pages ≡ map (λ (p : Page). p.said) pages
unfolding pages page pair pear ear answer table row paths record_of front_of rest_of field_at lies_inside path_at keep_mode laws.compared verify_at verify_from follows_at measure_at head_at head_with extended_at extended_to_memory be_at bytes_of padded_at padded_to whole_of nul_at nul_in compressed_at kept_of suffixed_at number_at groups_in max_entries block_size min_entry_size read_file header_at on_version good_trailer same_bytes entries_into read_entries run extensions_into all_at run_at run_by step_at judged sparse_in last_where
marked_pages = refl
