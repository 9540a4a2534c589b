-- CALLS OF THE EXPORTED FUNCTIONS, AND WHAT A C PROGRAM GETS: of each the number that is returned, the eight numbers and every lent store, as `Calls` has it of the functions beneath them. Each
-- proof is the hypothesis itself. Assumes nothing.
use Rattle.std.specs.Prelude.{ℕ, ◌-◌, ◌≡◌, List, [], ◌∷◌, length}
use Rattle.wire.specs.Places.{file_at}
use Rattle.format.specs.Format.{depth_limit, header_size, id_size}
use Rattle.sha1_hash.specs.Sha1.{sha1}
use Rattle.kind.specs.Sha1.{sha1_kind}
use Rattle.entry.specs.Paths.{Paths, lying_in}
use Rattle.entry.specs.Record.{id_at}
use Rattle.decode.specs.Bounds.{max_entries}
use Rattle.decode.specs.Entries.{read_entries}
use Rattle.extension.specs.EndOfIndexEntry.{offset_in}
use Rattle.extension.specs.IndexEntryOffsetTable.{table_from, pair_from}
use Rattle.access.specs.Lookup.{lookup_at}
use Rattle.access.specs.Verify.{verify_at}
use Rattle.file.specs.Read.{read_file}
use Rattle.write.specs.File.{write_all}
use Rattle.sparrowpivot.specs.Told.{told}
use Rattle.sparrowpivot.specs.Reading.{begin, tell_read, tell_entries}
use Rattle.sparrowpivot.specs.Writing.{options_from, tell_write}
use Rattle.sparrowpivot.specs.Searching.{tell_found, tell_verified}
use Rattle.sparrowpivot.specs.Extensions.{tell_offset, tell_table, tell_pair, extensions_from}
use Rattle.sparrowpivot.specs.Tables.{tell_record, tell_stat, tell_node, node_id}
use Rattle.sparrowpivot.proofs as sparrowpivot
use Rattle.claims_settled.specs.Calls.{Call}

-- ---- reading

-- of a file and three stores
pub data ReadCall : (s rs ps ns : List ℕ) (code : ℕ) (values rs' ps' ns' : List ℕ) → Type 0 where
  called : (c : Call sparrowpivot.reading.sparrowpivot_read.Kinds.ps sparrowpivot.reading.sparrowpivot_read.Kinds.r sparrowpivot.reading.sparrowpivot_read.Reads.Learnt)
      → ReadCall c.args.0.now c.args.1.0.now c.args.1.1.0.now c.args.1.1.1.0.now c.answer c.left.1.1.1.1.0 c.left.1.0 c.left.1.1.0 c.left.1.1.1.0

pub read_tells : {s rs ps ns values rs' ps' ns' : List ℕ} {code : ℕ} → ReadCall s rs ps ns code values rs' ps' ns'
    → told code values (rs' ∷ ps' ∷ ns' ∷ []) ≡ tell_read (read_file sha1_kind depth_limit s rs ps ns)
read_tells (called c) = c.meets

-- of a file, a version, a count and two stores
pub data EntriesCall : (s : List ℕ) (version count : ℕ) (rs ps : List ℕ) (code : ℕ) (values rs' ps' : List ℕ) → Type 0 where
  called : (c : Call sparrowpivot.reading.sparrowpivot_entries.Kinds.ps sparrowpivot.reading.sparrowpivot_entries.Kinds.r sparrowpivot.reading.sparrowpivot_entries.Reads.Learnt)
      → EntriesCall c.args.0.now c.args.1.0 c.args.1.1.0 c.args.1.1.1.0.now c.args.1.1.1.1.0.now c.answer c.left.1.1.1.1.1.0 c.left.1.1.1.0 c.left.1.1.1.1.0

pub entries_tells : {s rs ps values rs' ps' : List ℕ} {version count code : ℕ} → EntriesCall s version count rs ps code values rs' ps'
    → told code values (rs' ∷ ps' ∷ []) ≡ tell_entries (read_entries id_size s (file_at (length s - id_size)) version count 0 (file_at header_size) begin rs ps)
entries_tells (called c) = c.meets

-- of a file's size, whether and where extensions begin, and a version
pub data MaxEntriesCall : (size from offset version most : ℕ) → Type 0 where
  called : (c : Call sparrowpivot.extensions.sparrowpivot_max_entries.Kinds.ps sparrowpivot.extensions.sparrowpivot_max_entries.Kinds.r sparrowpivot.extensions.sparrowpivot_max_entries.Reads.Learnt)
      → MaxEntriesCall c.args.0 c.args.1.0 c.args.1.1.0 c.args.1.1.1.0 c.answer

pub max_entries_tells : {size from offset version most : ℕ} → MaxEntriesCall size from offset version most
    → most ≡ max_entries size (extensions_from from offset) version id_size
max_entries_tells (called c) = c.meets

-- of bytes
pub data Sha1Call : (bytes out' : List ℕ) → Type 0 where
  called : (c : Call sparrowpivot.sparrowpivot_sha1.Kinds.ps sparrowpivot.sparrowpivot_sha1.Kinds.r sparrowpivot.sparrowpivot_sha1.Reads.Learnt)
      → Sha1Call c.args.0.now c.left.1.0

pub sha1_tells : {bytes out' : List ℕ} → Sha1Call bytes out'
    → out' ≡ sha1 bytes
sha1_tells (called c) = c.meets

-- ---- writing

-- of a record table, a node table, what is asked for and an output
pub data WriteCall : (rs : List ℕ) (ps : Paths) (ns nm : List ℕ) (options : ℕ) (out : List ℕ) (code : ℕ) (values out' : List ℕ) → Type 0 where
  called : (c : Call sparrowpivot.writing.sparrowpivot_write.Kinds.ps sparrowpivot.writing.sparrowpivot_write.Kinds.r sparrowpivot.writing.sparrowpivot_write.Reads.Learnt)
      → WriteCall c.args.0.now (lying_in c.args.1.0.now) c.args.1.1.0.now c.args.1.1.1.0.now c.args.1.1.1.1.0 c.args.1.1.1.1.1.0.now c.answer c.left.1.1.1.1.1.1.0 c.left.1.1.1.1.1.0

pub write_tells : {rs : List ℕ} {ps : Paths} {ns nm out values out' : List ℕ} {options code : ℕ} → WriteCall rs ps ns nm options out code values out'
    → told code values (out' ∷ []) ≡ tell_write (write_all sha1_kind depth_limit rs ps ns nm (options_from options) out)
write_tells (called c) = c.meets

-- ---- extensions

-- of a file
pub data EoieCall : (s : List ℕ) (code : ℕ) (values : List ℕ) → Type 0 where
  called : (c : Call sparrowpivot.extensions.sparrowpivot_eoie.Kinds.ps sparrowpivot.extensions.sparrowpivot_eoie.Kinds.r sparrowpivot.extensions.sparrowpivot_eoie.Reads.Learnt)
      → EoieCall c.args.0.now c.answer c.left.1.0

pub eoie_tells : {s values : List ℕ} {code : ℕ} → EoieCall s code values
    → told code values [] ≡ tell_offset (offset_in sha1_kind s)
eoie_tells (called c) = c.meets

-- of a file and the place where its extensions begin
pub data IeotCountCall : (s : List ℕ) (offset code : ℕ) (values : List ℕ) → Type 0 where
  called : (c : Call sparrowpivot.extensions.sparrowpivot_ieot_count.Kinds.ps sparrowpivot.extensions.sparrowpivot_ieot_count.Kinds.r sparrowpivot.extensions.sparrowpivot_ieot_count.Reads.Learnt)
      → IeotCountCall c.args.0.now c.args.1.0 c.answer c.left.1.1.0

pub ieot_count_tells : {s values : List ℕ} {offset code : ℕ} → IeotCountCall s offset code values
    → told code values [] ≡ tell_table (table_from id_size s offset)
ieot_count_tells (called c) = c.meets

-- and of a pair's number
pub data IeotPairCall : (s : List ℕ) (offset k code : ℕ) (values : List ℕ) → Type 0 where
  called : (c : Call sparrowpivot.extensions.sparrowpivot_ieot_pair.Kinds.ps sparrowpivot.extensions.sparrowpivot_ieot_pair.Kinds.r sparrowpivot.extensions.sparrowpivot_ieot_pair.Reads.Learnt)
      → IeotPairCall c.args.0.now c.args.1.0 c.args.1.1.0 c.answer c.left.1.1.1.0

pub ieot_pair_tells : {s values : List ℕ} {offset k code : ℕ} → IeotPairCall s offset k code values
    → told code values [] ≡ tell_pair (pair_from id_size s offset k)
ieot_pair_tells (called c) = c.meets

-- ---- searching

-- of a record table, a path and a stage
pub data LookupCall : (rs : List ℕ) (ps : Paths) (key : List ℕ) (stage code : ℕ) (values : List ℕ) → Type 0 where
  called : (c : Call sparrowpivot.searching.sparrowpivot_lookup.Kinds.ps sparrowpivot.searching.sparrowpivot_lookup.Kinds.r sparrowpivot.searching.sparrowpivot_lookup.Reads.Learnt)
      → LookupCall c.args.0.now (lying_in c.args.1.0.now) c.args.1.1.0.now c.args.1.1.1.0 c.answer c.left.1.1.1.1.0

pub lookup_tells : {rs : List ℕ} {ps : Paths} {key values : List ℕ} {stage code : ℕ} → LookupCall rs ps key stage code values
    → told code values [] ≡ tell_found (lookup_at rs ps key stage)
lookup_tells (called c) = c.meets

-- of a record table
pub data CheckOrderCall : (rs : List ℕ) (ps : Paths) (code : ℕ) (values : List ℕ) → Type 0 where
  called : (c : Call sparrowpivot.searching.sparrowpivot_check_order.Kinds.ps sparrowpivot.searching.sparrowpivot_check_order.Kinds.r sparrowpivot.searching.sparrowpivot_check_order.Reads.Learnt)
      → CheckOrderCall c.args.0.now (lying_in c.args.1.0.now) c.answer c.left.1.1.0

pub check_order_tells : {rs : List ℕ} {ps : Paths} {values : List ℕ} {code : ℕ} → CheckOrderCall rs ps code values
    → told code values [] ≡ tell_verified (verify_at rs ps)
check_order_tells (called c) = c.meets

-- ---- tables

-- of a record table and a record's index
pub data RecordCall : (rs : List ℕ) (ps : Paths) (i code : ℕ) (values : List ℕ) → Type 0 where
  called : (c : Call sparrowpivot.tables.sparrowpivot_record.Kinds.ps sparrowpivot.tables.sparrowpivot_record.Kinds.r sparrowpivot.tables.sparrowpivot_record.Reads.Learnt)
      → RecordCall c.args.0.now (lying_in c.args.1.0.now) c.args.1.1.0 c.answer c.left.1.1.1.0

pub record_tells : {rs : List ℕ} {ps : Paths} {values : List ℕ} {i code : ℕ} → RecordCall rs ps i code values
    → told code values [] ≡ tell_record rs ps i
record_tells (called c) = c.meets

-- its stat
pub data RecordStatCall : (rs : List ℕ) (i code : ℕ) (values : List ℕ) → Type 0 where
  called : (c : Call sparrowpivot.tables.sparrowpivot_record_stat.Kinds.ps sparrowpivot.tables.sparrowpivot_record_stat.Kinds.r sparrowpivot.tables.sparrowpivot_record_stat.Reads.Learnt)
      → RecordStatCall c.args.0.now c.args.1.0 c.answer c.left.1.1.0

pub record_stat_tells : {rs values : List ℕ} {i code : ℕ} → RecordStatCall rs i code values
    → told code values [] ≡ tell_stat rs i
record_stat_tells (called c) = c.meets

-- its id
pub data RecordIdCall : (rs : List ℕ) (i : ℕ) (out' : List ℕ) → Type 0 where
  called : (c : Call sparrowpivot.tables.sparrowpivot_record_id.Kinds.ps sparrowpivot.tables.sparrowpivot_record_id.Kinds.r sparrowpivot.tables.sparrowpivot_record_id.Reads.Learnt)
      → RecordIdCall c.args.0.now c.args.1.0 c.left.1.1.0

pub record_id_tells : {rs out' : List ℕ} {i : ℕ} → RecordIdCall rs i out'
    → out' ≡ id_at id_size rs i
record_id_tells (called c) = c.meets

-- of a node table and a node's index
pub data NodeCall : (ns : List ℕ) (i code : ℕ) (values : List ℕ) → Type 0 where
  called : (c : Call sparrowpivot.tables.sparrowpivot_node.Kinds.ps sparrowpivot.tables.sparrowpivot_node.Kinds.r sparrowpivot.tables.sparrowpivot_node.Reads.Learnt)
      → NodeCall c.args.0.now c.args.1.0 c.answer c.left.1.1.0

pub node_tells : {ns values : List ℕ} {i code : ℕ} → NodeCall ns i code values
    → told code values [] ≡ tell_node ns i
node_tells (called c) = c.meets

-- its id
pub data NodeIdCall : (ns : List ℕ) (i : ℕ) (out' : List ℕ) → Type 0 where
  called : (c : Call sparrowpivot.tables.sparrowpivot_node_id.Kinds.ps sparrowpivot.tables.sparrowpivot_node_id.Kinds.r sparrowpivot.tables.sparrowpivot_node_id.Reads.Learnt)
      → NodeIdCall c.args.0.now c.args.1.0 c.left.1.1.0

pub node_id_tells : {ns out' : List ℕ} {i : ℕ} → NodeIdCall ns i out'
    → out' ≡ node_id ns i
node_id_tells (called c) = c.meets
