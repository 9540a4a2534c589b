-- That the premises of demand 2 can be met: a table of two records, one of them marked REMOVE, and a tree of one node, written with TREE and `sdir`; and what the claims say of it.
-- Assumes nothing.
use Rattle.std.specs.Prelude.{ℕ, zero, suc, ◌≡◌, refl, true, false, List, [], ◌∷◌, ◌++◌, replicate, Ok}
use Rattle.std.proofs.Common.{arith, lit≤, lit<}
use Rattle.slices.specs.Bytes.{nul_in, nul_at}
use Rattle.wire.specs.BigEndian.{be_at, bytes_of}
use Rattle.wire.specs.Written.{digits_by, digits_of}
use Rattle.kind.specs.Sha1.{sha1_kind}
use Rattle.format.specs.Format.{depth_limit, id_size}
use Rattle.entry.specs.Paths.{Paths, lying_in}
use Rattle.entry.specs.Record.{field_at, lies_inside, path_at}
use Rattle.node.specs.Store.{word_at, id_at, is_part, part_of, name_inside, name_at}
use Rattle.siblings.specs.Siblings.{any_in, twin, repeats, siblings_differ}
use Rattle.tree_write.specs.Tree.{count_bytes, front_bytes, number_bytes, id_bytes, head_bytes, better, best_run, next_kid, kids, each, node_bytes}
use Rattle.proper.specs.Proper.{parent_fits, count_fits, holds_none, name_fits, climbs, node_fits, child_count, kids_fit, all_in, is_proper}
use Rattle.grammar.specs.Entry.NoNul.{empty, byte}
use Rattle.claims_entries.specs.Rendering.{paths_bytes}
use Rattle.claims_extension.specs.Words.{all_bytes, bytes_if}
use Rattle.file.specs.Read.{Outcome as ReadOutcome}
use Rattle.claims.specs.Premises.{Slices}
use Rattle.write.specs.declared.Options.{Options}
use Rattle.write_entries.specs.Entries.{fault_of, stated, fixed_of, front_at, flag_bytes, entry_of, record_bytes, entries_bytes, kept_of, count_of, any_extended, first_fault}
use Rattle.write.specs.File.{header_of, extension_head, contents, eoie_part, trailer_of, front_of, extensions_of, body_of, closed_of, file_of, writes_tree, has_eoie, tree_fits, body_bytes, file_bytes, Outcome, write_file, write_all}
use Rattle.claims_write.specs.Meaning.{kept_from, WritableTable, SameEntry}
use Rattle.claims_write.specs.Claims.{Roomy, reading, bytes, written_reads_back, writable_ends}
use Rattle.write.specs.Made.{written_with}

-- ---- the table

-- a file "a" of mode octal 100644, and a record marked REMOVE
abbrev records : List ℕ
records =
    (replicate 24 0 ++ (0 ∷ 0 ∷ 129 ∷ 164 ∷ []) ++ replicate 12 0 ++ replicate 20 7 ++ replicate 31 0 ++ (1 ∷ 0 ∷ 0 ∷ 0 ∷ 0 ∷ []))
    ++ (replicate 72 0 ++ (0 ∷ 2 ∷ 0 ∷ 0 ∷ []) ++ replicate 20 0)

abbrev paths : Paths
paths = lying_in (97 ∷ [])

-- a root that covers one entry
abbrev nodes : List ℕ
nodes = replicate 16 0 ++ (0 ∷ 0 ∷ 0 ∷ 0 ∷ 0 ∷ 0 ∷ 0 ∷ 1 ∷ []) ++ replicate 8 0 ++ replicate 8 255 ++ replicate 32 5

abbrev options : Options
options = record { tree = true; cache = true; eoie = false; sparse = true; unhashed = true }

-- ---- it is written: version 2, 137 bytes

unfoldable writing : Outcome
unfolding nul_in nul_at be_at bytes_of digits_by digits_of field_at lies_inside path_at word_at id_at is_part part_of name_inside name_at any_in twin repeats siblings_differ count_bytes front_bytes number_bytes id_bytes head_bytes better best_run next_kid kids each node_bytes parent_fits count_fits holds_none name_fits climbs node_fits child_count kids_fit all_in is_proper fault_of stated fixed_of front_at flag_bytes entry_of record_bytes entries_bytes kept_of count_of any_extended first_fault header_of extension_head contents eoie_part trailer_of front_of extensions_of body_of closed_of file_of writes_tree has_eoie tree_fits body_bytes file_bytes write_file write_all
writing = write_all sha1_kind depth_limit records paths nodes [] options (replicate 140 9)

pub is_written : (write_all sha1_kind depth_limit records paths nodes [] options (replicate 140 9)).answer ≡ Ok (written_with 2 137)
unfolding writing
is_written = refl

-- ---- the premises hold

pub writable : WritableTable records paths
unfolding be_at field_at lies_inside path_at
writable zero h stays = record { path = λ q. byte (lit< tt) empty; mode = refl; marks = λ e. refl }
writable (suc zero) h stays = let z : ◌≡◌ {A = ℕ} 0 1 = cc in absurd (omega arith)
writable (suc (suc i)) h stays = absurd (omega arith)

roomy : Roomy sha1_kind records paths nodes options (replicate 96 9) (9 ∷ []) (replicate 72 9)
unfolding be_at field_at lies_inside path_at kept_from paths_bytes
roomy = record { records = lit≤ tt; paths = lit≤ tt; nodes = λ e. lit≤ tt }

-- the file, and what the reader makes of it with stores that are just large enough
abbrev file : List ℕ
file = bytes sha1_kind records paths nodes [] options (replicate 140 9) 2 137 is_written (lit< tt) (writable_ends records paths writable) (replicate 96 9) (9 ∷ []) (replicate 72 9)

abbrev outcome : ReadOutcome
outcome = reading sha1_kind records paths nodes [] options (replicate 140 9) 2 137 is_written (lit< tt) (writable_ends records paths writable) (replicate 96 9) (9 ∷ []) (replicate 72 9)

slices : Slices file (9 ∷ []) (replicate 72 9)
unfolding writing all_bytes
slices = record { bytes = bytes_if file refl; file = lit< tt; paths = lit< tt; nodes = lit< tt }

-- so the claims speak of it: record 0 reads back
pub reads_back : SameEntry id_size records paths 0 outcome.records (lying_in outcome.paths) 0
unfolding be_at field_at kept_from
reads_back = written_reads_back sha1_kind records paths nodes [] options (replicate 140 9) 2 137 is_written (lit< tt) (writable_ends records paths writable) (replicate 96 9) (9 ∷ []) (replicate 72 9) slices roomy writable 0 0 refl
