-- WITNESSES against the frauds. Two files that demand 3 speaks of: one entry, the grammar's own example of a path that ends at NUL, and 32 zeros, which the grammar does not spell; tables that
-- may be written, and in how many bytes; and two messages with two digests. Assumes nothing.
use Rattle.std.specs.Prelude.{ℕ, zero, suc, ◌≤◌, ◌<◌, ◌≡◌, refl, true, false, List, [], ◌∷◌, ◌++◌, length, get_or, take, replicate}
use Rattle.std.proofs.Common.{sym, ap, ◌∙◌, subst, arith, lit≤, lit<, length-append}
use Rattle.std.proofs.lemmas.Bool.{false≢true}
use Rattle.std.proofs.Math.Option.{none}
use Rattle.laws.specs.Times.{read_times, done, more}
use Rattle.wire.specs.BigEndian.{be_at, bytes_of}
use Rattle.slices.specs.Bytes.{nul_in, nul_at}
use Rattle.format.specs.Format.{id_size, depth_limit}
use Rattle.sha1_hash.specs.Sha1.{rotl, ch, parity, maj, mix_of, const_of, zeros_of, padding, initial, words_of, next_word, extend, schedule, turn, rounds, added, compress, hash_blocks, digest_of, sha1}
use Rattle.kind.specs.Sha1.{sha1_kind}
use Rattle.entry.specs.Mode.{keep_mode}
use Rattle.entry.specs.Paths.{Paths, lying_in}
use Rattle.entry.specs.Record.{records_in, record_of, front_of, rest_of, field_at, lies_inside, path_at}
use Rattle.node.specs.Store.{word_at, is_part, part_of, name_inside, name_at}
use Rattle.siblings.specs.Siblings.{any_in, twin, repeats, siblings_differ}
use Rattle.proper.specs.Proper.{parent_fits, count_fits, holds_none, name_fits, climbs, node_fits, child_count, kids_fit, all_in, is_proper}
use Rattle.access.specs.Marked.{row, table, paths as store, page_sorted}
use Rattle.grammar.specs.Entry.{Meaning, meaning, start, Entries}
use Rattle.grammar.specs.Entry.NoNul.{empty, byte}
use Rattle.grammar.proofs.Fault.{extensions_length}
use Rattle.grammar.specs.File.{Index, DIRC, File, space}
use Rattle.grammar.proofs.Space.{spelled_has_good_header}
use Rattle.grammar.specs.DecideNumber.{read_bytes, read_big, read_until, decided}
use Rattle.grammar.proofs.DecideEntry.{read_words, read_fields, read_flags, read_to_nul, read_name, read_entry, read_entries, entries_reads}
use Rattle.grammar.proofs.Unique.{entries_unique}
use Rattle.grammar.proofs.Examples.{path_to_nul}
use Rattle.claims_entries.specs.Rendering.{paths_bytes}
use Rattle.claims_entries.specs.Said.{Fits, RoomFor}
use Rattle.claims_extension.specs.Words.{all_bytes, bytes_if}
use Rattle.claims.specs.Premises.{Slices, GoodTrailer, zeros}
use Rattle.claims.specs.Claims.{TreeFits}
use Rattle.claims.specs.Example.{none_last}
use Rattle.write.specs.declared.Options.{Options}
use Rattle.claims_write.specs.Meaning.{kept_from, WritableTable}
use Rattle.claims_write.specs.Tree.{total}
use Rattle.claims_write.specs.ProperTable.{proper_exactly_in_words}
use Rattle.claims_write.specs.Sizes.{digits_within, file_size}
use Rattle.claims_write.specs.Answers.{PathsInside, MayBeWritten}
use Rattle.claims_frauds.specs.Demands.{Readable, Case, LargeEnough}

-- ---- the file: version 2, one entry, path "ab" behind a length field of 4095, no extension, a trailer of zeros

abbrev pub one_entry : List ℕ
one_entry =
    (DIRC ++ (0 ∷ 0 ∷ 0 ∷ 2 ∷ 0 ∷ 0 ∷ 0 ∷ 1 ∷ []))
    ++ ((replicate 24 0 ++ ((255 ∷ 255 ∷ 129 ∷ 164 ∷ []) ++ (replicate 12 0 ++ replicate 20 3)))
    ++ ((15 ∷ 255 ∷ 97 ∷ 98 ∷ 0 ∷ 1 ∷ 2 ∷ 3 ∷ 4 ∷ 5 ∷ 6 ∷ 7 ∷ []) ++ replicate 20 0))

abbrev the_entry : Meaning
the_entry = meaning (record { ctime = 0; ctime_nanos = 0; mtime = 0; mtime_nanos = 0; dev = 0; ino = 0; mode = 0o100644; uid = 0; gid = 0; size = 0 }) (replicate 20 3) 0 (97 ∷ 98 ∷ [])

abbrev pub the_index : Index
the_index = record { version = 2; sparse = false; entries = the_entry ∷ []; tree = none }

pub one_entry_spelled : File id_size one_entry the_index
one_entry_spelled = path_to_nul

-- the stores lent: for one record, two path bytes and one node
abbrev pub records : List ℕ
records = replicate 96 0

abbrev pub paths : List ℕ
paths = replicate 2 0

abbrev pub nodes : List ℕ
nodes = replicate 72 0

-- ---- the premises

slices : Slices one_entry paths nodes
unfolding all_bytes
slices = record { bytes = bytes_if one_entry refl; file = lit< tt; paths = lit< tt; nodes = lit< tt }

good_trailer_lem : GoodTrailer sha1_kind one_entry
good_trailer_lem = zeros refl

-- the entry takes the whole space
all_spelled : Entries id_size 2 start 1 (space id_size one_entry) (the_entry ∷ [])
unfolding read_times read_bytes read_big read_until read_words read_fields read_flags read_to_nul read_name read_entry read_entries
all_spelled = decided (entries_reads id_size 2 start 1) (space id_size one_entry) (the_entry ∷ []) refl

room : RoomFor id_size 2 (space id_size one_entry) 1 records paths
unfolding paths_bytes
room zero ms rest h (b, i, done) = record { records = lit≤ tt; paths = lit≤ tt }
room (suc zero) ms rest h x =
    let (e, f, g) = entries_unique id_size 2 start 1 (space id_size one_entry) ms (the_entry ∷ []) rest [] x (space id_size one_entry, refl, all_spelled) in
    subst (λ (l : List Meaning). Fits records paths 1 l) (sym e) (record { records = lit≤ tt; paths = lit≤ tt })
room (suc (suc k)) ms rest h x = absurd (omega arith)

pub readable : Readable sha1_kind one_entry records paths nodes
readable = record { slices = slices; trailer = good_trailer_lem; room = room }

pub tree_fits_lem : TreeFits sha1_kind one_entry nodes
tree_fits_lem place body x =
    let (e, f, g) = entries_unique id_size 2 start 1 (space id_size one_entry) x.ms (the_entry ∷ []) x.c [] (x.b, x.joins, x.entries) (space id_size one_entry, refl, all_spelled) in
    absurd (none_last x.last (sym (extensions_length x.extensions) ∙ ap length f))

-- ---- 32 zeros: a good trailer, and no header

abbrev pub zeros_alone : List ℕ
zeros_alone = replicate 32 0

-- a count of none asks for no store
no_room_needed : RoomFor id_size 0 (space id_size zeros_alone) 0 [] []
unfolding paths_bytes
no_room_needed k ms rest h (b, i, done) = record { records = lit≤ tt; paths = lit≤ tt }
no_room_needed k ms rest h (b, i, more x y) = absurd (omega arith)

zeros_slices : Slices zeros_alone [] []
unfolding all_bytes
zeros_slices = record { bytes = bytes_if zeros_alone refl; file = lit< tt; paths = lit< tt; nodes = lit< tt }

pub zeros_readable : Readable sha1_kind zeros_alone [] [] []
zeros_readable = record { slices = zeros_slices; trailer = zeros refl; room = no_room_needed }

pub zeros_tree_fits : TreeFits sha1_kind zeros_alone []
zeros_tree_fits place body x =
    let empty : length x.c ≡ 0 = omega (arith, ap length x.joins, length-append x.b x.c) in
    absurd (none_last x.last (sym (extensions_length x.extensions) ∙ empty))

pub zeros_unsigned : ¬ (take 4 zeros_alone ≡ DIRC)
zeros_unsigned e = let z : ◌≡◌ {A = ℕ} 0 1 = cc in omega arith

pub zeros_not_spelled : (m : Index) → ¬ File id_size zeros_alone m
zeros_not_spelled m x = zeros_unsigned (spelled_has_good_header x).signature

-- ---- 01's marked table loses nothing by being written, and three records and five path bytes are room enough for it

pub writable : WritableTable table store
unfolding table row store record_of front_of rest_of field_at lies_inside path_at be_at bytes_of keep_mode
writable zero h stays = record { path = λ q. byte (lit< tt) empty; mode = refl; marks = λ e. refl }
writable (suc zero) h stays = record { path = λ q. byte (lit< tt) empty; mode = refl; marks = λ e. refl }
writable (suc (suc zero)) h stays = record { path = λ q. byte (lit< tt) (byte (lit< tt) (byte (lit< tt) empty)); mode = refl; marks = λ e. refl }
writable (suc (suc (suc i))) h stays = let few : suc (suc (suc i)) < 3 = h in absurd (omega arith)

-- all that is written is the records
abbrev pub plain : Options
plain = record { tree = false; cache = false; eoie = false; sparse = false; unhashed = true }

abbrev pub case : List ℕ → ℕ → ℕ → Case
case out version size =
    record {
      records = table;
      paths = store;
      nodes = [];
      names = [];
      options = plain;
      out = out;
      version = version;
      size = size;
      records' = replicate 288 0;
      paths' = replicate 5 0;
      nodes' = [];
    }

pub roomy : (out : List ℕ) (version size : ℕ) → LargeEnough sha1_kind (case out version size)
unfolding table row store record_of front_of rest_of field_at lies_inside path_at be_at bytes_of keep_mode kept_from paths_bytes
roomy out version size = record { records = lit≤ tt; paths = lit≤ tt; nodes = λ e. lit≤ tt }

-- it may be written, in 232 bytes
pub may_be_written : MayBeWritten sha1_kind table store [] [] plain
unfolding table row store record_of front_of rest_of field_at lies_inside path_at be_at bytes_of keep_mode total
may_be_written = record { inside = λ i x. page_sorted.inside i x.there; proper = λ e. absurd (false≢true e); limits = record { records = lit≤ tt; bytes = lit≤ tt } }

pub room_for_it : file_size id_size table store [] [] plain ≤ length (replicate {A = ℕ} 232 0)
unfolding table row store record_of front_of rest_of field_at lies_inside path_at be_at bytes_of keep_mode total
room_for_it = lit≤ tt

-- ---- and marked sparse, with EOIE asked for, in 272

abbrev pub with_eoie : Options
with_eoie = record { tree = false; cache = false; eoie = true; sparse = true; unhashed = true }

pub eoie_may_be_written : MayBeWritten sha1_kind table store [] [] with_eoie
unfolding table row store record_of front_of rest_of field_at lies_inside path_at be_at bytes_of keep_mode total
eoie_may_be_written = record { inside = λ i x. page_sorted.inside i x.there; proper = λ e. absurd (false≢true e); limits = record { records = lit≤ tt; bytes = lit≤ tt } }

pub some_record : 0 < records_in table
unfolding table row record_of front_of rest_of be_at bytes_of keep_mode
some_record = lit< tt

pub eoie_size_lem : file_size id_size table store [] [] with_eoie ≡ 272
unfolding table row store record_of front_of rest_of field_at lies_inside path_at be_at bytes_of keep_mode total
eoie_size_lem = refl

-- ---- a table without a record, and what is asked for with it: nothing but the hash, TREE, `sdir`

abbrev pub with_hash : Options
with_hash = record { tree = false; cache = false; eoie = false; sparse = false; unhashed = false }

abbrev pub with_tree_lem : Options
with_tree_lem = record { tree = true; cache = true; eoie = false; sparse = false; unhashed = true }

abbrev pub with_sdir : Options
with_sdir = record { tree = false; cache = false; eoie = false; sparse = true; unhashed = true }

-- a root that covers no entry, with no name and an id of zeros
abbrev pub root : List ℕ
root = replicate 32 0 ++ (replicate 8 255 ++ replicate 32 0)

-- no path is anywhere
abbrev pub no_paths : Paths
no_paths = lying_in []

no_record : PathsInside [] no_paths
no_record i x = absurd (omega (arith, x.there))

pub hash_may_be_written : MayBeWritten sha1_kind [] no_paths [] [] with_hash
unfolding total
hash_may_be_written = record { inside = no_record; proper = λ e. absurd (false≢true e); limits = record { records = lit≤ tt; bytes = lit≤ tt } }

pub hash_size : file_size id_size [] no_paths [] [] with_hash ≡ 32
unfolding total
hash_size = refl

pub tree_may_be_written : MayBeWritten sha1_kind [] no_paths root [] with_tree_lem
unfolding total nul_in nul_at be_at word_at is_part part_of name_inside name_at any_in twin repeats siblings_differ parent_fits count_fits holds_none name_fits climbs node_fits child_count kids_fit all_in is_proper digits_within
tree_may_be_written = record { inside = no_record; proper = λ e. (proper_exactly_in_words depth_limit root []).0 refl; limits = record { records = lit≤ tt; bytes = lit≤ tt } }

pub tree_size_lem : file_size id_size [] no_paths root [] with_tree_lem ≡ 65
unfolding total be_at word_at is_part part_of name_inside name_at digits_within
tree_size_lem = refl

pub sdir_may_be_written : MayBeWritten sha1_kind [] no_paths [] [] with_sdir
unfolding total
sdir_may_be_written = record { inside = no_record; proper = λ e. absurd (false≢true e); limits = record { records = lit≤ tt; bytes = lit≤ tt } }

pub sdir_size : file_size id_size [] no_paths [] [] with_sdir ≡ 40
unfolding total
sdir_size = refl

-- the last two to a writer that is deaf to them
pub treeless_may_be_written : MayBeWritten sha1_kind [] no_paths root [] (record { tree = false; cache = true; eoie = false; sparse = false; unhashed = true })
unfolding total
treeless_may_be_written = record { inside = no_record; proper = λ e. absurd (false≢true e); limits = record { records = lit≤ tt; bytes = lit≤ tt } }

pub treeless_size : file_size id_size [] no_paths root [] (record { tree = false; cache = true; eoie = false; sparse = false; unhashed = true }) ≡ 32
unfolding total
treeless_size = refl

pub markless_may_be_written : MayBeWritten sha1_kind [] no_paths [] [] plain
unfolding total
markless_may_be_written = record { inside = no_record; proper = λ e. absurd (false≢true e); limits = record { records = lit≤ tt; bytes = lit≤ tt } }

pub markless_size : file_size id_size [] no_paths [] [] plain ≡ 32
unfolding total
markless_size = refl

-- a file of no entry and no extension does not hash to zeros
pub empty_hash : ¬ (sha1 (DIRC ++ ((0 ∷ 0 ∷ 0 ∷ 2 ∷ []) ++ (0 ∷ 0 ∷ 0 ∷ 0 ∷ []))) ≡ replicate id_size 0)
unfolding be_at bytes_of rotl ch parity maj mix_of const_of zeros_of padding initial words_of next_word extend schedule turn rounds added compress hash_blocks digest_of sha1
empty_hash e = let z : ◌≡◌ {A = ℕ} 0x39 0 = ap (λ (l : List ℕ). get_or l 0 0) e in omega arith

-- ---- two messages: none, and one byte

pub digests_differ : ¬ (sha1 (97 ∷ []) ≡ sha1 [])
unfolding be_at bytes_of rotl ch parity maj mix_of const_of zeros_of padding initial words_of next_word extend schedule turn rounds added compress hash_blocks digest_of sha1
digests_differ e = let z : ◌≡◌ {A = ℕ} 0x86 0xda = ap (λ (l : List ℕ). get_or l 0 0) e in omega arith
