-- EACH PREMISE OF DEMAND 2 IS NEEDED (01, "How an entry is spelled" and "Writing"): four tables that each have three of them, are written, are read again,
-- and read back as something else; so by demand 2 they lack the fourth. What is written and read is computed. Assumes nothing.
use Rattle.std.specs.Prelude.{ℕ, zero, suc, ◌<◌, ◌≡◌, refl, true, false, List, [], ◌∷◌, ◌++◌, length, get_or, take, replicate, Ok}
use Rattle.std.proofs.Common.{ap, arith}
use Rattle.slices.specs.Bytes.{same_bytes, nul_in, nul_at}
use Rattle.wire.specs.BigEndian.{be_at, bytes_of}
use Rattle.format.specs.Format.{id_size, depth_limit}
use Rattle.kind.specs.Sha1.{sha1_kind}
use Rattle.entry.specs.Flags.{extended_to_memory}
use Rattle.entry.specs.Mode.{keep_mode, dir_at}
use Rattle.entry.specs.Paths.{Paths, lying_in}
use Rattle.entry.specs.Record.{records_in, mode_at, flags_at, field_at, lies_inside, path_at, front_of, rest_of, record_of, put_record}
use Rattle.measure.specs.Entry as measure
use Rattle.decode.specs.Header.{on_version, header_at}
use Rattle.decode.specs.Entries.{path_of, marked, run, read_entries}
use Rattle.extension.specs.Iter.{step_at, run_by, run_at, last_where}
use Rattle.extension.specs.Decode.{sparse_in, judged, all_at}
use Rattle.grammar.specs.Entry.{kept_mode}
use Rattle.file.specs.Trailer.{good_trailer}
use Rattle.file.specs.Read.{Outcome as ReadOutcome, extensions_into, entries_into, read_file}
use Rattle.write.specs.declared.Options.{Options}
use Rattle.write_entries.specs.Entries.{is_gone, fault_of, stated, fixed_of, front_at, flag_bytes, entry_of, record_bytes, entries_bytes, kept_of, count_of, any_extended, first_fault}
use Rattle.write.specs.File.{header_of, extension_head, contents, eoie_part, trailer_of, body_of, extensions_of, closed_of, file_of, writes_tree, has_eoie, tree_fits, body_bytes, file_bytes, Outcome, write_file, write_all}
use Rattle.write.specs.File as write
use Rattle.claims_write.specs.Meaning.{PathsEnd, MarksFit, WritableTable, NoneRemoved, SameEntry}
use Rattle.file.specs.Made.{read_with_all}
use Rattle.write.specs.Made.{written_with}

-- ---- what is written and read

-- only the entries are asked for, without a hash
abbrev pub plain : Options
plain = record { tree = false; cache = false; eoie = false; sparse = false; unhashed = true }

-- a table over its paths, written into so many bytes
unfoldable pub writing : List ℕ → Paths → ℕ → Outcome
unfolding be_at bytes_of field_at lies_inside path_at fault_of stated fixed_of front_at flag_bytes entry_of record_bytes entries_bytes kept_of count_of any_extended first_fault header_of extension_head contents eoie_part trailer_of write.front_of extensions_of body_of closed_of file_of writes_tree has_eoie tree_fits body_bytes file_bytes write_file write_all
writing rs ps size = write_all sha1_kind depth_limit rs ps [] [] plain (replicate size 9)

-- and what the reader makes of them, with stores that are large enough
unfoldable pub reading : List ℕ → Paths → ℕ → ReadOutcome
unfolding writing read_file header_at on_version good_trailer same_bytes entries_into read_entries run path_of marked put_record record_of front_of rest_of keep_mode dir_at measure.measure_at measure.head_at measure.head_with measure.extended_at extended_to_memory measure.padded_at measure.padded_to measure.whole_of nul_at nul_in extensions_into all_at run_at run_by step_at judged sparse_in last_where
reading rs ps size =
    read_file sha1_kind depth_limit (take size (write_all sha1_kind depth_limit rs ps [] [] plain (replicate size 9)).out)
    (replicate (length rs) 9) (replicate (length ps.store) 9) []

-- ---- THE CLAIM'S WORDS

-- the premises of demand 2, each for all records that are written; the first is `PathsEnd`, the last `NoneRemoved`
abbrev pub ModesFit : List ℕ → Type 0
ModesFit rs = (i : ℕ) → i < records_in rs → is_gone rs i ≡ false → kept_mode (mode_at rs i) ≡ mode_at rs i

abbrev pub AllMarksFit : List ℕ → Type 0
AllMarksFit rs = (i : ℕ) → i < records_in rs → is_gone rs i ≡ false → MarksFit (flags_at rs i)

-- a table that is written, in so many bytes, and read again, as so many records and path bytes, but whose record 0 is not what is read as record 0
pub record ReadsBackOtherwise (rs : List ℕ) (ps : Paths) (size records used : ℕ) : Type 0 where
  pub is_written : (writing rs ps size).answer ≡ Ok (written_with 2 size)
  pub is_read : (reading rs ps size).answer ≡ Ok (read_with_all 2 false false records used 0)
  pub is_other : SameEntry id_size rs ps 0 (reading rs ps size).records (lying_in (reading rs ps size).paths) 0 → ⊥

-- ---- the tables

-- a record of this mode and these flags, each in four bytes, whose path is given by its start and end, each in two bytes
abbrev row : List ℕ → List ℕ → List ℕ → List ℕ → List ℕ
row mode flags start end =
    replicate 24 0 ++ mode ++ replicate 12 0 ++ replicate 20 7 ++ replicate 12 0 ++ flags ++ (replicate 6 0 ++ start) ++ (replicate 6 0 ++ end) ++ replicate 4 0

-- octal 100644, and no flag
abbrev regular : List ℕ
regular = 0 ∷ 0 ∷ 129 ∷ 164 ∷ []

abbrev no_flag : List ℕ
no_flag = replicate 4 0

-- a table of one record speaks of record 0 alone
only : (P : ℕ → Type 0) → P 0 → (i : ℕ) → i < 1 → P i
only P p zero h = p
only P p (suc i) h = absurd (omega arith)

-- ---- A PATH OF 4095 BYTES WITH A NUL: 4094 times "a", and NUL; it reads back without the NUL, and the entry is as long

abbrev pub nul_row : List ℕ
nul_row = row regular no_flag (0 ∷ 0 ∷ []) (15 ∷ 255 ∷ [])

abbrev pub nul_path : Paths
nul_path = lying_in (replicate 4094 97 ++ (0 ∷ []))

pub paths_without_nul_needed : ModesFit nul_row × AllMarksFit nul_row × NoneRemoved nul_row × ReadsBackOtherwise nul_row nul_path 4192 1 4094
unfolding writing reading
paths_without_nul_needed = (
  only _ (λ s. refl),
  only _ (λ s e. refl),
  only _ refl,
  record { is_written = refl; is_read = refl; is_other = λ x. let e : ◌≡◌ {A = ℕ} 4094 4095 = ap length x.path in omega arith },
)

-- ---- BIT 29, INTENT-TO-ADD, WITHOUT EXTENDED: it is not written

abbrev pub unmarked_row : List ℕ
unmarked_row = row regular (32 ∷ 0 ∷ 0 ∷ 0 ∷ []) (0 ∷ 0 ∷ []) (0 ∷ 1 ∷ [])

pub extended_needed : PathsEnd unmarked_row (lying_in (97 ∷ [])) × ModesFit unmarked_row × NoneRemoved unmarked_row × ReadsBackOtherwise unmarked_row (lying_in (97 ∷ [])) 96 1 1
unfolding writing reading
extended_needed = (
  only _ (λ s q. absurd (omega arith)),
  only _ (λ s. refl),
  only _ refl,
  record { is_written = refl; is_read = refl; is_other = λ x. let e : ◌≡◌ {A = ℕ} 0 536870912 = x.flags in omega arith },
)

-- ---- OCTAL 100646, ONE BIT MORE THAN A MODE KEEPS

abbrev pub mode_row : List ℕ
mode_row = row (0 ∷ 0 ∷ 129 ∷ 166 ∷ []) no_flag (0 ∷ 0 ∷ []) (0 ∷ 1 ∷ [])

pub known_mode_bits_needed : PathsEnd mode_row (lying_in (97 ∷ [])) × AllMarksFit mode_row × NoneRemoved mode_row × ReadsBackOtherwise mode_row (lying_in (97 ∷ [])) 96 1 1
unfolding writing reading
known_mode_bits_needed = (
  only _ (λ s q. absurd (omega arith)),
  only _ (λ s e. refl),
  only _ refl,
  record { is_written = refl; is_read = refl; is_other = λ x. let e : ◌≡◌ {A = ℕ} 33188 33190 = x.mode in omega arith },
)

-- ---- A RECORD MARKED REMOVE, "a", BEFORE ONE THAT IS NOT, "b": one record is read, and it is "b"

abbrev pub removed_rows : List ℕ
removed_rows = row regular (0 ∷ 2 ∷ 0 ∷ 0 ∷ []) (0 ∷ 0 ∷ []) (0 ∷ 1 ∷ []) ++ row regular no_flag (0 ∷ 1 ∷ []) (0 ∷ 2 ∷ [])

pub none_removed_needed : WritableTable removed_rows (lying_in (97 ∷ 98 ∷ [])) × ReadsBackOtherwise removed_rows (lying_in (97 ∷ 98 ∷ [])) 96 1 1
unfolding writing reading
none_removed_needed = (
  fit,
  record { is_written = refl; is_read = refl; is_other = λ x. let e : ◌≡◌ {A = ℕ} 98 97 = ap (λ (l : List ℕ). get_or l 0 0) x.path in omega arith },
)
  where
    fit : WritableTable removed_rows (lying_in (97 ∷ 98 ∷ []))
    fit zero h s = record { path = λ q. absurd (omega arith); mode = refl; marks = λ e. refl }
    fit (suc zero) h s = record { path = λ q. absurd (omega arith); mode = refl; marks = λ e. refl }
    fit (suc (suc i)) h s = absurd (omega arith)
