-- Worked examples, as antt computes them: what fills the space and what does not, which extension is refused, IEOT's pairs and EOIE's offset. Assumes nothing.
use Rattle.std.specs.Prelude.{ℕ, ◌-◌, true, false, ◌≡◌, refl, length, replicate, Err, None, Ok, Option, Result, Some}
use mathlib.Core.List.{List, [], ◌∷◌, ◌++◌, flatten}
use Rattle.slices.specs.Bytes.{same_bytes}
use Rattle.wire.specs.BigEndian.{be_at, bytes_of}
use Rattle.wire.specs.Places.{file_at}
use Rattle.sha1_hash.specs.Sha1.{rotl, ch, parity, maj, mix_of, const_of, zeros_of, padding, initial, words_of, next_word, extend, schedule, turn, rounds, added, compress, hash_blocks, digest_of, sha1}
use Rattle.format.specs.Format.{id_size, header_size}
use Rattle.kind.specs.Sha1.{sha1_kind}
use Rattle.extension.specs.Signatures.{TREE, sdir, IEOT, EOIE}
use Rattle.extension.specs.Iter.{step_at, run_by, run_at, first_where, last_where, first_at}
use Rattle.extension.specs.Decode.{mandatory, forbidden, sparse_in, judged, all_at, number_of, carried_of}
use Rattle.extension.specs.IndexEntryOffsetTable.{table_at, pair_in, table_in, table_from, pair_from}
use Rattle.extension.specs.EndOfIndexEntry.{headers_of, verified_at, offset_at, offset_in}
use Rattle.extension.specs.Made.{body_between, filled_by, offset_pair}
use Rattle.extension.specs.declared.decode.Error.{Error as SpaceError}
use Rattle.extension.specs.declared.decode.Error.TheVariants.{Mandatory, NotFilled}
use Rattle.extension.specs.declared.decode.Filled.{Filled}
use Rattle.extension.specs.declared.index_entry_offset_table.Offset.{Offset}

-- "link", "ABCD", "0abc"
abbrev pub link : ℕ
link = 1818848875

abbrev pub ABCD : ℕ
ABCD = 1094861636

abbrev pub digit : ℕ
digit = 811688547

-- an extension that says another size than its body has
pub sized : ℕ → ℕ → List ℕ → List ℕ
sized signature size body = bytes_of 4 signature ++ bytes_of 4 size ++ body

pub ext : ℕ → List ℕ → List ℕ
ext signature body = sized signature (length body) body

-- a file whose extensions begin at 12, with a trailer of zeros
pub file_of : List ℕ → List ℕ
file_of space = replicate header_size 0 ++ space ++ replicate id_size 0

pub walked : List ℕ → Result Filled SpaceError
walked space = all_at (file_of space) header_size (length (file_of space) - id_size)

-- ---- the space behind the entries

pub record Spaces : Type 0 where
  -- nothing at all
  pub empty : walked [] ≡ Ok (filled_by false (record { tree = None }))
  -- two TREEs, an `sdir` between them and an unknown optional one behind: sparse, and the last TREE counts
  pub several : walked (ext TREE (1 ∷ 2 ∷ []) ++ ext sdir [] ++ ext TREE (3 ∷ []) ++ ext ABCD []) ≡ Ok (filled_by true (record { tree = Some (body_between (file_at 38) (file_at 39)) }))
  -- a size that runs one byte into the trailer
  pub overrun : walked (sized ABCD 1 []) ≡ Err (NotFilled (file_at 12))
  -- one stray byte, behind nothing and behind an extension
  pub stray_byte : walked (120 ∷ []) ≡ Err (NotFilled (file_at 12))
  pub stray_behind : walked (ext ABCD (7 ∷ []) ++ (120 ∷ [])) ≡ Err (NotFilled (file_at 21))
  -- `link`, and an `sdir` that is not empty
  pub linked : walked (ext link []) ≡ Err (Mandatory link)
  pub full_sdir : walked (ext sdir (0 ∷ [])) ≡ Err (Mandatory sdir)
  -- signatures that begin with no letter, of any bytes
  pub digit_first : walked (ext digit []) ≡ Err (Mandatory digit)
  pub of_zeros : walked (ext 0 []) ≡ Err (Mandatory 0)
  pub of_ones : walked (ext 4294967295 []) ≡ Err (Mandatory 4294967295)
  -- at one header 7 comes first; else the first in file order
  pub seven_first : walked (sized link 1 []) ≡ Err (NotFilled (file_at 12))
  pub seven_before_digit : walked (sized digit 1 []) ≡ Err (NotFilled (file_at 12))
  pub eight_first : walked (ext link [] ++ (120 ∷ [])) ≡ Err (Mandatory link)

pub space : Spaces
unfolding walked file_of ext sized bytes_of be_at all_at run_at run_by step_at judged forbidden sparse_in last_where
space =
    record {
      empty = refl;
      several = refl;
      overrun = refl;
      stray_byte = refl;
      stray_behind = refl;
      linked = refl;
      full_sdir = refl;
      digit_first = refl;
      of_zeros = refl;
      of_ones = refl;
      seven_first = refl;
      seven_before_digit = refl;
      eight_first = refl;
    }

-- the numbers that 01 gives, with what is carried
pub record Numbers : Type 0 where
  pub seven : number_of (walked (ext ABCD (7 ∷ []) ++ (120 ∷ []))) ≡ 7
  pub place : carried_of (walked (ext ABCD (7 ∷ []) ++ (120 ∷ []))) ≡ 21 ∷ []
  pub eight : number_of (walked (ext sdir (0 ∷ []))) ≡ 8
  pub signature : carried_of (walked (ext sdir (0 ∷ []))) ≡ 1935960434 ∷ []

pub numbers : Numbers
unfolding walked file_of ext sized bytes_of be_at all_at run_at run_by step_at judged forbidden sparse_in last_where
numbers = record { seven = refl; place = refl; eight = refl; signature = refl }

-- the letters A to Z, and what stands before and behind them
pub letters : mandatory 64 ∷ mandatory 65 ∷ mandatory 90 ∷ mandatory 91 ∷ [] ≡ true ∷ false ∷ false ∷ true ∷ []
letters = refl

-- ---- IEOT

pub ieot : List ℕ → Option ℕ
ieot space = table_from 20 (file_of space) 12

pub ieot_pair : List ℕ → ℕ → Option Offset
ieot_pair space k = pair_from 20 (file_of space) 12 k

pub one : List ℕ
one = ext IEOT (bytes_of 4 1 ++ bytes_of 4 12 ++ bytes_of 4 5)

pub two : List ℕ
two = ext IEOT (bytes_of 4 1 ++ bytes_of 4 12 ++ bytes_of 4 5 ++ bytes_of 4 400 ++ bytes_of 4 6)

pub record Tables : Type 0 where
  pub pairs : ieot (ext ABCD (9 ∷ []) ++ two) ≡ Some 2
  -- the search judges nothing that it passes
  pub behind_digit : ieot (ext digit (9 ∷ []) ++ two) ≡ Some 2
  pub second : ieot_pair two 1 ≡ Some (offset_pair 400 6)
  pub beyond : ieot_pair two 2 ≡ None
  -- the first alone counts, though it is malformed
  pub first : ieot (one ++ two) ≡ Some 1
  pub malformed : ieot (ext IEOT (bytes_of 4 2) ++ two) ≡ None
  -- another version, no pair, and a byte over
  pub version : ieot (ext IEOT (bytes_of 4 2 ++ bytes_of 4 12 ++ bytes_of 4 5)) ≡ None
  pub no_pair : ieot (ext IEOT (bytes_of 4 1)) ≡ None
  pub over : ieot (ext IEOT (bytes_of 4 1 ++ bytes_of 4 12 ++ bytes_of 4 5 ++ (0 ∷ []))) ≡ None
  -- a header that does not fit ends the walk
  pub stopped : ieot (sized ABCD 99 [] ++ one) ≡ None
  -- fewer than 20 bytes behind the offset, and an offset beyond the file
  pub short : table_from 20 (file_of one) 33 ≡ None
  pub far : table_from 20 (file_of one) 900 ≡ None

pub tables : Tables
unfolding ieot ieot_pair one two file_of ext sized bytes_of be_at table_from pair_from table_in table_at pair_in first_at first_where run_at run_by step_at
tables = record { pairs = refl; behind_digit = refl; second = refl; beyond = refl; first = refl; malformed = refl; version = refl; no_pair = refl; over = refl; stopped = refl; short = refl; far = refl }

-- ---- EOIE

-- an extension "AAAA" of 56 bytes from 12 on, and EOIE with the hash of its header
pub hash : List ℕ
hash = 0xf9 ∷ 0x12 ∷ 0x9b ∷ 0x9a ∷ 0x47 ∷ 0xd3 ∷ 0xee ∷ 0xba ∷ 0x2b ∷ 0x04 ∷ 0x9a ∷ 0x24 ∷ 0x8d ∷ 0xc6 ∷ 0x52 ∷ 0xe7 ∷ 0x66 ∷ 0xb9 ∷ 0x2f ∷ 0x6f ∷ []

pub ending : ℕ → List ℕ
ending offset = file_of (ext 1094795585 (replicate 56 0) ++ ext EOIE (bytes_of 4 offset ++ hash))

-- the same with an extension "0abc", which this search does not judge either
pub digit_hash : List ℕ
digit_hash = 0xd2 ∷ 0x51 ∷ 0x5e ∷ 0x58 ∷ 0xb5 ∷ 0x6d ∷ 0x60 ∷ 0xaf ∷ 0x67 ∷ 0x06 ∷ 0xe2 ∷ 0xd6 ∷ 0x93 ∷ 0x0c ∷ 0x0f ∷ 0xb0 ∷ 0x42 ∷ 0xf3 ∷ 0x9f ∷ 0x36 ∷ []

pub digit_ending : List ℕ
digit_ending = file_of (ext digit (replicate 56 0) ++ ext EOIE (bytes_of 4 12 ++ digit_hash))

pub record Endings : Type 0 where
  pub told : offset_in sha1_kind (ending 12) ≡ Some (file_at 12)
  pub behind_digit : offset_in sha1_kind digit_ending ≡ Some (file_at 12)
  pub low : offset_in sha1_kind (ending 11) ≡ None
  pub high : offset_in sha1_kind (ending 77) ≡ None
  pub short : offset_in sha1_kind (replicate 51 0) ≡ None

pub endings : Endings
unfolding ending hash digit_hash digit_ending file_of ext sized bytes_of be_at offset_in offset_at verified_at headers_of flatten last_where run_at run_by step_at same_bytes rotl ch parity maj mix_of const_of zeros_of padding initial words_of next_word extend schedule turn rounds added compress hash_blocks digest_of sha1
endings = record { told = refl; behind_digit = refl; low = refl; high = refl; short = refl }
