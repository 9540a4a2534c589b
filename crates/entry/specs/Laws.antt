-- Laws of a record's bytes: how long they are, where a record is put, and what its fields, its id and its path are. Assumes nothing.
use Rattle.std.specs.Prelude.{◌≡◌, false, List, ◌++◌, ℕ, ◌+◌, ◌-◌, ◌*◌, ◌/◌, ◌^◌, ◌≤◌, ◌<◌, length, take, drop, replicate, leb, eqb}
use Rattle.std.proofs.Math.Path.{sym}
use Rattle.std.proofs.Common.{◌∙◌, arith}
use Rattle.std.proofs.Math.ListN.{length-append}
use Rattle.std.proofs.lemmas.List.{length-replicate}
use Rattle.std.proofs.Math.Seq.{paste}
use borrow.Author.Tests.{lt-ltb, le-ltb, le-leb, lt-leb}
use Rattle.laws.specs.Lists.{length_part}
use Rattle.wire.specs.BigEndian.{be_at, bytes_of, length-bytes}
use Rattle.entry.specs.Mode.{keep_mode, directory, mode_in, dir_at}
use Rattle.entry.specs.Paths.{Paths, lying_in}
use Rattle.entry.specs.Record.{front_of, rest_of, record_of, put_record, field_at, start_at, end_at, id_at, lies_inside, path_at}

-- ---- the mode

pub mode_small : (m : ℕ) → keep_mode m < 2 ^ 32
unfolding keep_mode
mode_small m = omega arith

module _ (s : List ℕ) (at : ℕ) where
  pub dir_inside : at + 28 ≤ length s → dir_at s at ≡ eqb (mode_in s at) directory
  unfolding dir_at
  dir_inside h = rw (le-leb (at + 28) (length s) h)

-- ---- how long a record's parts are

module _ (id : ℕ) (s : List ℕ) (at : ℕ) (hs : at + (40 + id) ≤ length s) where
  pub length_front : length (front_of id s at) ≡ 40 + id
  unfolding front_of
  length_front =
      simp length-append (omega (arith, length_part 24 at s (omega arith), length-bytes 4 (mode_in s at), length_part (12 + id) (at + 28) s (omega arith)))

module _ (id flags start end : ℕ) (hid : id ≤ 32) where
  abbrev zeros : List ℕ
  zeros = replicate (32 - id) 0

  pub length-zeros : length zeros ≡ 32 - id
  length-zeros = length-replicate {A = ℕ} (32 - id) 0

  pub to_flags : length (zeros ++ bytes_of 4 flags) ≡ 36 - id
  to_flags = simp length-append (omega (arith, length-zeros, length-bytes 4 flags))

  pub to_start : length (zeros ++ bytes_of 4 flags ++ bytes_of 8 start) ≡ 44 - id
  to_start = length-append (zeros ++ bytes_of 4 flags) (bytes_of 8 start) ∙ omega (arith, to_flags, length-bytes 8 start)

  pub to_end : length (zeros ++ bytes_of 4 flags ++ bytes_of 8 start ++ bytes_of 8 end) ≡ 52 - id
  to_end = length-append (zeros ++ bytes_of 4 flags ++ bytes_of 8 start) (bytes_of 8 end) ∙ omega (arith, to_start, length-bytes 8 end)

  pub length_rest : length (rest_of id flags start end) ≡ 56 - id
  unfolding rest_of
  length_rest = length-append (zeros ++ bytes_of 4 flags ++ bytes_of 8 start ++ bytes_of 8 end) (replicate 4 0) ∙ omega (arith, to_end)

module _ (id : ℕ) (s : List ℕ) (at flags start end : ℕ) (hid : id ≤ 32) (hs : at + (40 + id) ≤ length s) where
  pub length_record : length (record_of id s at flags start end) ≡ 96
  unfolding record_of
  length_record = length-append (front_of id s at) (rest_of id flags start end) ∙ omega (arith, length_front id s at hs, length_rest id flags start end hid)

-- ---- a record that is put

module _ (id : ℕ) (s : List ℕ) (at flags start end : ℕ) (rs : List ℕ) (i : ℕ) where
  -- where the entry's bytes and the record are there, it is one paste
  pub put_is_paste : at + (40 + id) ≤ length s → i * 96 + 96 ≤ length rs → put_record id s at flags start end rs i ≡ paste rs (i * 96) (record_of id s at flags start end) 96
  unfolding put_record
  put_is_paste h k = rw (le-leb (at + (40 + id)) (length s) h, lt-ltb i (length rs / 96) (omega arith))

-- ---- what the accessors answer

module _ (w k : ℕ) (rs : List ℕ) (i : ℕ) where
  pub field_is : i < length rs / 96 → field_at w k rs i ≡ be_at w rs (i * 96 + k)
  unfolding field_at
  field_is h = rw (lt-ltb i (length rs / 96) h)

  pub field_out : length rs / 96 ≤ i → 0 ≡ field_at w k rs i
  unfolding field_at
  field_out h = sym (rw (le-ltb i (length rs / 96) h))

module _ (id : ℕ) (rs : List ℕ) (i : ℕ) where
  pub id_is : i < length rs / 96 → id_at id rs i ≡ take id (drop (i * 96 + 40) rs)
  unfolding id_at
  id_is h = rw (lt-ltb i (length rs / 96) h)

  pub id_out : length rs / 96 ≤ i → replicate id 0 ≡ id_at id rs i
  unfolding id_at
  id_out h = sym (rw (le-ltb i (length rs / 96) h))

module _ (rs : List ℕ) (ps : Paths) (i : ℕ) where
  pub inside_none : length rs / 96 ≤ i → false ≡ lies_inside rs ps i
  unfolding lies_inside
  inside_none h = sym (rw (le-ltb i (length rs / 96) h))

  module _ (h : i < length rs / 96) (start end : ℕ) (es : start ≡ start_at rs i) (ee : end ≡ end_at rs i) where
    pub inside_crossed : end < start → false ≡ lies_inside rs ps i
    unfolding lies_inside
    inside_crossed k = sym (rw (lt-ltb i (length rs / 96) h, ← es, ← ee, lt-leb start end k))

-- and of a store
module _ (rs store : List ℕ) (i : ℕ) (h : i < length rs / 96) (start end : ℕ) (es : start ≡ start_at rs i) (ee : end ≡ end_at rs i) where
  pub inside_is : start ≤ end → leb end (length store) ≡ lies_inside rs (lying_in store) i
  unfolding lies_inside
  inside_is k = sym (rw (lt-ltb i (length rs / 96) h, ← es, ← ee, le-leb start end k))

  pub path_is : start ≤ end → end ≤ length store → take (end - start) (drop start store) ≡ path_at rs (lying_in store) i
  unfolding path_at
  path_is k l = sym (rw (← inside_is k, le-leb end (length store) l, ← es, ← ee))
