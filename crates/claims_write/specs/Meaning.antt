-- WHAT A RECORD TABLE MEANS, in the grammar's terms and through the accessors (01, "Writing"): the records that are written, what is kept of each, and what the paths must be
-- like so that they can be read again. No byte of a file is named here. Assumes nothing.
use Rattle.std.specs.Prelude.{ℕ, zero, suc, ◌+◌, ◌/◌, ◌%◌, ◌^◌, ◌≤◌, ◌<◌, ◌≡◌, true, false, List, [], ◌∷◌, map, length}
use Rattle.laws.specs.Pick.{pick}
use Rattle.entry.specs.Flags.{bit, extended, to_storage, keep_flags}
use Rattle.entry.specs.Paths.{Paths}
use Rattle.entry.specs.Record.{records_in, field_at, mode_at, flags_at, stage_at, id_at, lies_inside, path_at}
use Rattle.entry.specs.Stat.{stat_at}
use Rattle.grammar.specs.Entry.{Stat, Meaning, meaning, kept_mode, NoNul, full_field}
use Rattle.write_entries.specs.Entries.{is_gone}

-- ---- one record

-- the ten numbers of record i; of the mode, what is kept of it
unfoldable pub stat_of : List ℕ → ℕ → Stat
stat_of rs i =
    record {
      ctime = field_at 4 0 rs i;
      ctime_nanos = field_at 4 4 rs i;
      mtime = field_at 4 8 rs i;
      mtime_nanos = field_at 4 12 rs i;
      dev = field_at 4 16 rs i;
      ino = field_at 4 20 rs i;
      mode = kept_mode (mode_at rs i);
      uid = field_at 4 28 rs i;
      gid = field_at 4 32 rs i;
      size = field_at 4 36 rs i;
    }

-- the flags that are written: bits 12 to 15, and 29 and 30 only under EXTENDED
abbrev pub written_flags : ℕ → ℕ
written_flags flags = pick (bit extended flags) (keep_flags flags) (to_storage flags)

-- what is kept of record i, over the length of an id
abbrev pub meaning_of : ℕ → List ℕ → Paths → ℕ → Meaning
meaning_of n rs ps i = meaning (stat_of rs i) (id_at n rs i) (written_flags (flags_at rs i)) (path_at rs ps i)

-- ---- the table

-- of k records from i on, the indices of those that are not marked REMOVE
unfoldable pub kept_from : List ℕ → ℕ → ℕ → List ℕ
kept_from rs zero i = []
kept_from rs (suc k) i = pick (is_gone rs i) (kept_from rs k (i + 1)) (i ∷ kept_from rs k (i + 1))

abbrev pub kept_of : List ℕ → List ℕ
kept_of rs = kept_from rs (records_in rs) 0

-- the table without the records marked REMOVE
abbrev pub meanings_of : ℕ → List ℕ → Paths → List Meaning
meanings_of n rs ps = map (meaning_of n rs ps) (kept_of rs)

-- ---- PREMISES

-- a path whose length the length field cannot state ends at its first NUL, so it may hold none
abbrev pub PathEnds : List ℕ → Type 0
PathEnds p = full_field ≤ length p → NoNul p

-- so for each record that is written
abbrev pub PathsEnd : List ℕ → Paths → Type 0
PathsEnd rs ps = (i : ℕ) → i < records_in rs → is_gone rs i ≡ false → PathEnds (path_at rs ps i)

-- the bits 29 and 30 stand only beside EXTENDED
abbrev pub MarksFit : ℕ → Type 0
MarksFit flags = flags / 2 ^ extended % 2 ≡ 0 → flags / 2 ^ 29 % 4 ≡ 0

-- a record that loses nothing by being written: no NUL in a path whose length cannot be stated, a mode of known bits, and extended bits only beside EXTENDED
pub record Writable (rs : List ℕ) (ps : Paths) (i : ℕ) : Type 0 where
  pub path : PathEnds (path_at rs ps i)
  pub mode : kept_mode (mode_at rs i) ≡ mode_at rs i
  pub marks : MarksFit (flags_at rs i)

-- each record that is written is such a one
abbrev pub WritableTable : List ℕ → Paths → Type 0
WritableTable rs ps = (i : ℕ) → i < records_in rs → is_gone rs i ≡ false → Writable rs ps i

-- no record is marked REMOVE
abbrev pub NoneRemoved : List ℕ → Type 0
NoneRemoved rs = (i : ℕ) → i < records_in rs → is_gone rs i ≡ false

-- ---- WHAT READS BACK

-- record j of one table shows what record i of the other does, over the length of an id: every field, the kept bits of the flags, and the path, which lies in its store
pub record SameEntry (n : ℕ) (rs : List ℕ) (ps : Paths) (i : ℕ) (rs' : List ℕ) (ps' : Paths) (j : ℕ) : Type 0 where
  pub there : j < records_in rs'
  pub stat : stat_at rs' j ≡ stat_at rs i
  pub mode : mode_at rs' j ≡ mode_at rs i
  pub id : id_at n rs' j ≡ id_at n rs i
  pub flags : flags_at rs' j ≡ keep_flags (flags_at rs i)
  pub stage : stage_at rs' j ≡ stage_at rs i
  pub inside : lies_inside rs' ps' j ≡ true
  pub path : path_at rs' ps' j ≡ path_at rs ps i
