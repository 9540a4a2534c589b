-- How an entry of the index is spelled, in the context of the path before it, and how so many of them are, one behind the other; after gitformat-index, "INDEX ENTRY", and 01,
-- "How an entry is spelled". n is the length of an id. Assumes nothing.
use Rattle.std.specs.Prelude.{ℕ, zero, suc, ◌+◌, ◌-◌, ◌*◌, ◌/◌, ◌%◌, ◌≤◌, ◌<◌, ◌≡◌, List, [], ◌∷◌, ◌++◌, length, take}
use Rattle.laws.specs.Times.{Times}
use Rattle.grammar.specs.Number.{BigEndian, VariableWidth}

-- ---- THE MEANING

-- the ten numbers of an entry; of the mode, what is kept of it
pub record Stat : Type 0 where
  pub ctime : ℕ
  pub ctime_nanos : ℕ
  pub mtime : ℕ
  pub mtime_nanos : ℕ
  pub dev : ℕ
  pub ino : ℕ
  pub mode : ℕ
  pub uid : ℕ
  pub gid : ℕ
  pub size : ℕ

-- what is kept of an entry
pub record Meaning : Type 0 where
  pub stat : Stat
  pub id : List ℕ
  pub flags : ℕ
  pub path : List ℕ

abbrev pub meaning : Stat → List ℕ → ℕ → List ℕ → Meaning
meaning stat id flags path = record { stat = stat; id = id; flags = flags; path = path }

-- ---- THE FIXED PART

-- so many 32-bit numbers
pub data Words : ℕ → List ℕ → List ℕ → Type 0 where
  no_words : Words zero [] []
  word : {k v : ℕ} {b r vs : List ℕ} → BigEndian 4 b v → Words k r vs → Words (suc k) (b ++ r) (v ∷ vs)

-- "Mode keeps the bits of octal 160755 and drops others": bits 15 to 13, 8 to 5, 3 and 2, and 0
abbrev pub kept_mode : ℕ → ℕ
kept_mode m = m / 8192 % 8 * 8192 + m / 32 % 16 * 32 + m / 4 % 4 * 4 + m % 2

-- "Ten 32-bit fields (ctime seconds and nanoseconds, mtime the same, dev, ino, mode, uid, gid, size), 20 id bytes"
pub data Fields (n : ℕ) : List ℕ → Stat → List ℕ → Type 0 where
  fields : {b id : List ℕ} {ctime ctime_nanos mtime mtime_nanos dev ino mode uid gid size : ℕ}
      → Words 10 b (ctime ∷ ctime_nanos ∷ mtime ∷ mtime_nanos ∷ dev ∷ ino ∷ mode ∷ uid ∷ gid ∷ size ∷ []) → length id ≡ n
      → Fields n (b ++ id)
      (record { ctime = ctime; ctime_nanos = ctime_nanos; mtime = mtime; mtime_nanos = mtime_nanos; dev = dev; ino = ino; mode = kept_mode mode; uid = uid; gid = gid; size = size })
      id

-- "16 flag bits: bit 15 assume-valid, 14 EXTENDED, 13 to 12 stage, low 12 path length"
abbrev pub extended_bit : ℕ → ℕ
extended_bit bits = bits / 16384 % 2

abbrev pub length_field : ℕ → ℕ
length_field bits = bits % 4096

-- bits 12 to 15
abbrev pub kept_bits : ℕ → ℕ
kept_bits bits = bits / 4096 * 4096

-- "only bits 13 (intent-to-add) and 14 (skip-worktree) may be set"
pub record OnlyMarks (bits : ℕ) : Type 0 where
  pub not_bit_15 : bits < 32768
  pub not_below_13 : bits % 8192 ≡ 0

-- the kept flags and the length field: "If EXTENDED, 16 more bits", which "become bits 29 and 30 of the record's flags"
pub data Flags : List ℕ → ℕ → ℕ → Type 0 where
  plain : {b : List ℕ} {bits : ℕ} → BigEndian 2 b bits → extended_bit bits ≡ 0 → Flags b (kept_bits bits) (length_field bits)
  extended : {b c : List ℕ} {bits marks : ℕ} → BigEndian 2 b bits → extended_bit bits ≡ 1 → BigEndian 2 c marks → OnlyMarks marks
      → Flags (b ++ c) (kept_bits bits + marks * 65536) (length_field bits)

-- ---- THE PATH

-- "1 to 8 padding bytes of any value, so that the entry is a multiple of 8 long": behind k bytes of it
pub record Padding (k : ℕ) (p : List ℕ) : Type 0 where
  pub least : 1 ≤ length p
  pub most : length p ≤ 8
  pub eights : (k + length p) % 8 ≡ 0

-- none of the bytes is NUL
pub data NoNul : List ℕ → Type 0 where
  empty : NoNul []
  byte : {c : ℕ} {s : List ℕ} → 0 < c → NoNul s → NoNul (c ∷ s)

-- the path before, if there is one
pub data Before : Type 0 where
  start : Before
  path : List ℕ → Before

-- "12-bit name length if the length is less than 0xFFF; otherwise 0xFFF is stored in this field."
abbrev pub full_field : ℕ
full_field = 4095

-- the path's bytes and those that end it, behind k bytes of the entry, and the path that they stand for
pub data Name (version k field : ℕ) : Before → List ℕ → List ℕ → Type 0 where
  -- "V2/V3, length field L below 4095: L path bytes, any values, then 1 to 8 padding bytes"
  counted : {before : Before} {s p : List ℕ} → (version ≡ 4 → ⊥) → field < full_field → length s ≡ field → Padding (k + length s) p → Name version k field before (s ++ p) s
  -- "Field 4095: the path runs to the first NUL, whatever its length, and padding to 8 follows, that NUL being its first byte."
  ended : {before : Before} {s p : List ℕ} → (version ≡ 4 → ⊥) → field ≡ full_field → NoNul s → Padding (k + length s) (0 ∷ p) → Name version k field before (s ++ (0 ∷ p)) s
  -- "V4: a seven-bit-group number, then a suffix to NUL; no padding; the length field is not used." "The first entry's number is read and ignored."
  first : {b s : List ℕ} {strip : ℕ} → version ≡ 4 → VariableWidth b strip → NoNul s → Name version k field start (b ++ (s ++ (0 ∷ []))) s
  -- "The path is the previous path without that many last bytes, followed by the suffix."
  later : {b s p : List ℕ} {strip : ℕ} → version ≡ 4 → VariableWidth b strip → NoNul s → strip ≤ length p
      → Name version k field (path p) (b ++ (s ++ (0 ∷ []))) (take (length p - strip) p ++ s)

-- ---- THE ENTRY, and so many of them

-- the fields, the flags, and the path with what ends it
pub data Entry (n version : ℕ) : Before → List ℕ → Meaning → Type 0 where
  entry : {before : Before} {f g r id s : List ℕ} {stat : Stat} {flags field : ℕ} → Fields n f stat id → Flags g flags field
      → Name version (length f + length g) field before r s → Entry n version before (f ++ (g ++ r)) (meaning stat id flags s)

-- each is spelled in the context of the path of the one before it
abbrev pub behind : Before → Meaning → Before
behind before m = path m.path

abbrev pub Entries : (n version : ℕ) → Before → ℕ → List ℕ → List Meaning → Type 0
Entries n version = Times (Entry n version) behind
