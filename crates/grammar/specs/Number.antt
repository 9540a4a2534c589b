-- How numbers are spelled: big_endian_lem, in seven-bit groups, and in digits; after gitformat-index ("All binary numbers are in network byte order", "the variable
-- width encoding") and 01, "How an entry is spelled" and "Extensions". A byte is a number of a list. Assumes nothing.
use Rattle.std.specs.Prelude.{ℕ, ◌+◌, ◌-◌, ◌*◌, ◌%◌, ◌^◌, ◌≤◌, ◌<◌, ◌≡◌, List, [], ◌∷◌, length}

-- ---- big_endian_lem: "All binary numbers are in network byte order."

-- the number v with the bytes behind it
abbrev pub followed_by : ℕ → List ℕ → ℕ
followed_by v [] = v
followed_by v (c ∷ b) = followed_by (v * 256 + c) b

abbrev pub big_endian : List ℕ → ℕ
big_endian [] = 0
big_endian (c ∷ b) = followed_by c b

-- a number as wide as so many bytes
pub data BigEndian (width : ℕ) : List ℕ → ℕ → Type 0 where
  big_endian_lem : {b : List ℕ} → length b ≡ width → BigEndian width b (big_endian b)

-- ---- seven-bit groups: "The first group's low 7 bits; while a group has its high bit, value = (value + 1) * 128 + the next group's low 7 bits."

-- carried is 0 before the first group, and value + 1 before each other
pub data Groups : ℕ → List ℕ → ℕ → Type 0 where
  last : {carried c : ℕ} → c < 128 → Groups carried (c ∷ []) (carried * 128 + c % 128)
  next : {carried c v : ℕ} {b : List ℕ} → 128 ≤ c → Groups (carried * 128 + c % 128 + 1) b v → Groups carried (c ∷ b) v

-- "A value above 2^64 - 1 spoils the entry."
pub record VariableWidth (b : List ℕ) (v : ℕ) : Type 0 where
  pub groups : Groups 0 b v
  pub fits : v < 2 ^ 64

-- ---- digits: "ASCII decimal number"; leading zeros are allowed

-- the byte c is a digit of this base: "0" is 48
pub record Digit (base c : ℕ) : Type 0 where
  pub least : 48 ≤ c
  pub below : c < 48 + base

-- one or more digits behind the number v
pub data Digits (base : ℕ) : ℕ → List ℕ → ℕ → Type 0 where
  last_digit : {v c : ℕ} → Digit base c → Digits base v (c ∷ []) (v * base + (c - 48))
  digit : {v c w : ℕ} {b : List ℕ} → Digit base c → Digits base (v * base + (c - 48)) b w → Digits base v (c ∷ b) w

-- "Subtree count 64 unsigned": no sign
pub record Unsigned (b : List ℕ) (v : ℕ) : Type 0 where
  pub digits : Digits 10 0 b v
  pub fits : v < 2 ^ 64

-- how many entries a tree covers: "An entry can be in an invalidated state and is represented by having a negative number in the entry_count field."
pub data Count : Type 0 where
  covers : ℕ → Count
  invalid : Count

-- "Count fits 32 signed bits": "+" (43) or "-" (45) may stand in front, and -0 is 0
pub data Signed : List ℕ → Count → Type 0 where
  plain : {b : List ℕ} {v : ℕ} → Digits 10 0 b v → v < 2 ^ 31 → Signed b (covers v)
  plus : {b : List ℕ} {v : ℕ} → Digits 10 0 b v → v < 2 ^ 31 → Signed (43 ∷ b) (covers v)
  minus_zero_lem : {b : List ℕ} → Digits 10 0 b 0 → Signed (45 ∷ b) (covers 0)
  minus : {b : List ℕ} {v : ℕ} → Digits 10 0 b v → 0 < v → v ≤ 2 ^ 31 → Signed (45 ∷ b) invalid
