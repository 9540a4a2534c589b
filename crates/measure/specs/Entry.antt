-- How one entry is measured, over the length of an id (01, How an entry is spelled): its fixed part, the padded path of versions 2 and 3, the stripped path of
-- version 4. An entry that is not spelled is Short where a longer space with the same bytes in front could spell it, and a Fault where none could. Assumes nothing.
use Rattle.std.specs.Prelude.{ℕ, ◌+◌, ◌-◌, ◌*◌, ◌/◌, ◌%◌, ◌≤◌, ◌<◌, Bool, List, length, get_or, ltb, eqb, Err, None, Ok, Option, Result, Some}
use Rattle.laws.specs.Pick.{pick}
use Rattle.slices.specs.Bytes.{nul_at}
use Rattle.format.specs.Format.{fixed_extended_size, long_path}
use Rattle.wire.specs.Places.{file_at}
use Rattle.wire.specs.BigEndian.{be_at}
use Rattle.wire.specs.Groups.{number_at}
use Rattle.entry.specs.Flags.{bit, extended, to_memory, extended_to_memory}
use Rattle.measure.specs.Made.{fixed_head, measured_as}
use Rattle.measure.specs.declared.Head.{Head}
use Rattle.measure.specs.declared.Measured.{Measured}
use Rattle.measure.specs.declared.Unspelled.{Unspelled}
use Rattle.measure.specs.declared.Unspelled.TheVariants.{Fault, Short}
use Rattle.wire.specs.declared.NumberError.{NumberError}
use Rattle.wire.specs.declared.NumberError.TheVariants.{Cut, Over}

-- ten fields of 32 bits and an id stand before the flags
abbrev pub flags_at : ℕ → ℕ
flags_at id = 40 + id

-- the fixed part's length, without and with the bits after EXTENDED
abbrev pub plain_size : ℕ → ℕ
plain_size id = 42 + id

abbrev pub extended_size : ℕ → ℕ
extended_size id = 44 + id

abbrev pub on_extended : Option ℕ → Result Head Unspelled → (ℕ → Result Head Unspelled) → Result Head Unspelled
on_extended (Some bits) bad good = good bits
on_extended None bad good = bad

-- the bits after EXTENDED, at a place. Where only their first byte is there, it may spoil them already
unfoldable pub extended_at : ℕ → List ℕ → ℕ → ℕ → ℕ → ℕ → Result Head Unspelled
extended_at id s at end kept field =
    pick (ltb (end - at) 1) (Err Short)
    (pick (ltb (end - at) 2) (on_extended (extended_to_memory (get_or s at 0 * 256)) (Err Fault) (λ bits. Err Short))
    (on_extended (extended_to_memory (be_at 2 s at)) (Err Fault) (λ bits. Ok (fixed_head (kept + bits) (extended_size id) field))))

-- from the 16 flag bits, of which the low 12 are the length field
unfoldable pub head_with : ℕ → List ℕ → ℕ → ℕ → ℕ → Result Head Unspelled
head_with id s at end word =
    pick (bit extended (to_memory word)) (extended_at id s (at + plain_size id) end (to_memory word) (word % 4096))
    (Ok (fixed_head (to_memory word) (plain_size id) (word % 4096)))

unfoldable pub head_at : ℕ → List ℕ → ℕ → ℕ → Result Head Unspelled
head_at id s at end =
    pick (ltb (length s) end) (Err Short)
    (pick (ltb end at) (Err Short)
    (pick (ltb (end - at) (plain_size id)) (Err Short)
    (head_with id s at end (be_at 2 s (at + flags_at id)))))

-- what a head that was found says of its place
pub record HeadFits (n at end size field : ℕ) : Type 0 where
  pub file : end ≤ n
  pub inside : at + size ≤ end
  pub small : size ≤ fixed_extended_size
  pub short : field < 4096

-- the length of an entry whose fixed part has size bytes and whose path has len: 1 to 8 bytes more, to a multiple of 8
unfoldable pub whole_of : ℕ → ℕ → ℕ
whole_of size len = (size + len + 8) / 8 * 8

unfoldable pub padded_to : ℕ → ℕ → ℕ → ℕ → ℕ → Result Measured Unspelled
padded_to at end flags size len = pick (ltb (end - at) (whole_of size len)) (Err Short) (Ok (measured_as flags 0 (file_at (at + size)) len (file_at (at + whole_of size len))))

abbrev pub on_ends : Option ℕ → Result Measured Unspelled → (ℕ → Result Measured Unspelled) → Result Measured Unspelled
on_ends (Some z) never good = good z
on_ends None never good = never

abbrev pub on_number : Result (ℕ × ℕ) NumberError → (ℕ → ℕ → Result Measured Unspelled) → (ℕ → Result Measured Unspelled) → Result Measured Unspelled → Result Measured Unspelled
on_number (Ok (v, e)) good part over = good v e
on_number (Err (Cut a)) good part over = part a
on_number (Err Over) good part over = over

abbrev pub on_left : Option ℕ → Result Measured Unspelled → (ℕ → Result Measured Unspelled) → Result Measured Unspelled
on_left (Some n) few good = good n
on_left None few good = few

abbrev pub on_head : Result Head Unspelled → Result Measured Unspelled → Result Measured Unspelled → (ℕ → ℕ → ℕ → Result Measured Unspelled) → Result Measured Unspelled
on_head (Ok h) few spoiled good = good h.flags h.size h.field
on_head (Err Short) few spoiled good = few
on_head (Err Fault) few spoiled good = spoiled

-- versions 2 and 3
unfoldable pub padded_at : List ℕ → ℕ → ℕ → ℕ → ℕ → ℕ → Result Measured Unspelled
padded_at s at end flags size field =
    pick (eqb field long_path)
    (on_ends (nul_at s (at + size) end) (Err Short) (λ z. padded_to at end flags size (z - (at + size))))
    (padded_to at end flags size field)

-- how many bytes stay of a path of prev bytes that loses `strip`; the first entry has no path before it, and its strip is ignored
unfoldable pub kept_of : Bool → ℕ → ℕ → Option ℕ
kept_of first prev strip = pick first (Some 0) (pick (ltb prev strip) None (Some (prev - strip)))

-- a suffix to a NUL, after `keep` bytes of the path before
unfoldable pub suffixed_at : List ℕ → ℕ → ℕ → ℕ → ℕ → Result Measured Unspelled
suffixed_at s from end flags keep = on_ends (nul_at s from end) (Err Short) (λ z. Ok (measured_as flags keep (file_at from) (z - from) (file_at (z + 1))))

-- version 4, behind the fixed part. A number that is cut short comes to at least 128 times its value so far, and by a last group of 0 to just that
unfoldable pub compressed_at : List ℕ → ℕ → ℕ → ℕ → Bool → ℕ → Result Measured Unspelled
compressed_at s from end flags first prev =
    on_number (number_at s from end)
    (λ v e. on_left (kept_of first prev v) (Err Fault) (λ keep. suffixed_at s e end flags keep))
    (λ a. on_left (kept_of first prev (a * 128)) (Err Fault) (λ keep. Err Short))
    (Err Fault)

unfoldable pub measure_at : ℕ → List ℕ → ℕ → ℕ → ℕ → Bool → ℕ → Result Measured Unspelled
measure_at id s at end version first prev =
    on_head (head_at id s at end) (Err Short) (Err Fault)
    (λ flags size field. pick (eqb version 4) (compressed_at s (at + size) end flags first prev) (padded_at s at end flags size field))
