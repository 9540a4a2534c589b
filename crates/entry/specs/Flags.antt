-- The flags of an entry (01, How an entry is spelled, and entry/flags.rs for the numbers of bits): the stage, the bits that a writer tests, and how the file's bits
-- become the record's and back. Assumes nothing.
use Rattle.std.specs.Prelude.{ℕ, ◌+◌, ◌*◌, ◌/◌, ◌%◌, ◌^◌, ◌<◌, Bool, ◌≡◌, ltb, eqb, None, Option, Some}
use Rattle.std.proofs.Common.{ap, arith, le-ltb, eq-eqb}
use Rattle.laws.specs.Pick.{pick}
use Rattle.entry.specs.declared.flags.Stage.{Stage}
use Rattle.entry.specs.declared.flags.Stage.TheVariants.{Unconflicted, Base, Ours, Theirs}

-- bits 12 and 13
abbrev pub stage_raw : ℕ → ℕ
stage_raw flags = flags / 2 ^ 12 % 4

unfoldable pub stage_of : ℕ → Stage
stage_of flags = pick (eqb (stage_raw flags) 0) Unconflicted (pick (eqb (stage_raw flags) 1) Base (pick (eqb (stage_raw flags) 2) Ours Theirs))

abbrev pub extended : ℕ
extended = 14

abbrev pub removed : ℕ
removed = 17

-- whether bit k is set
abbrev pub bit : ℕ → ℕ → Bool
bit k flags = eqb (flags / 2 ^ k % 2) 1

-- the file's bits 12 to 15 are the record's; the low 12 are the path's length
abbrev pub to_memory : ℕ → ℕ
to_memory word = word / 2 ^ 12 * 2 ^ 12

-- of the 16 bits behind EXTENDED 13 and 14 become 29 and 30, and no other may be set
unfoldable pub extended_to_memory : ℕ → Option ℕ
extended_to_memory word = pick (ltb 32767 word) None (pick (eqb (word % 2 ^ 13) 0) (Some (word * 2 ^ 16)) None)

abbrev pub to_storage : ℕ → ℕ
to_storage flags = flags / 2 ^ 12 % 16 * 2 ^ 12

abbrev pub extended_to_storage : ℕ → ℕ
extended_to_storage flags = flags / 2 ^ 29 % 4 * 2 ^ 13

-- the bits that are kept: 12 to 15, 29 and 30
abbrev pub keep_flags : ℕ → ℕ
keep_flags flags = flags / 2 ^ 12 % 16 * 2 ^ 12 + flags / 2 ^ 29 % 4 * 2 ^ 29

-- what is read is kept
pub read_is_kept : (word more : ℕ) → word < 2 ^ 16 → more < 2 ^ 15 → more % 2 ^ 13 ≡ 0 → keep_flags (to_memory word + more * 2 ^ 16) ≡ to_memory word + more * 2 ^ 16
read_is_kept word more h k e = omega arith

-- what is stored, with any path length below 4096, is read back as what is kept
pub stored_is_kept : (flags len : ℕ) → len < 2 ^ 12 → to_memory (to_storage flags + len) + extended_to_storage flags * 2 ^ 16 ≡ keep_flags flags
stored_is_kept flags len h = omega arith

-- a writer's second word has no unknown bit
pub stored_is_known : (flags : ℕ) → extended_to_memory (extended_to_storage flags) ≡ Some (flags / 2 ^ 29 % 4 * 2 ^ 29)
unfolding extended_to_memory
stored_is_known flags =
    let word : ℕ = extended_to_storage flags in
    let e : word * 2 ^ 16 ≡ flags / 2 ^ 29 % 4 * 2 ^ 29 = omega arith in
    rw (le-ltb 32767 word (omega arith), eq-eqb (word % 2 ^ 13) 0 (omega arith)) (ap Some e)
