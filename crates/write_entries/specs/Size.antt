-- How long what is written is, and what the sizing pass comes to: the first fault, or the version, the count and the length of header and entries. Over the id's
-- length and over all tables. Assumes nothing.
use Prim.Native.Nat.{ℕ, zero, suc, ◌+◌, ◌*◌, ◌≤◌, ◌<◌}
use Rattle.std.specs.Prelude.{Bool, ◌≡◌, replicate, Err, Ok, Result}
use Rattle.std.proofs.Math.Bool.{true, false}
use Rattle.std.proofs.Math.Path.{refl, sym, ap}
use Rattle.std.proofs.Common.{◌∙◌}
use mathlib.Core.List.{List, [], ◌++◌}
use native.Mathlib.Omega.{arith}
use Rattle.std.proofs.Math.ListN.{length, length-append}
use Rattle.std.proofs.lemmas.List.{length-replicate}
use Rattle.laws.specs.Pick.{pick}
use Rattle.laws.specs.Lists.{length_part}
use Rattle.wire.specs.BigEndian.{bytes_of, length-bytes}
use Rattle.sums.specs.Cap.{largest, cap, cap_fits, cap_small, cap_cap}
use Rattle.entry.specs.Flags.{bit, extended, to_storage, extended_to_storage}
use Rattle.entry.specs.Paths.{Paths}
use Rattle.entry.specs.Record.{records_in, flags_at}
use Rattle.write_entries.specs.Entries.{fault_of, stated, fixed_of, front_at, flag_bytes, pad_of, whole_of, entry_of, record_bytes, before_at, entries_bytes, kept_of, count_of, any_extended, version_with, found, first_fault, on_first, size_run}
use Rattle.write_entries.specs.Made.{outside_at, sized_as}
use Rattle.write_entries.specs.declared.Outside.{Outside}
use Rattle.write_entries.specs.declared.Sized.{Sized}

-- ---- an entry's length

pub length_front : (id : ℕ) (rs : List ℕ) (i : ℕ) → id ≤ 32 → i < records_in rs → length (front_at id rs i) ≡ 40 + id
unfolding front_at
length_front id rs i small h = length_part (40 + id) (i * 96) rs (omega arith)

-- with the fields and the id
pub length_flags : (id flags len : ℕ) → 40 + id + length (flag_bytes flags len) ≡ fixed_of id flags
unfolding flag_bytes fixed_of
length_flags id flags len = by (bit extended flags)
  where
    by : (t : Bool) → 40 + id + length (bytes_of 2 (to_storage flags + stated len) ++ pick t (bytes_of 2 (extended_to_storage flags)) []) ≡ pick t (44 + id) (42 + id)
    by true = omega (arith, length-append (bytes_of 2 (to_storage flags + stated len)) (bytes_of 2 (extended_to_storage flags)), length-bytes 2 (to_storage flags + stated len), length-bytes 2 (extended_to_storage flags))
    by false = omega (arith, length-append (bytes_of 2 (to_storage flags + stated len)) [], length-bytes 2 (to_storage flags + stated len))

-- for every length of the fixed part and of the path an entry is a multiple of 8 long, and has 1 to 8 NULs
pub whole_is : (fixed len : ℕ) → fixed + len + pad_of fixed len ≡ whole_of fixed len
whole_is fixed len = omega arith

pub length_entry : (id : ℕ) (rs : List ℕ) (i : ℕ) (p : List ℕ) → id ≤ 32 → i < records_in rs → length (entry_of id rs i p) ≡ whole_of (fixed_of id (flags_at rs i)) (length p)
unfolding entry_of
length_entry id rs i p small h =
    let fixed : ℕ = fixed_of id (flags_at rs i) in
    let front : List ℕ = front_at id rs i in
    let flags : List ℕ = flag_bytes (flags_at rs i) (length p) in
    let zeros : length {A = ℕ} (replicate (pad_of fixed (length p)) 0) ≡ pad_of fixed (length p) = length-replicate {A = ℕ} (pad_of fixed (length p)) 0 in
    let a : length ((front ++ flags) ++ p) ≡ fixed + length p
    = omega (arith, length-append (front ++ flags) p, length-append front flags, length_front id rs i small h, length_flags id (flags_at rs i) (length p)) in
    length-append ((front ++ flags) ++ p) (replicate (pad_of fixed (length p)) 0) ∙ omega (arith, whole_is fixed (length p))

-- ---- the whole table

-- 3 stays 3
three : (t : Bool) → ◌≡◌ {A = ℕ} (pick t 3 3) 3
three true = refl
three false = refl

module _ (id : ℕ) (rs : List ℕ) (ps : Paths) where
  abbrev plain : ℕ → ℕ → ℕ → ℕ → ℕ → Result Sized Outside
  plain n i version count size = on_first (first_fault rs ps n i) (λ k. Err (outside_at k)) (Ok (sized_as (pick (any_extended rs n i) 3 version) (count + count_of rs n i) (cap (size + length (entries_bytes id rs ps n i)))))

  version_more : (n i version : ℕ) → pick (any_extended rs n (i + 1)) 3 (version_with (flags_at rs i) version) ≡ pick (any_extended rs (suc n) i) 3 version
  unfolding version_with any_extended
  version_more n i version = by (bit extended (flags_at rs i))
    where
      by : (t : Bool) → pick (any_extended rs n (i + 1)) 3 (pick t 3 version) ≡ pick (pick t true (any_extended rs n (i + 1))) 3 version
      by true = three (any_extended rs n (i + 1))
      by false = refl

  pub size_is : (n i version count size : ℕ) → size ≤ largest → size_run id rs ps n i version count size ≡ plain n i version count size
  unfolding size_run first_fault any_extended count_of entries_bytes
  size_is zero i version count size h =
      let a : count ≡ count + 0 = omega arith in
      let b : size + 0 ≡ size = omega arith in
      let k : size ≡ cap (size + 0) = sym (cap_fits size h) ∙ ap cap (sym b) in
      (cc)
  size_is (suc n) i version count size h = by (λ v c s q. size_is n (i + 1) v c s q) (fault_of rs ps (before_at rs ps i) i)
    where
      by : ((v c s : ℕ) → s ≤ largest → size_run id rs ps n (i + 1) v c s ≡ plain n (i + 1) v c s) → (t : Bool)
          → pick t (Err (outside_at i)) (size_run id rs ps n (i + 1) (version_with (flags_at rs i) version) (count + kept_of rs i) (cap (size + length (record_bytes id rs ps (before_at rs ps i) i))))
          ≡ on_first (pick t (found i) (first_fault rs ps n (i + 1))) (λ k. Err (outside_at k)) (Ok (sized_as (pick (any_extended rs (suc n) i) 3 version) (count + (kept_of rs i + count_of rs n (i + 1))) (cap (size + length (record_bytes id rs ps (before_at rs ps i) i ++ entries_bytes id rs ps n (i + 1))))))
      by ih true = refl
      by ih false =
          let one : List ℕ = record_bytes id rs ps (before_at rs ps i) i in
          let rest : List ℕ = entries_bytes id rs ps n (i + 1) in
          let a : pick (any_extended rs n (i + 1)) 3 (version_with (flags_at rs i) version) ≡ pick (any_extended rs (suc n) i) 3 version = version_more n i version in
          let b : count + kept_of rs i + count_of rs n (i + 1) ≡ count + (kept_of rs i + count_of rs n (i + 1)) = omega arith in
          let l : size + length one + length rest ≡ size + length (one ++ rest) = omega (arith, length-append one rest) in
          let k : cap (cap (size + length one) + length rest) ≡ cap (size + length (one ++ rest)) = cap_cap (size + length one) (length rest) ∙ ap cap l in
          ih (version_with (flags_at rs i) version) (count + kept_of rs i) (cap (size + length one)) (cap_small (size + length one)) ∙ (λ j. on_first (first_fault rs ps n (i + 1)) (λ k. Err (outside_at k)) (Ok (sized_as (a j) (b j) (k j))))
