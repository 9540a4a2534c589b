-- What the writer writes of a record is spelled by the grammar as an entry, and what it writes of a table as so many entries, whatever version below 4 is written and whatever
-- path comes before. Assumes nothing.
use Prim.Native.Nat.{ℕ, zero, suc, ◌+◌, ◌-◌, ◌*◌, ◌/◌, ◌%◌, ◌^◌, ◌≤◌, ◌<◌}
use Rattle.std.specs.Prelude.{◌≡◌, Bool, length, replicate}
use Rattle.std.proofs.Math.Path.{refl}
use Rattle.std.proofs.Common.{sym, ap, ◌∙◌, subst, take_all, lt-ltb, le-ltb}
use Rattle.std.proofs.Math.Bool.{true, false}
use mathlib.Core.List.{List, [], ◌∷◌, ◌++◌, map, append_assoc, append-nil}
use native.Mathlib.Omega.{arith}
use Rattle.std.proofs.lemmas.List.{length-replicate}
use Rattle.laws.specs.Pick.{pick}
use Rattle.laws.specs.Tests.{Less, less, not_less, less?, Same, same, differs, same?}
use Rattle.laws.specs.Times.{done, more}
use Rattle.wire.specs.BigEndian.{be_at, bytes_of, length-bytes, be_bytes}
use Rattle.entry.specs.Flags.{to_storage, extended_to_storage, keep_flags}
use Rattle.entry.specs.Paths.{Paths}
use Rattle.entry.specs.Record.{records_in, field_at, flags_at, id_at, path_at}
use Rattle.entry.specs.Laws.{field_is, id_is}
use Rattle.grammar.specs.Number.{big_endian, BigEndian, big_endian_lem}
use Rattle.grammar.specs.Entry.{kept_mode, Fields, Flags, Before, full_field, Name, counted, ended, Entry, entry, behind, Entries}
use Rattle.grammar.specs.Entry.Flags.{plain as plain-flags, extended as extended-flags}
use Rattle.claims_entries.specs.Parts.{words_at, stat_at, be_is, fields_says}
use Rattle.write_entries.specs.Entries.{is_gone, stated, fixed_of, front_at, flag_bytes, pad_of, entry_of, record_bytes, entries_bytes, kept_of, count_of}
use Rattle.write_entries.specs.Size.{length_front, length_flags}
use Rattle.claims_write.specs.Meaning.{stat_of, written_flags, meaning_of, kept_from, PathEnds, PathsEnd}

-- ---- numbers

-- a number's bytes spell it, at any width
pub big : (w x : ℕ) → x < 256 ^ w → BigEndian w (bytes_of w x) x
big w x h =
    let b : List ℕ = bytes_of w x in
    let l : length b ≡ w = length-bytes w x in
    let e : big_endian b ≡ x = ap big_endian (sym (take_all w b (omega arith))) ∙ be_is w b 0 (omega arith) ∙ be_bytes w x h in
    subst (BigEndian w b) e (big_endian_lem l)

-- ---- the length that the flags state

stated_short : (len : ℕ) → len < full_field → stated len ≡ len
unfolding stated
stated_short len h = rw (lt-ltb len 4095 h)

stated_long : (len : ℕ) → full_field ≤ len → stated len ≡ full_field
unfolding stated
stated_long len h = rw (le-ltb len 4095 h)

stated_small : (len : ℕ) → stated len < 4096
unfolding stated
stated_small len = go (less? len 4095)
  where
    go : {t : Bool} → Less len 4095 t → pick t len 4095 < 4096
    go (less h) = omega arith
    go (not_less h) = omega arith

-- ---- the flags

flags_as : {b : List ℕ} {f g k l : ℕ} → Flags b f k → f ≡ g → k ≡ l → Flags b g l
flags_as {b} {f} {g} {k} {l} x p q = subst (λ (j : ℕ). Flags b g j) q (subst (λ (j : ℕ). Flags b j k) p x)

pub flags_spelled : (flags len : ℕ) → Flags (flag_bytes flags len) (written_flags flags) (stated len)
unfolding flag_bytes
flags_spelled flags len = go (same? (flags / 2 ^ 14 % 2) 1)
  where
    go : {t : Bool} → Same (flags / 2 ^ 14 % 2) 1 t → Flags (bytes_of 2 (to_storage flags + stated len) ++ pick t (bytes_of 2 (extended_to_storage flags)) []) (pick t (keep_flags flags) (to_storage flags)) (stated len)
    go (same e) =
        flags_as (extended-flags (big 2 (to_storage flags + stated len) (omega (arith, stated_small len))) (omega (arith, stated_small len)) (big 2 (extended_to_storage flags) (omega arith)) (record { not_bit_15 = omega arith; not_below_13 = omega arith }))
        (omega (arith, stated_small len)) (omega (arith, stated_small len))
    go (differs d) =
        let n : flags / 2 ^ 14 % 2 ≡ 0 = omega arith in
        subst (λ (b : List ℕ). Flags b (to_storage flags) (stated len)) (sym (append-nil (bytes_of 2 (to_storage flags + stated len))))
        (flags_as (plain-flags (big 2 (to_storage flags + stated len) (omega (arith, stated_small len))) (omega (arith, stated_small len))) (omega (arith, stated_small len)) (omega (arith, stated_small len)))

-- ---- the path

pub name_spelled : (version k : ℕ) (before : Before) (p : List ℕ) → (version ≡ 4 → ⊥) → PathEnds p → Name version k (stated (length p)) before (p ++ replicate (pad_of k (length p)) 0) p
name_spelled version k before p v ends = go (less? (length p) full_field)
  where
    go : {t : Bool} → Less (length p) full_field t → Name version k (stated (length p)) before (p ++ replicate (pad_of k (length p)) 0) p
    go (less h) =
        let l : length {A = ℕ} (replicate (pad_of k (length p)) 0) ≡ pad_of k (length p) = length-replicate {A = ℕ} (pad_of k (length p)) 0 in
        rw (stated_short (length p) h) (counted {s = p} {p = replicate (pad_of k (length p)) 0} v h refl (record { least = omega arith; most = omega arith; eights = omega arith }))
    go (not_less h) =
        let m : ℕ = pad_of k (length p) - 1 in
        let e : pad_of k (length p) ≡ suc m = omega arith in
        let l : length {A = ℕ} (replicate m 0) ≡ m = length-replicate {A = ℕ} m 0 in
        rw (stated_long (length p) h, e) (ended {s = p} {p = replicate m 0} v refl (ends h) (record { least = omega arith; most = omega arith; eights = omega arith }))

-- ---- the fields

module _ (rs : List ℕ) (i : ℕ) (here : i < records_in rs) where
  field_here : (k j : ℕ) → j ≡ i * 96 + k → be_at 4 rs j ≡ field_at 4 k rs i
  field_here k j e = ap (λ (a : ℕ). be_at 4 rs a) e ∙ sym (field_is 4 k rs i here)

  stat_here : stat_at rs (i * 96) ≡ stat_of rs i
  unfolding stat_at words_at stat_of
  stat_here =
      λ j. record {
        ctime = field_here 0 (i * 96) (omega arith) j;
        ctime_nanos = field_here 4 (i * 96 + 4) (omega arith) j;
        mtime = field_here 8 (i * 96 + 4 + 4) (omega arith) j;
        mtime_nanos = field_here 12 (i * 96 + 4 + 4 + 4) (omega arith) j;
        dev = field_here 16 (i * 96 + 4 + 4 + 4 + 4) (omega arith) j;
        ino = field_here 20 (i * 96 + 4 + 4 + 4 + 4 + 4) (omega arith) j;
        mode = kept_mode (field_here 24 (i * 96 + 4 + 4 + 4 + 4 + 4 + 4) (omega arith) j);
        uid = field_here 28 (i * 96 + 4 + 4 + 4 + 4 + 4 + 4 + 4) (omega arith) j;
        gid = field_here 32 (i * 96 + 4 + 4 + 4 + 4 + 4 + 4 + 4 + 4) (omega arith) j;
        size = field_here 36 (i * 96 + 4 + 4 + 4 + 4 + 4 + 4 + 4 + 4 + 4) (omega arith) j;
      }

  pub fields_spelled : (n : ℕ) → n ≤ 32 → Fields n (front_at n rs i) (stat_of rs i) (id_at n rs i)
  unfolding front_at
  fields_spelled n small = rw (← stat_here, id_is n rs i here) (fields_says n rs (i * 96) (omega arith))

-- ---- the entry

pub entry_spelled : (n version : ℕ) (before : Before) (rs : List ℕ) (ps : Paths) (i : ℕ) → n ≤ 32 → (version ≡ 4 → ⊥) → i < records_in rs → PathEnds (path_at rs ps i)
    → Entry n version before (entry_of n rs i (path_at rs ps i)) (meaning_of n rs ps i)
unfolding entry_of
entry_spelled n version before rs ps i small v here ends =
    let p : List ℕ = path_at rs ps i in
    let flags : ℕ = flags_at rs i in
    let f : List ℕ = front_at n rs i in
    let g : List ℕ = flag_bytes flags (length p) in
    let zeros : List ℕ = replicate (pad_of (fixed_of n flags) (length p)) 0 in
    let k : length f + length g ≡ fixed_of n flags = omega (arith, length_front n rs i small here, length_flags n flags (length p)) in
    let e : ((f ++ g) ++ p) ++ zeros ≡ f ++ (g ++ (p ++ zeros)) = append_assoc (f ++ g) p zeros ∙ append_assoc f g (p ++ zeros) in
    let path : Name version (length f + length g) (stated (length p)) before (p ++ zeros) p =
    subst (λ (j : ℕ). Name version j (stated (length p)) before (p ++ zeros) p) (sym k) (name_spelled version (fixed_of n flags) before p v ends) in
    subst (λ (b : List ℕ). Entry n version before b (meaning_of n rs ps i)) (sym e) (entry (fields_spelled rs i here n small) (flags_spelled flags (length p)) path)

-- ---- the table

module _ (n version : ℕ) (rs : List ℕ) (ps : Paths) (small : n ≤ 32) (v : version ≡ 4 → ⊥) (ends : PathsEnd rs ps) where
  pub entries_spelled : (k i : ℕ) (before : Before) → i + k ≤ records_in rs → Entries n version before (count_of rs k i) (entries_bytes n rs ps k i) (map (meaning_of n rs ps) (kept_from rs k i))
  unfolding count_of kept_of entries_bytes record_bytes kept_from
  entries_spelled zero i before h = done
  entries_spelled (suc k) i before h = by (is_gone rs i) refl (λ b. entries_spelled k (i + 1) b (omega arith))
    where
      by : (t : Bool) → is_gone rs i ≡ t → ((b : Before) → Entries n version b (count_of rs k (i + 1)) (entries_bytes n rs ps k (i + 1)) (map (meaning_of n rs ps) (kept_from rs k (i + 1))))
          → Entries n version before (pick t 0 1 + count_of rs k (i + 1)) (pick t [] (entry_of n rs i (path_at rs ps i)) ++ entries_bytes n rs ps k (i + 1))
          (map (meaning_of n rs ps) (pick t (kept_from rs k (i + 1)) (i ∷ kept_from rs k (i + 1))))
      by true e ih = let z : 0 + count_of rs k (i + 1) ≡ count_of rs k (i + 1) = omega arith in rw z (ih before)
      by false e ih =
          let z : 1 + count_of rs k (i + 1) ≡ suc (count_of rs k (i + 1)) = omega arith in
          rw z (more (entry_spelled n version before rs ps i small v (omega arith) (ends i (omega arith) e)) (ih (behind before (meaning_of n rs ps i))))
