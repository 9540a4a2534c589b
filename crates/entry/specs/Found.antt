-- The record store keeps what it is given: each field, the id and the path of a record that was put are found, and every other record is as it was; over the
-- length of an id. Assumes nothing.
use Rattle.std.specs.Prelude.{◌≡◌, refl, Bool, true, List, ◌++◌, ◌⊎◌, ℕ, ◌+◌, ◌-◌, ◌*◌, ◌/◌, ◌^◌, ◌≤◌, ◌<◌, length, take, drop, replicate, ltb}
use Rattle.std.proofs.Common.{sym, ◌∙◌, inl, inr, add_assoc, length-append, lit≤, ext_get_or, le-leb}
use Rattle.std.proofs.Math.Path.{ap}
use Rattle.std.proofs.Math.Logic.{⊎_elim}
use native.Mathlib.Omega.{arith}
use Rattle.std.proofs.Math.ListN.{get_or, get_or-append}
use Rattle.std.proofs.Math.Seq.{paste}
use Rattle.std.proofs.lemmas.List.Edits.{length-paste}
use Rattle.laws.specs.Pick.{pick}
use Rattle.laws.specs.Tests.{Less, less, not_less, less?, AtMost, at_most, above, at_most?, lt_or_ge}
use Rattle.laws.specs.Lists.{length_part, get_d_part, get_or_right}
use Rattle.laws.specs.Paste.{get_or-before, get_or-pasted, get_d_after}
use Rattle.wire.specs.BigEndian.{be_at, bytes_of, length-bytes, be_same, be_left, be_right, be_bytes, be_pasted}
use Rattle.entry.specs.Flags.{stage_raw}
use Rattle.entry.specs.Mode.{mode_in}
use Rattle.entry.specs.Paths.{Paths, lying_in}
use Rattle.entry.specs.Record.{front_of, rest_of, record_of, put_record, field_at, flags_at, mode_at, stage_at, start_at, end_at, id_at, lies_inside, path_at}
use Rattle.entry.specs.Stat.{stat_at, stat_in}
use Rattle.entry.specs.Laws.{mode_small, length_front, length-zeros, to_flags, to_start, to_end, length_record, put_is_paste, field_is, id_is, id_out, inside_is, path_is}

-- the w bytes at k are the same in the entry and its record: they lie before the mode, or behind it and in the fields or the id
abbrev pub Copied : ℕ → ℕ → ℕ → Type 0
Copied id w k = (k + w ≤ 24) ⊎ ((28 ≤ k) × (k + w ≤ 40 + id))

-- ---- a record's own bytes

module _ (id : ℕ) (s : List ℕ) (at : ℕ) (hs : at + (40 + id) ≤ length s) where
  abbrev early : List ℕ
  early = take 24 (drop at s)

  abbrev late : List ℕ
  late = take (12 + id) (drop (at + 28) s)

  length-early : length early ≡ 24
  length-early = length_part 24 at s (omega arith)

  to_mode : length (early ++ bytes_of 4 (mode_in s at)) ≡ 28
  to_mode = simp length-append (omega (arith, length-early, length-bytes 4 (mode_in s at)))

  front_early : (k : ℕ) → k < 24 → get_or (front_of id s at) k 0 ≡ get_or s (at + k) 0
  unfolding front_of
  front_early k h =
      get_or-append (early ++ bytes_of 4 (mode_in s at)) late 0 k (omega (arith, to_mode))
      ∙ get_or-append early (bytes_of 4 (mode_in s at)) 0 k (omega (arith, length-early))
      ∙ get_d_part s at 24 k h

  front_late : (k : ℕ) → 28 ≤ k → k < 40 + id → get_or (front_of id s at) k 0 ≡ get_or s (at + k) 0
  unfolding front_of
  front_late k h l =
      let q : k ≡ 28 + (k - 28) = omega arith in
      let p : at + 28 + (k - 28) ≡ at + k = omega arith in
      ap (λ (n : ℕ). get_or (early ++ bytes_of 4 (mode_in s at) ++ late) n 0) q
      ∙ get_or_right (early ++ bytes_of 4 (mode_in s at)) late 28 (k - 28) to_mode
      ∙ get_d_part s (at + 28) (12 + id) (k - 28) (omega arith)
      ∙ ap (λ (n : ℕ). get_or s n 0) p

  front_mode : be_at 4 (front_of id s at) 24 ≡ mode_in s at
  unfolding front_of
  front_mode =
      be_left 4 (early ++ bytes_of 4 (mode_in s at)) late 24 (omega (arith, to_mode))
      ∙ be_right 4 early (bytes_of 4 (mode_in s at)) 24 0 length-early
      ∙ be_bytes 4 (mode_in s at) (mode_small (be_at 4 s (at + 24)))

module _ (id flags start end : ℕ) (hid : id ≤ 32) where
  abbrev gap : List ℕ
  gap = replicate (32 - id) 0

  rest_flags : flags < 2 ^ 32 → be_at 4 (rest_of id flags start end) (32 - id + 0) ≡ flags
  unfolding rest_of
  rest_flags h =
      be_left 4 (gap ++ bytes_of 4 flags ++ bytes_of 8 start ++ bytes_of 8 end) (replicate 4 0) (32 - id + 0) (omega (arith, to_end id flags start end hid))
      ∙ be_left 4 (gap ++ bytes_of 4 flags ++ bytes_of 8 start) (bytes_of 8 end) (32 - id + 0) (omega (arith, to_start id flags start end hid))
      ∙ be_left 4 (gap ++ bytes_of 4 flags) (bytes_of 8 start) (32 - id + 0) (omega (arith, to_flags id flags start end hid))
      ∙ be_right 4 gap (bytes_of 4 flags) (32 - id) 0 (length-zeros id flags start end hid)
      ∙ be_bytes 4 flags h

  rest_start : start < 2 ^ 64 → be_at 8 (rest_of id flags start end) (36 - id + 0) ≡ start
  unfolding rest_of
  rest_start h =
      be_left 8 (gap ++ bytes_of 4 flags ++ bytes_of 8 start ++ bytes_of 8 end) (replicate 4 0) (36 - id + 0) (omega (arith, to_end id flags start end hid))
      ∙ be_left 8 (gap ++ bytes_of 4 flags ++ bytes_of 8 start) (bytes_of 8 end) (36 - id + 0) (omega (arith, to_start id flags start end hid))
      ∙ be_right 8 (gap ++ bytes_of 4 flags) (bytes_of 8 start) (36 - id) 0 (to_flags id flags start end hid)
      ∙ be_bytes 8 start h

  rest_end : end < 2 ^ 64 → be_at 8 (rest_of id flags start end) (44 - id + 0) ≡ end
  unfolding rest_of
  rest_end h =
      be_left 8 (gap ++ bytes_of 4 flags ++ bytes_of 8 start ++ bytes_of 8 end) (replicate 4 0) (44 - id + 0) (omega (arith, to_end id flags start end hid))
      ∙ be_right 8 (gap ++ bytes_of 4 flags ++ bytes_of 8 start) (bytes_of 8 end) (44 - id) 0 (to_start id flags start end hid)
      ∙ be_bytes 8 end h

-- the rest behind any front of 40 + id bytes
module _ (front : List ℕ) (id flags start end : ℕ) (hid : id ≤ 32) (hf : length front ≡ 40 + id) where
  abbrev rest : List ℕ
  rest = rest_of id flags start end

  -- what stands at k in the rest stands at 40 + id + k in the record
  behind : (w k n : ℕ) → n ≡ 40 + id + k → be_at w (front ++ rest) n ≡ be_at w rest k
  behind w k n e = ap (λ (m : ℕ). be_at w (front ++ rest) m) e ∙ be_right w front rest (40 + id) k hf

  pub flags_behind : flags < 2 ^ 32 → be_at 4 (front ++ rest) 72 ≡ flags
  flags_behind h = behind 4 (32 - id + 0) 72 (omega arith) ∙ rest_flags id flags start end hid h

  pub start_behind : start < 2 ^ 64 → be_at 8 (front ++ rest) 76 ≡ start
  start_behind h = behind 8 (36 - id + 0) 76 (omega arith) ∙ rest_start id flags start end hid h

  pub end_behind : end < 2 ^ 64 → be_at 8 (front ++ rest) 84 ≡ end
  end_behind h = behind 8 (44 - id + 0) 84 (omega arith) ∙ rest_end id flags start end hid h

module _ (id : ℕ) (s : List ℕ) (at flags start end : ℕ) (hid : id ≤ 32) (hs : at + (40 + id) ≤ length s) where
  abbrev whole : List ℕ
  whole = record_of id s at flags start end

  record_byte : (k : ℕ) → (k < 24) ⊎ ((28 ≤ k) × (k < 40 + id)) → get_or whole k 0 ≡ get_or s (at + k) 0
  unfolding record_of
  record_byte k c =
      ⊎_elim
      (λ h. get_or-append (front_of id s at) (rest_of id flags start end) 0 k (omega (arith, length_front id s at hs)) ∙ front_early id s at hs k h)
      (λ h. get_or-append (front_of id s at) (rest_of id flags start end) 0 k (omega (arith, h.1, length_front id s at hs)) ∙ front_late id s at hs k h.0 h.1)
      c

  record_copied : (w k : ℕ) → Copied id w k → be_at w whole k ≡ be_at w s (at + k)
  record_copied w k c =
      be_same w whole s k (at + k)
      (λ m l. record_byte (k + m) (⊎_elim (λ h. inl (omega arith)) (λ h. inr (omega (arith, h.0), omega (arith, h.1))) c)
      ∙ ap (λ (n : ℕ). get_or s n 0) (sym (add_assoc at k m)))

  record_mode : be_at 4 whole 24 ≡ mode_in s at
  unfolding record_of
  record_mode = be_left 4 (front_of id s at) (rest_of id flags start end) 24 (omega (arith, length_front id s at hs)) ∙ front_mode id s at hs

  record_flags : flags < 2 ^ 32 → be_at 4 whole 72 ≡ flags
  unfolding record_of
  record_flags h = flags_behind (front_of id s at) id flags start end hid (length_front id s at hs) h

  record_start : start < 2 ^ 64 → be_at 8 whole 76 ≡ start
  unfolding record_of
  record_start h = start_behind (front_of id s at) id flags start end hid (length_front id s at hs) h

  record_end : end < 2 ^ 64 → be_at 8 whole 84 ≡ end
  unfolding record_of
  record_end h = end_behind (front_of id s at) id flags start end hid (length_front id s at hs) h

-- ---- any 96 bytes put as record i

module _ (rs : List ℕ) (i : ℕ) (x : List ℕ) (hx : length x ≡ 96) (hi : i < length rs / 96) where
  abbrev written : List ℕ
  written = paste rs (i * 96) x 96

  pub length-put : length written ≡ length rs
  length-put = length-paste rs (i * 96) x 96 (omega arith) (omega arith)

  -- a field of record i is a number of the bytes that were put
  pub field_put : (w k : ℕ) → k + w ≤ 96 → field_at w k written i ≡ be_at w x k
  field_put w k h = field_is w k written i (rw length-put hi) ∙ be_pasted w rs (i * 96) x 96 (omega arith) (omega arith) k h

  pub id_put : (n : ℕ) → n ≤ 56 → id_at n written i ≡ take n (drop 40 x)
  id_put n h =
      id_is n written i (rw length-put hi)
      ∙ ext_get_or 0 (take n (drop (i * 96 + 40) written)) (take n (drop 40 x)) (length_part n (i * 96 + 40) written (omega (arith, length-put)) ∙ sym (length_part n 40 x (omega arith)))
      (λ k l.
      let q : k < n = omega (arith, length_part n (i * 96 + 40) written (omega (arith, length-put))) in
      get_d_part written (i * 96 + 40) n k q ∙ ap (λ (m : ℕ). get_or written m 0) (add_assoc (i * 96) 40 k) ∙ get_or-pasted rs (i * 96) x 96 (40 + k) (omega arith) (omega arith) (omega arith) ∙ sym (get_d_part x 40 n k q))

  module _ (j : ℕ) (apart : (j < i) ⊎ (i < j)) where
    byte_kept : (k : ℕ) → k < 96 → get_or written (j * 96 + k) 0 ≡ get_or rs (j * 96 + k) 0
    byte_kept k h =
        ⊎_elim (λ l. get_or-before rs (i * 96) x 96 (j * 96 + k) (omega arith) (omega arith)) (λ l. get_d_after rs (i * 96) x 96 (j * 96 + k) (omega arith) (omega arith) (omega arith)) apart

    -- a field of another record is as it was
    pub field_kept : (w k : ℕ) → k + w ≤ 96 → field_at w k written j ≡ field_at w k rs j
    unfolding field_at
    field_kept w k h =
        rw length-put
        (ap (λ (n : ℕ). pick (ltb j (length rs / 96)) n 0)
        (be_same w written rs (j * 96 + k) (j * 96 + k) (λ m l. rw (add_assoc (j * 96) k m) (byte_kept (k + m) (omega arith)))))

    pub path_kept : (ps : Paths) → path_at written ps j ≡ path_at rs ps j
    unfolding path_at lies_inside
    path_kept ps = rw (length-put, field_kept 8 76 (lit≤ tt), field_kept 8 84 (lit≤ tt))

    pub inside_kept : (ps : Paths) → lies_inside written ps j ≡ lies_inside rs ps j
    unfolding lies_inside
    inside_kept ps = rw (length-put, field_kept 8 76 (lit≤ tt), field_kept 8 84 (lit≤ tt))

    id_kept_in : (n : ℕ) → n ≤ 56 → j < length rs / 96 → id_at n written j ≡ id_at n rs j
    id_kept_in n h l =
        let p = length_part n (j * 96 + 40) written (omega (arith, length-put)) in
        id_is n written j (rw length-put l)
        ∙ ext_get_or 0 (take n (drop (j * 96 + 40) written)) (take n (drop (j * 96 + 40) rs)) (p ∙ sym (length_part n (j * 96 + 40) rs (omega arith)))
        (λ k m.
        let q : k < n = omega (arith, p) in
        get_d_part written (j * 96 + 40) n k q ∙ rw (add_assoc (j * 96) 40 k) (byte_kept (40 + k) (omega arith)) ∙ sym (rw (add_assoc (j * 96) 40 k) at (get_d_part rs (j * 96 + 40) n k q)))
        ∙ sym (id_is n rs j l)

    pub id_kept : (n : ℕ) → n ≤ 56 → id_at n written j ≡ id_at n rs j
    id_kept n h = ⊎_elim (λ l. id_kept_in n h l) (λ l. sym (id_out n written j (rw length-put l)) ∙ id_out n rs j l) (lt_or_ge j (length rs / 96))

-- ---- a record that was put, or was not: every other record is as it was

module _ (id : ℕ) (s : List ℕ) (at flags start end : ℕ) (rs : List ℕ) (i : ℕ) (hid : id ≤ 32) where
  abbrev after : List ℕ
  after = put_record id s at flags start end rs i

  abbrev pasted : List ℕ
  pasted = paste rs (i * 96) (record_of id s at flags start end) 96

  put_or_not : (P : List ℕ → Type 0) → P rs → (at + (40 + id) ≤ length s → i < length rs / 96 → P pasted) → P after
  unfolding put_record
  put_or_not P p f = by (at_most? (at + (40 + id)) (length s)) (less? i (length rs / 96))
    where
      by : {t u : Bool} → AtMost (at + (40 + id)) (length s) t → Less i (length rs / 96) u → P (pick t (pick u pasted rs) rs)
      by (at_most h) (less k) = f h k
      by (at_most h) (not_less k) = p
      by (above h) k = p

  pub kept_length : length after ≡ length rs
  kept_length = put_or_not (λ l. length l ≡ length rs) refl (λ h k. length-put rs i (record_of id s at flags start end) (length_record id s at flags start end hid h) k)

  module _ (j : ℕ) (apart : (j < i) ⊎ (i < j)) where
    pub kept_field : (w k : ℕ) → k + w ≤ 96 → field_at w k after j ≡ field_at w k rs j
    kept_field w k l = put_or_not (λ q. field_at w k q j ≡ field_at w k rs j) refl (λ h m. field_kept rs i (record_of id s at flags start end) (length_record id s at flags start end hid h) m j apart w k l)

    pub kept_id : (n : ℕ) → n ≤ 56 → id_at n after j ≡ id_at n rs j
    kept_id n l = put_or_not (λ q. id_at n q j ≡ id_at n rs j) refl (λ h m. id_kept rs i (record_of id s at flags start end) (length_record id s at flags start end hid h) m j apart n l)

    pub kept_path : (ps : Paths) → path_at after ps j ≡ path_at rs ps j
    kept_path ps = put_or_not (λ q. path_at q ps j ≡ path_at rs ps j) refl (λ h m. path_kept rs i (record_of id s at flags start end) (length_record id s at flags start end hid h) m j apart ps)

    pub kept_inside : (ps : Paths) → lies_inside after ps j ≡ lies_inside rs ps j
    kept_inside ps = put_or_not (λ q. lies_inside q ps j ≡ lies_inside rs ps j) refl (λ h m. inside_kept rs i (record_of id s at flags start end) (length_record id s at flags start end hid h) m j apart ps)

  -- ---- where the entry's bytes and the record are there, what was put is found

  module _ (hs : at + (40 + id) ≤ length s) (hi : i < length rs / 96) where
    abbrev bytes : List ℕ
    bytes = record_of id s at flags start end

    full : length bytes ≡ 96
    full = length_record id s at flags start end hid hs

    is_paste : after ≡ pasted
    is_paste = put_is_paste id s at flags start end rs i hs (omega arith)

    found : (w k : ℕ) → k + w ≤ 96 → field_at w k after i ≡ be_at w bytes k
    found w k h = ap (λ (q : List ℕ). field_at w k q i) is_paste ∙ field_put rs i bytes full hi w k h

    pub put_field : (w k : ℕ) → Copied id w k → field_at w k after i ≡ be_at w s (at + k)
    put_field w k c = found w k (⊎_elim (λ h. omega arith) (λ h. omega (arith, h.1)) c) ∙ record_copied id s at flags start end hid hs w k c

    pub put_mode : mode_at after i ≡ mode_in s at
    put_mode = found 4 24 (lit≤ tt) ∙ record_mode id s at flags start end hid hs

    pub put_flags : flags < 2 ^ 32 → flags_at after i ≡ flags
    put_flags h = found 4 72 (lit≤ tt) ∙ record_flags id s at flags start end hid hs h

    pub put_stage : flags < 2 ^ 32 → stage_at after i ≡ stage_raw flags
    put_stage h = ap stage_raw (put_flags h)

    pub put_start : start < 2 ^ 64 → start_at after i ≡ start
    put_start h = found 8 76 (lit≤ tt) ∙ record_start id s at flags start end hid hs h

    pub put_end : end < 2 ^ 64 → end_at after i ≡ end
    put_end h = found 8 84 (lit≤ tt) ∙ record_end id s at flags start end hid hs h

    early_field : (k : ℕ) → k + 4 ≤ 24 → field_at 4 k after i ≡ be_at 4 s (at + k)
    early_field k h = put_field 4 k (inl h)

    late_field : (k : ℕ) → 28 ≤ k → k + 4 ≤ 40 → field_at 4 k after i ≡ be_at 4 s (at + k)
    late_field k h l = put_field 4 k (inr (h, omega arith))

    pub put_stat : stat_at after i ≡ stat_in s at
    put_stat =
        rw
        (early_field 0 (lit≤ tt), early_field 4 (lit≤ tt), early_field 8 (lit≤ tt), early_field 12 (lit≤ tt), early_field 16 (lit≤ tt), early_field 20 (lit≤ tt), late_field 28 (lit≤ tt) (lit≤ tt), late_field 32 (lit≤ tt) (lit≤ tt), late_field 36 (lit≤ tt) (lit≤ tt))

    pub put_id : id_at id after i ≡ take id (drop (at + 40) s)
    put_id =
        let p = length_part id 40 bytes (omega (arith, full)) in
        ap (λ (q : List ℕ). id_at id q i) is_paste
        ∙ id_put rs i bytes full hi id (omega arith)
        ∙ ext_get_or 0 (take id (drop 40 bytes)) (take id (drop (at + 40) s)) (p ∙ sym (length_part id (at + 40) s (omega arith)))
        (λ k m.
        let q : k < id = omega (arith, p) in
        get_d_part bytes 40 id k q
        ∙ record_byte id s at flags start end hid hs (40 + k) (inr (omega arith, omega arith))
        ∙ sym (rw (add_assoc at 40 k) at (get_d_part s (at + 40) id k q)))

    module _ (store : List ℕ) (hse : start ≤ end) (hep : end ≤ length store) (small : end < 2 ^ 64) where
      there : i < length after / 96
      there = rw kept_length hi

      starts : start ≡ start_at after i
      starts = sym (put_start (omega arith))

      ends : end ≡ end_at after i
      ends = sym (put_end small)

      pub put_inside : lies_inside after (lying_in store) i ≡ true
      put_inside = sym (inside_is after store i there start end starts ends hse) ∙ le-leb end (length store) hep

      pub put_path : path_at after (lying_in store) i ≡ take (end - start) (drop start store)
      put_path = sym (path_is after store i there start end starts ends hse hep)
