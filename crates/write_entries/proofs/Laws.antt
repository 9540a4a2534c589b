-- Laws of the entries' definitions, turned the way that the needs ask. Assumes nothing.
use Prim.Native.Nat.{ℕ, suc, ◌+◌, ◌-◌, ◌*◌, ◌%◌, ◌≤◌, ◌<◌, min}
use mathlib.Core.Bool.{Bool, true, false, not}
use mathlib.Core.Path.{◌≡◌, refl, sym, ap, ◌∙◌, subst}
use mathlib.Core.List.{List, [], ◌++◌, append_assoc, append-nil}
use native.Mathlib.Nat.{sub-zero}
use native.Mathlib.Omega.{arith}
use lib.Dec.{ltb, leb}
use lib.ListN.{length, take, drop, replicate, length-append, length-replicate, drop_of_length-le}
use lib.Seq.{paste, take_at, take_all, length-take-le}
use borrow.Author.Tests.{lt-leb, leb-true, ltb-true, ltb-false}
use Rattle.std.specs.Int.{next_multiple_of, from_bool}
use Rattle.laws.specs.Pick.{pick}
use Rattle.laws.specs.Paste.{paste_take, paste_then}
use Rattle.laws.specs.Put.{put, put_none, put_put, length-put, paste_put}
use Rattle.wire.specs.BigEndian.{bytes_of, length-bytes}
use Rattle.sums.specs.Cap.{cap}
use Rattle.format.specs.Format.{fixed_extended_size, fixed_size, fields_size, id_size}
use Rattle.entry.specs.Flags.{bit, extended, removed, to_storage, extended_to_storage}
use Rattle.entry.specs.Paths.{Paths}
use Rattle.entry.specs.Record.{records_in, flags_at, lies_inside, path_at}
use Rattle.write_entries.specs.Entries.{is_gone, fault_of, stated, fixed_of, front_at, flag_bytes, whole_of, entry_of, record_bytes, before_at, bytes_at, kept_of, version_with, size_run, size_table, put_one, put_entries, put_table}
use Rattle.write_entries.specs.Size.{length_front, length_flags, length_entry}
use Rattle.write_entries.specs.Fitting.{one_fits}
use Rattle.std.specs.Prelude.{Err, Ok, Result}
use Rattle.write_entries.specs.Made.{outside_at, sized_as}
use Rattle.write_entries.specs.declared.Outside.{Outside}
use Rattle.write_entries.specs.declared.Sized.{Sized}

-- ---- one record

pub stated_min : (n k : ℕ) → k ≡ min n 4095 → k ≡ stated n
unfolding stated
stated_min n k e = by (ltb n 4095) refl
  where
    by : (t : Bool) → ltb n 4095 ≡ t → k ≡ pick t n 4095
    by true q = omega (arith, ltb-true n 4095 q)
    by false q = omega (arith, ltb-false n 4095 q)

pub stated_small : (n k : ℕ) → k ≡ stated n → k ≤ 4095
unfolding stated
stated_small n k e = by (ltb n 4095) refl (omega arith)
  where
    by : (t : Bool) → ltb n 4095 ≡ t → k ≤ pick t n 4095 → k ≤ 4095
    by true q h = omega (arith, ltb-true n 4095 q)
    by false q h = h

module _ (flags : ℕ) (t : Bool) (e : t ≡ bit extended flags) where
  pub fixed_wide : t ≡ true → fixed_extended_size ≡ fixed_of id_size flags
  unfolding fixed_of
  fixed_wide h = sym (rw (sym e ∙ h))

  pub fixed_plain : t ≡ false → fixed_size ≡ fixed_of id_size flags
  unfolding fixed_of
  fixed_plain h = sym (rw (sym e ∙ h))

  pub version_three : (v : ℕ) → t ≡ true → 3 ≡ version_with flags v
  unfolding version_with
  version_three v h = sym (rw (sym e ∙ h))

  pub version_same : (v : ℕ) → t ≡ false → v ≡ version_with flags v
  unfolding version_with
  version_same v h = sym (rw (sym e ∙ h))

pub fixed_small : (flags : ℕ) → fixed_of id_size flags ≤ fixed_extended_size
unfolding fixed_of
fixed_small flags = by (bit extended flags)
  where
    by : (t : Bool) → pick t fixed_extended_size fixed_size ≤ fixed_extended_size
    by true = omega arith
    by false = omega arith

-- the code's next multiple of 8 behind the path and one NUL
pub whole_size : (flags fixed n r : ℕ) → fixed ≡ fixed_of id_size flags → r ≡ next_multiple_of (fixed + n + 1) 8 → r ≡ whole_of (fixed_of id_size flags) n
whole_size flags fixed n r e h = (let k : r ≡ whole_of fixed n = omega arith in k) ∙ ap (λ (k : ℕ). whole_of k n) e

pub fixed_bound : (flags fixed : ℕ) → fixed ≡ fixed_of id_size flags → fixed ≤ fixed_extended_size
fixed_bound flags fixed e = omega (arith, fixed_small flags)

-- no bytes are put anywhere, and none behind the output's end
none_put : (d : List ℕ) (k : ℕ) → (k, d) ≡ put_one k d []
unfolding put_one
none_put d k = by (leb (k + 0) (length d))
  where
    by : (t : Bool) → ◌≡◌ {A = ℕ × List ℕ} (k, d) (pick t (k + 0, put d k []) (k, d))
    by true = let a : k ≡ k + 0 = omega arith in λ j. (a j, sym (put_none d k) j)
    by false = refl

pub past_put : (d bytes : List ℕ) (k : ℕ) → length d < k → (k, d) ≡ put_one k d bytes
unfolding put_one
past_put d bytes k h = sym (rw (lt-leb (k + length bytes) (length d) (omega arith)))

module _ (rs : List ℕ) (ps : Paths) (i flags : ℕ) (f : flags ≡ flags_at rs i) (t : Bool) (e : t ≡ bit removed flags) where
  gone : {u : Bool} → t ≡ u → is_gone rs i ≡ u
  gone h = ap (λ (x : ℕ). bit removed x) (sym f) ∙ sym e ∙ h

  pub fault_gone : (before : List ℕ) → t ≡ true → false ≡ fault_of rs ps before i
  unfolding fault_of
  fault_gone before h = sym (rw (gone h))

  module _ (h : t ≡ false) (inside : Bool) (q : inside ≡ lies_inside rs ps i) where
    pub fault_none : (before : List ℕ) → inside ≡ true → false ≡ fault_of rs ps before i
    unfolding fault_of
    fault_none before k = sym (rw (gone h, sym q ∙ k))

    pub fault_outside : (before : List ℕ) → inside ≡ false → true ≡ fault_of rs ps before i
    unfolding fault_of
    fault_outside before k = sym (rw (gone h, sym q ∙ k))

  pub kept_is : (k : ℕ) → k ≡ from_bool (not t) → k ≡ kept_of rs i
  unfolding kept_of
  kept_is k h = by t refl ∙ ap (λ (u : Bool). pick u 0 1) (sym (gone refl))
    where
      by : (u : Bool) → t ≡ u → k ≡ pick u 0 1
      by true q = h ∙ ap (λ (v : Bool). from_bool (not v)) q
      by false q = h ∙ ap (λ (v : Bool). from_bool (not v)) q

  -- a record that is skipped
  module _ (before : List ℕ) (h : t ≡ true) where
    bytes_gone : record_bytes id_size rs ps before i ≡ []
    unfolding record_bytes
    bytes_gone = rw (gone h)

    pub size_gone : 0 ≡ length (record_bytes id_size rs ps before i)
    size_gone = sym (ap length bytes_gone)

    pub gone_put : (d : List ℕ) (k : ℕ) → (k, d) ≡ put_one k d (record_bytes id_size rs ps before i)
    gone_put d k = rw bytes_gone (none_put d k)

  -- a record that is written
  module _ (before : List ℕ) (h : t ≡ false) where
    bytes_kept : record_bytes id_size rs ps before i ≡ entry_of id_size rs i (path_at rs ps i)
    unfolding record_bytes
    bytes_kept = rw (gone h)

    module _ (low : i < records_in rs) (path : List ℕ) (p : path ≡ path_at rs ps i) where
      long : length (record_bytes id_size rs ps before i) ≡ whole_of (fixed_of id_size flags) (length path)
      long = ap length bytes_kept ∙ length_entry id_size rs i (path_at rs ps i) (omega arith) low ∙ (λ j. whole_of (fixed_of id_size (sym f j)) (length (sym p j)))

      module _ (size : ℕ) (es : size ≡ whole_of (fixed_of id_size flags) (length path)) where
        pub size_kept : size ≡ length (record_bytes id_size rs ps before i)
        size_kept = es ∙ sym long

        module _ (d : List ℕ) (k : ℕ) (inside : k ≤ length d) where
          pub kept_short : length d - k < size → (k, d) ≡ put_one k d (record_bytes id_size rs ps before i)
          unfolding put_one
          kept_short h = sym (rw (lt-leb (k + length (record_bytes id_size rs ps before i)) (length d) (omega (arith, size_kept))))

          module _ (fits : size ≤ length d - k) where
            pub kept_room : k + whole_of (fixed_of id_size flags) (length path) ≤ length d
            kept_room = let w : k + size ≤ length d = omega arith in subst (λ (m : ℕ). k + m ≤ length d) es w

            pub kept_put : (r : ℕ) (d₁ : List ℕ) → r ≡ k + whole_of (fixed_of id_size flags) (length path) → d₁ ≡ put d k (entry_of id_size rs i path) → (r, d₁) ≡ put_one k d (record_bytes id_size rs ps before i)
            kept_put r d₁ er e =
                let b : List ℕ = record_bytes id_size rs ps before i in
                let w : k + length (record_bytes id_size rs ps before i) ≤ length d = omega (arith, size_kept) in
                let q : d₁ ≡ put d k b = e ∙ (λ j. put d k (entry_of id_size rs i (p j))) ∙ ap (λ (xs : List ℕ). put d k xs) (sym bytes_kept) in
                let z : r ≡ k + length b = er ∙ ap (λ (m : ℕ). k + m) (sym long) in
                (λ j. (z j, q j)) ∙ sym (one_fits k d b w)

-- ---- the sizing pass

module _ (rs : List ℕ) (ps : Paths) (n i version count size : ℕ) (r : Result Sized Outside) (inv : size_run id_size rs ps (n - i) i version count size ≡ r) where
  size_end : n ≤ i → Ok (sized_as version count size) ≡ r
  unfolding size_run
  size_end h = let z : n - i ≡ 0 = omega arith in rw z at inv

  module _ (more : i < n) (t : Bool) (e : t ≡ fault_of rs ps (before_at rs ps i) i) where
    size_fault : t ≡ true → Err (outside_at i) ≡ r
    unfolding size_run
    size_fault h = let z : n - i ≡ suc (n - (i + 1)) = omega arith in sym (rw (z, sym e ∙ h)) ∙ inv

    size_more : t ≡ false → (flags version₁ kept one size₁ : ℕ) → flags ≡ flags_at rs i → version₁ ≡ version_with flags version → kept ≡ kept_of rs i → one ≡ length (record_bytes id_size rs ps (before_at rs ps i) i) → size₁ ≡ cap (size + one)
        → size_run id_size rs ps (n - (i + 1)) (i + 1) version₁ (count + kept) size₁ ≡ r
    unfolding size_run
    size_more h flags version₁ kept one size₁ ef ev ek eo es =
        let z : n - i ≡ suc (n - (i + 1)) = omega arith in
        let v : version₁ ≡ version_with (flags_at rs i) version = ev ∙ ap (λ (x : ℕ). version_with x version) ef in
        let s : size₁ ≡ cap (size + length (record_bytes id_size rs ps (before_at rs ps i) i)) = es ∙ ap (λ (x : ℕ). cap (size + x)) eo in
        (λ j. size_run id_size rs ps (n - (i + 1)) (i + 1) (v j) (count + ek j) (s j)) ∙ sym (rw (z, sym e ∙ h)) ∙ inv

pub kept_small : (rs : List ℕ) (i k : ℕ) → k ≡ kept_of rs i → k ≤ 1
unfolding kept_of
kept_small rs i k e = by (is_gone rs i) (omega arith)
  where
    by : (t : Bool) → k ≤ pick t 0 1 → k ≤ 1
    by true h = omega arith
    by false h = h

-- ---- an entry's bytes, as the code pastes them

-- a copy of n bytes puts those n bytes
pub copied : (d xs : List ℕ) (k n : ℕ) → n ≤ length xs → paste d k xs n ≡ put d k (take n xs)
copied d xs k n h = paste_take d k xs n ∙ paste_put d (take n xs) k n (sym (length-take-le n xs h))

module _ (rs : List ℕ) (i flags len : ℕ) (low : i < records_in rs) where
  abbrev front : List ℕ
  front = front_at id_size rs i

  abbrev word : List ℕ
  word = bytes_of 2 (to_storage flags + stated len)

  abbrev more : List ℕ
  more = bytes_of 2 (extended_to_storage flags)

  length_wide : length ((front ++ word) ++ more) ≡ fixed_extended_size
  length_wide = omega (arith, length-append (front ++ word) more, length-append front word, length_front id_size rs i (omega arith) low, length-bytes 2 (to_storage flags + stated len), length-bytes 2 (extended_to_storage flags))

  pub head_is : (d d₁ d₂ d₃ : List ℕ) (w s e : ℕ) → d ≡ replicate fixed_extended_size 0 → d₁ ≡ paste d 0 (drop (i * 96) rs) fields_size → d₂ ≡ paste d₁ fields_size (bytes_of 2 (w + s)) 2 → d₃ ≡ paste d₂ fixed_size (bytes_of 2 e) 2
      → w ≡ to_storage flags → s ≡ stated len → e ≡ extended_to_storage flags → d₃ ≡ (front ++ word) ++ more
  unfolding front_at
  head_is d d₁ d₂ d₃ w s e z e₁ e₂ e₃ ew es ee =
      let l : length d ≡ fixed_extended_size = ap length z ∙ length-replicate {A = ℕ} fixed_extended_size 0 in
      let lf : length front ≡ fields_size = length_front id_size rs i (omega arith) low in
      let lw : length word ≡ 2 = length-bytes 2 (to_storage flags + stated len) in
      let lm : length more ≡ 2 = length-bytes 2 (extended_to_storage flags) in
      let lfw : length (front ++ word) ≡ fixed_size = omega (arith, length-append front word) in
      let q₁ : d₁ ≡ paste d 0 front fields_size = e₁ ∙ paste_take d 0 (drop (i * 96) rs) fields_size in
      let q₂ : d₂ ≡ paste d₁ fields_size word 2 = e₂ ∙ (λ j. paste d₁ fields_size (bytes_of 2 (ew j + es j)) 2) in
      let q₃ : d₃ ≡ paste d₂ fixed_size more 2 = e₃ ∙ (λ j. paste d₂ fixed_size (bytes_of 2 (ee j)) 2) in
      let a : d₂ ≡ paste d 0 (front ++ word) fixed_size = paste_then d d₁ d₂ 0 fields_size front word fields_size 2 fixed_size q₁ q₂ refl refl lf (omega arith) (omega arith) in
      let b : d₃ ≡ paste d 0 ((front ++ word) ++ more) fixed_extended_size = paste_then d d₂ d₃ 0 fixed_size (front ++ word) more fixed_size 2 fixed_extended_size a q₃ refl refl lfw (omega arith) (omega arith) in
      b ∙ (λ j. take_all fixed_extended_size ((front ++ word) ++ more) (omega (arith, length_wide)) j ++ drop_of_length-le d {i = fixed_extended_size} (omega arith) j) ∙ append-nil ((front ++ word) ++ more)

  -- of the bytes that are made in any case those that are written
  pub head_part : take (fixed_of id_size flags) ((front ++ word) ++ more) ≡ front ++ flag_bytes flags len
  unfolding fixed_of flag_bytes
  head_part = by (bit extended flags)
    where
      by : (t : Bool) → take (pick t fixed_extended_size fixed_size) ((front ++ word) ++ more) ≡ front ++ (word ++ pick t more [])
      by true = take_all fixed_extended_size ((front ++ word) ++ more) (omega (arith, length_wide)) ∙ append_assoc front word more
      by false =
          take_at (front ++ word) more fixed_size (omega (arith, length-append front word, length_front id_size rs i (omega arith) low, length-bytes 2 (to_storage flags + stated len)))
          ∙ ap (λ (l : List ℕ). front ++ l) (sym (append-nil word))

module _ (rs path : List ℕ) (i flags : ℕ) (low : i < records_in rs) (f : flags ≡ flags_at rs i) (d d₁ d₂ d₃ head : List ℕ) (k fixed : ℕ) (ef : fixed ≡ fixed_of id_size flags)
    (room : k + whole_of (fixed_of id_size flags) (length path) ≤ length d)
    (eh : head ≡ (front_at id_size rs i ++ bytes_of 2 (to_storage flags + stated (length path))) ++ bytes_of 2 (extended_to_storage flags)) where
  pub head_fits : 0 + fixed ≤ length head
  head_fits = omega (arith, fixed_small flags, ap length eh, length_wide rs i flags (length path) low)

  pub entry_put : d₁ ≡ paste d k head fixed → d₂ ≡ paste d₁ (k + fixed) path (length path) → d₃ ≡ paste d₂ (k + fixed + length path) (replicate (8 - (fixed + length path) % 8) 0) (8 - (fixed + length path) % 8)
      → d₃ ≡ put d k (entry_of id_size rs i path)
  unfolding entry_of
  entry_put e₁ e₂ e₃ =
      let n : ℕ = length path in
      let pad : ℕ = 8 - (fixed + n) % 8 in
      let zeros : List ℕ = replicate (8 - (fixed + length path) % 8) 0 in
      let lz : length {A = ℕ} (replicate (8 - (fixed + length path) % 8) 0) ≡ 8 - (fixed + length path) % 8 = length-replicate {A = ℕ} (8 - (fixed + length path) % 8) 0 in
      let h : List ℕ = front_at id_size rs i ++ flag_bytes flags (length path) in
      let lh : length (front_at id_size rs i ++ flag_bytes flags (length path)) ≡ fixed
      = omega (arith, length-append (front_at id_size rs i) (flag_bytes flags (length path)), length_front id_size rs i (omega arith) low, length_flags id_size flags (length path)) in
      let lhead : length head ≡ fixed_extended_size = ap length eh ∙ length_wide rs i flags (length path) low in
      let th : take fixed head ≡ h = (λ j. take (ef j) (eh j)) ∙ head_part rs i flags (length path) low in
      let q₁ : d₁ ≡ put d k h = e₁ ∙ copied d head k fixed (omega (arith, fixed_small flags)) ∙ ap (λ (l : List ℕ). put d k l) th in
      let q₂ : d₂ ≡ put d k (h ++ path) = e₂ ∙ paste_put d₁ path (k + fixed) n refl ∙ (λ j. put (q₁ j) (k + sym lh j) path) ∙ put_put d h path k (omega arith) in
      let at : k + fixed + n ≡ k + length (h ++ path) = omega (arith, length-append h path) in
      let q₃ : d₃ ≡ put d k ((h ++ path) ++ zeros)
      = e₃ ∙ paste_put d₂ zeros (k + fixed + length path) (8 - (fixed + length path) % 8) (sym lz) ∙ (λ j. put (q₂ j) (at j) zeros) ∙ put_put d (h ++ path) zeros k (omega arith) in
      q₃ ∙ (λ j. put d k (((front_at id_size rs i ++ flag_bytes (f j) (length path)) ++ path) ++ replicate (8 - ((ef ∙ ap (λ (x : ℕ). fixed_of id_size x) f) j + length path) % 8) 0))

-- ---- the filling pass

-- the output stays as long as it is
one_long : (k : ℕ) (d bytes : List ℕ) → length (put_one k d bytes).1 ≡ length d
unfolding put_one
one_long k d bytes = by (leb (k + length bytes) (length d)) refl
  where
    by : (t : Bool) → leb (k + length bytes) (length d) ≡ t → length (pick {A = ℕ × List ℕ} t (k + length bytes, put d k bytes) (k, d)).1 ≡ length d
    by true q = length-put d bytes k (leb-true (k + length bytes) (length d) q)
    by false q = refl

-- the loop of the filling pass: putting what is left, from the present state, gives the whole answer
pub record Filling (rs : List ℕ) (ps : Paths) (out₀ : List ℕ) (from n : ℕ) (out : List ℕ) (k i : ℕ) : Type 0 where
  pub low : i ≤ n
  pub long : length out ≡ length out₀
  pub run : put_entries id_size rs ps (n - i) i k out ≡ put_entries id_size rs ps n 0 from out₀

module _ (rs : List ℕ) (ps : Paths) (out₀ : List ℕ) (from n : ℕ) where
  pub fill_start : Filling rs ps out₀ from n out₀ from 0
  fill_start = record { low = omega arith; long = refl; run = rw sub-zero }

  module _ (out : List ℕ) (k i : ℕ) (inv : Filling rs ps out₀ from n out k i) where
    pub fill_more : i < n → (out₁ : List ℕ) (k₁ : ℕ) → (k₁, out₁) ≡ put_one k out (record_bytes id_size rs ps (before_at rs ps i) i) → Filling rs ps out₀ from n out₁ k₁ (i + 1)
    unfolding put_entries
    fill_more h out₁ k₁ e =
        let z : n - i ≡ suc (n - (i + 1)) = omega arith in
        let b : List ℕ = bytes_at id_size rs ps i in
        record {
          low = omega arith;
          long = ap (λ (x : ℕ × List ℕ). length x.1) e ∙ one_long k out b ∙ inv.long;
          run = (λ j. put_entries id_size rs ps (n - (i + 1)) (i + 1) (e j).0 (e j).1) ∙ sym (rw z) ∙ inv.run;
        }

    pub fill_end : n ≤ i → n ≡ records_in rs → (k, out) ≡ put_table id_size rs ps from out₀
    unfolding put_entries
    fill_end h e = let z : n - i ≡ 0 = omega arith in sym (rw z) ∙ inv.run ∙ ap (λ (m : ℕ). put_entries id_size rs ps m 0 from out₀) e

-- the loop of the sizing pass: sizing what is left, from the present state, gives the whole answer
pub record Sizing (rs : List ℕ) (ps : Paths) (n version count size i : ℕ) : Type 0 where
  pub low : i ≤ n
  pub few : count ≤ i
  pub run : size_run id_size rs ps (n - i) i version count size ≡ size_run id_size rs ps n 0 2 0 12

pub sizing_start : (rs : List ℕ) (ps : Paths) (n : ℕ) → Sizing rs ps n 2 0 12 0
sizing_start rs ps n = record { low = omega arith; few = omega arith; run = rw sub-zero }

module _ (rs : List ℕ) (ps : Paths) (n version count size i : ℕ) (inv : Sizing rs ps n version count size i) where
  whole_run : n ≡ records_in rs → size_run id_size rs ps n 0 2 0 12 ≡ size_table id_size rs ps
  whole_run e = ap (λ (m : ℕ). size_run id_size rs ps m 0 2 0 12) e

  pub sizing_end : n ≤ i → n ≡ records_in rs → Ok (sized_as version count size) ≡ size_table id_size rs ps
  sizing_end h e = size_end rs ps n i version count size (size_run id_size rs ps n 0 2 0 12) inv.run h ∙ whole_run e

  module _ (more : i < n) (t : Bool) (e : t ≡ fault_of rs ps (before_at rs ps i) i) where
    pub sizing_fault : t ≡ true → n ≡ records_in rs → Err (outside_at i) ≡ size_table id_size rs ps
    sizing_fault h q = size_fault rs ps n i version count size (size_run id_size rs ps n 0 2 0 12) inv.run more t e h ∙ whole_run q

    pub sizing_more : t ≡ false → (flags version₁ kept one size₁ : ℕ) → flags ≡ flags_at rs i → version₁ ≡ version_with flags version → kept ≡ kept_of rs i → one ≡ length (record_bytes id_size rs ps (before_at rs ps i) i) → size₁ ≡ cap (size + one)
        → Sizing rs ps n version₁ (count + kept) size₁ (i + 1)
    sizing_more h flags version₁ kept one size₁ ef ev ek eo es =
        record {
          low = omega arith;
          few = omega (arith, inv.few, kept_small rs i kept ek);
          run = size_more rs ps n i version count size (size_run id_size rs ps n 0 2 0 12) inv.run more t e h flags version₁ kept one size₁ ef ev ek eo es;
        }

pub ruleset laws = (stated_min, fixed_wide, fixed_plain, whole_size, version_three, version_same, fault_gone, fault_none, fault_outside, kept_is, size_gone, gone_put, past_put, size_kept, kept_short, kept_room, kept_put, head_is, head_fits, entry_put, fill_start, fill_more, fill_end, sizing_start, sizing_end, sizing_fault, sizing_more)
