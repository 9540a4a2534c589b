-- Short is said only of what may yet change: every other answer of the measure stays the same in any longer space with the same bytes in front. So a Fault is
-- never mended by what follows, and an Entry is never lost. Assumes nothing.
use Prim.Native.Nat.{ℕ, zero, suc, ◌+◌, ◌-◌, ◌*◌, ◌/◌, ◌%◌, ◌^◌, ◌≤◌, ◌<◌}
use Rattle.std.proofs.Math.Path.{◌≡◌, refl, ap}
use Rattle.std.proofs.Common.{sym, ◌∙◌, add-zero, lt-ltb, le-ltb, ltb-true, ne_eqb}
use Rattle.std.specs.Prelude.{Bool, List, ◌∷◌, length, drop, ltb, eqb, Err, None, Ok, Option, Result, Some}
use Rattle.std.proofs.Math.Bool.{true, false}
use native.Mathlib.Omega.{arith}
use Rattle.std.proofs.Math.ListN.{get_or}
use Rattle.std.proofs.lemmas.Bool.{eqb-false}
use Rattle.laws.specs.Pick.{pick}
use Rattle.laws.specs.Lists.{drop-next}
use Rattle.laws.specs.Tests.{Less, less, not_less, less?}
use Rattle.slices.specs.Bytes.{nul_in, nul_at}
use Rattle.wire.specs.Places.{file_at}
use Rattle.wire.specs.BigEndian.{be_at, be_same}
use Rattle.wire.specs.Groups.{groups_in, number_at}
use Rattle.entry.specs.Flags.{bit, extended, to_memory, extended_to_memory}
use Rattle.measure.specs.Entry.{on_extended, extended_at, head_with, head_at, whole_of, padded_to, on_ends, on_number, on_left, on_head, padded_at, kept_of, suffixed_at, compressed_at, measure_at}
use Rattle.measure.specs.Numbers.{groups_fit, groups_cut_fit, NumberFits, CutFits}
use Rattle.measure.specs.Inside.{head_all}
use Rattle.measure.specs.Made.{fixed_head, measured_as}
use Rattle.measure.specs.declared.Head.{Head}
use Rattle.measure.specs.declared.Measured.{Measured}
use Rattle.measure.specs.declared.Unspelled.{Unspelled}
use Rattle.measure.specs.declared.Unspelled.TheVariants.{Fault, Short}
use Rattle.wire.specs.declared.NumberError.{NumberError}
use Rattle.wire.specs.declared.NumberError.TheVariants.{Cut, Over}

-- two bytes that come to a multiple of 32 * 256: the lower is 0
lower_none : (b d : ℕ) → d < 256 → (b * 256 + d) % 8192 ≡ 0 → b * 256 % 8192 ≡ 0
lower_none b d h e =
    let q : ℕ = (b * 256 + d) / 8192 in
    let f : b * 256 + d ≡ q * 8192 = omega arith in
    let g : q * 32 < b + 1 = omega arith in
    let y : b * 256 + d ≡ b * 256 = omega arith in
    sym (ap (λ (x : ℕ). x % 8192) y) ∙ e

-- a longer space, up to `stop` in t, that has the bytes of s before `end` in front
pub record Continues (s t : List ℕ) (end stop : ℕ) : Type 0 where
  pub known : end ≤ length s
  pub longer : end ≤ stop
  pub there : stop ≤ length t
  pub same : (k : ℕ) → k < end → get_or t k 0 ≡ get_or s k 0
  pub bytes : (k : ℕ) → get_or t k 0 < 256

abbrev pub go_on : Result (ℕ × ℕ) NumberError → (ℕ → Result (ℕ × ℕ) NumberError) → Result (ℕ × ℕ) NumberError
go_on (Ok (v, e)) k = Ok (v, e)
go_on (Err (Cut a)) k = k a
go_on (Err Over) k = Err Over

abbrev pub go_on_ends : Option ℕ → Option ℕ → Option ℕ
go_on_ends (Some z) r = Some z
go_on_ends None r = r

module _ (s t : List ℕ) (end stop : ℕ) (c : Continues s t end stop) where
  next_s : (i : ℕ) → i < end → drop i s ≡ get_or s i 0 ∷ drop (i + 1) s
  next_s i h = drop-next s i (omega (arith, c.known))

  next_t : (i : ℕ) → i < end → drop i t ≡ get_or s i 0 ∷ drop (i + 1) t
  next_t i h = drop-next t i (omega (arith, c.longer, c.there)) ∙ ap (λ (x : ℕ). x ∷ drop (i + 1) t) (c.same i h)

  -- a number that is cut goes on behind `end`, and any other stays
  pub number_on : (n i a : ℕ) → end - i ≡ n → i ≤ end → groups_in (stop - i) (drop i t) i a ≡ go_on (groups_in (end - i) (drop i s) i a) (λ b. groups_in (stop - end) (drop end t) end b)
  unfolding groups_in
  number_on zero i a e h =
      let z : i ≡ end = omega arith in
      let y : end - i ≡ 0 = e in
      rw y (ap (λ (x : ℕ). groups_in (stop - x) (drop x t) x a) z)
  number_on (suc n) i a e h =
      let l : i < end = omega arith in
      let p : end - i ≡ suc (end - (i + 1)) = omega arith in
      let q : stop - i ≡ suc (stop - (i + 1)) = omega (arith, c.longer) in
      let x : ℕ = get_or s i 0 in
      let v : ℕ = a * 128 + x % 128 in
      rw (p, q, next_s i l, next_t i l) (by x v (ltb x 128) (ltb v (2 ^ 57 - 1)) (number_on n (i + 1) (v + 1) (omega arith) (omega arith)))
    where
      by : (x v : ℕ) (t₁ t₂ : Bool) → groups_in (stop - (i + 1)) (drop (i + 1) t) (i + 1) (v + 1) ≡ go_on (groups_in (end - (i + 1)) (drop (i + 1) s) (i + 1) (v + 1)) (λ b. groups_in (stop - end) (drop end t) end b)
          → pick t₁ (Ok (v, i + 1)) (pick t₂ (groups_in (stop - (i + 1)) (drop (i + 1) t) (i + 1) (v + 1)) (Err Over))
          ≡ go_on (pick t₁ (Ok (v, i + 1)) (pick t₂ (groups_in (end - (i + 1)) (drop (i + 1) s) (i + 1) (v + 1)) (Err Over))) (λ b. groups_in (stop - end) (drop end t) end b)
      by x v true t₂ ih = refl
      by x v false true ih = ih
      by x v false false ih = refl

  -- a NUL that is found stays
  pub nul_on : (n i : ℕ) → end - i ≡ n → i ≤ end → nul_in (stop - i) (drop i t) i ≡ go_on_ends (nul_in (end - i) (drop i s) i) (nul_in (stop - end) (drop end t) end)
  unfolding nul_in
  nul_on zero i e h =
      let z : i ≡ end = omega arith in
      let y : end - i ≡ 0 = e in
      rw y (ap (λ (x : ℕ). nul_in (stop - x) (drop x t) x) z)
  nul_on (suc n) i e h =
      let l : i < end = omega arith in
      let p : end - i ≡ suc (end - (i + 1)) = omega arith in
      let q : stop - i ≡ suc (stop - (i + 1)) = omega (arith, c.longer) in
      rw (p, q, next_s i l, next_t i l) (by (eqb (get_or s i 0) 0) (nul_on n (i + 1) (omega arith) (omega arith)))
    where
      by : (t₁ : Bool) → nul_in (stop - (i + 1)) (drop (i + 1) t) (i + 1) ≡ go_on_ends (nul_in (end - (i + 1)) (drop (i + 1) s) (i + 1)) (nul_in (stop - end) (drop end t) end)
          → pick t₁ (Some i) (nul_in (stop - (i + 1)) (drop (i + 1) t) (i + 1)) ≡ go_on_ends (pick t₁ (Some i) (nul_in (end - (i + 1)) (drop (i + 1) s) (i + 1))) (nul_in (stop - end) (drop end t) end)
      by true ih = refl
      by false ih = ih

  pub word_same : (k : ℕ) → k + 2 ≤ end → be_at 2 t k ≡ be_at 2 s k
  word_same k h = be_same 2 t s k k (λ m l. c.same (k + m) (omega arith))

  -- ---- the fixed part: what is not unfinished stays

  -- an upper byte that spoils the bits after EXTENDED spoils them with any lower byte
  spoiled_byte : (b d : ℕ) → d < 256 → extended_to_memory (b * 256) ≡ None → extended_to_memory (b * 256 + d) ≡ None
  unfolding extended_to_memory
  spoiled_byte b d hd e = by (ltb 32767 (b * 256)) (eqb (b * 256 % 8192) 0) refl refl e
    where
      low : (u : Bool) → (b * 256 % 8192 ≡ 0 → ⊥) → pick u None (pick (eqb ((b * 256 + d) % 8192) 0) (Some ((b * 256 + d) * 65536)) None) ≡ None
      low true n = refl
      low false n = rw (ne_eqb ((b * 256 + d) % 8192) 0 (λ q. n (lower_none b d hd q)))

      by : (u v : Bool) → ltb 32767 (b * 256) ≡ u → eqb (b * 256 % 8192) 0 ≡ v → pick u None (pick v (Some (b * 256 * 65536)) None) ≡ None
          → pick (ltb 32767 (b * 256 + d)) None (pick (eqb ((b * 256 + d) % 8192) 0) (Some ((b * 256 + d) * 65536)) None) ≡ None
      by true v f g q = rw (lt-ltb 32767 (b * 256 + d) (omega (arith, ltb-true 32767 (b * 256) f)))
      by false true f g q = let z : ◌≡◌ {A = ℕ} 0 1 = cc in absurd (omega arith)
      by false false f g q = low (ltb 32767 (b * 256 + d)) (eqb-false (b * 256 % 8192) 0 g)

  pub word_of : (k : ℕ) → be_at 2 t k ≡ get_or t k 0 * 256 + get_or t (k + 1) 0
  unfolding be_at
  word_of k = rw (add-zero k) (omega arith)

  extended_stays : (id j kept field : ℕ) → j ≤ end → (extended_at id s j end kept field ≡ Err Short → ⊥) → extended_at id t j stop kept field ≡ extended_at id s j end kept field
  unfolding extended_at
  extended_stays id j kept field h n = none (less? (end - j) 1) (less? (end - j) 2) n
    where
      lower : (x : Option ℕ) → x ≡ extended_to_memory (get_or s j 0 * 256) → j < end → {u : Bool} → Less (stop - j) 2 u → (on_extended x (Err Fault) (λ bits. Err Short) ≡ Err Short → ⊥)
          → pick u (on_extended (extended_to_memory (get_or t j 0 * 256)) (Err Fault) (λ bits. Err Short)) (on_extended (extended_to_memory (be_at 2 t j)) (Err Fault) (λ bits. Ok (fixed_head (kept + bits) (44 + id) field))) ≡ on_extended x (Err Fault) (λ bits. Err Short)
      lower (Some b) e l k m = absurd (m refl)
      lower None e l (less k) m = rw (c.same j l, ← e)
      lower None e l (not_less k) m =
          let g : get_or t j 0 ≡ get_or s j 0 = c.same j l in
          let f : extended_to_memory (be_at 2 t j) ≡ None = ap extended_to_memory (word_of j ∙ ap (λ (x : ℕ). x * 256 + get_or t (j + 1) 0) g) ∙ spoiled_byte (get_or s j 0) (get_or t (j + 1) 0) (c.bytes (j + 1)) (sym e) in
          rw f

      none : {u v : Bool} → Less (end - j) 1 u → Less (end - j) 2 v
          → (pick u (Err Short) (pick v (on_extended (extended_to_memory (get_or s j 0 * 256)) (Err Fault) (λ bits. Err Short)) (on_extended (extended_to_memory (be_at 2 s j)) (Err Fault) (λ bits. Ok (fixed_head (kept + bits) (44 + id) field)))) ≡ Err Short → ⊥)
          → pick (ltb (stop - j) 1) (Err Short) (pick (ltb (stop - j) 2) (on_extended (extended_to_memory (get_or t j 0 * 256)) (Err Fault) (λ bits. Err Short)) (on_extended (extended_to_memory (be_at 2 t j)) (Err Fault) (λ bits. Ok (fixed_head (kept + bits) (44 + id) field))))
          ≡ pick u (Err Short) (pick v (on_extended (extended_to_memory (get_or s j 0 * 256)) (Err Fault) (λ bits. Err Short)) (on_extended (extended_to_memory (be_at 2 s j)) (Err Fault) (λ bits. Ok (fixed_head (kept + bits) (44 + id) field))))
      none (less a) b m = absurd (m refl)
      none (not_less a) (less b) m = rw (le-ltb (stop - j) 1 (omega (arith, c.longer))) (lower (extended_to_memory (get_or s j 0 * 256)) refl (omega arith) (less? (stop - j) 2) m)
      none (not_less a) (not_less b) m = rw (le-ltb (stop - j) 1 (omega (arith, c.longer)), le-ltb (stop - j) 2 (omega (arith, c.longer)), word_same j (omega arith))

  pub head_stays : (id i : ℕ) → (head_at id s i end ≡ Err Short → ⊥) → head_at id t i stop ≡ head_at id s i end
  unfolding head_at head_with
  head_stays id i n = by (less? (length s) end) (less? end i) (less? (end - i) (42 + id)) n
    where
      tail : (w : ℕ) (u : Bool) → i + (42 + id) ≤ end
          → (pick u (extended_at id s (i + (42 + id)) end (to_memory w) (w % 4096)) (Ok (fixed_head (to_memory w) (42 + id) (w % 4096))) ≡ Err Short → ⊥)
          → pick u (extended_at id t (i + (42 + id)) stop (to_memory w) (w % 4096)) (Ok (fixed_head (to_memory w) (42 + id) (w % 4096))) ≡ pick u (extended_at id s (i + (42 + id)) end (to_memory w) (w % 4096)) (Ok (fixed_head (to_memory w) (42 + id) (w % 4096)))
      tail w true h m = extended_stays id (i + (42 + id)) (to_memory w) (w % 4096) h m
      tail w false h m = refl

      by : {u v w : Bool} → Less (length s) end u → Less end i v → Less (end - i) (42 + id) w
          → (pick u (Err Short) (pick v (Err Short) (pick w (Err Short) (head_with id s i end (be_at 2 s (i + (40 + id)))))) ≡ Err Short → ⊥)
          → pick (ltb (length t) stop) (Err Short) (pick (ltb stop i) (Err Short) (pick (ltb (stop - i) (42 + id)) (Err Short) (head_with id t i stop (be_at 2 t (i + (40 + id))))))
          ≡ pick u (Err Short) (pick v (Err Short) (pick w (Err Short) (head_with id s i end (be_at 2 s (i + (40 + id))))))
      by (less a) b d m = absurd (m refl)
      by (not_less a) (less b) d m = absurd (m refl)
      by (not_less a) (not_less b) (less d) m = absurd (m refl)
      by (not_less a) (not_less b) (not_less d) m =
          rw (le-ltb (length t) stop c.there, le-ltb stop i (omega (arith, c.longer)), le-ltb (stop - i) (42 + id) (omega (arith, c.longer)), word_same (i + (40 + id)) (omega arith))
          (tail (be_at 2 s (i + (40 + id))) (bit extended (to_memory (be_at 2 s (i + (40 + id))))) (omega arith) m)

  -- ---- the path

  padded_stays : (i flags size len : ℕ) → i ≤ end → (padded_to i end flags size len ≡ Err Short → ⊥) → padded_to i stop flags size len ≡ padded_to i end flags size len
  unfolding padded_to
  padded_stays i flags size len h n = by (less? (end - i) (whole_of size len)) n
    where
      by : {u : Bool} → Less (end - i) (whole_of size len) u → (pick u (Err Short) (Ok (measured_as flags 0 (file_at (i + size)) len (file_at (i + whole_of size len)))) ≡ Err Short → ⊥)
          → pick (ltb (stop - i) (whole_of size len)) (Err Short) (Ok (measured_as flags 0 (file_at (i + size)) len (file_at (i + whole_of size len)))) ≡ pick u (Err Short) (Ok (measured_as flags 0 (file_at (i + size)) len (file_at (i + whole_of size len))))
      by (less a) m = absurd (m refl)
      by (not_less a) m = rw (le-ltb (stop - i) (whole_of size len) (omega (arith, c.longer)))

  plain_stays : (i flags size field : ℕ) → i + size ≤ end → (padded_at s i end flags size field ≡ Err Short → ⊥) → padded_at t i stop flags size field ≡ padded_at s i end flags size field
  unfolding padded_at nul_at
  plain_stays i flags size field h n = by (eqb field 4095) (nul_in (end - (i + size)) (drop (i + size) s) (i + size)) (nul_on (end - (i + size)) (i + size) refl h) n
    where
      by : (u : Bool) (x : Option ℕ) → nul_in (stop - (i + size)) (drop (i + size) t) (i + size) ≡ go_on_ends x (nul_in (stop - end) (drop end t) end)
          → (pick u (on_ends x (Err Short) (λ z. padded_to i end flags size (z - (i + size)))) (padded_to i end flags size field) ≡ Err Short → ⊥)
          → pick u (on_ends (nul_in (stop - (i + size)) (drop (i + size) t) (i + size)) (Err Short) (λ z. padded_to i stop flags size (z - (i + size)))) (padded_to i stop flags size field)
          ≡ pick u (on_ends x (Err Short) (λ z. padded_to i end flags size (z - (i + size)))) (padded_to i end flags size field)
      by true (Some z) e m = rw e (padded_stays i flags size (z - (i + size)) (omega arith) m)
      by true None e m = absurd (m refl)
      by false x e m = padded_stays i flags size field (omega arith) m

  suffix_stays : (x flags keep : ℕ) → x ≤ end → (suffixed_at s x end flags keep ≡ Err Short → ⊥) → suffixed_at t x stop flags keep ≡ suffixed_at s x end flags keep
  unfolding suffixed_at nul_at
  suffix_stays x flags keep h n = by (nul_in (end - x) (drop x s) x) (nul_on (end - x) x refl h) n
    where
      by : (y : Option ℕ) → nul_in (stop - x) (drop x t) x ≡ go_on_ends y (nul_in (stop - end) (drop end t) end)
          → (on_ends y (Err Short) (λ z. Ok (measured_as flags keep (file_at x) (z - x) (file_at (z + 1)))) ≡ Err Short → ⊥)
          → on_ends (nul_in (stop - x) (drop x t) x) (Err Short) (λ z. Ok (measured_as flags keep (file_at x) (z - x) (file_at (z + 1)))) ≡ on_ends y (Err Short) (λ z. Ok (measured_as flags keep (file_at x) (z - x) (file_at (z + 1))))
      by (Some z) e m = rw e
      by None e m = absurd (m refl)

  -- a strip that is too long stays too long when it grows
  few_grows : (first : Bool) (prev a b : ℕ) → a ≤ b → kept_of first prev a ≡ None → kept_of first prev b ≡ None
  unfolding kept_of
  few_grows true prev a b h e = let z : ◌≡◌ {A = ℕ} 0 1 = cc in absurd (omega arith)
  few_grows false prev a b h e = by (less? prev a) e
    where
      by : {u : Bool} → Less prev a u → pick u None (Some (prev - a)) ≡ None → pick (ltb prev b) None (Some (prev - b)) ≡ None
      by (less k) q = rw (lt-ltb prev b (omega arith))
      by (not_less k) q = let z : ◌≡◌ {A = ℕ} 0 1 = cc in absurd (omega arith)

  -- what the number comes to, in the order of version 4
  abbrev stripped : List ℕ → ℕ → ℕ → Bool → ℕ → Result (ℕ × ℕ) NumberError → Result Measured Unspelled
  stripped l e flags first prev n =
      on_number n (λ v x. on_left (kept_of first prev v) (Err Fault) (λ keep. suffixed_at l x e flags keep)) (λ a. on_left (kept_of first prev (a * 128)) (Err Fault) (λ keep. Err Short)) (Err Fault)

  -- a number that went on behind a strip that is too long already
  few_on : (flags : ℕ) (first : Bool) (prev a : ℕ) → a < 2 ^ 57 → kept_of first prev (a * 128) ≡ None → (n : Result (ℕ × ℕ) NumberError) → groups_in (stop - end) (drop end t) end a ≡ n → stripped t stop flags first prev n ≡ Err Fault
  few_on flags first prev a h e (Ok (v, x)) q = let f : NumberFits end (stop - end) a v x = groups_fit (stop - end) (drop end t) end a v x h q in rw (few_grows first prev (a * 128) v f.least e)
  few_on flags first prev a h e (Err (Cut b)) q = let f : CutFits a b = groups_cut_fit (stop - end) (drop end t) end a b h q in rw (few_grows first prev (a * 128) (b * 128) (omega (arith, f.least)) e)
  few_on flags first prev a h e (Err Over) q = refl

  strip_stays : (from flags : ℕ) (first : Bool) (prev : ℕ) → from ≤ end → (compressed_at s from end flags first prev ≡ Err Short → ⊥) → compressed_at t from stop flags first prev ≡ compressed_at s from end flags first prev
  unfolding compressed_at number_at
  strip_stays from flags first prev h n = by (groups_in (end - from) (drop from s) from 0) refl (number_on (end - from) from 0 refl h) n
    where
      kept : (v x : ℕ) → x ≤ end → (k : Option ℕ) → (on_left k (Err Fault) (λ keep. suffixed_at s x end flags keep) ≡ Err Short → ⊥) → on_left k (Err Fault) (λ keep. suffixed_at t x stop flags keep) ≡ on_left k (Err Fault) (λ keep. suffixed_at s x end flags keep)
      kept v x l (Some b) m = suffix_stays x flags b l m
      kept v x l None m = refl

      part : (a : ℕ) → a < 2 ^ 57 → (k : Option ℕ) → kept_of first prev (a * 128) ≡ k → (on_left k (Err Fault) (λ keep. Err Short) ≡ Err Short → ⊥) → stripped t stop flags first prev (groups_in (stop - end) (drop end t) end a) ≡ on_left k (Err Fault) (λ keep. Err Short)
      part a l (Some b) q m = absurd (m refl)
      part a l None q m = few_on flags first prev a l q (groups_in (stop - end) (drop end t) end a) refl

      by : (y : Result (ℕ × ℕ) NumberError) → groups_in (end - from) (drop from s) from 0 ≡ y → groups_in (stop - from) (drop from t) from 0 ≡ go_on y (λ b. groups_in (stop - end) (drop end t) end b) → (stripped s end flags first prev y ≡ Err Short → ⊥)
          → stripped t stop flags first prev (groups_in (stop - from) (drop from t) from 0) ≡ stripped s end flags first prev y
      by (Ok (v, x)) q e m = rw e (kept v x (omega (arith, (groups_fit (end - from) (drop from s) from 0 v x (omega arith) q).within)) (kept_of first prev v) m)
      by (Err (Cut a)) q e m = rw e (part a (groups_cut_fit (end - from) (drop from s) from 0 a (omega arith) q).small (kept_of first prev (a * 128)) refl m)
      by (Err Over) q e m = rw e

  -- THE THEOREM
  pub settled : (id i version : ℕ) (first : Bool) (prev : ℕ) → (measure_at id s i end version first prev ≡ Err Short → ⊥) → measure_at id t i stop version first prev ≡ measure_at id s i end version first prev
  unfolding measure_at
  settled id i version first prev n = by (head_at id s i end) refl (head_stays id i) n
    where
      rest : (u : Bool) (flags size field : ℕ) → i + size ≤ end → (pick u (compressed_at s (i + size) end flags first prev) (padded_at s i end flags size field) ≡ Err Short → ⊥)
          → pick u (compressed_at t (i + size) stop flags first prev) (padded_at t i stop flags size field) ≡ pick u (compressed_at s (i + size) end flags first prev) (padded_at s i end flags size field)
      rest true flags size field h m = strip_stays (i + size) flags first prev h m
      rest false flags size field h m = plain_stays i flags size field h m

      by : (x : Result Head Unspelled) → head_at id s i end ≡ x → ((head_at id s i end ≡ Err Short → ⊥) → head_at id t i stop ≡ head_at id s i end)
          → (on_head x (Err Short) (Err Fault) (λ flags size field. pick (eqb version 4) (compressed_at s (i + size) end flags first prev) (padded_at s i end flags size field)) ≡ Err Short → ⊥)
          → on_head (head_at id t i stop) (Err Short) (Err Fault) (λ flags size field. pick (eqb version 4) (compressed_at t (i + size) stop flags first prev) (padded_at t i stop flags size field))
          ≡ on_head x (Err Short) (Err Fault) (λ flags size field. pick (eqb version 4) (compressed_at s (i + size) end flags first prev) (padded_at s i end flags size field))
      by (Ok h) q e m =
          let y : head_at id t i stop ≡ Ok (fixed_head h.flags h.size h.field) = e (λ w. let z : ◌≡◌ {A = ℕ} 0 1 = cc in omega arith) ∙ q in
          rw y (rest (eqb version 4) h.flags h.size h.field (head_all id s i end h.flags h.size h.field q).inside m)
      by (Err Short) q e m = absurd (m refl)
      by (Err Fault) q e m = let y : head_at id t i stop ≡ Err Fault = e (λ w. let z : ◌≡◌ {A = ℕ} 0 1 = cc in omega arith) ∙ q in rw y

  -- so a fault is never mended
  pub fault_stays : (id i version : ℕ) (first : Bool) (prev : ℕ) → measure_at id s i end version first prev ≡ Err Fault → measure_at id t i stop version first prev ≡ Err Fault
  fault_stays id i version first prev e = settled id i version first prev (λ q. let z : ◌≡◌ {A = ℕ} 0 1 = cc in omega arith) ∙ e
