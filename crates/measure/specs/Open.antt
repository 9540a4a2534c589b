-- Short is said only of what may yet be spelled: behind it enough zero bytes make an entry. Assumes nothing.
use Prim.Native.Nat.{ℕ, zero, suc, ◌+◌, ◌-◌, ◌*◌, ◌%◌, ◌≤◌, ◌<◌}
use Rattle.std.proofs.Math.Path.{◌≡◌, refl, ap}
use Rattle.std.proofs.Common.{sym, ◌∙◌, ⊎_elim, arith, length-append, length-take-le, get_or-take, lit<}
use Rattle.std.specs.Prelude.{Bool, List, ◌++◌, length, take, drop, replicate, eqb, Err, None, Ok, Option, Result, Some}
use Rattle.std.proofs.Math.Bool.{true, false}
use Rattle.std.proofs.Math.ListN.{get_or, get_or-append}
use Rattle.std.proofs.lemmas.List.{length-replicate}
use borrow.Author.Tests.{le-ltb}
use Rattle.laws.specs.Pick.{pick}
use Rattle.laws.specs.Lists.{get_or_right}
use Rattle.laws.specs.Tests.{Less, less, not_less, less?, lt_or_ge}
use Rattle.slices.specs.Bytes.{nul_in, nul_at}
use Rattle.slices.specs.Laws.{nul_here, nul_bounds}
use Rattle.wire.specs.Places.{file_at}
use Rattle.wire.specs.BigEndian.{be_at}
use Rattle.wire.specs.Groups.{groups_in, number_at, groups_end}
use Rattle.wire.specs.declared.FileAt.{FileAt}
use Rattle.entry.specs.Flags.{bit, extended, to_memory, extended_to_memory}
use Rattle.measure.specs.Entry.{on_extended, extended_at, head_with, head_at, whole_of, padded_to, on_ends, on_number, on_left, on_head, padded_at, kept_of, suffixed_at, compressed_at, measure_at}
use Rattle.measure.specs.Numbers.{groups_fit}
use Rattle.measure.specs.Inside.{HeadAll, head_all, Padded, padding}
use Rattle.measure.specs.Settled.{Continues, go_on, go_on_ends, number_on, nul_on, word_same, word_of, head_stays}
use Rattle.measure.specs.Made.{fixed_head, measured_as}
use Rattle.measure.specs.declared.Head.{Head}
use Rattle.measure.specs.declared.Measured.{Measured}
use Rattle.measure.specs.declared.Unspelled.{Unspelled}
use Rattle.measure.specs.declared.Unspelled.TheVariants.{Fault, Short}
use Rattle.wire.specs.declared.NumberError.{NumberError}
use Rattle.wire.specs.declared.NumberError.TheVariants.{Cut, Over}

-- an entry was measured
pub data Spelled : Result Measured Unspelled → Type 0 where
  spelled : {flags keep : ℕ} {suffix : FileAt} {len : ℕ} {next : FileAt} → Spelled (Ok (measured_as flags keep suffix len next))

-- a strip of nothing is never too long
kept_none : (first : Bool) (prev : ℕ) (P : Option ℕ → Type 0) → ((b : ℕ) → P (Some b)) → P (kept_of first prev 0)
unfolding kept_of
kept_none true prev P f = f 0
kept_none false prev P f = rw (le-ltb prev 0 (omega arith)) (f (prev - 0))

module _ (id : ℕ) (s t : List ℕ) (end stop : ℕ) (c : Continues s t end stop) (far : end + (4200 + id) ≤ stop) (zeros : (k : ℕ) → end ≤ k → get_or t k 0 ≡ 0) where
  -- behind `end` a number ends at once, and so does a text
  zero_number : (i a : ℕ) → end ≤ i → i < stop → groups_in (stop - i) (drop i t) i a ≡ Ok (a * 128, i + 1)
  zero_number i a h l =
      let e : a * 128 + 0 % 128 ≡ a * 128 = omega arith in
      groups_end t i stop a 0 (sym (zeros i h)) l c.there (lit< tt) ∙ ap (λ (x : ℕ). Ok (x, i + 1)) e

  zero_nul : (i : ℕ) → end ≤ i → i < stop → nul_in (stop - i) (drop i t) i ≡ Some i
  zero_nul i h l = sym (nul_here t i stop (nul_in (stop - i) (drop i t) i) refl l c.there (zeros i h))

  zero_word : (j : ℕ) → end ≤ j → be_at 2 t j ≡ 0
  zero_word j h = word_of s t end stop c j ∙ omega (arith, zeros j h, zeros (j + 1) (omega arith))

  pad_spelled : (i flags size len : ℕ) → size + len + 8 ≤ stop - i → Spelled (padded_to i stop flags size len)
  unfolding padded_to
  pad_spelled i flags size len h = let p : Padded size len (whole_of size len) = padding size len in rw (le-ltb (stop - i) (whole_of size len) (omega (arith, p.eight))) spelled

  suffix_spelled : (x flags keep : ℕ) → end ≤ x → x < stop → Spelled (suffixed_at t x stop flags keep)
  unfolding suffixed_at nul_at
  suffix_spelled x flags keep h l = rw (zero_nul x h l) spelled

  -- ---- where the fixed part was not finished, all that follows is zero
  record Opened (i : ℕ) : Type 0 where
    flags : ℕ
    size : ℕ
    field : ℕ
    head : head_at id t i stop ≡ Ok (fixed_head flags size field)
    past : end ≤ i + size
    most : size ≤ 44 + id
    short : field < 4096

  -- the bits after EXTENDED, where their word passes
  extended_good : (j kept field b : ℕ) → j + 2 ≤ stop → extended_to_memory (be_at 2 t j) ≡ Some b → extended_at id t j stop kept field ≡ Ok (fixed_head (kept + b) (44 + id) field)
  unfolding extended_at
  extended_good j kept field b h e = rw (le-ltb (stop - j) 1 (omega arith), le-ltb (stop - j) 2 (omega arith), e)

  none_kept : extended_to_memory 0 ≡ Some 0
  unfolding extended_to_memory
  none_kept = refl

  extended_open : (j kept field : ℕ) → j ≤ end → extended_at id s j end kept field ≡ Err Short → (b : ℕ) × (extended_to_memory (be_at 2 t j) ≡ Some b) × (end < j + 2)
  unfolding extended_at
  extended_open j kept field h e = by (less? (end - j) 1) (less? (end - j) 2) e
    where
      one : (x : Option ℕ) → extended_to_memory (get_or s j 0 * 256) ≡ x → j + 1 ≡ end → on_extended x (Err Fault) (λ bits. Err Short) ≡ Err Short → (b : ℕ) × (extended_to_memory (be_at 2 t j) ≡ Some b) × (end < j + 2)
      one (Some b) q l m =
          let w : be_at 2 t j ≡ get_or s j 0 * 256 = word_of s t end stop c j ∙ omega (arith, c.same j (omega arith), zeros (j + 1) (omega arith)) in
          (b, ap extended_to_memory w ∙ q, omega arith)
      one None q l m = let z : ◌≡◌ {A = ℕ} 0 1 = cc in absurd (omega arith)

      two : (x : Option ℕ) → on_extended x (Err Fault) (λ bits. Ok (fixed_head (kept + bits) (44 + id) field)) ≡ Err Short → ⊥
      two (Some b) m = let z : ◌≡◌ {A = ℕ} 0 1 = cc in omega arith
      two None m = let z : ◌≡◌ {A = ℕ} 0 1 = cc in omega arith

      by : {u v : Bool} → Less (end - j) 1 u → Less (end - j) 2 v
          → pick u (Err Short) (pick v (on_extended (extended_to_memory (get_or s j 0 * 256)) (Err Fault) (λ bits. Err Short)) (on_extended (extended_to_memory (be_at 2 s j)) (Err Fault) (λ bits. Ok (fixed_head (kept + bits) (44 + id) field)))) ≡ Err Short
          → (b : ℕ) × (extended_to_memory (be_at 2 t j) ≡ Some b) × (end < j + 2)
      by (less a) d m = (0, ap extended_to_memory (zero_word j (omega arith)) ∙ none_kept, omega arith)
      by (not_less a) (less d) m = one (extended_to_memory (get_or s j 0 * 256)) refl (omega arith) m
      by (not_less a) (not_less d) m = absurd (two (extended_to_memory (be_at 2 s j)) m)

  open_with : (i w : ℕ) → i ≤ end → head_at id t i stop ≡ pick (bit extended (to_memory w)) (extended_at id t (i + (42 + id)) stop (to_memory w) (w % 4096)) (Ok (fixed_head (to_memory w) (42 + id) (w % 4096)))
      → ((bit extended (to_memory w) ≡ true) → (b : ℕ) × (extended_to_memory (be_at 2 t (i + (42 + id))) ≡ Some b) × (end < i + (42 + id) + 2))
      → ((bit extended (to_memory w) ≡ false) → end ≤ i + (42 + id)) → Opened i
  open_with i w h e f g = by (bit extended (to_memory w)) refl
    where
      by : (u : Bool) → bit extended (to_memory w) ≡ u → Opened i
      by true q =
          let (b, k, l) = f q in
          record { flags = to_memory w + b; size = 44 + id; field = w % 4096; head = e ∙ rw q (extended_good (i + (42 + id)) (to_memory w) (w % 4096) b (omega arith) k); past = omega arith; most = omega arith; short = omega arith }
      by false q = record { flags = to_memory w; size = 42 + id; field = w % 4096; head = e ∙ rw q; past = g q; most = omega arith; short = omega arith }

  head_t : (i : ℕ) → i ≤ end → head_at id t i stop
      ≡ pick (bit extended (to_memory (be_at 2 t (i + (40 + id))))) (extended_at id t (i + (42 + id)) stop (to_memory (be_at 2 t (i + (40 + id)))) (be_at 2 t (i + (40 + id)) % 4096)) (Ok (fixed_head (to_memory (be_at 2 t (i + (40 + id)))) (42 + id) (be_at 2 t (i + (40 + id)) % 4096)))
  unfolding head_at head_with
  head_t i h = rw (le-ltb (length t) stop c.there, le-ltb stop i (omega (arith, c.longer)), le-ltb (stop - i) (42 + id) (omega arith))

  head_open : (i : ℕ) → i ≤ end → head_at id s i end ≡ Err Short → Opened i
  unfolding head_at head_with
  head_open i h e = by (less? (length s) end) (less? end i) (less? (end - i) (42 + id)) e
    where
      w : ℕ
      w = be_at 2 t (i + (40 + id))

      j : ℕ
      j = i + (42 + id)

      here : i + (42 + id) ≤ end → (u : Bool) → bit extended (to_memory w) ≡ u → pick u (extended_at id s j end (to_memory w) (w % 4096)) (Ok (fixed_head (to_memory w) (42 + id) (w % 4096))) ≡ Err Short → Opened i
      here l true q m = open_with i w h (head_t i h) (λ z. extended_open j (to_memory w) (w % 4096) l m) (λ z. let y : ◌≡◌ {A = ℕ} 0 1 = cc in absurd (omega arith))
      here l false q m = let y : ◌≡◌ {A = ℕ} 0 1 = cc in absurd (omega arith)

      by : {x y z : Bool} → Less (length s) end x → Less end i y → Less (end - i) (42 + id) z
          → pick x (Err Short) (pick y (Err Short) (pick z (Err Short) (head_with id s i end (be_at 2 s (i + (40 + id)))))) ≡ Err Short → Opened i
      by (less a) b d m = absurd (omega (arith, c.known))
      by (not_less a) (less b) d m = absurd (omega arith)
      by (not_less a) (not_less b) (less d) m =
          open_with i w h (head_t i h) (λ z. (0, ap extended_to_memory (zero_word j (omega arith)) ∙ none_kept, omega arith)) (λ z. omega arith)
      by (not_less a) (not_less b) (not_less d) m =
          here (omega arith) (bit extended (to_memory w)) refl (rw (sym (word_same s t end stop c (i + (40 + id)) (omega arith))) at m)

  -- ---- and the path is spelled
  opened_padded : (i flags size field : ℕ) → i ≤ end → end ≤ i + size → size ≤ 44 + id → field < 4096 → Spelled (padded_at t i stop flags size field)
  unfolding padded_at nul_at
  opened_padded i flags size field h past most short = by (eqb field 4095)
    where
      by : (u : Bool) → Spelled (pick u (on_ends (nul_in (stop - (i + size)) (drop (i + size) t) (i + size)) (Err Short) (λ z. padded_to i stop flags size (z - (i + size)))) (padded_to i stop flags size field))
      by true = rw (zero_nul (i + size) past (omega arith)) (pad_spelled i flags size (i + size - (i + size)) (omega arith))
      by false = pad_spelled i flags size field (omega arith)

  opened_stripped : (from flags : ℕ) (first : Bool) (prev : ℕ) → end ≤ from → from + 1 < stop → Spelled (compressed_at t from stop flags first prev)
  unfolding compressed_at number_at
  opened_stripped from flags first prev h l =
      rw (zero_number from 0 h (omega arith)) (kept_none first prev (λ k. Spelled (on_left k (Err Fault) (λ keep. suffixed_at t (from + 1) stop flags keep))) (λ b. suffix_spelled (from + 1) flags b (omega arith) l))

  known_padded : (i flags size field : ℕ) → i + size ≤ end → size ≤ 44 + id → field < 4096 → Spelled (padded_at t i stop flags size field)
  unfolding padded_at nul_at
  known_padded i flags size field h most short = by (eqb field 4095) (nul_in (end - (i + size)) (drop (i + size) s) (i + size)) refl (nul_on s t end stop c (end - (i + size)) (i + size) refl h)
    where
      by : (u : Bool) (x : Option ℕ) → nul_in (end - (i + size)) (drop (i + size) s) (i + size) ≡ x → nul_in (stop - (i + size)) (drop (i + size) t) (i + size) ≡ go_on_ends x (nul_in (stop - end) (drop end t) end)
          → Spelled (pick u (on_ends (nul_in (stop - (i + size)) (drop (i + size) t) (i + size)) (Err Short) (λ z. padded_to i stop flags size (z - (i + size)))) (padded_to i stop flags size field))
      by true (Some z) q e = let k = nul_bounds s (i + size) end z q in rw e (pad_spelled i flags size (z - (i + size)) (omega (arith, k.0, k.1)))
      by true None q e = let f : nul_in (stop - (i + size)) (drop (i + size) t) (i + size) ≡ Some end = e ∙ zero_nul end (omega arith) (omega arith) in rw f (pad_spelled i flags size (end - (i + size)) (omega arith))
      by false x q e = pad_spelled i flags size field (omega arith)

  -- a number that stands whole, and no NUL; or a number that is cut
  known_suffix : (x flags keep : ℕ) → x ≤ end → suffixed_at s x end flags keep ≡ Err Short → Spelled (suffixed_at t x stop flags keep)
  unfolding suffixed_at nul_at
  known_suffix x flags keep h e = by (nul_in (end - x) (drop x s) x) (nul_on s t end stop c (end - x) x refl h) e
    where
      by : (y : Option ℕ) → nul_in (stop - x) (drop x t) x ≡ go_on_ends y (nul_in (stop - end) (drop end t) end) → on_ends y (Err Short) (λ z. Ok (measured_as flags keep (file_at x) (z - x) (file_at (z + 1)))) ≡ Err Short
          → Spelled (on_ends (nul_in (stop - x) (drop x t) x) (Err Short) (λ z. Ok (measured_as flags keep (file_at x) (z - x) (file_at (z + 1)))))
      by (Some z) q m = let y : ◌≡◌ {A = ℕ} 0 1 = cc in absurd (omega arith)
      by None q m = let f : nul_in (stop - x) (drop x t) x ≡ Some end = q ∙ zero_nul end (omega arith) (omega arith) in rw f spelled

  known_stripped : (from flags : ℕ) (first : Bool) (prev : ℕ) → from ≤ end → compressed_at s from end flags first prev ≡ Err Short → Spelled (compressed_at t from stop flags first prev)
  unfolding compressed_at number_at
  known_stripped from flags first prev h e = by (groups_in (end - from) (drop from s) from 0) refl (number_on s t end stop c (end - from) from 0 refl h) e
    where
      kept : (x : ℕ) → x ≤ end → (k : Option ℕ) → on_left k (Err Fault) (λ keep. suffixed_at s x end flags keep) ≡ Err Short → Spelled (on_left k (Err Fault) (λ keep. suffixed_at t x stop flags keep))
      kept x l (Some b) m = known_suffix x flags b l m
      kept x l None m = let y : ◌≡◌ {A = ℕ} 0 1 = cc in absurd (omega arith)

      part : (k : Option ℕ) → on_left k (Err Fault) (λ keep. Err Short) ≡ Err Short → Spelled (on_left k (Err Fault) (λ keep. suffixed_at t (end + 1) stop flags keep))
      part (Some b) m = suffix_spelled (end + 1) flags b (omega arith) (omega arith)
      part None m = let y : ◌≡◌ {A = ℕ} 0 1 = cc in absurd (omega arith)

      by : (y : Result (ℕ × ℕ) NumberError) → groups_in (end - from) (drop from s) from 0 ≡ y → groups_in (stop - from) (drop from t) from 0 ≡ go_on y (λ b. groups_in (stop - end) (drop end t) end b)
          → on_number y (λ v x. on_left (kept_of first prev v) (Err Fault) (λ keep. suffixed_at s x end flags keep)) (λ a. on_left (kept_of first prev (a * 128)) (Err Fault) (λ keep. Err Short)) (Err Fault) ≡ Err Short
          → Spelled (on_number (groups_in (stop - from) (drop from t) from 0) (λ v x. on_left (kept_of first prev v) (Err Fault) (λ keep. suffixed_at t x stop flags keep)) (λ a. on_left (kept_of first prev (a * 128)) (Err Fault) (λ keep. Err Short)) (Err Fault))
      by (Ok (v, x)) q g m = rw g (kept x (omega (arith, (groups_fit (end - from) (drop from s) from 0 v x (omega arith) q).within)) (kept_of first prev v) m)
      by (Err (Cut a)) q g m = let f : groups_in (stop - from) (drop from t) from 0 ≡ Ok (a * 128, end + 1) = g ∙ zero_number end a (omega arith) (omega arith) in rw f (part (kept_of first prev (a * 128)) m)
      by (Err Over) q g m = let y : ◌≡◌ {A = ℕ} 0 1 = cc in absurd (omega arith)

  -- what is short is spelled, once zeros follow
  zeros_spell : (i version : ℕ) (first : Bool) (prev : ℕ) → i ≤ end → measure_at id s i end version first prev ≡ Err Short → Spelled (measure_at id t i stop version first prev)
  unfolding measure_at
  zeros_spell i version first prev h e = by (head_at id s i end) refl e
    where
      opened : (o : Opened i) (u : Bool) → Spelled (pick u (compressed_at t (i + o.size) stop o.flags first prev) (padded_at t i stop o.flags o.size o.field))
      opened o true = opened_stripped (i + o.size) o.flags first prev o.past (omega (arith, o.most))
      opened o false = opened_padded i o.flags o.size o.field h o.past o.most o.short

      known : (f g k : ℕ) → HeadAll id s i end g k → (u : Bool) → pick u (compressed_at s (i + g) end f first prev) (padded_at s i end f g k) ≡ Err Short → Spelled (pick u (compressed_at t (i + g) stop f first prev) (padded_at t i stop f g k))
      known f g k a true m = known_stripped (i + g) f first prev a.inside m
      known f g k a false m = known_padded i f g k a.inside a.most a.short

      by : (x : Result Head Unspelled) → head_at id s i end ≡ x → on_head x (Err Short) (Err Fault) (λ flags size field. pick (eqb version 4) (compressed_at s (i + size) end flags first prev) (padded_at s i end flags size field)) ≡ Err Short
          → Spelled (on_head (head_at id t i stop) (Err Short) (Err Fault) (λ flags size field. pick (eqb version 4) (compressed_at t (i + size) stop flags first prev) (padded_at t i stop flags size field)))
      by (Ok h) q m =
          let y : head_at id t i stop ≡ Ok (fixed_head h.flags h.size h.field) = head_stays s t end stop c id i (λ w. let z : ◌≡◌ {A = ℕ} 0 1 = cc in omega arith) ∙ q in
          rw y (known h.flags h.size h.field (head_all id s i end h.flags h.size h.field q) (eqb version 4) m)
      by (Err Short) q m = let o : Opened i = head_open i h q in rw o.head (opened o (eqb version 4))
      by (Err Fault) q m = let z : ◌≡◌ {A = ℕ} 0 1 = cc in absurd (omega arith)

abbrev zeroes : ℕ → List ℕ
zeroes n = replicate n 0

zero_at : (n k : ℕ) → ◌≡◌ {A = ℕ} (get_or (zeroes n) k 0) 0
zero_at zero k = refl
zero_at (suc n) zero = refl
zero_at (suc n) (suc k) = zero_at n k

-- THE THEOREM: what is Short within a file of bytes is an entry in some longer space with the same bytes in front
pub short_open : (id : ℕ) (s : List ℕ) (i end version : ℕ) (first : Bool) (prev : ℕ) → ((k : ℕ) → get_or s k 0 < 256) → end ≤ length s → i ≤ end → measure_at id s i end version first prev ≡ Err Short
    → (t : List ℕ) × (stop : ℕ) × Continues s t end stop × Spelled (measure_at id t i stop version first prev)
short_open id s i end version first prev small known h e =
    (t, stop, c, zeros_spell id s t end stop c (omega arith) after i version first prev h e)
  where
    zs : List ℕ
    zs = zeroes (4200 + id)

    t : List ℕ
    t = take end s ++ zs

    stop : ℕ
    stop = end + (4200 + id)

    front : length (take end s) ≡ end
    front = length-take-le end s known

    before : (k : ℕ) → k < end → get_or t k 0 ≡ get_or s k 0
    before k l = get_or-append (take end s) zs 0 k (omega (arith, front)) ∙ get_or-take end s k 0 l

    after : (k : ℕ) → end ≤ k → get_or t k 0 ≡ 0
    after k l =
        let p : k ≡ end + (k - end) = omega arith in
        ap (λ (x : ℕ). get_or t x 0) p ∙ get_or_right (take end s) zs end (k - end) front ∙ zero_at (4200 + id) (k - end)

    c : Continues s t end stop
    c = record {
      known = known;
      longer = omega arith;
      there = omega (arith, length-append (take end s) zs, front, length-replicate {A = ℕ} (4200 + id) 0);
      same = before;
      bytes = λ k. ⊎_elim (λ l. rw (before k l) (small k)) (λ l. rw (after k l) (lit< tt)) (lt_or_ge k end);
    }
