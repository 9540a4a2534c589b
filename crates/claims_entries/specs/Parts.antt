-- The parts of an entry, each in two lemmas: what the reader's definition answers is spelled (`says`), and what is spelled is read (`complete`). Assumes nothing.
use Rattle.std.specs.Prelude.{ℕ, zero, suc, ◌+◌, ◌-◌, ◌*◌, ◌/◌, ◌%◌, ◌^◌, ◌≤◌, ◌<◌, ◌≡◌, refl, List, [], ◌∷◌, ◌++◌, Bool, length, get_or, take, drop, Err, None, Ok, Option, Result, Some}
use Rattle.std.proofs.Common.{sym, ap, ◌∙◌, append_assoc, arith, add-zero, length-append, length-drop, drop-drop, get_or-drop, take-suc, take-add, lt-ltb, le-ltb, eq-eqb, ne_eqb}
use Rattle.laws.specs.Pick.{pick}
use Rattle.laws.specs.Lists.{length_part}
use Rattle.laws.specs.Tests.{Less, less, not_less, less?, Same, same, differs, same?}
use Rattle.slices.specs.Bytes.{nul_in, nul_at}
use Rattle.wire.specs.BigEndian.{be_at}
use Rattle.wire.specs.Groups.{groups_in, number_at}
use Rattle.entry.specs.Flags.{extended_to_memory}
use Rattle.measure.specs.Entry.{on_extended, extended_at, head_with, head_at}
use Rattle.grammar.specs.Number.{big_endian, BigEndian, big_endian_lem, Groups, VariableWidth}
use Rattle.grammar.specs.Number.Groups.{last, next}
use Rattle.grammar.specs.DecideNumber.{big_endian_snoc}
use Rattle.grammar.proofs.DecideEntry.{stat_of}
use Rattle.grammar.specs.Entry.{Stat, Meaning, meaning, Words, no_words, word, Fields, fields, OnlyMarks, Flags, plain, extended, NoNul}
use Rattle.grammar.specs.Entry.NoNul.{empty, byte}
use Rattle.claims_entries.specs.Place.{Lies, lies_take, lies_at, lies_left, lies_right, lies_then, lies_part}
use Rattle.measure.specs.Made.{fixed_head}
use Rattle.measure.specs.declared.Head.{Head}
use Rattle.measure.specs.declared.Unspelled.{Unspelled}
use Rattle.measure.specs.declared.Unspelled.TheVariants.{Fault, Short}
use Rattle.wire.specs.declared.NumberError.{NumberError}
use Rattle.wire.specs.declared.NumberError.TheVariants.{Cut, Over}

-- ---- big_endian_lem numbers, of any width

pub be_is : (w : ℕ) (s : List ℕ) (at : ℕ) → at + w ≤ length s → big_endian (take w (drop at s)) ≡ be_at w s at
unfolding be_at
be_is zero s at h = refl
be_is (suc w) s at h =
    ap big_endian (take-suc (drop at s) w 0 (omega (arith, length-drop at s)))
    ∙ big_endian_snoc (take w (drop at s)) (get_or (drop at s) w 0)
    ∙ (λ i. be_is w s at (omega arith) i * 256 + get_or-drop at s w 0 i)

pub big_says : (w : ℕ) (s : List ℕ) (at : ℕ) → at + w ≤ length s → BigEndian w (take w (drop at s)) (be_at w s at)
big_says w s at h = rw (← (be_is w s at h)) (big_endian_lem (length_part w at s h))

-- the number that bytes at a place spell, and how many they are
pub record BigHere (w : ℕ) (s : List ℕ) (at : ℕ) (b : List ℕ) (v : ℕ) : Type 0 where
  pub size : length b ≡ w
  pub is : v ≡ be_at w s at

pub big_complete : {w : ℕ} {b : List ℕ} {v : ℕ} → BigEndian w b v → {s : List ℕ} {at end : ℕ} → end ≤ length s → Lies s at end b → BigHere w s at b v
big_complete {w} (big_endian_lem {b = b} h) {s} {at} {end} e l =
    let t : take w (drop at s) ≡ b = ap (λ (j : ℕ). take j (drop at s)) (sym h) ∙ lies_take l in
    record { size = h; is = ap big_endian (sym t) ∙ be_is w s at (omega (arith, l.fits)) }

-- ---- 32-bit numbers

unfoldable pub words_at : ℕ → List ℕ → ℕ → List ℕ
words_at zero s at = []
words_at (suc k) s at = be_at 4 s at ∷ words_at k s (at + 4)

pub words_complete : {k : ℕ} {b vs : List ℕ} → Words k b vs → {s : List ℕ} {at end : ℕ} → end ≤ length s → Lies s at end b → (vs ≡ words_at k s at) × (length b ≡ k * 4)
unfolding words_at
words_complete no_words e l = (refl, refl)
words_complete (word {b = b} {r = r} x w) {s} {at} {end} e l =
    let h = big_complete x e (lies_left b r l) in
    let q : length b ≡ 4 = h.size in
    let (p, n) = words_complete w e (lies_at (lies_right b r l) (ap (λ (j : ℕ). at + j) q)) in
    ((λ i. h.is i ∷ p i), length-append b r ∙ omega (arith, n))

pub words_says : (k : ℕ) (s : List ℕ) (at : ℕ) → at + k * 4 ≤ length s → Words k (take (k * 4) (drop at s)) (words_at k s at)
unfolding words_at
words_says zero s at h = no_words
words_says (suc k) s at h =
    let e : suc k * 4 ≡ 4 + k * 4 = omega arith in
    rw (e, take-add 4 (k * 4) (drop at s), drop-drop 4 at s) (word (big_says 4 s at (omega arith)) (words_says k s (at + 4) (omega arith)))

-- ---- the fields

-- the entry at a place, with flags and a path
unfoldable pub stat_at : List ℕ → ℕ → Stat
stat_at s at = stat_of (words_at 10 s at)

abbrev pub meaning_at : ℕ → List ℕ → ℕ → ℕ → List ℕ → Meaning
meaning_at n s at = meaning (stat_at s at) (take n (drop (at + 40) s))

pub fields_complete : {n : ℕ} {f id : List ℕ} {stat : Stat} → Fields n f stat id → {s : List ℕ} {at end : ℕ} → end ≤ length s → Lies s at end f → (meaning stat id ≡ meaning_at n s at) × (length f ≡ 40 + n)
unfolding stat_at
fields_complete {n} (fields {b = b} {id = id} x e) {s} {at} {end} h l =
    let (x₁, x₂) = words_complete x h (lies_left b id l) in
    let l₁ : Lies s (at + 40) end id = lies_at (lies_right b id l) (omega (arith, x₂)) in
    let i₁ : id ≡ take n (drop (at + 40) s) = sym (lies_take l₁) ∙ ap (λ (j : ℕ). take j (drop (at + 40) s)) e in
    ((λ k. meaning (stat_of (x₁ k)) (i₁ k)), length-append b id ∙ omega (arith, x₂))

pub fields_says : (n : ℕ) (s : List ℕ) (at : ℕ) → at + (40 + n) ≤ length s → Fields n (take (40 + n) (drop at s)) (stat_at s at) (take n (drop (at + 40) s))
unfolding stat_at words_at
fields_says n s at h =
    let e : take (40 + n) (drop at s) ≡ take 40 (drop at s) ++ take n (drop (at + 40) s) = take-add 40 n (drop at s) ∙ ap (λ (l : List ℕ). take 40 (drop at s) ++ take n l) (drop-drop 40 at s) in
    rw e (fields (words_says 10 s at (omega arith)) (length_part n (at + 40) s (omega arith)))

-- ---- the flags, and with them the head

data SaysExtended (marks : ℕ) : Option ℕ → Type 0 where
  only_marks : OnlyMarks marks → SaysExtended marks (Some (marks * 65536))
  others : SaysExtended marks None

extended_says : (marks : ℕ) → SaysExtended marks (extended_to_memory marks)
unfolding extended_to_memory
extended_says marks = go (less? 32767 marks) (same? (marks % 8192) 0)
  where
    go : {t u : Bool} → Less 32767 marks t → Same (marks % 8192) 0 u → SaysExtended marks (pick t None (pick u (Some (marks * 65536)) None))
    go (less h) k = others
    go (not_less h) (same k) = only_marks (record { not_bit_15 = omega arith; not_below_13 = k })
    go (not_less h) (differs k) = others

extended_complete : (marks : ℕ) → OnlyMarks marks → extended_to_memory marks ≡ Some (marks * 65536)
unfolding extended_to_memory
extended_complete marks h = let a : marks < 32768 = h.not_bit_15 in rw (le-ltb 32767 marks (omega arith), eq-eqb (marks % 8192) 0 h.not_below_13)

-- EXTENDED is among the bits that are kept
bit_kept : (bits : ℕ) → bits / 4096 * 4096 / 16384 % 2 ≡ bits / 16384 % 2
bit_kept bits = omega arith

pub data SaysHead (n : ℕ) (s : List ℕ) (at end : ℕ) : Result Head Unspelled → Type 0 where
  fixed : {flags size field : ℕ} (g : List ℕ) → end ≤ length s → at ≤ end → Lies s (at + (40 + n)) end g → Flags g flags field → size ≡ 40 + n + length g
      → SaysHead n s at end (Ok (fixed_head flags size field))
  unfinished : SaysHead n s at end (Err Short)
  spoiled : SaysHead n s at end (Err Fault)

not_one : (x : ℕ) → (x % 2 ≡ 1 → ⊥) → x % 2 ≡ 0
not_one x h = omega arith

pub head_says : (n : ℕ) (s : List ℕ) (at end : ℕ) → SaysHead n s at end (head_at n s at end)
unfolding head_at head_with extended_at
head_says n s at end =
    go (less? (length s) end) (less? end at) (less? (end - at) (42 + n)) (same? (bits / 4096 * 4096 / 16384 % 2) 1) (less? (end - (at + (42 + n))) 1) (less? (end - (at + (42 + n))) 2)
    (extended_says (get_or s (at + (42 + n)) 0 * 256)) (extended_says marks)
  where
    bits : ℕ
    bits = be_at 2 s (at + (40 + n))

    marks : ℕ
    marks = be_at 2 s (at + (42 + n))

    go : {t₁ t₂ t₃ t₄ t₅ t₆ : Bool} {x y : Option ℕ} → Less (length s) end t₁ → Less end at t₂ → Less (end - at) (42 + n) t₃ → Same (bits / 4096 * 4096 / 16384 % 2) 1 t₄
        → Less (end - (at + (42 + n))) 1 t₅ → Less (end - (at + (42 + n))) 2 t₆ → SaysExtended (get_or s (at + (42 + n)) 0 * 256) x → SaysExtended marks y
        → SaysHead n s at end
        (pick t₁ (Err Short) (pick t₂ (Err Short) (pick t₃ (Err Short)
        (pick t₄
        (pick t₅ (Err Short) (pick t₆ (on_extended x (Err Fault) (λ b. Err Short)) (on_extended y (Err Fault) (λ b. Ok (fixed_head (bits / 4096 * 4096 + b) (44 + n) (bits % 4096))))))
        (Ok (fixed_head (bits / 4096 * 4096) (42 + n) (bits % 4096)))))))
    go (less a) b c d e f x y = unfinished
    go (not_less a) (less b) c d e f x y = unfinished
    go (not_less a) (not_less b) (less c) d e f x y = unfinished
    go (not_less a) (not_less b) (not_less c) (differs d) e f x y =
        let q : bits / 16384 % 2 ≡ 0 = not_one (bits / 16384) (λ z. d (bit_kept bits ∙ z)) in
        let k : length (take 2 (drop (at + (40 + n)) s)) ≡ 2 = length_part 2 (at + (40 + n)) s (omega arith) in
        fixed {size = 42 + n} (take 2 (drop (at + (40 + n)) s)) a b (lies_part s (at + (40 + n)) end 2 (omega arith) a) (plain (big_says 2 s (at + (40 + n)) (omega arith)) q) (omega arith)
    go (not_less a) (not_less b) (not_less c) (same d) (less e) f x y = unfinished
    go (not_less a) (not_less b) (not_less c) (same d) (not_less e) (less f) (only_marks x) y = unfinished
    go (not_less a) (not_less b) (not_less c) (same d) (not_less e) (less f) others y = spoiled
    go (not_less a) (not_less b) (not_less c) (same d) (not_less e) (not_less f) x others = spoiled
    go (not_less a) (not_less b) (not_less c) (same d) (not_less e) (not_less f) x (only_marks y) =
        let u : List ℕ = take 2 (drop (at + (40 + n)) s) in
        let v : List ℕ = take 2 (drop (at + (42 + n)) s) in
        let j : length u ≡ 2 = length_part 2 (at + (40 + n)) s (omega arith) in
        let k : length v ≡ 2 = length_part 2 (at + (42 + n)) s (omega arith) in
        fixed {size = 44 + n} (u ++ v) a b
        (lies_then u v (lies_part s (at + (40 + n)) end 2 (omega arith) a) (lies_part s (at + (42 + n)) end 2 (omega arith) a) (omega arith))
        (extended (big_says 2 s (at + (40 + n)) (omega arith)) (sym (bit_kept bits) ∙ d) (big_says 2 s (at + (42 + n)) (omega arith)) y) (omega (arith, length-append u v))

pub head_complete : (n : ℕ) {g : List ℕ} {flags field : ℕ} → Flags g flags field → {s : List ℕ} {at end : ℕ} → end ≤ length s → at ≤ end → Lies s (at + (40 + n)) end g
    → head_at n s at end ≡ Ok (fixed_head flags (40 + n + length g) field)
unfolding head_at head_with extended_at
head_complete n (plain {b = b} {bits = bits} x h) {s} {at} {end} e k l =
    let y = big_complete x e l in
    let w : length b ≡ 2 = y.size in
    let v : be_at 2 s (at + (40 + n)) ≡ bits = sym y.is in
    let z : 42 + n ≡ 40 + n + length b = omega arith in
    rw (le-ltb (length s) end e, le-ltb end at k, le-ltb (end - at) (42 + n) (omega (arith, l.fits)), v, ne_eqb (bits / 4096 * 4096 / 16384 % 2) 1 (λ q. omega (arith, bit_kept bits)), z)
head_complete n (extended {b = b} {c = c} {bits = bits} {marks = marks} x h y m) {s} {at} {end} e k l =
    let x₁ = big_complete x e (lies_left b c l) in
    let w : length b ≡ 2 = x₁.size in
    let v : be_at 2 s (at + (40 + n)) ≡ bits = sym x₁.is in
    let l₂ : Lies s (at + (42 + n)) end c = lies_at (lies_right b c l) (omega arith) in
    let y₁ = big_complete y e l₂ in
    let w₂ : length c ≡ 2 = y₁.size in
    let v₂ : be_at 2 s (at + (42 + n)) ≡ marks = sym y₁.is in
    let z : 44 + n ≡ 40 + n + length (b ++ c) = omega (arith, length-append b c) in
    rw
    (le-ltb (length s) end e, le-ltb end at k, le-ltb (end - at) (42 + n) (omega (arith, l.fits)), v, eq-eqb (bits / 4096 * 4096 / 16384 % 2) 1 (bit_kept bits ∙ h), le-ltb (end - (at + (42 + n))) 1 (omega (arith, l.fits)), le-ltb (end - (at + (42 + n))) 2 (omega (arith, l.fits)), v₂, extended_complete marks m, z)

-- ---- the number in seven-bit groups

data SaysGroups (f : ℕ) (l : List ℕ) (i a : ℕ) : Result (ℕ × ℕ) NumberError → Type 0 where
  is : {v e : ℕ} (b r : List ℕ) → l ≡ b ++ r → length b ≤ f → e ≡ i + length b → Groups a b v → v < 2 ^ 64 → SaysGroups f l i a (Ok (v, e))
  cut : {v : ℕ} → SaysGroups f l i a (Err (Cut v))
  over : SaysGroups f l i a (Err Over)

groups_says : (f : ℕ) (l : List ℕ) (i a : ℕ) → a < 2 ^ 57 → SaysGroups f l i a (groups_in f l i a)
unfolding groups_in
groups_says zero l i a h = cut
groups_says (suc f) [] i a h = cut
groups_says (suc f) (c ∷ l) i a h = go (less? c 128) (less? m (2 ^ 57 - 1)) (λ k. groups_says f l (i + 1) (m + 1) k)
  where
    m : ℕ
    m = a * 128 + c % 128

    more : {g : Result (ℕ × ℕ) NumberError} → 128 ≤ c → SaysGroups f l (i + 1) (m + 1) g → SaysGroups (suc f) (c ∷ l) i a g
    more k cut = cut
    more k over = over
    more k (is b r e n x g q) = let turn : i + 1 + length b ≡ i + length (c ∷ b) = omega arith in is (c ∷ b) r (ap (c ∷◌) e) (omega arith) (x ∙ turn) (next k g) q

    go : {t u : Bool} → Less c 128 t → Less m (2 ^ 57 - 1) u → {g : Result (ℕ × ℕ) NumberError} → (m + 1 < 2 ^ 57 → SaysGroups f l (i + 1) (m + 1) g) → SaysGroups (suc f) (c ∷ l) i a (pick t (Ok (m, i + 1)) (pick u g (Err Over)))
    go (less k) u z = is (c ∷ []) l refl (omega arith) refl (last k) (omega arith)
    go (not_less k) (less u) z = more k (z (omega arith))
    go (not_less k) (not_less u) z = over

groups_least : {a : ℕ} {b : List ℕ} {v : ℕ} → Groups a b v → a * 128 ≤ v
groups_least (last h) = omega arith
groups_least (next h g) = let r = groups_least g in omega arith

groups_complete : {a : ℕ} {b : List ℕ} {v : ℕ} → Groups a b v → v < 2 ^ 64 → (f : ℕ) → length b ≤ f → (r : List ℕ) (i : ℕ) → groups_in f (b ++ r) i a ≡ Ok (v, i + length b)
unfolding groups_in
groups_complete (last k) h zero n r i = absurd (omega arith)
groups_complete (last {c = c} k) h (suc f) n r i = rw (lt-ltb c 128 k)
groups_complete (next k g) h zero n r i = absurd (omega arith)
groups_complete {a} (next {c = c} {v = v} {b = b} k g) h (suc f) n r i =
    let l = groups_least g in
    let e : i + 1 + length b ≡ i + length (c ∷ b) = omega arith in
    rw (le-ltb c 128 k, lt-ltb (a * 128 + c % 128) (2 ^ 57 - 1) (omega arith)) (groups_complete g h f (omega arith) r (i + 1) ∙ ap (λ (j : ℕ). Ok (v, j)) e)

pub data SaysNumber (s : List ℕ) (at end : ℕ) : Result (ℕ × ℕ) NumberError → Type 0 where
  is : {v e : ℕ} (b : List ℕ) → Lies s at end b → e ≡ at + length b → VariableWidth b v → SaysNumber s at end (Ok (v, e))
  cut : {v : ℕ} → SaysNumber s at end (Err (Cut v))
  over : SaysNumber s at end (Err Over)

pub number_says : (s : List ℕ) (at end : ℕ) → at ≤ end → SaysNumber s at end (number_at s at end)
unfolding number_at
number_says s at end h = go (groups_says (end - at) (drop at s) at 0 (omega arith))
  where
    go : {g : Result (ℕ × ℕ) NumberError} → SaysGroups (end - at) (drop at s) at 0 g → SaysNumber s at end g
    go cut = cut
    go over = over
    go (is b r e n x g q) = is b (record { fits = omega arith; rest = r; is = e }) x (record { groups = g; fits = q })

pub number_complete : {b : List ℕ} {v : ℕ} → VariableWidth b v → {s : List ℕ} {at end : ℕ} → Lies s at end b → number_at s at end ≡ Ok (v, at + length b)
unfolding number_at
number_complete {b} x {s} {at} {end} l = rw l.is (groups_complete x.groups x.fits (end - at) (omega (arith, l.fits)) l.rest at)

-- ---- bytes up to a NUL

data SaysIn (f : ℕ) (l : List ℕ) (i : ℕ) : Option ℕ → Type 0 where
  ends : {z : ℕ} (b r : List ℕ) → l ≡ b ++ (0 ∷ r) → length b < f → z ≡ i + length b → NoNul b → SaysIn f l i (Some z)
  never : SaysIn f l i None

nul_in_says : (f : ℕ) (l : List ℕ) (i : ℕ) → SaysIn f l i (nul_in f l i)
unfolding nul_in
nul_in_says zero l i = never
nul_in_says (suc f) [] i = never
nul_in_says (suc f) (c ∷ l) i = go (same? c 0) (nul_in_says f l (i + 1))
  where
    go : {t : Bool} → Same c 0 t → {g : Option ℕ} → SaysIn f l (i + 1) g → SaysIn (suc f) (c ∷ l) i (pick t (Some i) g)
    go (same e) z = ends [] l (ap (◌∷ l) e) (omega arith) (sym (add-zero i)) empty
    go (differs e) never = never
    go (differs e) (ends b r x n y k) = let turn : i + 1 + length b ≡ i + length (c ∷ b) = omega arith in ends (c ∷ b) r (ap (c ∷◌) x) (omega arith) (y ∙ turn) (byte {c = c} (omega arith) k)

nul_in_complete : {b : List ℕ} → NoNul b → (f : ℕ) → length b < f → (r : List ℕ) (i : ℕ) → nul_in f (b ++ (0 ∷ r)) i ≡ Some (i + length b)
unfolding nul_in
nul_in_complete empty zero h r i = absurd (omega arith)
nul_in_complete empty (suc f) h r i = ap Some (sym (add-zero i))
nul_in_complete (byte k x) zero h r i = absurd (omega arith)
nul_in_complete (byte {c = c} {s = b} k x) (suc f) h r i =
    let e : i + 1 + length b ≡ i + length (c ∷ b) = omega arith in
    rw (ne_eqb c 0 (λ q. omega arith)) (nul_in_complete x f (omega arith) r (i + 1) ∙ ap Some e)

pub data SaysNul (s : List ℕ) (at end : ℕ) : Option ℕ → Type 0 where
  ends : {z : ℕ} (b : List ℕ) → Lies s at end (b ++ (0 ∷ [])) → z ≡ at + length b → NoNul b → SaysNul s at end (Some z)
  never : SaysNul s at end None

pub nul_says : (s : List ℕ) (at end : ℕ) → at ≤ end → SaysNul s at end (nul_at s at end)
unfolding nul_at
nul_says s at end h = go (nul_in_says (end - at) (drop at s) at)
  where
    go : {g : Option ℕ} → SaysIn (end - at) (drop at s) at g → SaysNul s at end g
    go never = never
    go (ends b r e n x k) = ends b (record { fits = omega (arith, length-append b (0 ∷ [])); rest = r; is = e ∙ sym (append_assoc b (0 ∷ []) r) }) x k

pub nul_complete : {b : List ℕ} → NoNul b → (p : List ℕ) {s : List ℕ} {at end : ℕ} → Lies s at end (b ++ (0 ∷ p)) → nul_at s at end ≡ Some (at + length b)
unfolding nul_at
nul_complete {b} x p {s} {at} {end} l =
    rw (l.is, append_assoc b (0 ∷ p) l.rest) (nul_in_complete x (end - at) (omega (arith, l.fits, length-append b (0 ∷ p))) (p ++ l.rest) at)
