-- What a head that was found and an entry that was measured say of their places, from the definitions alone and over the id's length; and the padding, once for
-- every fixed part. Assumes nothing.
use Rattle.std.proofs.Math.Path.{◌≡◌, refl, ap}
use Rattle.std.proofs.Common.{sym, ◌∙◌}
use Rattle.std.specs.Prelude.{Bool, List, ℕ, ◌+◌, ◌-◌, ◌*◌, ◌/◌, ◌%◌, ◌≤◌, ◌<◌, length, get_or, ltb, eqb, Err, None, Ok, Option, Result, Some}
use Rattle.std.proofs.Math.Bool.{true, false}
use native.Mathlib.Omega.{arith}
use borrow.Author.Tests.{ltb-false}
use Rattle.laws.specs.Pick.{pick}
use Rattle.slices.specs.Bytes.{nul_at}
use Rattle.slices.specs.Laws.{nul_bounds}
use Rattle.wire.specs.Places.{file_at}
use Rattle.wire.specs.declared.FileAt.{FileAt}
use Rattle.wire.specs.BigEndian.{be_at}
use Rattle.wire.specs.Groups.{number_at}
use Rattle.format.specs.Format.{id_size}
use Rattle.entry.specs.Flags.{bit, extended, to_memory, extended_to_memory}
use Rattle.measure.specs.Entry.{on_extended, extended_at, head_with, head_at, HeadFits, whole_of, padded_to, on_ends, on_number, on_left, on_head, padded_at, kept_of, suffixed_at, compressed_at, measure_at}
use Rattle.measure.specs.Numbers.{number_fits}
use Rattle.measure.specs.Made.{fixed_head, head_same, measured_as, measured_same}
use Rattle.measure.specs.declared.Head.{Head}
use Rattle.measure.specs.declared.Measured.{Measured}
use Rattle.measure.specs.declared.Unspelled.{Unspelled}
use Rattle.measure.specs.declared.Unspelled.TheVariants.{Fault, Short}
use Rattle.wire.specs.declared.NumberError.{NumberError}
use Rattle.wire.specs.declared.NumberError.TheVariants.{Cut, Over}

-- ---- the padding: for every fixed length and path length the entry is a multiple of 8 long, and the padding is 1 to 8
pub record Padded (size len whole : ℕ) : Type 0 where
  pub eights : whole % 8 ≡ 0
  pub one : size + len < whole
  pub eight : whole ≤ size + len + 8

pub padding : (size len : ℕ) → Padded size len (whole_of size len)
unfolding whole_of
padding size len = record { eights = omega arith; one = omega arith; eight = omega arith }

-- ---- the head
peel : (t : Bool) (x : Result Head Unspelled) (f n g : ℕ) → pick t (Err Short) x ≡ Ok (fixed_head f n g) → (t ≡ false) × (x ≡ Ok (fixed_head f n g))
peel true x f n g e = let w : ◌≡◌ {A = ℕ} 0 1 = cc in absurd (omega arith)
peel false x f n g e = (refl, e)

peel_byte : (t : Bool) (u : Option ℕ) (x : Result Head Unspelled) (f n g : ℕ) → pick t (on_extended u (Err Fault) (λ bits. Err Short)) x ≡ Ok (fixed_head f n g) → (t ≡ false) × (x ≡ Ok (fixed_head f n g))
peel_byte true (Some b) x f n g e = let w : ◌≡◌ {A = ℕ} 0 1 = cc in absurd (omega arith)
peel_byte true None x f n g e = let w : ◌≡◌ {A = ℕ} 0 1 = cc in absurd (omega arith)
peel_byte false u x f n g e = (refl, e)

peel_last : (t : Option ℕ) (a b c f n g : ℕ) → on_extended t (Err Fault) (λ bits. Ok (fixed_head (a + bits) b c)) ≡ Ok (fixed_head f n g) → (b ≡ n) × (c ≡ g)
peel_last (Some u) a b c f n g e = let h = head_same e in (h.size, h.field)
peel_last None a b c f n g e = let w : ◌≡◌ {A = ℕ} 0 1 = cc in absurd (omega arith)

-- the fixed part ends before `end`, and is of one of two lengths
pub record HeadAll (id : ℕ) (s : List ℕ) (i end size field : ℕ) : Type 0 where
  pub file : end ≤ length s
  pub inside : i + size ≤ end
  pub least : 42 + id ≤ size
  pub most : size ≤ 44 + id
  pub short : field < 4096

record Sized (id i end size field : ℕ) : Type 0 where
  inside : i + size ≤ end
  least : 42 + id ≤ size
  most : size ≤ 44 + id
  short : field < 4096

extended_sized : (id : ℕ) (s : List ℕ) (i end kept field f n g : ℕ) → i + (42 + id) ≤ end → field < 4096 → extended_at id s (i + (42 + id)) end kept field ≡ Ok (fixed_head f n g) → Sized id i end n g
unfolding extended_at
extended_sized id s i end kept field f n g h k e =
    let j : ℕ = i + (42 + id) in
    let w : Result Head Unspelled = on_extended (extended_to_memory (be_at 2 s j)) (Err Fault) (λ bits. Ok (fixed_head (kept + bits) (44 + id) field)) in
    let p = peel (ltb (end - j) 1) (pick (ltb (end - j) 2) (on_extended (extended_to_memory (get_or s j 0 * 256)) (Err Fault) (λ bits. Err Short)) w) f n g e in
    let q = peel_byte (ltb (end - j) 2) (extended_to_memory (get_or s j 0 * 256)) w f n g p.1 in
    let r = peel_last (extended_to_memory (be_at 2 s j)) kept (44 + id) field f n g q.1 in
    let room : 2 ≤ end - j = ltb-false (end - j) 2 q.0 in
    let en : 44 + id ≡ n = r.0 in
    let eg : field ≡ g = r.1 in
    record { inside = omega arith; least = omega arith; most = omega arith; short = omega arith }

with_sized : (id : ℕ) (s : List ℕ) (i end bits f n g : ℕ) (t : Bool) → i + (42 + id) ≤ end
    → pick t (extended_at id s (i + (42 + id)) end (to_memory bits) (bits % 4096)) (Ok (fixed_head (to_memory bits) (42 + id) (bits % 4096))) ≡ Ok (fixed_head f n g) → Sized id i end n g
with_sized id s i end bits f n g false h e =
    let parts = head_same e in
    let en : 42 + id ≡ n = parts.size in
    let eg : bits % 4096 ≡ g = parts.field in
    record { inside = omega arith; least = omega arith; most = omega arith; short = omega arith }
with_sized id s i end bits f n g true h e = extended_sized id s i end (to_memory bits) (bits % 4096) f n g h (omega arith) e

pub head_all : (id : ℕ) (s : List ℕ) (i end f n g : ℕ) → head_at id s i end ≡ Ok (fixed_head f n g) → HeadAll id s i end n g
unfolding head_at head_with
head_all id s i end f n g e =
    let bits : ℕ = be_at 2 s (i + (40 + id)) in
    let w : Result Head Unspelled = pick (bit extended (to_memory bits)) (extended_at id s (i + (42 + id)) end (to_memory bits) (bits % 4096)) (Ok (fixed_head (to_memory bits) (42 + id) (bits % 4096))) in
    let p = peel (ltb (length s) end) (pick (ltb end i) (Err Short) (pick (ltb (end - i) (42 + id)) (Err Short) w)) f n g e in
    let q = peel (ltb end i) (pick (ltb (end - i) (42 + id)) (Err Short) w) f n g p.1 in
    let r = peel (ltb (end - i) (42 + id)) w f n g q.1 in
    let h₁ : end ≤ length s = ltb-false (length s) end p.0 in
    let h₂ : i ≤ end = ltb-false end i q.0 in
    let h₃ : 42 + id ≤ end - i = ltb-false (end - i) (42 + id) r.0 in
    let u = with_sized id s i end bits f n g (bit extended (to_memory bits)) (omega arith) r.1 in
    record { file = h₁; inside = u.inside; least = u.least; most = u.most; short = u.short }

pub head_fits : (s : List ℕ) (i end f n g : ℕ) (h : Result Head Unspelled) → h ≡ head_at id_size s i end → h ≡ Ok (fixed_head f n g) → HeadFits (length s) i end n g
head_fits s i end f n g h e q =
    let a : HeadAll id_size s i end n g = head_all id_size s i end f n g (sym e ∙ q) in
    record { file = a.file; inside = a.inside; small = a.most; short = a.short }

pub head_file : (s : List ℕ) (i end f n g : ℕ) (h : Result Head Unspelled) → h ≡ head_at id_size s i end → h ≡ Ok (fixed_head f n g) → end ≤ length s
head_file s i end f n g h e q = (head_fits s i end f n g h e q).file

pub head_room : (s : List ℕ) (i end f n g : ℕ) (h : Result Head Unspelled) → h ≡ head_at id_size s i end → h ≡ Ok (fixed_head f n g) → i + n ≤ end
head_room s i end f n g h e q = (head_fits s i end f n g h e q).inside

-- ---- the entry: it lies before `end`, and keeps no more than there is
pub record Inside (id : ℕ) (s : List ℕ) (i end prev keep : ℕ) (suffix : FileAt) (len : ℕ) (next : FileAt) : Type 0 where
  pub file : end ≤ length s
  pub least : i + (42 + id) ≤ end
  pub keeps : keep ≤ prev
  pub after : i + (42 + id) ≤ suffix.0
  pub ends : suffix.0 + len < next.0
  pub stops : next.0 ≤ end

skip : (t : Bool) (x : Result Measured Unspelled) (f k : ℕ) (p : FileAt) (l : ℕ) (n : FileAt) → pick t (Err Short) x ≡ Ok (measured_as f k p l n) → (t ≡ false) × (x ≡ Ok (measured_as f k p l n))
skip true x f k p l n e = let w : ◌≡◌ {A = ℕ} 0 1 = cc in absurd (omega arith)
skip false x f k p l n e = (refl, e)

kept_small : (first : Bool) (prev strip b : ℕ) → kept_of first prev strip ≡ Some b → b ≤ prev
unfolding kept_of
kept_small true prev strip b e = let w : 0 ≡ b = cc in omega arith
kept_small false prev strip b e = by (ltb prev strip) e
  where
    by : (t : Bool) → pick t None (Some (prev - strip)) ≡ Some b → b ≤ prev
    by true q = let w : ◌≡◌ {A = ℕ} 0 1 = cc in absurd (omega arith)
    by false q = let w : prev - strip ≡ b = cc in omega arith

module _ (id : ℕ) (s : List ℕ) (i end prev size field f k : ℕ) (p : FileAt) (l : ℕ) (n : FileAt) (all : HeadAll id s i end size field) where
  padded_inside : (flags len : ℕ) → padded_to i end flags size len ≡ Ok (measured_as f k p l n) → Inside id s i end prev k p l n
  unfolding padded_to whole_of
  padded_inside flags len e =
      let u = skip (ltb (end - i) ((size + len + 8) / 8 * 8)) (Ok (measured_as flags 0 (file_at (i + size)) len (file_at (i + (size + len + 8) / 8 * 8)))) f k p l n e in
      let h : (size + len + 8) / 8 * 8 ≤ end - i = ltb-false (end - i) ((size + len + 8) / 8 * 8) u.0 in
      let parts = measured_same u.1 in
      let ek : 0 ≡ k = parts.keep in
      let ep : i + size ≡ p.0 = ap (λ (y : FileAt). y.0) parts.suffix in
      let el : len ≡ l = parts.len in
      let en : i + (size + len + 8) / 8 * 8 ≡ n.0 = ap (λ (y : FileAt). y.0) parts.next in
      record { file = all.file; least = omega arith; keeps = omega arith; after = omega arith; ends = omega arith; stops = omega arith }

  nul_inside : (flags : ℕ) (x : Option ℕ) → on_ends x (Err Short) (λ z. padded_to i end flags size (z - (i + size))) ≡ Ok (measured_as f k p l n) → Inside id s i end prev k p l n
  nul_inside flags (Some z) e = padded_inside flags (z - (i + size)) e
  nul_inside flags None e = let w : ◌≡◌ {A = ℕ} 0 1 = cc in absurd (omega arith)

  field_inside : (flags : ℕ) (t : Bool) (x : Option ℕ) → pick t (on_ends x (Err Short) (λ z. padded_to i end flags size (z - (i + size)))) (padded_to i end flags size field) ≡ Ok (measured_as f k p l n) → Inside id s i end prev k p l n
  field_inside flags true x e = nul_inside flags x e
  field_inside flags false x e = padded_inside flags field e

  text_inside : (flags keep x : ℕ) → keep ≤ prev → i + size < x → (t : Option ℕ) → t ≡ nul_at s x end → on_ends t (Err Short) (λ z. Ok (measured_as flags keep (file_at x) (z - x) (file_at (z + 1)))) ≡ Ok (measured_as f k p l n) → Inside id s i end prev k p l n
  text_inside flags keep x hk hx (Some z) q e =
      let h = nul_bounds s x end z (sym q) in
      let hz : x ≤ z = h.0 in
      let he : z < end = h.1 in
      let parts = measured_same e in
      let ek : keep ≡ k = parts.keep in
      let ep : x ≡ p.0 = ap (λ (y : FileAt). y.0) parts.suffix in
      let el : z - x ≡ l = parts.len in
      let en : z + 1 ≡ n.0 = ap (λ (y : FileAt). y.0) parts.next in
      record { file = all.file; least = omega arith; keeps = omega arith; after = omega arith; ends = omega arith; stops = omega arith }
  text_inside flags keep x hk hx None q e = let w : ◌≡◌ {A = ℕ} 0 1 = cc in absurd (omega arith)

  kept_inside : (flags : ℕ) (first : Bool) (v x : ℕ) → i + size < x → (t : Option ℕ) → t ≡ kept_of first prev v → on_left t (Err Fault) (λ keep. suffixed_at s x end flags keep) ≡ Ok (measured_as f k p l n) → Inside id s i end prev k p l n
  unfolding suffixed_at
  kept_inside flags first v x hx (Some b) q e = text_inside flags b x (kept_small first prev v b (sym q)) hx (nul_at s x end) refl e
  kept_inside flags first v x hx None q e = let w : ◌≡◌ {A = ℕ} 0 1 = cc in absurd (omega arith)

  cut_inside : (t : Option ℕ) → on_left t (Err Fault) (λ keep. Err Short) ≡ Ok (measured_as f k p l n) → Inside id s i end prev k p l n
  cut_inside (Some b) e = let w : ◌≡◌ {A = ℕ} 0 1 = cc in absurd (omega arith)
  cut_inside None e = let w : ◌≡◌ {A = ℕ} 0 1 = cc in absurd (omega arith)

  number_inside : (flags : ℕ) (first : Bool) (t : Result (ℕ × ℕ) NumberError) → t ≡ number_at s (i + size) end
      → on_number t (λ v e. on_left (kept_of first prev v) (Err Fault) (λ keep. suffixed_at s e end flags keep)) (λ a. on_left (kept_of first prev (a * 128)) (Err Fault) (λ keep. Err Short)) (Err Fault) ≡ Ok (measured_as f k p l n) → Inside id s i end prev k p l n
  number_inside flags first (Ok (v, x)) q e = kept_inside flags first v x (number_fits s (i + size) end v x (sym q)).after (kept_of first prev v) refl e
  number_inside flags first (Err (Cut a)) q e = cut_inside (kept_of first prev (a * 128)) e
  number_inside flags first (Err Over) q e = let w : ◌≡◌ {A = ℕ} 0 1 = cc in absurd (omega arith)

  version_inside : (flags : ℕ) (first t : Bool) → pick t (compressed_at s (i + size) end flags first prev) (padded_at s i end flags size field) ≡ Ok (measured_as f k p l n) → Inside id s i end prev k p l n
  unfolding compressed_at padded_at
  version_inside flags first true e = number_inside flags first (number_at s (i + size) end) refl e
  version_inside flags first false e = field_inside flags (eqb field 4095) (nul_at s (i + size) end) e

head_inside : (id : ℕ) (s : List ℕ) (i end version : ℕ) (first : Bool) (prev f k : ℕ) (p : FileAt) (l : ℕ) (n : FileAt) (h : Result Head Unspelled) → h ≡ head_at id s i end
    → on_head h (Err Short) (Err Fault) (λ flags size field. pick (eqb version 4) (compressed_at s (i + size) end flags first prev) (padded_at s i end flags size field)) ≡ Ok (measured_as f k p l n) → Inside id s i end prev k p l n
head_inside id s i end version first prev f k p l n (Ok h) q e = version_inside id s i end prev h.size h.field f k p l n (head_all id s i end h.flags h.size h.field (sym q)) h.flags first (eqb version 4) e
head_inside id s i end version first prev f k p l n (Err Short) q e = let w : ◌≡◌ {A = ℕ} 0 1 = cc in absurd (omega arith)
head_inside id s i end version first prev f k p l n (Err Fault) q e = let w : ◌≡◌ {A = ℕ} 0 1 = cc in absurd (omega arith)

pub measured_inside : (id : ℕ) (s : List ℕ) (i end version : ℕ) (first : Bool) (prev f k : ℕ) (p : FileAt) (l : ℕ) (n : FileAt) (m : Result Measured Unspelled) → m ≡ measure_at id s i end version first prev → m ≡ Ok (measured_as f k p l n) → Inside id s i end prev k p l n
unfolding measure_at
measured_inside id s i end version first prev f k p l n m e q = head_inside id s i end version first prev f k p l n (head_at id s i end) refl (sym e ∙ q)

pub ruleset heads = (head_fits, head_file, head_room)
