-- One entry: `measure_at` answers an entry exactly if one is spelled at the place, before `end`, and then the answer gives its meaning. Assumes nothing.
use Prim.Native.Nat.{ℕ, ◌+◌, ◌-◌, ◌*◌, ◌/◌, ◌%◌, ◌≤◌, ◌<◌}
use Rattle.std.specs.Prelude.{◌≡◌, refl, Bool, ◌↔◌, eqb, drop, Err, Ok, Option, Result}
use Rattle.std.proofs.Common.{sym, ap, ◌∙◌, subst, arith, length-append, lt-ltb, le-ltb, eq-eqb, ne_eqb}
use mathlib.Core.List.{List, [], ◌∷◌, ◌++◌, append_assoc}
use Rattle.std.proofs.Math.Bool.{true, false}
use Rattle.std.proofs.Math.Logic.{⊎_elim}
use Rattle.std.proofs.Math.ListN.{length, take}
use Rattle.laws.specs.Pick.{pick}
use Rattle.laws.specs.Lists.{length_part}
use Rattle.laws.specs.Read.{Begins}
use Rattle.laws.specs.Tests.{Less, less, not_less, less?, Same, same, differs, same?, lt_or_ge}
use Rattle.slices.specs.Bytes.{nul_at}
use Rattle.wire.specs.Places.{file_at}
use Rattle.wire.specs.declared.FileAt.{FileAt}
use Rattle.measure.specs.Entry.{head_at, whole_of, padded_to, on_ends, on_number, on_left, on_head, padded_at, kept_of, suffixed_at, compressed_at, measure_at}
use Rattle.grammar.specs.Entry.{Stat, Meaning, meaning, Fields, Flags, plain, extended, Padding, Before, start, path, Entry, entry}
use Rattle.grammar.specs.Entry.Name.{counted, ended, first, later}
use Rattle.claims_entries.specs.Place.{Lies, lies_take, lies_at, lies_left, lies_right, lies_then, lies_part, lies_from, lies_to}
use Rattle.claims_entries.specs.Parts.{stat_at, meaning_at, fields_complete, fields_says, SaysHead, fixed, unfinished, spoiled, head_says, head_complete, SaysNumber, is, cut, over, number_says, number_complete, SaysNul, ends, never, nul_says, nul_complete}
use Rattle.measure.specs.Made.{fixed_head, measured_as}
use Rattle.measure.specs.declared.Head.{Head}
use Rattle.measure.specs.declared.Measured.{Measured}
use Rattle.measure.specs.declared.Unspelled.{Unspelled}
use Rattle.measure.specs.declared.Unspelled.TheVariants.{Fault, Short}
use Rattle.wire.specs.declared.NumberError.{NumberError}

-- what the reader knows of the path before: whether there is none, and else its length
pub data Knows : Bool → ℕ → Before → Type 0 where
  at_start : {prev : ℕ} → Knows true prev start
  at_path : {p : List ℕ} {prev : ℕ} → length p ≡ prev → Knows false prev (path p)

abbrev pub bytes_before : Before → List ℕ
bytes_before start = []
bytes_before (path p) = p

-- the path that a measure stands for
abbrev pub measured_path : List ℕ → Before → ℕ → FileAt → ℕ → List ℕ
measured_path s before keep suffix len = take keep (bytes_before before) ++ take len (drop suffix.0 s)

-- an entry at a place, as the measure tells it
pub record Spelled (n : ℕ) (s : List ℕ) (at end version : ℕ) (before : Before) (flags keep : ℕ) (suffix : FileAt) (len : ℕ) (next : FileAt) : Type 0 where
  pub bytes : List ℕ
  pub lies : Lies s at end bytes
  pub stop : next ≡ file_at (at + length bytes)
  pub keeps : keep ≤ length (bytes_before before)
  pub text : suffix.0 + len ≤ length s
  pub is_entry : Entry n version before bytes (meaning_at n s at flags (measured_path s before keep suffix len))

-- the two answers that tell no entry
pub data Refuses : Result Measured Unspelled → Type 0 where
  short : Refuses (Err Short)
  fault : Refuses (Err Fault)

pub not_found : {r : Result Measured Unspelled} → Refuses r → {flags keep : ℕ} {suffix : FileAt} {len : ℕ} {next : FileAt} → ¬ (r ≡ Ok (measured_as flags keep suffix len next))
not_found short q = let z : ◌≡◌ {A = ℕ} 0 1 = cc in omega arith
not_found fault q = let z : ◌≡◌ {A = ℕ} 0 1 = cc in omega arith

pub data SaysMeasured (n : ℕ) (s : List ℕ) (at end version : ℕ) (before : Before) : Result Measured Unspelled → Type 0 where
  spelled : {flags keep : ℕ} {suffix : FileAt} {len : ℕ} {next : FileAt} → end ≤ length s → Spelled n s at end version before flags keep suffix len next
      → SaysMeasured n s at end version before (Ok (measured_as flags keep suffix len next))
  refused : {r : Result Measured Unspelled} → Refuses r → SaysMeasured n s at end version before r

-- ---- the head before what follows it

whole_is : (k q : ℕ) → 1 ≤ q → q ≤ 8 → (k + q) % 8 ≡ 0 → (k + 8) / 8 * 8 ≡ k + q
whole_is k q a b c = omega arith

record Headed (n : ℕ) (s : List ℕ) (at end : ℕ) (f id g r : List ℕ) (stat : Stat) (flags field : ℕ) : Type 0 where
  size : length f ≡ 40 + n
  means : meaning stat id ≡ meaning_at n s at
  head : head_at n s at end ≡ Ok (fixed_head flags (40 + n + length g) field)
  left : Lies s (at + (40 + n + length g)) end r

headed : {n : ℕ} {f id g r : List ℕ} {stat : Stat} {flags field : ℕ} → Fields n f stat id → Flags g flags field → {s : List ℕ} {at end : ℕ} → end ≤ length s → Lies s at end (f ++ (g ++ r))
    → Headed n s at end f id g r stat flags field
headed {n} {f} {g = g} {r} x y {s} {at} {end} e l =
    let (means, size) = fields_complete x e (lies_left f (g ++ r) l) in
    let rest : Lies s (at + (40 + n)) end (g ++ r) = lies_at (lies_right f (g ++ r) l) (omega (arith, size)) in
    record {
      size = size;
      means = means;
      head = head_complete n y e (omega (arith, l.fits)) (lies_left g r rest);
      left = lies_at (lies_right g r rest) (omega arith);
    }

-- ---- what is spelled is measured

pub record Told (n : ℕ) (s : List ℕ) (at end version : ℕ) (before : Before) (is-first : Bool) (prev : ℕ) (b : List ℕ) (m : Meaning) : Type 0 where
  pub flags : ℕ
  pub keep : ℕ
  pub suffix : FileAt
  pub len : ℕ
  pub measured : measure_at n s at end version is-first prev ≡ Ok (measured_as flags keep suffix len (file_at (at + length b)))
  pub means : m ≡ meaning_at n s at flags (measured_path s before keep suffix len)

pub entry_complete : {n version : ℕ} {before : Before} {b : List ℕ} {m : Meaning} → Entry n version before b m → {s : List ℕ} {at end : ℕ} {is-first : Bool} {prev : ℕ} → Knows is-first prev before → end ≤ length s → Lies s at end b
    → Told n s at end version before is-first prev b m
unfolding measure_at padded_at padded_to whole_of compressed_at kept_of suffixed_at
entry_complete {n} {version} (entry {f = f} {g = g} {flags = flags} {field = field} x y (counted {s = t} {p = p} v small count pad)) {s} {at} {end} k e l =
    let h = headed x y e l in
    let size : ℕ = 40 + n + length g in
    let whole : (size + field + 8) / 8 * 8 ≡ size + field + length p = whole_is (size + field) (length p) pad.least pad.most (subst (λ (j : ℕ). (j + length p) % 8 ≡ 0) (omega (arith, h.size)) pad.eights) in
    let all : length (f ++ (g ++ (t ++ p))) ≡ size + field + length p = simp length-append (omega (arith, h.size)) in
    let room : (size + field + 8) / 8 * 8 ≤ end - at = omega (arith, l.fits) in
    let text : t ≡ take field (drop (at + size) s) = subst (λ (j : ℕ). t ≡ take j (drop (at + size) s)) count (sym (lies_take (lies_left t p h.left))) in
    record {
      flags = flags;
      keep = 0;
      suffix = file_at (at + size);
      len = field;
      measured = rw (h.head, ne_eqb version 4 v, ne_eqb field 4095 (λ q. omega arith), le-ltb (end - at) ((size + field + 8) / 8 * 8) room, whole, all);
      means = λ i. h.means i flags (text i);
    }
entry_complete {n} {version} (entry {f = f} {g = g} {flags = flags} {field = field} x y (ended {s = t} {p = p} v full z pad)) {s} {at} {end} k e l =
    let h = headed x y e l in
    let size : ℕ = 40 + n + length g in
    let whole : (size + length t + 8) / 8 * 8 ≡ size + length t + length (0 ∷ p) = whole_is (size + length t) (length (0 ∷ p)) pad.least pad.most (subst (λ (j : ℕ). (j + length (0 ∷ p)) % 8 ≡ 0) (omega (arith, h.size)) pad.eights) in
    let all : length (f ++ (g ++ (t ++ (0 ∷ p)))) ≡ size + length t + length (0 ∷ p) = simp length-append (omega (arith, h.size)) in
    let room : (size + length t + 8) / 8 * 8 ≤ end - at = omega (arith, l.fits) in
    let text : t ≡ take (length t) (drop (at + size) s) = sym (lies_take (lies_left t (0 ∷ p) h.left)) in
    let back : at + size + length t - (at + size) ≡ length t = omega arith in
    record {
      flags = flags;
      keep = 0;
      suffix = file_at (at + size);
      len = length t;
      measured = rw (h.head, ne_eqb version 4 v, eq-eqb field 4095 full, nul_complete z p h.left, back, le-ltb (end - at) ((size + length t + 8) / 8 * 8) room, whole, all);
      means = λ i. h.means i flags (text i);
    }
entry_complete {n} {version} (entry {f = f} {g = g} {flags = flags} x y (first {b = b} {s = t} v num z)) {s} {at} {end} at_start e l =
    let h = headed x y e l in
    let size : ℕ = 40 + n + length g in
    let rest : Lies s (at + size + length b) end (t ++ (0 ∷ [])) = lies_right b (t ++ (0 ∷ [])) h.left in
    let all : at + size + length b + length t + 1 ≡ at + length (f ++ (g ++ (b ++ (t ++ (0 ∷ []))))) = simp length-append (omega (arith, h.size)) in
    let text : t ≡ take (length t) (drop (at + size + length b) s) = sym (lies_take (lies_left t (0 ∷ []) rest)) in
    let back : at + size + length b + length t - (at + size + length b) ≡ length t = omega arith in
    record {
      flags = flags;
      keep = 0;
      suffix = file_at (at + size + length b);
      len = length t;
      measured = rw (h.head, eq-eqb version 4 v, number_complete num (lies_left b (t ++ (0 ∷ [])) h.left), nul_complete z [] rest, back, all);
      means = λ i. h.means i flags (text i);
    }
entry_complete {n} {version} (entry {f = f} {g = g} {flags = flags} x y (later {b = b} {s = t} {p = p} {strip = strip} v num z short₁)) {s} {at} {end} (at_path {prev = prev} q) e l =
    let h = headed x y e l in
    let size : ℕ = 40 + n + length g in
    let rest : Lies s (at + size + length b) end (t ++ (0 ∷ [])) = lies_right b (t ++ (0 ∷ [])) h.left in
    let all : at + size + length b + length t + 1 ≡ at + length (f ++ (g ++ (b ++ (t ++ (0 ∷ []))))) = simp length-append (omega (arith, h.size)) in
    let text : t ≡ take (length t) (drop (at + size + length b) s) = sym (lies_take (lies_left t (0 ∷ []) rest)) in
    let back : at + size + length b + length t - (at + size + length b) ≡ length t = omega arith in
    record {
      flags = flags;
      keep = prev - strip;
      suffix = file_at (at + size + length b);
      len = length t;
      measured = rw (h.head, eq-eqb version 4 v, number_complete num (lies_left b (t ++ (0 ∷ [])) h.left), le-ltb prev strip (omega arith), nul_complete z [] rest, back, all);
      means = λ i. h.means i flags (take (q i - strip) p ++ text i);
    }

-- ---- what is measured is spelled

flags_small : {g : List ℕ} {flags field : ℕ} → Flags g flags field → field < 4096
flags_small (plain x h) = omega arith
flags_small (extended x h y k) = omega arith

module _ (n : ℕ) (s : List ℕ) (at end version : ℕ) (e : end ≤ length s) (g : List ℕ) (l : Lies s (at + (40 + n)) end g) where
  front_length : length (take (40 + n) (drop at s)) ≡ 40 + n
  front_length = length_part (40 + n) at s (omega (arith, l.fits))

  front_fields : Fields n (take (40 + n) (drop at s)) (stat_at s at) (take n (drop (at + 40) s))
  front_fields = fields_says n s at (omega (arith, l.fits))

  with_front : (r : List ℕ) → Lies s (at + (40 + n + length g)) end r → Lies s at end (take (40 + n) (drop at s) ++ (g ++ r))
  with_front r m =
      lies_then (take (40 + n) (drop at s)) (g ++ r) (lies_part s at end (40 + n) (omega (arith, l.fits)) e) (lies_then g r l m (omega arith)) (omega (arith, front_length))

  size_all : (r : List ℕ) → length (take (40 + n) (drop at s) ++ (g ++ r)) ≡ 40 + n + length g + length r
  size_all r = length-append (take (40 + n) (drop at s)) (g ++ r) ∙ omega (arith, front_length, length-append g r)

  module _ (before : Before) (flags : ℕ) where
    counted_says : (len : ℕ) → (version ≡ 4 → ⊥) → Flags g flags len → len < 4095 → SaysMeasured n s at end version before (padded_to at end flags (40 + n + length g) len)
    unfolding padded_to whole_of
    counted_says len v y small = go (less? (end - at) ((40 + n + length g + len + 8) / 8 * 8))
      where
        size : ℕ
        size = 40 + n + length g

        whole : ℕ
        whole = (40 + n + length g + len + 8) / 8 * 8

        t : List ℕ
        t = take len (drop (at + size) s)

        p : List ℕ
        p = take (whole - (size + len)) (drop (at + size + len) s)

        go : {u : Bool} → Less (end - at) whole u → SaysMeasured n s at end version before (pick u (Err Short) (Ok (measured_as flags 0 (file_at (at + size)) len (file_at (at + whole)))))
        go (less h) = refused short
        go (not_less h) =
            let lt : length t ≡ len = length_part len (at + size) s (omega (arith, l.fits)) in
            let lp : length p ≡ whole - (size + len) = length_part (whole - (size + len)) (at + size + len) s (omega (arith, l.fits)) in
            let tp : Lies s (at + size) end (t ++ p) =
            lies_then t p (lies_part s (at + size) end len (omega (arith, l.fits)) e) (lies_part s (at + size + len) end (whole - (size + len)) (omega (arith, l.fits)) e) (omega (arith, lt)) in
            let pad : Padding (length (take (40 + n) (drop at s)) + length g + length t) p = record { least = omega (arith, lp); most = omega (arith, lp); eights = omega (arith, lp, lt, front_length) } in
            let stop : at + whole ≡ at + length (take (40 + n) (drop at s) ++ (g ++ (t ++ p))) = omega (arith, size_all (t ++ p), length-append t p) in
            spelled {flags = flags} {keep = 0} {suffix = file_at (at + size)} {len = len} {next = file_at (at + whole)} e
            (record {
              bytes = take (40 + n) (drop at s) ++ (g ++ (t ++ p));
              lies = with_front (t ++ p) tp;
              stop = ap file_at stop;
              keeps = omega arith;
              text = omega (arith, l.fits);
              is_entry = entry front_fields y (counted v small lt pad);
            })

    ended_says : (version ≡ 4 → ⊥) → Flags g flags 4095 → {x : Option ℕ} → SaysNul s (at + (40 + n + length g)) end x
        → SaysMeasured n s at end version before (on_ends x (Err Short) (λ z. padded_to at end flags (40 + n + length g) (z - (at + (40 + n + length g)))))
    unfolding padded_to whole_of
    ended_says v y never = refused short
    ended_says v y (ends {z = z} t lz ez no_nul) = go (less? (end - at) whole)
      where
        size : ℕ
        size = 40 + n + length g

        len : ℕ
        len = z - (at + size)

        whole : ℕ
        whole = (40 + n + length g + len + 8) / 8 * 8

        p : List ℕ
        p = take (whole - (size + len + 1)) (drop (z + 1) s)

        go : {u : Bool} → Less (end - at) whole u → SaysMeasured n s at end version before (pick u (Err Short) (Ok (measured_as flags 0 (file_at (at + size)) len (file_at (at + whole)))))
        go (less h) = refused short
        go (not_less h) =
            let lt : length t ≡ len = omega arith in
            let lp : length p ≡ whole - (size + len + 1) = length_part (whole - (size + len + 1)) (z + 1) s (omega (arith, l.fits)) in
            let tz : length (t ++ (0 ∷ [])) ≡ len + 1 = length-append t (0 ∷ []) ∙ omega arith in
            let tp : Lies s (at + size) end ((t ++ (0 ∷ [])) ++ p) =
            lies_then (t ++ (0 ∷ [])) p lz (lies_part s (z + 1) end (whole - (size + len + 1)) (omega (arith, l.fits)) e) (omega (arith, tz)) in
            let tq : Lies s (at + size) end (t ++ (0 ∷ p)) = subst (λ (b : List ℕ). Lies s (at + size) end b) (append_assoc t (0 ∷ []) p) tp in
            let text : t ≡ take len (drop (at + size) s) = sym (lies_take (lies_left t (0 ∷ []) lz)) ∙ ap (λ (j : ℕ). take j (drop (at + size) s)) lt in
            let pad : Padding (length (take (40 + n) (drop at s)) + length g + length t) (0 ∷ p) = record { least = omega arith; most = omega (arith, lp); eights = omega (arith, lp, lt, front_length) } in
            let stop : at + whole ≡ at + length (take (40 + n) (drop at s) ++ (g ++ (t ++ (0 ∷ p)))) = omega (arith, size_all (t ++ (0 ∷ p)), length-append t (0 ∷ p)) in
            spelled {flags = flags} {keep = 0} {suffix = file_at (at + size)} {len = len} {next = file_at (at + whole)} e
            (record {
              bytes = take (40 + n) (drop at s) ++ (g ++ (t ++ (0 ∷ p)));
              lies = with_front (t ++ (0 ∷ p)) tq;
              stop = ap file_at stop;
              keeps = omega arith;
              text = omega (arith, l.fits);
              is_entry = rw (← text) (entry front_fields y (ended v refl no_nul pad));
            })

    -- no entry is told by a number that is cut short, whatever is left of the path before
    cut_says : (is-first : Bool) (prev v : ℕ) → SaysMeasured n s at end version before (on_left (kept_of is-first prev v) (Err Fault) (λ keep. Err Short))
    unfolding kept_of
    cut_says true prev v = refused short
    cut_says false prev v = ⊎_elim (λ h. rw (lt-ltb prev v h) (refused fault)) (λ h. rw (le-ltb prev v h) (refused short)) (lt_or_ge prev v)

    stripped_says : (field : ℕ) (is-first : Bool) (prev : ℕ) → Knows is-first prev before → version ≡ 4 → Flags g flags field → {x : Result (ℕ × ℕ) NumberError} → SaysNumber s (at + (40 + n + length g)) end x
        → SaysMeasured n s at end version before
        (on_number x (λ v j. on_left (kept_of is-first prev v) (Err Fault) (λ keep. suffixed_at s j end flags keep)) (λ a. on_left (kept_of is-first prev (a * 128)) (Err Fault) (λ keep. Err Short)) (Err Fault))
    unfolding kept_of suffixed_at
    stripped_says field is-first prev k q y over = refused fault
    stripped_says field is-first prev k q y (cut {v = a}) = cut_says is-first prev (a * 128)
    stripped_says field is-first prev k q y (is {v = v} {e = j} b lb ej num) = go k (nul_says s j end (omega (arith, lb.fits)))
      where
        bytes : List ℕ → List ℕ
        bytes t = take (40 + n) (drop at s) ++ (g ++ (b ++ (t ++ (0 ∷ []))))

        told : {before₁ : Before} {keep z : ℕ} (t : List ℕ) → Lies s j end (t ++ (0 ∷ [])) → z ≡ j + length t → keep ≤ length (bytes_before before₁)
            → (t ≡ take (z - j) (drop j s) → Entry n version before₁ (bytes t) (meaning_at n s at flags (measured_path s before₁ keep (file_at j) (z - j))))
            → SaysMeasured n s at end version before₁ (Ok (measured_as flags keep (file_at j) (z - j) (file_at (z + 1))))
        told {before₁} {keep} {z} t lz ez small made =
            let c : length t ≡ z - j = omega arith in
            let j₁ : z + 1 ≡ at + length (bytes t) = omega (arith, size_all (b ++ (t ++ (0 ∷ []))), length-append b (t ++ (0 ∷ [])), length-append t (0 ∷ [])) in
            spelled {flags = flags} {keep = keep} {suffix = file_at j} {len = z - j} {next = file_at (z + 1)} e
            (record {
              bytes = bytes t;
              lies = with_front (b ++ (t ++ (0 ∷ []))) (lies_then b (t ++ (0 ∷ [])) lb lz ej);
              stop = ap file_at j₁;
              keeps = small;
              text = omega (arith, lz.fits, length-append t (0 ∷ []));
              is_entry = made (sym (lies_take (lies_left t (0 ∷ []) lz)) ∙ ap (λ (i : ℕ). take i (drop j s)) c);
            })

        go : {is-first₁ : Bool} {before₁ : Before} → Knows is-first₁ prev before₁ → {x : Option ℕ} → SaysNul s j end x
            → SaysMeasured n s at end version before₁ (on_left (kept_of is-first₁ prev v) (Err Fault) (λ keep. on_ends x (Err Short) (λ z. Ok (measured_as flags keep (file_at j) (z - j) (file_at (z + 1))))))
        go at_start never = refused short
        go at_start (ends t lz ez no_nul) = told t lz ez (omega arith) (λ text. rw (← text) (entry front_fields y (first q num no_nul)))
        go (at_path r) never = ⊎_elim (λ h. rw (lt-ltb prev v h) (refused fault)) (λ h. rw (le-ltb prev v h) (refused short)) (lt_or_ge prev v)
        go (at_path {p = p} r) (ends t lz ez no_nul) =
            ⊎_elim (λ h. rw (lt-ltb prev v h) (refused fault))
            (λ h. rw (le-ltb prev v h) (told t lz ez (omega arith) (λ text. rw (← text, ← r) (entry front_fields y (later {p = p} q num no_nul (omega arith))))))
            (lt_or_ge prev v)

pub measure_says : (n : ℕ) (s : List ℕ) (at end version : ℕ) {before : Before} {is-first : Bool} {prev : ℕ} → Knows is-first prev before → SaysMeasured n s at end version before (measure_at n s at end version is-first prev)
unfolding measure_at compressed_at padded_at
measure_says n s at end version {before} {is-first} {prev} k = go (head_says n s at end)
  where
    go : {h : Result Head Unspelled} → SaysHead n s at end h
        → SaysMeasured n s at end version before (on_head h (Err Short) (Err Fault) (λ flags size field. pick (eqb version 4) (compressed_at s (at + size) end flags is-first prev) (padded_at s at end flags size field)))
    go unfinished = refused short
    go spoiled = refused fault
    go (fixed {flags = flags} {size = size} {field = field} g e b l y z) = rw z (to (same? version 4) (same? field 4095))
      where
        to : {t u : Bool} → Same version 4 t → Same field 4095 u
            → SaysMeasured n s at end version before
            (pick t (compressed_at s (at + (40 + n + length g)) end flags is-first prev)
            (pick u (on_ends (nul_at s (at + (40 + n + length g)) end) (Err Short) (λ z. padded_to at end flags (40 + n + length g) (z - (at + (40 + n + length g))))) (padded_to at end flags (40 + n + length g) field)))
        to (same v) u = stripped_says n s at end version e g l before flags field is-first prev k v y (number_says s (at + (40 + n + length g)) end (omega (arith, l.fits)))
        to (differs v) (same u) = ended_says n s at end version e g l before flags v (rw u at y) (nul_says s (at + (40 + n + length g)) end (omega (arith, l.fits)))
        to (differs v) (differs u) = counted_says n s at end version e g l before flags field v y (let w = flags_small y in omega arith)

pub measure_spelled : {n : ℕ} {s : List ℕ} {at end version : ℕ} {before : Before} {is-first : Bool} {prev flags keep : ℕ} {suffix : FileAt} {len : ℕ} {next : FileAt} → Knows is-first prev before
    → measure_at n s at end version is-first prev ≡ Ok (measured_as flags keep suffix len next) → Spelled n s at end version before flags keep suffix len next
measure_spelled {n} {s} {at} {end} {version} {before} {flags = flags} {keep} {suffix} {len} {next} k q = of (subst (SaysMeasured n s at end version before) q (measure_says n s at end version k))
  where
    of : SaysMeasured n s at end version before (Ok (measured_as flags keep suffix len next)) → Spelled n s at end version before flags keep suffix len next
    of (spelled e x) = x
    of (refused r) = elim r [ ]

-- ---- THE THEOREMS

module _ (n : ℕ) (s : List ℕ) (at end version : ℕ) (before : Before) (is-first : Bool) (prev : ℕ) (k : Knows is-first prev before) (e : end ≤ length s) (h : at ≤ end) where
  -- what is measured is spelled, before `end`, with the meaning that the measure tells, and the next one begins where it says
  pub measured_is_spelled : (flags keep : ℕ) (suffix : FileAt) (len : ℕ) (next : FileAt) → measure_at n s at end version is-first prev ≡ Ok (measured_as flags keep suffix len next)
      → Begins (Entry n version before) (drop at (take end s)) (meaning_at n s at flags (measured_path s before keep suffix len)) (drop next.0 (take end s))
  measured_is_spelled flags keep suffix len next q =
      let x = measure_spelled k q in
      let j : at + length x.bytes ≡ next.0 = sym (ap (λ (y : FileAt). y.0) x.stop) in
      (x.bytes, lies_to s at end x.bytes h e x.lies ∙ ap (λ (i : ℕ). x.bytes ++ drop i (take end s)) j, x.is_entry)

  -- what is spelled is measured
  pub spelled_is_measured : (m : Meaning) (rest : List ℕ) (x : Begins (Entry n version before) (drop at (take end s)) m rest) → Told n s at end version before is-first prev x.0 m
  spelled_is_measured m rest (b, i, x) = entry_complete x k e (lies_from s at end b rest h e i)

  -- no entry is told exactly if none is spelled
  pub refused_exactly_if_not_spelled : Refuses (measure_at n s at end version is-first prev) ↔ ((m : Meaning) (rest : List ℕ) → ¬ Begins (Entry n version before) (drop at (take end s)) m rest)
  refused_exactly_if_not_spelled = ((λ r m rest x. not_found r (spelled_is_measured m rest x).measured), from (measure_at n s at end version is-first prev) refl)
    where
      from : (m : Result Measured Unspelled) → measure_at n s at end version is-first prev ≡ m → ((m : Meaning) (rest : List ℕ) → ¬ Begins (Entry n version before) (drop at (take end s)) m rest)
          → Refuses (measure_at n s at end version is-first prev)
      from (Err Short) q none = rw q short
      from (Err Fault) q none = rw q fault
      from (Ok m) q none =
          absurd (none (meaning_at n s at m.flags (measured_path s before m.keep m.suffix m.len)) (drop m.next.0 (take end s)) (measured_is_spelled m.flags m.keep m.suffix m.len m.next q))
