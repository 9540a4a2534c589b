-- `run` by meanings: a turn of it at an entry that is spelled, k turns at k entries, and what it answers where no more can be read. Assumes nothing.
use Prim.Native.Nat.{ℕ, suc, ◌+◌, ◌-◌, ◌*◌, ◌/◌, ◌≤◌, ◌<◌}
use Rattle.std.specs.Prelude.{◌≡◌, ◌⊎◌, leb, take, drop, Err, Ok, Result}
use Rattle.std.proofs.Math.Path.{refl, sym, ap, subst}
use Rattle.std.proofs.Common.{◌∙◌, ⊎_elim, zero-add, take-take, take_all, take_at, drop_at}
use mathlib.Core.List.{List, [], ◌∷◌, ◌++◌, append_assoc}
use Rattle.std.proofs.Math.Bool.{Bool, true, false}
use native.Mathlib.Omega.{arith}
use Rattle.std.proofs.Math.ListN.{length, length-append}
use Rattle.std.proofs.Math.Seq.{paste, paste-zero, length-paste, length-take-le}
use borrow.Author.Tests.{lt-ltb, le-ltb, le-leb, lt-leb}
use Rattle.laws.specs.Lists.{length_part}
use Rattle.laws.specs.Paste.{paste_then}
use Rattle.laws.specs.Pick.{pick}
use Rattle.laws.specs.Times.{done, more, later}
use Rattle.wire.specs.Places.{file_at, path_at}
use Rattle.wire.specs.declared.FileAt.{FileAt}
use Rattle.entry.specs.Record.{record_of, put_record}
use Rattle.entry.specs.Laws.{put_is_paste}
use Rattle.measure.specs.Entry.{measure_at}
use Rattle.measure.specs.Inside.{measured_inside}
use Rattle.decode.specs.Entries.{path_of, marked, outcome, run}
use Rattle.grammar.specs.Entry.{Meaning, Before, start, path, Entry, behind, Entries}
use Rattle.claims_entries.specs.Place.{Lies, lies_left, lies_right}
use Rattle.claims_entries.specs.Measure.{Knows, at_start, at_path, bytes_before, measured_path, Spelled, Refuses, short, fault, entry_complete, measure_spelled}
use Rattle.claims_entries.specs.Rendering.{record_bytes, records_bytes, paths_bytes, marked_by, sparse_by, Bytes, length_record, spelled_id, record_is, marked_is}
use Rattle.decode.specs.declared.entries.Error.TheVariants.{NoRoom, NotSpelled}
use Rattle.measure.specs.Made.{measured_as}
use Rattle.measure.specs.declared.Measured.{Measured}
use Rattle.measure.specs.declared.Unspelled.{Unspelled}

-- what the state of `run` holds of the path before: nothing, or that it is the last `prev` of the `used` path bytes
pub data Stands (prev used : ℕ) (ps : List ℕ) : Bool → Before → Type 0 where
  none_yet : Stands prev used ps true start
  last_path : {p : List ℕ} → length p ≡ prev → prev ≤ used → take prev (drop (used - prev) ps) ≡ p → Stands prev used ps false (path p)

pub knows : {prev used : ℕ} {ps : List ℕ} {is-first : Bool} {before : Before} → Stands prev used ps is-first before → Knows is-first prev before
knows none_yet = at_start
knows (last_path e k q) = at_path e

path_is : {prev used : ℕ} {ps : List ℕ} {is-first : Bool} {before : Before} → Stands prev used ps is-first before → (s : List ℕ) (keep : ℕ) (suffix : FileAt) (len : ℕ) → keep ≤ length (bytes_before before)
    → path_of s ps keep suffix.0 len prev used ≡ measured_path s before keep suffix len
unfolding path_of
path_is none_yet s keep suffix len h = let z : keep ≡ 0 = omega arith in rw z
path_is {prev} {used} {ps} (last_path {p = p} e k q) s keep suffix len h =
    ap (λ (l : List ℕ). l ++ take len (drop suffix.0 s)) (sym (take-take keep prev (drop (used - prev) ps) (omega arith)) ∙ ap (λ (l : List ℕ). take keep l) q)

-- the path that was just stored
stands_next : (used : ℕ) (ps p : List ℕ) → used + length p ≤ length ps → Stands (length p) (used + length p) (paste ps used p (length p)) false (path p)
stands_next used ps p h =
    let z : used + length p - length p ≡ used = omega arith in
    last_path refl (omega arith)
    (ap (λ (j : ℕ). take (length p) (drop j (paste ps used p (length p)))) z
    ∙ ap (λ (l : List ℕ). take (length p) (drop used l)) (append_assoc (take used ps) (take (length p) p) (drop (used + length p) ps))
    ∙ ap (λ (l : List ℕ). take (length p) l) (drop_at (take used ps) (take (length p) p ++ drop (used + length p) ps) used (length-take-le used ps (omega arith)))
    ∙ ap (λ (l : List ℕ). take (length p) (l ++ drop (used + length p) ps)) (take_all (length p) p (omega arith))
    ∙ take_at p (drop (used + length p) ps) (length p) refl)

-- whether no path comes before what follows these entries
abbrev pub first_after : Bool → List Meaning → Bool
first_after is-first [] = is-first
first_after is-first (m ∷ ms) = false

first_next : (ms : List Meaning) → first_after false ms ≡ false
first_next [] = refl
first_next (m ∷ ms) = refl

-- what k turns come to
pub record Ran (n : ℕ) (s : List ℕ) (end version : ℕ) (before : Before) (b : List ℕ) (ms : List Meaning) (k i prev used : ℕ) (is-first : Bool) (rs ps : List ℕ) (at left : ℕ) (sparse : Bool) : Type 0 where
  pub last : ℕ
  pub size : length (records_bytes n used ms) ≡ k * 96
  pub stands : Stands last (used + length (paths_bytes ms)) (paste ps used (paths_bytes ms) (length (paths_bytes ms))) (first_after is-first ms) (later behind before ms)
  pub runs : run n s (file_at end) version (k + left) i (file_at at) (path_at used) is-first prev sparse rs ps
      ≡ run n s (file_at end) version left (i + k) (file_at (at + length b)) (path_at (used + length (paths_bytes ms))) (first_after is-first ms) last (sparse_by sparse ms)
      (paste rs (i * 96) (records_bytes n used ms) (k * 96)) (paste ps used (paths_bytes ms) (length (paths_bytes ms)))

module _ (n : ℕ) (hid : n ≤ 32) (s : List ℕ) (bytes : Bytes s) (end version : ℕ) (e : end ≤ length s) where
  -- ONE TURN at an entry that is spelled, and for which there is room
  run_step : {before : Before} {b : List ℕ} {m : Meaning} → Entry n version before b m → {is-first : Bool} {prev used : ℕ} {ps : List ℕ} → Stands prev used ps is-first before → {at : ℕ} → Lies s at end b → (rs : List ℕ) (i : ℕ)
      → (i + 1) * 96 ≤ length rs → used + length m.path ≤ length ps → (left : ℕ) (sparse : Bool)
      → run n s (file_at end) version (suc left) i (file_at at) (path_at used) is-first prev sparse rs ps
      ≡ run n s (file_at end) version left (i + 1) (file_at (at + length b)) (path_at (used + length m.path)) false (length m.path) (marked_by sparse m)
      (paste rs (i * 96) (record_bytes n used m) 96) (paste ps used m.path (length m.path))
  unfolding run
  run_step {before} {b} {m} x {is-first} {prev} {used} {ps} st {at} l rs i slot room left sparse =
      let t = entry_complete x (knows st) e l in
      let flags : ℕ = t.flags in
      let keep : ℕ = t.keep in
      let suffix : FileAt = t.suffix in
      let len : ℕ = t.len in
      let p : List ℕ = measured_path s before keep suffix len in
      let q : measure_at n s at end version is-first prev ≡ Ok (measured_as flags keep suffix len (file_at (at + length b))) = t.measured in
      let y : Spelled n s at end version before flags keep suffix len (file_at (at + length b)) = measure_spelled (knows st) q in
      let inside = measured_inside n s at end version is-first prev flags keep suffix len (file_at (at + length b)) (measure_at n s at end version is-first prev) refl q in
      let whole : at + (40 + n) ≤ length s = omega (arith, inside.least) in
      let lp : length p ≡ keep + len =
      length-append (take keep (bytes_before before)) (take len (drop suffix.0 s)) ∙ omega (arith, length-take-le keep (bytes_before before) y.keeps, length_part len suffix.0 s y.text) in
      let mp : m.path ≡ p = ap (λ (o : Meaning). o.path) t.means in
      let lm : keep + len ≡ length m.path = sym lp ∙ ap length (sym mp) in
      let mark : marked s at sparse ≡ marked_by sparse m = marked_is n s at flags p sparse (omega arith) ∙ ap (marked_by sparse) (sym t.means) in
      let row : record_of n s at flags used (used + (keep + len)) ≡ record_bytes n used m =
      ap (λ (j : ℕ). record_of n s at flags used (used + j)) (sym lp) ∙ record_is s bytes n at flags used p whole ∙ ap (record_bytes n used) (sym t.means) in
      let stored : put_record n s at flags used (used + (keep + len)) rs i ≡ paste rs (i * 96) (record_bytes n used m) 96 =
      put_is_paste n s at flags used (used + (keep + len)) rs i whole (omega arith) ∙ ap (λ (r : List ℕ). paste rs (i * 96) r 96) row in
      let text : path_of s ps keep suffix.0 len prev used ≡ m.path = path_is st s keep suffix len y.keeps ∙ sym mp in
      rw (q, lt-leb (length rs / 96) i (omega arith), le-ltb (length ps - used) (keep + len) (omega arith))
      (λ k. run n s (file_at end) version left (i + 1) (file_at (at + length b)) (path_at (used + lm k)) false (lm k) (mark k) (stored k) (paste ps used (text k) (lm k)))

  -- a turn at an entry that is spelled, and for which there is no room
  pub run_full : {before : Before} {b : List ℕ} {m : Meaning} → Entry n version before b m → {is-first : Bool} {prev used : ℕ} {ps : List ℕ} → Stands prev used ps is-first before → {at : ℕ} → Lies s at end b → (rs : List ℕ) (i : ℕ)
      → used ≤ length ps → (length rs < (i + 1) * 96) ⊎ (length ps < used + length m.path) → (left : ℕ) (sparse : Bool)
      → run n s (file_at end) version (suc left) i (file_at at) (path_at used) is-first prev sparse rs ps ≡ outcome (Err (NoRoom i)) rs ps
  unfolding run
  run_full {before} {b} {m} x {is-first} {prev} {used} {ps} st {at} l rs i within lacks left sparse =
      let t = entry_complete x (knows st) e l in
      let q : measure_at n s at end version is-first prev ≡ Ok (measured_as t.flags t.keep t.suffix t.len (file_at (at + length b))) = t.measured in
      let y = measure_spelled (knows st) q in
      let p : List ℕ = measured_path s before t.keep t.suffix t.len in
      let lp : length p ≡ t.keep + t.len =
      length-append (take t.keep (bytes_before before)) (take t.len (drop t.suffix.0 s)) ∙ omega (arith, length-take-le t.keep (bytes_before before) y.keeps, length_part t.len t.suffix.0 s y.text) in
      let mp : length m.path ≡ t.keep + t.len = ap (λ (o : Meaning). length o.path) t.means ∙ lp in
      rw q (⊎_elim (λ h. rw (le-leb (length rs / 96) i (omega arith))) (λ h. rw (lt-ltb (length ps - used) (t.keep + t.len) (omega arith)) (either (leb (length rs / 96) i))) lacks)
    where
      either : (t : Bool) → pick t (outcome (Err (NoRoom i)) rs ps) (outcome (Err (NoRoom i)) rs ps) ≡ outcome (Err (NoRoom i)) rs ps
      either true = refl
      either false = refl

  -- a turn where no entry is told
  pub run_refused : (is-first : Bool) (prev used at i left : ℕ) (sparse : Bool) (rs ps : List ℕ) → Refuses (measure_at n s at end version is-first prev)
      → run n s (file_at end) version (suc left) i (file_at at) (path_at used) is-first prev sparse rs ps ≡ outcome (Err (NotSpelled i)) rs ps
  unfolding run
  run_refused is-first prev used at i left sparse rs ps r = go (measure_at n s at end version is-first prev) refl r
    where
      go : (m : Result Measured Unspelled) → measure_at n s at end version is-first prev ≡ m → Refuses m → run n s (file_at end) version (suc left) i (file_at at) (path_at used) is-first prev sparse rs ps ≡ outcome (Err (NotSpelled i)) rs ps
      go m q short = rw q
      go m q fault = rw q

  pub run_steps : {before : Before} {k : ℕ} {b : List ℕ} {ms : List Meaning} → Entries n version before k b ms → {is-first : Bool} {prev used : ℕ} {ps : List ℕ} → Stands prev used ps is-first before → {at : ℕ} → Lies s at end b → (rs : List ℕ) (i : ℕ)
      → (i + k) * 96 ≤ length rs → used + length (paths_bytes ms) ≤ length ps → (left : ℕ) (sparse : Bool) → Ran n s end version before b ms k i prev used is-first rs ps at left sparse
  unfolding records_bytes paths_bytes sparse_by
  run_steps {before} done {is-first} {prev} {used} {ps} st {at} l rs i slots room left sparse =
      let z₁ : ps ≡ paste ps used [] 0 = paste-zero ps used [] in
      let z₂ : rs ≡ paste rs (i * 96) [] 0 = paste-zero rs (i * 96) [] in
      let i₀ : i ≡ i + 0 = omega arith in
      let u₀ : used ≡ used + 0 = omega arith in
      let a₀ : at ≡ at + 0 = omega arith in
      record {
        last = prev;
        size = refl;
        stands = subst (λ (j : ℕ). Stands prev j (paste ps used [] 0) is-first before) u₀ (subst (λ (x : List ℕ). Stands prev used x is-first before) z₁ st);
        runs = λ k. run n s (file_at end) version (zero-add left k) (i₀ k) (file_at (a₀ k)) (path_at (u₀ k)) is-first prev sparse (z₂ k) (z₁ k);
      }
  run_steps {before} (more {n = k} {v = m} {vs = ms} {b = b} {c = c} x y) {is-first} {prev} {used} {ps} st {at} l rs i slots room left sparse =
      let p : List ℕ = m.path in
      let q : List ℕ = paths_bytes ms in
      let row : List ℕ = record_bytes n used m in
      let rows : List ℕ = records_bytes n (used + length p) ms in
      let lpq : length (p ++ q) ≡ length p + length q = length-append p q in
      let lrow : length row ≡ 96 = length_record n used m hid (spelled_id x) in
      let rs₁ : List ℕ = paste rs (i * 96) row 96 in
      let ps₁ : List ℕ = paste ps used p (length p) in
      let roomp : used + length p ≤ length ps = omega arith in
      let lrs : length rs₁ ≡ length rs = length-paste rs (i * 96) row 96 (omega arith) (omega arith) in
      let lps : length ps₁ ≡ length ps = length-paste ps used p (length p) roomp (omega arith) in
      let mark : Bool = marked_by sparse m in
      let step = run_step x st (lies_left b c l) rs i (omega arith) roomp (k + left) sparse in
      let rec = run_steps y (stands_next used ps p roomp) (lies_right b c l) rs₁ (i + 1) (omega arith) (omega arith) left mark in
      let e₁ : suc k + left ≡ suc (k + left) = omega arith in
      let e₂ : i + 1 + k ≡ i + suc k = omega arith in
      let e₃ : at + length b + length c ≡ at + length (b ++ c) = omega (arith, length-append b c) in
      let e₄ : used + length p + length q ≡ used + length (p ++ q) = omega arith in
      let lrows : length rows ≡ k * 96 = rec.size in
      let e₅ : paste rs₁ ((i + 1) * 96) rows (k * 96) ≡ paste rs (i * 96) (row ++ rows) (suc k * 96) =
      paste_then rs rs₁ (paste rs₁ ((i + 1) * 96) rows (k * 96)) (i * 96) ((i + 1) * 96) row rows 96 (k * 96) (suc k * 96) refl refl (omega arith) (omega arith) lrow (omega arith) (omega arith) in
      let e₆ : paste ps₁ (used + length p) q (length q) ≡ paste ps used (p ++ q) (length (p ++ q)) =
      paste_then ps ps₁ (paste ps₁ (used + length p) q (length q)) used (used + length p) p q (length p) (length q) (length (p ++ q)) refl refl refl lpq refl (omega arith) room in
      let e₇ : first_after false ms ≡ false = first_next ms in
      record {
        last = rec.last;
        size = length-append row rows ∙ omega arith;
        stands = subst (λ (t : Bool). Stands rec.last (used + length (p ++ q)) (paste ps used (p ++ q) (length (p ++ q))) t (later behind (path p) ms)) e₇
            (subst (λ (j : ℕ). Stands rec.last j (paste ps used (p ++ q) (length (p ++ q))) (first_after false ms) (later behind (path p) ms)) e₄
            (subst (λ (z : List ℕ). Stands rec.last (used + length p + length q) z (first_after false ms) (later behind (path p) ms)) e₆ rec.stands));
        runs = ap (λ (j : ℕ). run n s (file_at end) version j i (file_at at) (path_at used) is-first prev sparse rs ps) e₁ ∙ step ∙ rec.runs
            ∙ (λ j. run n s (file_at end) version left (e₂ j) (file_at (e₃ j)) (path_at (e₄ j)) (e₇ j) rec.last (sparse_by mark ms) (e₅ j) (e₆ j));
      }
