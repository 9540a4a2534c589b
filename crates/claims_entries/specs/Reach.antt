-- How far entries are spelled and have room, from any place and with any state: all of so many, or k of them and then none, or k of them and then one without room.
-- Assumes nothing.
use Prim.Native.Nat.{ℕ, zero, suc, ◌+◌, ◌*◌, ◌≤◌, ◌<◌}
use Rattle.std.specs.Prelude.{◌≡◌, Bool, true, false, ◌⊎◌, Ok, Result}
use Rattle.std.proofs.Math.Path.{refl}
use Rattle.std.proofs.Common.{sym, ◌∙◌, inl, inr, add-zero}
use mathlib.Core.List.{List, [], ◌++◌}
use native.Mathlib.Omega.{arith}
use Rattle.std.proofs.Math.ListN.{length, length-append}
use Rattle.laws.specs.Tests.{Less, less, not_less, less?}
use Rattle.laws.specs.Times.{done, more, later}
use Rattle.measure.specs.Entry.{measure_at}
use Rattle.grammar.specs.Entry.{Meaning, Before, start, path, Entry, behind, Entries}
use Rattle.claims_entries.specs.Place.{Lies, lies_at, lies_join, lies_nothing}
use Rattle.claims_entries.specs.Parts.{meaning_at}
use Rattle.claims_entries.specs.Measure.{Knows, at_start, at_path, bytes_before, measured_path, not_found, SaysMeasured, spelled, refused, entry_complete, measure_says}
use Rattle.claims_entries.specs.Rendering.{paths_bytes}
use Rattle.measure.specs.declared.Measured.{Measured}
use Rattle.measure.specs.declared.Unspelled.{Unspelled}

abbrev is_start : Before → Bool
is_start start = true
is_start (path p) = false

knows_of : (before : Before) → Knows (is_start before) (length (bytes_before before)) before
knows_of start = at_start
knows_of (path p) = at_path refl

-- the records' store has `slots` bytes, the paths' `room`; i records and `used` path bytes are in use
pub record Held (slots room i used k : ℕ) (ms : List Meaning) : Type 0 where
  pub records : (i + k) * 96 ≤ slots
  pub paths : used + length (paths_bytes ms) ≤ room

pub data Reach (n : ℕ) (file : List ℕ) (end version slots room : ℕ) (before : Before) (at i used count : ℕ) : Type 0 where
  whole : {b : List ℕ} {ms : List Meaning} → Entries n version before count b ms → Lies file at end b → Held slots room i used count ms → Reach n file end version slots room before at i used count
  part : {k : ℕ} {b : List ℕ} {ms : List Meaning} → k < count → Entries n version before k b ms → Lies file at end b → Held slots room i used k ms
      → ((c : List ℕ) (m : Meaning) → Entry n version (later behind before ms) c m → ¬ Lies file (at + length b) end c) → Reach n file end version slots room before at i used count
  full : {k : ℕ} {b c : List ℕ} {ms : List Meaning} {m : Meaning} → k < count → Entries n version before k b ms → Lies file at end b → Held slots room i used k ms
      → Entry n version (later behind before ms) c m → Lies file (at + length b) end c → (slots < (i + k + 1) * 96) ⊎ (room < used + length (paths_bytes ms) + length m.path)
      → Reach n file end version slots room before at i used count

module _ (n : ℕ) (file : List ℕ) (end version slots room : ℕ) (inside : end ≤ length file) where
  -- one entry before what was reached after it
  reach_more : {before : Before} {c : List ℕ} {m : Meaning} → Entry n version before c m → {at i used count : ℕ} → Lies file at end c
      → Reach n file end version slots room (path m.path) (at + length c) (i + 1) (used + length m.path) count → Reach n file end version slots room before at i used (suc count)
  unfolding paths_bytes
  reach_more {c = c} {m = m} x {at} {i} {used} l (whole {b = b} {ms = ms} y z f) =
      whole (more x y) (lies_join c b l z) (record { records = omega (arith, f.records); paths = omega (arith, f.paths, length-append m.path (paths_bytes ms)) })
  reach_more {c = c} {m = m} x {at} {i} {used} l (part {k = k} {b = b} {ms = ms} h y z f none) =
      part {k = suc k} (omega arith) (more x y) (lies_join c b l z) (record { records = omega (arith, f.records); paths = omega (arith, f.paths, length-append m.path (paths_bytes ms)) })
      (λ d o w v. none d o w (lies_at v (place b)))
    where
      place : (b : List ℕ) → at + length (c ++ b) ≡ at + length c + length b
      place b = omega (arith, length-append c b)
  reach_more {c = c} {m = m} x {at} {i} {used} l (full {k = k} {b = b} {c = d} {ms = ms} {m = o} h y z f w v lacks) =
      let place : at + length c + length b ≡ at + length (c ++ b) = omega (arith, length-append c b) in
      let slot : i + 1 + k + 1 ≡ i + suc k + 1 = omega arith in
      let text : used + length m.path + length (paths_bytes ms) + length o.path ≡ used + length (m.path ++ paths_bytes ms) + length o.path = omega (arith, length-append m.path (paths_bytes ms)) in
      full {k = suc k} {c = d} {m = o} (omega arith) (more x y) (lies_join c b l z) (record { records = omega (arith, f.records); paths = omega (arith, f.paths, length-append m.path (paths_bytes ms)) })
      w (lies_at v place) (rw (← slot, ← text) lacks)

  pub reach : (count : ℕ) (before : Before) (at i used : ℕ) → at ≤ end → i * 96 ≤ slots → used ≤ room → Reach n file end version slots room before at i used count
  unfolding paths_bytes
  reach zero before at i used a b c = whole done (lies_nothing file at end a) (record { records = omega arith; paths = omega arith })
  reach (suc count) before at i used a b c =
      go (measure_at n file at end version (is_start before) (length (bytes_before before))) refl (measure_says n file at end version (knows_of before)) (reach count)
    where
      held : Held slots room i used 0 []
      held = record { records = omega arith; paths = omega arith }

      go : (r : Result Measured Unspelled) → measure_at n file at end version (is_start before) (length (bytes_before before)) ≡ r → SaysMeasured n file at end version before r
          → ((b : Before) (j o u : ℕ) → j ≤ end → o * 96 ≤ slots → u ≤ room → Reach n file end version slots room b j o u count) → Reach n file end version slots room before at i used (suc count)
      go r q (refused f) ih =
          part {k = 0} (omega arith) done (lies_nothing file at end a) held
          (λ d m x l. not_found f (sym q ∙ (entry_complete x (knows_of before) inside (lies_at l (add-zero at))).measured))
      go (Ok found) q (spelled e x) ih = to (less? slots ((i + 1) * 96)) (less? room (used + length p))
        where
          p : List ℕ
          p = measured_path file before found.keep found.suffix found.len

          m : Meaning
          m = meaning_at n file at found.flags p

          lies : Lies file (at + 0) end x.bytes
          lies = lies_at x.lies (sym (add-zero at))

          to : {t u : Bool} → Less slots ((i + 1) * 96) t → Less room (used + length p) u → Reach n file end version slots room before at i used (suc count)
          to (less h) u = full {k = 0} {c = x.bytes} {m = m} (omega arith) done (lies_nothing file at end a) held x.is_entry lies (inl (omega arith))
          to (not_less h) (less u) = full {k = 0} {c = x.bytes} {m = m} (omega arith) done (lies_nothing file at end a) held x.is_entry lies (inr (omega arith))
          to (not_less h) (not_less u) = reach_more x.is_entry x.lies (ih (path p) (at + length x.bytes) (i + 1) (used + length p) (omega (arith, x.lies.fits)) h u)
