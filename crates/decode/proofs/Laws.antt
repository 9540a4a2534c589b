-- Laws of the header, the bounds and the run in the directions that the code's proofs ask. Assumes nothing.
use mathlib.Core.Path.{◌≡◌, refl, sym, ap, ◌∙◌}
use mathlib.Core.Bool.{Bool, true, false}
use mathlib.Core.List.{List}
use Prim.Native.Nat.{ℕ, suc, ◌+◌, ◌-◌, ◌*◌, ◌/◌, ◌≤◌, ◌<◌}
use native.Mathlib.Omega.{arith}
use lib.ListN.{length, take, drop}
use lib.Dec.{eqb}
use lib.Seq.{paste}
use borrow.Author.Tests.{lt-ltb, le-ltb, le-leb, lt-leb}
use Rattle.laws.specs.Pick.{pick}
use Rattle.laws.specs.Lists.{length_part}
use Rattle.laws.specs.Paste.{paste_then, paste_take}
use Rattle.wire.specs.Places.{path_at}
use Rattle.wire.specs.declared.FileAt.{FileAt}
use Rattle.wire.specs.declared.PathAt.{PathAt}
use Rattle.format.specs.Format.{id_size}
use Rattle.entry.specs.Mode.{dir_at}
use Rattle.entry.specs.Record.{put_record}
use Rattle.measure.specs.Entry.{measure_at}
use Rattle.measure.specs.Inside.{Inside, measured_inside}
use Rattle.decode.specs.Bounds.{min_entry_size}
use Rattle.decode.specs.Entries.{path_of, marked, Room, Outcome, outcome, run}
use Rattle.std.specs.Prelude.{max, Err, Ok, Option, Result, is_none, unwrap_or}
use Rattle.decode.specs.Made.{done_at}
use Rattle.decode.specs.declared.entries.Error.TheVariants.{NoRoom, NotSpelled}
use Rattle.measure.specs.declared.Measured.{Measured}
use Rattle.measure.specs.declared.Unspelled.{Unspelled}
use Rattle.measure.specs.declared.Unspelled.TheVariants.{Fault, Short}

-- ---- bounds

-- no entry is without bytes
pub least_some : (v id m : ℕ) → m ≡ min_entry_size v id → 0 < m
unfolding min_entry_size
least_some v id m e = by (eqb v 4) e
  where
    by : (t : Bool) → m ≡ pick t (42 + id + 2) ((42 + id + 7) / 8 * 8) → 0 < m
    by true q = omega arith
    by false q = omega arith

-- ---- one entry stored
pub path_put : (s ps p₁ p₂ : List ℕ) (keep suffix len prev used : ℕ) → p₁ ≡ paste ps used (drop (used - prev) ps) keep → p₂ ≡ paste p₁ (used + keep) (drop suffix s) len
    → keep ≤ prev → prev ≤ used → used + (keep + len) ≤ length ps → suffix + len ≤ length s → p₂ ≡ paste ps used (path_of s ps keep suffix len prev used) (keep + len)
unfolding path_of
path_put s ps p₁ p₂ keep suffix len prev used e₁ e₂ hk hp h hs =
    let lx = length_part keep (used - prev) ps (omega arith) in
    let ly = length_part len suffix s hs in
    paste_then ps p₁ p₂ used (used + keep) (take keep (drop (used - prev) ps)) (take len (drop suffix s)) keep len (keep + len)
    (e₁ ∙ paste_take ps used (drop (used - prev) ps) keep) (e₂ ∙ paste_take p₁ (used + keep) (drop suffix s) len) refl refl lx (omega (arith, ly)) h

-- ---- turns of the run: what is left to read, from here, comes to r
module _ (s : List ℕ) (end : FileAt) (version n i : ℕ) (at : FileAt) (used : PathAt) (first : Bool) (prev : ℕ) (sparse : Bool) (rs ps : List ℕ) (r : Outcome) (inv : run id_size s end version n i at used first prev sparse rs ps ≡ r) where
  pub run_done : n ≡ 0 → outcome (Ok (done_at at used sparse)) rs ps ≡ r
  unfolding run
  run_done z = sym (rw z) ∙ inv

  -- one entry and what is left behind it
  module _ (more : 0 < n) (m : Result Measured Unspelled) (e : m ≡ measure_at id_size s at.0 end.0 version first prev) where
    pub one_more_lem : run id_size s end version (suc (n - 1)) i at used first prev sparse rs ps ≡ r
    one_more_lem = let e : suc (n - 1) ≡ n = omega arith in ap (λ (k : ℕ). run id_size s end version k i at used first prev sparse rs ps) e ∙ inv

  module _ (left : ℕ) (more : n ≡ suc left) (m : Result Measured Unspelled) (e : m ≡ measure_at id_size s at.0 end.0 version first prev) where
    one_more : run id_size s end version (suc left) i at used first prev sparse rs ps ≡ r
    one_more = ap (λ (k : ℕ). run id_size s end version k i at used first prev sparse rs ps) (sym more) ∙ inv

    pub run_refused : (x : Unspelled) → m ≡ Err x → outcome (Err (NotSpelled i)) rs ps ≡ r
    unfolding run
    run_refused Short q = sym (rw (← e, q)) ∙ one_more
    run_refused Fault q = sym (rw (← e, q)) ∙ one_more

    module _ (x : Measured) (q : m ≡ Ok x) where
      pub run_full : length rs / 96 ≤ i → outcome (Err (NoRoom i)) rs ps ≡ r
      unfolding run
      run_full h = sym (rw (← e, q, le-leb (length rs / 96) i h)) ∙ one_more

      module _ (h : i < length rs / 96) where
        pub run_long : length ps - used.0 < x.keep + x.len → outcome (Err (NoRoom i)) rs ps ≡ r
        unfolding run
        run_long l = sym (rw (← e, q, lt-leb (length rs / 96) i h, lt-ltb (length ps - used.0) (x.keep + x.len) l)) ∙ one_more

        pub run_next : x.keep + x.len ≤ length ps - used.0 → (j : ℕ) → j ≡ i + 1 → (rs' ps' : List ℕ) (sparse' : Bool) → rs' ≡ put_record id_size s at.0 x.flags used.0 (used.0 + (x.keep + x.len)) rs i
            → ps' ≡ paste ps used.0 (path_of s ps x.keep x.suffix.0 x.len prev used.0) (x.keep + x.len) → sparse' ≡ marked s at.0 sparse
            → run id_size s end version left j x.next (path_at (used.0 + (x.keep + x.len))) false (x.keep + x.len) sparse' rs' ps' ≡ r
        unfolding run
        run_next l j w rs' ps' sparse' a b c =
            (λ k. run id_size s end version left (w k) x.next (path_at (used.0 + (x.keep + x.len))) false (x.keep + x.len) (c k) (a k) (b k))
            ∙ sym (rw (← e, q, lt-leb (length rs / 96) i h, le-ltb (length ps - used.0) (x.keep + x.len) l)) ∙ one_more

-- what is known of an entry that was measured
module _ (s : List ℕ) (end : FileAt) (version : ℕ) (at : FileAt) (used : ℕ) (first : Bool) (prev : ℕ) (ps : List ℕ) (m : Result Measured Unspelled) (e : m ≡ measure_at id_size s at.0 end.0 version first prev) (x : Measured) (q : m ≡ Ok x) where
  inside : Inside id_size s at.0 end.0 prev x.keep x.suffix x.len x.next
  inside = measured_inside id_size s at.0 end.0 version first prev x.flags x.keep x.suffix x.len x.next m e q

  pub run_size : prev ≤ used → used ≤ length ps → x.keep + x.len ≤ length ps + length s
  run_size a b = let h : Inside id_size s at.0 end.0 prev x.keep x.suffix x.len x.next = inside in omega arith

  pub run_room : prev ≤ used → used ≤ length ps → x.keep + x.len ≤ length ps - used → Room s ps x.keep x.suffix.0 x.len prev used
  run_room a b l =
      let k : Inside id_size s at.0 end.0 prev x.keep x.suffix x.len x.next = inside in
      record { text = omega arith; keeps = omega arith; before = a; paths = omega arith }

pub marked_before : (s : List ℕ) (i : ℕ) (sparse t : Bool) → sparse ≡ true → t ≡ true → t ≡ marked s i sparse
unfolding marked
marked_before s i sparse t p q = rw (p, q) (by (dir_at s i))
  where
    by : (u : Bool) → true ≡ pick u true true
    by true = refl
    by false = refl

pub marked_now : (s : List ℕ) (i : ℕ) (sparse t : Bool) → sparse ≡ false → t ≡ dir_at s i → t ≡ marked s i sparse
unfolding marked
marked_now s i sparse t p q = rw (p, q) (by (dir_at s i))
  where
    by : (u : Bool) → u ≡ pick u true false
    by true = refl
    by false = refl

-- the loop's invariant: what is left to read, from here, comes to what the whole does
pub record State (s : List ℕ) (end : FileAt) (version : ℕ) (rs₀ ps₀ : List ℕ) (r : Outcome) (from left i : ℕ) (at : FileAt) (used : PathAt) (path : Option ℕ) (sparse : Bool) (rs ps : List ℕ) : Type 0 where
  pub number : i ≤ max from (length rs₀ / 96)
  pub within : used.0 ≤ length ps
  pub before : unwrap_or path 0 ≤ used.0
  pub records : length rs ≡ length rs₀
  pub paths : length ps ≡ length ps₀
  pub rest : run id_size s end version left i at used (is_none path) (unwrap_or path 0) sparse rs ps ≡ r
