-- What holds of a walk: what each answer of a step says, and a run of extensions a step at a time, whatever the fuel. Assumes nothing.
use Prim.Native.Nat.{ℕ, zero, suc, ◌+◌, ◌-◌, ◌*◌, ◌/◌, ◌%◌, ◌≤◌, ◌<◌}
use Rattle.std.specs.Prelude.{Bool, List, [], ◌∷◌, ◌≡◌, refl, length, ltb, eqb, Err, None, Ok, Option, Result, Some}
use Rattle.std.proofs.Common.{sym, ap, subst, ◌∙◌, pos_of_ne-zero}
use native.Mathlib.Omega.{arith}
use Rattle.laws.specs.Pick.{pick}
use Rattle.laws.specs.Tests.{Less, less, not_less, less?, Same, same, differs, same?}
use Rattle.wire.specs.BigEndian.{be_at}
use Rattle.wire.specs.Places.{file_at}
use Rattle.wire.specs.declared.FileAt.{FileAt}
use Rattle.format.specs.Format.{extension_header_size}
use Rattle.extension.specs.Iter.{cursor, extension_at, step_at, Found, Ending, filled, stray, ended, cons, on_step, run_by, run_at}
use Rattle.extension.specs.IndexEntryOffsetTable.{version, version_size, pair_size, table_at}
use Rattle.extension.specs.declared.iter.Cursor.{Cursor}
use Rattle.extension.specs.Made.{broken, extension_between}
use Rattle.extension.specs.declared.iter.Broken.{Broken}
use Rattle.extension.specs.declared.iter.Extension.{Extension}

-- ---- what holds of either answer of a test holds of the choice by it

pub by_less : {A : Type 0} (P : A → Type 0) (a b : ℕ) {x y : A} → (a < b → P x) → (b ≤ a → P y) → P (pick (ltb a b) x y)
by_less P a b {x} {y} f g = go (less? a b)
  where
    go : {t : Bool} → Less a b t → P (pick t x y)
    go (less h) = f h
    go (not_less h) = g h

pub by_same : {A : Type 0} (P : A → Type 0) (a b : ℕ) {x y : A} → (a ≡ b → P x) → ((a ≡ b → ⊥) → P y) → P (pick (eqb a b) x y)
by_same P a b {x} {y} f g = go (same? a b)
  where
    go : {t : Bool} → Same a b t → P (pick t x y)
    go (same h) = f h
    go (differs h) = g h

-- ---- a step

-- the space of an extension at `at`, header and body, lies before `end`, which lies in the file
pub record Fits (s : List ℕ) (at end : ℕ) : Type 0 where
  pub inside : end ≤ length s
  pub whole : at + extension_header_size + be_at 4 s (at + 4) ≤ end

-- an extension that was met
pub record Met (s : List ℕ) (at end signature : ℕ) (start stop : FileAt) (next : Cursor) : Type 0 where
  pub inside : end ≤ length s
  pub forward : at + extension_header_size ≤ stop.0
  pub within : stop.0 ≤ end
  pub long : stop.0 ≡ at + extension_header_size + be_at 4 s (at + 4)
  pub named : signature ≡ be_at 4 s at
  pub body : start.0 ≡ at + extension_header_size
  pub place : next.at.0 ≡ stop.0
  pub bound : next.end.0 ≡ end

-- what each answer of a step says
pub data IsStep (s : List ℕ) (at end : ℕ) : Result (Option Extension) Broken → Type 0 where
  is_extension : {signature : ℕ} {start stop : FileAt} {next : Cursor} → Met s at end signature start stop next → IsStep s at end (Ok (Some (extension_between signature start stop next)))
  is_done : end ≤ length s → at ≡ end → IsStep s at end (Ok None)
  is_broken : (end ≤ length s → at ≡ end → ⊥) → (Fits s at end → ⊥) → IsStep s at end (Err broken)

pub step? : (s : List ℕ) (at end : ℕ) → IsStep s at end (step_at s at end)
unfolding step_at
step? s at end =
    by_less (IsStep s at end) (length s) end (λ h. is_broken (λ j e. omega arith) (λ f. omega (arith, f.inside)))
    (λ i. by_less (IsStep s at end) end at (λ h. is_broken (λ j e. omega arith) (λ f. omega (arith, f.whole)))
    (λ b. by_same (IsStep s at end) at end (is_done i)
    (λ d. by_less (IsStep s at end) (end - at) extension_header_size (λ h. is_broken (λ j e. d e) (λ f. omega (arith, f.whole)))
    (λ r. by_less (IsStep s at end) (end - at - extension_header_size) (be_at 4 s (at + 4)) (λ h. is_broken (λ j e. d e) (λ f. omega (arith, f.whole)))
    (λ h. extension i b r h)))))
  where
    extension : end ≤ length s → at ≤ end → extension_header_size ≤ end - at → be_at 4 s (at + 4) ≤ end - at - extension_header_size → IsStep s at end (extension_at at end (be_at 4 s at) (be_at 4 s (at + 4)))
    extension i b r h =
        let f : Met s at end (be_at 4 s at) (file_at (at + extension_header_size)) (file_at (at + extension_header_size + be_at 4 s (at + 4))) (cursor (at + extension_header_size + be_at 4 s (at + 4)) end)
        = record { inside = i; forward = omega arith; within = omega arith; long = refl; named = refl; body = refl; place = refl; bound = refl } in
        is_extension f

pub met : (s : List ℕ) (at end : ℕ) {signature : ℕ} {start stop : FileAt} {next : Cursor} → step_at s at end ≡ Ok (Some (extension_between signature start stop next)) → Met s at end signature start stop next
met s at end {signature} {start} {stop} {next} e = by (subst (IsStep s at end) e (step? s at end))
  where
    by : IsStep s at end (Ok (Some (extension_between signature start stop next))) → Met s at end signature start stop next
    by (is_extension f) = f

-- ---- a run, a step at a time

-- an extension whose header begins at a place
abbrev pub found_at : ℕ → ℕ → FileAt → FileAt → Found
found_at at signature start stop = record { signature = signature; place = at; start = start; stop = stop }

-- more fuel than bytes changes nothing
fuel : (n m : ℕ) (s : List ℕ) (at end : ℕ) → end - at < n → end - at < m → run_by n s at end ≡ run_by m s at end
unfolding run_by
fuel zero m s at end h k = absurd (omega arith)
fuel (suc n) zero s at end h k = absurd (omega arith)
fuel (suc n) (suc m) s at end h k = by (λ p l r. fuel n m s p end l r) (step_at s at end) refl
  where
    by : ((p : ℕ) → end - p < n → end - p < m → run_by n s p end ≡ run_by m s p end) → (x : Result (Option Extension) Broken) → step_at s at end ≡ x
        → on_step x (ended filled) (ended (stray at)) (λ signature start stop. cons (found_at at signature start stop) (run_by n s stop.0 end))
        ≡ on_step x (ended filled) (ended (stray at)) (λ signature start stop. cons (found_at at signature start stop) (run_by m s stop.0 end))
    by ih (Ok None) e = refl
    by ih (Err _) e = refl
    by ih (Ok (Some e₁)) e =
        let f : Met s at end e₁.signature e₁.body.start e₁.body.stop e₁.next = met s at end e in
        ap (cons (found_at at e₁.signature e₁.body.start e₁.body.stop)) (ih e₁.body.stop.0 (omega (arith, f.forward, f.within)) (omega (arith, f.forward, f.within)))

module _ (s : List ℕ) (at end : ℕ) where
  pub run_done : step_at s at end ≡ Ok None → run_at s at end ≡ ended filled
  unfolding run_at run_by
  run_done e = rw e

  pub run_broken : step_at s at end ≡ Err broken → run_at s at end ≡ ended (stray at)
  unfolding run_at run_by
  run_broken e = rw e

  pub run_more : {signature : ℕ} {start stop : FileAt} {next : Cursor} → step_at s at end ≡ Ok (Some (extension_between signature start stop next))
      → run_at s at end ≡ cons (found_at at signature start stop) (run_at s stop.0 end)
  unfolding run_at run_by
  run_more {signature} {start} {stop} {next} e =
      let f : Met s at end signature start stop next = met s at end e in
      let l : end - stop.0 < end - at = omega (arith, f.forward, f.within) in
      let q : end - stop.0 < suc (end - stop.0) = omega arith in
      rw e (ap (cons (found_at at signature start stop)) (fuel (end - at) (suc (end - stop.0)) s stop.0 end l q))

-- ---- IEOT

-- a table of n pairs
pub record Tabled (s : List ℕ) (start stop n : ℕ) : Type 0 where
  pub inside : stop ≤ length s
  pub some : 0 < n
  pub size : start + version_size + n * pair_size ≡ stop
  pub first : be_at 4 s start ≡ version

pub data IsTable (s : List ℕ) (start stop : ℕ) : Option ℕ → Type 0 where
  is_table : {n : ℕ} → Tabled s start stop n → IsTable s start stop (Some n)
  is_none : IsTable s start stop None

pub table? : (s : List ℕ) (start stop : ℕ) → IsTable s start stop (table_at s start stop)
unfolding table_at
table? s start stop =
    by_less (IsTable s start stop) (length s) stop (λ h. is_none)
    (λ i. by_less (IsTable s start stop) stop start (λ h. is_none)
    (λ b. by_less (IsTable s start stop) (stop - start) version_size (λ h. is_none)
    (λ l. by_same (IsTable s start stop) (be_at 4 s start) version
    (λ v. by_same (IsTable s start stop) ((stop - start - version_size) / pair_size) 0 (λ z. is_none)
    (λ z. by_same (IsTable s start stop) ((stop - start - version_size) % pair_size) 0
    (λ o. table i b l v z o)
    (λ o. is_none)))
    (λ v. is_none))))
  where
    table : stop ≤ length s → start ≤ stop → version_size ≤ stop - start → be_at 4 s start ≡ version → ((stop - start - version_size) / pair_size ≡ 0 → ⊥)
        → (stop - start - version_size) % pair_size ≡ 0 → IsTable s start stop (Some ((stop - start - version_size) / pair_size))
    table i b l v z o =
        let f : Tabled s start stop ((stop - start - version_size) / pair_size) = record { inside = i; some = omega (arith, pos_of_ne-zero z); size = omega arith; first = v } in
        is_table f

pub tabled : (s : List ℕ) (start stop n : ℕ) → table_at s start stop ≡ Some n → Tabled s start stop n
tabled s start stop n e = by (subst (IsTable s start stop) e (table? s start stop))
  where
    by : IsTable s start stop (Some n) → Tabled s start stop n
    by (is_table f) = f

-- ---- a run is the chain of extensions from a place on, and only that

-- an extension that stands at `at` and ends at or before `end`
pub record Stands (s : List ℕ) (at end : ℕ) (f : Found) : Type 0 where
  pub fits : Fits s at end
  pub begins : f.place ≡ at
  pub named : f.signature ≡ be_at 4 s at
  pub starts : f.start ≡ file_at (at + extension_header_size)
  pub stops : f.stop ≡ file_at (at + extension_header_size + be_at 4 s (at + 4))

-- extensions one behind the other from `at` on: they fill the part up to `end`, or at some place before it none stands
pub data Chain (s : List ℕ) (end : ℕ) : ℕ → List Found → Ending → Type 0 where
  chain_filled : {at : ℕ} → end ≤ length s → at ≡ end → Chain s end at [] filled
  chain_stray : {at : ℕ} → (end ≤ length s → at ≡ end → ⊥) → (Fits s at end → ⊥) → Chain s end at [] (stray at)
  chain_more : {at : ℕ} {f : Found} {fs : List Found} {e : Ending} → Stands s at end f → Chain s end f.stop.0 fs e → Chain s end at (f ∷ fs) e

stands : (s : List ℕ) (at end signature : ℕ) (start stop : FileAt) (next : Cursor) → Met s at end signature start stop next → Stands s at end (found_at at signature start stop)
stands s at end signature start stop next m =
    record {
      fits = record { inside = m.inside; whole = omega (arith, m.within, m.long) };
      begins = refl;
      named = m.named;
      starts = ap file_at m.body;
      stops = ap file_at m.long;
    }

run_by_chain : (n : ℕ) (s : List ℕ) (at end : ℕ) → end - at < n → Chain s end at (run_by n s at end).items (run_by n s at end).ending
unfolding run_by
run_by_chain zero s at end h = absurd (omega arith)
run_by_chain (suc n) s at end h = by (λ p l. run_by_chain n s p end l) (step? s at end)
  where
    by : ((p : ℕ) → end - p < n → Chain s end p (run_by n s p end).items (run_by n s p end).ending) → {x : Result (Option Extension) Broken} → IsStep s at end x
        → Chain s end at (on_step x (ended filled) (ended (stray at)) (λ signature start stop. cons (found_at at signature start stop) (run_by n s stop.0 end))).items
        (on_step x (ended filled) (ended (stray at)) (λ signature start stop. cons (found_at at signature start stop) (run_by n s stop.0 end))).ending
    by ih (is_done i e) = chain_filled i e
    by ih (is_broken d f) = chain_stray d f
    by ih (is_extension {signature = signature} {start = start} {stop = stop} {next = next} m) =
        chain_more (stands s at end signature start stop next m) (ih stop.0 (omega (arith, m.forward, m.within)))

pub run_chain : (s : List ℕ) (at end : ℕ) → Chain s end at (run_at s at end).items (run_at s at end).ending
unfolding run_at
run_chain s at end = run_by_chain (suc (end - at)) s at end (omega arith)

-- what a step answers where something is known to stand
step_fits : (s : List ℕ) (at end : ℕ) → Fits s at end → step_at s at end ≡ extension_at at end (be_at 4 s at) (be_at 4 s (at + 4))
step_fits s at end f = by (step? s at end)
  where
    by : {x : Result (Option Extension) Broken} → IsStep s at end x → x ≡ extension_at at end (be_at 4 s at) (be_at 4 s (at + 4))
    by (is_done i e) = absurd (omega (arith, f.whole))
    by (is_broken d g) = absurd (g f)
    by (is_extension m) = λ k. Ok (Some (extension_between (m.named k) (file_at (m.body k)) (file_at (m.long k)) (cursor ((m.place ∙ m.long) k) (m.bound k))))

step_filled : (s : List ℕ) (at end : ℕ) → end ≤ length s → at ≡ end → step_at s at end ≡ Ok None
step_filled s at end i e = by (step? s at end)
  where
    by : {x : Result (Option Extension) Broken} → IsStep s at end x → x ≡ Ok None
    by (is_done j q) = refl
    by (is_broken d g) = absurd (d i e)
    by (is_extension m) = absurd (omega (arith, m.forward, m.within))

step_stray : (s : List ℕ) (at end : ℕ) → (end ≤ length s → at ≡ end → ⊥) → (Fits s at end → ⊥) → step_at s at end ≡ Err broken
step_stray s at end d f = by (step? s at end)
  where
    by : {x : Result (Option Extension) Broken} → IsStep s at end x → x ≡ Err broken
    by (is_done i e) = absurd (d i e)
    by (is_broken e g) = refl
    by (is_extension m) = absurd (f (record { inside = m.inside; whole = omega (arith, m.within, m.long) }))

pub chain_run : {s : List ℕ} {end at : ℕ} {fs : List Found} {e : Ending} → Chain s end at fs e → run_at s at end ≡ record { items = fs; ending = e }
chain_run {s} {end} {at} (chain_filled i q) = run_done s at end (step_filled s at end i q)
chain_run {s} {end} {at} (chain_stray d f) = run_broken s at end (step_stray s at end d f)
chain_run {s} {end} {at} (chain_more {f = f} {fs = fs} {e = e} w c) =
    let i : run_at s f.stop.0 end ≡ record { items = fs; ending = e } = chain_run c in
    let p : at + extension_header_size + be_at 4 s (at + 4) ≡ f.stop.0 = sym (ap (λ (x : FileAt). x.0) w.stops) in
    run_more s at end (step_fits s at end w.fits)
    ∙ (λ k. cons (record { signature = sym w.named k; place = sym w.begins k; start = sym w.starts k; stop = sym w.stops k }) (run_at s (p k) end))
    ∙ ap (cons f) i
