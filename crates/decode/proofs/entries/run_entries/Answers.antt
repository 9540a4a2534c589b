use mathlib.Core.Path.{◌≡◌, refl, ◌∙◌}
use Prim.Native.Nat.{suc, ◌+◌, ◌-◌, ◌≤◌, ◌<◌, ◌/◌}
use native.Mathlib.Omega.{arith}
use lib.ListN.{length}
use borrow.Author.Rules.{rules}
use Rattle.std.proofs.Common.{add-zero}
use Rattle.decode.specs.Entries.{marked}
use Rattle.decode.proofs.Laws.{run_done, run_refused, run_full, run_long, run_next, run_size, run_room, marked_before, marked_now}
use Rattle.decode.proofs.entries.run_entries.Goals as goal
use Rattle.decode.proofs.entries.run_entries.Goals.{then-slots-index-via-then-slots-index, then-slots-index-via-else-slots-index+then-paths-used, then-sparse, else-sparse}

pub loop-k-init : goal.loop-k-init
loop-k-init c =
    let whole : c.args.r.count - 0 ≡ c.args.r.count = omega arith in
    record { number = omega arith; within = search rules; before = search rules; records = refl; paths = refl; rest = rw (add-zero, whole) refl }

pub overflow_add-index : goal.overflow_add-index
overflow_add-index c = omega (arith, c.loop-k.invariant.number, c.well_formed)

pub returns-in-Err-Short : goal.returns-in-Err-Short
returns-in-Err-Short c =
    let more : c.args.r.count - c.loop-k.k ≡ suc (c.args.r.count - (c.loop-k.k + 1)) = omega (arith, c.loop-k-test.true) in
    run_refused _ _ _ _ _ _ _ _ _ _ _ _ _ c.loop-k.invariant.rest _ more _ c.measure.ensures _ c.in-Err-Short.is

pub returns-in-Err-Fault : goal.returns-in-Err-Fault
returns-in-Err-Fault c =
    let more : c.args.r.count - c.loop-k.k ≡ suc (c.args.r.count - (c.loop-k.k + 1)) = omega (arith, c.loop-k-test.true) in
    run_refused _ _ _ _ _ _ _ _ _ _ _ _ _ c.loop-k.invariant.rest _ more _ c.measure.ensures _ c.in-Err-Fault.is

pub overflow_add-size : goal.overflow_add-size
overflow_add-size c =
    omega (arith, c.well_formed, c.loop-k.invariant.paths, run_size _ _ _ _ _ _ _ c.loop-k.paths _ c.measure.ensures _ c.in-Ok.is c.loop-k.invariant.before c.loop-k.invariant.within)

pub overflow_sub-paths : goal.overflow_sub-paths
overflow_sub-paths c = omega (arith, c.loop-k.invariant.within)

pub returns-then-slots-index : goal.returns-then-slots-index
returns-then-slots-index c =
    let more : c.args.r.count - c.loop-k.k ≡ suc (c.args.r.count - (c.loop-k.k + 1)) = omega (arith, c.loop-k-test.true) in
    elim c.then-slots-index.branch [
      | then-slots-index-via-then-slots-index w ↦
          let full : length c.loop-k.records / 96 ≤ c.args.r.index + c.loop-k.k = omega (arith, w.if-slots-index.true, c.records_in-slots.ensures, c.loop-k.invariant.records) in
          run_full _ _ _ _ _ _ _ _ _ _ _ _ _ c.loop-k.invariant.rest _ more _ c.measure.ensures _ c.in-Ok.is full
      | then-slots-index-via-else-slots-index+then-paths-used w ↦
          let slot : c.args.r.index + c.loop-k.k < length c.loop-k.records / 96 = omega (arith, w.if-slots-index.false, c.records_in-slots.ensures, c.loop-k.invariant.records) in
          run_long _ _ _ _ _ _ _ _ _ _ _ _ _ c.loop-k.invariant.rest _ more _ c.measure.ensures _ c.in-Ok.is slot w.if-paths-used.true
    ]

pub store-requires : goal.store-requires
store-requires c =
    rw c.unwrap_or.ensures (run_room _ _ _ _ _ _ _ c.loop-k.paths _ c.measure.ensures _ c.in-Ok.is c.loop-k.invariant.before c.loop-k.invariant.within c.if-paths-used.false)

pub loop-k-preserved : goal.loop-k-preserved
loop-k-preserved c =
    let more : c.args.r.count - c.loop-k.k ≡ suc (c.args.r.count - (c.loop-k.k + 1)) = omega (arith, c.loop-k-test.true) in
    let slot : c.args.r.index + c.loop-k.k < length c.loop-k.records / 96 = omega (arith, c.if-slots-index.false, c.records_in-slots.ensures, c.loop-k.invariant.records) in
    let sparse : c.if-sparse.sparse ≡ marked c.args.file.now c.loop-k.at.0 c.loop-k.sparse =
    elim c.if-sparse.branch [
      | then-sparse w ↦ marked_before _ _ _ _ w.if-sparse.true (w.sparse-is ∙ w.if-sparse.true)
      | else-sparse w ↦ marked_now _ _ _ _ w.if-sparse.false (w.sparse-is ∙ w.is_dir-sparse.ensures)
    ]
    in
    record {
      number = omega (arith, slot, c.loop-k.invariant.records);
      within = omega (arith, c.if-paths-used.false, c.loop-k.invariant.within, c.store.auto.paths);
      before = omega arith;
      records = c.store.auto.records ∙ c.loop-k.invariant.records;
      paths = c.store.auto.paths ∙ c.loop-k.invariant.paths;
      rest = run_next _ _ _ _ _ _ _ _ _ _ _ _ _ c.loop-k.invariant.rest _ more _ c.measure.ensures _ c.in-Ok.is slot c.if-paths-used.false
          (c.args.r.index + (c.loop-k.k + 1)) (omega arith) c.store.new.records c.store.new.paths c.if-sparse.sparse c.store.ensures.records_after
          (rw c.unwrap_or.ensures at c.store.ensures.paths_after) sparse;
    }

pub returns : goal.returns
returns c =
    let none : c.args.r.count - c.loop-k.k ≡ 0 = omega (arith, c.loop-k-test.false) in
    run_done _ _ _ _ _ _ _ _ _ _ _ _ _ c.loop-k.invariant.rest none
