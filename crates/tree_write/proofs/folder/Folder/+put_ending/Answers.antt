use Prim.Native.Nat.{◌-◌}
use native.Mathlib.Nat.{pos_of_ne-zero}
use native.Mathlib.Omega.{arith}
use lib.ListN.{length}
use Rattle.tree_write.proofs.Merge.{ready_part}
use Rattle.tree_write.proofs.Backing.{node_none, backing_start, backing_head, backing_inside, backing_end, backing_room, backing_more, left_less}
use Rattle.tree_write.proofs.folder.Folder.+put_ending.Goals as goal

pub returns-then-depth-eq0-clause-filed : goal.returns-then-depth-eq0-clause-filed
returns-then-depth-eq0-clause-filed t c = node_none _ _ _ _ _ _ c.if-depth-eq0.true

pub loop-kid-init : goal.loop-kid-init
loop-kid-init t c = (backing_start _ _ _ _ _ _ _ _ c.begin_runs-runs.ensures, c.last_kid-last.ensures.kept)

pub put_ending-pos-requires : goal.put_ending-pos-requires
put_ending-pos-requires t c = let asked = c.requires in
    let deep = c.if-depth-eq0.false in
    let inv = c.loop-kid.invariant in
    let kid = c.in-Some.ensures.found in (
      omega (arith, pos_of_ne-zero deep),
      record {
        room = backing_room _ _ _ _ _ _ deep asked.room asked.inside _ _ _ _ _ inv.0 _ kid.last;
        inside = backing_inside _ _ _ _ _ _ deep asked.room asked.inside _ _ _ _ _ inv.0;
        levels = omega (arith, asked.levels, c.loop-kid.auto.spine, c.last_kid-last.auto.spine);
        kept = inv.1;
      },
    )

pub loop-kid-smaller : goal.loop-kid-smaller
loop-kid-smaller t c = left_less _ _ _ _ _ c.in-Some.ensures.found.last

pub loop-kid-preserved : goal.loop-kid-preserved
loop-kid-preserved t c = let asked = c.requires in
    let deep = c.if-depth-eq0.false in
    let inv = c.loop-kid.invariant in
    let taken = c.in-Some.ensures in
    let put = c.put_ending-pos in
    let tails = c.last_before.new.tails in
    let used = c.unwrap_or-used in
    let ready = ready_part _ _ _ _ _ used.result (length tails - used.result) tails put.new.tails used.ensures taken.ready (omega arith) in
    (backing_more _ _ _ _ _ _ deep asked.room asked.inside _ _ _ _ _ inv.0 _ taken.found.last _ _ _ put.auto.out put.ensures.filed ready, put.ensures.spine)

pub put_head_ending-requires : goal.put_head_ending-requires
put_head_ending-requires t c = let asked = c.requires in
    let deep = c.if-depth-eq0.false in
    let inv = c.loop-kid.invariant.0 in
    (backing_head _ _ _ _ _ _ deep asked.room asked.inside _ _ _ _ _ inv, backing_inside _ _ _ _ _ _ deep asked.room asked.inside _ _ _ _ _ inv)

pub returns-clause-filed : goal.returns-clause-filed
returns-clause-filed t c = let asked = c.requires in
    backing_end _ _ _ _ _ _ c.if-depth-eq0.false asked.room asked.inside _ _ _ _ _ c.loop-kid.invariant.0 c.in_default.ensures _ _ c.put_head_ending.ensures
