-- What a read put behind the front is what the reader gave next. Assumes nothing.
use Rattle.std.proofs.Common.{rules, ◌-◌, length, subst}
use Rattle.std.specs.Io.KnownBytes.{Consumes}
use Rattle.std.proofs.KnownBytes.{Consumes-trans}
use Rattle.replay.proofs.Laws.{grown}
use Rattle.replay.proofs.fill.Goals as goal

pub loop-filled-preserved : goal.loop-filled-preserved
loop-filled-preserved g c =
    let at = c.loop-filled.filled in
    let front = grown at (length c.loop-filled.room - at) c.in-Ok.n c.loop-filled.room c.read.new.buf c.loop-filled.invariant.1 c.in-Ok.ensures.bound.0 in
    (search rules, search rules, subst (Consumes _ _) front (Consumes-trans _ _ _ _ _ c.loop-filled.invariant.2 c.in-Ok.ensures.bytes.0))
