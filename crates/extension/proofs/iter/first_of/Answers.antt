-- `extension::iter::first_of`: the first of what is left is the first of all. Assumes nothing.
use Rattle.extension.proofs.Laws.{step_less, first_here, first_next}
use Rattle.extension.proofs.iter.first_of.Goals as goal

pub returns-then-found-wanted : goal.returns-then-found-wanted
returns-then-found-wanted c = first_here _ _ _ c.step.ensures _ _ c.loop-found.invariant c.in-Ok-Some.found (cc) c.if-found-wanted.true

pub loop-found-smaller : goal.loop-found-smaller
loop-found-smaller c = step_less _ _ _ c.step.ensures c.in-Ok-Some.found (cc)

pub loop-found-preserved : goal.loop-found-preserved
loop-found-preserved c = first_next _ _ _ c.step.ensures _ _ c.loop-found.invariant c.in-Ok-Some.found (cc) c.if-found-wanted.false
