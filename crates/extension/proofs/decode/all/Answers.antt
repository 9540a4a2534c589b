-- `extension::decode::all`: what is left comes to what the whole does. Assumes nothing.
use Rattle.extension.proofs.Laws.{step_less, all_done, all_broken, all_forbidden, all_next}
use Rattle.extension.proofs.decode.all.Goals as goal

pub returns-in_default : goal.returns-in_default
returns-in_default c = all_broken _ _ _ c.step.ensures _ _ _ c.loop-step.invariant c.in_default.is

pub returns-in_default-step : goal.returns-in_default-step
returns-in_default-step c = all_done _ _ _ c.step.ensures _ _ _ c.loop-step.invariant (cc)

pub returns-then-is_forbidden : goal.returns-then-is_forbidden
returns-then-is_forbidden c = all_forbidden _ _ _ c.step.ensures _ _ _ c.loop-step.invariant c.in-Some.found (cc) _ c.is_forbidden.ensures c.if-is_forbidden.true

pub loop-step-smaller : goal.loop-step-smaller
loop-step-smaller c = step_less _ _ _ c.step.ensures c.in-Some.found (cc)

pub loop-step-preserved : goal.loop-step-preserved
loop-step-preserved c =
    all_next _ _ _ c.step.ensures _ _ _ c.loop-step.invariant c.in-Some.found (cc) _ c.is_forbidden.ensures c.if-is_forbidden.false _ _ c.mark-sparse.ensures c.latest-bodies.ensures
