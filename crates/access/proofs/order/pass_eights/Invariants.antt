-- The eights before number j agree, and decide nothing. Assumes nothing.
use Rattle.std.specs.Prelude.{◌*◌}
use Rattle.access.specs.Order.{Passed}
use Rattle.access.proofs.order.pass_eights.Given as goal

abbrev pub invariant-loop-j : goal.invariant-loop-j
invariant-loop-j l = Passed l.a l.b (l.j * 8)
