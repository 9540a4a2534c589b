-- `siblings::comes_before` meets its contract. The invariant: what is left to compare answers what the whole does. Assumes nothing.
use Rattle.std.specs.Prelude.{◌≡◌, drop}
use Rattle.siblings.specs.Rising.{before}
use Rattle.siblings.proofs.comes_before.Given as goal

abbrev pub invariant-loop-i : goal.invariant-loop-i
invariant-loop-i l = before (drop l.i l.a) (drop l.i l.b) ≡ before l.a l.b
