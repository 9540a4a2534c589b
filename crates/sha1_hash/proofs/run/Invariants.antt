-- `sha1_hash::run` meets its contract: each turn of the loop is two rounds. Assumes nothing.
use Rattle.std.proofs.Common.{ℕ, ◌+◌, ◌*◌, List}
use Rattle.sha1_hash.specs.Sha1.{Five}
use Rattle.sha1_hash.specs.Window.{Before}
use Rattle.sha1_hash.proofs.run.Given as goal

abbrev pub invariant-loop-pair : goal.invariant-loop-pair
invariant-loop-pair g l = (m : List ℕ) (goal : Five) → Before m goal l.initial.v l.initial.w g.row.FROM → Before m goal l.v l.w (g.row.FROM + 2 * l.pair)
