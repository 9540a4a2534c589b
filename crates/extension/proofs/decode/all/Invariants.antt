-- `extension::decode::all` meets its contract. The invariant: what is left to walk, after the mark and the bodies so far, comes to what the whole does; the measure is what is left of the space. Assumes nothing.
use Prim.Native.Nat.{◌-◌}
use mathlib.Core.Path.{◌≡◌}
use Rattle.extension.specs.Iter.{run_at}
use Rattle.extension.specs.Decode.{all_from, all_at}
use Rattle.extension.proofs.decode.all.Given as goal

abbrev pub invariant-loop-step : goal.invariant-loop-step
invariant-loop-step l = all_from l.sparse l.bodies (run_at l.file l.here.at.0 l.here.end.0) ≡ all_at l.file l.initial.here.at.0 l.initial.here.end.0

abbrev pub decreases-loop-step : goal.decreases-loop-step
decreases-loop-step l = l.here.end.0 - l.here.at.0
