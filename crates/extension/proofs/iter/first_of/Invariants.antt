-- `extension::iter::first_of` meets its contract. The invariant: the first from the present cursor on is the first of all; the measure is what is left to walk. Assumes nothing.
use Prim.Native.Nat.{◌-◌}
use mathlib.Core.Path.{◌≡◌}
use Rattle.extension.specs.Iter.{first_at}
use Rattle.extension.proofs.iter.first_of.Given as goal

abbrev pub invariant-loop-found : goal.invariant-loop-found
invariant-loop-found l = first_at l.file l.here.at.0 l.here.end.0 l.wanted ≡ first_at l.file l.initial.here.at.0 l.initial.here.end.0 l.wanted

abbrev pub decreases-loop-found : goal.decreases-loop-found
decreases-loop-found l = l.here.end.0 - l.here.at.0
