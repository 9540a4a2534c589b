-- `wire::Part::run_of_digits` meets its contract. The invariant: what is left to read, after v, answers what the whole does. Assumes nothing.
use lib.ListN.{drop}
use Prim.Native.Nat.{◌-◌}
use mathlib.Core.Path.{◌≡◌}
use Rattle.wire.specs.Digits.{digits_in}
use Rattle.wire.proofs.Part.run_of_digits.Given as goal

abbrev pub invariant-loop-i : goal.invariant-loop-i
invariant-loop-i l = digits_in l.base l.most (l.self.end - l.i) (drop l.i l.self.bytes.now) l.i l.v ≡ digits_in l.base l.most (l.self.end - l.at) (drop l.at l.self.bytes.now) l.at 0
