-- `wire::Part::seven_bit` meets its contract. The invariant: what is left to read, after a, answers what the whole does, and a is small enough for one group more. Assumes nothing.
use lib.ListN.{drop}
use Prim.Native.Nat.{◌<◌, ◌-◌, ◌^◌}
use mathlib.Core.Path.{◌≡◌}
use Rattle.wire.specs.Groups.{groups_in, number_at}
use Rattle.wire.proofs.Part.seven_bit.Given as goal

abbrev pub invariant-loop-i : goal.invariant-loop-i
invariant-loop-i l = (l.a < 2 ^ 57) × (groups_in (l.self.end - l.i) (drop l.i l.self.bytes.now) l.i l.a ≡ number_at l.self.bytes.now l.at l.self.end)
