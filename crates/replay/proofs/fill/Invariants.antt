-- What was filled is what the reader gave, and each read makes the rest of the room smaller. Assumes nothing.
use Rattle.std.proofs.Common.{◌≡◌, ◌-◌, ◌≤◌, length, take}
use Rattle.std.specs.Io.KnownBytes.{Consumes}
use Rattle.replay.proofs.fill.Given as goal

abbrev pub invariant-loop-filled : goal.invariant-loop-filled
invariant-loop-filled g l =
    (length l.room ≡ length l.initial.room) × (l.filled ≤ length l.room)
    × Consumes (g.R.Read.remaining l.fn.from) (g.R.Read.remaining l.from) (take l.filled l.room)

abbrev pub decreases-loop-filled : goal.decreases-loop-filled
decreases-loop-filled g l = length l.room - l.filled
