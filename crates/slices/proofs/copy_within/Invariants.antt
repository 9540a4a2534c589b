-- `slices::copy_within` meets its contract. The invariant: the first j bytes are pasted, and what is read lies before them. Assumes nothing.
use mathlib.Core.Path.{◌≡◌}
use lib.ListN.{length, drop}
use lib.Seq.{paste}
use Rattle.slices.proofs.copy_within.Given as goal

abbrev pub invariant-loop-j : goal.invariant-loop-j
invariant-loop-j l = (l.s ≡ paste l.initial.s l.to (drop l.from l.initial.s) l.j) × (length l.s ≡ length l.initial.s)
