-- `slices::copy_bytes` meets its contract. The invariant: the first j bytes are pasted. Assumes nothing.
use mathlib.Core.Path.{◌≡◌}
use lib.ListN.{length, drop}
use lib.Seq.{paste}
use Rattle.slices.proofs.copy_bytes.Given as goal

abbrev pub invariant-loop-j : goal.invariant-loop-j
invariant-loop-j l = (l.dst ≡ paste l.initial.dst l.to (drop l.from l.src) l.j) × (length l.dst ≡ length l.initial.dst)
