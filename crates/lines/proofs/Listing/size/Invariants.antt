-- `lines::Listing::size` meets its contract. The loop's invariant: the size so far and the lines that are left come to the whole. Assumes nothing.
use Rattle.sums.specs.Cap.{cap}
use mathlib.Core.Path.{◌≡◌}
use Prim.Native.Nat.{◌+◌, ◌-◌, ◌≤◌}
use lib.ListN.{length}
use Rattle.lines.specs.Lines.{lines_from}
use Rattle.format.specs.Format.{id_size}
use Rattle.entry.specs.Paths.{lying_in}
use Rattle.lines.proofs.Listing.size.Given as goal

abbrev pub invariant-loop-i : goal.invariant-loop-i
invariant-loop-i l = (l.size ≤ 18446744073709551615) × (cap (l.size + length (lines_from id_size l.self.records.now (lying_in l.self.paths.now) (l.self.n - l.i) l.i)) ≡ cap (length (lines_from id_size l.self.records.now (lying_in l.self.paths.now) l.self.n 0)))
