-- `lines::Listing::fill` meets its contract. The loop's invariant: putting the lines that are left at the present place gives the whole output, and they fit. Assumes nothing.
use mathlib.Core.Path.{◌≡◌}
use Prim.Native.Nat.{◌+◌, ◌-◌, ◌≤◌}
use lib.ListN.{length}
use Rattle.laws.specs.Put.{put}
use Rattle.lines.specs.Lines.{lines_from}
use Rattle.format.specs.Format.{id_size}
use Rattle.entry.specs.Paths.{lying_in}
use Rattle.lines.proofs.Listing.fill.Given as goal

abbrev pub invariant-loop-i : goal.invariant-loop-i
invariant-loop-i l = (length l.out ≡ length l.initial.out)
    × ((l.at + length (lines_from id_size l.self.records.now (lying_in l.self.paths.now) (l.self.n - l.i) l.i) ≤ length l.out)
    × (put l.out l.at (lines_from id_size l.self.records.now (lying_in l.self.paths.now) (l.self.n - l.i) l.i) ≡ put l.initial.out 0 (lines_from id_size l.self.records.now (lying_in l.self.paths.now) l.self.n 0)))
