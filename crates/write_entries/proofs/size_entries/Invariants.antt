use Rattle.write_entries.proofs.Laws.{Sizing}
use Rattle.entry.specs.Paths.{lying_in}
use Rattle.write_entries.proofs.size_entries.Given as goal

abbrev pub invariant-loop-i : goal.invariant-loop-i
invariant-loop-i l = Sizing l.records (lying_in l.paths) l.i-end l.version l.count l.size l.i
