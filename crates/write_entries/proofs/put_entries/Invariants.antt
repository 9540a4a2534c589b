use Rattle.entry.specs.Paths.{lying_in}
use Rattle.write_entries.proofs.Laws.{Filling}
use Rattle.write_entries.proofs.put_entries.Given as goal

abbrev pub invariant-loop-i : goal.invariant-loop-i
invariant-loop-i l = Filling l.records (lying_in l.paths) l.initial.out l.from l.i-end l.out l.at l.i
