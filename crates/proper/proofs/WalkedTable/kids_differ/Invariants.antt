-- `proper::WalkedTable::kids_differ` meets its contract. The invariant: no child behind the present one has the name of an earlier one. Assumes nothing.
use Rattle.proper.proofs.Walked.{Differing}
use Rattle.proper.proofs.WalkedTable.kids_differ.Given as goal

abbrev pub invariant-loop-c : goal.invariant-loop-c
invariant-loop-c l = Differing l.self.nodes.now l.self.names.now l.p l.c

abbrev pub decreases-loop-c : goal.decreases-loop-c
decreases-loop-c l = l.c
