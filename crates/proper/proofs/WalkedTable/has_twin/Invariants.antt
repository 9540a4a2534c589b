-- `proper::WalkedTable::has_twin` meets its contract. The invariant: no child behind the present one has the name. Assumes nothing.
use Rattle.proper.proofs.Walked.{Twinless}
use Rattle.proper.proofs.WalkedTable.has_twin.Given as goal

abbrev pub invariant-loop-b : goal.invariant-loop-b
invariant-loop-b l = Twinless l.self.nodes.now l.self.names.now l.p l.c l.b

abbrev pub decreases-loop-b : goal.decreases-loop-b
decreases-loop-b l = l.b
