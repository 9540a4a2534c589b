-- `proper::WalkedTable::closes` meets its contract. The invariant: the nodes below the present one are done, and no child of it stands behind the node that the climb came from. Assumes nothing.
use Rattle.proper.proofs.Walked.{Closing}
use Rattle.proper.proofs.WalkedTable.closes.Given as goal

abbrev pub invariant-loop-x : goal.invariant-loop-x
invariant-loop-x l = Closing l.self.nodes.now l.self.names.now l.from l.to l.x l.last

abbrev pub decreases-loop-x : goal.decreases-loop-x
decreases-loop-x l = l.x
