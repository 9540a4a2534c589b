-- `proper::WalkedTable::kids` meets its contract. The invariant: the children behind the present one are counted, and those from it on are in order as far as the marks say so. Assumes nothing.
use Rattle.proper.proofs.Walked.{Listing}
use Rattle.proper.proofs.WalkedTable.kids.Given as goal

abbrev pub invariant-loop-c : goal.invariant-loop-c
invariant-loop-c l = Listing l.self.nodes.now l.self.names.now l.p l.last l.c l.count l.so

abbrev pub decreases-loop-c : goal.decreases-loop-c
decreases-loop-c l = l.c
