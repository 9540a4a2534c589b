-- `proper::WalkedTable::all_kids_fit` meets its contract. The invariant: the nodes before the present one fit, save those that the node before it is or stands below. Assumes nothing.
use Rattle.proper.proofs.Walked.{Walking}
use Rattle.proper.proofs.WalkedTable.all_kids_fit.Given as goal

abbrev pub invariant-loop-j : goal.invariant-loop-j
invariant-loop-j l = Walking l.self.nodes.now l.self.names.now l.n l.j
