-- `proper::WalkedTable::closes` meets its contract. Assumes nothing.
use Rattle.std.proofs.Common.{rules}
use Rattle.proper.proofs.Walked.{closing-laws}
use Rattle.proper.proofs.WalkedTable.closes.Goals as goal

pub loop-x-init : goal.loop-x-init
loop-x-init c = search (closing-laws, rules)

pub returns-then-not-kids_fit : goal.returns-then-not-kids_fit
returns-then-not-kids_fit c = search (closing-laws, rules)

pub loop-x-smaller : goal.loop-x-smaller
loop-x-smaller c = search (closing-laws, rules)

pub loop-x-preserved : goal.loop-x-preserved
loop-x-preserved c = search (closing-laws, rules)

pub returns : goal.returns
returns c = search (closing-laws, rules)
