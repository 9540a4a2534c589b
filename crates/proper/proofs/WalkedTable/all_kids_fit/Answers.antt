-- `proper::WalkedTable::all_kids_fit` meets its contract. Assumes nothing.
use Rattle.std.proofs.Common.{rules}
use Rattle.proper.proofs.Walked.{walking-laws}
use Rattle.proper.proofs.WalkedTable.all_kids_fit.Goals as goal

pub loop-j-init : goal.loop-j-init
loop-j-init c = search (walking-laws, rules)

pub closes-requires : goal.closes-requires
closes-requires c = search (walking-laws, rules)

pub loop-j-preserved : goal.loop-j-preserved
loop-j-preserved c = search (walking-laws, rules)

pub closes-requires-2 : goal.closes-requires-2
closes-requires-2 c = search (walking-laws, rules)

pub kids_fit-requires : goal.kids_fit-requires
kids_fit-requires c = search (walking-laws, rules)

pub returns-then-closes : goal.returns-then-closes
returns-then-closes c = search (walking-laws, rules)
