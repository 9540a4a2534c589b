-- `proper::WalkedTable::kids` meets its contract. Assumes nothing.
use Rattle.std.proofs.Common.{rules}
use Rattle.proper.proofs.Walked.{listing-laws}
use Rattle.proper.proofs.WalkedTable.kids.Goals as goal

pub loop-c-init : goal.loop-c-init
loop-c-init c = search (listing-laws, rules)

pub loop-c-smaller : goal.loop-c-smaller
loop-c-smaller c = search (listing-laws, rules)

pub loop-c-preserved : goal.loop-c-preserved
loop-c-preserved c = search (listing-laws, rules)

pub returns : goal.returns
returns c = search (listing-laws, rules)
