-- `proper::WalkedTable::has_twin` meets its contract. Assumes nothing.
use Rattle.std.proofs.Common.{rules}
use Rattle.proper.proofs.Walked.{pair-laws}
use Rattle.proper.proofs.WalkedTable.has_twin.Goals as goal

pub loop-b-init : goal.loop-b-init
loop-b-init c = search (pair-laws, rules)

pub returns-then-same_name : goal.returns-then-same_name
returns-then-same_name c = search (pair-laws, rules)

pub loop-b-smaller : goal.loop-b-smaller
loop-b-smaller c = search (pair-laws, rules)

pub loop-b-preserved : goal.loop-b-preserved
loop-b-preserved c = search (pair-laws, rules)

pub returns : goal.returns
returns c = search (pair-laws, rules)
