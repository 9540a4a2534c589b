-- `proper::WalkedTable::kids_differ` meets its contract. Assumes nothing.
use Rattle.std.proofs.Common.{rules}
use Rattle.proper.proofs.Walked.{pair-laws}
use Rattle.proper.proofs.WalkedTable.kids_differ.Goals as goal

pub loop-c-init : goal.loop-c-init
loop-c-init c = search (pair-laws, rules)

pub returns-then-has_twin : goal.returns-then-has_twin
returns-then-has_twin c = search (pair-laws, rules)

pub loop-c-smaller : goal.loop-c-smaller
loop-c-smaller c = search (pair-laws, rules)

pub loop-c-preserved : goal.loop-c-preserved
loop-c-preserved c = search (pair-laws, rules)

pub returns : goal.returns
returns c = search (pair-laws, rules)
