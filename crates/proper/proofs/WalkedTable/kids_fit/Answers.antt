-- `proper::WalkedTable::kids_fit` meets its contract. Assumes nothing.
use Rattle.std.proofs.Common.{rules}
use Rattle.proper.proofs.Walked.{folder-laws}
use Rattle.proper.proofs.WalkedTable.kids_fit.Goals as goal

pub returns-then-kids : goal.returns-then-kids
returns-then-kids c = search (folder-laws, rules)

pub returns-else-kids : goal.returns-else-kids
returns-else-kids c = search (folder-laws, rules)

pub returns-else-subtrees-kids : goal.returns-else-subtrees-kids
returns-else-subtrees-kids c = search (folder-laws, rules)
