-- `proper::Table::kids_fit_by_passes` meets its contract. Assumes nothing.
use Rattle.std.proofs.Common.{rules}
use Rattle.proper.proofs.Fits.{fits}
use Rattle.proper.proofs.Table.kids_fit_by_passes.Goals as goal

pub returns-then-subtrees-child_count : goal.returns-then-subtrees-child_count
returns-then-subtrees-child_count c = search (fits, rules)

pub returns-else-subtrees-child_count : goal.returns-else-subtrees-child_count
returns-else-subtrees-child_count c = search (fits, rules)
