-- `proper::Table::count_fits` meets its contract. Assumes nothing.
use Rattle.std.proofs.Common.{rules}
use Rattle.proper.proofs.Fits.{fits}
use Rattle.proper.proofs.Table.count_fits.Goals as goal

pub returns-then-count : goal.returns-then-count
returns-then-count c = search (fits, rules)

pub returns-else-count : goal.returns-else-count
returns-else-count c = search (fits, rules)
