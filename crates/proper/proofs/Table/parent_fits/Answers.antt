-- `proper::Table::parent_fits` meets its contract. Assumes nothing.
use Rattle.std.proofs.Common.{rules}
use Rattle.proper.proofs.Fits.{fits}
use Rattle.proper.proofs.Table.parent_fits.Goals as goal

pub returns-then-i-eq0 : goal.returns-then-i-eq0
returns-then-i-eq0 c = search (fits, rules)

pub returns-else-i-eq0 : goal.returns-else-i-eq0
returns-else-i-eq0 c = search (fits, rules)
