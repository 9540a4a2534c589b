-- `proper::Table::name_fits` meets its contract. Assumes nothing.
use Rattle.std.proofs.Common.{rules}
use Rattle.proper.proofs.Fits.{fits}
use Rattle.proper.proofs.Table.name_fits.Goals as goal

pub returns-then-name_inside : goal.returns-then-name_inside
returns-then-name_inside c = search (fits, rules)

pub returns-else-name_inside : goal.returns-else-name_inside
returns-else-name_inside c = search (fits, rules)
