-- `proper::Table::node_fits` meets its contract. Assumes nothing.
use Rattle.std.proofs.Common.{rules}
use Rattle.proper.proofs.Fits.{fits}
use Rattle.proper.proofs.Table.node_fits.Goals as goal

pub returns-then-self : goal.returns-then-self
returns-then-self c = search (fits, rules)

pub returns-else-self : goal.returns-else-self
returns-else-self c = search (fits, rules)

pub returns-else-name_fits : goal.returns-else-name_fits
returns-else-name_fits c = search (fits, rules)
