-- `proper::Table::climbs` meets its contract. Assumes nothing.
use Rattle.std.proofs.Common.{rules}
use Rattle.proper.proofs.Fits.{fits}
use Rattle.proper.proofs.Table.climbs.Goals as goal

pub returns-then-node-eq0 : goal.returns-then-node-eq0
returns-then-node-eq0 c = search (fits, rules)

pub loop-preserved : goal.loop-preserved
loop-preserved c = search (fits, rules)

pub returns : goal.returns
returns c = search (fits, rules)
