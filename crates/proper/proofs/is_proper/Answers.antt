-- `proper::is_proper` meets its contract. Assumes nothing.
use Rattle.std.proofs.Common.{rules}
use Rattle.proper.proofs.Fits.{fits}
use Rattle.proper.proofs.is_proper.Goals.{then-not-is_too_deep, else-not-is_too_deep}
use Rattle.proper.proofs.is_proper.Goals as goal

pub returns-then-nodes-lt-NODE_SIZE : goal.returns-then-nodes-lt-NODE_SIZE
returns-then-nodes-lt-NODE_SIZE c = search (fits, rules)

pub returns-then-nodes_fit : goal.returns-then-nodes_fit
returns-then-nodes_fit c = search (fits, rules)

pub returns-else-nodes_fit : goal.returns-else-nodes_fit
returns-else-nodes_fit c = elim c.if-not-is_too_deep.branch [ then-not-is_too_deep w ↦ search (fits, rules) | else-not-is_too_deep w ↦ search (fits, rules) ]
