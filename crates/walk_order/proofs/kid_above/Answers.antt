use borrow.Author.Rules.{rules}
use Rattle.walk_order.proofs.Laws.{laws}
use Rattle.walk_order.proofs.kid_above.Goals as goal

pub loop-node-init : goal.loop-node-init
loop-node-init c = search (laws, rules)

pub parent-up-requires : goal.parent-up-requires
parent-up-requires c = search (laws, rules)

pub returns-then-up-p : goal.returns-then-up-p
returns-then-up-p c = search (laws, rules)

pub returns-then-node-up : goal.returns-then-node-up
returns-then-node-up c = search (laws, rules)

pub loop-node-smaller : goal.loop-node-smaller
loop-node-smaller c = search (laws, rules)

pub loop-node-preserved : goal.loop-node-preserved
loop-node-preserved c = search (laws, rules)

pub returns : goal.returns
returns c = search (laws, rules)
