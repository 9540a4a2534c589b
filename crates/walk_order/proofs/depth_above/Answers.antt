use Rattle.std.proofs.Common.{rules}
use Rattle.walk_order.proofs.Depth.{depth-laws}
use Rattle.walk_order.proofs.depth_above.Goals as goal

pub loop-node-init : goal.loop-node-init
loop-node-init c = search (depth-laws, rules)

pub overflow_sub-left : goal.overflow_sub-left
overflow_sub-left c = search (depth-laws, rules)

pub loop-node-smaller : goal.loop-node-smaller
loop-node-smaller c = search (depth-laws, rules)

pub loop-node-preserved : goal.loop-node-preserved
loop-node-preserved c = search (depth-laws, rules)

pub returns : goal.returns
returns c = search (depth-laws, rules)
