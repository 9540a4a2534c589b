use Rattle.std.proofs.Common.{rules}
use Rattle.walk_order.proofs.Depth.{depth-laws}
use Rattle.walk_order.proofs.walks_within.Goals as goal

pub loop-j-init : goal.loop-j-init
loop-j-init c = search (depth-laws, rules)

pub returns-in_default : goal.returns-in_default
returns-in_default c = search (depth-laws, rules)

pub returns-then-up-eq-DEPTH_LIMIT : goal.returns-then-up-eq-DEPTH_LIMIT
returns-then-up-eq-DEPTH_LIMIT c = search (depth-laws, rules)

pub overflow_add-depth : goal.overflow_add-depth
overflow_add-depth c = search (depth-laws, rules)

pub loop-j-preserved : goal.loop-j-preserved
loop-j-preserved c = search (depth-laws, rules)

pub returns : goal.returns
returns c = search (depth-laws, rules)
