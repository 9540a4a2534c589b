use Rattle.std.proofs.Common.{rules, arith}
use Rattle.walk_order.proofs.Laws.{laws, climb_up}
use Rattle.walk_order.proofs.climbs_to.Goals as goal

pub returns-then-node-to : goal.returns-then-node-to
returns-then-node-to c = search (laws, rules)

pub loop-preserved : goal.loop-preserved
loop-preserved c = climb_up _ _ _ _ _ c.loop.invariant (omega arith) c.if-node-to.false _ _ c.parent-node.ensures (omega arith)

pub returns : goal.returns
returns c = search (laws, rules)
