-- `walk_order::depth_above` meets its contract. The invariant: the present node stands so deep, and the climb from it answers what the whole answers. Assumes nothing.
use Rattle.walk_order.proofs.Depth.{Climbing}
use Rattle.walk_order.proofs.depth_above.Given as goal

abbrev pub invariant-loop-node : goal.invariant-loop-node
invariant-loop-node l = Climbing l.nodes l.from l.depth l.to l.node l.left

abbrev pub decreases-loop-node : goal.decreases-loop-node
decreases-loop-node l = l.left
