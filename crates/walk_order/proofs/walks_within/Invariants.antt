-- `walk_order::walks_within` meets its contract. The invariant: the node before stands so deep, and the test of the nodes that are left answers what the whole answers. Assumes nothing.
use Rattle.walk_order.proofs.Depth.{Deepening}
use Rattle.walk_order.proofs.walks_within.Given as goal

abbrev pub invariant-loop-j : goal.invariant-loop-j
invariant-loop-j l = Deepening l.nodes l.j-end l.depth l.j
