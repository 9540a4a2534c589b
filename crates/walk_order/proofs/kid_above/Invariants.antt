-- `walk_order::kid_above` meets its contract. The invariant: the climb from the present node finds what the whole finds. Assumes nothing.
use mathlib.Core.Path.{◌≡◌}
use Rattle.walk_order.specs.Walk.{kid_from, kid_above}
use Rattle.walk_order.proofs.kid_above.Given as goal

abbrev pub invariant-loop-node : goal.invariant-loop-node
invariant-loop-node l = kid_from l.nodes l.p l.node l.node ≡ kid_above l.nodes l.p l.x

abbrev pub decreases-loop-node : goal.decreases-loop-node
decreases-loop-node l = l.node
