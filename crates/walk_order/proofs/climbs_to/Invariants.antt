-- `walk_order::climbs_to` meets its contract. The invariant: the climb from the present node answers what the whole answers. Assumes nothing.
use Rattle.std.specs.Prelude.{◌≡◌, ◌-◌}
use Rattle.walk_order.specs.Walk.{climbs_to}
use Rattle.format.specs.Format.{depth_limit}
use Rattle.walk_order.proofs.climbs_to.Given as goal

abbrev pub invariant-loop : goal.invariant-loop
invariant-loop l = climbs_to l.nodes (depth_limit - l.counter) l.node l.to ≡ climbs_to l.nodes depth_limit l.from l.to
