-- `proper::Table::climbs` meets its contract. The invariant: the climb from the present node answers what the whole answers. Assumes nothing.
use Rattle.std.specs.Prelude.{◌≡◌, ◌-◌}
use Rattle.format.specs.Format.{depth_limit}
use Rattle.proper.specs.Proper.{climbs}
use Rattle.proper.proofs.Table.climbs.Given as goal

abbrev pub invariant-loop : goal.invariant-loop
invariant-loop l = climbs l.self.nodes.now (depth_limit - l.counter) l.node ≡ climbs l.self.nodes.now depth_limit l.i
