-- `tree_write::Table::siblings_rise` meets its contract. The invariant: the test of the nodes that are left answers what the whole answers. Assumes nothing.
use mathlib.Core.Path.{◌≡◌}
use Prim.Native.Nat.{◌-◌}
use Rattle.walk_order.specs.Depth.{all_in}
use Rattle.tree_write.specs.Flat.{rises_at, siblings_rise}
use Rattle.tree_write.proofs.Table.siblings_rise.Given as goal

abbrev pub invariant-loop-j : goal.invariant-loop-j
invariant-loop-j l = all_in (rises_at l.self.nodes.now l.self.names.now) (l.j-end - l.j) l.j ≡ siblings_rise l.self.nodes.now l.self.names.now
