-- `tree_write::Table::next_kid` meets its contract. The loop's invariant: the pass over what is left, from the best so far, gives the whole answer. Assumes nothing.
use mathlib.Core.Path.{◌≡◌}
use Prim.Native.Nat.{◌-◌}
use Rattle.tree_write.specs.Tree.{best_run, next_kid}
use Rattle.tree_write.proofs.Table.next_kid.Given as goal

abbrev pub invariant-loop-j : goal.invariant-loop-j
invariant-loop-j l = best_run l.self.nodes.now l.self.names.now l.parent l.last (l.j-end - l.j) l.j l.best ≡ next_kid l.self.nodes.now l.self.names.now l.parent l.last
