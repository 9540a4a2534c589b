-- `link_sort::merge` meets its contract. The invariant: what is left to merge gives the whole answer. Assumes nothing.
use mathlib.Core.Path.{◌≡◌}
use Prim.Native.Nat.{◌-◌}
use Rattle.link_sort.specs.Runs.{merge_run}
use Rattle.link_sort.proofs.merge.Given as goal

abbrev pub invariant-loop : goal.invariant-loop
invariant-loop l = merge_run l.file l.up (l.n - l.counter) l.nodes l.runs ≡ merge_run l.file l.up l.n l.initial.nodes l.initial.runs
