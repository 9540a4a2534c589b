-- `link_sort::release_all` meets its contract. The invariant: what is left of the walk gives the whole answer. Assumes nothing.
use mathlib.Core.Path.{◌≡◌}
use Rattle.link_sort.specs.Runs.{walk_run}
use Rattle.link_sort.proofs.release_all.Given as goal

abbrev pub invariant-loop-left : goal.invariant-loop-left
invariant-loop-left l = walk_run l.file l.me l.left l.nodes l.w ≡ walk_run l.file l.me l.fn.count l.initial.nodes l.initial.w
