-- `link_sort::string_kids` meets its contract. The invariant: what is left to string gives the whole list, and the children are no more than the nodes. Assumes
-- nothing.
use mathlib.Core.Path.{◌≡◌}
use Prim.Native.Nat.{◌+◌, ◌≤◌}
use Rattle.link_sort.specs.Runs.{strung_from, strung_kids}
use Rattle.link_sort.proofs.string_kids.Given as goal

abbrev pub invariant-loop-kid : goal.invariant-loop-kid
invariant-loop-kid l = (l.list.count + l.kid ≤ l.last) × (strung_from l.me l.kid l.kid l.list l.nodes ≡ strung_kids l.me l.last l.initial.nodes)

abbrev pub decreases-loop-kid : goal.decreases-loop-kid
decreases-loop-kid l = l.kid
