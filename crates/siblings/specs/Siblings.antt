-- "Sibling names differ" (01, Extensions), of the nodes in a store: no two children of a node have the same name. Assumes nothing.
use Rattle.std.specs.Prelude.{ℕ, zero, suc, ◌+◌, ◌-◌, Bool, true, false, List, eqb}
use Rattle.laws.specs.Pick.{pick}
use Rattle.slices.specs.Bytes.{same_bytes}
use Rattle.node.specs.Store.{parent_at, name_at}

-- one of the f numbers from i on passes the test
unfoldable pub any_in : (ℕ → Bool) → ℕ → ℕ → Bool
any_in p zero i = false
any_in p (suc f) i = pick (p i) true (any_in p f (i + 1))

-- one of the numbers from `first` on and before `end` does
abbrev pub some : (ℕ → Bool) → ℕ → ℕ → Bool
some p first end = any_in p (end - first) first

abbrev pub is_child : List ℕ → ℕ → ℕ → Bool
is_child ns parent j = eqb (parent_at ns j) parent

-- node j is a child of the parent and has the name of node i
unfoldable pub twin : List ℕ → List ℕ → ℕ → ℕ → ℕ → Bool
twin names ns parent i j = pick (is_child ns parent j) (same_bytes (name_at names ns i) (name_at names ns j)) false

-- node i is a child of the parent, and an earlier child has its name
unfoldable pub repeats : List ℕ → List ℕ → ℕ → ℕ → ℕ → Bool
repeats names ns parent first i = pick (is_child ns parent i) (some (twin names ns parent i) first i) false

-- no child among the nodes from `first` on and before `used` repeats an earlier one's name
unfoldable pub siblings_differ : List ℕ → List ℕ → ℕ → ℕ → ℕ → Bool
siblings_differ names ns parent first used = pick (some (repeats names ns parent first) first used) false true
