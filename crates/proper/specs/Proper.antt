-- A proper node table (01, Writing): "non-empty, node 0 alone has no parent, every other parent is an earlier node, subtree counts agree with parents, counts are -1
-- to 2^31 - 1, sibling names are distinct, names lie in the lent bytes and hold no NUL, and depth is at most 64", by 02, A2, 512; over the depth. Assumes nothing.
use Rattle.std.specs.Prelude.{Bool, true, false, List, ℕ, zero, suc, ◌+◌, ◌-◌, ltb, eqb, length, None, Option, Some, is_none}
use Rattle.laws.specs.Pick.{pick}
use Rattle.slices.specs.Bytes.{nul_at}
use Rattle.node.specs.Head.{count_half, minus_one}
use Rattle.node.specs.Store.{nodes_in, count_at, subtrees_at, parent_at, name_inside, name_at}
use Rattle.siblings.specs.Siblings.{is_child, siblings_differ}
unfoldable pub use Rattle.walk_order.specs.Depth.{climbs, all_in}

-- ---- what node i alone says

-- node 0 alone has no parent, every other parent is an earlier node
unfoldable pub parent_fits : List ℕ → ℕ → Bool
parent_fits ns i = pick (eqb i 0) (eqb (parent_at ns i) minus_one) (ltb (parent_at ns i) i)

-- -1 to 2^31 - 1
unfoldable pub count_fits : List ℕ → ℕ → Bool
count_fits ns i = pick (eqb (count_at ns i) minus_one) true (ltb (count_at ns i) count_half)

unfoldable pub holds_none : List ℕ → Bool
holds_none name = is_none (nul_at name 0 (length name))

-- in the lent bytes, without NUL
unfoldable pub name_fits : List ℕ → List ℕ → ℕ → Bool
name_fits ns nm i = pick (name_inside nm ns i) (holds_none (name_at nm ns i)) false

unfoldable pub node_fits : ℕ → List ℕ → List ℕ → ℕ → Bool
node_fits limit ns nm i = pick (parent_fits ns i) (pick (count_fits ns i) (pick (name_fits ns nm i) (climbs ns limit i) false) false) false

-- ---- what the table says of the children of node i

-- how many of k nodes from j on are children of p
unfoldable pub child_count : List ℕ → ℕ → ℕ → ℕ → ℕ
child_count ns p zero j = 0
child_count ns p (suc k) j = pick (is_child ns p j) 1 0 + child_count ns p k (j + 1)

-- the subtree count agrees with the parents, and their names differ
unfoldable pub kids_fit : List ℕ → List ℕ → ℕ → Bool
kids_fit ns nm i = pick (eqb (subtrees_at ns i) (child_count ns i (nodes_in ns - 1) 1)) (siblings_differ nm ns i 1 (nodes_in ns)) false

-- ---- the table

abbrev pub nodes_fit : ℕ → List ℕ → List ℕ → Bool
nodes_fit limit ns nm = all_in (node_fits limit ns nm) (nodes_in ns) 0

abbrev pub all_kids_fit : List ℕ → List ℕ → Bool
all_kids_fit ns nm = all_in (kids_fit ns nm) (nodes_in ns) 0

unfoldable pub is_proper : ℕ → List ℕ → List ℕ → Bool
is_proper limit ns nm = pick (ltb 0 (nodes_in ns)) (pick (nodes_fit limit ns nm) (all_kids_fit ns nm) false) false
