-- A node table in walk order (01, Extensions: "Nodes go to a lent store in file order"): the parent of each node but the first is the node before it, or is
-- reached from there by parents. And the climb from a node to the child that it stands below. Assumes nothing.
use Rattle.std.specs.Prelude.{Bool, true, false, List, ℕ, zero, suc, ◌+◌, ◌-◌, ltb, leb, eqb}
use Rattle.laws.specs.Pick.{pick}
use Rattle.node.specs.Store.{nodes_in, parent_at}

-- `to` is `from`, or is reached from there by parents, over at most so many nodes, both counted; a climb that has come below `to` misses it
unfoldable pub climbs_to : List ℕ → ℕ → ℕ → ℕ → Bool
climbs_to ns zero from to = false
climbs_to ns (suc k) from to = pick (ltb to from) (climbs_to ns k (parent_at ns from) to) (eqb from to)

-- k nodes from j on each have a parent that is reached from the node before them
unfoldable pub walks_from : ℕ → List ℕ → ℕ → ℕ → Bool
walks_from limit ns zero j = true
walks_from limit ns (suc k) j = pick (climbs_to ns limit (j - 1) (parent_at ns j)) (walks_from limit ns k (j + 1)) false

unfoldable pub walks : ℕ → List ℕ → Bool
walks limit ns = walks_from limit ns (nodes_in ns - 1) 1

-- the child of p that x is or stands below, by a climb over at most k nodes; 0 where the climb comes to p or before it, or to a node whose parent does not stand
-- before it
unfoldable pub kid_from : List ℕ → ℕ → ℕ → ℕ → ℕ
kid_from ns p zero x = 0
kid_from ns p (suc k) x =
    pick (leb x p) 0
    (pick (eqb (parent_at ns x) p) x
    (pick (leb x (parent_at ns x)) 0
    (kid_from ns p k (parent_at ns x))))

-- the same from x on: x nodes are enough, since each step goes to an earlier node
unfoldable pub kid_above : List ℕ → ℕ → ℕ → ℕ
kid_above ns p x = kid_from ns p x x
