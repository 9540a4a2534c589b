-- The children of a node in a table in walk order, listed from the last to the first, and the nodes that a climb leaves. Assumes nothing.
use Rattle.std.specs.Prelude.{Bool, true, false, ◌≡◌, ◌⊎◌, List, ℕ, ◌-◌, ◌≤◌, ◌<◌}
use Rattle.node.specs.Store.{nodes_in, parent_at}
use Rattle.siblings.specs.Siblings.{siblings_differ}
use Rattle.walk_order.specs.Below.{Above}
use Rattle.proper.specs.declared.WalkedKids.{WalkedKids}
use Rattle.proper.specs.Proper.{child_count, kids_fit, all_kids_fit}

-- c is a child of p
pub record Child (ns : List ℕ) (p c : ℕ) : Type 0 where
  pub real : 0 < c
  pub inside : c < nodes_in ns
  pub parent : parent_at ns c ≡ p

-- `last` is p or stands below it, and no child of p stands behind it
pub record Complete (ns : List ℕ) (p last : ℕ) : Type 0 where
  pub inside : last < nodes_in ns
  pub up : Above ns p last
  pub none : (j : ℕ) → last < j → j < nodes_in ns → parent_at ns j ≡ p → ⊥

-- what one pass over the children of p tells
pub record Seen (ns nm : List ℕ) (p : ℕ) (kids : WalkedKids) : Type 0 where
  pub count : kids.count ≡ child_count ns p (nodes_in ns - 1) 1
  pub differ : kids.rising ≡ true → siblings_differ nm ns p 1 (nodes_in ns) ≡ true

-- `to` is `from` or stands above it, and the nodes between have no children behind `from`
pub record Left (ns : List ℕ) (from to : ℕ) : Type 0 where
  pub inside : from < nodes_in ns
  pub up : Above ns to from
  pub gone : (x j : ℕ) → to < x → x ≤ from → from < j → j < nodes_in ns → parent_at ns j ≡ x → ⊥

-- the nodes from `from` on up to the one below `to` fit, or the table does not
pub record Closed (ns nm : List ℕ) (from to : ℕ) (r : Bool) : Type 0 where
  pub fit : r ≡ true → (i : ℕ) → Above ns i from → (Above ns i to) ⊎ (kids_fit ns nm i ≡ true)
  pub unfit : r ≡ false → all_kids_fit ns nm ≡ false
