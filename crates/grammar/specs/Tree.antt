-- How a cache tree is spelled: a node's head, and behind it its subtrees, from a place of the file on; after gitformat-index, "Cache tree", and 01, "Extensions". n is the
-- length of an id. How deep a tree may be is no part of what it is: `depth` only measures one. Assumes nothing.
use Rattle.std.specs.Prelude.{ℕ, zero, suc, ◌+◌, max, ◌≡◌, List, [], ◌∷◌, ◌++◌, length}
use Rattle.grammar.specs.Number.{Count, covers, invalid, Signed, Unsigned}
use Rattle.grammar.specs.Entry.{NoNul}

-- ---- THE MEANING

-- a node: the place of the file where its name starts, the name, how many entries it covers, its id (no bytes where it is invalid), and its subtrees
mutual
  pub data Tree : Type 0 where
    tree : (place : ℕ) (name : List ℕ) (count : Count) (id : List ℕ) (subtrees : Subtrees) → Tree

  pub data Subtrees : Type 0 where
    childless : Subtrees
    beside : Tree → Subtrees → Subtrees

abbrev pub name_of : Tree → List ℕ
name_of (tree place name count id subtrees) = name

abbrev pub names : Subtrees → List (List ℕ)
names childless = []
names (beside t ts) = name_of t ∷ names ts

-- "the root has depth 1"
abbrev mutual
  pub depth : Tree → ℕ
  depth (tree place name count id subtrees) = suc (deepest subtrees)

  pub deepest : Subtrees → ℕ
  deepest childless = 0
  deepest (beside t ts) = max (depth t) (deepest ts)

-- how many nodes
abbrev mutual
  pub nodes : Tree → ℕ
  nodes (tree place name count id subtrees) = suc (nodes_of subtrees)

  pub nodes_of : Subtrees → ℕ
  nodes_of childless = 0
  nodes_of (beside t ts) = nodes t + nodes_of ts

-- ---- THE HEAD OF A NODE

-- what a node's head says; `subtrees` is how many follow
pub record Head : Type 0 where
  pub name : List ℕ
  pub count : Count
  pub subtrees : ℕ
  pub id : List ℕ

-- "20 id bytes unless the count is negative"
pub data Id (n : ℕ) : Count → List ℕ → Type 0 where
  of_tree : {v : ℕ} {id : List ℕ} → length id ≡ n → Id n (covers v) id
  no_id : Id n invalid []

-- "Name, NUL, signed decimal entry count, space, unsigned decimal subtree count, newline, 20 id bytes unless the count is negative"
pub data NodeHead (n : ℕ) : List ℕ → Head → Type 0 where
  node_head : {name c k id : List ℕ} {count : Count} {subtrees : ℕ} → NoNul name → Signed c count → Unsigned k subtrees → Id n count id
      → NodeHead n (name ++ (0 ∷ (c ++ (32 ∷ (k ++ (10 ∷ id)))))) (record { name = name; count = count; subtrees = subtrees; id = id })

-- ---- THE NODE

-- a name that is none of the others
pub data Other (name : List ℕ) : List (List ℕ) → Type 0 where
  alone : Other name []
  differs : {name₁ : List ℕ} {more : List (List ℕ)} → (name ≡ name₁ → ⊥) → Other name more → Other name (name₁ ∷ more)

-- "Sibling names differ."
pub data Distinct : List (List ℕ) → Type 0 where
  no_names : Distinct []
  one_more_lem : {name : List ℕ} {more : List (List ℕ)} → Other name more → Distinct more → Distinct (name ∷ more)

mutual
  -- a head, "then its subtrees", from a place of the file on; "A node's subtrees are read by the same rule one level down"
  pub data Node (n : ℕ) : ℕ → List ℕ → Tree → Type 0 where
    node : {place : ℕ} {x h b : List ℕ} {head : Head} {subtrees : Subtrees} → NodeHead n h head → Nodes n (place + length h) head.subtrees b subtrees → Distinct (names subtrees)
        → x ≡ h ++ b → Node n place x (tree place head.name head.count head.id subtrees)

  -- so many nodes, one behind the other
  pub data Nodes (n : ℕ) : ℕ → ℕ → List ℕ → Subtrees → Type 0 where
    no_node : {place : ℕ} → Nodes n place zero [] childless
    one_node_lem : {place k : ℕ} {x b c : List ℕ} {t : Tree} {ts : Subtrees} → Node n place b t → Nodes n (place + length b) k c ts → x ≡ b ++ c
        → Nodes n place (suc k) x (beside t ts)
