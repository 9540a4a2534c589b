-- What each answer of a reading of a cache tree says, over the grammar alone, and the premises of the claims, each a definition that names no reader's answer. n is the length
-- of an id. Assumes nothing.
use Rattle.std.specs.Prelude.{ℕ, suc, ◌≤◌, ◌≡◌, List, length, replicate, Err, None, Ok, Option, Result, Some}
use Rattle.node.specs.Store.{nodes_in}
use Rattle.grammar.specs.Tree.{Tree, depth, nodes, Node}
use Rattle.grammar.specs.Walk.{Reaches}
use Rattle.claims_tree.specs.Rendering.{tree_bytes, filled}
use Rattle.tree.specs.declared.Error.{Error as TreeError}
use Rattle.tree.specs.declared.Error.TheVariants.{NoRoom, TooDeep}

-- ---- the walk of a body, and the trees that it spells

-- one level below the limit a node should begin, after no more heads than nodes are lent
abbrev pub GoesTooDeep : ℕ → List ℕ → ℕ → ℕ → Type 0
GoesTooDeep n body limit room = (k : ℕ) × (k ≤ room) × Reaches n body (suc limit) k

-- after as many heads as nodes are lent a node should begin
abbrev pub UsesUp : ℕ → List ℕ → ℕ → Type 0
UsesUp n body room = (d : ℕ) × Reaches n body d room

-- the body is a tree from this place on
abbrev pub SpellsTree : ℕ → ℕ → List ℕ → Type 0
SpellsTree n place body = (t : Tree) × Node n place body t

-- and one of so many nodes, no deeper than the limit, for which there is room
abbrev pub SpellsTreeWithin : ℕ → ℕ → List ℕ → ℕ → ℕ → ℕ → Type 0
SpellsTreeWithin n place body limit room k = (t : Tree) × Node n place body t × (depth t ≤ limit) × (nodes t ≤ room) × (k ≡ nodes t)

-- ---- the premises, of the walk alone

-- no node should begin below the limit
abbrev pub KeepsWithinDepth : ℕ → List ℕ → ℕ → Type 0
KeepsWithinDepth n body limit = (k : ℕ) → ¬ Reaches n body (suc limit) k

-- and none for which no room is lent
abbrev pub HasRoom : ℕ → List ℕ → ℕ → Type 0
HasRoom n body room = (d : ℕ) → ¬ Reaches n body d room

-- ---- THE ANSWERS

-- how many whole nodes a store has room for
abbrev pub lent : List ℕ → ℕ
lent store = nodes_in store

-- every byte zero
abbrev pub zeroed : List ℕ → List ℕ
zeroed store = replicate (length store) 0

-- an answer, and the store that is left with it
abbrev pub Left : Type 0
Left = Result (Option ℕ) TreeError × List ℕ

pub data SaysReadTree (n place : ℕ) (body : List ℕ) (limit : ℕ) (store : List ℕ) : Left → Type 0 where
  says_tree : {t : Tree} → Node n place body t → depth t ≤ limit → nodes t ≤ lent store → SaysReadTree n place body limit store (Ok (Some (nodes t)), filled store (tree_bytes t))
  -- "first met when the tree is walked in file order; where a node should begin 9, then 10, then its bytes"
  says_too_deep : GoesTooDeep n body limit (lent store) → SaysReadTree n place body limit store (Err TooDeep, zeroed store)
  says_no_room : UsesUp n body (lent store) → ¬ GoesTooDeep n body limit (lent store) → SaysReadTree n place body limit store (Err NoRoom, zeroed store)
  says_malformed : ¬ SpellsTree n place body → ¬ GoesTooDeep n body limit (lent store) → ¬ UsesUp n body (lent store) → SaysReadTree n place body limit store (Ok None, zeroed store)
