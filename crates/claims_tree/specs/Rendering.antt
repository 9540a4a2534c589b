-- The bytes of a cache tree in the node store, from its meaning alone (01, Extensions: "Nodes go to a lent store in file order, each with name place, count, subtree count,
-- id and parent"): 72 bytes a node, each number in eight bytes, the upper first. Assumes nothing.
use Rattle.std.specs.Prelude.{ℕ, suc, ◌+◌, ◌-◌, List, [], ◌++◌, length, drop, replicate}
use Rattle.wire.specs.BigEndian.{bytes_of}
use Rattle.format.specs.Format.{id_room}
use Rattle.node.specs.Head.{minus_one}
use Rattle.grammar.specs.Number.{Count, covers, invalid}
use Rattle.grammar.specs.Tree.{Tree, tree, Subtrees, childless, beside, nodes}

-- a count in two's complement of 64 bits; any count below zero is stored as -1, which is all ones
abbrev pub count_word : Count → ℕ
count_word (covers v) = v
count_word invalid = minus_one

abbrev pub how_many : Subtrees → ℕ
how_many childless = 0
how_many (beside t ts) = suc (how_many ts)

-- an id, and zeros up to 32 bytes
abbrev pub id_bytes : List ℕ → List ℕ
id_bytes id = id ++ replicate (id_room - length id) 0

-- where the name starts and ends, the count, how many subtrees, the parent's number, and the id
unfoldable pub node_bytes : ℕ → List ℕ → Count → ℕ → ℕ → List ℕ → List ℕ
node_bytes place name count subtrees parent id =
    (bytes_of 8 place ++ bytes_of 8 (place + length name) ++ bytes_of 8 (count_word count) ++ bytes_of 8 subtrees ++ bytes_of 8 parent) ++ id_bytes id

-- a tree whose root is node number `me`: the root, and then its subtrees, the first of which has the next number
abbrev mutual
  pub nodes_bytes : ℕ → ℕ → Tree → List ℕ
  nodes_bytes parent me (tree place name count id ts) = node_bytes place name count (how_many ts) parent id ++ subtrees_bytes me (me + 1) ts

  pub subtrees_bytes : ℕ → ℕ → Subtrees → List ℕ
  subtrees_bytes parent me childless = []
  subtrees_bytes parent me (beside t ts) = nodes_bytes parent me t ++ subtrees_bytes parent (me + nodes t) ts

-- a whole tree; its root has no parent, which is stored as all ones
abbrev pub tree_bytes : Tree → List ℕ
tree_bytes t = nodes_bytes minus_one 0 t

-- a store with bytes in front, and the rest as it was
abbrev pub filled : List ℕ → List ℕ → List ℕ
filled store bytes = bytes ++ drop (length bytes) store
