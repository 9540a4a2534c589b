-- The node store (01, Extensions: "Nodes go to a lent store in file order, each with name place, count, subtree count, id and parent"): 72 bytes a node. Where the
-- name starts and ends, count, subtree count and parent are 64 bits each, and 32 bytes are the id's, zero where there is none. Assumes nothing.
use Rattle.std.specs.Prelude.{ℕ, ◌+◌, ◌-◌, ◌*◌, ◌/◌, Bool, false, List, [], ◌++◌, length, take, drop, replicate, ltb, leb}
use Rattle.std.proofs.Math.Seq.{paste}
use Rattle.laws.specs.Pick.{pick}
use Rattle.wire.specs.BigEndian.{be_at, bytes_of}
use Rattle.format.specs.Format.{id_room}
use Rattle.node.specs.declared.Node.{Node}

abbrev pub node_size : ℕ
node_size = 72

-- where each part of a node stands in its bytes
abbrev pub start_place : ℕ
start_place = 0

abbrev pub end_place : ℕ
end_place = 8

abbrev pub count_place : ℕ
count_place = 16

abbrev pub subtrees_place : ℕ
subtrees_place = 24

abbrev pub parent_place : ℕ
parent_place = 32

abbrev pub id_place : ℕ
id_place = 40

-- how many nodes a store has room for
abbrev pub nodes_in : List ℕ → ℕ
nodes_in ns = length ns / node_size

-- ---- a node's bytes

unfoldable pub numbers_of : Node → ℕ → List ℕ
numbers_of n parent = bytes_of 8 n.start ++ bytes_of 8 n.stop ++ bytes_of 8 n.count ++ bytes_of 8 n.subtrees ++ bytes_of 8 parent

-- the id's bytes in the file, and zeros up to 32
unfoldable pub id_of : List ℕ → Node → List ℕ
id_of s n = take (n.next - n.id) (drop n.id s) ++ replicate (id_room - (n.next - n.id)) 0

unfoldable pub node_of : List ℕ → Node → ℕ → List ℕ
node_of s n parent = numbers_of n parent ++ id_of s n

-- the store with node i written: as it was where it has no node i, or where the id does not lie in the file or is too long
unfoldable pub put_at : List ℕ → Node → ℕ → List ℕ → ℕ → List ℕ
put_at s n parent ns i =
    pick (leb (nodes_in ns) i) ns
    (pick (ltb n.next n.id) ns
    (pick (ltb id_room (n.next - n.id)) ns
    (pick (ltb (length s) n.next) ns
    (paste ns (i * node_size) (node_of s n parent) node_size))))

-- the store with the parent of node i set: as it was where it has no node i
unfoldable pub with_parent : List ℕ → ℕ → ℕ → List ℕ
with_parent ns i parent = pick (ltb i (nodes_in ns)) (paste ns (i * node_size + parent_place) (bytes_of 8 parent) 8) ns

-- ---- what the store says of node i

-- the number at k; 0 past the last whole node
unfoldable pub word_at : ℕ → List ℕ → ℕ → ℕ
word_at k ns i = pick (ltb i (nodes_in ns)) (be_at 8 ns (i * node_size + k)) 0

abbrev pub name_start_at : List ℕ → ℕ → ℕ
name_start_at = word_at start_place

abbrev pub name_end_at : List ℕ → ℕ → ℕ
name_end_at = word_at end_place

abbrev pub count_at : List ℕ → ℕ → ℕ
count_at = word_at count_place

abbrev pub subtrees_at : List ℕ → ℕ → ℕ
subtrees_at = word_at subtrees_place

abbrev pub parent_at : List ℕ → ℕ → ℕ
parent_at = word_at parent_place

unfoldable pub id_at : ℕ → List ℕ → ℕ → List ℕ
id_at idLength ns i = pick (ltb i (nodes_in ns)) (take idLength (drop (i * node_size + id_place) ns)) []

-- the part of the names from b to e; empty where it is no part of them
unfoldable pub is_part : List ℕ → ℕ → ℕ → Bool
is_part names b e = pick (leb b e) (leb e (length names)) false

unfoldable pub part_of : List ℕ → ℕ → ℕ → List ℕ
part_of names b e = pick (is_part names b e) (take (e - b) (drop b names)) []

unfoldable pub name_inside : List ℕ → List ℕ → ℕ → Bool
name_inside names ns i = is_part names (name_start_at ns i) (name_end_at ns i)

unfoldable pub name_at : List ℕ → List ℕ → ℕ → List ℕ
name_at names ns i = part_of names (name_start_at ns i) (name_end_at ns i)
