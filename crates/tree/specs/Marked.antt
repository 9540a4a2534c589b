-- 01's marked page on TREE, computed: an empty name, "2 1", newline, id, then "a", NUL, "-1 0", newline; and what spoils it. Assumes nothing.
use Rattle.std.specs.Prelude.{◌≡◌, refl, List, [], ◌∷◌, ◌++◌, ℕ, length, replicate, Err, None, Ok, Some}
use Rattle.slices.specs.Bytes.{same_bytes, nul_in, nul_at}
use Rattle.wire.specs.BigEndian.{be_at, bytes_of}
use Rattle.wire.specs.Digits.{is_digit, grown, digits_in, unsigned_at, signed_at}
use Rattle.format.specs.Format.{id_size, depth_limit}
use Rattle.node.specs.Head.{minus_one, spaced_at, ended_at, counted_at, named_at, head_at}
use Rattle.node.specs.Store.{numbers_of, id_of, node_of, put_at, word_at, is_part, part_of, name_at}
use Rattle.siblings.specs.Siblings.{any_in, twin, repeats, siblings_differ}
use Rattle.tree.specs.Tree.{kids, settled_as, node_at, root_at, read_tree}
use Rattle.tree.specs.declared.Error.TheVariants.{NoRoom, TooDeep}

abbrev id : List ℕ
id = 1 ∷ 2 ∷ 3 ∷ 4 ∷ 5 ∷ 6 ∷ 7 ∷ 8 ∷ 9 ∷ 10 ∷ 11 ∷ 12 ∷ 13 ∷ 14 ∷ 15 ∷ 16 ∷ 17 ∷ 18 ∷ 19 ∷ 20 ∷ []

abbrev child : List ℕ
child = 97 ∷ 0 ∷ 45 ∷ 49 ∷ 32 ∷ 48 ∷ 10 ∷ []

-- the page: a root with an id, and a child that is out of date
abbrev page : List ℕ
page = 0 ∷ 50 ∷ 32 ∷ 49 ∷ 10 ∷ (id ++ child)

page_size : length page ≡ 32
page_size = refl

-- a node's bytes in the store
abbrev stored : ℕ → ℕ → ℕ → ℕ → ℕ → List ℕ → List ℕ
stored start stop count subtrees parent id = bytes_of 8 start ++ bytes_of 8 stop ++ bytes_of 8 count ++ bytes_of 8 subtrees ++ bytes_of 8 parent ++ id

-- two nodes are stored, and the byte over stays as it was
marked : read_tree id_size depth_limit page 0 32 (replicate 145 7)
    ≡ (Ok (Some 2), stored 0 0 2 1 minus_one (id ++ replicate 12 0) ++ stored 25 26 minus_one 0 0 (replicate 32 0) ++ (7 ∷ []))
unfolding read_tree root_at node_at kids settled_as siblings_differ repeats twin any_in head_at named_at counted_at ended_at spaced_at nul_at nul_in signed_at unsigned_at digits_in is_digit grown put_at node_of numbers_of id_of word_at name_at part_of is_part be_at bytes_of same_bytes
marked = refl

-- room for one node: 10, and every byte is zeroed, the odd ones too
one_node_lent : read_tree id_size depth_limit page 0 32 (replicate 80 7) ≡ (Err NoRoom, replicate 80 0)
unfolding read_tree root_at node_at kids settled_as siblings_differ repeats twin any_in head_at named_at counted_at ended_at spaced_at nul_at nul_in signed_at unsigned_at digits_in is_digit grown put_at node_of numbers_of id_of word_at name_at part_of is_part be_at bytes_of same_bytes
one_node_lent = refl

-- a depth limit of 1: 9
one_level : read_tree id_size 1 page 0 32 (replicate 145 7) ≡ (Err TooDeep, replicate 145 0)
unfolding read_tree root_at node_at kids settled_as siblings_differ repeats twin any_in head_at named_at counted_at ended_at spaced_at nul_at nul_in signed_at unsigned_at digits_in is_digit grown put_at node_of numbers_of id_of word_at name_at part_of is_part be_at bytes_of same_bytes
one_level = refl

-- without its last byte
cut_short : read_tree id_size depth_limit page 0 31 (replicate 145 7) ≡ (Ok None, replicate 145 0)
unfolding read_tree root_at node_at kids settled_as siblings_differ repeats twin any_in head_at named_at counted_at ended_at spaced_at nul_at nul_in signed_at unsigned_at digits_in is_digit grown put_at node_of numbers_of id_of word_at name_at part_of is_part be_at bytes_of same_bytes
cut_short = refl

-- something follows the root
followed : read_tree id_size depth_limit (page ++ (0 ∷ [])) 0 33 (replicate 145 7) ≡ (Ok None, replicate 145 0)
unfolding read_tree root_at node_at kids settled_as siblings_differ repeats twin any_in head_at named_at counted_at ended_at spaced_at nul_at nul_in signed_at unsigned_at digits_in is_digit grown put_at node_of numbers_of id_of word_at name_at part_of is_part be_at bytes_of same_bytes
followed = refl

-- 2^64 - 1 subtrees end with the bytes
endless : read_tree id_size depth_limit (0 ∷ 45 ∷ 49 ∷ 32 ∷ 49 ∷ 56 ∷ 52 ∷ 52 ∷ 54 ∷ 55 ∷ 52 ∷ 52 ∷ 48 ∷ 55 ∷ 51 ∷ 55 ∷ 48 ∷ 57 ∷ 53 ∷ 53 ∷ 49 ∷ 54 ∷ 49 ∷ 53 ∷ 10 ∷ []) 0 25 (replicate 150 7) ≡ (Ok None, replicate 150 0)
unfolding read_tree root_at node_at kids settled_as siblings_differ repeats twin any_in head_at named_at counted_at ended_at spaced_at nul_at nul_in signed_at unsigned_at digits_in is_digit grown put_at node_of numbers_of id_of word_at name_at part_of is_part be_at bytes_of same_bytes
endless = refl

-- two children of one name
repeated : read_tree id_size depth_limit (0 ∷ 45 ∷ 49 ∷ 32 ∷ 50 ∷ 10 ∷ 97 ∷ 0 ∷ 45 ∷ 49 ∷ 32 ∷ 48 ∷ 10 ∷ 97 ∷ 0 ∷ 45 ∷ 49 ∷ 32 ∷ 48 ∷ 10 ∷ []) 0 20 (replicate 216 7) ≡ (Ok None, replicate 216 0)
unfolding read_tree root_at node_at kids settled_as siblings_differ repeats twin any_in head_at named_at counted_at ended_at spaced_at nul_at nul_in signed_at unsigned_at digits_in is_digit grown put_at node_of numbers_of id_of word_at name_at part_of is_part be_at bytes_of same_bytes
repeated = refl

-- an end past the file
outside : read_tree id_size depth_limit page 0 33 (replicate 145 7) ≡ (Ok None, replicate 145 0)
unfolding read_tree root_at node_at kids settled_as siblings_differ repeats twin any_in head_at named_at counted_at ended_at spaced_at nul_at nul_in signed_at unsigned_at digits_in is_digit grown put_at node_of numbers_of id_of word_at name_at part_of is_part be_at bytes_of same_bytes
outside = refl
