-- How far the walk comes in some bodies: in a tree that is spelled, and past a repeated name in a group that is not finished. Assumes nothing.
use Rattle.std.specs.Prelude.{ℕ, refl, List, [], ◌∷◌, ◌++◌, replicate}
use Rattle.std.proofs.Common.{arith}
use Rattle.std.proofs.Math.Option.{Option}
use Rattle.laws.specs.Order.{compared}
use Rattle.grammar.specs.Number.{covers, invalid}
use Rattle.grammar.specs.Tree.{Tree, tree, childless, NodeHead, Node}
use Rattle.grammar.specs.Walk.{Reaches}
use Rattle.grammar.specs.Descent.{here, below, in_this, past, reached_exactly_by_a_way}
use Rattle.grammar.proofs.Reach.{reaches_each_depth, depth_within, nodes_within}
use Rattle.grammar.specs.DecideNumber.{decided, read_bytes, read_until, more_digits, read_digits, read_unsigned, read_signed}
use Rattle.grammar.proofs.DecideExtension.{same_list}
use Rattle.grammar.proofs.DecideTree.{read_id, read_head, head_reads, other_names, distinct, read_nodes, read_node, read_tree, tree_decided}
use Rattle.grammar.proofs.Examples.{two_nodes, two_nodes_at}

-- all that decides a tree, open
unfoldable decided_tree : ℕ → List ℕ → Option Tree
unfolding compared read_bytes read_until more_digits read_digits read_unsigned read_signed same_list read_id read_head other_names distinct read_nodes read_node read_tree
decided_tree = read_tree 20

-- ---- a root and a node in it

two_nodes_lem : Node 20 84 two_nodes (two_nodes_at 84)
unfolding decided_tree
two_nodes_lem = (tree_decided 20 84 two_nodes (two_nodes_at 84)).0 refl

-- a second level is reached, and no third
pub second_level : (k : ℕ) × Reaches 20 two_nodes 2 k
second_level = reaches_each_depth 20 two_nodes 84 (two_nodes_at 84) two_nodes_lem 1 (omega arith)

pub no_third_level : (k : ℕ) → ¬ Reaches 20 two_nodes 3 k
no_third_level = (depth_within 20 two_nodes 84 (two_nodes_at 84) two_nodes_lem 2).1 (omega arith)

-- room for two nodes is enough
pub two_are_enough : (d : ℕ) → ¬ Reaches 20 two_nodes d 2
two_are_enough = (nodes_within 20 two_nodes 84 (two_nodes_at 84) two_nodes_lem 2).1 (omega arith)

-- ---- a root of which three subtrees are to come, and two that have one name

abbrev root_of_three : List ℕ
root_of_three = 0 ∷ 49 ∷ 32 ∷ 51 ∷ 10 ∷ replicate 20 5

abbrev node_a : List ℕ
node_a = 97 ∷ 0 ∷ 45 ∷ 49 ∷ 32 ∷ 48 ∷ 10 ∷ []

root_head : NodeHead 20 root_of_three (record { name = []; count = covers 1; subtrees = 3; id = replicate 20 5 })
unfolding decided_tree
root_head = decided (head_reads 20) _ _ refl

node_a_lem : (place : ℕ) → Node 20 place node_a (tree place (97 ∷ []) invalid [] childless)
unfolding decided_tree
node_a_lem place = (tree_decided 20 place node_a _).0 refl

-- the group is not finished, so a third should begin, though no byte is left for it
pub third_should_begin : Reaches 20 (root_of_three ++ (node_a ++ node_a)) 2 3
third_should_begin =
    (reached_exactly_by_a_way 20 0 _ 2 3).1 (below {b = node_a ++ node_a} root_head refl (past {b = node_a} {c = node_a} (node_a_lem _) refl (past {b = node_a} {c = []} (node_a_lem _) refl (in_this here) refl) refl))
