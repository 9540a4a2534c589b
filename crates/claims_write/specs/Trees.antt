-- THE WRITTEN TREE: where TREE is written, its body is spelled and is the tree of the node table, every node once, siblings sorted by name; and the file means it. Assumes that
-- the node table has fewer than 2^64 bytes, as every slice has.
use Rattle.std.specs.Prelude.{ℕ, ◌^◌, ◌≤◌, ◌<◌, ◌≡◌, Bool, true, List, length, Ok}
use Rattle.std.proofs.Common.{sym, ap, ◌∙◌, arith}
use Rattle.std.proofs.Math.Option.{none, some}
use Rattle.laws.specs.Pick.{pick}
use Rattle.format.specs.Format.{depth_limit}
use Rattle.kind.specs.Kind.{Kind}
use Rattle.entry.specs.Paths.{Paths}
use Rattle.grammar.specs.Tree.{Tree, nodes, Node}
use Rattle.grammar.proofs.Reach.{depth_within, nodes_within}
use Rattle.grammar.proofs.DecideTree.{read_tree, tree_decided}
use Rattle.claims_tree.specs.Rendering.{tree_bytes}
use Rattle.claims_tree.specs.Said.{lent, KeepsWithinDepth, HasRoom}
use Rattle.node.specs.Store.{nodes_in}
use Rattle.proper.specs.Proper.{is_proper}
use Rattle.proper.specs.Table.{Proper, proper_exactly}
use Rattle.write.specs.declared.Options.{Options}
use Rattle.write.specs.File.{writes_tree, tree_fits, write_all}
use Rattle.claims_write.specs.Spelled.{tree_body, tree_place, tree_meant, done_says}
use Rattle.claims_write.specs.Tree.{tree_at, tree_spelled, tree_shallow, Sorted, tree_sorted}
use Rattle.claims_write.specs.Count.{tree_nodes}
use Rattle.claims_write.specs.Listed.{InFileOrder, Rows, same_list_lem}
use Rattle.write.specs.Made.{written_with}

module _ (kind : Kind) where
  -- the tree of a node table, in a file with this record table: its names stand behind the entries
  abbrev pub tree_written : List ℕ → Paths → List ℕ → List ℕ → Tree
  tree_written rs ps ns nm = tree_at kind.id ns nm depth_limit (tree_place kind rs ps) 0

  module _ (rs : List ℕ) (ps : Paths) (ns nm : List ℕ) (o : Options) (out : List ℕ) (version size : ℕ) (done : (write_all kind depth_limit rs ps ns nm o out).answer ≡ Ok (written_with version size)) (few : length ns < 2 ^ 64) (asked : writes_tree o ≡ true) where
    -- a table that is written is proper
    pub proper : Proper depth_limit ns nm
    unfolding tree_fits
    proper = let d = done_says kind rs ps ns nm o out version size done in (proper_exactly depth_limit ns nm).0 (sym (ap (λ (t : Bool). pick t (is_proper depth_limit ns nm) true) asked) ∙ d.proper)

    -- TREE's body is the tree, which the grammar spells
    pub written_tree_is_spelled : Node kind.id (tree_place kind rs ps) (tree_body kind ns nm) (tree_written rs ps ns nm)
    written_tree_is_spelled = tree_spelled kind.id depth_limit ns nm kind.fits few proper (tree_place kind rs ps)

    pub written_tree_is_sorted : Sorted (tree_written rs ps ns nm)
    written_tree_is_sorted = tree_sorted kind.id depth_limit ns nm kind.fits few proper (tree_place kind rs ps)

    -- and the file means it
    pub tree_is_meant : tree_meant kind rs ps ns nm o ≡ some (tree_written rs ps ns nm)
    tree_is_meant =
        ap (λ (t : Bool). pick t (read_tree kind.id (tree_place kind rs ps) (tree_body kind ns nm)) none) asked ∙ (tree_decided kind.id (tree_place kind rs ps) (tree_body kind ns nm) (tree_written rs ps ns nm)).1 written_tree_is_spelled

    -- it has every node of the table once
    pub written_tree_nodes : nodes (tree_written rs ps ns nm) ≡ nodes_in ns
    written_tree_nodes = tree_nodes depth_limit ns nm proper kind.id (tree_place kind rs ps)

    -- a store of as many nodes as the table has is room enough
    pub room_for_tree : (nodes' : List ℕ) → nodes_in ns ≤ lent nodes' → KeepsWithinDepth kind.id (tree_body kind ns nm) depth_limit × HasRoom kind.id (tree_body kind ns nm) (lent nodes')
    room_for_tree nodes' h =
        let x = written_tree_is_spelled in
        let v : Tree = tree_written rs ps ns nm in (
          (depth_within kind.id (tree_body kind ns nm) (tree_place kind rs ps) v x depth_limit).1 (tree_shallow kind.id depth_limit ns nm kind.fits few proper (tree_place kind rs ps)),
          (nodes_within kind.id (tree_body kind ns nm) (tree_place kind rs ps) v x (lent nodes')).1 (omega (arith, written_tree_nodes)),
        )

    -- where the table's nodes stand in the order in which they are written, what is stored of the tree is the same node list, name places aside
    pub same_nodes_are_stored : InFileOrder depth_limit ns nm → Rows kind.id ns nm 0 (nodes_in ns) (tree_bytes (tree_written rs ps ns nm))
    same_nodes_are_stored order = same_list_lem kind.id depth_limit ns nm proper order (tree_place kind rs ps)
