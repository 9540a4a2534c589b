-- THE PREMISE ON THE TREE MET, by a file that has a TREE, and missed: the grammar's example of version 2, whose tree has two nodes. With room for two the file
-- is read, and the node store shows both; with room for one it is refused with 10. Assumes nothing.
use Rattle.std.specs.Prelude.{ℕ, zero, suc, ◌-◌, ◌*◌, ◌≤◌, ◌≡◌, refl, true, false, List, [], ◌∷◌, ◌++◌, length, replicate, Err, Ok}
use Rattle.std.proofs.Common.{sym, ap, subst, arith, lit≤, lit<}
use Rattle.std.proofs.Math.Option.{some}
use Rattle.laws.specs.Times.{read_times, done}
use Rattle.format.specs.Format.{depth_limit, id_size}
use Rattle.kind.specs.Sha1.{sha1_kind}
use Rattle.entry.specs.Layout.{record_size}
use Rattle.node.specs.Head.{minus_one}
use Rattle.node.specs.Store.{node_size}
use Rattle.file.specs.Read.{read_file}
use Rattle.grammar.specs.Entry.{Meaning, start, Entries}
use Rattle.grammar.specs.Extension.{TREE}
use Rattle.grammar.specs.File.{Index, space}
use Rattle.grammar.specs.DecideNumber.{read_bytes, read_big, decided}
use Rattle.grammar.proofs.DecideEntry.{read_words, read_fields, read_flags, read_counted, read_name, read_entry, read_entries, entries_reads}
use Rattle.grammar.proofs.Unique.{entries_unique}
use Rattle.grammar.proofs.Examples.{header, kept, extension, two_nodes, two_nodes_at, trailer, entry_a, index, version_2}
use Rattle.claims_entries.specs.Rendering.{paths_bytes}
use Rattle.claims_entries.specs.Said.{Fits, RoomFor}
use Rattle.claims_extension.specs.Words.{all_bytes, bytes_if}
use Rattle.claims_tree.specs.Shown.{ShowsTree}
use Rattle.claims.specs.Premises.{Slices, GoodTrailer, zeros}
use Rattle.claims.specs.Claims.{TreeFits, stores_are_the_meaning}
use Rattle.claims.specs.Shown.{accepted_is_shown}
use Rattle.claims.specs.SpelledTree.{tree_fits_exactly, larger_is_refused_with_10}
use Rattle.file.specs.Made.{read_with_all}
use Rattle.file.specs.declared.Error.TheVariants.{NoNodeRoom}

-- one entry, "a", and a root with one node in it
abbrev with_tree_lem : List ℕ
with_tree_lem = header 2 1 ++ (entry_a ++ (extension TREE two_nodes ++ trailer))

abbrev its_index : Index
its_index = index 2 (kept 0 (97 ∷ []) ∷ []) (some (two_nodes_at 84))

-- room for one record and one path byte, and for two nodes, or for two but for one byte
abbrev records : List ℕ
records = replicate record_size 9

abbrev paths : List ℕ
paths = replicate 1 9

abbrev two_nodes_lem : List ℕ
two_nodes_lem = replicate (2 * node_size) 9

abbrev one_node_lem : List ℕ
one_node_lem = replicate (2 * node_size - 1) 9

slices : (ns : List ℕ) → length ns ≤ 2 * node_size → Slices with_tree_lem paths ns
unfolding all_bytes
slices ns h = record { bytes = bytes_if with_tree_lem refl; file = lit< tt; paths = lit< tt; nodes = omega arith }

good_trailer_lem : GoodTrailer sha1_kind with_tree_lem
good_trailer_lem = zeros refl

the_entry_spelled : Entries id_size 2 start 1 entry_a (kept 0 (97 ∷ []) ∷ [])
unfolding read_times read_bytes read_big read_words read_fields read_flags read_counted read_name read_entry read_entries
the_entry_spelled = decided (entries_reads id_size 2 start 1) entry_a (kept 0 (97 ∷ []) ∷ []) refl

room : RoomFor id_size 2 (space id_size with_tree_lem) 1 records paths
unfolding paths_bytes
room zero ms rest h (b, i, done) = record { records = lit≤ tt; paths = lit≤ tt }
room (suc zero) ms rest h x =
    let (e, f, g) = entries_unique id_size 2 start 1 (space id_size with_tree_lem) ms (kept 0 (97 ∷ []) ∷ []) rest (extension TREE two_nodes) x (entry_a, refl, the_entry_spelled) in
    subst (λ (l : List Meaning). Fits records paths 1 l) (sym e) (record { records = lit≤ tt; paths = lit≤ tt })
room (suc (suc k)) ms rest h x = absurd (omega arith)

-- ---- with room for two

pub two_fit : TreeFits sha1_kind with_tree_lem two_nodes_lem
two_fit = (tree_fits_exactly sha1_kind with_tree_lem two_nodes_lem its_index (two_nodes_at 84) version_2 refl).1 (lit≤ tt, lit≤ tt)

pub read_with_its_tree : (read_file sha1_kind depth_limit with_tree_lem records paths two_nodes_lem).answer ≡ Ok (read_with_all 2 false true 1 1 2)
unfolding paths_bytes
read_with_its_tree = (stores_are_the_meaning sha1_kind with_tree_lem records paths two_nodes_lem (slices two_nodes_lem (lit≤ tt)) good_trailer_lem room two_fit its_index version_2).answer

pub both_are_shown : ShowsTree with_tree_lem (read_file sha1_kind depth_limit with_tree_lem records paths two_nodes_lem).nodes minus_one 0 (two_nodes_at 84)
both_are_shown =
    let (m, x, one, y, shown) = accepted_is_shown sha1_kind with_tree_lem records paths two_nodes_lem (slices two_nodes_lem (lit≤ tt)) (_, read_with_its_tree) in
    shown.tree (two_nodes_at 84) (ap (λ (i : Index). i.tree) (sym (one its_index version_2)))

-- ---- with room for one

pub two_do_not_fit_one : ¬ TreeFits sha1_kind with_tree_lem one_node_lem
two_do_not_fit_one fits = let (shallow, few) = (tree_fits_exactly sha1_kind with_tree_lem one_node_lem its_index (two_nodes_at 84) version_2 refl).0 fits in omega arith

pub refused_with_10 : (read_file sha1_kind depth_limit with_tree_lem records paths one_node_lem).answer ≡ Err NoNodeRoom
refused_with_10 = larger_is_refused_with_10 sha1_kind with_tree_lem one_node_lem its_index (two_nodes_at 84) version_2 refl records paths (slices one_node_lem (lit≤ tt)) good_trailer_lem room (lit≤ tt) (lit< tt)
