-- That the contract of each callable function of the reader settles its answer and every lent store: records, entries, extensions, the tree, the whole file. Assumes nothing.
use Rattle.std.specs.Prelude.{ℕ, Bool, List}
use Rattle.decode.specs.Entries.{Outcome as Ran}
use Rattle.file.specs.Read.{Outcome}
use Rattle.entry.proofs as entry
use Rattle.measure.proofs as measure
use Rattle.decode.proofs as decode
use Rattle.extension.proofs as extension
use Rattle.node.proofs as node
use Rattle.siblings.proofs as siblings
use Rattle.link_sort.proofs as link_sort
use Rattle.tree.proofs as tree
use Rattle.file.proofs as file
use Rattle.claims_settled.specs.Law.{Settles, SettlesSeen, settled}

-- ---- `entry`

pub put_record_settled : Settles entry.put_record.Kinds.ps entry.put_record.Kinds.r entry.put_record.Reads.Learnt
put_record_settled κs a z z' w w' = settled (λ o. (tt, (tt, (tt, (tt, (tt, (tt, (o, (tt, tt)))))))))

pub records_in_settled : Settles entry.records_in.Kinds.ps entry.records_in.Kinds.r entry.records_in.Reads.Learnt
records_in_settled κs a z z' w w' = settled (λ r. (r, w))

pub flags_at_settled : Settles entry.flags_at.Kinds.ps entry.flags_at.Kinds.r entry.flags_at.Reads.Learnt
flags_at_settled κs a z z' w w' = settled (λ r. (r, w))

pub mode_at_settled : Settles entry.mode_at.Kinds.ps entry.mode_at.Kinds.r entry.mode_at.Reads.Learnt
mode_at_settled κs a z z' w w' = settled (λ r. (r, w))

pub stage_at_settled : Settles entry.stage_at.Kinds.ps entry.stage_at.Kinds.r entry.stage_at.Reads.Learnt
stage_at_settled κs a z z' w w' = settled (λ r. (r, w))

pub path_start_at_settled : Settles entry.path_start_at.Kinds.ps entry.path_start_at.Kinds.r entry.path_start_at.Reads.Learnt
path_start_at_settled κs a z z' w w' = settled (λ r. (r, w))

pub path_end_at_settled : Settles entry.path_end_at.Kinds.ps entry.path_end_at.Kinds.r entry.path_end_at.Reads.Learnt
path_end_at_settled κs a z z' w w' = settled (λ r. (r, w))

pub id_at_settled : Settles entry.id_at.Kinds.ps entry.id_at.Kinds.r entry.id_at.Reads.Learnt
id_at_settled κs a z z' w w' = settled (λ r. (r, w))

pub lies_inside_settled : Settles entry.lies_inside.Kinds.ps entry.lies_inside.Kinds.r entry.lies_inside.Reads.Learnt
lies_inside_settled κs a z z' w w' = settled (λ r. (r, w))

pub path_of_settled : SettlesSeen entry.path_of.Kinds.ps entry.path_of.Kinds.r (λ κs z. z.now) entry.path_of.Reads.Learnt
path_of_settled κs a z z' w w' = settled (λ r. (r, w))

pub stage_raw_settled : Settles entry.flags.stage_raw.Kinds.ps entry.flags.stage_raw.Kinds.r entry.flags.stage_raw.Reads.Learnt
stage_raw_settled κs a z z' w w' = settled (λ r. (r, w))

pub stage_of_settled : Settles entry.flags.stage_of.Kinds.ps entry.flags.stage_of.Kinds.r entry.flags.stage_of.Reads.Learnt
stage_of_settled κs a z z' w w' = settled (λ r. (r, w))

pub is_extended_settled : Settles entry.flags.is_extended.Kinds.ps entry.flags.is_extended.Kinds.r entry.flags.is_extended.Reads.Learnt
is_extended_settled κs a z z' w w' = settled (λ r. (r, w))

pub is_removed_settled : Settles entry.flags.is_removed.Kinds.ps entry.flags.is_removed.Kinds.r entry.flags.is_removed.Reads.Learnt
is_removed_settled κs a z z' w w' = settled (λ r. (r, w))

pub to_memory_settled : Settles entry.flags.to_memory.Kinds.ps entry.flags.to_memory.Kinds.r entry.flags.to_memory.Reads.Learnt
to_memory_settled κs a z z' w w' = settled (λ r. (r, w))

pub extended_to_memory_settled : Settles entry.flags.extended_to_memory.Kinds.ps entry.flags.extended_to_memory.Kinds.r entry.flags.extended_to_memory.Reads.Learnt
extended_to_memory_settled κs a z z' w w' = settled (λ r. (r, w))

pub to_storage_settled : Settles entry.flags.to_storage.Kinds.ps entry.flags.to_storage.Kinds.r entry.flags.to_storage.Reads.Learnt
to_storage_settled κs a z z' w w' = settled (λ r. (r, w))

pub extended_to_storage_settled : Settles entry.flags.extended_to_storage.Kinds.ps entry.flags.extended_to_storage.Kinds.r entry.flags.extended_to_storage.Reads.Learnt
extended_to_storage_settled κs a z z' w w' = settled (λ r. (r, w))

pub keep_mode_settled : Settles entry.mode.keep_mode.Kinds.ps entry.mode.keep_mode.Kinds.r entry.mode.keep_mode.Reads.Learnt
keep_mode_settled κs a z z' w w' = settled (λ r. (r, w))

pub is_dir_settled : Settles entry.mode.is_dir.Kinds.ps entry.mode.is_dir.Kinds.r entry.mode.is_dir.Reads.Learnt
is_dir_settled κs a z z' w w' = settled (λ r. (r, w))

pub stat_at_settled : Settles entry.stat.stat_at.Kinds.ps entry.stat.stat_at.Kinds.r entry.stat.stat_at.Reads.Learnt
stat_at_settled κs a z z' w w' = settled (λ r. (r, w))

-- ---- `measure`

pub measure_settled : Settles measure.measure.Kinds.ps measure.measure.Kinds.r measure.measure.Reads.Learnt
measure_settled κs a z z' w w' = settled (λ r. (r, w))

-- ---- `decode`

pub max_entries_possible_settled : Settles decode.entries.max_entries_possible.Kinds.ps decode.entries.max_entries_possible.Kinds.r decode.entries.max_entries_possible.Reads.Learnt
max_entries_possible_settled κs a z z' w w' = settled (λ r. (r, w))

pub read_entries_settled : Settles decode.entries.read_entries.Kinds.ps decode.entries.read_entries.Kinds.r decode.entries.read_entries.Reads.Learnt
read_entries_settled κs a z z' w w' = settled (λ (o : Ran). (o.answer, (tt, (tt, (tt, (tt, (tt, (tt, (tt, (o.records, (o.paths, tt)))))))))))

pub decode_decode_settled : Settles decode.header.decode.Kinds.ps decode.header.decode.Kinds.r decode.header.decode.Reads.Learnt
decode_decode_settled κs a z z' w w' = settled (λ r. (r, w))

-- ---- `extension`

pub all_settled : Settles extension.decode.all.Kinds.ps extension.decode.all.Kinds.r extension.decode.all.Reads.Learnt
all_settled κs a z z' w w' = settled (λ r. (r, w))

pub end_of_index_entry_decode_settled : Settles extension.end_of_index_entry.decode.Kinds.ps extension.end_of_index_entry.decode.Kinds.r extension.end_of_index_entry.decode.Reads.Learnt
end_of_index_entry_decode_settled κs a z z' w w' = settled (λ r. (r, w))

pub index_entry_offset_table_decode_settled : Settles extension.index_entry_offset_table.decode.Kinds.ps extension.index_entry_offset_table.decode.Kinds.r extension.index_entry_offset_table.decode.Reads.Learnt
index_entry_offset_table_decode_settled κs a z z' w w' = settled (λ r. (r, w))

pub find_settled : Settles extension.index_entry_offset_table.find.Kinds.ps extension.index_entry_offset_table.find.Kinds.r extension.index_entry_offset_table.find.Reads.Learnt
find_settled κs a z z' w w' = settled (λ r. (r, w))

pub pair_at_settled : Settles extension.index_entry_offset_table.pair_at.Kinds.ps extension.index_entry_offset_table.pair_at.Kinds.r extension.index_entry_offset_table.pair_at.Reads.Learnt
pair_at_settled κs a z z' w w' = settled (λ r. (r, w))

pub pair_settled : Settles extension.index_entry_offset_table.pair.Kinds.ps extension.index_entry_offset_table.pair.Kinds.r extension.index_entry_offset_table.pair.Reads.Learnt
pair_settled κs a z z' w w' = settled (λ r. (r, w))

pub step_settled : Settles extension.iter.Cursor.step.Kinds.ps extension.iter.Cursor.step.Kinds.r extension.iter.Cursor.step.Reads.Learnt
step_settled κs a z z' w w' = settled (λ r. (r, w))

pub first_of_settled : Settles extension.iter.first_of.Kinds.ps extension.iter.first_of.Kinds.r extension.iter.first_of.Reads.Learnt
first_of_settled κs a z z' w w' = settled (λ r. (r, w))

-- ---- `node`

pub node_head_settled : Settles node.node_head.Kinds.ps node.node_head.Kinds.r node.node_head.Reads.Learnt
node_head_settled κs a z z' w w' = settled (λ r. (r, w))

pub put_node_settled : Settles node.put_node.Kinds.ps node.put_node.Kinds.r node.put_node.Reads.Learnt
put_node_settled κs a z z' w w' = settled (λ o. (tt, (tt, (tt, (tt, (o, (tt, tt)))))))

pub put_parent_settled : Settles node.put_parent.Kinds.ps node.put_parent.Kinds.r node.put_parent.Reads.Learnt
put_parent_settled κs a z z' w w' = settled (λ o. (tt, (o, (tt, (tt, tt)))))

pub nodes_in_settled : Settles node.nodes_in.Kinds.ps node.nodes_in.Kinds.r node.nodes_in.Reads.Learnt
nodes_in_settled κs a z z' w w' = settled (λ r. (r, w))

pub name_start_settled : Settles node.name_start.Kinds.ps node.name_start.Kinds.r node.name_start.Reads.Learnt
name_start_settled κs a z z' w w' = settled (λ r. (r, w))

pub name_end_settled : Settles node.name_end.Kinds.ps node.name_end.Kinds.r node.name_end.Reads.Learnt
name_end_settled κs a z z' w w' = settled (λ r. (r, w))

pub count_settled : Settles node.count.Kinds.ps node.count.Kinds.r node.count.Reads.Learnt
count_settled κs a z z' w w' = settled (λ r. (r, w))

pub subtrees_settled : Settles node.subtrees.Kinds.ps node.subtrees.Kinds.r node.subtrees.Reads.Learnt
subtrees_settled κs a z z' w w' = settled (λ r. (r, w))

pub parent_settled : Settles node.parent.Kinds.ps node.parent.Kinds.r node.parent.Reads.Learnt
parent_settled κs a z z' w w' = settled (λ r. (r, w))

pub id_settled : SettlesSeen node.id.Kinds.ps node.id.Kinds.r (λ κs z. z.now) node.id.Reads.Learnt
id_settled κs a z z' w w' = settled (λ r. (r, w))

pub name_inside_settled : Settles node.name_inside.Kinds.ps node.name_inside.Kinds.r node.name_inside.Reads.Learnt
name_inside_settled κs a z z' w w' = settled (λ r. (r, w))

pub name_settled : SettlesSeen node.name.Kinds.ps node.name.Kinds.r (λ κs z. z.now) node.name.Reads.Learnt
name_settled κs a z z' w w' = settled (λ r. (r, w))

-- ---- `siblings`

pub comes_before_settled : Settles siblings.comes_before.Kinds.ps siblings.comes_before.Kinds.r siblings.comes_before.Reads.Learnt
comes_before_settled κs a z z' w w' = settled (λ r. (r, w))

pub rises_settled : Settles siblings.rises.Kinds.ps siblings.rises.Kinds.r siblings.rises.Reads.Learnt
rises_settled κs a z z' w w' = settled (λ r. (r, w))

pub same_name_settled : Settles siblings.same_name.Kinds.ps siblings.same_name.Kinds.r siblings.same_name.Reads.Learnt
same_name_settled κs a z z' w w' = settled (λ r. (r, w))

pub siblings_differ_settled : Settles siblings.siblings_differ.Kinds.ps siblings.siblings_differ.Kinds.r siblings.siblings_differ.Reads.Learnt
siblings_differ_settled κs a z z' w w' = settled (λ r. (r, w))

-- ---- `link_sort`

pub differ_settled : Settles link_sort.differ.Kinds.ps link_sort.differ.Kinds.r link_sort.differ.Reads.Learnt
differ_settled κs a z z' w w' = settled (λ (x : Bool × List ℕ). (x.0, (tt, (x.1, (tt, (tt, tt))))))

-- ---- `tree`

pub read_tree_settled : Settles tree.read_tree.Kinds.ps tree.read_tree.Kinds.r tree.read_tree.Reads.Learnt
read_tree_settled κs a z z' w w' = settled (λ o. (o.0, (tt, (tt, (tt, (o.1, tt))))))

pub tree_number_settled : Settles tree.number.Kinds.ps tree.number.Kinds.r tree.number.Reads.Learnt
tree_number_settled κs a z z' w w' = settled (λ r. (r, w))

-- ---- `file`

pub file_number_settled : Settles file.number.Kinds.ps file.number.Kinds.r file.number.Reads.Learnt
file_number_settled κs a z z' w w' = settled (λ r. (r, w))

pub carries_settled : Settles file.carries.Kinds.ps file.carries.Kinds.r file.carries.Reads.Learnt
carries_settled κs a z z' w w' = settled (λ r. (r, w))

pub carried_settled : Settles file.carried.Kinds.ps file.carried.Kinds.r file.carried.Reads.Learnt
carried_settled κs a z z' w w' = settled (λ r. (r, w))

pub read_settled : Settles file.read.Kinds.ps file.read.Kinds.r file.read.Reads.Learnt
read_settled κs a z z' w w' = settled (λ (o : Outcome). (o.answer, (tt, (o.records, (o.paths, (o.nodes, tt))))))
