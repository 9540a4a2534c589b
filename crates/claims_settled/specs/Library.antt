-- That the contract of each exported function settles what a C program gets: the returned number, all eight numbers and every lent store. Assumes nothing.
use Rattle.std.specs.Prelude.{get_or, []}
use Rattle.sparrowpivot.specs.Told.{Told}
use Rattle.sparrowpivot.proofs as sparrowpivot
use Rattle.claims_settled.specs.Law.{Settles, settled}

-- ---- `sparrowpivot`

pub sha1_settled : Settles sparrowpivot.sparrowpivot_sha1.Kinds.ps sparrowpivot.sparrowpivot_sha1.Kinds.r sparrowpivot.sparrowpivot_sha1.Reads.Learnt
sha1_settled κs a z z' w w' = settled (λ o. (tt, (tt, (o, tt))))

pub eoie_settled : Settles sparrowpivot.extensions.sparrowpivot_eoie.Kinds.ps sparrowpivot.extensions.sparrowpivot_eoie.Kinds.r sparrowpivot.extensions.sparrowpivot_eoie.Reads.Learnt
eoie_settled κs a z z' w w' = settled (λ (t : Told). (t.code, (tt, (t.values, tt))))

pub ieot_count_settled : Settles sparrowpivot.extensions.sparrowpivot_ieot_count.Kinds.ps sparrowpivot.extensions.sparrowpivot_ieot_count.Kinds.r sparrowpivot.extensions.sparrowpivot_ieot_count.Reads.Learnt
ieot_count_settled κs a z z' w w' = settled (λ (t : Told). (t.code, (tt, (tt, (t.values, tt)))))

pub ieot_pair_settled : Settles sparrowpivot.extensions.sparrowpivot_ieot_pair.Kinds.ps sparrowpivot.extensions.sparrowpivot_ieot_pair.Kinds.r sparrowpivot.extensions.sparrowpivot_ieot_pair.Reads.Learnt
ieot_pair_settled κs a z z' w w' = settled (λ (t : Told). (t.code, (tt, (tt, (tt, (t.values, tt))))))

pub max_entries_settled : Settles sparrowpivot.extensions.sparrowpivot_max_entries.Kinds.ps sparrowpivot.extensions.sparrowpivot_max_entries.Kinds.r sparrowpivot.extensions.sparrowpivot_max_entries.Reads.Learnt
max_entries_settled κs a z z' w w' = settled (λ r. (r, w))

pub read_settled : Settles sparrowpivot.reading.sparrowpivot_read.Kinds.ps sparrowpivot.reading.sparrowpivot_read.Kinds.r sparrowpivot.reading.sparrowpivot_read.Reads.Learnt
read_settled κs a z z' w w' = settled (λ (t : Told). (t.code, (tt, (get_or t.stores 0 [], (get_or t.stores 1 [], (get_or t.stores 2 [], (t.values, tt)))))))

pub entries_settled : Settles sparrowpivot.reading.sparrowpivot_entries.Kinds.ps sparrowpivot.reading.sparrowpivot_entries.Kinds.r sparrowpivot.reading.sparrowpivot_entries.Reads.Learnt
entries_settled κs a z z' w w' = settled (λ (t : Told). (t.code, (tt, (tt, (tt, (get_or t.stores 0 [], (get_or t.stores 1 [], (t.values, tt))))))))

pub write_settled : Settles sparrowpivot.writing.sparrowpivot_write.Kinds.ps sparrowpivot.writing.sparrowpivot_write.Kinds.r sparrowpivot.writing.sparrowpivot_write.Reads.Learnt
write_settled κs a z z' w w' = settled (λ (t : Told). (t.code, (tt, (tt, (tt, (tt, (tt, (get_or t.stores 0 [], (t.values, tt)))))))))

pub lookup_settled : Settles sparrowpivot.searching.sparrowpivot_lookup.Kinds.ps sparrowpivot.searching.sparrowpivot_lookup.Kinds.r sparrowpivot.searching.sparrowpivot_lookup.Reads.Learnt
lookup_settled κs a z z' w w' = settled (λ (t : Told). (t.code, (tt, (tt, (tt, (tt, (t.values, tt)))))))

pub check_order_settled : Settles sparrowpivot.searching.sparrowpivot_check_order.Kinds.ps sparrowpivot.searching.sparrowpivot_check_order.Kinds.r sparrowpivot.searching.sparrowpivot_check_order.Reads.Learnt
check_order_settled κs a z z' w w' = settled (λ (t : Told). (t.code, (tt, (tt, (t.values, tt)))))

pub record_settled : Settles sparrowpivot.tables.sparrowpivot_record.Kinds.ps sparrowpivot.tables.sparrowpivot_record.Kinds.r sparrowpivot.tables.sparrowpivot_record.Reads.Learnt
record_settled κs a z z' w w' = settled (λ (t : Told). (t.code, (tt, (tt, (tt, (t.values, tt))))))

pub record_stat_settled : Settles sparrowpivot.tables.sparrowpivot_record_stat.Kinds.ps sparrowpivot.tables.sparrowpivot_record_stat.Kinds.r sparrowpivot.tables.sparrowpivot_record_stat.Reads.Learnt
record_stat_settled κs a z z' w w' = settled (λ (t : Told). (t.code, (tt, (tt, (t.values, tt)))))

pub record_id_settled : Settles sparrowpivot.tables.sparrowpivot_record_id.Kinds.ps sparrowpivot.tables.sparrowpivot_record_id.Kinds.r sparrowpivot.tables.sparrowpivot_record_id.Reads.Learnt
record_id_settled κs a z z' w w' = settled (λ o. (tt, (tt, (tt, (o, tt)))))

pub node_settled : Settles sparrowpivot.tables.sparrowpivot_node.Kinds.ps sparrowpivot.tables.sparrowpivot_node.Kinds.r sparrowpivot.tables.sparrowpivot_node.Reads.Learnt
node_settled κs a z z' w w' = settled (λ (t : Told). (t.code, (tt, (tt, (t.values, tt)))))

pub node_id_settled : Settles sparrowpivot.tables.sparrowpivot_node_id.Kinds.ps sparrowpivot.tables.sparrowpivot_node_id.Kinds.r sparrowpivot.tables.sparrowpivot_node_id.Reads.Learnt
node_id_settled κs a z z' w w' = settled (λ o. (tt, (tt, (tt, (o, tt)))))
