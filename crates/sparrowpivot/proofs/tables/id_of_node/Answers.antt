-- `sparrowpivot::tables::id_of_node` meets its contract. Assumes nothing.
use Rattle.sparrowpivot.proofs.Laws.{laws}
use borrow.Author.Rules.{rules}
use Rattle.sparrowpivot.proofs.tables.id_of_node.Goals as goal

pub returns-then-nodes_in-i : goal.returns-then-nodes_in-i
returns-then-nodes_in-i c = search (laws, rules)

pub copy_bytes-requires-clause-n_in_bounds : goal.copy_bytes-requires-clause-n_in_bounds
copy_bytes-requires-clause-n_in_bounds c = search (laws, rules)

pub returns : goal.returns
returns c = search (laws, rules)
