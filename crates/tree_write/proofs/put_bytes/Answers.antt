use Rattle.tree_write.proofs.Laws.{laws}
use borrow.Author.Rules.{rules}
use Rattle.tree_write.proofs.put_bytes.Goals as goal

pub copy_bytes-requires : goal.copy_bytes-requires
copy_bytes-requires c = search (laws, rules)

pub overflow_add-result : goal.overflow_add-result
overflow_add-result c = search (laws, rules)

pub shape_of-out : goal.shape_of-out
shape_of-out c = search (laws, rules)

pub returns : goal.returns
returns c = search (laws, rules)
