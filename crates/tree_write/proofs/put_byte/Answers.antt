use Rattle.tree_write.proofs.Laws.{laws}
use borrow.Author.Rules.{rules}
use Rattle.tree_write.proofs.put_byte.Goals as goal

pub bounds-out-at : goal.bounds-out-at
bounds-out-at c = search (laws, rules)

pub overflow_add-result : goal.overflow_add-result
overflow_add-result c = search (laws, rules)

pub shape_of-out : goal.shape_of-out
shape_of-out c = search (laws, rules)

pub returns : goal.returns
returns c = search (laws, rules)
