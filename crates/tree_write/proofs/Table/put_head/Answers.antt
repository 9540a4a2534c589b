use Rattle.tree_write.proofs.Laws.{laws}
use borrow.Author.Rules.{rules}
use Rattle.tree_write.proofs.Table.put_head.Goals as goal

pub put_front-first-requires : goal.put_front-first-requires
put_front-first-requires c = search (laws, rules)

pub put_numbers-second-requires : goal.put_numbers-second-requires
put_numbers-second-requires c = search (laws, rules)

pub put_id-requires : goal.put_id-requires
put_id-requires c = search (laws, rules)

pub shape_of-out : goal.shape_of-out
shape_of-out c = search (laws, rules)

pub returns : goal.returns
returns c = search (laws, rules)
