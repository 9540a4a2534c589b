use Rattle.tree_write.proofs.Laws.{laws}
use borrow.Author.Rules.{rules}
use Rattle.tree_write.proofs.Table.put_front.Goals as goal

pub name-name-requires : goal.name-name-requires
name-name-requires c = search (laws, rules)

pub count-count-requires : goal.count-count-requires
count-count-requires c = search (laws, rules)

pub put_bytes-end-requires : goal.put_bytes-end-requires
put_bytes-end-requires c = search (laws, rules)

pub put_byte-next-requires : goal.put_byte-next-requires
put_byte-next-requires c = search (laws, rules)

pub put_count-requires : goal.put_count-requires
put_count-requires c = search (laws, rules)

pub shape_of-out : goal.shape_of-out
shape_of-out c = search (laws, rules)

pub returns : goal.returns
returns c = search (laws, rules)
