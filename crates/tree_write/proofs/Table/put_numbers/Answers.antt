use Rattle.tree_write.proofs.Laws.{laws, numbers_line}
use borrow.Author.Rules.{rules}
use Rattle.tree_write.proofs.Table.put_numbers.Goals as goal

pub subtrees-subtrees-requires : goal.subtrees-subtrees-requires
subtrees-subtrees-requires c = search (laws, rules)

pub put_byte-digits-requires : goal.put_byte-digits-requires
put_byte-digits-requires c = search (laws, rules)

pub put_decimal-end-requires : goal.put_decimal-end-requires
put_decimal-end-requires c = search (laws, rules)

pub put_byte-requires : goal.put_byte-requires
put_byte-requires c = search (numbers_line, rules)

pub shape_of-out : goal.shape_of-out
shape_of-out c = search (laws, rules)

pub returns : goal.returns
returns c = search (laws, rules)
