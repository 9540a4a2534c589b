use borrow.Author.Rules.{rules}
use Rattle.tree_write.proofs.Laws.{laws}
use Rattle.tree_write.proofs.Table.head_size.Goals as goal

pub returns : goal.returns
returns c = search (laws, rules)
