use borrow.Author.Rules.{rules}
use Rattle.tree_write.proofs.Laws.{laws}
use Rattle.tree_write.proofs.Table.comes_before.Goals as goal

pub returns-then-comes_before : goal.returns-then-comes_before
returns-then-comes_before c = search (laws, rules)

pub returns-then-not-comes_before : goal.returns-then-not-comes_before
returns-then-not-comes_before c = search (laws, rules)

pub returns-else-not-comes_before : goal.returns-else-not-comes_before
returns-else-not-comes_before c = search (laws, rules)
