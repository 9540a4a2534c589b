use borrow.Author.Rules.{rules}
use Rattle.tree_write.proofs.Laws.{run-laws}
use Rattle.tree_write.proofs.Table.next_kid.Goals as goal

pub loop-j-init : goal.loop-j-init
loop-j-init c = search (run-laws, rules)

pub loop-j-preserved : goal.loop-j-preserved
loop-j-preserved c = search (run-laws, rules)

pub returns : goal.returns
returns c = search (run-laws, rules)
