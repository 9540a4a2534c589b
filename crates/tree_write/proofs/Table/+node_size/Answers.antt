use borrow.Author.Rules.{rules}
use Rattle.tree_write.proofs.Laws.{size-laws}
use Rattle.tree_write.proofs.Table.+node_size.Goals as goal

pub returns-then-depth-eq0 : goal.returns-then-depth-eq0
returns-then-depth-eq0 t c = search (size-laws, rules)

pub loop-j-init : goal.loop-j-init
loop-j-init t c = search (size-laws, rules)

pub loop-j-preserved : goal.loop-j-preserved
loop-j-preserved t c = search (size-laws, rules)

pub returns : goal.returns
returns t c = search (size-laws, rules)
