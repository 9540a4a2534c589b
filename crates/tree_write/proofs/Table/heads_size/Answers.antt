use borrow.Author.Rules.{rules}
use Rattle.tree_write.proofs.Heads.{flat-laws}
use Rattle.tree_write.proofs.Table.heads_size.Goals as goal

pub loop-i-preserved : goal.loop-i-preserved
loop-i-preserved c = search (flat-laws, rules)

pub returns : goal.returns
returns c = search (flat-laws, rules)
