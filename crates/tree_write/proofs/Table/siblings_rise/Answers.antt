use borrow.Author.Rules.{rules}
use Rattle.tree_write.proofs.Heads.{flat-laws}
use Rattle.tree_write.proofs.Table.siblings_rise.Goals as goal

pub loop-j-init : goal.loop-j-init
loop-j-init c = search (flat-laws, rules)

pub returns-then-not-rises : goal.returns-then-not-rises
returns-then-not-rises c = search (flat-laws, rules)

pub loop-j-preserved : goal.loop-j-preserved
loop-j-preserved c = search (flat-laws, rules)

pub returns : goal.returns
returns c = search (flat-laws, rules)
