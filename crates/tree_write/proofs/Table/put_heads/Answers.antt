use borrow.Author.Rules.{rules}
use Rattle.tree_write.proofs.Heads.{flat-laws}
use Rattle.tree_write.proofs.Table.put_heads.Goals as goal

pub put_head-pos-requires : goal.put_head-pos-requires
put_head-pos-requires c = search (flat-laws, rules)

pub loop-i-preserved : goal.loop-i-preserved
loop-i-preserved c = search (flat-laws, rules)

pub returns : goal.returns
returns c = search (flat-laws, rules)
