use Rattle.lines.proofs.Laws.{laws}
use borrow.Author.Rules.{rules}
use Rattle.lines.proofs.Listing.fill.Goals as goal

pub put_line-at-requires : goal.put_line-at-requires
put_line-at-requires c = search (laws, rules)

pub loop-i-preserved : goal.loop-i-preserved
loop-i-preserved c = search (laws, rules)

pub returns : goal.returns
returns c = search (laws, rules)
