use Rattle.lines.proofs.Laws.{laws}
use borrow.Author.Rules.{rules}
use Rattle.lines.proofs.Listing.size.Goals as goal

pub loop-i-preserved : goal.loop-i-preserved
loop-i-preserved c = search (laws, rules)

pub returns : goal.returns
returns c = search (laws, rules)
