use Rattle.lines.proofs.Laws.{laws}
use borrow.Author.Rules.{rules}
use Rattle.lines.proofs.put_head.Goals as goal

pub returns : goal.returns
returns c = search (laws, rules)
