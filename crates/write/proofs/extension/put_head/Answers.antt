use Rattle.write.proofs.Laws.{parts}
use borrow.Author.Rules.{rules}
use Rattle.write.proofs.extension.put_head.Goals as goal

pub returns : goal.returns
returns c = search (parts, rules)
