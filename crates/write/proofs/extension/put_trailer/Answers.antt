use Rattle.write.proofs.Laws.{parts}
use borrow.Author.Rules.{rules}
use Rattle.write.proofs.extension.put_trailer.Goals as goal

pub returns-then-skips : goal.returns-then-skips
returns-then-skips c = search (parts, rules)

pub returns-else-skips : goal.returns-else-skips
returns-else-skips c = search (parts, rules)
