use Rattle.lines.proofs.Laws.{laws}
use borrow.Author.Rules.{rules}
use Rattle.lines.proofs.octal_mode.Goals as goal

pub returns : goal.returns
returns c = search (laws, rules)
