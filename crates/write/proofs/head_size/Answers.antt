use Rattle.write.proofs.Whole.{whole}
use borrow.Author.Rules.{rules}
use Rattle.write.proofs.head_size.Goals as goal

pub returns-then-there : goal.returns-then-there
returns-then-there c = search (whole, rules)

pub returns-else-there : goal.returns-else-there
returns-else-there c = search (whole, rules)
