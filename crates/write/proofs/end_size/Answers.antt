use Rattle.write.proofs.Whole.{whole}
use borrow.Author.Rules.{rules}
use Rattle.write.proofs.end_size.Goals as goal

pub returns-then-has : goal.returns-then-has
returns-then-has c = search (whole, rules)

pub returns-else-has : goal.returns-else-has
returns-else-has c = search (whole, rules)
