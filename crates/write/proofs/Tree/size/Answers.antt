use Rattle.write.proofs.Whole.{whole}
use borrow.Author.Rules.{rules}
use Rattle.write.proofs.Tree.size.Goals as goal

pub returns-then-writes : goal.returns-then-writes
returns-then-writes c = search (whole, rules)

pub returns-else-writes : goal.returns-else-writes
returns-else-writes c = search (whole, rules)
