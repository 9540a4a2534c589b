use Rattle.write.proofs.Whole.{whole}
use borrow.Author.Rules.{rules}
use Rattle.write.proofs.Options.writes_tree.Goals as goal

pub returns-then-self : goal.returns-then-self
returns-then-self c = search (whole, rules)

pub returns-else-self : goal.returns-else-self
returns-else-self c = search (whole, rules)
