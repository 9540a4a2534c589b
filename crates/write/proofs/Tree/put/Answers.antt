use Rattle.write.proofs.Whole.{whole}
use borrow.Author.Rules.{rules}
use Rattle.write.proofs.Tree.put.Goals as goal

pub returns-in-Some : goal.returns-in-Some
returns-in-Some c = search (whole, rules)

pub returns-in-None : goal.returns-in-None
returns-in-None c = search (whole, rules)
