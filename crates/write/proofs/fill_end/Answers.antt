use Rattle.write.proofs.Whole.{whole}
use borrow.Author.Rules.{rules}
use Rattle.write.proofs.fill_end.Goals as goal

pub returns : goal.returns
returns c = search (whole, rules)
