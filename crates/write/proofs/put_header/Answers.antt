use Rattle.write.proofs.Whole.{whole}
use borrow.Author.Rules.{rules}
use Rattle.write.proofs.put_header.Goals as goal

pub returns : goal.returns
returns c = search (whole, rules)
