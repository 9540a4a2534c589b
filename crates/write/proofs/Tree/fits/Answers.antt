use Rattle.write.proofs.Whole.{whole}
use borrow.Author.Rules.{rules}
use Rattle.write.proofs.Tree.fits.Goals as goal

pub returns-then-not-writes : goal.returns-then-not-writes
returns-then-not-writes c = search (whole, rules)

pub returns-else-not-writes : goal.returns-else-not-writes
returns-else-not-writes c = search (whole, rules)
