use Rattle.write.proofs.Whole.{whole}
use borrow.Author.Rules.{rules}
use Rattle.write.proofs.Options.has_eoie.Goals as goal

pub returns-then-writes_tree : goal.returns-then-writes_tree
returns-then-writes_tree c = search (whole, rules)

pub returns-else-writes_tree : goal.returns-else-writes_tree
returns-else-writes_tree c = search (whole, rules)

pub returns-else-records-gt0 : goal.returns-else-records-gt0
returns-else-records-gt0 c = search (whole, rules)
