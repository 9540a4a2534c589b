use borrow.Author.Rules.{rules}
use Rattle.tree_write.proofs.Heads.{flat-laws}
use Rattle.tree_write.proofs.tree_size.Goals as goal

pub returns-then-is_shallow : goal.returns-then-is_shallow
returns-then-is_shallow c = search (flat-laws, rules)
