use Rattle.write_entries.proofs.Laws.{laws}
use borrow.Author.Rules.{rules}
use Rattle.write_entries.proofs.version_with.Goals as goal

pub returns-then-is_extended : goal.returns-then-is_extended
returns-then-is_extended c = search (laws, rules)

pub returns-else-is_extended : goal.returns-else-is_extended
returns-else-is_extended c = search (laws, rules)
