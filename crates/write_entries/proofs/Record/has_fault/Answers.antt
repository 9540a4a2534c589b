use Rattle.write_entries.proofs.Laws.{laws}
use borrow.Author.Rules.{rules}
use Rattle.write_entries.proofs.Record.has_fault.Goals as goal

pub returns-then-is_removed : goal.returns-then-is_removed
returns-then-is_removed c = search (laws, rules)

pub returns : goal.returns
returns c = search (laws, rules)
