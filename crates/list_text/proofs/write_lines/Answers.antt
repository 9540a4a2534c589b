-- `list_text::write_lines` meets its contract. Assumes nothing.
use borrow.Author.Rules.{rules}
use Rattle.list_text.proofs.Laws.{laws}
use Rattle.list_text.proofs.write_lines.Goals as goal

pub returns-in-Ok : goal.returns-in-Ok
returns-in-Ok c = search (laws, rules)

pub returns-in-Err : goal.returns-in-Err
returns-in-Err c = search (laws, rules)
