use native.Mathlib.Omega.{arith}
use Rattle.write_entries.proofs.Laws.{stated_small, laws}
use borrow.Author.Rules.{rules}
use Rattle.write_entries.proofs.Record.head.Goals as goal

pub overflow_add-word : goal.overflow_add-word
overflow_add-word c = omega (arith, stated_small _ _ c.stated_length.ensures)

pub returns : goal.returns
returns c = search (laws, rules)
