use Rattle.write_entries.proofs.Laws.{laws}
use borrow.Author.Rules.{rules}
use Rattle.write_entries.proofs.Laws.{kept_small}
use native.Mathlib.Omega.{arith}
use Rattle.write_entries.proofs.size_entries.Goals as goal

pub returns-then-has_fault : goal.returns-then-has_fault
returns-then-has_fault c = search (laws, rules)

pub overflow_add-count : goal.overflow_add-count
overflow_add-count c = omega (arith, kept_small _ _ _ c.count-count.ensures)

pub loop-i-preserved : goal.loop-i-preserved
loop-i-preserved c = search (laws, rules)

pub returns : goal.returns
returns c = search (laws, rules)
