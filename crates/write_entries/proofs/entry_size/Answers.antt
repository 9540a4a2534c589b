use Rattle.write_entries.proofs.Laws.{laws, fixed_bound}
use native.Mathlib.Omega.{arith}
use borrow.Author.Rules.{rules}
use Rattle.write_entries.proofs.entry_size.Goals as goal

pub overflow_add-result : goal.overflow_add-result
overflow_add-result c = omega (arith, fixed_bound _ _ c.fixed_size.ensures)

pub overflow_add-result-2 : goal.overflow_add-result-2
overflow_add-result-2 c = omega (arith, fixed_bound _ _ c.fixed_size.ensures)

pub overflow_mul-result : goal.overflow_mul-result
overflow_mul-result c = omega (arith, fixed_bound _ _ c.fixed_size.ensures)

pub returns : goal.returns
returns c = search (laws, rules)
