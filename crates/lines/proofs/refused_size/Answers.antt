use Rattle.lines.proofs.Laws.{refused-laws, digits_fit}
use borrow.Author.Rules.{rules}
use native.Mathlib.Omega.{arith}
use Rattle.lines.proofs.refused_size.Goals as goal

pub overflow_add-alone : goal.overflow_add-alone
overflow_add-alone c = omega (arith, digits_fit _ _ c.decimal_size.ensures (omega arith))

pub overflow_add-alone-2 : goal.overflow_add-alone-2
overflow_add-alone-2 c = omega (arith, digits_fit _ _ c.decimal_size.ensures (omega arith))

pub overflow_add-result : goal.overflow_add-result
overflow_add-result c = omega (arith, digits_fit _ _ c.decimal_size.ensures (omega arith))

pub overflow_add-result-in-Some : goal.overflow_add-result-in-Some
overflow_add-result-in-Some c = omega (arith, digits_fit _ _ c.decimal_size.ensures (omega arith), digits_fit _ _ c.decimal_size-in-Some.ensures (omega arith))

pub returns-in-Some : goal.returns-in-Some
returns-in-Some c = search (refused-laws, rules)

pub returns-in-None : goal.returns-in-None
returns-in-None c = search (refused-laws, rules)
