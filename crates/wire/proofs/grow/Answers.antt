-- `wire::grow` meets its contract. Where the value is not above the largest, its product is at most `most`. Assumes nothing.
use native.Mathlib.Omega.{arith}
use borrow.Author.Rules.{rules}
use Rattle.wire.proofs.Laws.{grow_under, grows}
use Rattle.wire.proofs.grow.Goals as goal

pub returns-then-largest-v : goal.returns-then-largest-v
returns-then-largest-v c = search (grows, rules)

pub overflow_mul-product : goal.overflow_mul-product
overflow_mul-product c = let a = c.args in record { fits = omega (arith, grow_under a.v a.digit a.base a.most a.largest c.requires.0 c.requires.1 (omega arith)) }

pub overflow_sub-most : goal.overflow_sub-most
overflow_sub-most c = let a = c.args in omega (arith, grow_under a.v a.digit a.base a.most a.largest c.requires.0 c.requires.1 (omega arith))

pub returns-then-most-product : goal.returns-then-most-product
returns-then-most-product c = search (grows, rules)

pub overflow_add-result : goal.overflow_add-result
overflow_add-result c = let a = c.args in record { fits = omega (arith, grow_under a.v a.digit a.base a.most a.largest c.requires.0 c.requires.1 (omega arith)) }

pub returns : goal.returns
returns c = search (grows, rules)
