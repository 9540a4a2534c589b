use native.Mathlib.Omega.{arith}
use borrow.Author.Rules.{rules}
use Rattle.wire.specs.Written.{size_more}
use Rattle.wire.proofs.Laws.{written}
use Rattle.wire.proofs.+put_decimal.Goals as goal

pub bounds-d-at : goal.bounds-d-at
bounds-d-at t c = search (written, rules)

pub returns-then-x-lt10 : goal.returns-then-x-lt10
returns-then-x-lt10 t c = search (written, rules)

pub put_decimal-next-requires : goal.put_decimal-next-requires
put_decimal-next-requires t c = search (written, rules)

pub bounds-d-next : goal.bounds-d-next
bounds-d-next t c = search (written, rules)

pub overflow_add-result-2 : goal.overflow_add-result-2
overflow_add-result-2 t c = let called = c.put_decimal-next in
    record { fits = omega (arith, size_more c.args.x (omega arith), called.ensures.0, c.requires) }

pub returns : goal.returns
returns t c = search (written, rules)
