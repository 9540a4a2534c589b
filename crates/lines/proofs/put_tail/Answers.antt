use Rattle.lines.proofs.Laws.{refused-laws, tail_room}
use borrow.Author.Rules.{rules}
use native.Mathlib.Omega.{arith}
use lib.ListN.{length-set}
use Rattle.lines.proofs.put_tail.Goals as goal

pub bounds-out-at : goal.bounds-out-at
bounds-out-at c = omega (arith, tail_room _ c.args.out.now c.args.at c.requires _ c.in-Some.is)

pub put_decimal-end-requires : goal.put_decimal-end-requires
put_decimal-end-requires c = omega (arith, tail_room _ c.args.out.now c.args.at c.requires _ c.in-Some.is, length-set c.args.out.now c.args.at 32)

pub bounds-out-end : goal.bounds-out-end
bounds-out-end c = omega (arith, tail_room _ c.args.out.now c.args.at c.requires _ c.in-Some.is, length-set c.args.out.now c.args.at 32)

pub bounds-out-at-in-None : goal.bounds-out-at-in-None
bounds-out-at-in-None c = search (refused-laws, rules)

pub returns-in-Some : goal.returns-in-Some
returns-in-Some c = search (refused-laws, rules)

pub returns-in-None : goal.returns-in-None
returns-in-None c = search (refused-laws, rules)
