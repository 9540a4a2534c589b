-- `wire::digit` meets its contract. Assumes nothing.
use borrow.Author.Rules.{rules}
use Rattle.wire.proofs.Laws.{digit_none, digit_some}
use Rattle.wire.proofs.digit.Goals as goal

pub returns-in_err-d : goal.returns-in_err-d
returns-in_err-d c = digit_none c.args.base c.args.x c.from_residual.result (search rules) c.from_residual.ensures

pub returns : goal.returns
returns c = digit_some c.args.base c.args.x c.in_ok-d.d c.then_some.result (search rules) (search rules) c.then_some.ensures
