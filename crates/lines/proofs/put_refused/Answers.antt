use Rattle.lines.proofs.Laws.{refused-laws, refused_tail}
use borrow.Author.Rules.{rules}
use native.Mathlib.Omega.{arith}
use Rattle.lines.proofs.put_refused.Goals as goal

pub copy_bytes-requires-clause-n_in_bounds_2 : goal.copy_bytes-requires-clause-n_in_bounds_2
copy_bytes-requires-clause-n_in_bounds_2 c = search (refused-laws, rules)

pub put_decimal-next-requires : goal.put_decimal-next-requires
put_decimal-next-requires c = search (refused-laws, rules)

pub put_tail-requires : goal.put_tail-requires
put_tail-requires c = refused_tail c.args.number c.args.carried c.args.out.now c.requires _ _ (omega arith) c.put_decimal-next.ensures.0

pub returns : goal.returns
returns c = search (refused-laws, rules)
