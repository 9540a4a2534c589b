-- `lines::write_refused` meets its contract: a line that fits is put, and another leaves the output as it was. Assumes nothing.
use native.Mathlib.Omega.{arith}
use Rattle.lines.proofs.Laws.{laws}
use Rattle.lines.specs.Written.{size_whole, text_short, text_written}
use borrow.Author.Rules.{rules}
use Rattle.lines.proofs.write_refused.Goals as goal

pub put_refused-requires : goal.put_refused-requires
put_refused-requires c = search (laws, rules)

pub returns-then-size-out : goal.returns-then-size-out
returns-then-size-out c = text_written _ _ _ (size_whole _ _ c.refused_size-size.ensures (omega arith)) c.if-size-out.true (omega arith) _ c.put_refused.ensures

pub returns-else-size-out : goal.returns-else-size-out
returns-else-size-out c = text_short _ _ _ (size_whole _ _ c.refused_size-size.ensures (omega arith)) c.if-size-out.false
