-- `lines::write_records` meets its contract: lines that fit are put, and others leave the output as it was. Assumes nothing.
use Rattle.lines.specs.Written.{text_fits, text_written}
use Rattle.lines.specs.Lines.{lines_from}
use native.Mathlib.Omega.{arith}
use Rattle.lines.proofs.Laws.{laws}
use borrow.Author.Rules.{rules}
use Rattle.format.specs.Format.{id_size}
use Rattle.entry.specs.Paths.{lying_in}
use Rattle.lines.proofs.write_records.Goals as goal

pub fill-requires : goal.fill-requires
fill-requires c = text_fits (lines_from id_size c.args.records.now (lying_in c.args.paths.now) c.args.n 0) c.args.out.now _ c.size-size.ensures c.if-size-out.true (omega arith)

pub returns-then-size-out : goal.returns-then-size-out
returns-then-size-out c = text_written _ _ _ c.size-size.ensures c.if-size-out.true (omega arith) _ c.fill.ensures

pub returns-else-size-out : goal.returns-else-size-out
returns-else-size-out c = search (laws, rules)
