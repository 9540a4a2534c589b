-- `list_text::write_too_big` meets its contract: a text that fits is put, and otherwise the output is as it was. Assumes nothing.
use native.Mathlib.Omega.{arith}
use Rattle.list_text.proofs.Laws.{too_written, laws}
use borrow.Author.Rules.{rules}
use Rattle.list_text.proofs.write_too_big.Goals as goal

pub returns-then-out-lt8 : goal.returns-then-out-lt8
returns-then-out-lt8 c = search (laws, rules)

pub copy_bytes-requires : goal.copy_bytes-requires
copy_bytes-requires c = search (laws, rules)

pub shape_of-out : goal.shape_of-out
shape_of-out c = search (laws, rules)

pub returns : goal.returns
returns c = too_written _ _ c.if-out-lt8.false (omega arith) c.copy_bytes.ensures
