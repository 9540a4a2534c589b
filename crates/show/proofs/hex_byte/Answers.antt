-- `show::hex_byte` meets its contract. Assumes nothing.
use borrow.Author.Rules.{rules}
use Rattle.show.proofs.Laws.{byte_digits}
use Rattle.show.proofs.hex_byte.Goals as goal

pub returns : goal.returns
returns c = search (byte_digits, rules)
