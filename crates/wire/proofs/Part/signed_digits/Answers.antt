-- `wire::Part::signed_digits` meets its contract. Each way through the sign is one law. Assumes nothing.
use Rattle.wire.proofs.Laws.{signs}
use borrow.Author.Rules.{rules}
use Rattle.wire.proofs.Part.signed_digits.Goals as goal

pub returns-then-self-at : goal.returns-then-self-at
returns-then-self-at c = search (signs, rules)

pub returns-in-43 : goal.returns-in-43
returns-in-43 c = search (signs, rules)

pub returns-in-45 : goal.returns-in-45
returns-in-45 c = search (signs, rules)

pub returns-in_default : goal.returns-in_default
returns-in_default c = search (signs, rules)
