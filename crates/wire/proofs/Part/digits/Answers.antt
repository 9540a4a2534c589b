-- `wire::Part::digits` meets its contract. The first digit is tested, and the run of digits follows. Assumes nothing.
use borrow.Author.Rules.{rules}
use Rattle.wire.proofs.Laws.{digits, base_above, unsigned_past, unsigned_other}
use Rattle.wire.proofs.Part.digits.Goals.{then-self-at-via-then-self-at, then-self-at-via-else-self-at+then-is_none}
use Rattle.wire.proofs.Part.digits.Goals as goal

pub returns-then-self-at : goal.returns-then-self-at
returns-then-self-at c = let a = c.args in elim c.then-self-at.branch [
  | then-self-at-via-then-self-at w ↦ unsigned_past a.base a.most a.self.bytes.now a.at a.self.end w.if-self-at.true
  | then-self-at-via-else-self-at+then-is_none w ↦ unsigned_other a.base a.most a.self.bytes.now a.at a.self.end w.if-self-at.false (search rules)
]

pub run_of_digits-requires-clause-base_nonzero : goal.run_of_digits-requires-clause-base_nonzero
run_of_digits-requires-clause-base_nonzero c = search (digits, rules)

pub returns : goal.returns
returns c = search (digits, rules)
