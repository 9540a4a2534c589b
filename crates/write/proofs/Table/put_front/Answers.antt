use Rattle.write.proofs.Whole.{whole}
use borrow.Author.Rules.{rules}
use Rattle.write.proofs.Table.put_front.Goals as goal

pub put_header-requires : goal.put_header-requires
put_header-requires c = search (whole, rules)

pub returns-clause-value : goal.returns-clause-value
returns-clause-value c = search (whole, rules)

pub returns-clause-out_after : goal.returns-clause-out_after
returns-clause-out_after c = search (whole, rules)
