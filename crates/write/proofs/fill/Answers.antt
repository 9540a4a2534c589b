use Rattle.write.proofs.Whole.{fills}
use borrow.Author.Rules.{rules}
use Rattle.write.proofs.fill.Goals as goal

pub put_front-offset-requires : goal.put_front-offset-requires
put_front-offset-requires c = search (fills, rules)

pub fill_end-requires : goal.fill_end-requires
fill_end-requires c = search (fills, rules)

pub returns : goal.returns
returns c = search (fills, rules)

pub put_extensions-end-requires-clause-h_in_bounds : goal.put_extensions-end-requires-clause-h_in_bounds
put_extensions-end-requires-clause-h_in_bounds c = search (fills, rules)
