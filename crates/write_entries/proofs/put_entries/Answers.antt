use Rattle.write_entries.proofs.Laws.{laws}
use borrow.Author.Rules.{rules}
use Rattle.write_entries.proofs.put_entries.Goals as goal

pub loop-i-preserved : goal.loop-i-preserved
loop-i-preserved c = search (laws, rules)

pub returns : goal.returns
returns c = search (laws, rules)
