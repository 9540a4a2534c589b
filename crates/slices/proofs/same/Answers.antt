use borrow.Author.Rules.{rules}
use Rattle.slices.specs.Laws.{laws}
use Rattle.slices.proofs.same.Goals as goal

pub loop-k-init : goal.loop-k-init
loop-k-init c = search (laws, rules)

pub returns-then-a-i : goal.returns-then-a-i
returns-then-a-i c = search (laws, rules)

pub loop-k-preserved : goal.loop-k-preserved
loop-k-preserved c = search (laws, rules)

pub returns : goal.returns
returns c = search (laws, rules)
