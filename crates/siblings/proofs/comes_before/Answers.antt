use Rattle.std.proofs.Common.{rules}
use Rattle.siblings.proofs.Laws.{compares}
use Rattle.siblings.proofs.comes_before.Goals as goal

pub returns-then-a-i : goal.returns-then-a-i
returns-then-a-i c = search (compares, rules)

pub loop-i-preserved : goal.loop-i-preserved
loop-i-preserved c = search (compares, rules)

pub returns : goal.returns
returns c = search (compares, rules)
