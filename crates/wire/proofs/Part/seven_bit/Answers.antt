use borrow.Author.Rules.{rules}
use Rattle.wire.specs.Groups.{number_at}
use Rattle.wire.proofs.Laws.{groups}
use Rattle.wire.proofs.Part.seven_bit.Goals as goal

pub loop-i-init : goal.loop-i-init
unfolding number_at
loop-i-init c = search (groups, rules)

pub returns-then-c-lt-GROUP : goal.returns-then-c-lt-GROUP
returns-then-c-lt-GROUP c = search (groups, rules)

pub returns-then-v-gt-LARGEST_WITH_MORE : goal.returns-then-v-gt-LARGEST_WITH_MORE
returns-then-v-gt-LARGEST_WITH_MORE c = search (groups, rules)

pub loop-i-preserved : goal.loop-i-preserved
loop-i-preserved c = search (groups, rules)

pub returns : goal.returns
returns c = search (groups, rules)
