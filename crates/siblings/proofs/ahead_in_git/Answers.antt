-- `siblings::ahead_in_git` meets its contract. Assumes nothing.
use Rattle.std.proofs.Common.{arith}
use Rattle.std.proofs.lemmas.Bool.Decides.{nat_tests}
use Rattle.siblings.specs.Rising.{git_before}
use Rattle.siblings.proofs.ahead_in_git.Goals as goal

pub returns-then-m-n : goal.returns-then-m-n
unfolding git_before
returns-then-m-n c = grind (arith, nat_tests)

pub returns-then-m-n-2 : goal.returns-then-m-n-2
unfolding git_before
returns-then-m-n-2 c = grind (arith, nat_tests)

pub returns-else-m-n-2 : goal.returns-else-m-n-2
unfolding git_before
returns-else-m-n-2 c = grind (arith, nat_tests)
