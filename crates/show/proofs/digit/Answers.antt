-- `show::digit` meets its contract: each branch is a case of the definition. Assumes nothing.
use native.Mathlib.Omega.{arith}
use borrow.Author.Tests.{lt-ltb, le-ltb}
use Rattle.show.specs.Hex.{digit}
use Rattle.show.proofs.digit.Goals as goal

pub returns-then-low-lt10 : goal.returns-then-low-lt10
unfolding digit
returns-then-low-lt10 c = rw (lt-ltb _ _ c.if-low-lt10.true)

pub returns-else-low-lt10 : goal.returns-else-low-lt10
unfolding digit
returns-else-low-lt10 c = rw (le-ltb _ _ c.if-low-lt10.false) (omega arith)
