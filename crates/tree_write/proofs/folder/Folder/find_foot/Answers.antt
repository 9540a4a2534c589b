use native.Mathlib.Omega.{arith}
use Rattle.walk_order.specs.Below.{itself}
use Rattle.tree_write.proofs.folder.Folder.find_foot.Goals as goal

pub returns-then-up-self : goal.returns-then-up-self
returns-then-up-self c = (itself, omega arith)

pub returns : goal.returns
returns c = (itself, omega arith)
