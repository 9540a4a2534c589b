-- `tree_write::Table::put_head_ending` meets its contract. Assumes nothing.
use mathlib.Core.Path.{refl}
use native.Mathlib.Omega.{arith}
use Rattle.tree_write.proofs.Backing.{head_fits, head_filed}
use Rattle.tree_write.proofs.Table.put_head_ending.Goals as goal

pub overflow_sub-at : goal.overflow_sub-at
overflow_sub-at c = omega (arith, head_fits _ _ _ _ c.requires.0 c.requires.1 (omega arith) c.head_size-size.ensures)

pub put_head-requires : goal.put_head-requires
put_head-requires c = omega (arith, head_fits _ _ _ _ c.requires.0 c.requires.1 (omega arith) c.head_size-size.ensures)

pub returns : goal.returns
returns c = head_filed _ _ _ _ _ _ (head_fits _ _ _ _ c.requires.0 c.requires.1 (omega arith) c.head_size-size.ensures) c.requires.0 refl c.put_head.ensures.1
