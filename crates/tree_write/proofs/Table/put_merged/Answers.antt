-- `tree_write::Table::put_merged` meets its contract. Assumes nothing.
use mathlib.Core.Path.{sym, ◌∙◌}
use native.Mathlib.Omega.{arith}
use Rattle.tree_write.proofs.Backing.{filed_at}
use Rattle.tree_write.proofs.Table.put_merged.Goals as goal

pub put_tree_ending-requires : goal.put_tree_ending-requires
put_tree_ending-requires c = record {
  shallow = sym c.is_shallow.ensures ∙ c.if-is_shallow.true;
  room = (omega (arith, c.requires.0), c.requires.1);
}

pub returns-then-is_shallow : goal.returns-then-is_shallow
returns-then-is_shallow c = filed_at _ _ _ _ _ _ c.put_tree_ending.ensures c.requires.0
