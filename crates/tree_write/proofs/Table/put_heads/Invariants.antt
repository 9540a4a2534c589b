-- `tree_write::Table::put_heads` meets its contract. The invariant: putting the heads that are left at the present place gives the whole output, and they fit. Assumes nothing.
use Rattle.tree_write.proofs.Heads.{Filling}
use Rattle.tree_write.proofs.Table.put_heads.Given as goal

abbrev pub invariant-loop-i : goal.invariant-loop-i
invariant-loop-i l = Filling l.self.nodes.now l.self.names.now l.initial.out l.at l.i-end l.i l.pos l.out
