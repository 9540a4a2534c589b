use mathlib.Core.Path.{refl}
use Rattle.tree_write.proofs.Merge.{searched_tail, searched_kid}
use Rattle.tree_write.proofs.Table.last_tail.Goals.{then-comes_later, else-comes_later}
use Rattle.tree_write.proofs.Table.last_tail.Goals as goal

pub loop-i-preserved : goal.loop-i-preserved
loop-i-preserved c = let inv = c.loop-i.invariant in
    let later = c.comes_later.ensures in
    elim c.if-comes_later.branch [ then-comes_later w ↦ rw (w.kid-is, w.place-is) (searched_tail _ _ _ _ _ _ refl _ later _ inv w.if-comes_later.true) | else-comes_later w ↦ rw (w.kid-is, w.place-is) (searched_kid _ _ _ _ _ _ refl _ later _ inv w.if-comes_later.false) ]
