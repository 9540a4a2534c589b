use native.Mathlib.Omega.{arith}
use Rattle.tree_write.proofs.Backing.{climb_up, spine_set}
use Rattle.tree_write.proofs.folder.Folder.climb.Goals as goal

pub loop-k-preserved : goal.loop-k-preserved
loop-k-preserved c = let loop = c.loop-k in
    let low = c.loop-k-test.true in
    let deep = c.requires.spine.1 in
    (climb_up _ _ _ _ _ c.args.self.walk c.requires.leaf loop.invariant.0 c.parent-up.ensures c.if-node-self.false, spine_set _ _ _ _ _ loop.invariant.1 (omega (arith, low, deep, loop.auto.spine)) loop.invariant.0)
