use Rattle.tree_write.proofs.Merge.{begun_start, begun_less, begun_same, begun_new, begun_end}
use Rattle.tree_write.proofs.folder.Folder.begin_runs.Goals.{then-not-goes_on+else-tails-used, else-not-goes_on}
use Rattle.tree_write.proofs.folder.Folder.begin_runs.Goals as goal

pub loop-child-init : goal.loop-child-init
loop-child-init c = begun_start _ _ _ _ c.args.self.walk c.args.self.span _ _ c.requires

pub loop-child-smaller : goal.loop-child-smaller
loop-child-smaller c = begun_less _ _ _ _ c.args.self.walk c.args.self.span _ _ _ _ c.loop-child.invariant c.loop-child-test.true

pub loop-child-preserved : goal.loop-child-preserved
loop-child-preserved c = let walk = c.args.self.walk in
    let span = c.args.self.span in
    let inv = c.loop-child.invariant in
    let real = c.loop-child-test.true in
    let goes = c.goes_on.ensures in
    let above = c.kid_above-child.ensures in
    elim c.if-not-goes_on.branch [ then-not-goes_on+else-tails-used w ↦ rw (w.tails-is, w.used-is) (begun_new _ _ _ _ walk span _ _ _ _ inv real _ goes _ above w.if-not-goes_on.true w.if-tails-used.false) | else-not-goes_on w ↦ rw (w.tails-is, w.used-is) (begun_same _ _ _ _ walk span _ _ _ _ inv real _ goes _ above w.if-not-goes_on.false) ]

pub returns : goal.returns
returns c = begun_end _ _ _ _ c.args.self.walk c.args.self.span _ _ _ _ c.loop-child.invariant c.loop-child-test.false
