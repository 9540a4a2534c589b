use Rattle.tree_write.proofs.Merge.{listing_start, listing_less, listing_take, listing_pass, listing_none, listing_found}
use Rattle.tree_write.proofs.folder.Folder.listed.Goals.{then-comes_between, else-comes_between}
use Rattle.tree_write.proofs.folder.Folder.listed.Goals as goal

pub loop-child-init : goal.loop-child-init
loop-child-init c = let walk = c.args.self.walk in
    let span = c.args.self.span in
    listing_start _ _ _ _ _ walk span _ c.kid_above-child.ensures

pub loop-child-smaller : goal.loop-child-smaller
loop-child-smaller c = let walk = c.args.self.walk in
    let span = c.args.self.span in
    listing_less _ _ _ _ _ walk span _ _ _ c.loop-child.invariant c.loop-child-test.true

pub loop-child-preserved : goal.loop-child-preserved
loop-child-preserved c = let walk = c.args.self.walk in
    let span = c.args.self.span in
    let inv = c.loop-child.invariant in
    let real = c.loop-child-test.true in
    let between = c.comes_between.ensures in
    let above = c.kid_above-child-in-loop-child.ensures in
    elim c.if-comes_between.branch [ then-comes_between w ↦ rw w.last-is (listing_take _ _ _ _ _ walk span _ _ _ inv real _ between _ above w.if-comes_between.true) | else-comes_between w ↦ rw w.last-is (listing_pass _ _ _ _ _ walk span _ _ _ inv real _ between _ above w.if-comes_between.false) ]

pub returns-then-last-eq0 : goal.returns-then-last-eq0
returns-then-last-eq0 c = let walk = c.args.self.walk in
    let span = c.args.self.span in
    listing_none _ _ _ _ _ walk span _ _ _ c.loop-child.invariant c.loop-child-test.false c.if-last-eq0.true

pub returns-else-last-eq0 : goal.returns-else-last-eq0
returns-else-last-eq0 c = let walk = c.args.self.walk in
    let span = c.args.self.span in
    listing_found _ _ _ _ _ walk span _ _ _ c.loop-child.invariant c.loop-child-test.false c.if-last-eq0.false
