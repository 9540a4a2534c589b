-- `access::verify::verify_entries`: a record that lies inside and follows is passed. Assumes nothing.
use Rattle.access.proofs.Laws.{verify_next}
use Rattle.access.proofs.verify.verify_entries.Goals as goal

pub loop-i-preserved : goal.loop-i-preserved
loop-i-preserved c = verify_next _ _ _ _ _ c.loop-i.invariant c.loop-i-test.true _ c.lies_inside.ensures c.if-not-lies_inside.false _ c.follows.ensures c.if-not-follows.false
