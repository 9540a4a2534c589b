-- `access::Table::search`: what lies below the middle is left where the record in the middle comes behind. Assumes nothing.
use Rattle.std.proofs.Common.{refl, arith}
use Rattle.access.proofs.Laws.{found_up}
use Rattle.access.proofs.Table.search.Goals as goal

pub loop-low-preserved : goal.loop-low-preserved
loop-low-preserved c =
    let i = c.loop-low.invariant in
    record {
      inside = omega arith;
      enough = omega arith;
      same = found_up _ _ _ _ _ _ _ i.same i.enough c.loop-low-test.true _ c.probe_at.ensures refl _ c.in_ok-order.ensures.ok_part c.in-Greater.is;
    }
