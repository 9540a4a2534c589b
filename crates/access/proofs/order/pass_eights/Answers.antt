-- `access::order::pass_eights`: eight bytes spell equal numbers only if they are equal. Assumes nothing.
use Rattle.std.proofs.Common.{arith}
use Rattle.access.proofs.Laws.{eights_done, eights_differ, eights_next}
use Rattle.access.proofs.order.pass_eights.Goals as goal

pub returns-then-be64 : goal.returns-then-be64
returns-then-be64 c = eights_differ _ _ _ _ c.loop-j.invariant (omega arith) (omega arith) c.loop-j-test.true _ _ c.be64.ensures c.be64-in-loop-j.ensures c.if-be64.true

pub loop-j-preserved : goal.loop-j-preserved
loop-j-preserved c =
    eights_next _ _ _ _ c.loop-j.invariant (omega arith) (omega arith) c.loop-j-test.true _ _ c.be64.ensures c.be64-in-loop-j.ensures c.if-be64.false (λ i. omega (arith, c.type_inv.a i)) (λ i. omega (arith, c.type_inv.b i))

pub returns : goal.returns
returns c = eights_done _ _ _ _ c.loop-j.invariant (omega arith) (omega arith) c.loop-j-test.false (omega arith)
