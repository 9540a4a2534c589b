-- `tree::one_recursive`: each child more leaves the folder in order, and at the end nothing is left of the subtrees. Assumes nothing.
use mathlib.Core.Path.{refl}
use native.Mathlib.Nat.{sub-zero}
use native.Mathlib.Omega.{arith}
use borrow.Author.Rules.{rules}
use Rattle.siblings.specs.InOrder.{so_far_start}
use Rattle.tree.proofs.Laws.{out_node, loop_end, loop_next, loop_stop, stops, so_far_next, folder_child, folder_first}
use Rattle.tree.proofs.+one_recursive.Goals as goal

pub loop-init : goal.loop-init
loop-init t c =
    record {
      long = refl;
      sized = omega arith;
      order = search (so_far_start, rules);
      folder = folder_first _ _ _ _ _ _ _ _ _ c.if-nodes-used.false c.node_head.ensures c.in_ok-n.ensures.ok_part c.put_node.ensures;
      same = rw sub-zero;
    }

pub returns-in_err-kid : goal.returns-in_err-kid
returns-in_err-kid t c =
    rw (stops _ _ c.from_residual-in_err-kid.ensures.1)
    (out_node _ _ _ _ _ _ _ _ c.if-depth-eq0.false c.if-nodes-used.false _ c.node_head.ensures _ _ _ c.in_ok-n.ensures.ok_part c.put_node.ensures
    (loop_stop _ _ _ _ _ _ _ c.loop.invariant.same c.loop-test.true _ _ c.one_recursive.ensures _ _ _ c.in_err-kid.was))

pub loop-preserved : goal.loop-preserved
loop-preserved t c =
    let i = c.loop.invariant in
    record {
      long = omega arith;
      sized = omega arith;
      order = so_far_next _ _ _ _ _ _ _ _ _ _ _ _ _ i.order c.one_recursive.ensures c.in_ok-kid.was c.rises-so.ensures i.sized;
      folder = folder_child _ _ _ _ _ _ _ _ _ _ _ _ _ i.folder c.one_recursive.ensures c.in_ok-kid.was c.rises-so.ensures i.sized;
      same = loop_next _ _ _ _ _ _ _ i.same c.loop-test.true _ _ c.one_recursive.ensures _ _ c.in_ok-kid.was;
    }

pub returns : goal.returns
returns t c =
    out_node _ _ _ _ _ _ _ _ c.if-depth-eq0.false c.if-nodes-used.false _ c.node_head.ensures _ _ _ c.in_ok-n.ensures.ok_part c.put_node.ensures
    (loop_end _ _ _ _ _ _ _ c.loop.invariant.same _ _ _ _ c.loop-test.false c.settle.ensures)
