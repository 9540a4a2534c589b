-- `tree::settle`: the sort leaves the store as it was. Assumes nothing.
use Rattle.tree.proofs.Laws.{settle_differ, settle_repeat}
use native.Mathlib.Omega.{arith}
use Rattle.tree.proofs.settle.Goals as goal

pub returns-then-not-differ : goal.returns-then-not-differ
returns-then-not-differ c = settle_repeat _ _ _ _ _ _ c.requires.folder (omega arith) _ _ c.differ.ensures (λ i. omega (arith, c.slice_known-1.given i)) (λ i. omega (arith, c.type_inv.nodes i)) c.if-not-differ.true

pub returns : goal.returns
returns c = settle_differ _ _ _ _ _ _ c.requires.folder (omega arith) _ _ c.differ.ensures (λ i. omega (arith, c.slice_known-1.given i)) (λ i. omega (arith, c.type_inv.nodes i)) c.if-not-differ.false
