use native.Mathlib.Omega.{arith}
use mathlib.Core.Path.{refl}
use lib.ListN.{drop, length-set}
use lib.Seq.{paste-zero}
use Rattle.laws.specs.Paste.{paste_more_from}
use Rattle.slices.proofs.copy_bytes.Goals as goal

pub loop-j-init : goal.loop-j-init
loop-j-init c = let a = c.args in (paste-zero a.dst.now a.to (drop a.from a.src.now), refl)

pub loop-j-preserved : goal.loop-j-preserved
loop-j-preserved c = let a = c.args in (
  paste_more_from c.loop-j.dst a.dst.now a.to a.src.now a.from c.loop-j.j c.loop-j.invariant.0 (omega arith) (omega arith),
  simp length-set c.loop-j.invariant.1,
)
