use native.Mathlib.Omega.{arith}
use mathlib.Core.Path.{refl, ap, ◌∙◌}
use mathlib.Core.List.{List}
use Prim.Native.Nat.{ℕ, ◌+◌}
use lib.ListN.{drop, set, get_or, length-set}
use lib.Seq.{paste-zero}
use Rattle.laws.specs.Paste.{paste_more_from, get_or-before}
use Rattle.slices.proofs.copy_within.Goals as goal

pub loop-j-init : goal.loop-j-init
loop-j-init c = let a = c.args in (paste-zero a.s.now a.to (drop a.from a.s.now), refl)

pub loop-j-preserved : goal.loop-j-preserved
loop-j-preserved c = let a = c.args in
    let s₀ = a.s.now in
    let j = c.loop-j.j in
    let same = ap (λ (l : List ℕ). get_or l (a.from + j) 0) c.loop-j.invariant.0 ∙ get_or-before s₀ a.to (drop a.from s₀) j (a.from + j) (omega arith) (omega arith) in (
      ap (λ (x : ℕ). set c.loop-j.s (a.to + j) x) same ∙ paste_more_from c.loop-j.s s₀ a.to s₀ a.from j c.loop-j.invariant.0 (omega arith) (omega arith),
      simp length-set c.loop-j.invariant.1,
    )
