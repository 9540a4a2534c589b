-- `measure::padded` meets its contract. Assumes nothing.
use Rattle.std.proofs.Common.{◌≡◌, Some, arith}
use Rattle.measure.proofs.Laws.{nul_after, nul_below}
use Rattle.measure.proofs.padded.Goals as goal

pub overflow_sub-z : goal.overflow_sub-z
overflow_sub-z c =
    let found : c.first_nul.result ≡ Some c.in_ok-z.z = grind arith in
    nul_after _ _ _ _ _ c.first_nul.ensures found

pub padded_to-requires-clause-end_bound : goal.padded_to-requires-clause-end_bound
padded_to-requires-clause-end_bound c =
    let found : c.first_nul.result ≡ Some c.in_ok-z.z = grind arith in
    omega (arith, nul_below _ _ _ _ _ c.first_nul.ensures found)
