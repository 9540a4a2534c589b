-- `measure::suffixed` meets its contract. Assumes nothing.
use Rattle.std.proofs.Common.{◌≡◌, Some, arith}
use Rattle.measure.proofs.Laws.{nul_after, nul_below}
use Rattle.measure.proofs.suffixed.Goals as goal

pub overflow_sub-result : goal.overflow_sub-result
overflow_sub-result c =
    let found : c.first_nul.result ≡ Some c.in_ok-z.z = grind arith in
    nul_after _ _ _ _ _ c.first_nul.ensures found

pub overflow_add-result : goal.overflow_add-result
overflow_add-result c =
    let found : c.first_nul.result ≡ Some c.in_ok-z.z = grind arith in
    omega (arith, nul_below _ _ _ _ _ c.first_nul.ensures found)
