-- `measure::read_extended` meets its contract. Assumes nothing.
use Rattle.std.proofs.Common.{◌≡◌, Some, arith}
use Rattle.measure.proofs.Laws.{extended_small}
use Rattle.measure.proofs.read_extended.Goals as goal

pub overflow_add-result : goal.overflow_add-result
overflow_add-result c =
    let kept : c.extended_to_memory-2.result ≡ Some c.in_ok-bits.bits = grind arith in
    omega (arith, extended_small _ _ _ c.extended_to_memory-2.ensures kept)
