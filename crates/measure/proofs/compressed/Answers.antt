-- `measure::compressed` meets its contract. Assumes nothing.
use Rattle.std.proofs.Common.{◌≡◌, Err, arith}
use Rattle.wire.specs.declared.NumberError.TheVariants.{Cut}
use Rattle.measure.proofs.Laws.{cut_small}
use Rattle.measure.proofs.compressed.Goals as goal

pub overflow_mul-a : goal.overflow_mul-a
overflow_mul-a c =
    let cut : c.seven_bit.result ≡ Err (Cut c.in-Err-Cut.a) = grind arith in
    omega (arith, cut_small _ _ _ _ _ c.seven_bit.ensures cut)
