-- `wire::decimal_size` meets its contract. Assumes nothing.
use native.Mathlib.Omega.{arith}
use Rattle.wire.specs.Written.{size_between}
use Rattle.wire.proofs.decimal_size.Goals as goal

pub returns : goal.returns
returns c = size_between c.ilog10.result c.args.x (omega (arith, c.max.ensures, c.ilog10.ensures.power_le)) (omega (arith, c.max.ensures, c.ilog10.ensures.next_power_gt))
