-- `measure::measure` meets its contract. Assumes nothing.
use Rattle.std.proofs.Common.{arith, rules}
use Rattle.measure.specs.Entry.{measure_at, head_at}
use Rattle.measure.specs.Inside.{head_fits, head_room}
use Rattle.measure.proofs.measure.Goals as goal

pub returns-then-file-end : goal.returns-then-file-end
unfolding measure_at head_at
returns-then-file-end c = search rules

pub overflow_add-at : goal.overflow_add-at
overflow_add-at c = omega (arith, head_room _ _ _ _ _ _ _ c.read_head.ensures c.in_ok-head.was)

pub padded-requires : goal.padded-requires
padded-requires c = head_fits _ _ _ _ _ _ _ c.read_head.ensures c.in_ok-head.was
