-- `wire::put16` meets its contract. Assumes nothing.
use mathlib.Core.Path.{◌∙◌}
use native.Mathlib.Omega.{arith}
use Rattle.wire.proofs.Laws.{put_is}
use Rattle.wire.proofs.put16.Goals as goal

pub returns : goal.returns
returns c = put_is 2 c.args.d.now c.args.at c.args.x _ _ (omega arith) (c.copy_from_slice.ensures.after ∙ c.to_be_bytes.ensures)
