-- `sums::saturating_add` meets its contract. Assumes nothing.
use mathlib.Core.Path.{◌∙◌}
use Rattle.sums.specs.Cap.{cap_min}
use Rattle.sums.proofs.saturating_add.Goals as goal

pub returns : goal.returns
returns c = c.saturating_add.ensures ∙ cap_min _
