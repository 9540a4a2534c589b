-- `siblings::is_twin` meets its contract. Assumes nothing.
use Rattle.std.proofs.Common.{rules}
use Rattle.siblings.proofs.Laws.{twins}
use Rattle.siblings.proofs.is_twin.Goals as goal

pub returns-then-parent : goal.returns-then-parent
returns-then-parent c = search (twins, rules)

pub returns-else-parent : goal.returns-else-parent
returns-else-parent c = search (twins, rules)
