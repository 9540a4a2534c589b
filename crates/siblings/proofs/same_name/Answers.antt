-- `siblings::same_name` meets its contract. Names of different lengths differ. Assumes nothing.
use Rattle.std.proofs.Common.{rules}
use Rattle.siblings.proofs.Laws.{same_names, other_names_lem}
use Rattle.siblings.proofs.same_name.Goals as goal

pub returns-then-a-b : goal.returns-then-a-b
returns-then-a-b c = search (same_names, rules)

pub returns-else-a-b : goal.returns-else-a-b
returns-else-a-b c = search (other_names_lem, rules)
