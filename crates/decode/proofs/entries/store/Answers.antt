-- `decode::entries::store` meets its contract. Assumes nothing.
use borrow.Author.Rules.{rules}
use Rattle.decode.proofs.Laws.{path_put}
use Rattle.decode.proofs.entries.store.Goals as goal

pub returns-clause-paths_after : goal.returns-clause-paths_after
returns-clause-paths_after c = search (path_put, rules)
