-- `entry::put_front` meets its contract. Assumes nothing.
use borrow.Author.Rules.{rules}
use Rattle.entry.proofs.Laws.{front_put}
use Rattle.entry.proofs.put_front.Goals as goal

pub returns : goal.returns
returns c = search (front_put, rules)
