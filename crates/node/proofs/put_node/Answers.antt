-- `node::put_node` writes a whole node: the numbers and the id, made in an array, are pasted as one. Assumes nothing.
use Rattle.node.proofs.Laws.{put_whole}
use borrow.Author.Rules.{rules}
use Rattle.node.proofs.put_node.Goals as goal

pub returns : goal.returns
returns c = search (put_whole, rules)
