-- `node::put_numbers` meets its contract. Five pastes side by side are one. Assumes nothing.
use Rattle.node.proofs.Laws.{numbers_put}
use Rattle.node.proofs.put_numbers.Goals as goal

pub returns : goal.returns
returns c = numbers_put c.args.n _ c.args.w.now _ _ _ _ _ c.put64.ensures c.put64-2.ensures c.put64-3.ensures c.put64-4.ensures c.put64-5.ensures c.requires
