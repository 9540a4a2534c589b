-- `entry::put_rest` meets its contract. Five pastes side by side are one. Assumes nothing.
use Rattle.entry.proofs.Laws.{rest_put}
use Rattle.entry.proofs.put_rest.Goals as goal

pub returns : goal.returns
returns c = rest_put c.args.slot.now _ _ _ _ _ _ _ _ c.clear.ensures c.put32.ensures c.put64.ensures c.put64-2.ensures c.clear-2.ensures c.requires
