-- `sha1_hash::join` meets its contract: a copy, and zeros behind it, by `join_made`. Assumes nothing.
use Rattle.std.proofs.Common.{refl}
use Rattle.sha1_hash.proofs.Feed.{join_made}
use Rattle.sha1_hash.proofs.join.Goals as goal

pub returns : goal.returns
returns c = let a = c.args in
    let copy = c.copy_from_slice.ensures in
    join_made a.block.now a.piece.now _ _ a.n _ c.told-block c.requires refl copy.len copy.after (c.fill.ensures.after (λ y same. same))
