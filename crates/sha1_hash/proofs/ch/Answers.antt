-- `sha1_hash::ch` meets its contract: the operators are the definition's own. Assumes nothing.
use Rattle.std.proofs.Common.{rules}
use Rattle.sha1_hash.specs.Sha1.{ch}
use Rattle.sha1_hash.proofs.ch.Goals as goal

pub returns : goal.returns
unfolding ch
returns c = search rules
