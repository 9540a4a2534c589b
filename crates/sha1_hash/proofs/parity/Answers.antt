-- `sha1_hash::parity` meets its contract: the operators are the definition's own. Assumes nothing.
use Rattle.std.proofs.Common.{rules}
use Rattle.sha1_hash.specs.Sha1.{parity}
use Rattle.sha1_hash.proofs.parity.Goals as goal

pub returns : goal.returns
unfolding parity
returns c = search rules
