-- `sha1_hash::maj` meets its contract: the operators are the definition's own. Assumes nothing.
use Rattle.std.proofs.Common.{rules}
use Rattle.sha1_hash.specs.Sha1.{maj}
use Rattle.sha1_hash.proofs.maj.Goals as goal

pub returns : goal.returns
unfolding maj
returns c = search rules
