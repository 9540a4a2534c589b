-- `sha1_hash::Digest::new` meets its contract: the digest of no bytes computes. Assumes nothing.
use Rattle.std.proofs.Common.{refl}
use Rattle.sha1_hash.specs.Sha1.{hash_blocks, initial}
use Rattle.sha1_hash.specs.Pieces.{digest_after, state_after, feed_state, filled}
use Rattle.sha1_hash.proofs.Digest.new.Goals as goal

pub returns : goal.returns
unfolding digest_after state_after feed_state filled hash_blocks initial
returns c = refl
