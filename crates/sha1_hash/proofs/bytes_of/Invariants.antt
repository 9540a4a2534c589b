-- `sha1_hash::bytes_of` meets its contract. The loop's invariant: the bytes of the words so far, and then those of the others, are the digest. Assumes nothing.
use Rattle.std.proofs.Common.{◌≡◌, ◌*◌, ◌++◌, length, take, drop}
use Rattle.sha1_hash.specs.Sha1.{digest_of}
use Rattle.sha1_hash.proofs.bytes_of.Given as goal

abbrev pub invariant-loop-k : goal.invariant-loop-k
invariant-loop-k l = (length l.out ≡ 20) × (take (l.k * 4) l.out ++ digest_of (drop l.k l.h) ≡ digest_of l.h)
