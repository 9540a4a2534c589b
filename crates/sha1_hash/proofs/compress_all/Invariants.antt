-- `sha1_hash::compress_all` meets its contract. Each turn of the loop hashes a block more. Assumes nothing.
use Rattle.std.proofs.Common.{◌≡◌, take}
use Rattle.std.specs.List.{fold}
use Rattle.sha1_hash.specs.Sha1.{compress}
use Rattle.sha1_hash.proofs.compress_all.Given as goal

abbrev pub invariant-loop-block : goal.invariant-loop-block
invariant-loop-block l = l.h ≡ fold compress l.initial.h (take l.block-index l.blocks)
