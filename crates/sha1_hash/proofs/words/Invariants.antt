-- `sha1_hash::words` meets its contract. Each turn of the loop puts a word more of the block. Assumes nothing.
use Rattle.std.proofs.Common.{◌≡◌, length, take}
use Rattle.sha1_hash.specs.Sha1.{words_of}
use Rattle.sha1_hash.proofs.words.Given as goal

abbrev pub invariant-loop-t : goal.invariant-loop-t
invariant-loop-t l = (length l.w ≡ 16) × (take l.t l.w ≡ words_of l.t l.block)
