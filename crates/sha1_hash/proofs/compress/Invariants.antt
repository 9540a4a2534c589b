-- `sha1_hash::compress` meets its contract: the four runs are the eighty rounds. The loop's invariant: the sums so far, and then the hash value as it was. Assumes nothing.
use Rattle.std.proofs.Common.{◌≡◌, length, take, drop}
use Rattle.sha1_hash.specs.Sha1.{five, added}
use Rattle.sha1_hash.proofs.compress.Given as goal

abbrev pub invariant-loop-i : goal.invariant-loop-i
invariant-loop-i l = (length l.h ≡ 5) × (take l.i l.h ≡ take l.i (added (five l.v) (five l.initial.h))) × (drop l.i l.h ≡ drop l.i l.initial.h)
