-- `sha1_vectors::uneven` meets its contract. The loop's invariant: the digest stands for as many bytes 'a' as are no longer left. Assumes nothing.
use mathlib.Core.Path.{◌≡◌}
use Prim.Native.Nat.{◌-◌, ◌≤◌, ◌<◌}
use lib.ListN.{replicate}
use Rattle.sha1_hash.specs.Pieces.{digest_after}
use Rattle.sha1_vectors.proofs.uneven.Given as goal

abbrev pub invariant-loop-left : goal.invariant-loop-left
invariant-loop-left l = (0 < l.size) × ((l.size ≤ 130) × ((l.left ≤ l.n) × (l.d ≡ digest_after (replicate (l.n - l.left) 97))))

abbrev pub decreases-loop-left : goal.decreases-loop-left
decreases-loop-left l = l.left
