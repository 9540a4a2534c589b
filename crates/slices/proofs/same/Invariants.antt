-- `slices::same` meets its contract. The invariant: what is left to compare answers what the whole does. Assumes nothing.
use mathlib.Core.Path.{◌≡◌}
use Prim.Native.Nat.{◌+◌, ◌-◌}
use lib.ListN.{take, drop}
use Rattle.slices.specs.Bytes.{same_bytes}
use Rattle.slices.proofs.same.Given as goal

abbrev pub invariant-loop-k : goal.invariant-loop-k
invariant-loop-k l = same_bytes (take (l.n - l.k) (drop (l.i + l.k) l.a)) (take (l.n - l.k) (drop (l.j + l.k) l.b)) ≡ same_bytes (take l.n (drop l.i l.a)) (take l.n (drop l.j l.b))
