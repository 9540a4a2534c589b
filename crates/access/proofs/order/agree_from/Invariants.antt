-- Up to k every byte agrees: what agrees from k on is what is left of the answer. Assumes nothing.
use Rattle.std.specs.Prelude.{◌≡◌, ◌+◌, drop}
use Rattle.access.specs.Order.{agreeing}
use Rattle.access.proofs.order.agree_from.Given as goal

abbrev pub invariant-loop-k : goal.invariant-loop-k
invariant-loop-k l = l.k + agreeing (drop l.k l.a) (drop l.k l.b) ≡ l.from + agreeing (drop l.from l.a) (drop l.from l.b)
