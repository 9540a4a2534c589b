use Rattle.std.proofs.Common.{◌≡◌, ◌+◌, ◌*◌, arith}
use Rattle.sha1_hash.proofs.run.Goals as goal

pub round-between-requires-clause-round : goal.round-between-requires-clause-round
round-between-requires-clause-round g c = c.requires.rounds (g.row.FROM + 2 * c.loop-pair.pair) (omega arith) (omega arith)

pub round-next-requires-clause-round : goal.round-next-requires-clause-round
round-next-requires-clause-round g c = c.requires.rounds (g.row.FROM + 2 * c.loop-pair.pair + 1) (omega arith) (omega arith)

pub loop-pair-preserved : goal.loop-pair-preserved
loop-pair-preserved g c = λ m goal before.
    let first = g.row.FROM + 2 * c.loop-pair.pair in
    let sum : first + 1 + 1 ≡ g.row.FROM + 2 * (c.loop-pair.pair + 1) = omega arith in
    rw sum at (c.round-next.ensures m goal (c.round-between.ensures m goal (c.loop-pair.invariant m goal before)))

pub returns : goal.returns
returns g c = λ m goal before.
    let all : g.row.FROM + 2 * c.loop-pair.pair ≡ g.row.FROM + 20 = omega arith in
    rw all at (c.loop-pair.invariant m goal before)
