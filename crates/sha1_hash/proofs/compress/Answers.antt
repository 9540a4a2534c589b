use Rattle.std.proofs.Common.{◌≡◌, length, refl, arith, rules}
use Rattle.sha1_hash.specs.Sha1.{schedule, Five, five, rounds}
use Rattle.sha1_hash.proofs.Laws.{run_ch, run_parity, run_maj, run_last, is_round, sum_more, compress_made}
use Rattle.sha1_hash.proofs.Window.{before_first, after_last}
use Rattle.sha1_hash.proofs.compress.Goals as goal

pub run-v-requires-clause-rounds : goal.run-v-requires-clause-rounds
run-v-requires-clause-rounds c = is_round run_ch (λ x y z f answer. search rules)

pub run-v-requires-2-clause-rounds : goal.run-v-requires-2-clause-rounds
run-v-requires-2-clause-rounds c = is_round run_parity (λ x y z f answer. search rules)

pub run-v-requires-3-clause-rounds : goal.run-v-requires-3-clause-rounds
run-v-requires-3-clause-rounds c = is_round run_maj (λ x y z f answer. search rules)

pub run-v-requires-4-clause-rounds : goal.run-v-requires-4-clause-rounds
run-v-requires-4-clause-rounds c = is_round run_last (λ x y z f answer. search rules)

pub loop-i-preserved : goal.loop-i-preserved
loop-i-preserved c = let l = c.loop-i in
    let long : length c.args.h.now ≡ 5 = search rules in
    let more = sum_more c.run-v-4.result c.args.h.now l.h l.i _ c.loop-i-test.true long l.invariant.0 refl l.invariant.1 l.invariant.2 in
    (search rules, more.0, more.1)

pub returns : goal.returns
returns c = let m = c.args.block.now in
    let h = c.args.h.now in
    let goal : Five = rounds (schedule m) 80 0 (five h) in
    let long : length h ≡ 5 = search rules in
    let first = before_first m h c.words-w.result long c.words-w.ensures in
    let last = c.run-v-4.ensures m goal (c.run-v-3.ensures m goal (c.run-v-2.ensures m goal (c.run-v.ensures m goal first))) in
    compress_made h m c.run-v-4.result c.loop-i.h c.loop-i.i (after_last last) (omega arith) c.loop-i.invariant.0 c.loop-i.invariant.1
