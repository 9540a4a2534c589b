use Rattle.std.proofs.Common.{◌≡◌, length, rules}
use Rattle.sha1_hash.proofs.Laws.{digest_more, digest_end}
use Rattle.sha1_hash.proofs.bytes_of.Goals as goal

pub loop-k-preserved : goal.loop-k-preserved
loop-k-preserved c = let n : length c.args.h ≡ 5 = search rules in
    (search rules, search (digest_more, n, rules))

pub returns : goal.returns
returns c = let n : length c.args.h ≡ 5 = search rules in
    search (digest_end, n, rules)
