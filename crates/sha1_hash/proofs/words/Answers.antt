use Rattle.std.proofs.Common.{refl, rules}
use Rattle.sha1_hash.specs.Sha1.{words_of}
use Rattle.sha1_hash.proofs.Laws.{words_more, words_end}
use Rattle.sha1_hash.proofs.words.Goals as goal

pub loop-t-init : goal.loop-t-init
unfolding words_of
loop-t-init c = (refl, refl)

pub loop-t-preserved : goal.loop-t-preserved
loop-t-preserved c = (search rules, search (words_more, rules))

pub returns : goal.returns
returns c = search (words_end, rules)
