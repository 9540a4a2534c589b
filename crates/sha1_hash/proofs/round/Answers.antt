-- `sha1_hash::round` meets its contract: by `round_more`. Assumes nothing.
use Rattle.sha1_hash.proofs.Window.{round_more}
use Rattle.sha1_hash.proofs.round.Goals as goal

pub returns : goal.returns
returns g c = λ m goal before.
    let word = c.word.ensures in
    round_more c.requires.small c.requires.round c.mix-f.ensures (word.value m before.held) (word.window m before.held) c.turn.ensures before
