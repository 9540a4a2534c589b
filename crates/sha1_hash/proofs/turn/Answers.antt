-- `sha1_hash::turn` meets its contract: the five variables are those of the definition. Assumes nothing.
use Rattle.std.proofs.Common.{slice_index}
use Rattle.sha1_hash.specs.Sha1.{rotl, turn}
use Rattle.sha1_hash.proofs.Laws.{sum-five}
use Rattle.sha1_hash.proofs.turn.Goals as goal

pub returns : goal.returns
unfolding turn rotl
returns c = let a = c.args in
    rw (sum-five c.rotate_left.result a.f (slice_index a.v 4) a.k a.word, c.rotate_left.ensures, c.rotate_left-2.ensures)
