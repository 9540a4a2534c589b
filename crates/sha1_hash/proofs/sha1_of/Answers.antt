-- `sha1_hash::sha1_of` meets its contract: `new` stands for no bytes, `feed` then for the slice, and `finish` gives its SHA-1. Assumes nothing.
use Rattle.std.proofs.Common.{[], ap, ◌∙◌}
use Rattle.sha1_hash.specs.Pieces.{fed, finished}
use Rattle.sha1_hash.specs.declared.Digest.{Digest}
use Rattle.sha1_hash.specs.Theorems.{fed_after, finished_after}
use Rattle.sha1_hash.proofs.sha1_of.Goals as goal

pub returns : goal.returns
returns c = let s = c.args.bytes.now in
    c.finish.ensures ∙ ap finished (c.feed.ensures ∙ ap (λ (d : Digest). fed d s) c.new.ensures ∙ fed_after [] s) ∙ finished_after s
