-- `sha1_hash::Digest::finish` meets its contract: the bytes that it feeds are the padding, by `pad_made`. Assumes nothing.
use Rattle.std.proofs.Common.{ℕ, List, refl, ap, ◌∙◌}
use Rattle.sha1_hash.specs.Sha1.{digest_of}
use Rattle.sha1_hash.specs.Pieces.{state_of, feed_state, finish_state, fed, finished}
use Rattle.sha1_hash.specs.declared.Digest.{Digest}
use Rattle.sha1_hash.proofs.Feed.{pad_made}
use Rattle.sha1_hash.proofs.Digest.finish.Goals as goal

pub returns : goal.returns
unfolding finished finish_state fed
returns c = let d = c.args.self in
    let p = pad_made d.len _ _ c.put64.new.d refl refl c.put64.ensures in
    c.bytes_of.ensures ∙ ap (λ (x : Digest). digest_of x.h) c.feed.ensures ∙ ap (λ (l : List ℕ). digest_of (feed_state (state_of d) l).hash) p
