-- `sha1_hash::Digest::feed` meets its contract: by `feed_short` where the piece fits beside the bytes in use, else by `feed_long`. Assumes nothing.
use Rattle.std.proofs.Common.{◌≡◌, ℕ, ◌+◌, ◌-◌, ◌%◌, ◌^◌, List, ◌++◌, length, take, refl, ap, ◌∙◌, arith, take_all, rules}
use Rattle.sha1_hash.specs.Sha1.{hash_all}
use Rattle.sha1_hash.specs.Pieces.{filled}
use Rattle.sha1_hash.specs.declared.Digest.{Digest}
use Rattle.sha1_hash.proofs.Feed.{feed_short, fill_none, fill_one, feed_long}
use Rattle.sha1_hash.proofs.Digest.feed.Goals as goal
use Rattle.sha1_hash.proofs.Digest.feed.Goals.{then-used-ne0, else-used-ne0}

pub returns-then-piece-room : goal.returns-then-piece-room
returns-then-piece-room c = let d = c.args.self in
    let long : length d.block ≡ 64 = search rules in
    let joined : c.join.new.block ≡ filled (take (d.len % 64) d.block ++ c.args.piece.now) = grind (arith, take_all) in
    feed_short d.h d.block c.args.piece.now d.len _ long refl c.join.new.block c.if-piece-room.true joined

pub returns : goal.returns
returns c = let d = c.args.self in
    let piece = c.args.piece.now in
    let room = (64 - d.len % 64) % 64 in
    let long : length d.block ≡ 64 = search rules in
    let fills = c.if-piece-room.false in
    let cut = c.split_at.ensures in
    let begun : List ℕ = take (d.len % 64) d.block ++ take room piece in
    let first : c.if-used-ne0.self.h ≡ hash_all d.h begun =
    elim c.if-used-ne0.branch [
      | then-used-ne0 w ↦ ap (λ (x : Digest). x.h) w.self-is ∙ fill_one d.h d.block piece d.len room long refl fills _ _ _ w.if-used-ne0.true cut.front w.join-then-used-ne0.ensures w.compress.ensures
      | else-used-ne0 w ↦ ap (λ (x : Digest). x.h) w.self-is ∙ fill_none d.h d.block piece d.len room long refl fills w.if-used-ne0.false
    ] in
    let total : c.if-used-ne0.self.len ≡ (d.len + length piece) % 2 ^ 64 =
    elim c.if-used-ne0.branch [
      | then-used-ne0 w ↦ ap (λ (x : Digest). x.len) w.self-is
      | else-used-ne0 w ↦ ap (λ (x : Digest). x.len) w.self-is
    ] in
    feed_long d.h d.block piece d.len room long refl fills _ _ _ _ _ _ _ cut.back total first c.as_chunks.ensures.front c.compress_all.ensures c.as_chunks.ensures.back c.join-2.ensures
