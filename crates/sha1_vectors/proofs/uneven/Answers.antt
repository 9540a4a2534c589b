use borrow.Author.Rules.{rules}
use native.Mathlib.Omega.{arith}
use mathlib.Core.Path.{◌≡◌, sym, ap, ◌∙◌}
use Prim.Native.Nat.{ℕ, ◌+◌, ◌-◌}
use mathlib.Core.List.{List, ◌++◌}
use lib.ListN.{take, replicate, replicate-append-replicate}
use lib.Seq.{length-take-le}
use Rattle.laws.specs.Lists.{take-replicate}
use Rattle.sha1_hash.specs.Pieces.{digest_after, fed, finished}
use Rattle.sha1_hash.specs.Theorems.{fed_after, finished_after}
use Rattle.sha1_hash.specs.declared.Digest.{Digest}
use Rattle.sha1_vectors.proofs.uneven.Goals as goal

pub loop-left-init : goal.loop-left-init
loop-left-init c = let z : c.args.n - c.args.n ≡ 0 = omega arith in
    (search rules, (search rules, (search rules, rw z c.new-d.ensures)))

pub slice_bounds-feed-end : goal.slice_bounds-feed-end
slice_bounds-feed-end c = let m = c.min-part.ensures in
    sym (length-take-le c.min-part.result (replicate 130 97) (omega arith))

pub loop-left-preserved : goal.loop-left-preserved
loop-left-preserved c = let v = c.loop-left in
    let n = c.args.n in
    let part = c.min-part.result in
    let m = c.min-part.ensures in
    let piece : List ℕ = take part (replicate 130 97) in
    let sum : (n - v.left) + part ≡ n - (v.left - part) = omega arith in
    let same : piece ≡ replicate part 97 = take-replicate part 130 97 (omega arith) in
    let next : fed v.d piece ≡ digest_after (replicate (n - (v.left - part)) 97) =
    ap (λ (d : Digest). fed d piece) v.invariant.1.1.1 ∙ fed_after (replicate (n - v.left) 97) piece
    ∙ ap digest_after (ap (λ (l : List ℕ). replicate (n - v.left) 97 ++ l) same ∙ replicate-append-replicate (n - v.left) part 97 ∙ ap (λ (k : ℕ). replicate k 97) sum) in
    (search rules, (search rules, (omega arith, c.feed-next.ensures ∙ next)))

pub returns : goal.returns
returns c = let n = c.args.n in
    let z : n - c.loop-left.left ≡ n = omega arith in
    c.finish.ensures ∙ ap finished (rw z at c.loop-left.invariant.1.1.1) ∙ finished_after (replicate n 97)
