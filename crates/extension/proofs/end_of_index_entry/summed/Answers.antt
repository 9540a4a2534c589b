-- `extension::end_of_index_entry::summed`: the header that is fed lies in the file, and what is left comes to what all extensions do. Assumes nothing.
use Rattle.std.proofs.Common.{rules}
use Rattle.extension.proofs.Laws.{step_less, bodies, prior_end, prior_next}
use Rattle.extension.proofs.end_of_index_entry.summed.Goals as goal
use Rattle.extension.proofs.end_of_index_entry.summed.Goals.{in_default, in_default-2}

pub slice_bounds-feed-count : goal.slice_bounds-feed-count
slice_bounds-feed-count c = search (bodies, rules)

pub slice_bounds-feed-start : goal.slice_bounds-feed-start
slice_bounds-feed-start c = search (bodies, rules)

pub slice_bounds-feed-end : goal.slice_bounds-feed-end
slice_bounds-feed-end c = search (bodies, rules)

pub loop-found-smaller : goal.loop-found-smaller
loop-found-smaller c = step_less _ _ _ c.step.ensures c.in-Ok-Some.found (cc)

pub loop-found-preserved : goal.loop-found-preserved
loop-found-preserved c = prior_next _ _ _ c.step.ensures _ _ _ c.loop-found.invariant c.in-Ok-Some.found (cc) _ c.feed-digest.ensures

pub returns : goal.returns
returns c = prior_end _ _ _ c.step.ensures _ _ _ c.loop-found.invariant (λ f q. elim c.match-step.branch [ in_default w ↦ cc | in_default-2 w ↦ cc ]) _ c.finish-sum.ensures
