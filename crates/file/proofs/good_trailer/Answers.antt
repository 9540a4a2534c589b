-- `file::good_trailer` meets its contract. The two comparisons are the definition's. Assumes nothing.
use Rattle.file.specs.Trailer.{laws}
use mathlib.Core.Path.{sym}
use native.Mathlib.Omega.{arith}
use lib.Seq.{length-take-le}
use borrow.Author.Rules.{rules}
use Rattle.file.proofs.good_trailer.Goals as goal

pub overflow_sub-n : goal.overflow_sub-n
overflow_sub-n c = search (laws, rules)

pub slice_bounds-same-end : goal.slice_bounds-same-end
slice_bounds-same-end c = search (laws, rules)

pub same-requires : goal.same-requires
same-requires c = search (laws, rules)

pub returns-then-same : goal.returns-then-same
returns-then-same c = search (laws, rules)

pub slice_bounds-sha1_of-end : goal.slice_bounds-sha1_of-end
slice_bounds-sha1_of-end c = sym (length-take-le _ _ (omega arith))

pub sha1_of-digest-requires : goal.sha1_of-digest-requires
sha1_of-digest-requires c = search (laws, rules)

pub slice_bounds-same-end-2 : goal.slice_bounds-same-end-2
slice_bounds-same-end-2 c = search (laws, rules)

pub same-requires-2 : goal.same-requires-2
same-requires-2 c = search (laws, rules)

pub returns : goal.returns
returns c = search (laws, rules)
