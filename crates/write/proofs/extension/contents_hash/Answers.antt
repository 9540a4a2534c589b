use mathlib.Core.Path.{sym}
use lib.Seq.{length-take-le}
use Rattle.write.proofs.Laws.{parts}
use borrow.Author.Rules.{rules}
use Rattle.write.proofs.extension.contents_hash.Goals as goal

pub put_tree_head-middle-requires : goal.put_tree_head-middle-requires
put_tree_head-middle-requires c = search (parts, rules)

pub put_sparse-end-requires : goal.put_sparse-end-requires
put_sparse-end-requires c = search (parts, rules)

pub slice_bounds-toc-end : goal.slice_bounds-toc-end
slice_bounds-toc-end c = search (parts, rules)

pub slice_bounds-sha1_of-end : goal.slice_bounds-sha1_of-end
slice_bounds-sha1_of-end c = sym (length-take-le _ _ (search (parts, rules)))

pub returns : goal.returns
returns c = search (parts, rules)
