use Rattle.write.proofs.Whole.{whole, extensions_sparse}
use borrow.Author.Rules.{rules}
use Rattle.write.proofs.Tree.put_extensions.Goals as goal

pub put_tree_head-body-requires : goal.put_tree_head-body-requires
put_tree_head-body-requires c = search (whole, rules)

pub put_sparse-requires : goal.put_sparse-requires
put_sparse-requires c = let start = c.requires in
    let head = c.put_tree_head-body.ensures in
    let tree = c.put-end.ensures in
    extensions_sparse _ _ _ _ _ start.tree_value _ _ start.h_in_bounds _ head.0 _ head.1 _ tree.0 _ tree.1

pub returns : goal.returns
returns c = search (whole, rules)

pub put-end-requires-clause-tree_in_bounds : goal.put-end-requires-clause-tree_in_bounds
put-end-requires-clause-tree_in_bounds c = search (whole, rules)
