use Rattle.write.proofs.Laws.{parts}
use borrow.Author.Rules.{rules}
use Rattle.write.proofs.extension.put_sparse.Goals as goal

pub put_head-requires-clause-extension_header_size_in_bounds : goal.put_head-requires-clause-extension_header_size_in_bounds
put_head-requires-clause-extension_header_size_in_bounds c = search (parts, rules)

pub returns-then-sparse : goal.returns-then-sparse
returns-then-sparse c = search (parts, rules)

pub returns-else-sparse : goal.returns-else-sparse
returns-else-sparse c = search (parts, rules)
