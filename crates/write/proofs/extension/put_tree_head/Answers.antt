use Rattle.write.proofs.Laws.{parts}
use borrow.Author.Rules.{rules}
use Rattle.write.proofs.extension.put_tree_head.Goals as goal

pub put_head-requires-clause-extension_header_size_in_bounds : goal.put_head-requires-clause-extension_header_size_in_bounds
put_head-requires-clause-extension_header_size_in_bounds c = search (parts, rules)

pub returns-in-Some : goal.returns-in-Some
returns-in-Some c = search (parts, rules)

pub returns-in-None : goal.returns-in-None
returns-in-None c = search (parts, rules)
