use Rattle.write.proofs.Laws.{parts, eoie_hash, eoie_hash_room}
use borrow.Author.Rules.{rules}
use Rattle.write.proofs.extension.put_eoie.Goals as goal

pub put32-requires : goal.put32-requires
put32-requires c = search (parts, rules)

pub copy_bytes-requires : goal.copy_bytes-requires
copy_bytes-requires c = let room = c.requires in
    let there = c.if-has.true in
    let head = c.put_head-body.ensures in
    let number = c.put32.ensures in
    record { n_in_bounds = search (eoie_hash, rules); n_in_bounds_2 = eoie_hash_room _ _ _ there _ _ room _ head.0 _ head.1 _ _ number }

pub returns-then-has : goal.returns-then-has
returns-then-has c = search (parts, rules)

pub returns-else-has : goal.returns-else-has
returns-else-has c = search (parts, rules)

pub put_head-body-requires-clause-extension_header_size_in_bounds : goal.put_head-body-requires-clause-extension_header_size_in_bounds
put_head-body-requires-clause-extension_header_size_in_bounds c = search (parts, rules)
