use Rattle.write_entries.proofs.Laws.{laws}
use borrow.Author.Rules.{rules}
use Rattle.write_entries.proofs.Record.put_entry.Goals as goal

pub copy_bytes-requires-clause-n_in_bounds : goal.copy_bytes-requires-clause-n_in_bounds
copy_bytes-requires-clause-n_in_bounds c = search (laws, rules)

pub returns-clause-out_after : goal.returns-clause-out_after
returns-clause-out_after c = search (laws, rules)
