-- `extension::index_entry_offset_table::pair_at`: a pair before the last lies in the table, and so in the file. Assumes nothing.
use native.Mathlib.Omega.{arith}
use Rattle.extension.proofs.Laws.{pair_inside}
use Rattle.extension.proofs.index_entry_offset_table.pair_at.Goals as goal

pub overflow_add-at : goal.overflow_add-at
overflow_add-at c = omega (arith, c.well_formed, pair_inside _ c.args.start.0 _ c.args.k _ c.decode.ensures _ c.in_ok-n.was c.if-n-k.false)

pub overflow_mul-at : goal.overflow_mul-at
overflow_mul-at c = omega (arith, c.well_formed, pair_inside _ c.args.start.0 _ c.args.k _ c.decode.ensures _ c.in_ok-n.was c.if-n-k.false)

pub overflow_add-at-2 : goal.overflow_add-at-2
overflow_add-at-2 c = omega (arith, c.well_formed, pair_inside _ c.args.start.0 _ c.args.k _ c.decode.ensures _ c.in_ok-n.was c.if-n-k.false)

pub be32-requires : goal.be32-requires
be32-requires c = omega (arith, c.well_formed, pair_inside _ c.args.start.0 _ c.args.k _ c.decode.ensures _ c.in_ok-n.was c.if-n-k.false)

pub overflow_add-at-3 : goal.overflow_add-at-3
overflow_add-at-3 c = omega (arith, c.well_formed, pair_inside _ c.args.start.0 _ c.args.k _ c.decode.ensures _ c.in_ok-n.was c.if-n-k.false)

pub be32-requires-2 : goal.be32-requires-2
be32-requires-2 c = omega (arith, c.well_formed, pair_inside _ c.args.start.0 _ c.args.k _ c.decode.ensures _ c.in_ok-n.was c.if-n-k.false)
