-- `lines::Listing::put_line` meets its contract. The head, the path and the line's end, each right behind the one before, are one put of the line. Assumes nothing.
use native.Mathlib.Omega.{arith}
use lib.ListN.{length-set}
use Rattle.lines.proofs.Laws.{laws, line_room}
use borrow.Author.Rules.{rules}
use Rattle.lines.proofs.Listing.put_line.Goals as goal

pub copy_bytes-requires : goal.copy_bytes-requires
copy_bytes-requires c = record { n_in_bounds = search rules; n_in_bounds_2 = omega (arith, line_room _ _ _ _ c.path_of-path.ensures _ _ c.requires) }

pub overflow_add-last : goal.overflow_add-last
overflow_add-last c = omega (arith, line_room _ _ _ _ c.path_of-path.ensures _ _ c.requires)

pub bounds-out-last : goal.bounds-out-last
bounds-out-last c = omega (arith, line_room _ _ _ _ c.path_of-path.ensures _ _ c.requires)

pub overflow_add-result : goal.overflow_add-result
overflow_add-result c = omega (arith, line_room _ _ _ _ c.path_of-path.ensures _ _ c.requires)

pub shape_of-out : goal.shape_of-out
shape_of-out c = simp length-set (omega arith)

pub returns : goal.returns
returns c = search (laws, rules)

pub put_head-requires-clause-at_in_bounds : goal.put_head-requires-clause-at_in_bounds
put_head-requires-clause-at_in_bounds c = search (laws, rules)
