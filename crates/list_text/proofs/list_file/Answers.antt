-- `list_text::list_file` meets its contract: a file that is too long, and one that is read into zeroed stores. Assumes nothing.
use Rattle.list_text.proofs.Laws.{listed_read, laws}
use borrow.Author.Rules.{rules}
use Rattle.list_text.proofs.list_file.Goals as goal

pub write_too_big-requires : goal.write_too_big-requires
write_too_big-requires c = search (laws, rules)

pub shape_of-out-then-file-gt-MOST_BYTES : goal.shape_of-out-then-file-gt-MOST_BYTES
shape_of-out-then-file-gt-MOST_BYTES c = search (laws, rules)

pub returns-then-file-gt-MOST_BYTES : goal.returns-then-file-gt-MOST_BYTES
returns-then-file-gt-MOST_BYTES c = search (laws, rules)

pub slice_bounds-read-end : goal.slice_bounds-read-end
slice_bounds-read-end c = search (laws, rules)

pub slice_bounds-read-end-2 : goal.slice_bounds-read-end-2
slice_bounds-read-end-2 c = search (laws, rules)

pub slice_bounds-read-end-3 : goal.slice_bounds-read-end-3
slice_bounds-read-end-3 c = search (laws, rules)

pub read-answer-requires : goal.read-answer-requires
read-answer-requires c = search (laws, rules)

pub slice_bounds-write_lines-end : goal.slice_bounds-write_lines-end
slice_bounds-write_lines-end c = search (laws, rules)

pub slice_bounds-write_lines-end-2 : goal.slice_bounds-write_lines-end-2
slice_bounds-write_lines-end-2 c = search (laws, rules)

pub write_lines-requires : goal.write_lines-requires
write_lines-requires c = search (laws, rules)

pub shape_of-out : goal.shape_of-out
shape_of-out c = search (laws, rules)

pub returns : goal.returns
returns c = listed_read _ _ _ c.if-file-gt-MOST_BYTES.false _ _ _ _ c.read-answer.ensures c.write_lines.ensures
