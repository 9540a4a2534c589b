-- A place in the file and a place in the path store (01: "a place in the file is never taken for a place in the path store"), made of numbers. Assumes nothing.
use Rattle.std.specs.Prelude.{ℕ}
use Rattle.wire.specs.declared.FileAt.{FileAt}
use Rattle.wire.specs.declared.PathAt.{PathAt}

abbrev pub file_at : ℕ → FileAt
file_at n = record { 0 = n }

abbrev pub path_at : ℕ → PathAt
path_at n = record { 0 = n }
