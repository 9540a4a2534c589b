-- What was read of a file; of a tree it is said whether there is one, and how many nodes it has: each made of its parts, so that definitions and theorems can name it. Assumes nothing.
use Rattle.std.specs.Prelude.{ℕ, Bool, Some, None}
use Rattle.laws.specs.Pick.{pick}
use Rattle.file.specs.declared.Reading.{Reading}

abbrev pub read_with_all : ℕ → Bool → Bool → ℕ → ℕ → ℕ → Reading
read_with_all version sparse tree records paths nodes = record { version = version; sparse = sparse; records = records; path_bytes = paths; tree = pick tree (Some nodes) None }
