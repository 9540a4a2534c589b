-- A node that was read with all its subtrees: each made of its parts, so that definitions and theorems can name it. Assumes nothing.
use Rattle.std.specs.Prelude.{ℕ}
use Rattle.tree.specs.declared.Read.{Read}

abbrev pub read_up_to : ℕ → ℕ → Read
read_up_to next used = record { next = next; used = used }
