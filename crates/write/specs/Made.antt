-- A file that was written: each made of its parts, so that definitions and theorems can name it. Assumes nothing.
use Rattle.std.specs.Prelude.{ℕ}
use Rattle.write.specs.declared.Written.{Written}

abbrev pub written_with : ℕ → ℕ → Written
written_with version size = record { version = version; size = size }
