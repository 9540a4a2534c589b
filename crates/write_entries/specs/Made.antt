-- What sizing comes to: each made of its parts, so that definitions and theorems can name it. Assumes nothing.
use Rattle.std.specs.Prelude.{ℕ}
use Rattle.write_entries.specs.declared.Sized.{Sized}
use Rattle.write_entries.specs.declared.Outside.{Outside}

abbrev pub sized_as : ℕ → ℕ → ℕ → Sized
sized_as version count size = record { version = version; count = count; size = size }

abbrev pub outside_at : ℕ → Outside
outside_at index = record { index = index }
