-- How many entries a file has room for (01, Modules in port order, 4): the block is the offset to extensions if given, else the file size less an id; then less
-- the header; each subtraction stops at 0. Divided by the least size of an entry, which depends on version and id length. Assumes nothing.
use Rattle.std.specs.Prelude.{ℕ, ◌+◌, ◌-◌, ◌*◌, ◌/◌, eqb, None, Option, Some}
use Rattle.laws.specs.Pick.{pick}
use Rattle.format.specs.Format.{header_size}
use Rattle.measure.specs.Entry.{plain_size}

unfoldable pub block_size : ℕ → Option ℕ → ℕ → ℕ
block_size size (Some offset) id = offset - header_size
block_size size None id = size - id - header_size

-- the fixed part, to a multiple of 8; in version 4 with a strip of one byte and a NUL
unfoldable pub min_entry_size : ℕ → ℕ → ℕ
min_entry_size version id = pick (eqb version 4) (plain_size id + 2) ((plain_size id + 7) / 8 * 8)

unfoldable pub max_entries : ℕ → Option ℕ → ℕ → ℕ → ℕ
max_entries size extensions version id = block_size size extensions id / min_entry_size version id
