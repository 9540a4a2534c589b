-- An extension and its body, a space that extensions fill, and a pair of the offset table: each made of its parts, so that definitions and theorems can name it. Assumes nothing.
use Rattle.std.specs.Prelude.{ℕ, Bool}
use Rattle.wire.specs.declared.FileAt.{FileAt}
use Rattle.extension.specs.declared.iter.Cursor.{Cursor}
use Rattle.extension.specs.declared.iter.Body.{Body}
use Rattle.extension.specs.declared.iter.Extension.{Extension}
use Rattle.extension.specs.declared.iter.Broken.{Broken}
use Rattle.extension.specs.declared.decode.Bodies.{Bodies}
use Rattle.extension.specs.declared.decode.Filled.{Filled}
use Rattle.extension.specs.declared.index_entry_offset_table.Offset.{Offset}

abbrev pub body_between : FileAt → FileAt → Body
body_between start stop = record { start = start; stop = stop }

abbrev pub extension_between : ℕ → FileAt → FileAt → Cursor → Extension
extension_between signature start stop next = record { signature = signature; body = body_between start stop; next = next }

abbrev pub broken : Broken
broken = record {}

abbrev pub filled_by : Bool → Bodies → Filled
filled_by sparse bodies = record { sparse = sparse; bodies = bodies }

abbrev pub offset_pair : ℕ → ℕ → Offset
offset_pair from entries = record { from_beginning_of_file = from; num_entries = entries }
