-- Numbers of the index format that more than one crate names, each once (01, "How an entry is spelled", "Extensions", "Writing"). What 02 asks to change, an id's length (A9)
-- and the depth (A2), is said here. Assumes nothing.
use Rattle.std.specs.Prelude.{ℕ, ◌+◌}

-- the bytes of an id, and so of the trailer
abbrev pub id_size : ℕ
id_size = 20

-- the bytes that a record and a node have for an id
abbrev pub id_room : ℕ
id_room = 32

-- signature, version and count
abbrev pub header_size : ℕ
header_size = 12

-- an entry's part before its flags: ten 32-bit fields and the id
abbrev pub fields_size : ℕ
fields_size = 40 + id_size

-- its part before its path, without and with extended flags
abbrev pub fixed_size : ℕ
fixed_size = fields_size + 2

abbrev pub fixed_extended_size : ℕ
fixed_extended_size = fields_size + 4

-- a length field of this value says that the path runs to the first NUL
abbrev pub long_path : ℕ
long_path = 4095

-- an extension's signature and size
abbrev pub extension_header_size : ℕ
extension_header_size = 8

-- EOIE's offset; its body, which is that and a hash; and the whole of it
abbrev pub offset_size : ℕ
offset_size = 4

abbrev pub eoie_size : ℕ → ℕ
eoie_size id = offset_size + id

abbrev pub eoie_whole_size : ℕ → ℕ
eoie_whole_size id = extension_header_size + eoie_size id

-- 02, A2: "a proper node table may be 512 deep"; the root has depth 1
abbrev pub depth_limit : ℕ
depth_limit = 512
