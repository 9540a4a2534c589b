-- Numbers of the format that extensions have: signatures, each as one big-endian number (gitformat-index, "Extensions"; 01, "Extensions").
-- Assumes nothing.
use Rattle.std.specs.Prelude.{ℕ, ◌/◌}

-- "TREE"
abbrev pub TREE : ℕ
TREE = 1414677829

-- "sdir"
abbrev pub sdir : ℕ
sdir = 1935960434

-- "IEOT"
abbrev pub IEOT : ℕ
IEOT = 1229279060

-- "EOIE"
abbrev pub EOIE : ℕ
EOIE = 1162824005

-- a signature's first byte
abbrev pub first_byte : ℕ → ℕ
first_byte signature = signature / 16777216
