-- The mode of an entry (01, How an entry is spelled): the bits that are kept, and the kept mode that makes an index sparse. Assumes nothing.
use Rattle.std.specs.Prelude.{ℕ, ◌+◌, ◌*◌, ◌/◌, ◌%◌, Bool, false, List, length, leb, eqb}
use Rattle.laws.specs.Pick.{pick}
use Rattle.wire.specs.BigEndian.{be_at}
use Rattle.entry.specs.Layout.{mode_place, uid_place}

-- the bits of octal 160755: 15 to 13, 8 to 5, 3 to 2, and 0
unfoldable pub keep_mode : ℕ → ℕ
keep_mode m = m / 8192 % 8 * 8192 + m / 32 % 16 * 32 + m / 4 % 4 * 4 + m % 2

-- octal 040000
abbrev pub directory : ℕ
directory = 16384

-- the mode of the entry at `at`, as the file spells it and as it is kept
abbrev pub mode_in : List ℕ → ℕ → ℕ
mode_in s at = keep_mode (be_at 4 s (at + mode_place))

-- whether the entry at `at` is a directory; no where the file ends before its mode does, behind which uid follows
unfoldable pub dir_at : List ℕ → ℕ → Bool
dir_at s at = pick (leb (at + uid_place) (length s)) (eqb (mode_in s at) directory) false
