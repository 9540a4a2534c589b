-- The header (gitformat-index, "A 12-byte header"; 01, When the desk says no, 1 to 3): at least 12 bytes and an id's length, "DIRC", version 2, 3 or 4, the
-- number of entries. Assumes nothing.
use Rattle.std.specs.Prelude.{ℕ, ◌+◌, List, length, ltb, eqb, Err, Ok, Result}
use Rattle.laws.specs.Pick.{pick}
use Rattle.wire.specs.BigEndian.{be_at}
use Rattle.format.specs.Format.{header_size}
use Rattle.decode.specs.Made.{header_with}
use Rattle.decode.specs.declared.header.Error.{Error as HeaderError}
use Rattle.decode.specs.declared.header.Error.TheVariants.{NoSignature, OtherVersion, ShortFile}
use Rattle.decode.specs.declared.header.Header.{Header}

-- "DIRC", big-endian
abbrev pub signature : ℕ
signature = 1145655875

-- the versions that are read
unfoldable pub on_version : ℕ → ℕ → Result Header HeaderError
on_version version entries =
    pick (eqb version 2) (Ok (header_with version entries))
    (pick (eqb version 3) (Ok (header_with version entries))
    (pick (eqb version 4) (Ok (header_with version entries)) (Err (OtherVersion version))))

unfoldable pub header_at : ℕ → List ℕ → Result Header HeaderError
header_at id s =
    pick (ltb (length s) (header_size + id)) (Err ShortFile)
    (pick (eqb (be_at 4 s 0) signature) (on_version (be_at 4 s 4) (be_at 4 s 8)) (Err NoSignature))
