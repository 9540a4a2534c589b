-- IEOT (01, "Extensions": "version 1, then one or more 8-byte pairs, nothing over; otherwise none. Only the first IEOT counts"). h is the id's length, which is the
-- trailer's. Assumes nothing.
use Rattle.std.specs.Prelude.{ℕ, ◌+◌, ◌-◌, ◌*◌, ◌/◌, ◌%◌, List, length, ltb, leb, eqb, None, Option, Some}
use Rattle.laws.specs.Pick.{pick}
use Rattle.wire.specs.BigEndian.{be_at}
use Rattle.extension.specs.Signatures.{IEOT}
use Rattle.extension.specs.Iter.{on_body, first_at}
use Rattle.extension.specs.Made.{offset_pair}
use Rattle.extension.specs.declared.index_entry_offset_table.Offset.{Offset}
use Rattle.extension.specs.declared.iter.Body.{Body}

abbrev pub version : ℕ
version = 1

abbrev pub version_size : ℕ
version_size = 4

abbrev pub pair_size : ℕ
pair_size = 8

-- one or more pairs, nothing over
abbrev pub pairs_in : ℕ → Option ℕ
pairs_in size = pick (eqb (size / pair_size) 0) None (pick (eqb (size % pair_size) 0) (Some (size / pair_size)) None)

-- the table that lies from `start` up to `stop`; there is none where these are not within the file, or out of order
unfoldable pub table_at : List ℕ → ℕ → ℕ → Option ℕ
table_at s start stop =
    pick (ltb (length s) stop) None
    (pick (ltb stop start) None
    (pick (ltb (stop - start) version_size) None
    (pick (eqb (be_at 4 s start) version) (pairs_in (stop - start - version_size))
    None)))

abbrev pub on_table : {A : Type 0} → Option ℕ → A → (ℕ → A) → A
on_table (Some n) none some = some n
on_table None none some = none

-- pair number k of the table that lies from `start` up to `stop`
unfoldable pub pair_in : List ℕ → ℕ → ℕ → ℕ → Option Offset
pair_in s start stop k =
    on_table (table_at s start stop) None
    (λ n. pick (leb n k) None (Some (offset_pair (be_at 4 s (start + version_size + k * pair_size)) (be_at 4 s (start + version_size + k * pair_size + 4)))))

-- the first IEOT from an offset on, before the trailer
unfoldable pub table_in : ℕ → List ℕ → ℕ → Option Body
table_in h s offset = pick (ltb (length s) (offset + h)) None (first_at s offset (length s - h) IEOT)

unfoldable pub table_from : ℕ → List ℕ → ℕ → Option ℕ
table_from h s offset = on_body (table_in h s offset) None (table_at s)

unfoldable pub pair_from : ℕ → List ℕ → ℕ → ℕ → Option Offset
pair_from h s offset k = on_body (table_in h s offset) None (λ start stop. pair_in s start stop k)
