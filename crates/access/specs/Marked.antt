-- The table of 01's marked page on order, "a" stage 0, "a" stage 2, "a.b" stage 0, and what lookup says in it, computed. That the check calls it sorted stands with the other
-- marked pages, in `claims`. Assumes nothing.
use Rattle.std.specs.Prelude.{◌≡◌, refl, List, [], ◌∷◌, ◌++◌, ℕ, ◌*◌, replicate, Ok}
use Rattle.wire.specs.BigEndian as wire
use Rattle.laws.specs.Order as laws
use Rattle.format.specs.Format.{id_size, fields_size}
use Rattle.entry.specs.Mode as mode
use Rattle.entry.specs.Paths.{Paths, lying_in}
use Rattle.entry.specs.Record.{record_of, front_of, rest_of, field_at, lies_inside, path_at}
use Rattle.access.specs.Verify.{follows_at, verify_from, verify_at}
use Rattle.access.specs.Lookup.{probe_at, halve, search_at, lookup_at}
use Rattle.access.specs.Sorted.{StrictlySorted, sorted_said}
use Rattle.access.specs.declared.Found.TheVariants.{Absent, At}

-- a record of zeros but for its stage and its path's place
unfoldable pub row : ℕ → ℕ → ℕ → List ℕ
row stage start end = record_of id_size (replicate fields_size 0) 0 (stage * 4096) start end

unfoldable pub table : List ℕ
table = row 0 0 1 ++ row 2 1 2 ++ row 0 2 5

-- "a", "a", "a.b"
unfoldable pub paths : Paths
paths = lying_in (97 ∷ 97 ∷ 97 ∷ 46 ∷ 98 ∷ [])

pub page_sorted : StrictlySorted table paths
unfolding table row paths verify_at verify_from follows_at lies_inside path_at field_at record_of front_of rest_of wire.be_at wire.bytes_of mode.keep_mode laws.compared
page_sorted = sorted_said table paths refl

pub page_found : lookup_at table paths (97 ∷ []) 2 ≡ Ok (At 1 1)
unfolding table row paths lookup_at search_at halve probe_at lies_inside path_at field_at record_of front_of rest_of wire.be_at wire.bytes_of mode.keep_mode laws.compared
page_found = refl

pub page_absent : lookup_at table paths (97 ∷ []) 1 ≡ Ok (Absent 2)
unfolding table row paths lookup_at search_at halve probe_at lies_inside path_at field_at record_of front_of rest_of wire.be_at wire.bytes_of mode.keep_mode laws.compared
page_absent = refl
