-- What reading a file, and reading entries alone, comes to in numbers. Assumes nothing.
use Rattle.std.specs.Prelude.{None, [], ◌∷◌}
use Rattle.wire.specs.Places.{path_at}
use Rattle.decode.specs.Entries as entries
use Rattle.decode.specs.declared.entries.Before.{Before}
use Rattle.file.specs.Answer.{number_of, carried_of}
use Rattle.file.specs.Read.{Outcome}
use Rattle.sparrowpivot.specs.Told.{Told, told, eight}

abbrev pub tell_read : Outcome → Told
tell_read o = told (number_of o.answer) (eight (carried_of o.answer)) (o.records ∷ o.paths ∷ o.nodes ∷ [])

-- ---- entries alone

-- nothing is read yet
abbrev pub begin : Before
begin = record { used = path_at 0; path = None }

abbrev pub tell_entries : entries.Outcome → Told
tell_entries o = told (entries.number_of o.answer) (eight (entries.carried_of o.answer)) (o.records ∷ o.paths ∷ [])
