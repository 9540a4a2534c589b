-- What EOIE, IEOT and the bound of entries come to in numbers. None of them refuses. Assumes nothing.
use Rattle.std.specs.Prelude.{ℕ, [], ◌∷◌, eqb, None, Option, Some}
use Rattle.laws.specs.Pick.{pick}
use Rattle.sparrowpivot.specs.Told.{Told, told, eight}
use Rattle.extension.specs.declared.index_entry_offset_table.Offset.{Offset}
use Rattle.wire.specs.declared.FileAt.{FileAt}

-- whether there is one, and its offset
abbrev pub tell_offset : Option FileAt → Told
tell_offset (Some place) = told 0 (eight (1 ∷ place.0 ∷ [])) []
tell_offset None = told 0 (eight []) []

-- whether there is one, and how many pairs it has
abbrev pub tell_table : Option ℕ → Told
tell_table (Some n) = told 0 (eight (1 ∷ n ∷ [])) []
tell_table None = told 0 (eight []) []

-- whether there is one, where its block begins, and how many entries that has
abbrev pub tell_pair : Option Offset → Told
tell_pair (Some p) = told 0 (eight (1 ∷ p.from_beginning_of_file ∷ p.num_entries ∷ [])) []
tell_pair None = told 0 (eight []) []

-- where extensions begin, as a caller says it: 0 is not told
abbrev pub extensions_from : ℕ → ℕ → Option ℕ
extensions_from told offset = pick (eqb told 0) None (Some offset)
