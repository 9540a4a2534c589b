-- What writing a file comes to in numbers, and what an options number asks for (01, Writing). Assumes nothing.
use Rattle.std.specs.Prelude.{ℕ, [], ◌∷◌}
use Rattle.entry.specs.Flags.{bit as is_set}
use Rattle.write.specs.File.{Outcome, number_of, carried_of}
use Rattle.write.specs.declared.Options.{Options}
use Rattle.sparrowpivot.specs.Told.{Told, told, eight}

-- what the five low bits ask for; the others are not looked at
abbrev pub options_from : ℕ → Options
options_from n = record { tree = is_set 0 n; cache = is_set 1 n; eoie = is_set 2 n; sparse = is_set 3 n; unhashed = is_set 4 n }

abbrev pub tell_write : Outcome → Told
tell_write o = told (number_of o.answer) (eight (carried_of o.answer)) (o.out ∷ [])
