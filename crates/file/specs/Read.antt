-- The whole file, read into three stores (01, "When the desk says no": 1 to 4 in that order, then entries, then extensions, then for the last TREE only 9, 10 and
-- malformation), over the kind and the depth limit; what comes behind the trailer's test, over the length of an id. Assumes nothing.
use Rattle.std.specs.Prelude.{ℕ, ◌-◌, Bool, true, List, length, Err, None, Ok, Option, Result, Some}
use Rattle.laws.specs.Pick.{pick}
use Rattle.wire.specs.Places.{file_at, path_at}
use Rattle.format.specs.Format.{header_size}
use Rattle.kind.specs.Kind.{Kind}
use Rattle.decode.specs.Header.{header_at}
use Rattle.decode.specs.Entries as entries
use Rattle.decode.specs.declared.entries.Before.{Before}
use Rattle.extension.specs.Decode.{all_at}
use Rattle.tree.specs.Tree.{read_tree}
use Rattle.file.specs.Trailer.{good_trailer}
use Rattle.file.specs.Answer.{of_header, of_entries, of_space, of_tree}
use Rattle.file.specs.declared.Entries.{Entries}
use Rattle.file.specs.declared.Error.TheVariants as answer
use Rattle.decode.specs.declared.entries.Done.{Done}
use Rattle.decode.specs.declared.entries.Error.{Error as EntriesError}
use Rattle.decode.specs.declared.header.Error.{Error as HeaderError}
use Rattle.decode.specs.declared.header.Header.{Header}
use Rattle.extension.specs.declared.decode.Error.{Error as SpaceError}
use Rattle.extension.specs.declared.decode.Filled.{Filled}
use Rattle.extension.specs.declared.iter.Body.{Body}
use Rattle.file.specs.declared.Error.{Error as FileError}
use Rattle.file.specs.declared.Reading.{Reading}
use Rattle.tree.specs.declared.Error.{Error as TreeError}

-- what reading comes to: the answer, and what the three stores hold
pub record Outcome : Type 0 where
  pub answer : Result Reading FileError
  pub records : List ℕ
  pub paths : List ℕ
  pub nodes : List ℕ

abbrev pub outcome : Result Reading FileError → List ℕ → List ℕ → List ℕ → Outcome
outcome a rs ps ns = record { answer = a; records = rs; paths = ps; nodes = ns }

-- the answer, by what the last TREE came to
abbrev pub with_tree : Entries → Result (Option ℕ) TreeError → Result Reading FileError
with_tree e (Ok tree) = Ok (record { version = e.version; sparse = e.sparse; records = e.records; path_bytes = e.used; tree = tree })
with_tree e (Err fault) = Err (of_tree fault)

-- an `sdir` marks the index sparse too
abbrev pub marked : Entries → Bool → Entries
marked e mark = record { version = e.version; sparse = pick mark true e.sparse; records = e.records; used = e.used }

abbrev pub grown_into : Entries → Result (Option ℕ) TreeError × List ℕ → Result Reading FileError × List ℕ
grown_into e (t, ns) = (with_tree e t, ns)

-- the last TREE's nodes go to the node store
abbrev pub on_tree : ℕ → ℕ → List ℕ → Entries → List ℕ → Option Body → Result Reading FileError × List ℕ
on_tree id limit s e ns None = (with_tree e (Ok None), ns)
on_tree id limit s e ns (Some b) = grown_into e (read_tree id limit s b.start.0 b.stop.0 ns)

-- the extensions, from the last entry on
abbrev pub on_space : ℕ → ℕ → List ℕ → Entries → List ℕ → Result Filled SpaceError → Result Reading FileError × List ℕ
on_space id limit s e ns (Ok f) = on_tree id limit s (marked e f.sparse) ns f.bodies.tree
on_space id limit s e ns (Err fault) = (Err (of_space fault), ns)

-- they fill the space from `next` to `end`
unfoldable pub extensions_into : ℕ → ℕ → List ℕ → ℕ → ℕ → Entries → List ℕ → Result Reading FileError × List ℕ
extensions_into id limit s next end e ns = on_space id limit s e ns (all_at s next end)

abbrev pub with_nodes : List ℕ → List ℕ → Result Reading FileError × List ℕ → Outcome
with_nodes rs ps (a, ns) = outcome a rs ps ns

-- no path comes before the first entry, and the path store is not in use
abbrev pub nothing_before : Before
nothing_before = record { used = path_at 0; path = None }

-- what the entries came to, with the two stores that they left
abbrev pub on_entries : ℕ → ℕ → List ℕ → ℕ → ℕ → List ℕ → List ℕ → List ℕ → Result Done EntriesError → Outcome
on_entries id limit s version count rs ps ns (Ok d) =
    with_nodes rs ps (extensions_into id limit s d.next.0 (length s - id) (record { version = version; sparse = d.sparse; records = count; used = d.used.0 }) ns)
on_entries id limit s version count rs ps ns (Err fault) = outcome (Err (of_entries fault)) rs ps ns

abbrev pub after_entries : ℕ → ℕ → List ℕ → ℕ → ℕ → List ℕ → entries.Outcome → Outcome
after_entries id limit s version count ns o = on_entries id limit s version count o.records o.paths ns o.answer

-- the entries, from the header on
unfoldable pub entries_into : ℕ → ℕ → List ℕ → ℕ → ℕ → List ℕ → List ℕ → List ℕ → Outcome
entries_into id limit s version count rs ps ns =
    after_entries id limit s version count ns (entries.read_entries id s (file_at (length s - id)) version count 0 (file_at header_size) nothing_before rs ps)

abbrev pub on_header : Kind → ℕ → List ℕ → List ℕ → List ℕ → List ℕ → Result Header HeaderError → Outcome
on_header kind limit s rs ps ns (Ok h) = pick (good_trailer kind s) (entries_into kind.id limit s h.version h.entries rs ps ns) (outcome (Err answer.BadTrailer) rs ps ns)
on_header kind limit s rs ps ns (Err fault) = outcome (Err (of_header fault)) rs ps ns

-- THE DEFINITION
unfoldable pub read_file : Kind → ℕ → List ℕ → List ℕ → List ℕ → List ℕ → Outcome
read_file kind limit s rs ps ns = on_header kind limit s rs ps ns (header_at kind.id s)
