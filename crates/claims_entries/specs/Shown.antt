-- That a table shows these entries, record by record; and that a store can be addressed. Assumes nothing.
use Rattle.std.specs.Prelude.{ℕ, ◌^◌, ◌<◌, ◌≡◌, List, length}
use Rattle.std.proofs.Math.Option.{some}
use Rattle.std.proofs.Math.ListN.{get_elem?}
use Rattle.entry.specs.Paths.{Paths}
use Rattle.grammar.specs.Entry.{Meaning}
use Rattle.claims_entries.specs.Fields.{Shows}

-- 64 bits address each byte of a store
abbrev pub Addressable : List ℕ → Type 0
Addressable ps = length ps < 2 ^ 64

-- record i of a table and its store shows entry i of these
abbrev pub EachShown : ℕ → List ℕ → Paths → List Meaning → Type 0
EachShown id rs ps ms = (i : ℕ) (m : Meaning) → get_elem? ms i ≡ some m → Shows id rs ps i m
