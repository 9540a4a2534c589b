-- HOW LONG A WRITTEN FILE IS (01, "Writing", "How an entry is spelled" and "Extensions"), in plain arithmetic over the tables and what is asked for, and over the length of an id. No byte
-- that is written is named here; `Lengths` proves that the writer writes so many. Assumes nothing.
use Rattle.std.specs.Prelude.{ℕ, zero, suc, ◌+◌, ◌-◌, ◌*◌, ◌/◌, ◌%◌, ◌≤◌, ◌≡◌, Bool, ◌&&◌, ◌||◌, List, ltb, eqb, length}
use Rattle.std.proofs.Common.{arith}
use Rattle.laws.specs.Pick.{pick}
use Rattle.format.specs.Format.{header_size}
use Rattle.entry.specs.Flags.{bit, extended, removed}
use Rattle.entry.specs.Paths.{Paths}
use Rattle.entry.specs.Record.{records_in, flags_at, path_at}
use Rattle.node.specs.Head.{minus_one}
use Rattle.node.specs.Store.{nodes_in, count_at, subtrees_at, name_at}
use Rattle.grammar.specs.Extension.{extension_header}
use Rattle.write.specs.declared.Options.{Options}
use Rattle.claims_write.specs.Tree.{total}

-- ---- what is asked for

-- "TREE if given and asked for"
abbrev pub tree_asked : Options → Bool
tree_asked o = o.tree && o.cache

-- "EOIE if asked for, the table holds any record (REMOVE included) and TREE or `sdir` was written"
abbrev pub eoie_asked : List ℕ → Options → Bool
eoie_asked rs o = o.eoie && (ltb 0 (records_in rs) && (tree_asked o || o.sparse))

-- ---- an entry

-- ten 32-bit fields, the id, 16 flag bits and, if EXTENDED, 16 more
abbrev pub fixed_size : ℕ → ℕ → ℕ
fixed_size id flags = 10 * 4 + id + 2 + pick (bit extended flags) 2 0

-- with the path
abbrev pub unpadded_size : ℕ → List ℕ → Paths → ℕ → ℕ
unpadded_size id rs ps i = fixed_size id (flags_at rs i) + length (path_at rs ps i)

-- with "1 to 8 padding bytes …, so that the entry is a multiple of 8 long"
abbrev pub padded : ℕ → ℕ
padded size = (size / 8 + 1) * 8

pub padded_is : (size : ℕ) → (size + 1 ≤ padded size) × (padded size ≤ size + 8) × (padded size % 8 ≡ 0)
padded_is size = (omega arith, omega arith, omega arith)

abbrev pub entry_size : ℕ → List ℕ → Paths → ℕ → ℕ
entry_size id rs ps i = padded (unpadded_size id rs ps i)

abbrev pub padding_size : ℕ → List ℕ → Paths → ℕ → ℕ
padding_size id rs ps i = entry_size id rs ps i - unpadded_size id rs ps i

-- "REMOVE records are skipped"
abbrev pub written_size : ℕ → List ℕ → Paths → ℕ → ℕ
written_size id rs ps i = pick (bit removed (flags_at rs i)) 0 (entry_size id rs ps i)

abbrev pub entries_size : ℕ → List ℕ → Paths → ℕ
entries_size id rs ps = total (written_size id rs ps) (records_in rs) 0

-- where the extensions start
abbrev pub extensions_place : ℕ → List ℕ → Paths → ℕ
extensions_place id rs ps = header_size + entries_size id rs ps

-- ---- a node

-- how many decimal digits a number has, of at most so many; there are fewer than x + 1
unfoldable pub digits_within : ℕ → ℕ → ℕ
digits_within zero x = 0
digits_within (suc most) x = pick (ltb x 10) 1 (digits_within most (x / 10) + 1)

abbrev pub digits : ℕ → ℕ
digits x = digits_within (suc x) x

-- "-1", or decimal digits
abbrev pub count_size : ℕ → ℕ
count_size count = pick (eqb count minus_one) 2 (digits count)

-- "name, NUL, signed decimal entry count, space, unsigned decimal subtree count, newline, 20 id bytes unless the count is negative"
abbrev pub node_size : ℕ → List ℕ → List ℕ → ℕ → ℕ
node_size id ns nm i = length (name_at nm ns i) + 1 + count_size (count_at ns i) + 1 + digits (subtrees_at ns i) + 1 + pick (eqb (count_at ns i) minus_one) 0 id

-- each node of the table once
abbrev pub tree_size : ℕ → List ℕ → List ℕ → ℕ
tree_size id ns nm = total (node_size id ns nm) (nodes_in ns) 0

-- ---- the file

-- an extension of so many bytes, if it is there
abbrev pub extension_size : Bool → ℕ → ℕ
extension_size there size = pick there (extension_header + size) 0

-- the bytes before EOIE's place: header, entries, TREE and `sdir`
abbrev pub size_before_eoie : ℕ → List ℕ → Paths → List ℕ → List ℕ → Options → ℕ
size_before_eoie id rs ps ns nm o = extensions_place id rs ps + extension_size (tree_asked o) (tree_size id ns nm) + extension_size o.sparse 0

-- and behind them EOIE, an offset and a hash, and the trailer
abbrev pub file_size : ℕ → List ℕ → Paths → List ℕ → List ℕ → Options → ℕ
file_size id rs ps ns nm o = size_before_eoie id rs ps ns nm o + extension_size (eoie_asked rs o) (4 + id) + id
