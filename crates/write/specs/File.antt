-- The whole file as it is written (01, Writing, and write.rs, tree/write.rs, end_of_index_entry/write.rs), over the kind: header, entries, the
-- extensions, EOIE and the trailer, one after the other; and what the writer answers. The extensions are one list, and their bytes, their length and what EOIE says of
-- them follow from it. Assumes nothing.
use Rattle.std.specs.Prelude.{ℕ, ◌+◌, Bool, true, false, ◌≡◌, List, [], ◌∷◌, ◌++◌, ltb, length, drop, replicate, Option, is_some, unwrap_or, Err, Ok, Result}
use Rattle.laws.specs.Pick.{pick}
use Rattle.laws.specs.Put.{put}
use Rattle.wire.specs.BigEndian.{bytes_of}
use Rattle.sums.specs.Cap.{cap}
use Rattle.entry.specs.Paths.{Paths}
use Rattle.entry.specs.Record.{records_in}
use Rattle.refusal.specs.Refusal.{path_outside, short_output, too_large, not_proper}
use Rattle.format.specs.Format.{header_size, extension_header_size, offset_size, eoie_size, eoie_whole_size}
use Rattle.kind.specs.Kind.{Kind}
use Rattle.tree_write.specs.Tree.{tree_bytes}
use Rattle.proper.specs.Proper.{is_proper}
use Rattle.write.specs.declared.Options.{Options}
use Rattle.write.specs.declared.Plan.{Plan}
use Rattle.write.specs.declared.extension.Heads.{Heads}
use Rattle.write_entries.specs.Entries.{first_fault, on_first, count_of, any_extended, table_bytes}
use Rattle.write_entries.specs.declared.Outside.{Outside}
use Rattle.write.specs.Made.{written_with}
use Rattle.write.specs.declared.Error.{Error as WriteError}
use Rattle.write.specs.declared.Error.TheVariants.{NotProper, PathOutside, ShortOutput, TooLarge}
use Rattle.write.specs.declared.Written.{Written}

-- ---- the parts

-- "DIRC", the version, how many entries
unfoldable pub header_of : ℕ → ℕ → List ℕ
header_of version count = ((68 ∷ 73 ∷ 82 ∷ 67 ∷ []) ++ bytes_of 4 version) ++ bytes_of 4 count

-- version 3 if a record has EXTENDED, also one marked REMOVE; else 2
abbrev pub version_of : List ℕ → ℕ
version_of rs = pick (any_extended rs (records_in rs) 0) 3 2

-- an extension's signature, and how many bytes follow
unfoldable pub extension_head : List ℕ → ℕ → List ℕ
extension_head signature size = signature ++ bytes_of 4 size

abbrev pub tree_signature : List ℕ
tree_signature = 84 ∷ 82 ∷ 69 ∷ 69 ∷ []

abbrev pub sparse_signature : List ℕ
sparse_signature = 115 ∷ 100 ∷ 105 ∷ 114 ∷ []

abbrev pub eoie_signature : List ℕ
eoie_signature = 69 ∷ 79 ∷ 73 ∷ 69 ∷ []

-- an extension: its signature and its body
pub record Extension : Type 0 where
  pub signature : List ℕ
  pub body : List ℕ

abbrev pub extension : List ℕ → List ℕ → Extension
extension signature body = record { signature = signature; body = body }

-- THE LIST of the extensions before EOIE, in the order in which they stand: TREE, of so many bytes, and `sdir`, each if it is written
abbrev pub extensions_for : Bool → List ℕ → Bool → List Extension
extensions_for writes tree sparse = pick writes (extension tree_signature tree ∷ []) [] ++ pick sparse (extension sparse_signature [] ∷ []) []

-- their bytes
unfoldable pub extensions_of : List Extension → List ℕ
extensions_of [] = []
extensions_of (e ∷ es) = (extension_head e.signature (length e.body) ++ e.body) ++ extensions_of es

-- how many these are
unfoldable pub extensions_size : List Extension → ℕ
extensions_size [] = 0
extensions_size (e ∷ es) = extension_header_size + length e.body + extensions_size es

-- their signatures and sizes, which EOIE hashes
unfoldable pub contents : List Extension → List ℕ
contents [] = []
contents (e ∷ es) = extension_head e.signature (length e.body) ++ contents es

-- EOIE: where the extensions start, and the hash of their signatures and sizes
unfoldable pub eoie_part : Kind → Bool → ℕ → List ℕ → List ℕ
eoie_part kind has offset toc = pick has ((extension_head eoie_signature (eoie_size kind.id) ++ bytes_of offset_size offset) ++ kind.hash toc) []

unfoldable pub trailer_of : Kind → Bool → List ℕ → List ℕ
trailer_of kind skips before = pick skips (replicate kind.id 0) (kind.hash before)

-- ---- the whole

-- header and entries
unfoldable pub front_of : ℕ → List ℕ → Paths → ℕ → ℕ → List ℕ
front_of id rs ps version count = header_of version count ++ table_bytes id rs ps

-- the bytes before EOIE's place
unfoldable pub body_of : ℕ → List ℕ → Paths → ℕ → ℕ → List Extension → List ℕ
body_of id rs ps version count es = front_of id rs ps version count ++ extensions_of es

-- where the extensions start
abbrev pub offset_of : ℕ → List ℕ → Paths → ℕ
offset_of id rs ps = header_size + length (table_bytes id rs ps)

-- what stands behind the bytes before EOIE's place
unfoldable pub end_of : Kind → Bool → List ℕ → List ℕ → List ℕ
end_of kind skips body eoie = eoie ++ trailer_of kind skips (body ++ eoie)

-- all but the trailer, and all
unfoldable pub closed_of : Kind → List ℕ → Bool → ℕ → List ℕ → List ℕ
closed_of kind body has offset toc = body ++ eoie_part kind has offset toc

unfoldable pub file_of : Kind → List ℕ → Bool → List ℕ
file_of kind closed skips = closed ++ trailer_of kind skips closed

-- how long an extension's head is that is there or not, and what stands behind the bytes before EOIE's place
unfoldable pub head_size : Bool → ℕ
head_size there = pick there extension_header_size 0

unfoldable pub end_size : ℕ → Bool → ℕ
end_size id has = pick has (eoie_whole_size id + id) id

-- ---- what is asked for

-- TREE if given and asked for
unfoldable pub writes_tree : Options → Bool
writes_tree o = pick o.tree o.cache false

-- another extension is written, whatever its body
abbrev pub writes_other : Bool → Bool → Bool
writes_other writes sparse = ltb 0 (length (extensions_for writes [] sparse))

-- EOIE if asked for, the table holds any record (REMOVE included) and another extension is written
unfoldable pub has_eoie : ℕ → Options → Bool
has_eoie n o = pick o.eoie (pick (ltb 0 n) (writes_other (writes_tree o) o.sparse) false) false

-- the tree's bytes, none where TREE is not written
unfoldable pub tree_of : ℕ → ℕ → List ℕ → List ℕ → Bool → List ℕ
tree_of id limit ns nm writes = pick writes (tree_bytes id limit ns nm) []

-- whether the table may be written: it is proper, or not to be written
unfoldable pub tree_fits : ℕ → List ℕ → List ℕ → Bool → Bool
tree_fits limit ns nm writes = pick writes (is_proper limit ns nm) true

-- the extensions before EOIE
abbrev pub extensions_asked : ℕ → ℕ → List ℕ → List ℕ → Options → List Extension
extensions_asked id limit ns nm o = extensions_for (writes_tree o) (tree_bytes id limit ns nm) o.sparse

unfoldable pub body_bytes : ℕ → ℕ → List ℕ → Paths → List ℕ → List ℕ → Options → List ℕ
body_bytes id limit rs ps ns nm o = body_of id rs ps (version_of rs) (count_of rs (records_in rs) 0) (extensions_asked id limit ns nm o)

unfoldable pub file_bytes : Kind → ℕ → List ℕ → Paths → List ℕ → List ℕ → Options → List ℕ
file_bytes kind limit rs ps ns nm o =
    file_of kind (closed_of kind (body_bytes kind.id limit rs ps ns nm o) (has_eoie (records_in rs) o) (offset_of kind.id rs ps) (contents (extensions_asked kind.id limit ns nm o))) o.unhashed

-- ---- part by part, as the code writes it

-- bytes put at a place of a store, and where they end
abbrev pub Puts : ℕ → List ℕ → List ℕ → ℕ → List ℕ → Type 0
Puts end after before at bytes = (end ≡ at + length bytes) × (after ≡ put before at bytes)

-- TREE's signature and size, and `sdir`, each if it is written
unfoldable pub tree_head : Bool → ℕ → List ℕ
tree_head writes size = pick writes (extension_head tree_signature size) []

-- that of a tree of so many bytes, or none
abbrev pub tree_head_with : Option ℕ → List ℕ
tree_head_with tree = tree_head (is_some tree) (unwrap_or tree 0)

unfoldable pub sparse_part : Bool → List ℕ
sparse_part sparse = pick sparse (extension_head sparse_signature 0) []

-- the signatures and sizes of both
unfoldable pub heads_of : Bool → ℕ → Bool → List ℕ
heads_of writes size sparse = tree_head writes size ++ sparse_part sparse

abbrev pub heads_in : Heads → List ℕ
heads_in h = heads_of (is_some h.tree) (unwrap_or h.tree 0) h.sparse

-- what is planned: the extensions, their bytes, all before EOIE's place, EOIE, and the whole file
abbrev pub extensions_planned : ℕ → ℕ → List ℕ → List ℕ → Heads → List Extension
extensions_planned id limit ns nm h = extensions_for (is_some h.tree) (tree_bytes id limit ns nm) h.sparse

abbrev pub extensions_in : ℕ → ℕ → List ℕ → List ℕ → Heads → List ℕ
extensions_in id limit ns nm h = extensions_of (extensions_planned id limit ns nm h)

abbrev pub plan_body : ℕ → ℕ → List ℕ → Paths → List ℕ → List ℕ → Plan → List ℕ
plan_body id limit rs ps ns nm p = body_of id rs ps p.version p.count (extensions_planned id limit ns nm p.heads)

abbrev pub eoie_for : Kind → Plan → ℕ → List ℕ
eoie_for kind p offset = eoie_part kind p.eoie offset (heads_in p.heads)

abbrev pub plan_file : Kind → ℕ → List ℕ → Paths → List ℕ → List ℕ → Plan → List ℕ
plan_file kind limit rs ps ns nm p =
    file_of kind (closed_of kind (plan_body kind.id limit rs ps ns nm p) p.eoie (offset_of kind.id rs ps) (contents (extensions_planned kind.id limit ns nm p.heads))) p.unhashed

-- what the sizing pass finds where no record has a fault
pub record Counted (id : ℕ) (rs : List ℕ) (ps : Paths) (version count size : ℕ) : Type 0 where
  pub versioned : version ≡ version_of rs
  pub counted : count ≡ count_of rs (records_in rs) 0
  pub sized : size ≡ cap (header_size + length (table_bytes id rs ps))

-- ---- the answer

-- 01's number of an answer, 0 where the file is written, and what goes with it: version and size, or what a refusal carries
abbrev pub number_of : Result Written WriteError → ℕ
number_of (Ok w) = 0
number_of (Err (PathOutside index)) = path_outside
number_of (Err NotProper) = not_proper
number_of (Err TooLarge) = too_large
number_of (Err (ShortOutput size)) = short_output

-- the refusal of sizing
abbrev pub of_outside : Outside → WriteError
of_outside o = PathOutside o.index

abbrev pub carried_of : Result Written WriteError → List ℕ
carried_of (Ok w) = w.version ∷ w.size ∷ []
carried_of (Err (PathOutside index)) = index ∷ []
carried_of (Err NotProper) = []
carried_of (Err TooLarge) = []
carried_of (Err (ShortOutput size)) = size ∷ []

-- what writing comes to: the answer, and what the output holds
pub record Outcome : Type 0 where
  pub answer : Result Written WriteError
  pub out : List ℕ

abbrev pub outcome : Result Written WriteError → List ℕ → Outcome
outcome a o = record { answer = a; out = o }

-- the most records, and the most bytes before EOIE's place
abbrev pub most : ℕ
most = 4294967295

-- a file that may be written: 15, 14, or the file and behind it what stood there
unfoldable pub write_file : ℕ → ℕ → List ℕ → List ℕ → List ℕ → Outcome
write_file records version body file out =
    pick (ltb most records) (outcome (Err TooLarge) out)
    (pick (ltb most (length body)) (outcome (Err TooLarge) out)
    (pick (ltb (length out) (length file)) (outcome (Err (ShortOutput (length file))) out)
    (outcome (Ok (written_with version (length file))) (file ++ drop (length file) out))))

abbrev pub write_table : Kind → ℕ → List ℕ → Paths → List ℕ → List ℕ → Options → List ℕ → Outcome
write_table kind limit rs ps ns nm o out = write_file (records_in rs) (version_of rs) (body_bytes kind.id limit rs ps ns nm o) (file_bytes kind limit rs ps ns nm o) out

-- the first record with a fault, a table that is not proper, and then the file
unfoldable pub write_all : Kind → ℕ → List ℕ → Paths → List ℕ → List ℕ → Options → List ℕ → Outcome
write_all kind limit rs ps ns nm o out =
    on_first (first_fault rs ps (records_in rs) 0) (λ i. outcome (Err (PathOutside i)) out)
    (pick (tree_fits limit ns nm (writes_tree o)) (write_table kind limit rs ps ns nm o out) (outcome (Err NotProper) out))
