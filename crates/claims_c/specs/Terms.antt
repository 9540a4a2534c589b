-- THE WORDS OF `EndToEnd`: what a caller takes out of eight values and lends on, and, over the grammar's meaning alone, when entries are in order, which of them has a path and a stage, and the
-- nodes of a tree in file order with the number of each one's parent. No reader is named here. Assumes nothing.
use Rattle.std.specs.Prelude.{ℕ, ◌+◌, ◌-◌, ◌*◌, ◌≤◌, ◌<◌, ◌≡◌, List, [], ◌∷◌, ◌++◌, length, get_or, take, drop, replicate}
use Rattle.std.proofs.Math.Option.{Option, none, some}
use Rattle.std.proofs.Math.ListN.{get_elem?}
use Rattle.format.specs.Format.{id_size}
use Rattle.entry.specs.Flags.{stage_raw}
use Rattle.entry.specs.Layout.{record_size}
use Rattle.node.specs.Head.{minus_one}
use Rattle.node.specs.Store.{node_size}
use Rattle.access.specs.Order.{Precedes}
use Rattle.grammar.specs.Number.{Count, covers, invalid}
use Rattle.grammar.specs.Entry.{Meaning}
use Rattle.grammar.specs.Tree.{Tree, tree, Subtrees, childless, beside, nodes}
use Rattle.claims_tree.specs.Rendering.{how_many}

-- ---- values and stores

-- `values[k]`
abbrev pub value : List ℕ → ℕ → ℕ
value values k = get_or values k 0

-- what a caller lends on after reading: as many records as `values[3]` tells, as many nodes as `values[5]` tells (the header: "after reading n records lend n * SPARROWPIVOT_RECORD_SIZE bytes")
abbrev pub records_told : List ℕ → List ℕ → List ℕ
records_told values records = take (value values 3 * record_size) records

abbrev pub nodes_told : List ℕ → List ℕ → List ℕ
nodes_told values nodes = take (value values 5 * node_size) nodes

-- in a store the bytes from `start` to `end` are x
pub record Stands (store : List ℕ) (start end : ℕ) (x : List ℕ) : Type 0 where
  pub ahead : start ≤ end
  pub inside : end ≤ length store
  pub bytes : take (end - start) (drop start store) ≡ x

-- ---- entries

-- bits 12 and 13 of the flags
abbrev pub stage_of : Meaning → ℕ
stage_of e = stage_raw e.flags

-- entry i is e
abbrev pub EntryIs : List Meaning → ℕ → Meaning → Type 0
EntryIs es i e = get_elem? es i ≡ some e

-- "by path bytes, unsigned, a prefix first, then stage"
abbrev pub ComesBefore : Meaning → Meaning → Type 0
ComesBefore d e = Precedes d.path (stage_of d) e.path (stage_of e)

-- entry i + 1, if there is one, comes strictly after entry i
abbrev pub NextIsAfter : List Meaning → ℕ → Type 0
NextIsAfter es i = (d e : Meaning) → EntryIs es i d → EntryIs es (i + 1) e → ComesBefore d e

abbrev pub InOrder : List Meaning → Type 0
InOrder es = (i : ℕ) → NextIsAfter es i

-- entry i is the first that does not come strictly after the one before it
pub record FirstNotAfter (es : List Meaning) (i : ℕ) : Type 0 where
  pub behind : 0 < i
  pub before : Meaning
  pub entry : Meaning
  pub stands_before : EntryIs es (i - 1) before
  pub stands : EntryIs es i entry
  pub not_after : ¬ ComesBefore before entry
  pub first : (j : ℕ) → j + 1 < i → NextIsAfter es j

-- entry i has that path and stage
abbrev pub EntryHas : List Meaning → List ℕ → ℕ → ℕ → Type 0
EntryHas es path stage i = (e : Meaning) × EntryIs es i e × (e.path ≡ path) × (stage_of e ≡ stage)

-- ---- nodes

-- a node: where its name starts in the file, the name, how many entries it covers, how many subtrees it has, the number of its parent, which the root has not, and its id
pub record Row : Type 0 where
  pub place : ℕ
  pub name : List ℕ
  pub count : Count
  pub subtrees : ℕ
  pub parent : Option ℕ
  pub id : List ℕ

-- in file order, from a number on: a node, and then its subtrees one behind the other
abbrev mutual
  pub rows_from : Option ℕ → ℕ → Tree → List Row
  rows_from parent me (tree place name count id ts) = record { place = place; name = name; count = count; subtrees = how_many ts; parent = parent; id = id } ∷ rows_below me (me + 1) ts

  pub rows_below : ℕ → ℕ → Subtrees → List Row
  rows_below parent me childless = []
  rows_below parent me (beside t ts) = rows_from (some parent) me t ++ rows_below parent (me + nodes t) ts

-- the root is number 0
abbrev pub rows : Tree → List Row
rows t = rows_from none 0 t

-- row i is r
abbrev pub RowIs : List Row → ℕ → Row → Type 0
RowIs l i r = get_elem? l i ≡ some r

-- the number of a parent in 64 bits: all ones where there is none
abbrev pub parent_word : Option ℕ → ℕ
parent_word none = minus_one
parent_word (some i) = i

-- the id of a node: zeros where it is invalid
abbrev pub id_told : Count → List ℕ → List ℕ
id_told (covers v) id = id
id_told invalid id = replicate id_size 0
