-- THE DEMANDS, of any reader, writer, lookup and digest on lists of bytes, in the words of docs/PROMISES.md. No definition of ours stands for the one that is tried: of the reader only its
-- answers and outcome are named, of the writer its options, answers and outcome, of lookup its answers. Assumes nothing.
use Rattle.std.specs.Prelude.{ℕ, ◌*◌, ◌^◌, ◌≤◌, ◌<◌, ◌≡◌, Bool, true, ◌↔◌, length, take, drop, Err, Ok, Result, Some}
use mathlib.Core.List.{List, [], ◌∷◌, flatten}
use Rattle.std.proofs.Math.Option.{some}
use Rattle.std.proofs.Math.ListN.{get_elem?}
use Rattle.laws.specs.Pick.{pick}
use Rattle.wire.specs.Places.{file_at}
use Rattle.format.specs.Format.{depth_limit}
use Rattle.sha1_hash.specs.Sha1.{sha1}
use Rattle.kind.specs.Kind.{Kind}
use Rattle.entry.specs.Paths.{Paths, lying_in}
use Rattle.entry.specs.Layout.{record_size}
use Rattle.node.specs.Store.{nodes_in}
use Rattle.extension.specs.EndOfIndexEntry.{offset_in}
use Rattle.access.specs.Lookup.{highest_stage}
use Rattle.access.specs.Sorted.{StrictlySorted}
use Rattle.access.specs.Finds.{Has}
use Rattle.access.specs.Steps.{lookup_steps}
use Rattle.grammar.specs.Tree.{Tree}
use Rattle.grammar.specs.File.{Index, Tells, File, version_of, count_of, space, GoodHeader}
use Rattle.file.specs.Read as reading
use Rattle.write.specs.File as writing
use Rattle.write.specs.declared.Options.{Options}
use Rattle.claims_entries.specs.Rendering.{paths_bytes}
use Rattle.claims_entries.specs.Said.{StopsAt, RoomFor}
use Rattle.claims_tree.specs.Rendering.{tree_bytes}
use Rattle.claims.specs.Premises.{Slices, GoodTrailer}
use Rattle.claims.specs.Said.{holding, SaysFile}
use Rattle.claims.specs.Claims.{TreeFits, Renders, IsRead}
use Rattle.claims_write.specs.Meaning.{kept_of, meanings_of, WritableTable, SameEntry}
use Rattle.claims_write.specs.ProperTable.{ProperTable}
use Rattle.claims_write.specs.Sizes.{tree_asked, eoie_asked, extensions_place, file_size}
use Rattle.claims_write.specs.Answers.{PathsInside, FirstOutside, ProperIfAsked, OverTheLimits, MayBeWritten, Version, IsDone}
use Rattle.claims_write.specs.Asked.{AsAsked, MakesSparse, Means}
use Rattle.claims_write.specs.SameTree.{SameTree}
use Rattle.access.specs.declared.Error.{Error as LookupError}
use Rattle.access.specs.declared.Found.{Found}
use Rattle.access.specs.declared.Found.TheVariants.{Absent, At}
use Rattle.file.specs.Made.{read_with_all}
use Rattle.file.specs.declared.Error.TheVariants.{NotSpelled}
use Rattle.write.specs.Made.{written_with}
use Rattle.write.specs.declared.Error.TheVariants.{NotProper, PathOutside, ShortOutput, TooLarge}

-- ---- what is tried

-- of a file, records, paths and nodes: the answer, and what the three stores hold
abbrev pub Reader : Type 0
Reader = List ℕ → List ℕ → List ℕ → List ℕ → reading.Outcome

-- of records, paths, nodes, names, what is asked for and the output: the answer, and what the output holds
abbrev pub Writer : Type 0
Writer = List ℕ → Paths → List ℕ → List ℕ → Options → List ℕ → writing.Outcome

-- of records, paths, a path and a stage
abbrev pub Lookup : Type 0
Lookup = List ℕ → Paths → List ℕ → ℕ → Result Found LookupError

-- a digest that is fed piece by piece, with states of any kind
pub record Digester : Type 1 where
  pub State : Type 0
  pub new : State
  pub feed : State → List ℕ → State
  pub finish : State → List ℕ

-- something to write, what the writer answered for it, and the stores lent to the reader
pub record Case : Type 0 where
  pub records : List ℕ
  pub paths : Paths
  pub nodes : List ℕ
  pub names : List ℕ
  pub options : Options
  pub out : List ℕ
  pub version : ℕ
  pub size : ℕ
  pub records' : List ℕ
  pub paths' : List ℕ
  pub nodes' : List ℕ

abbrev pub written : Writer → Case → writing.Outcome
written write c = write c.records c.paths c.nodes c.names c.options c.out

-- the file: as many of the output's first bytes as the writer says
abbrev pub file_in : Writer → Case → List ℕ
file_in write c = take c.size (written write c).out

abbrev pub read_again : Writer → Reader → Case → reading.Outcome
read_again write read c = read (file_in write c) c.records' c.paths' c.nodes'

-- ---- DEMAND 2: lookup in a strictly sorted table, at stages 0 to 3

pub record Finds (lookup : Lookup) : Type 0 where
  -- absent exactly when no record has that path and stage
  pub absent_exactly : (rs : List ℕ) (ps : Paths) → StrictlySorted rs ps → (key : List ℕ) (stage : ℕ) → stage ≤ highest_stage → ((k : ℕ) × (lookup rs ps key stage ≡ Ok (Absent k))) ↔ ((i : ℕ) → ¬ Has rs ps key stage i)
  -- found i exactly when record i has them
  pub found_exactly : (rs : List ℕ) (ps : Paths) → StrictlySorted rs ps → (key : List ℕ) (stage : ℕ) → stage ≤ highest_stage → (i : ℕ) → ((k : ℕ) × (lookup rs ps key stage ≡ Ok (At i k))) ↔ Has rs ps key stage i

module _ (kind : Kind) where
  -- ---- DEMAND 3

  -- a file with a good trailer, and room for the entries before the first not spelled
  pub record Readable (s rs ps ns : List ℕ) : Type 0 where
    pub slices : Slices s ps ns
    pub trailer : GoodTrailer kind s
    pub room : RoomFor kind.id (version_of s) (space kind.id s) (count_of s) rs ps

  pub record Demand3 (read : Reader) : Type 0 where
    -- the reader accepts the file exactly if the grammar spells it
    pub accepted_exactly_if_spelled : (s rs ps ns : List ℕ) → Readable s rs ps ns → TreeFits kind s ns → IsRead (read s rs ps ns).answer ↔ ((m : Index) × File kind.id s m)
    -- the grammar spells at most one meaning
    pub one_meaning : (s : List ℕ) (m o : Index) → File kind.id s m → File kind.id s o → m ≡ o
    -- answer and all three stores are exactly the rendering of that meaning
    pub stores_are_the_meaning : (s rs ps ns : List ℕ) → Readable s rs ps ns → TreeFits kind s ns → (m : Index) → File kind.id s m → Renders kind s rs ps ns m (read s rs ps ns)
    -- with a good header, refusal 5 names k exactly when the first k entries can be spelled and the next, within the count, cannot
    pub refusal_5_exactly : (s rs ps ns : List ℕ) → Readable s rs ps ns → GoodHeader kind.id s → (k : ℕ) → ((read s rs ps ns).answer ≡ Err (NotSpelled k)) ↔ StopsAt kind.id (version_of s) (space kind.id s) (count_of s) k
    -- and then the stores hold the entries before it, and nothing else is touched
    pub refusal_5_stores : (s rs ps ns : List ℕ) → Readable s rs ps ns → GoodHeader kind.id s → (k : ℕ) (x : StopsAt kind.id (version_of s) (space kind.id s) (count_of s) k)
        → read s rs ps ns ≡ holding kind s rs ps ns x.1.0 (Err (NotSpelled k))

  -- ---- THE WHOLE TABLE: of any file and stores, good or not, what the reader answers and leaves is what one rule of `SaysFile` says

  abbrev pub AnswersByTheTable : Reader → Type 0
  AnswersByTheTable read = (s rs ps ns : List ℕ) → Slices s ps ns → SaysFile kind s rs ps ns (read s rs ps ns)

  -- ---- DEMAND 2: what the writer answers, of all tables, all that may be asked for and all outputs

  pub record Answers (write : Writer) : Type 0 where
    -- it is done exactly if the paths that are written lie in their store, the node table is proper where TREE is to be written, the limits hold, and there is room
    pub done_exactly : (rs : List ℕ) (ps : Paths) (ns nm : List ℕ) (o : Options) (out : List ℕ)
        → IsDone (write rs ps ns nm o out).answer ↔ (MayBeWritten kind rs ps ns nm o × (file_size kind.id rs ps ns nm o ≤ length out))
    -- and then it answers version and size
    pub done_answers : (rs : List ℕ) (ps : Paths) (ns nm : List ℕ) (o : Options) (out : List ℕ) (version size : ℕ) → (write rs ps ns nm o out).answer ≡ Ok (written_with version size)
        → Version rs version × (size ≡ file_size kind.id rs ps ns nm o)
    -- refusal 12 names i exactly when record i is the first that is written and has its path outside
    pub refusal_12_exactly : (rs : List ℕ) (ps : Paths) (ns nm : List ℕ) (o : Options) (out : List ℕ) (i : ℕ) → ((write rs ps ns nm o out).answer ≡ Err (PathOutside i)) ↔ FirstOutside rs ps i
    -- then 16, where TREE is to be written
    pub refusal_16_exactly : (rs : List ℕ) (ps : Paths) (ns nm : List ℕ) (o : Options) (out : List ℕ)
        → ((write rs ps ns nm o out).answer ≡ Err NotProper) ↔ (PathsInside rs ps × (tree_asked o ≡ true) × ¬ ProperTable depth_limit ns nm)
    -- then 15
    pub refusal_15_exactly : (rs : List ℕ) (ps : Paths) (ns nm : List ℕ) (o : Options) (out : List ℕ)
        → ((write rs ps ns nm o out).answer ≡ Err TooLarge) ↔ (PathsInside rs ps × ProperIfAsked ns nm o × OverTheLimits kind rs ps ns nm o)
    -- then 14, with the size that is needed
    pub refusal_14_exactly : (rs : List ℕ) (ps : Paths) (ns nm : List ℕ) (o : Options) (out : List ℕ) (size : ℕ)
        → ((write rs ps ns nm o out).answer ≡ Err (ShortOutput size)) ↔ (MayBeWritten kind rs ps ns nm o × (size ≡ file_size kind.id rs ps ns nm o) × (length out < size))

  -- ---- DEMAND 2: what the writer leaves

  pub record WritesAsAsked (write : Writer) : Type 0 where
    -- the hash, TREE, `sdir` and EOIE stand exactly as asked for, and the entries are those of the records not marked REMOVE
    pub as_asked : (rs : List ℕ) (ps : Paths) (ns nm : List ℕ) (o : Options) (out : List ℕ) (version size : ℕ) → (write rs ps ns nm o out).answer ≡ Ok (written_with version size) → length ns < 2 ^ 64
        → AsAsked kind rs ps o version (take size (write rs ps ns nm o out).out)
    -- places beyond those used stay as they were
    pub rest_as_it_was : (rs : List ℕ) (ps : Paths) (ns nm : List ℕ) (o : Options) (out : List ℕ) (version size : ℕ) → (write rs ps ns nm o out).answer ≡ Ok (written_with version size)
        → (drop size (write rs ps ns nm o out).out ≡ drop size out) × (length (write rs ps ns nm o out).out ≡ length out)
    -- and so do all where it is not done
    pub refused_as_it_was : (rs : List ℕ) (ps : Paths) (ns nm : List ℕ) (o : Options) (out : List ℕ) → ¬ IsDone (write rs ps ns nm o out).answer → (write rs ps ns nm o out).out ≡ out

  -- ---- DEMAND 2: read-back

  -- a node store whose names stand in the file holds the tree of the node table: each node once, with its parent, count, id and name, siblings by name
  abbrev pub HoldsTheTree : Writer → Case → List ℕ → Type 0
  HoldsTheTree write c store = (at : ℕ → ℕ) × SameTree kind.id c.nodes c.names (file_in write c) store at

  -- the stores lent to the reader are large enough for the records and path bytes that are written, and for the nodes where TREE is
  pub record LargeEnough (c : Case) : Type 0 where
    pub records : length (kept_of c.records) * record_size ≤ length c.records'
    pub paths : length (paths_bytes (meanings_of kind.id c.records c.paths)) ≤ length c.paths'
    pub nodes : tree_asked c.options ≡ true → nodes_in c.nodes ≤ nodes_in c.nodes'

  -- the writer says that it is done, the table loses nothing by being written, and the stores are large enough
  pub record Done? (write : Writer) (c : Case) : Type 0 where
    pub done : (written write c).answer ≡ Ok (written_with c.version c.size)
    pub few : length c.nodes < 2 ^ 64
    pub table : WritableTable c.records c.paths
    pub slices : Slices (file_in write c) c.paths' c.nodes'
    pub room : LargeEnough c

  pub record ReadsBack (write : Writer) (read : Reader) : Type 0 where
    -- the reader accepts what was written and answers its version, sparse as it was made, a tree exactly if it was asked for, and as many records, path bytes and nodes as were written
    pub reads_back : (c : Case) → Done? write c
        → (sparse : Bool)
        × Tells (MakesSparse kind c.records c.paths c.options) sparse
        × ((read_again write read c).answer
        ≡ Ok (read_with_all c.version sparse (tree_asked c.options) (length (kept_of c.records)) (length (paths_bytes (meanings_of kind.id c.records c.paths))) (pick (tree_asked c.options) (nodes_in c.nodes) 0)))
    -- record j shows every kept field, the kept flags and the path of the j-th record not marked REMOVE
    pub written_reads_back : (c : Case) → Done? write c → (j i : ℕ) → get_elem? (kept_of c.records) j ≡ some i
        → SameEntry kind.id c.records c.paths i (read_again write read c).records (lying_in (read_again write read c).paths) j
    -- the written tree reads back
    pub tree_reads_back : (c : Case) → Done? write c → tree_asked c.options ≡ true → HoldsTheTree write c (read_again write read c).nodes
    -- what is written is spelled by the grammar, and means the tables
    pub written_is_spelled : (c : Case) → Done? write c
        → (m : Index) × File kind.id (file_in write c) m × Means kind c.records c.paths c.options c.version m
        × (tree_asked c.options ≡ true → (t : Tree) × (m.tree ≡ some t) × HoldsTheTree write c (tree_bytes t))
    -- EOIE that was written is found, with the offset where the extensions start
    pub eoie_is_found : (c : Case) → Done? write c → eoie_asked c.records c.options ≡ true
        → offset_in kind (file_in write c) ≡ Some (file_at (extensions_place kind.id c.records c.paths))

  -- ---- DEMAND 2, all of it

  pub record Demand2 (write : Writer) (read : Reader) (lookup : Lookup) : Type 0 where
    pub answers : Answers write
    pub writes : WritesAsAsked write
    pub reads_back : ReadsBack write read
    pub finds : Finds lookup

-- ---- THE HALVING RULE: the number that lookup answers is the rule's own count, in any table

pub record CountsTheSteps (lookup : Lookup) : Type 0 where
  pub found : (rs : List ℕ) (ps : Paths) (key : List ℕ) (stage i k : ℕ) → lookup rs ps key stage ≡ Ok (At i k) → k ≡ lookup_steps rs ps key stage
  pub absent : (rs : List ℕ) (ps : Paths) (key : List ℕ) (stage k : ℕ) → lookup rs ps key stage ≡ Ok (Absent k) → k ≡ lookup_steps rs ps key stage

-- ---- SHA-1's DEFINITION AFTER EACH PIECE

module _ (d : Digester) where
  abbrev pub fed_all : d.State → List (List ℕ) → d.State
  fed_all x [] = x
  fed_all x (p ∷ ps) = fed_all (d.feed x p) ps

  -- finished after any number of any pieces, it answers SHA-1 of these pieces
  abbrev pub DigestsEachPrefix : Type 0
  DigestsEachPrefix = (pieces : List (List ℕ)) (n : ℕ) → d.finish (fed_all d.new (take n pieces)) ≡ sha1 (flatten (take n pieces))
