-- WHAT EACH ANSWER SAYS of a whole file, and what the three stores hold then, in the grammar's terms (01, "When the desk says no"). One rule an answer. Of the reader only its answers
-- and the outcome are named here. Assumes nothing.
use Rattle.std.specs.Prelude.{ℕ, ◌+◌, ◌≤◌, ◌<◌, ◌≡◌, Bool, true, false, List, ◌++◌, length, take, Err, Ok, Result}
use Rattle.laws.specs.Read.{Begins}
use Rattle.format.specs.Format.{depth_limit}
use Rattle.kind.specs.Kind.{Kind}
use Rattle.file.specs.Read.{Outcome, outcome}
use Rattle.grammar.specs.Number.{big_endian}
use Rattle.grammar.specs.Entry.{Meaning, start, Entry, Entries}
use Rattle.grammar.specs.Extension.{Ext, TREE, Extensions, NoneSigned, LastSigned}
use Rattle.grammar.specs.Tree.{Tree, depth, nodes, Node}
use Rattle.grammar.specs.File.{DIRC, header_length, Supported, Sparse, Tells, version_of, count_of, space, GoodHeader}
use Rattle.grammar.specs.Fault.{stray, refused, Faulty}
use Rattle.claims_entries.specs.Rendering.{records_bytes, paths_bytes}
use Rattle.claims_entries.specs.Said.{filled, after, Fits, Lacks}
use Rattle.claims_tree.specs.Rendering.{tree_bytes}
use Rattle.claims_tree.specs.Said.{zeroed, lent, GoesTooDeep, UsesUp, SpellsTree}
use Rattle.claims.specs.Premises.{GoodTrailer}
use Rattle.file.specs.declared.Error.TheVariants as answer
use Rattle.file.specs.Made.{read_with_all}
use Rattle.file.specs.declared.Error.{Error as FileError}
use Rattle.file.specs.declared.Reading.{Reading}

module _ (kind : Kind) where
  -- header and trailer are as they must be: none of 1 to 4
  pub record Opened (s : List ℕ) : Type 0 where
    pub header : GoodHeader kind.id s
    pub trailer : GoodTrailer kind s

  module _ (s rs ps ns : List ℕ) where
    -- the entries before a fault, and no more; the node store as it was
    abbrev pub holding : List Meaning → Result Reading FileError → Outcome
    holding ms a = outcome a (filled rs (records_bytes kind.id 0 ms)) (filled ps (paths_bytes ms)) ns

    -- all entries, and a node store
    abbrev pub holding_all : List Meaning → List ℕ → Result Reading FileError → Outcome
    holding_all ms ms-nodes a = outcome a (filled rs (records_bytes kind.id 0 ms)) (filled ps (paths_bytes ms)) ms-nodes

    abbrev pub read_as : Bool → Bool → List Meaning → ℕ → Result Reading FileError
    read_as sparse tree ms k = Ok (read_with_all (version_of s) sparse tree (count_of s) (length (paths_bytes ms)) k)

    -- the space is so many entries and what is behind them, and there is room
    pub record AllEntries (b c : List ℕ) (ms : List Meaning) : Type 0 where
      pub joins : space kind.id s ≡ b ++ c
      pub spelled : Entries kind.id (version_of s) start (count_of s) b ms
      pub fits : Fits rs ps (count_of s) ms

    -- and what is behind them is extensions, the last TREE among them
    pub record WithTree (b c : List ℕ) (ms : List Meaning) (es : List Ext) (sparse : Bool) (place : ℕ) (body : List ℕ) : Type 0 where
      pub entries : AllEntries b c ms
      pub extensions : Extensions c es
      pub mark : Tells (Sparse ms es) sparse
      pub last : LastSigned TREE (header_length + length b) es place body

    pub data SaysFile : Outcome → Type 0 where
      -- 1 to 4: nothing is touched
      says_short : length s < header_length + kind.id → SaysFile (outcome (Err answer.ShortFile) rs ps ns)
      says_no_signature : header_length + kind.id ≤ length s → (take 4 s ≡ DIRC → ⊥) → SaysFile (outcome (Err answer.NoSignature) rs ps ns)
      says_other_version : header_length + kind.id ≤ length s → take 4 s ≡ DIRC → (Supported (version_of s) → ⊥) → SaysFile (outcome (Err (answer.OtherVersion (version_of s))) rs ps ns)
      says_bad_trailer : GoodHeader kind.id s → (GoodTrailer kind s → ⊥) → SaysFile (outcome (Err answer.BadTrailer) rs ps ns)
      -- 5: the first k entries are spelled, and what is left begins with none
      says_not_spelled : Opened s → {k : ℕ} {b : List ℕ} {ms : List Meaning} (rest : List ℕ) → k < count_of s → space kind.id s ≡ b ++ rest → Entries kind.id (version_of s) start k b ms → Fits rs ps k ms
          → ((m : Meaning) (q : List ℕ) → ¬ Begins (Entry kind.id (version_of s) (after ms)) rest m q) → SaysFile (holding ms (Err (answer.NotSpelled k)))
      -- 6: the first k and one more are spelled, and there is no room for that one
      says_no_entry_room : Opened s → {k : ℕ} {b : List ℕ} {ms : List Meaning} {m : Meaning} (rest q : List ℕ) → k < count_of s → space kind.id s ≡ b ++ rest → Entries kind.id (version_of s) start k b ms → Fits rs ps k ms
          → Begins (Entry kind.id (version_of s) (after ms)) rest m q → Lacks rs ps k ms m → SaysFile (holding ms (Err (answer.NoEntryRoom k)))
      -- 7: behind the entries stand bytes that begin with no extension
      says_not_filled : Opened s → {b c : List ℕ} {ms : List Meaning} {place : ℕ} → AllEntries b c ms → Faulty (header_length + length b) c (stray place) → SaysFile (holding ms (Err (answer.NotFilled place)))
      -- 8: behind the entries stands an extension that may not
      says_mandatory : Opened s → {b c : List ℕ} {ms : List Meaning} {signature : List ℕ} → AllEntries b c ms → Faulty (header_length + length b) c (refused signature)
          → SaysFile (holding ms (Err (answer.Mandatory (big_endian signature))))
      -- read, and there is no TREE: the node store is left alone
      says_no_TREE : Opened s → {b c : List ℕ} {ms : List Meaning} {es : List Ext} {sparse : Bool} → AllEntries b c ms → Extensions c es → Tells (Sparse ms es) sparse → NoneSigned TREE es
          → SaysFile (holding ms (read_as sparse false ms 0))
      -- read, and the last TREE spells a tree
      says_tree : Opened s → {b c : List ℕ} {ms : List Meaning} {es : List Ext} {sparse : Bool} {place : ℕ} {body : List ℕ} {t : Tree} → WithTree b c ms es sparse place body
          → Node kind.id place body t → depth t ≤ depth_limit → nodes t ≤ lent ns → SaysFile (holding_all ms (filled ns (tree_bytes t)) (read_as sparse true ms (nodes t)))
      -- read, and the last TREE spells none: the node store is zeroed
      says_malformed : Opened s → {b c : List ℕ} {ms : List Meaning} {es : List Ext} {sparse : Bool} {place : ℕ} {body : List ℕ} → WithTree b c ms es sparse place body
          → ¬ SpellsTree kind.id place body → ¬ GoesTooDeep kind.id body depth_limit (lent ns) → ¬ UsesUp kind.id body (lent ns) → SaysFile (holding_all ms (zeroed ns) (read_as sparse false ms 0))
      -- 9
      says_too_deep : Opened s → {b c : List ℕ} {ms : List Meaning} {es : List Ext} {sparse : Bool} {place : ℕ} {body : List ℕ} → WithTree b c ms es sparse place body
          → GoesTooDeep kind.id body depth_limit (lent ns) → SaysFile (holding_all ms (zeroed ns) (Err answer.TooDeep))
      -- 10
      says_no_node_room : Opened s → {b c : List ℕ} {ms : List Meaning} {es : List Ext} {sparse : Bool} {place : ℕ} {body : List ℕ} → WithTree b c ms es sparse place body
          → UsesUp kind.id body (lent ns) → ¬ GoesTooDeep kind.id body depth_limit (lent ns) → SaysFile (holding_all ms (zeroed ns) (Err answer.NoNodeRoom))
