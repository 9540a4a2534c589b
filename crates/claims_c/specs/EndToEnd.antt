-- END TO END FOR C: what a C program gets from the exported functions, sentence by sentence. A call enters by what Rattle itself reads out of the function's contract (`ReadCall` and the
-- like, of `claims_settled`), so each sentence is about the code. A meaning is the grammar's: `File id_size s m` says that the bytes s spell the index m. `values` are the eight numbers,
-- and `value values k` is `values[k]`; stores with a dash are as the call left them. `Terms` has the other words. Assumes that a file that is read is bytes and that no slice has 2^64 bytes or
-- more, the premise `Slices`; each other premise stands, with a name, at the sentence that needs it.
use Rattle.std.specs.Prelude.{ℕ, ◌+◌, ◌^◌, ◌≤◌, ◌<◌, ◌≡◌, refl, true, false, List, [], ◌∷◌, ◌↔◌, ◌⊎◌, length, take, replicate, Result}
use Rattle.std.proofs.Common.{sym, ap, ◌∙◌, subst, arith}
use Rattle.std.proofs.Math.Option.{some}
use Rattle.std.proofs.Math.ListN.{get_elem?}
use Rattle.laws.specs.Pick.{pick}
use Rattle.refusal.specs.Refusal.{short_file, no_signature, other_version, bad_trailer, not_spelled, no_entry_room, not_filled, mandatory, too_deep, no_node_room, no_stage, path_outside, not_after, short_output, too_large, not_proper}
use Rattle.refusal.specs.Bit.{bit}
use Rattle.format.specs.Format.{depth_limit, id_size}
use Rattle.kind.specs.Sha1.{sha1_kind}
use Rattle.entry.specs.Flags.{keep_flags, bit as is_set}
use Rattle.entry.specs.Paths.{Paths, lying_in}
use Rattle.entry.specs.Record.{records_in}
use Rattle.node.specs.Store.{nodes_in}
use Rattle.access.specs.Lookup.{highest_stage}
use Rattle.file.specs.Answer.{number_of, carried_of}
use Rattle.file.specs.Read.{outcome}
use Rattle.write.specs.declared.Options.{Options}
use Rattle.write_entries.specs.Entries.{is_gone}
use Rattle.grammar.specs.Number.{big_endian}
use Rattle.grammar.specs.Entry.{Meaning}
use Rattle.grammar.specs.Tree.{Tree}
use Rattle.grammar.specs.File.{Index, DIRC, header_length, Supported, File, version_of, count_of, space, GoodHeader}
use Rattle.grammar.specs.Fault.{stray, refused, Faulty}
use Rattle.claims_entries.specs.Rendering.{paths_bytes}
use Rattle.claims_entries.specs.Shown.{EachShown}
use Rattle.claims_entries.specs.Said.{StopsAt, RoomFor, LacksRoomAt}
use Rattle.claims_tree.specs.Rendering.{count_word}
use Rattle.claims_tree.specs.Said.{lent, GoesTooDeep, UsesUp}
use Rattle.claims.specs.Premises.{Slices, GoodTrailer}
use Rattle.claims.specs.Said.{Opened, SaysFile}
use Rattle.claims.specs.Reading as reader
use Rattle.claims.specs.Claims as claims
use Rattle.claims.specs.Claims.{TreeFits, has_tree, nodes_of, Behind, BehindIsTREE}
use Rattle.claims_write.specs.Meaning.{kept_of, PathsEnd, WritableTable, NoneRemoved}
use Rattle.claims_write.specs.Sizes.{tree_asked, file_size}
use Rattle.claims_write.specs.Lengths.{writes_tree_is}
use Rattle.claims_write.specs.Answers as answers
use Rattle.claims_write.specs.Answers.{PathsInside, FirstOutside, ProperIfAsked, OverTheLimits, MayBeWritten, Version}
use Rattle.claims_write.specs.ProperTable.{ProperTable}
use Rattle.claims_write.specs.SameTree.{SameTree}
use Rattle.claims_write.specs.Kept.{kept_here, kept_length}
use Rattle.claims_write.specs.Claims.{Roomy, writable_ends}
use Rattle.sparrowpivot.specs.Told.{eight}
use Rattle.sparrowpivot.specs.Writing.{options_from}
use Rattle.claims_settled.specs.Exports.{ReadCall, WriteCall, LookupCall, CheckOrderCall, RecordCall, record_tells, RecordStatCall, record_stat_tells, RecordIdCall, record_id_tells, NodeCall, node_tells, NodeIdCall, node_id_tells}
use Rattle.claims_c.specs.Terms.{value, records_told, nodes_told, Stands, stage_of, EntryIs, InOrder, FirstNotAfter, EntryHas, Row, rows, RowIs, parent_word, id_told}
use Rattle.claims_c.specs.Numbers.{reading, tree_told, number_told, values_told, left, code_small, zero_is_read, read_is_zero, by_number, by_number_and_value, one_value_told, nothing_told}
use Rattle.claims_c.specs.Writing as writing
use Rattle.claims_c.specs.Rows.{name_stands, node_told, node_id_told, no_node_told}
use Rattle.claims_c.specs.Tables.{path_stands, record_told, stat_told, no_record_told, no_stat_told, no_id_told, tables_show, records_are, nodes_are, row_told, rows_told}
use Rattle.claims_c.specs.Searching as searching
use Rattle.claims_c.specs.ReadBack.{read_back_told, tree_back, record_back, stat_back, id_back, count_back, subtrees_back, parent_back}
use Rattle.file.specs.declared.Error.{Error as FileError}
use Rattle.file.specs.declared.Reading.{Reading}

-- ---- 1. WHAT `sparrowpivot_read` RETURNS, AND WHEN

module _ {s rs ps ns values rs' ps' ns' : List ℕ} {code : ℕ} (call : ReadCall s rs ps ns code values rs' ps' ns') (slices : Slices s ps ns) where
  -- given a good trailer, room for the entries and a tree that fits, 0 exactly if the grammar spells the file
  pub read_returns_0_exactly_if_spelled : GoodTrailer sha1_kind s → RoomFor id_size (version_of s) (space id_size s) (count_of s) rs ps → TreeFits sha1_kind s ns
      → (code ≡ 0) ↔ ((m : Index) × File id_size s m)
  read_returns_0_exactly_if_spelled good room fits =
      let both = claims.accepted_exactly_if_spelled sha1_kind s rs ps ns slices good room fits in
      ((λ e. both.0 (zero_is_read call e)), (λ x. read_is_zero call (both.1 x)))

  -- given a good header, a good trailer and room, 5 with k exactly when the first k entries can be spelled and the next, still within the header's count, cannot
  pub read_returns_5_exactly : GoodHeader id_size s → GoodTrailer sha1_kind s → RoomFor id_size (version_of s) (space id_size s) (count_of s) rs ps → (k : ℕ)
      → ((code ≡ not_spelled) × (value values 0 ≡ k)) ↔ StopsAt id_size (version_of s) (space id_size s) (count_of s) k
  read_returns_5_exactly header trailer room k =
      by_number_and_value call (claims.refusal_5_exactly sha1_kind s rs ps ns slices (record { header = header; trailer = trailer }) room k) (λ e. omega arith) refl refl refl

  -- 1: the file is shorter than header and trailer
  pub read_returns_1_exactly : (code ≡ short_file) ↔ (length s < header_length + id_size)
  read_returns_1_exactly = by_number call (claims.refusal_1_exactly sha1_kind s rs ps ns slices) (λ e. omega arith) refl (λ x. refl)

  -- 2: it is not, and does not begin with "DIRC"
  pub read_returns_2_exactly : (code ≡ no_signature) ↔ ((header_length + id_size ≤ length s) × ¬ (take 4 s ≡ DIRC))
  read_returns_2_exactly = by_number call (claims.refusal_2_exactly sha1_kind s rs ps ns slices) (λ e. omega arith) refl (λ x. refl)

  -- 3 with the version: it does, and the version is none of 2, 3, 4
  pub read_returns_3_exactly : (v : ℕ)
      → ((code ≡ other_version) × (value values 0 ≡ v))
      ↔ ((header_length + id_size ≤ length s) × (take 4 s ≡ DIRC) × (¬ Supported (version_of s)) × (v ≡ version_of s))
  read_returns_3_exactly v = by_number_and_value call (claims.refusal_3_exactly sha1_kind s rs ps ns slices v) (λ e. omega arith) refl refl refl

  -- 4: the header is good, and the trailer is neither zeros nor the SHA-1 of the rest
  pub read_returns_4_exactly : (code ≡ bad_trailer) ↔ (GoodHeader id_size s × ¬ GoodTrailer sha1_kind s)
  read_returns_4_exactly = by_number call (claims.refusal_4_exactly sha1_kind s rs ps ns slices) (λ e. omega arith) refl (λ x. refl)

  -- 6 with k: the first k entries have room, and one more is spelled, which has none
  pub read_returns_6_exactly : (k : ℕ)
      → ((code ≡ no_entry_room) × (value values 0 ≡ k)) ↔ (Opened sha1_kind s × LacksRoomAt id_size (version_of s) (space id_size s) (count_of s) rs ps k)
  read_returns_6_exactly k = by_number_and_value call (claims.refusal_6_exactly sha1_kind s rs ps ns slices k) (λ e. omega arith) refl refl refl

  -- 7 with a place: all entries are spelled and have room, and from that place on stand bytes that begin with no extension
  pub read_returns_7_exactly : (place : ℕ)
      → ((code ≡ not_filled) × (value values 0 ≡ place)) ↔ (Opened sha1_kind s × Behind sha1_kind s rs ps ns slices (λ b c ms. Faulty (header_length + length b) c (stray place)))
  read_returns_7_exactly place = by_number_and_value call (claims.refusal_7_exactly sha1_kind s rs ps ns slices place) (λ e. omega arith) refl refl refl

  -- 8 with a signature, big-endian: all entries are spelled and have room, and behind them stands an extension that may not
  pub read_returns_8_exactly : (v : ℕ)
      → ((code ≡ mandatory) × (value values 0 ≡ v))
      ↔ (Opened sha1_kind s × Behind sha1_kind s rs ps ns slices (λ b c ms. (signature : List ℕ) × Faulty (header_length + length b) c (refused signature) × (v ≡ big_endian signature)))
  read_returns_8_exactly v = by_number_and_value call (claims.refusal_8_exactly sha1_kind s rs ps ns slices v) (λ e. omega arith) refl refl refl

  -- 9: extensions stand behind the entries, and in the last TREE a node should begin one level below the limit, after no more heads than nodes are lent
  pub read_returns_9_exactly : (code ≡ too_deep) ↔ (Opened sha1_kind s × BehindIsTREE sha1_kind s rs ps ns slices (λ place body. GoesTooDeep id_size body depth_limit (lent ns)))
  read_returns_9_exactly = by_number call (claims.refusal_9_exactly sha1_kind s rs ps ns slices) (λ e. omega arith) refl (λ x. refl)

  -- 10: not so, but one should begin after as many heads as nodes are lent
  pub read_returns_10_exactly : (code ≡ no_node_room)
      ↔ (Opened sha1_kind s × BehindIsTREE sha1_kind s rs ps ns slices (λ place body. UsesUp id_size body (lent ns) × ¬ GoesTooDeep id_size body depth_limit (lent ns)))
  read_returns_10_exactly = by_number call (claims.refusal_10_exactly sha1_kind s rs ps ns slices) (λ e. omega arith) refl (λ x. refl)

  -- no other number is ever returned
  pub read_returns_0_to_10 : code ≤ no_node_room
  read_returns_0_to_10 = code_small call

  -- a refusal tells one value; the other seven are 0
  pub read_refusal_tells_one_value : (code ≡ 0 → ⊥) → values ≡ value values 0 ∷ 0 ∷ 0 ∷ 0 ∷ 0 ∷ 0 ∷ 0 ∷ 0 ∷ []
  read_refusal_tells_one_value = one_value_told call

  -- and that one is 0 too but for 3, 5, 6, 7 and 8
  pub read_refusal_that_names_nothing_tells_0 : (code ≡ 0 → ⊥) → (code ≡ other_version → ⊥) → (code ≡ not_spelled → ⊥) → (code ≡ no_entry_room → ⊥)
      → (code ≡ not_filled → ⊥) → (code ≡ mandatory → ⊥) → value values 0 ≡ 0
  read_refusal_that_names_nothing_tells_0 = nothing_told call

  -- and whatever is returned, numbers and all three stores are those of one rule of 01's table, "When the desk says no", of which none is left out (`SaysFile` of claims)
  pub read_answers_by_the_table : (a : Result Reading FileError) × (code ≡ number_of a) × (values ≡ eight (carried_of a)) × SaysFile sha1_kind s rs ps ns (outcome a rs' ps' ns')
  read_answers_by_the_table = ((reading s rs ps ns).answer, number_told call, values_told call, subst (SaysFile sha1_kind s rs ps ns) (left call) (reader.answer_says sha1_kind s rs ps ns slices))

  -- ---- 2. WHAT IT TELLS WHERE IT RETURNED 0: the file has exactly one meaning, and the values are that meaning's version, whether it is sparse, whether it has a tree, how many entries, how
  -- many bytes of paths and how many nodes it has
  pub read_tells_the_one_meaning : code ≡ 0 → (m : Index) × File id_size s m × ((o : Index) → File id_size s o → o ≡ m)
      × (values ≡ m.version ∷ bit m.sparse ∷ bit (has_tree m.tree) ∷ length m.entries ∷ length (paths_bytes m.entries) ∷ nodes_of m.tree ∷ 0 ∷ 0 ∷ [])
  read_tells_the_one_meaning e =
      let (m, x, y, one) = claims.accepted_is_the_one_meaning sha1_kind s rs ps ns slices (zero_is_read call e) in
      (m, x, one, values_told call ∙ ap (λ (a : Result Reading FileError). eight (carried_of a)) y.answer ∙ tree_told m.version (length m.entries) (length (paths_bytes m.entries)) m.sparse m.tree)

-- ---- AFTER A CALL THAT RETURNED 0, on a file that means m (by the sentence before there is such an m, and no other). A caller lends on the records and nodes that were told, of the stores as
-- they were left, and the path store.

module _ {s rs ps ns values rs' ps' ns' : List ℕ} {code : ℕ} (call : ReadCall s rs ps ns code values rs' ps' ns') (slices : Slices s ps ns)
    (returned : code ≡ 0) (m : Index) (means : File id_size s m) where
  -- what the proofs cite: the records that were told show the entries, and are no more than these
  shown : EachShown id_size (records_told values rs') (lying_in ps') m.entries
  shown = (tables_show call slices returned m means).entries

  many : records_in (records_told values rs') ≡ length m.entries
  many = records_are call slices returned m means

  -- ---- 3. THE RECORDS

  -- `sparrowpivot_record` tells entry i: mode, flags, stage, where its path starts and ends in the path store, that it lies there, that there is such a record, and the size of its file
  pub record_tells_the_entry : {i code₁ : ℕ} {values₁ : List ℕ} {e : Meaning} → EntryIs m.entries i e
      → RecordCall (records_told values rs') (lying_in ps') i code₁ values₁
      → (start : ℕ) × (end : ℕ) × (code₁ ≡ 0) × (values₁ ≡ e.stat.mode ∷ e.flags ∷ stage_of e ∷ start ∷ end ∷ 1 ∷ 1 ∷ e.stat.size ∷ [])
      × Stands ps' start end e.path
  record_tells_the_entry {i} {e = e} q c =
      let x = shown i e q in
      let (a, b) = record_told x (record_tells c) in
      (x.start, x.start + length e.path, a, b, path_stands x)

  -- `sparrowpivot_record_stat` tells the rest of its numbers
  pub record_stat_tells_the_entry : {i code₁ : ℕ} {values₁ : List ℕ} {e : Meaning} → EntryIs m.entries i e
      → RecordStatCall (records_told values rs') i code₁ values₁
      → (code₁ ≡ 0)
      × (values₁ ≡ e.stat.ctime ∷ e.stat.ctime_nanos ∷ e.stat.mtime ∷ e.stat.mtime_nanos ∷ e.stat.dev ∷ e.stat.ino ∷ e.stat.uid ∷ e.stat.gid ∷ [])
  record_stat_tells_the_entry {i} {e = e} q c = stat_told (shown i e q) (record_stat_tells c)

  -- `sparrowpivot_record_id` tells its id
  pub record_id_tells_the_entry : {i : ℕ} {out' : List ℕ} {e : Meaning} → EntryIs m.entries i e → RecordIdCall (records_told values rs') i out' → out' ≡ e.id
  record_id_tells_the_entry {i} {e = e} q c = record_id_tells c ∙ (shown i e q).id

  -- and behind the last entry there is no record: all is 0
  pub no_record_behind_the_entries : {i code₁ : ℕ} {values₁ : List ℕ} → length m.entries ≤ i → RecordCall (records_told values rs') (lying_in ps') i code₁ values₁
      → (code₁ ≡ 0) × (values₁ ≡ replicate 8 0)
  no_record_behind_the_entries {i} h c = no_record_told (records_told values rs') i (omega (arith, many)) (lying_in ps') (record_tells c)

  pub no_record_stat_behind_the_entries : {i code₁ : ℕ} {values₁ : List ℕ} → length m.entries ≤ i → RecordStatCall (records_told values rs') i code₁ values₁
      → (code₁ ≡ 0) × (values₁ ≡ replicate 8 0)
  no_record_stat_behind_the_entries {i} h c = no_stat_told (records_told values rs') i (omega (arith, many)) (record_stat_tells c)

  pub no_record_id_behind_the_entries : {i : ℕ} {out' : List ℕ} → length m.entries ≤ i → RecordIdCall (records_told values rs') i out'
      → out' ≡ replicate id_size 0
  no_record_id_behind_the_entries {i} h c = record_id_tells c ∙ no_id_told (records_told values rs') i (omega (arith, many))

  -- ---- 4. THE NODES, where the meaning has a tree: its rows are its nodes in file order, each with its parent's number (`rows`)

  module _ (t : Tree) (has : m.tree ≡ some t) where
    -- there are as many as `values[5]` tells
    pub nodes_told_are_the_rows : length (rows t) ≡ value values 5
    nodes_told_are_the_rows = rows_told call slices returned m means t has

    -- `sparrowpivot_node` tells row i: where its name starts and ends in the file, how many entries it covers (two's complement), how many subtrees it has, its parent's number (all ones for
    -- the root), and that there is such a node; and the file has its name there
    pub node_tells_the_row : {i code₁ : ℕ} {values₁ : List ℕ} {r : Row} → RowIs (rows t) i r → NodeCall (nodes_told values ns') i code₁ values₁
        → (code₁ ≡ 0) × (values₁ ≡ r.place ∷ (r.place + length r.name) ∷ count_word r.count ∷ r.subtrees ∷ parent_word r.parent ∷ 1 ∷ 0 ∷ 0 ∷ [])
        × Stands s r.place (r.place + length r.name) r.name
    node_tells_the_row {i} {r = r} q c =
        let (h, x, y) = row_told call slices returned m means t has i r q in
        let (a, b) = node_told h x y (node_tells c) in
        (a, b, name_stands h x y)

    -- `sparrowpivot_node_id` tells its id, zeros where it is invalid
    pub node_id_tells_the_row : {i : ℕ} {out' : List ℕ} {r : Row} → RowIs (rows t) i r → NodeIdCall (nodes_told values ns') i out'
        → out' ≡ id_told r.count r.id
    node_id_tells_the_row {i} {r = r} q c = let (h, x, y) = row_told call slices returned m means t has i r q in node_id_tells c ∙ node_id_told h x y

  -- and behind the last node, and where the meaning has no tree, there is no node: all is 0
  pub no_node_behind_the_tree : {i code₁ : ℕ} {values₁ : List ℕ} → nodes_of m.tree ≤ i → NodeCall (nodes_told values ns') i code₁ values₁
      → (code₁ ≡ 0) × (values₁ ≡ replicate 8 0)
  no_node_behind_the_tree {i} h c = no_node_told (nodes_told values ns') i (omega (arith, nodes_are call slices returned m means)) (node_tells c)

  -- ---- 5. ORDER AND LOOKUP, over these records

  -- `sparrowpivot_check_order` returns 0 exactly if the entries are strictly in order
  pub check_order_returns_0_exactly : {code₁ : ℕ} {values₁ : List ℕ} → CheckOrderCall (records_told values rs') (lying_in ps') code₁ values₁
      → (code₁ ≡ 0) ↔ InOrder m.entries
  check_order_returns_0_exactly c = searching.order_0_exactly c m.entries shown many

  -- 13 with i exactly when entry i is the first that does not come strictly after the one before
  pub check_order_returns_13_exactly : {code₁ : ℕ} {values₁ : List ℕ} → CheckOrderCall (records_told values rs') (lying_in ps') code₁ values₁ → (i : ℕ)
      → ((code₁ ≡ not_after) × (value values₁ 0 ≡ i)) ↔ FirstNotAfter m.entries i
  check_order_returns_13_exactly c = searching.order_13_exactly c m.entries shown many

  -- and nothing else: no path of what was read lies outside
  pub check_order_returns_0_or_13 : {code₁ : ℕ} {values₁ : List ℕ} → CheckOrderCall (records_told values rs') (lying_in ps') code₁ values₁
      → (code₁ ≡ 0) ⊎ (code₁ ≡ not_after)
  check_order_returns_0_or_13 c = searching.order_0_or_13 c m.entries shown many

  -- `sparrowpivot_lookup` returns 11 exactly if a stage above 3 is looked for
  pub lookup_returns_11_exactly : {key : List ℕ} {stage code₁ : ℕ} {values₁ : List ℕ} → LookupCall (records_told values rs') (lying_in ps') key stage code₁ values₁
      → (code₁ ≡ no_stage) ↔ (highest_stage < stage)
  lookup_returns_11_exactly c = searching.lookup_11_exactly c

  module _ (order : InOrder m.entries) {key : List ℕ} {stage code₁ : ℕ} {values₁ : List ℕ}
      (c : LookupCall (records_told values rs') (lying_in ps') key stage code₁ values₁) (small : stage ≤ highest_stage) where
    -- if the entries are in order, at stages 0 to 3 it returns 0
    pub lookup_returns_0 : code₁ ≡ 0
    lookup_returns_0 = searching.lookup_0 c m.entries shown many order small

    -- tells 1 and i exactly if entry i has that path and stage
    pub lookup_tells_i_exactly : (i : ℕ) → ((value values₁ 0 ≡ 1) × (value values₁ 1 ≡ i)) ↔ EntryHas m.entries key stage i
    lookup_tells_i_exactly = searching.lookup_finds_exactly c m.entries shown many order small

    -- and 0 exactly if no entry has them
    pub lookup_tells_none_exactly : (value values₁ 0 ≡ 0) ↔ ((i : ℕ) → ¬ EntryHas m.entries key stage i)
    lookup_tells_none_exactly = searching.lookup_finds_none_exactly c m.entries shown many order small

-- ---- 6. WHAT `sparrowpivot_write` RETURNS, AND WHEN; o is what the five low bits of the options ask for

pub options_are_the_low_bits : (n : ℕ)
    → options_from n ≡ record { tree = is_set 0 n; cache = is_set 1 n; eoie = is_set 2 n; sparse = is_set 3 n; unhashed = is_set 4 n }
options_are_the_low_bits n = refl

module _ {rs : List ℕ} {ps : Paths} {ns nm out values out' : List ℕ} {options code : ℕ} (call : WriteCall rs ps ns nm options out code values out') where
  abbrev o : Options
  o = options_from options

  -- 0 exactly if the paths of the records not marked REMOVE lie in their store, the node table is proper where TREE is to be written, the limits hold, and there is room
  pub write_returns_0_exactly : (code ≡ 0) ↔ (MayBeWritten sha1_kind rs ps ns nm o × (file_size id_size rs ps ns nm o ≤ length out))
  write_returns_0_exactly =
      let both = answers.done_exactly sha1_kind rs ps ns nm o out in
      ((λ e. both.0 (_, _, writing.zero_is_done call e)), (λ x. writing.done_is_zero call (both.1 x)))

  -- and then it tells version and size
  pub write_tells_version_and_size : code ≡ 0 → Version rs (value values 0) × (value values 1 ≡ file_size id_size rs ps ns nm o)
  write_tells_version_and_size e = answers.done_answers sha1_kind rs ps ns nm o out (value values 0) (value values 1) (writing.zero_is_done call e)

  -- 12 with i: record i is the first not marked REMOVE whose path lies outside
  pub write_returns_12_exactly : (i : ℕ) → ((code ≡ path_outside) × (value values 0 ≡ i)) ↔ FirstOutside rs ps i
  write_returns_12_exactly i = writing.by_number_and_value call (answers.refusal_12_exactly sha1_kind rs ps ns nm o out i) refl refl (λ w. refl)

  -- 16: not so, and TREE is to be written and the node table is not proper
  pub write_returns_16_exactly : (code ≡ not_proper) ↔ (PathsInside rs ps × (tree_asked o ≡ true) × ¬ ProperTable depth_limit ns nm)
  write_returns_16_exactly = writing.by_number call (answers.refusal_16_exactly sha1_kind rs ps ns nm o out) refl (λ v w. refl)

  -- 15: not so, and there are too many records or bytes
  pub write_returns_15_exactly : (code ≡ too_large) ↔ (PathsInside rs ps × ProperIfAsked ns nm o × OverTheLimits sha1_kind rs ps ns nm o)
  write_returns_15_exactly = writing.by_number call (answers.refusal_15_exactly sha1_kind rs ps ns nm o out) refl (λ v w. refl)

  -- 14 with the size needed: not so, and the output is shorter
  pub write_returns_14_exactly : (size : ℕ)
      → ((code ≡ short_output) × (value values 0 ≡ size)) ↔ (MayBeWritten sha1_kind rs ps ns nm o × (size ≡ file_size id_size rs ps ns nm o) × (length out < size))
  write_returns_14_exactly size = writing.by_number_and_value call (answers.refusal_14_exactly sha1_kind rs ps ns nm o out size) refl refl (λ w. refl)

  -- no other number is ever returned
  pub write_returns_no_other : writing.OneOfFive code
  write_returns_no_other = writing.code_is_one_of_five call

  -- two values are told, of a refusal one; the others are 0
  pub write_tells_two_values : values ≡ value values 0 ∷ value values 1 ∷ 0 ∷ 0 ∷ 0 ∷ 0 ∷ 0 ∷ 0 ∷ []
  write_tells_two_values = writing.two_values_told call

  pub write_refusal_tells_one_value : (code ≡ 0 → ⊥) → value values 1 ≡ 0
  write_refusal_tells_one_value = writing.second_is_zero call

  -- and a refusal leaves the output as it was
  pub write_refusal_leaves_the_output : (code ≡ 0 → ⊥) → out' ≡ out
  write_refusal_leaves_the_output n = sym (writing.output call) ∙ answers.refused_leaves_the_output sha1_kind rs ps ns nm o out (λ d. n (writing.done_is_zero call d))

-- ---- 7. WHAT `sparrowpivot_write` WROTE, `sparrowpivot_read` READS BACK. A call that wrote returned 0 and told version and size, `values[0]` and `values[1]`; a second call reads the first `size`
-- bytes of its output, with stores that are large enough (`Roomy`)

module _ {rs : List ℕ} {ps : Paths} {ns nm out values out' : List ℕ} {options code : ℕ} (wrote : WriteCall rs ps ns nm options out code values out') (returned : code ≡ 0)
    (few : length ns < 2 ^ 64) {records paths nodes values₁ rs' ps' ns' : List ℕ} {code₁ : ℕ}
    (call : ReadCall (take (value values 1) out') records paths nodes code₁ values₁ rs' ps' ns')
    (slices : Slices (take (value values 1) out') paths nodes) (roomy : Roomy sha1_kind rs ps ns (options_from options) records paths nodes) where
  -- it returns 0, with the version that was told, as many records as the table has that are not marked REMOVE, and a tree of as many nodes as the node table has exactly if one was given and
  -- asked for; of the paths is asked only that one whose length cannot be stated holds no NUL
  pub written_reads_back : PathsEnd rs ps
      → (code₁ ≡ 0) × (value values₁ 0 ≡ value values 0) × (value values₁ 3 ≡ length (kept_of rs)) × (value values₁ 2 ≡ bit (tree_asked (options_from options)))
      × (value values₁ 5 ≡ pick (tree_asked (options_from options)) (nodes_in ns) 0)
  written_reads_back ends =
      let (zero, told) = rw (writes_tree_is (options_from options)) at (read_back_told wrote returned few ends records paths nodes slices roomy call) in
      (zero, ap (λ (l : List ℕ). value l 0) told, ap (λ (l : List ℕ). value l 3) told, ap (λ (l : List ℕ). value l 2) told, ap (λ (l : List ℕ). value l 5) told)

  -- where a tree is given and asked for, the node store then holds the node table's tree: node j is node `at j` of the table, each once, with its name and id, siblings in byte order of name
  -- (`SameTree`); and what `sparrowpivot_node` tells of the two is the same count, the same subtree count and the same parent
  pub nodes_read_back : PathsEnd rs ps → is_set 0 options ≡ true → is_set 1 options ≡ true
      → (at : ℕ → ℕ) × SameTree id_size ns nm (take (value values 1) out') ns' at
      × ((j : ℕ) → j < nodes_in ns → (code₂ code₃ : ℕ) (values₂ values₃ : List ℕ) → NodeCall ns (at j) code₂ values₂ → NodeCall ns' j code₃ values₃
      → (value values₃ 2 ≡ value values₂ 2) × (value values₃ 3 ≡ value values₂ 3) × (0 < j → at (value values₃ 4) ≡ value values₂ 4))
  nodes_read_back ends given wanted =
      let (at, same) = tree_back wrote returned few ends records paths nodes slices roomy call given wanted in
      (at, same, (λ j h code₂ code₃ values₂ values₃ b c. (count_back same j h b c, subtrees_back same j h b c, parent_back same j h b c)))

  -- and of a table that loses nothing by being written (`WritableTable`), what is told of record j that was read is what is told of the j-th record that was written
  module _ (fit : WritableTable rs ps) (i j : ℕ) (kept : get_elem? (kept_of rs) j ≡ some i) where
    -- mode, stage and size; the flags that are kept; and the same path, which lies in both path stores
    pub record_reads_back : {code₂ code₃ : ℕ} {values₂ values₃ : List ℕ} → RecordCall rs ps i code₂ values₂
        → RecordCall (records_told values₁ rs') (lying_in ps') j code₃ values₃
        → (start end : ℕ) × (path : List ℕ)
        × (values₃ ≡ value values₂ 0 ∷ keep_flags (value values₂ 1) ∷ value values₂ 2 ∷ start ∷ end ∷ 1 ∷ 1 ∷ value values₂ 7 ∷ [])
        × Stands ps.store (value values₂ 3) (value values₂ 4) path × Stands ps' start end path
    record_reads_back b c = record_back wrote returned few (writable_ends rs ps fit) records paths nodes slices roomy fit i j kept call b c

    -- the eight other numbers
    pub record_stat_reads_back : {code₂ code₃ : ℕ} {values₂ values₃ : List ℕ} → RecordStatCall rs i code₂ values₂
        → RecordStatCall (records_told values₁ rs') j code₃ values₃
        → values₃ ≡ values₂
    record_stat_reads_back b c = stat_back wrote returned few (writable_ends rs ps fit) records paths nodes slices roomy fit i j kept call b c

    -- and the id
    pub record_id_reads_back : {out₂ out₃ : List ℕ} → RecordIdCall rs i out₂ → RecordIdCall (records_told values₁ rs') j out₃ → out₃ ≡ out₂
    record_id_reads_back b c = id_back wrote returned few (writable_ends rs ps fit) records paths nodes slices roomy fit i j kept call b c

-- with none marked REMOVE every record is written, record i as the i-th
pub unmarked_are_all_written : (rs : List ℕ) → NoneRemoved rs
    → (length (kept_of rs) ≡ records_in rs) × ((i : ℕ) → i < records_in rs → get_elem? (kept_of rs) i ≡ some i)
unmarked_are_all_written rs stays =
    let all : (i : ℕ) → 0 ≤ i → i < 0 + records_in rs → is_gone rs i ≡ false = λ i a b. stays i (omega arith) in (
      kept_length rs (records_in rs) 0 all,
      (λ i h. let e : 0 + i ≡ i = omega arith in subst (λ (k : ℕ). get_elem? (kept_of rs) i ≡ some k) e (kept_here rs (records_in rs) 0 all i h)),
    )
