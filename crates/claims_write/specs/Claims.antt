-- DEMAND 2: what the writer writes reads back. The reader, on the first `size` bytes of the output and with stores that are large enough, accepts, answers the version,
-- and its records show the table's, in order, without those marked REMOVE; and it stores the tree. Over all tables, both versions, with or without TREE, `sdir`, EOIE and hash. Assumes
-- that the file is bytes and that no slice has 2^64 bytes or more, premises with names.
use Rattle.std.specs.Prelude.{ℕ, ◌+◌, ◌*◌, ◌/◌, ◌%◌, ◌^◌, ◌≤◌, ◌<◌, ◌≡◌, refl, Bool, true, false, List, length, Ok}
use Rattle.std.proofs.Common.{sym, ◌∙◌, subst, arith}
use Rattle.std.proofs.Math.Path.{ap}
use Rattle.std.proofs.Math.Option.{Option, none, some}
use Rattle.std.proofs.Math.ListN.{get_elem?}
use Rattle.std.proofs.lemmas.List.{length-map}
use Rattle.laws.specs.Pick.{pick}
use Rattle.laws.specs.Tests.{Same, same, differs, same?}
use Rattle.format.specs.Format.{depth_limit}
use Rattle.kind.specs.Kind.{Kind}
use Rattle.entry.specs.Flags.{stage_raw, keep_flags, to_storage}
use Rattle.entry.specs.Paths.{Paths, lying_in}
use Rattle.entry.specs.Record.{records_in, flags_at}
use Rattle.node.specs.Store.{nodes_in}
use Rattle.grammar.specs.Tree.{Tree}
use Rattle.grammar.proofs.DecideTree.{read_tree}
use Rattle.grammar.specs.File.{Index}
use Rattle.file.specs.Read.{Outcome, read_file}
use Rattle.claims_entries.specs.Rendering.{paths_bytes}
use Rattle.claims_entries.specs.Said.{filled, Fits}
use Rattle.claims_entries.specs.Fields.{Shows}
use Rattle.claims.specs.Premises.{Slices}
use Rattle.claims_tree.specs.Rendering.{tree_bytes}
use Rattle.claims.specs.Claims.{has_tree, nodes_of, NodesAfter, the_tree, Renders}
use Rattle.write.specs.declared.Options.{Options}
use Rattle.write.specs.File.{writes_tree, write_all}
use Rattle.claims_write.specs.Meaning.{stat_of, written_flags, meaning_of, kept_of, meanings_of, PathsEnd, MarksFit, Writable, WritableTable, NoneRemoved, SameEntry}
use Rattle.claims_write.specs.Spelled.{tree_body, tree_place, index_of, written, done_says, file_in, file_is}
use Rattle.claims_write.specs.Reading.{TreeRoom, renders_w, shown_w}
use Rattle.claims_write.specs.Kept.{at_map, kept_is, kept_here}
use Rattle.claims_write.specs.Trees.{tree_written, tree_is_meant, written_tree_nodes, room_for_tree}
use Rattle.file.specs.Made.{read_with_all}
use Rattle.write.specs.Made.{written_with}

-- ---- the flags

written_are_kept : (flags : ℕ) → MarksFit flags → written_flags flags ≡ keep_flags flags
written_are_kept flags fit = by (same? (flags / 2 ^ 14 % 2) 1)
  where
    by : {t : Bool} → Same (flags / 2 ^ 14 % 2) 1 t → pick t (keep_flags flags) (to_storage flags) ≡ keep_flags flags
    by (same e) = refl
    by (differs d) = let z : flags / 2 ^ 14 % 2 ≡ 0 = omega arith in let q : flags / 2 ^ 29 % 4 ≡ 0 = fit z in omega arith

stage_kept : (flags : ℕ) → stage_raw (keep_flags flags) ≡ stage_raw flags
stage_kept flags = omega arith

-- the premise on paths is a part of what a table that loses nothing is
pub writable_ends : (rs : List ℕ) (ps : Paths) → WritableTable rs ps → PathsEnd rs ps
writable_ends rs ps fit i h stays = (fit i h stays).path

module _ (kind : Kind) where
  -- a record that shows the meaning of a record that loses nothing shows the record
  same_entry : (rs : List ℕ) (ps : Paths) (i : ℕ) (rs' : List ℕ) (ps' : Paths) (j : ℕ) → Writable rs ps i → Shows kind.id rs' ps' j (meaning_of kind.id rs ps i) → SameEntry kind.id rs ps i rs' ps' j
  unfolding stat_of
  same_entry rs ps i rs' ps' j fit x =
      let f = written_are_kept (flags_at rs i) fit.marks in
      record {
        there = x.there;
        stat = x.stat;
        mode = x.mode ∙ fit.mode;
        id = x.id;
        flags = x.flags ∙ f;
        stage = x.stage ∙ ap stage_raw f ∙ stage_kept (flags_at rs i);
        inside = x.inside;
        path = x.path;
      }

  -- ---- PREMISES: the stores lent to the reader are large enough

  -- for the records and the path bytes of all that is written, and where TREE is written for as many nodes as the node table has
  pub record Roomy (rs : List ℕ) (ps : Paths) (ns : List ℕ) (o : Options) (records' paths' nodes' : List ℕ) : Type 0 where
    pub records : length (kept_of rs) * 96 ≤ length records'
    pub paths : length (paths_bytes (meanings_of kind.id rs ps)) ≤ length paths'
    pub nodes : writes_tree o ≡ true → nodes_in ns ≤ nodes_in nodes'

  -- ---- THE THEOREMS

  module _ (rs : List ℕ) (ps : Paths) (ns nm : List ℕ) (o : Options) (out : List ℕ) (version size : ℕ) (done : (write_all kind depth_limit rs ps ns nm o out).answer ≡ Ok (written_with version size)) (few : length ns < 2 ^ 64) (ends : PathsEnd rs ps)
      (records' paths' nodes' : List ℕ) where
    -- the written file, and what the reader makes of it
    abbrev pub bytes : List ℕ
    bytes = file_in kind rs ps ns nm o out version size done

    abbrev pub reading : Outcome
    reading = read_file kind depth_limit bytes records' paths' nodes'

    abbrev pub index : Index
    index = index_of kind rs ps ns nm o

    module _ (slices : Slices bytes paths' nodes') (roomy : Roomy rs ps ns o records' paths' nodes') where
      same_file : bytes ≡ written kind rs ps ns nm o
      same_file = file_is kind rs ps ns nm o out version size done

      slices_w : Slices (written kind rs ps ns nm o) paths' nodes'
      slices_w = subst (λ (b : List ℕ). Slices b paths' nodes') same_file slices

      room : Fits records' paths' (length (kept_of rs)) (meanings_of kind.id rs ps)
      room = record { records = roomy.records; paths = roomy.paths }

      tree_room : TreeRoom kind ns nm o nodes'
      tree_room e = room_for_tree kind rs ps ns nm o out version size done few e nodes' (roomy.nodes e)

      -- answer and stores are the rendering of the index that was written
      pub written_renders : Renders kind bytes records' paths' nodes' index reading
      written_renders =
          let d = done_says kind rs ps ns nm o out version size done in
          subst (λ (b : List ℕ). Renders kind b records' paths' nodes' index (read_file kind depth_limit b records' paths' nodes')) (sym same_file)
          (renders_w kind rs ps ns nm o d.few d.short ends records' paths' nodes' slices_w room tree_room)

      tree_told : has_tree index.tree ≡ writes_tree o
      tree_told = by (writes_tree o) refl
        where
          by : (t : Bool) → writes_tree o ≡ t → has_tree index.tree ≡ t
          by true e = ap has_tree (tree_is_meant kind rs ps ns nm o out version size done few e)
          by false e = ap has_tree (ap (λ (t : Bool). pick t (read_tree kind.id (tree_place kind rs ps) (tree_body kind ns nm)) none) e)

      nodes_told_lem : nodes_of index.tree ≡ pick (writes_tree o) (nodes_in ns) 0
      nodes_told_lem = by (writes_tree o) refl
        where
          by : (t : Bool) → writes_tree o ≡ t → nodes_of index.tree ≡ pick t (nodes_in ns) 0
          by true e = ap nodes_of (tree_is_meant kind rs ps ns nm o out version size done few e) ∙ written_tree_nodes kind rs ps ns nm o out version size done few e
          by false e = ap nodes_of (ap (λ (t : Bool). pick t (read_tree kind.id (tree_place kind rs ps) (tree_body kind ns nm)) none) e)

      -- it is read: the version that the writer answered, sparse as asked or by a directory, a tree exactly if TREE was written, as many records as were written, and as many nodes as the table has
      pub reads_back : reading.answer ≡ Ok (read_with_all version index.sparse (writes_tree o) (length (kept_of rs)) (length (paths_bytes (meanings_of kind.id rs ps))) (pick (writes_tree o) (nodes_in ns) 0))
      reads_back =
          let d = done_says kind rs ps ns nm o out version size done in
          let c : length (meanings_of kind.id rs ps) ≡ length (kept_of rs) = length-map (kept_of rs) (meaning_of kind.id rs ps) in
          let v = d.version_is in
          written_renders.answer ∙ (λ j. Ok (read_with_all (sym v j) index.sparse (tree_told j) (c j) (length (paths_bytes (meanings_of kind.id rs ps))) (nodes_told_lem j)))

      -- record j shows the meaning of the j-th record that was written
      pub shows_written : (j i : ℕ) → get_elem? (kept_of rs) j ≡ some i → Shows kind.id reading.records (lying_in reading.paths) j (meaning_of kind.id rs ps i)
      shows_written j i e =
          let d = done_says kind rs ps ns nm o out version size done in
          let x = shown_w kind rs ps ns nm o d.few d.short ends records' paths' nodes' slices_w room tree_room j (meaning_of kind.id rs ps i) (at_map (meaning_of kind.id rs ps) (kept_of rs) j i e) in
          subst (λ (p : List ℕ). Shows kind.id reading.records (lying_in p) j (meaning_of kind.id rs ps i)) (sym written_renders.paths)
          (subst (λ (r : List ℕ). Shows kind.id r (lying_in (filled paths' (paths_bytes (meanings_of kind.id rs ps)))) j (meaning_of kind.id rs ps i)) (sym written_renders.records) x)

      -- DEMAND 2, with records marked REMOVE: what reads back is the table without them
      pub written_reads_back : WritableTable rs ps → (j i : ℕ) → get_elem? (kept_of rs) j ≡ some i → SameEntry kind.id rs ps i reading.records (lying_in reading.paths) j
      written_reads_back fit j i e =
          let k = kept_is rs (records_in rs) 0 j i e in
          same_entry rs ps i reading.records (lying_in reading.paths) j (fit i (omega (arith, k.most)) k.stays) (shows_written j i e)

      -- and with none marked record i is the table's record i
      pub table_reads_back : WritableTable rs ps → NoneRemoved rs → (i : ℕ) → i < records_in rs → SameEntry kind.id rs ps i reading.records (lying_in reading.paths) i
      table_reads_back fit stays i h =
          let e : 0 + i ≡ i = omega arith in
          written_reads_back fit i i (subst (λ (m : ℕ). get_elem? (kept_of rs) i ≡ some m) e (kept_here rs (records_in rs) 0 (λ m a b. stays m (omega arith)) i h))

      -- where TREE was written the reader stores its tree, siblings sorted by name; where it was not, the node store is as it was
      pub tree_reads_back : writes_tree o ≡ true → reading.nodes ≡ filled nodes' (tree_bytes (tree_written kind rs ps ns nm))
      tree_reads_back e = of (subst (λ (t : Option Tree). NodesAfter kind bytes nodes' t reading.nodes) (tree_is_meant kind rs ps ns nm o out version size done few e) written_renders.nodes)
        where
          of : {s : List ℕ} {t : Tree} {l : List ℕ} → NodesAfter kind s nodes' (some t) l → l ≡ filled nodes' (tree_bytes t)
          of the_tree = refl
