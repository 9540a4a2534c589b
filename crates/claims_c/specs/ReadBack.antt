-- FROM A CALL OF `sparrowpivot_write` THAT RETURNED 0 TO ONE OF `sparrowpivot_read`: what was written is spelled and read, and each record that was written lies in its store. Assumes that the
-- file is bytes, that no slice has 2^64 bytes or more, and room, premises with names.
use Prim.Native.Nat.{ℕ, ◌+◌, ◌^◌, ◌<◌}
use Rattle.std.specs.Prelude.{◌≡◌, refl, true, take, Ok, Result}
use Rattle.std.proofs.Math.Path.{sym, ap, subst}
use Rattle.std.proofs.Common.{◌∙◌}
use mathlib.Core.List.{List, [], ◌∷◌}
use Rattle.std.proofs.Math.Option.{some}
use native.Mathlib.Omega.{arith}
use Rattle.std.proofs.Math.ListN.{length, get_elem?}
use Rattle.laws.specs.Pick.{pick}
use Rattle.refusal.specs.Bit.{bit}
use Rattle.format.specs.Format.{depth_limit, id_size}
use Rattle.kind.specs.Sha1.{sha1_kind}
use Rattle.entry.specs.Flags.{stage_raw, keep_flags}
use Rattle.entry.specs.Paths.{Paths, lying_in}
use Rattle.entry.specs.Record.{records_in, mode_at, flags_at, stage_at, start_at, end_at, path_at}
use Rattle.entry.specs.Stat.{stat_at}
use Rattle.entry.specs.Laws.{path_is}
use Rattle.node.specs.Store.{nodes_in}
use Rattle.grammar.specs.File.{File}
use Rattle.file.specs.Answer.{number_of, carried_of}
use Rattle.file.specs.Read.{Outcome as ReadOutcome, read_file}
use Rattle.write.specs.declared.Options.{Options}
use Rattle.write.specs.File.{Outcome, writes_tree, write_all}
use Rattle.claims.specs.Premises.{Slices}
use Rattle.claims_entries.specs.Rendering.{paths_bytes}
use Rattle.claims_entries.specs.Fields.{Shows}
use Rattle.claims_write.specs.Meaning.{stat_of, written_flags, meaning_of, kept_of, meanings_of, PathsEnd, WritableTable}
use Rattle.claims_write.specs.Spelled.{index_of, file_in, written_is_spelled}
use Rattle.claims_write.specs.Answers.{done_exactly}
use Rattle.claims_write.specs.Kept.{at_map, kept_is}
use Rattle.claims_write.specs.SameTree.{SameTree}
use Rattle.claims_write.specs.TreeBack.{tree_reads_back_node_by_node}
use Rattle.claims_write.specs.Claims.{Roomy, reads_back, shows_written, written_reads_back}
use Rattle.sparrowpivot.specs.Told.{Told, eight}
use Rattle.sparrowpivot.specs.Writing.{options_from}
use Rattle.sparrowpivot.specs.Tables.{tell_node}
use Rattle.claims_settled.specs.Exports.{ReadCall, WriteCall, RecordCall, record_tells, RecordStatCall, record_stat_tells, RecordIdCall, record_id_tells, NodeCall, node_tells}
use Rattle.claims_c.specs.Terms.{value, records_told, Stands}
use Rattle.claims_c.specs.Numbers.{number_told, values_told, left, asked_told}
use Rattle.claims_c.specs.Writing.{zero_is_done, output}
use Rattle.claims_c.specs.Tables.{path_stands, record_told, stat_told, tables_show}
use Rattle.file.specs.Made.{read_with_all}
use Rattle.file.specs.declared.Error.{Error as FileError}
use Rattle.file.specs.declared.Reading.{Reading}
use Rattle.write.specs.Made.{written_with}

module _ {rs : List ℕ} {ps : Paths} {ns nm out values out' : List ℕ} {options code : ℕ} (wrote : WriteCall rs ps ns nm options out code values out') (returned : code ≡ 0) where
  abbrev asked : Options
  asked = options_from options

  abbrev writing : Outcome
  writing = write_all sha1_kind depth_limit rs ps ns nm asked out

  done : writing.answer ≡ Ok (written_with (value values 0) (value values 1))
  done = zero_is_done wrote returned

  same_file : file_in sha1_kind rs ps ns nm asked out (value values 0) (value values 1) done ≡ take (value values 1) out'
  same_file = ap (λ (l : List ℕ). take (value values 1) l) (output wrote)

  -- the file that was written means the table
  written_means : PathsEnd rs ps → File id_size (take (value values 1) out') (index_of sha1_kind rs ps ns nm asked)
  written_means ends =
      subst (λ (b : List ℕ). File id_size b (index_of sha1_kind rs ps ns nm asked)) same_file (written_is_spelled sha1_kind rs ps ns nm asked out (value values 0) (value values 1) done ends)

  -- each record that was written has its path in the store
  written_path : (j i : ℕ) → get_elem? (kept_of rs) j ≡ some i → Stands ps.store (start_at rs i) (end_at rs i) (path_at rs ps i)
  written_path j i e =
      let (may, room) = (done_exactly sha1_kind rs ps ns nm asked out).0 (_, _, done) in
      let k = kept_is rs (records_in rs) 0 j i e in
      let there : i < records_in rs = omega (arith, k.most) in
      let (low, high) = may.inside i (record { there = there; unmarked = k.stays }) in
      record { ahead = low; inside = high; bytes = path_is rs ps.store i there (start_at rs i) (end_at rs i) refl refl low high }

  module _ (few : length ns < 2 ^ 64) (ends : PathsEnd rs ps) (records' paths' nodes' : List ℕ)
      (slices : Slices (take (value values 1) out') paths' nodes') (roomy : Roomy sha1_kind rs ps ns asked records' paths' nodes') where
    slices_w : Slices (file_in sha1_kind rs ps ns nm asked out (value values 0) (value values 1) done) paths' nodes'
    slices_w = subst (λ (b : List ℕ). Slices b paths' nodes') (sym same_file) slices

    abbrev answered : Result Reading FileError
    answered = Ok (read_with_all (value values 0) (index_of sha1_kind rs ps ns nm asked).sparse (writes_tree asked) (length (kept_of rs)) (length (paths_bytes (meanings_of id_size rs ps))) (pick (writes_tree asked) (nodes_in ns) 0))

    -- it is read
    written_read : (read_file sha1_kind depth_limit (take (value values 1) out') records' paths' nodes').answer ≡ answered
    written_read =
        subst (λ (b : List ℕ). (read_file sha1_kind depth_limit b records' paths' nodes').answer ≡ answered) same_file
        (reads_back sha1_kind rs ps ns nm asked out (value values 0) (value values 1) done few ends records' paths' nodes' slices_w roomy)

    -- and so a call that reads it tells
    pub read_back_told : {values₁ rs' ps' ns' : List ℕ} {code₁ : ℕ} → ReadCall (take (value values 1) out') records' paths' nodes' code₁ values₁ rs' ps' ns'
        → (code₁ ≡ 0)
        × (values₁ ≡ value values 0 ∷ bit (index_of sha1_kind rs ps ns nm asked).sparse ∷ bit (writes_tree asked) ∷ length (kept_of rs) ∷ length (paths_bytes (meanings_of id_size rs ps)) ∷ pick (writes_tree asked) (nodes_in ns) 0 ∷ 0 ∷ 0 ∷ [])
    read_back_told call = (
      number_told call ∙ ap number_of written_read,
      values_told call ∙ ap (λ (a : Result Reading FileError). eight (carried_of a)) written_read
          ∙ asked_told (value values 0) (length (kept_of rs)) (length (paths_bytes (meanings_of id_size rs ps))) (nodes_in ns) (index_of sha1_kind rs ps ns nm asked).sparse (writes_tree asked),
    )

    -- what a record that loses nothing means
    written_mode : WritableTable rs ps → (j i : ℕ) → get_elem? (kept_of rs) j ≡ some i → (meaning_of id_size rs ps i).stat.mode ≡ mode_at rs i
    written_mode fit j i e =
        sym (shows_written sha1_kind rs ps ns nm asked out (value values 0) (value values 1) done few ends records' paths' nodes' slices_w roomy j i e).mode
        ∙ (written_reads_back sha1_kind rs ps ns nm asked out (value values 0) (value values 1) done few ends records' paths' nodes' slices_w roomy fit j i e).mode

    written_flags_lem : WritableTable rs ps → (j i : ℕ) → get_elem? (kept_of rs) j ≡ some i → written_flags (flags_at rs i) ≡ keep_flags (flags_at rs i)
    written_flags_lem fit j i e =
        sym (shows_written sha1_kind rs ps ns nm asked out (value values 0) (value values 1) done few ends records' paths' nodes' slices_w roomy j i e).flags
        ∙ (written_reads_back sha1_kind rs ps ns nm asked out (value values 0) (value values 1) done few ends records' paths' nodes' slices_w roomy fit j i e).flags

    -- ---- the tree, over the node store as the call left it
    pub tree_back : {values₁ rs' ps' ns' : List ℕ} {code₁ : ℕ} → ReadCall (take (value values 1) out') records' paths' nodes' code₁ values₁ rs' ps' ns'
        → asked.tree ≡ true → asked.cache ≡ true
        → (at : ℕ → ℕ) × SameTree id_size ns nm (take (value values 1) out') ns' at
    tree_back {ns' = ns'} call given wanted =
        let (at, x) = tree_reads_back_node_by_node sha1_kind rs ps ns nm asked out (value values 0) (value values 1) done few ends records' paths' nodes' slices_w roomy given wanted in
        let y : SameTree id_size ns nm (take (value values 1) out') (read_file sha1_kind depth_limit (take (value values 1) out') records' paths' nodes').nodes at =
        subst (λ (b : List ℕ). SameTree id_size ns nm b (read_file sha1_kind depth_limit b records' paths' nodes').nodes at) same_file x in
        (at, subst (λ (u : ReadOutcome). SameTree id_size ns nm (take (value values 1) out') u.nodes at) (left call) y)

    -- ---- calls of the record functions, over the table that was written and over the one that was read
    module _ (fit : WritableTable rs ps) (i j : ℕ) (kept : get_elem? (kept_of rs) j ≡ some i) {values₁ rs' ps' ns' : List ℕ} {code₁ : ℕ}
        (call : ReadCall (take (value values 1) out') records' paths' nodes' code₁ values₁ rs' ps' ns') where
      entry_shown : Shows id_size (records_told values₁ rs') (lying_in ps') j (meaning_of id_size rs ps i)
      entry_shown =
          (tables_show call slices (read_back_told call).0 (index_of sha1_kind rs ps ns nm asked) (written_means ends)).entries j (meaning_of id_size rs ps i) (at_map (meaning_of id_size rs ps) (kept_of rs) j i kept)

      pub record_back : {code₂ code₃ : ℕ} {values₂ values₃ : List ℕ} → RecordCall rs ps i code₂ values₂
          → RecordCall (records_told values₁ rs') (lying_in ps') j code₃ values₃
          → (start end : ℕ) × (path : List ℕ)
          × (values₃ ≡ value values₂ 0 ∷ keep_flags (value values₂ 1) ∷ value values₂ 2 ∷ start ∷ end ∷ 1 ∷ 1 ∷ value values₂ 7 ∷ [])
          × Stands ps.store (value values₂ 3) (value values₂ 4) path × Stands ps' start end path
      unfolding stat_of
      record_back b c =
          let x = entry_shown in
          let start : ℕ = x.start in
          let end : ℕ = x.start + length (path_at rs ps i) in
          let w = ap (λ (t : Told). t.values) (record_tells b) in
          let f = written_flags_lem fit j i kept in
          let m = written_mode fit j i kept in
          let g : stage_raw (keep_flags (flags_at rs i)) ≡ stage_at rs i = omega arith in (
            start,
            end,
            path_at rs ps i,
            (record_told x (record_tells c)).1 ∙ (λ k. m k ∷ f k ∷ (ap stage_raw f ∙ g) k ∷ start ∷ end ∷ 1 ∷ 1 ∷ (stat_at rs i).size ∷ [])
                ∙ sym (ap (λ (l : List ℕ). value l 0 ∷ keep_flags (value l 1) ∷ value l 2 ∷ start ∷ end ∷ 1 ∷ 1 ∷ value l 7 ∷ []) w),
            subst (λ (l : List ℕ). Stands ps.store (value l 3) (value l 4) (path_at rs ps i)) (sym w) (written_path j i kept),
            path_stands x,
          )

      pub stat_back : {code₂ code₃ : ℕ} {values₂ values₃ : List ℕ} → RecordStatCall rs i code₂ values₂
          → RecordStatCall (records_told values₁ rs') j code₃ values₃ → values₃ ≡ values₂
      unfolding stat_of
      stat_back b c = (stat_told entry_shown (record_stat_tells c)).1 ∙ sym (ap (λ (t : Told). t.values) (record_stat_tells b))

      pub id_back : {out₂ out₃ : List ℕ} → RecordIdCall rs i out₂ → RecordIdCall (records_told values₁ rs') j out₃ → out₃ ≡ out₂
      id_back b c = record_id_tells c ∙ entry_shown.id ∙ sym (record_id_tells b)

-- what is told of a node
node_value : {ns values : List ℕ} {i code : ℕ} → NodeCall ns i code values → (k : ℕ) → value values k ≡ value (tell_node ns i).values k
node_value c k = ap (λ (t : Told). value t.values k) (node_tells c)

-- a node of a store that holds a table's tree, and the node of the table that it is: what is told of the one is told of the other
module _ {ns nm s ms : List ℕ} {at : ℕ → ℕ} (same : SameTree id_size ns nm s ms at) (j : ℕ) (h : j < nodes_in ns) {code code' : ℕ} {values values' : List ℕ}
    (b : NodeCall ns (at j) code values) (c : NodeCall ms j code' values') where
  pub count_back : value values' 2 ≡ value values 2
  count_back = node_value c 2 ∙ (same.nodes j h).count ∙ sym (node_value b 2)

  pub subtrees_back : value values' 3 ≡ value values 3
  subtrees_back = node_value c 3 ∙ (same.nodes j h).subtrees ∙ sym (node_value b 3)

  pub parent_back : 0 < j → at (value values' 4) ≡ value values 4
  parent_back k = ap at (node_value c 4) ∙ (same.parent j k h).1 ∙ sym (node_value b 4)
