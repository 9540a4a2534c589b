-- WHAT IS TOLD OF A TABLE: of a record that shows an entry, that entry field by field; and that what a call of `sparrowpivot_read` left where it returned 0, cut to what it told, shows the file's
-- one meaning. Assumes that the file is bytes and that no slice has 2^64 bytes or more, the premise `Slices`.
use Rattle.std.specs.Prelude.{ℕ, ◌+◌, ◌*◌, ◌≤◌, ◌<◌, ◌≡◌, List, [], ◌∷◌, length, take, replicate, Result}
use Rattle.std.proofs.Common.{sym, ap, ◌∙◌, subst, arith, length-take, lt-ltb, le-ltb}
use Rattle.std.proofs.Math.Option.{none, some}
use Rattle.refusal.specs.Bit.{bit}
use Rattle.format.specs.Format.{id_size}
use Rattle.kind.specs.Sha1.{sha1_kind}
use Rattle.entry.specs.Layout.{record_size}
use Rattle.entry.specs.Paths.{Paths, lying_in}
use Rattle.entry.specs.Record.{records_in, field_at, id_at}
use Rattle.entry.specs.Laws.{field_out, id_out, inside_none, path_is}
use Rattle.node.specs.Store.{node_size, nodes_in}
use Rattle.access.specs.Sorted.{yes_lies}
use Rattle.file.specs.Answer.{carried_of}
use Rattle.file.specs.Read.{Outcome}
use Rattle.grammar.specs.Entry.{Meaning}
use Rattle.grammar.specs.Tree.{Tree}
use Rattle.grammar.specs.File.{Index, File}
use Rattle.claims_entries.specs.Rendering.{paths_bytes}
use Rattle.claims_entries.specs.Fields.{Shows}
use Rattle.claims.specs.Premises.{Slices}
use Rattle.claims.specs.Claims.{has_tree, nodes_of, accepted_is_the_one_meaning}
use Rattle.claims.specs.Shown.{ShowsIndex, shown_by_the_first, accepted_is_shown}
use Rattle.sparrowpivot.specs.Told.{Told, told, eight}
use Rattle.sparrowpivot.specs.Tables.{tell_record, tell_stat}
use Rattle.claims_settled.specs.Exports.{ReadCall}
use Rattle.claims_c.specs.Terms.{value, records_told, nodes_told, Stands, stage_of, Row, rows, RowIs}
use Rattle.claims_c.specs.Numbers.{values_told, left, zero_is_read, tree_told}
use Rattle.claims_c.specs.Rows.{row_within, rows_many, rows_shown, ShowsRow, SpelledRow, row_spelled}
use Rattle.file.specs.declared.Error.{Error as FileError}
use Rattle.file.specs.declared.Reading.{Reading}

-- ---- one record

module _ {rs : List ℕ} {ps : Paths} {i : ℕ} {e : Meaning} (x : Shows id_size rs ps i e) where
  -- its path, where it is told to stand
  pub path_stands : Stands ps.store x.start (x.start + length e.path) e.path
  path_stands =
      let (a, b) = yes_lies rs ps i x.there x.inside in
      let low : x.start ≤ x.start + length e.path = omega arith in
      let high : x.start + length e.path ≤ length ps.store = omega (arith, x.ends, b) in
      record { ahead = low; inside = high; bytes = path_is rs ps.store i x.there x.start (x.start + length e.path) (sym x.starts) (sym x.ends) low high ∙ x.path }

  pub record_told : {code : ℕ} {values : List ℕ} → told code values [] ≡ tell_record rs ps i
      → (code ≡ 0) × (values ≡ e.stat.mode ∷ e.flags ∷ stage_of e ∷ x.start ∷ (x.start + length e.path) ∷ 1 ∷ 1 ∷ e.stat.size ∷ [])
  record_told t = (
    ap (λ (t : Told). t.code) t,
    ap (λ (t : Told). t.values) t
        ∙ (λ k. x.mode k ∷ x.flags k ∷ x.stage k ∷ x.starts k ∷ x.ends k ∷ bit (x.inside k) ∷ bit (lt-ltb i (records_in rs) x.there k) ∷ (x.stat k).size ∷ []),
  )

  pub stat_told : {code : ℕ} {values : List ℕ} → told code values [] ≡ tell_stat rs i
      → (code ≡ 0)
      × (values ≡ e.stat.ctime ∷ e.stat.ctime_nanos ∷ e.stat.mtime ∷ e.stat.mtime_nanos ∷ e.stat.dev ∷ e.stat.ino ∷ e.stat.uid ∷ e.stat.gid ∷ [])
  stat_told t = (
    ap (λ (t : Told). t.code) t,
    ap (λ (t : Told). t.values) t
        ∙ (λ k. (x.stat k).ctime.secs ∷ (x.stat k).ctime.nsecs ∷ (x.stat k).mtime.secs ∷ (x.stat k).mtime.nsecs ∷ (x.stat k).dev ∷ (x.stat k).ino ∷ (x.stat k).uid ∷ (x.stat k).gid ∷ []),
  )

-- behind the last one every number is 0
module _ (rs : List ℕ) (i : ℕ) (none_there : records_in rs ≤ i) where
  zero_field : (w k : ℕ) → field_at w k rs i ≡ 0
  zero_field w k = sym (field_out w k rs i none_there)

  pub no_record_told : (ps : Paths) {code : ℕ} {values : List ℕ} → told code values [] ≡ tell_record rs ps i → (code ≡ 0) × (values ≡ replicate 8 0)
  no_record_told ps t = (
    ap (λ (t : Told). t.code) t,
    ap (λ (t : Told). t.values) t
        ∙ (rw (zero_field 4 24, zero_field 4 72, zero_field 8 76, zero_field 8 84, ← (inside_none rs ps i none_there), le-ltb i (records_in rs) none_there, zero_field 4 36)),
  )

  pub no_stat_told : {code : ℕ} {values : List ℕ} → told code values [] ≡ tell_stat rs i → (code ≡ 0) × (values ≡ replicate 8 0)
  no_stat_told t = (
    ap (λ (t : Told). t.code) t,
    ap (λ (t : Told). t.values) t
        ∙ (rw (zero_field 4 0, zero_field 4 4, zero_field 4 8, zero_field 4 12, zero_field 4 16, zero_field 4 20, zero_field 4 28, zero_field 4 32)),
  )

  pub no_id_told : id_at id_size rs i ≡ replicate id_size 0
  no_id_told = sym (id_out id_size rs i none_there)

-- ---- what a call left where it returned 0

module _ {s rs ps ns values rs' ps' ns' : List ℕ} {code : ℕ} (call : ReadCall s rs ps ns code values rs' ps' ns') (slices : Slices s ps ns)
    (returned : code ≡ 0) (m : Index) (means : File id_size s m) where
  pub meaning_told : values ≡ m.version ∷ bit m.sparse ∷ bit (has_tree m.tree) ∷ length m.entries ∷ length (paths_bytes m.entries) ∷ nodes_of m.tree ∷ 0 ∷ 0 ∷ []
  meaning_told =
      let (o, x, y, one) = accepted_is_the_one_meaning sha1_kind s rs ps ns slices (zero_is_read call returned) in
      let same : o ≡ m = sym (one m means) in
      values_told call ∙ ap (λ (a : Result Reading FileError). eight (carried_of a)) y.answer ∙ tree_told o.version (length o.entries) (length (paths_bytes o.entries)) o.sparse o.tree
      ∙ ap (λ (m : Index). m.version ∷ bit m.sparse ∷ bit (has_tree m.tree) ∷ length m.entries ∷ length (paths_bytes m.entries) ∷ nodes_of m.tree ∷ 0 ∷ 0 ∷ []) same

  -- the tables that a caller lends on show it
  pub tables_show : ShowsIndex sha1_kind s (records_told values rs') (lying_in ps') (nodes_told values ns') m
  tables_show =
      let (o, x, one, y, shown) = accepted_is_shown sha1_kind s rs ps ns slices (zero_is_read call returned) in
      let all : ShowsIndex sha1_kind s rs' (lying_in ps') ns' m =
      subst (ShowsIndex sha1_kind s rs' (lying_in ps') ns') (sym (one m means)) (subst (λ (u : Outcome). ShowsIndex sha1_kind s u.records (lying_in u.paths) u.nodes o) (left call) shown) in
      let n : length m.entries ≡ value values 3 = sym (ap (λ (l : List ℕ). value l 3) meaning_told) in
      let k : nodes_of m.tree ≡ value values 5 = sym (ap (λ (l : List ℕ). value l 5) meaning_told) in
      subst (λ (j : ℕ). ShowsIndex sha1_kind s (records_told values rs') (lying_in ps') (take (j * node_size) ns') m) k
      (subst (λ (j : ℕ). ShowsIndex sha1_kind s (take (j * record_size) rs') (lying_in ps') (take (nodes_of m.tree * node_size) ns') m) n (shown_by_the_first sha1_kind m all))

  -- and have no record too many
  pub records_are : records_in (records_told values rs') ≡ length m.entries
  records_are =
      let n : value values 3 ≡ length m.entries = ap (λ (l : List ℕ). value l 3) meaning_told in
      omega (arith, length-take (value values 3 * record_size) rs', tables_show.records)

  pub nodes_are : nodes_in (nodes_told values ns') ≡ nodes_of m.tree
  nodes_are =
      let n : value values 5 ≡ nodes_of m.tree = ap (λ (l : List ℕ). value l 5) meaning_told in
      omega (arith, length-take (value values 5 * node_size) ns', tables_show.nodes)

  -- node i of the tree is there, shows its row, and that is a row of a spelled tree
  pub row_told : (t : Tree) → m.tree ≡ some t → (i : ℕ) (r : Row) → RowIs (rows t) i r
      → (i < nodes_in (nodes_told values ns')) × ShowsRow s (nodes_told values ns') i r × SpelledRow (length s) r
  row_told t has i r q = (
    omega (arith, row_within (rows t) i r q, rows_many t none 0, ap nodes_of has, nodes_are),
    rows_shown s (nodes_told values ns') t (tables_show.tree t has) i r q,
    row_spelled means has i r q,
  )

  pub rows_told : (t : Tree) → m.tree ≡ some t → length (rows t) ≡ value values 5
  rows_told t has = rows_many t none 0 ∙ sym (ap nodes_of has) ∙ sym (ap (λ (l : List ℕ). value l 5) meaning_told)
