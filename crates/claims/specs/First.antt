-- THE FIRST RECORDS of a store, and the first nodes, show what the whole store shows: an accessor reads nothing behind its own record or node. So what is
-- claimed of a store as the reader left it is so of the part of it that was filled. Assumes nothing.
use Rattle.std.specs.Prelude.{ℕ, zero, suc, ◌+◌, ◌*◌, ◌≤◌, ◌<◌, ◌≡◌, ◌⊎◌, ltb, length, take, drop}
use Rattle.std.proofs.Common.{sym, ◌∙◌, inl, inr, arith, lit≤, length-drop, take-append-drop, take_all, get_or-take, length-take-le, lt-ltb}
use Rattle.std.proofs.Math.Path.{ap}
use mathlib.Core.List.{List, [], ◌∷◌}
use Rattle.std.proofs.Math.Logic.{⊎_elim}
use Rattle.std.proofs.Math.Option.{some}
use Rattle.std.proofs.Math.ListN.{get_elem?}
use Rattle.std.proofs.lemmas.List.{take-append-le, drop-append-le}
use Rattle.laws.specs.Tests.{lt_or_ge}
use Rattle.wire.specs.BigEndian.{be_at, be_same}
use Rattle.format.specs.Format.{id_room}
use Rattle.entry.specs.Layout.{record_size, mode_place, id_place, flags_place, start_place, end_place}
use Rattle.entry.specs.Flags.{stage_raw}
use Rattle.entry.specs.Paths.{Paths}
use Rattle.entry.specs.Record.{records_in, field_at, flags_at, id_at, lies_inside, path_at}
use Rattle.entry.specs.Laws.{id_is}
use Rattle.entry.specs.Stat.{stat_at}
use Rattle.node.specs.Store as node
use Rattle.node.specs.Store.{node_size, nodes_in, word_at, name_at}
use Rattle.grammar.specs.Entry.{Meaning}
use Rattle.grammar.specs.Number.{Count}
use Rattle.grammar.specs.Tree.{Tree, tree, Subtrees, childless, beside, nodes, nodes_of}
use Rattle.claims_entries.specs.Fields.{Shows}
use Rattle.claims_entries.specs.Shown.{EachShown}
use Rattle.claims_tree.specs.Shown.{ShowsNode, ShowsTree, ShowsSubtrees}

-- ---- the first bytes of a list

-- they are all of it, or as many as asked for
all_or_cut : (k : ℕ) (s : List ℕ) → (take k s ≡ s) ⊎ ((k ≤ length s) × (length (take k s) ≡ k))
all_or_cut k s = ⊎_elim (λ h. inl (take_all k s (omega arith))) (λ h. inr (h, length-take-le k s h)) (lt_or_ge (length s) k)

number_first : (w k : ℕ) (s : List ℕ) (at : ℕ) → at + w ≤ k → be_at w (take k s) at ≡ be_at w s at
number_first w k s at h = be_same w (take k s) s at at (λ m l. get_or-take k s (at + m) 0 (omega arith))

part_first : (w k : ℕ) (s : List ℕ) (at : ℕ) → at + w ≤ k → length (take k s) ≡ k → take w (drop at (take k s)) ≡ take w (drop at s)
part_first w k s at h e =
    sym (take-append-le w (drop at (take k s)) (drop k s) (omega (arith, length-drop at (take k s))))
    ∙ ap (λ (l : List ℕ). take w l) (sym (drop-append-le at (take k s) (drop k s) (omega arith)) ∙ ap (λ (l : List ℕ). drop at l) (take-append-drop k s))

-- ---- the first n records

module _ (n : ℕ) (rs : List ℕ) (i : ℕ) (h : i < n) where
  abbrev first_records : List ℕ
  first_records = take (n * record_size) rs

  pub record_there : ltb i (records_in first_records) ≡ ltb i (records_in rs)
  record_there =
      ⊎_elim (λ e. ap (λ (s : List ℕ). ltb i (records_in s)) e)
      (λ (m, e). lt-ltb i (records_in first_records) (omega (arith, e)) ∙ sym (lt-ltb i (records_in rs) (omega arith)))
      (all_or_cut (n * record_size) rs)

  pub field_first : (w k : ℕ) → k + w ≤ record_size → field_at w k first_records i ≡ field_at w k rs i
  unfolding field_at
  field_first w k l = rw (record_there, number_first w (n * record_size) rs (i * record_size + k) (omega arith))

  pub id_first : (w : ℕ) → id_place + w ≤ record_size → id_at w first_records i ≡ id_at w rs i
  id_first w l =
      ⊎_elim (λ e. ap (λ (s : List ℕ). id_at w s i) e)
      (λ (m, e). id_is w first_records i (omega (arith, e)) ∙ part_first w (n * record_size) rs (i * record_size + id_place) (omega arith) e ∙ sym (id_is w rs i (omega arith)))
      (all_or_cut (n * record_size) rs)

  pub inside_first : (ps : Paths) → lies_inside first_records ps i ≡ lies_inside rs ps i
  unfolding lies_inside
  inside_first ps = rw (record_there, field_first 8 start_place (lit≤ tt), field_first 8 end_place (lit≤ tt))

  pub path_first : (ps : Paths) → path_at first_records ps i ≡ path_at rs ps i
  unfolding path_at
  path_first ps = rw (inside_first ps, field_first 8 start_place (lit≤ tt), field_first 8 end_place (lit≤ tt))

  pub stat_first : stat_at first_records i ≡ stat_at rs i
  stat_first =
      let f : (k : ℕ) → k + 4 ≤ record_size → field_at 4 k first_records i ≡ field_at 4 k rs i = λ k l. field_first 4 k l in
      rw (f 0 (lit≤ tt), f 4 (lit≤ tt), f 8 (lit≤ tt), f 12 (lit≤ tt), f 16 (lit≤ tt), f 20 (lit≤ tt), f 28 (lit≤ tt), f 32 (lit≤ tt), f 36 (lit≤ tt))

  -- so what a record shows it shows among the first
  pub shown_first : {id : ℕ} → id ≤ id_room → {ps : Paths} {m : Meaning} → Shows id rs ps i m → Shows id first_records ps i m
  shown_first {id} fits {ps} x =
      let f : flags_at first_records i ≡ flags_at rs i = field_first 4 flags_place (lit≤ tt) in
      record {
        there = ⊎_elim (λ e. ap_there e) (λ (m, e). omega (arith, e)) (all_or_cut (n * record_size) rs);
        stat = stat_first ∙ x.stat;
        mode = field_first 4 mode_place (lit≤ tt) ∙ x.mode;
        id = id_first id (omega arith) ∙ x.id;
        flags = f ∙ x.flags;
        stage = ap stage_raw f ∙ x.stage;
        start = x.start;
        starts = field_first 8 start_place (lit≤ tt) ∙ x.starts;
        ends = field_first 8 end_place (lit≤ tt) ∙ x.ends;
        inside = inside_first ps ∙ x.inside;
        path = path_first ps ∙ x.path;
      }
    where
      ap_there : first_records ≡ rs → i < records_in first_records
      ap_there e = omega (arith, ap length e, x.there)

entry_there : (ms : List Meaning) (i : ℕ) (m : Meaning) → get_elem? ms i ≡ some m → i < length ms
entry_there [] i m e = let z : ◌≡◌ {A = ℕ} 0 1 = cc in absurd (omega arith)
entry_there (o ∷ ms) zero m e = omega arith
entry_there (o ∷ ms) (suc i) m e = omega (arith, entry_there ms i m e)

pub each_shown_first : {id : ℕ} → id ≤ id_room → (n : ℕ) (rs : List ℕ) (ps : Paths) (ms : List Meaning) → length ms ≤ n → EachShown id rs ps ms → EachShown id (take (n * record_size) rs) ps ms
each_shown_first fits n rs ps ms h shown i m e = shown_first n rs i (omega (arith, entry_there ms i m e)) fits (shown i m e)

-- ---- the first n nodes

module _ (n : ℕ) (ns : List ℕ) (i : ℕ) (h : i < n) where
  abbrev first_nodes : List ℕ
  first_nodes = take (n * node_size) ns

  node_there : ltb i (nodes_in first_nodes) ≡ ltb i (nodes_in ns)
  node_there =
      ⊎_elim (λ e. ap (λ (s : List ℕ). ltb i (nodes_in s)) e)
      (λ (m, e). lt-ltb i (nodes_in first_nodes) (omega (arith, e)) ∙ sym (lt-ltb i (nodes_in ns) (omega arith)))
      (all_or_cut (n * node_size) ns)

  pub word_first : (k : ℕ) → k + 8 ≤ node_size → word_at k first_nodes i ≡ word_at k ns i
  unfolding word_at
  word_first k l = rw (node_there, number_first 8 (n * node_size) ns (i * node_size + k) (omega arith))

  pub node_id_first : (w : ℕ) → node.id_place + w ≤ node_size → node.id_at w first_nodes i ≡ node.id_at w ns i
  unfolding node.id_at
  node_id_first w l =
      ⊎_elim (λ e. ap (λ (s : List ℕ). node.id_at w s i) e)
      (λ (m, e). rw (node_there, part_first w (n * node_size) ns (i * node_size + node.id_place) (omega arith) e))
      (all_or_cut (n * node_size) ns)

  pub name_first : (s : List ℕ) → name_at s first_nodes i ≡ name_at s ns i
  unfolding name_at
  name_first s = rw (word_first node.start_place (lit≤ tt), word_first node.end_place (lit≤ tt))

  pub node_shown_first : {s : List ℕ} {parent place : ℕ} {name : List ℕ} {count : Count} {id : List ℕ} {subtrees : ℕ}
      → ShowsNode s ns i parent place name count id subtrees → ShowsNode s first_nodes i parent place name count id subtrees
  node_shown_first {s} x =
      record {
        starts = word_first node.start_place (lit≤ tt) ∙ x.starts;
        ends = word_first node.end_place (lit≤ tt) ∙ x.ends;
        named = name_first s ∙ x.named;
        counts = word_first node.count_place (lit≤ tt) ∙ x.counts;
        subtrees_there = word_first node.subtrees_place (lit≤ tt) ∙ x.subtrees_there;
        parented = word_first node.parent_place (lit≤ tt) ∙ x.parented;
        identified = node_id_first id_room (lit≤ tt) ∙ x.identified;
      }

module _ (n : ℕ) (s ns : List ℕ) where
  mutual
    pub tree_shown_first : (t : Tree) (parent i : ℕ) → i + nodes t ≤ n → ShowsTree s ns parent i t → ShowsTree s (take (n * node_size) ns) parent i t
    tree_shown_first (tree place name count id ts) parent i h (x, y) = (node_shown_first n ns i (omega arith) x, subtrees_shown_first ts i (i + 1) (omega arith) y)

    subtrees_shown_first : (ts : Subtrees) (parent i : ℕ) → i + nodes_of ts ≤ n → ShowsSubtrees s ns parent i ts → ShowsSubtrees s (take (n * node_size) ns) parent i ts
    subtrees_shown_first childless parent i h x = tt
    subtrees_shown_first (beside t ts) parent i h (x, y) = (tree_shown_first t parent i (omega arith) x, subtrees_shown_first ts parent (i + nodes t) (omega arith) y)
