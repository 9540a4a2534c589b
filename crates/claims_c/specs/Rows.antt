-- THE NODES OF A TREE, ROW BY ROW: where a node table shows a tree, node i shows row i of it; a row of a tree that is spelled has an id as its count says and a name within the tree's bytes, and
-- the tree of a file lies in the file. Assumes nothing.
use Rattle.std.specs.Prelude.{ℕ, zero, suc, ◌+◌, ◌-◌, ◌*◌, ◌≤◌, ◌<◌, ◌≡◌, refl, ◌⊎◌, length, drop, replicate}
use Rattle.std.proofs.Common.{sym, ◌∙◌, subst, inl, inr, ⊎_elim, arith, lit≤, length-append, length-drop, take_at, take-take, drop-drop, length-take-le, lt-ltb, le-ltb}
use Rattle.std.proofs.Math.Path.{ap}
use mathlib.Core.List.{List, [], ◌∷◌, ◌++◌}
use Rattle.std.proofs.Math.Option.{Option, none, some}
use Rattle.std.proofs.Math.ListN.{take}
use Rattle.std.proofs.Math.Seq.{drop-append_seam}
use Rattle.refusal.specs.Bit.{bit}
use Rattle.format.specs.Format.{id_size, id_room}
use Rattle.node.specs.Store.{node_size, id_place, nodes_in, word_at, id_at}
use Rattle.node.specs.Laws.{word_out, name_part}
use Rattle.grammar.specs.Number.{Count}
use Rattle.grammar.specs.Extension.{Extensions}
use Rattle.grammar.specs.Tree.{Tree, tree, Subtrees, childless, beside, nodes, nodes_of, Id, of_tree, no_id, Head, NodeHead, node_head, Node, node, Nodes, no_node, one_node_lem}
use Rattle.grammar.specs.File.{Index, header_length, CacheTree, spelled, malformed, absent, File, version_of, count_of, space}
use Rattle.grammar.proofs.Space.{Spells, spells, spelled_in_space, spelled_has_good_header}
use Rattle.claims_extension.specs.Body.{body_at}
use Rattle.claims_tree.specs.Rendering.{count_word, id_bytes}
use Rattle.claims_tree.specs.Shown.{ShowsNode, ShowsTree, ShowsSubtrees}
use Rattle.sparrowpivot.specs.Told.{Told, told}
use Rattle.sparrowpivot.specs.Tables.{tell_node, node_id}
use Rattle.claims_c.specs.Terms.{Stands, Row, rows_from, rows_below, rows, RowIs, parent_word, id_told}

-- ---- rows of a list and one behind it

at_append : (a b : List Row) (j : ℕ) (r : Row) → RowIs (a ++ b) j r → RowIs a j r ⊎ ((k : ℕ) × (j ≡ length a + k) × RowIs b k r)
at_append [] b j r e = inr (j, omega arith, e)
at_append (x ∷ a) b zero r e = inl e
at_append (x ∷ a) b (suc j) r e = ⊎_elim (λ q. inl q) (λ (k, h, q). inr (k, omega arith, q)) (at_append a b j r e)

no_row : {A : Type 0} (j : ℕ) (r : Row) → RowIs [] j r → A
no_row j r e = let z : ◌≡◌ {A = ℕ} 0 1 = cc in absurd (omega arith)

same_row : {q r : Row} → ◌≡◌ {A = Option Row} (some q) (some r) → q ≡ r
same_row e = cc

pub row_within : (l : List Row) (j : ℕ) (r : Row) → RowIs l j r → j < length l
row_within [] j r e = no_row j r e
row_within (q ∷ l) zero r e = omega arith
row_within (q ∷ l) (suc j) r e = omega (arith, row_within l j r e)

-- ---- as many rows as nodes

mutual
  pub rows_many : (t : Tree) (p : Option ℕ) (me : ℕ) → length (rows_from p me t) ≡ nodes t
  rows_many (tree place name count id ts) p me = ap suc (rows_below_many ts me (me + 1))

  rows_below_many : (ts : Subtrees) (p me : ℕ) → length (rows_below p me ts) ≡ nodes_of ts
  rows_below_many childless p me = refl
  rows_below_many (beside t ts) p me =
      length-append (rows_from (some p) me t) (rows_below p (me + nodes t) ts) ∙ omega (arith, rows_many t (some p) me, rows_below_many ts p (me + nodes t))

-- ---- node i shows row i

abbrev pub ShowsRow : List ℕ → List ℕ → ℕ → Row → Type 0
ShowsRow s ns i r = ShowsNode s ns i (parent_word r.parent) r.place r.name r.count r.id r.subtrees

module _ (s ns : List ℕ) where
  numbered : (r : Row) {i j : ℕ} → i ≡ j → ShowsRow s ns i r → ShowsRow s ns j r
  numbered r e x = subst (λ (k : ℕ). ShowsRow s ns k r) e x

  mutual
    rows_shown_from : (t : Tree) (p : Option ℕ) (me : ℕ) → ShowsTree s ns (parent_word p) me t → (j : ℕ) (r : Row) → RowIs (rows_from p me t) j r
        → ShowsRow s ns (me + j) r
    rows_shown_from (tree place name count id ts) p me (x, y) zero r e = numbered r (omega arith) (subst (ShowsRow s ns me) (same_row e) x)
    rows_shown_from (tree place name count id ts) p me (x, y) (suc j) r e = numbered r (omega arith) (rows_shown_below ts me (me + 1) y j r e)

    rows_shown_below : (ts : Subtrees) (p me : ℕ) → ShowsSubtrees s ns p me ts → (j : ℕ) (r : Row) → RowIs (rows_below p me ts) j r → ShowsRow s ns (me + j) r
    rows_shown_below childless p me x j r e = no_row j r e
    rows_shown_below (beside t ts) p me (x, y) j r e =
        ⊎_elim (λ q. rows_shown_from t (some p) me x j r q)
        (λ (k, h, q). numbered r (omega (arith, rows_many t (some p) me)) (rows_shown_below ts p (me + nodes t) y k r q))
        (at_append (rows_from (some p) me t) (rows_below p (me + nodes t) ts) j r e)

  pub rows_shown : (t : Tree) → ShowsTree s ns (parent_word none) 0 t → (i : ℕ) (r : Row) → RowIs (rows t) i r → ShowsRow s ns i r
  rows_shown t x i r e = numbered r (omega arith) (rows_shown_from t none 0 x i r e)

-- ---- what a row of a spelled tree has

-- an id as its count says, and a name that ends before `end`
pub record SpelledRow (end : ℕ) (r : Row) : Type 0 where
  pub id : Id id_size r.count r.id
  pub inside : r.place + length r.name ≤ end

head_row : {h : List ℕ} {v : Head} → NodeHead id_size h v → Id id_size v.count v.id × (length v.name ≤ length h)
head_row (node_head {name = name} {c = c} {k = k} {id = id} x y z w) = (w, omega (arith, length-append name (0 ∷ (c ++ (32 ∷ (k ++ (10 ∷ id)))))))

mutual
  rows_spelled : (end : ℕ) (t : Tree) {place : ℕ} {b : List ℕ} → Node id_size place b t → place + length b ≤ end → (p : Option ℕ) (me j : ℕ) (r : Row)
      → RowIs (rows_from p me t) j r → SpelledRow end r
  rows_spelled end (tree place name count id ts) (node {h = h} {b = c} u us dd q) room p me zero r e =
      let (i, l) = head_row u in
      subst (SpelledRow end) (same_row e) (record { id = i; inside = omega (arith, ap length q, length-append h c) })
  rows_spelled end (tree place name count id ts) (node {h = h} {b = c} u us dd q) room p me (suc j) r e =
      rows_below_spelled end ts us (omega (arith, ap length q, length-append h c)) me (me + 1) j r e

  rows_below_spelled : (end : ℕ) (ts : Subtrees) {place k : ℕ} {b : List ℕ} → Nodes id_size place k b ts → place + length b ≤ end → (p me j : ℕ) (r : Row)
      → RowIs (rows_below p me ts) j r → SpelledRow end r
  rows_below_spelled end childless no_node room p me j r e = no_row j r e
  rows_below_spelled end (beside t ts) (one_node_lem {b = b} {c = c} u us q) room p me j r e =
      ⊎_elim (λ i. rows_spelled end t u (omega (arith, ap length q, length-append b c)) (some p) me j r i)
      (λ (k, h, i). rows_below_spelled end ts us (omega (arith, ap length q, length-append b c)) p (me + nodes t) k r i)
      (at_append (rows_from (some p) me t) (rows_below p (me + nodes t) ts) j r e)

-- ---- the tree of a file lies in the file

record TreeIn (s : List ℕ) (t : Tree) : Type 0 where
  place : ℕ
  body : List ℕ
  spelled_there : Node id_size place body t
  fits : place + length body ≤ length s

tree_in_file : {s : List ℕ} {m : Index} {t : Tree} → File id_size s m → m.tree ≡ some t → TreeIn s t
tree_in_file {s} {t = t} f e = of (spelled_in_space f) e
  where
    of : {m : Index} → Spells id_size (version_of s) (count_of s) (space id_size s) m → m.tree ≡ some t → TreeIn s t
    of (spells {b = b} {c = c} {es = es} i x y mark z) q = go z q
      where
        end : ℕ
        end = length s - id_size

        behind : drop (header_length + length b) (take end s) ≡ c
        behind = sym (drop-drop (length b) header_length (take end s)) ∙ ap (λ (l : List ℕ). drop (length b) l) i ∙ drop-append_seam b c

        ahead : header_length + length b ≤ end
        ahead =
            let long = (spelled_has_good_header f).long in
            omega (arith, long, ap length i, length-drop header_length (take end s), length-take-le end s (omega arith), length-append b c)

        go : {o : Option Tree} → CacheTree id_size (header_length + length b) es o → o ≡ some t → TreeIn s t
        go (spelled {place = place} {body = body} {t = v} l n) w =
            let same : v ≡ t = cc in
            let at = body_at s (header_length + length b) end ahead (omega arith) (subst (λ (l : List ℕ). Extensions l es) (sym behind) y) l in
            record { place = place; body = body; spelled_there = subst (Node id_size place body) same n; fits = omega (arith, at.fits) }
        go (malformed l n) w = let z : ◌≡◌ {A = ℕ} 0 1 = cc in absurd (omega arith)
        go (absent n) w = let z : ◌≡◌ {A = ℕ} 0 1 = cc in absurd (omega arith)

pub row_spelled : {s : List ℕ} {m : Index} {t : Tree} → File id_size s m → m.tree ≡ some t → (i : ℕ) (r : Row) → RowIs (rows t) i r → SpelledRow (length s) r
row_spelled {s} {t = t} f e i r q = let x = tree_in_file f e in rows_spelled (length s) t x.spelled_there x.fits none 0 i r q

-- ---- what is told of a row

module _ {s ns : List ℕ} {i : ℕ} {r : Row} (there : i < nodes_in ns) (x : ShowsRow s ns i r) (y : SpelledRow (length s) r) where
  pub name_stands : Stands s r.place (r.place + length r.name) r.name
  name_stands =
      let low : r.place ≤ r.place + length r.name = omega arith in
      record { ahead = low; inside = y.inside; bytes = name_part s ns i r.place (r.place + length r.name) (sym x.starts) (sym x.ends) low y.inside ∙ x.named }

  pub node_told : {code : ℕ} {values : List ℕ} → told code values [] ≡ tell_node ns i
      → (code ≡ 0) × (values ≡ r.place ∷ (r.place + length r.name) ∷ count_word r.count ∷ r.subtrees ∷ parent_word r.parent ∷ 1 ∷ 0 ∷ 0 ∷ [])
  node_told t = (
    ap (λ (t : Told). t.code) t,
    ap (λ (t : Told). t.values) t
        ∙ (λ k. x.starts k ∷ x.ends k ∷ x.counts k ∷ x.subtrees_there k ∷ x.parented k ∷ bit (lt-ltb i (nodes_in ns) there k) ∷ 0 ∷ 0 ∷ []),
  )

  id_first : {count : Count} {id : List ℕ} → Id id_size count id → take id_size (id_bytes id) ≡ id_told count id
  id_first (of_tree {id = id} e) = take_at id (replicate (id_room - length id) 0) id_size e
  id_first no_id = refl

  id_cut : id_at id_size ns i ≡ take id_size (id_at id_room ns i)
  unfolding id_at
  id_cut = rw (lt-ltb i (nodes_in ns) there) (sym (take-take id_size id_room (drop (i * node_size + id_place) ns) (lit≤ tt)))

  pub node_id_told : node_id ns i ≡ id_told r.count r.id
  unfolding node_id
  node_id_told = rw (lt-ltb i (nodes_in ns) there) (id_cut ∙ ap (λ (l : List ℕ). take id_size l) x.identified ∙ id_first y.id)

-- behind the last one every number is 0
pub no_node_told : (ns : List ℕ) (i : ℕ) → nodes_in ns ≤ i → {code : ℕ} {values : List ℕ} → told code values [] ≡ tell_node ns i
    → (code ≡ 0) × (values ≡ replicate 8 0)
no_node_told ns i h t =
    let z : (k : ℕ) → word_at k ns i ≡ 0 = λ k. sym (word_out k ns i h) in (
      ap (λ (t : Told). t.code) t,
      ap (λ (t : Told). t.values) t ∙ (λ k. z 0 k ∷ z 8 k ∷ z 16 k ∷ z 24 k ∷ z 32 k ∷ bit (le-ltb i (nodes_in ns) h k) ∷ 0 ∷ 0 ∷ []),
    )
