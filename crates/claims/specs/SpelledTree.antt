-- THE PREMISE ON THE TREE, of a file that is spelled and has a tree: `TreeFits` says that the tree is no deeper than the limit and has no more nodes than are
-- lent. With a good trailer and room for the entries, a file whose tree is deeper is refused with 9, and one whose tree has more nodes with 10. Assumes that
-- the file is bytes and that no slice has 2^64 bytes or more, the premise `Slices`.
use Rattle.std.specs.Prelude.{ℕ, suc, ◌+◌, ◌≤◌, ◌<◌, ◌≡◌, List, ◌++◌, ◌↔◌, length, Err}
use Rattle.std.proofs.Common.{subst, arith}
use Rattle.std.proofs.Math.Option.{Option, some}
use Rattle.format.specs.Format.{depth_limit}
use Rattle.kind.specs.Kind.{Kind}
use Rattle.file.specs.Read.{read_file}
use Rattle.grammar.specs.Entry.{Meaning, start, Entries}
use Rattle.grammar.specs.Extension.{Ext, TREE, Extensions, LastSigned}
use Rattle.grammar.specs.Tree.{Tree, depth, nodes, Node}
use Rattle.grammar.specs.File.{Index, header_length, CacheTree, spelled, malformed, absent, File, version_of, count_of, space}
use Rattle.grammar.proofs.Space.{Spells, spells, spelled_has_good_header, spelled_in_space}
use Rattle.grammar.proofs.DecideExtension.{none_not_last, last_unique}
use Rattle.grammar.proofs.DecideFile.{sparse_of, sparse_tells}
use Rattle.grammar.proofs.Unique.{entries_unique, extensions_unique}
use Rattle.grammar.proofs.Reach.{reaches_within, reaches_each_depth, reaches_each_node, depth_within, nodes_within}
use Rattle.claims_entries.specs.Said.{RoomFor}
use Rattle.claims_tree.specs.Said.{lent, KeepsWithinDepth, HasRoom}
use Rattle.claims.specs.Premises.{Slices, GoodTrailer}
use Rattle.claims.specs.Said.{Opened, WithTree}
use Rattle.claims.specs.Claims.{LastTREE, NoTREE, TreeFits, refusal_9_exactly, refusal_10_exactly}
use Rattle.file.specs.declared.Error.TheVariants.{NoNodeRoom, TooDeep}

module _ (kind : Kind) where
  -- ---- a file has one last TREE, or none

  -- the entries of a file, and the extensions behind them, are the same however its space is cut
  one_cut : (s : List ℕ) {b c b₂ c₂ : List ℕ} {ms ms₂ : List Meaning} {es es₂ : List Ext} → space kind.id s ≡ b ++ c → Entries kind.id (version_of s) start (count_of s) b ms
      → Extensions c es → space kind.id s ≡ b₂ ++ c₂ → Entries kind.id (version_of s) start (count_of s) b₂ ms₂ → Extensions c₂ es₂ → (b ≡ b₂) × (es ≡ es₂)
  one_cut s {b} {c} {b₂} {c₂} {ms} {ms₂} {es} {es₂} i x y i₂ x₂ y₂ =
      let (m, r, p) = entries_unique kind.id (version_of s) start (count_of s) (space kind.id s) ms ms₂ c c₂ (b, i, x) (b₂, i₂, x₂) in
      (p, extensions_unique c₂ es es₂ (subst (λ (l : List ℕ). Extensions l es) r y) y₂)

  pub one_last_TREE : {s : List ℕ} {p q : ℕ} {body body₂ : List ℕ} → LastTREE kind s p body → LastTREE kind s q body₂ → (p ≡ q) × (body ≡ body₂)
  one_last_TREE {s} {p = p} {body = body} x y =
      let (b, e) = one_cut s x.joins x.entries x.extensions y.joins y.entries y.extensions in
      let l : LastSigned TREE (header_length + length y.b) x.es p body = subst (λ (a : List ℕ). LastSigned TREE (header_length + length a) x.es p body) b x.last in
      last_unique (subst (λ (es : List Ext). LastSigned TREE (header_length + length y.b) es p body) e l) y.last

  pub no_TREE_fits : (s ns : List ℕ) → NoTREE kind s → TreeFits kind s ns
  no_TREE_fits s ns x place body y =
      let (b, e) = one_cut s y.joins y.entries y.extensions x.joins x.entries x.extensions in
      absurd (none_not_last x.no_last (subst (λ (l : List Ext). LastSigned TREE (header_length + length y.b) l place body) e y.last))

  -- ---- the tree of a file that is spelled

  -- the last TREE is there, and it spells this tree
  abbrev HasTree : List ℕ → Tree → Type 0
  HasTree s t = (place : ℕ) × (body : List ℕ) × LastTREE kind s place body × Node kind.id place body t

  its_tree : {s : List ℕ} {m : Index} {t : Tree} → File kind.id s m → m.tree ≡ some t → HasTree s t
  its_tree {s} {t = t} x e = of (spelled_in_space x) e
    where
      of : {m : Index} → Spells kind.id (version_of s) (count_of s) (space kind.id s) m → m.tree ≡ some t → HasTree s t
      of (spells {b = b} {c = c} {ms = ms} {es = es} i y z k w) = go w
        where
          go : {o : Option Tree} → CacheTree kind.id (header_length + length b) es o → o ≡ some t → HasTree s t
          go (spelled {place = place} {body = body} {t = v} l n) e =
              let q : v ≡ t = cc in
              (place, body, record { b = b; c = c; ms = ms; es = es; joins = i; entries = y; extensions = z; last = l }, subst (Node kind.id place body) q n)
          go (malformed l f) e = let z : ◌≡◌ {A = ℕ} 0 1 = cc in absurd (omega arith)
          go (absent f) e = let z : ◌≡◌ {A = ℕ} 0 1 = cc in absurd (omega arith)

  module _ (s ns : List ℕ) (m : Index) (t : Tree) (x : File kind.id s m) (has : m.tree ≡ some t) where
    -- the premise in the demand's words: a tree at most as deep as the limit, and a node store that is large enough
    pub tree_fits_exactly : TreeFits kind s ns ↔ ((depth t ≤ depth_limit) × (nodes t ≤ lent ns))
    tree_fits_exactly =
        let (place, body, last, n) = its_tree x has in (
          (λ fits.
              let (shallow, lent-enough) = fits place body last in
              ((depth_within kind.id body place t n depth_limit).0 shallow, (nodes_within kind.id body place t n (lent ns)).0 lent-enough)),
          (λ (d, k) p other l.
              subst (λ (b : List ℕ). KeepsWithinDepth kind.id b depth_limit × HasRoom kind.id b (lent ns)) (one_last_TREE last l).1
              ((depth_within kind.id body place t n depth_limit).1 d, (nodes_within kind.id body place t n (lent ns)).1 k)),
        )

    module _ (rs ps : List ℕ) (slices : Slices s ps ns) (good_trailer_lem : GoodTrailer kind s) (room : RoomFor kind.id (version_of s) (space kind.id s) (count_of s) rs ps) where
      opened : Opened kind s
      opened = record { header = spelled_has_good_header x; trailer = good_trailer_lem }

      within : {place : ℕ} {body : List ℕ} (w : LastTREE kind s place body) → WithTree kind s rs ps ns w.b w.c w.ms w.es (sparse_of w.ms w.es) place body
      within w =
          record {
            entries = record { joins = w.joins; spelled = w.entries; fits = room (count_of s) w.ms w.c (omega arith) (w.b, w.joins, w.entries) };
            extensions = w.extensions;
            mark = sparse_tells w.ms w.es;
            last = w.last;
          }

      pub deeper_is_refused_with_9 : depth_limit < depth t → nodes t ≤ lent ns → (read_file kind depth_limit s rs ps ns).answer ≡ Err TooDeep
      deeper_is_refused_with_9 h k =
          let (place, body, w, n) = its_tree x has in
          let (j, r) = reaches_each_depth kind.id body place t n depth_limit h in
          let few : j ≤ lent ns = omega (arith, (reaches_within kind.id body place t n (suc depth_limit) j r).1) in
          (refusal_9_exactly kind s rs ps ns slices).1 (opened, (w.b, w.c, w.ms, w.es, sparse_of w.ms w.es, place, body, within w, (j, few, r)))

      pub larger_is_refused_with_10 : depth t ≤ depth_limit → lent ns < nodes t → (read_file kind depth_limit s rs ps ns).answer ≡ Err NoNodeRoom
      larger_is_refused_with_10 h k =
          let (place, body, w, n) = its_tree x has in
          (refusal_10_exactly kind s rs ps ns slices).1 (
            opened,
            (
              w.b,
              w.c,
              w.ms,
              w.es,
              sparse_of w.ms w.es,
              place,
              body,
              within w,
              (reaches_each_node kind.id body place t n (lent ns) k, λ (j, l, r). (depth_within kind.id body place t n depth_limit).1 h j r),
            ),
          )
