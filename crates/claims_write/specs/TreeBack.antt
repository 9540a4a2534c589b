-- THE TREE READS BACK: where a node table is given and TREE asked for, and the writer is done, the reader's node store holds the table's tree (`SameTree`):
-- each node once, with its parent, count, subtree count, id and name, siblings in byte order of name. Assumes that the file is bytes and that no slice has
-- 2^64 bytes or more, premises with names.
use Prim.Native.Nat.{ℕ, zero, suc, ◌+◌, ◌*◌, ◌^◌, ◌≤◌, ◌<◌}
use Rattle.std.specs.Prelude.{◌≡◌, refl, Bool, true, false, ◌⊎◌, eqb, get_or, take, drop, Ok}
use Rattle.std.proofs.Math.Path.{sym, ap, subst}
use Rattle.std.proofs.Common.{◌∙◌, inl, inr, ⊎_elim, arith, lit≤, length-append}
use mathlib.Core.List.{List, [], ◌∷◌, ◌++◌, append-nil}
use Rattle.std.proofs.Math.Option as option
use Rattle.std.proofs.Math.ListN.{length, length-drop}
use Rattle.std.proofs.Math.Seq.{take-append-le}
use Rattle.std.proofs.lemmas.List.{drop-append-le}
use borrow.Author.Tests.{lt-ltb, eq-eqb}
use Rattle.laws.specs.Pick.{pick}
use Rattle.laws.specs.Tests.{tri, Same, same, differs, same?}
use Rattle.format.specs.Format.{depth_limit, id_room}
use Rattle.wire.specs.BigEndian.{be_left}
use Rattle.kind.specs.Kind.{Kind}
use Rattle.entry.specs.Paths.{Paths}
use Rattle.node.specs.Head.{minus_one}
use Rattle.node.specs.Store.{nodes_in, word_at, parent_at, id_at, part_of, name_at}
use Rattle.tree_write.specs.Kids.{Mem, here, there}
use Rattle.write.specs.declared.Options.{Options}
use Rattle.write.specs.File.{header_of, tree_head, extension_head, sparse_part, eoie_part, trailer_of, writes_tree, tree_signature, offset_of, version_of, write_all}
use Rattle.write.specs.Extensions.{bytes_for}
use Rattle.write.specs.Parts.{length-head, length-header}
use Rattle.write_entries.specs.Entries.{table_bytes}
use Rattle.grammar.specs.Tree.{Tree, Node}
use Rattle.claims_entries.specs.Place.{Lies, lies_left, lies_right, lies_at}
use Rattle.claims.specs.Premises.{Slices}
use Rattle.claims_tree.specs.Rendering.{tree_bytes, filled}
use Rattle.proper.specs.Table.{Proper}
use Rattle.claims_tree.specs.Shown.{ShowsTree, tree_length, rendered_is_shown}
use Rattle.claims_write.specs.Tree.{hits, root, tree_at}
use Rattle.claims_write.specs.Meaning.{PathsEnd}
use Rattle.claims_write.specs.Spelled.{tree_body, tree_place, tree_meant, written, behind_entries, before, count, has, toc, written_parts, file_is}
use Rattle.claims_write.specs.Trees.{tree_written, proper, written_tree_is_spelled, tree_is_meant, written_tree_nodes}
use Rattle.claims_write.specs.Claims.{bytes, reading, Roomy, tree_reads_back}
use Rattle.claims_write.specs.Count.{walk, met_once, walk_inside, walk_length}
use Rattle.claims_write.specs.SameTree.{SameNode, SameTree}
use Rattle.claims_write.specs.Forest.{forest_nodes, forest_parents, forest_by_name, forest_in_order, Planted, planted}
use Rattle.write.specs.Made.{written_with}

-- ---- a list that has each number once

there_is : (w : List ℕ) (j : ℕ) → j < length w → Mem (get_or w j 0) w
there_is [] j h = absurd (omega arith)
there_is (x ∷ w) zero h = here
there_is (x ∷ w) (suc j) h = there (there_is w j (omega arith))

unfoldable place_of : List ℕ → ℕ → ℕ
place_of [] i = 0
place_of (x ∷ w) i = pick (eqb x i) 0 (suc (place_of w i))

place_found : (w : List ℕ) (i : ℕ) → 0 < hits w i → (place_of w i < length w) × (get_or w (place_of w i) 0 ≡ i)
unfolding hits place_of
place_found [] i h = absurd (omega arith)
place_found (x ∷ w) i h = by (same? x i) h (λ k. place_found w i k)
  where
    by : {t : Bool} → Same x i t → 0 < pick t 1 0 + hits w i → (0 < hits w i → (place_of w i < length w) × (get_or w (place_of w i) 0 ≡ i))
        → (pick t 0 (suc (place_of w i)) < length (x ∷ w)) × (get_or (x ∷ w) (pick t 0 (suc (place_of w i))) 0 ≡ i)
    by (same e) h ih = (omega arith, e)
    by (differs d) h ih = let (a, b) = ih (omega arith) in (omega arith, b)

hit_there : (w : List ℕ) (i j : ℕ) → j < length w → get_or w j 0 ≡ i → 1 ≤ hits w i
unfolding hits
hit_there [] i j h e = absurd (omega arith)
hit_there (x ∷ w) i zero h e = rw (eq-eqb x i e) (omega arith)
hit_there (x ∷ w) i (suc j) h e = omega (arith, hit_there w i j (omega arith) e)

hit_twice : (w : List ℕ) (i j k : ℕ) → j < k → k < length w → get_or w j 0 ≡ i → get_or w k 0 ≡ i → 2 ≤ hits w i
unfolding hits
hit_twice [] i j k h l e f = absurd (omega arith)
hit_twice (x ∷ w) i j zero h l e f = absurd (omega arith)
hit_twice (x ∷ w) i zero (suc k) h l e f = rw (eq-eqb x i e) (omega (arith, hit_there w i k (omega arith) f))
hit_twice (x ∷ w) i (suc j) (suc k) h l e f = omega (arith, hit_twice w i j k (omega arith) (omega arith) e f)

-- ---- a store that shows the table's tree holds it

module _ (n limit : ℕ) (ns nm : List ℕ) (small : n ≤ id_room) (few : length ns < 2 ^ 64) (proper : Proper limit ns nm) (s ms : List ℕ) (place : ℕ)
    (room : nodes_in ns ≤ nodes_in ms)
    (shows : ShowsTree s ms minus_one 0 (tree_at n ns nm limit place 0)) where
  abbrev order : List ℕ
  order = walk ns nm limit 0

  abbrev at : ℕ → ℕ
  at j = get_or order j 0

  whole : Planted n ns nm s ms limit minus_one 0 0
  whole = planted n limit ns nm small few proper s ms limit 1 0 minus_one 0 place proper.some root (omega arith) shows

  size : length order ≡ nodes_in ns
  size = walk_length limit ns nm proper

  later_size : suc (length whole.rest) ≡ nodes_in ns
  later_size = sym (ap length whole.whole) ∙ size

  at_first : at 0 ≡ 0
  at_first = ap (λ (w : List ℕ). get_or w 0 0) whole.whole

  at_later : (j : ℕ) → at (suc j) ≡ get_or whole.rest j 0
  at_later j = ap (λ (w : List ℕ). get_or w (suc j) 0) whole.whole

  pub shown_is_same : SameTree n ns nm s ms at
  shown_is_same = record {
    room = room;
    inside = λ j h. walk_inside limit ns nm proper limit 0 (at j) proper.some (there_is order j (omega (arith, size)));
    stored = λ i h. let (a, b) = place_found order i (omega (arith, met_once limit ns nm proper i h)) in (place_of order i, omega (arith, size), b);
    once = λ j k h l e. once_only j k h l e;
    nodes = each_node;
    first = at_first;
    root = whole.up;
    parent = each_parent;
    by_name = λ j k a b c. forest_by_name n ns nm s ms whole.forest (omega arith) j k (omega arith) b (omega (arith, later_size));
    in_order = λ j k a b c. forest_in_order n ns nm s ms whole.forest (omega arith) j k (omega arith) b (omega (arith, later_size));
  }
    where
      met : (j : ℕ) → j < nodes_in ns → hits order (at j) ≡ 1
      met j h = met_once limit ns nm proper (at j) (walk_inside limit ns nm proper limit 0 (at j) proper.some (there_is order j (omega (arith, size))))

      once_only : (j k : ℕ) → j < nodes_in ns → k < nodes_in ns → at j ≡ at k → j ≡ k
      once_only j k h l e =
          ⊎_elim (λ m. absurd (omega (arith, met j h, hit_twice order (at j) j k m (omega (arith, size)) refl (sym e))))
          (⊎_elim (λ m. m) (λ m. absurd (omega (arith, met j h, hit_twice order (at j) k j m (omega (arith, size)) (sym e) refl))))
          (tri j k)

      each_node : (j : ℕ) → j < nodes_in ns → SameNode n ns nm (at j) s ms j
      each_node zero h = subst (λ (i : ℕ). SameNode n ns nm i s ms 0) (sym at_first) whole.own
      each_node (suc j) h =
          let e : 0 + 1 + j ≡ suc j = omega arith in
          subst (λ (i : ℕ). SameNode n ns nm i s ms (suc j)) (sym (at_later j))
          (subst (λ (k : ℕ). SameNode n ns nm (get_or whole.rest j 0) s ms k) e (forest_nodes n ns nm s ms whole.forest j (omega (arith, later_size))))

      each_parent : (j : ℕ) → 0 < j → j < nodes_in ns → (parent_at ms j < j) × (at (parent_at ms j) ≡ parent_at ns (at j))
      each_parent zero h l = absurd (omega arith)
      each_parent (suc j) h l = by (forest_parents n ns nm s ms whole.forest j (omega (arith, later_size)))
        where
          e : 0 + 1 + j ≡ suc j
          e = omega arith

          by : ((parent_at ms (0 + 1 + j) ≡ 0) × (parent_at ns (get_or whole.rest j 0) ≡ 0))
              ⊎ ((q : ℕ) × (q < j) × (parent_at ms (0 + 1 + j) ≡ 0 + 1 + q) × (parent_at ns (get_or whole.rest j 0) ≡ get_or whole.rest q 0))
              → (parent_at ms (suc j) < suc j) × (at (parent_at ms (suc j)) ≡ parent_at ns (at (suc j)))
          by (inl (a, b)) =
              let p : parent_at ms (suc j) ≡ 0 = ap (parent_at ms) (sym e) ∙ a in
              (omega arith, ap at p ∙ at_first ∙ sym (ap (parent_at ns) (at_later j) ∙ b))
          by (inr (q, m, a, b)) =
              let f : 0 + 1 + q ≡ suc q = omega arith in
              let p : parent_at ms (suc j) ≡ suc q = ap (parent_at ms) (sym e) ∙ a ∙ f in
              (omega arith, ap at p ∙ at_later q ∙ sym (ap (parent_at ns) (at_later j) ∙ b))

-- ---- what stands behind the nodes changes none of them

module _ (a b : List ℕ) (j : ℕ) (h : j < nodes_in a) where
  more_room : j < nodes_in (a ++ b)
  more_room = omega (arith, length-append a b)

  same_word : (k : ℕ) → k + 8 ≤ 72 → word_at k (a ++ b) j ≡ word_at k a j
  unfolding word_at
  same_word k l = rw (lt-ltb j (nodes_in (a ++ b)) more_room, lt-ltb j (nodes_in a) h) (be_left 8 a b (j * 72 + k) (omega arith))

  same_id : (n : ℕ) → n ≤ id_room → id_at n (a ++ b) j ≡ id_at n a j
  unfolding id_at
  same_id n l =
      let k : ℕ = j * 72 + 40 in
      rw (lt-ltb j (nodes_in (a ++ b)) more_room, lt-ltb j (nodes_in a) h)
      (ap (take n) (drop-append-le k a b (omega arith)) ∙ take-append-le n (drop k a) b (omega (arith, length-drop k a)))

  same_name : (s : List ℕ) → name_at s (a ++ b) j ≡ name_at s a j
  unfolding name_at
  same_name s = ap (λ (m : ℕ). part_of s m (word_at 8 (a ++ b) j)) (same_word 0 (lit≤ tt)) ∙ ap (λ (m : ℕ). part_of s (word_at 0 a j) m) (same_word 8 (lit≤ tt))

  same_node_behind : (n : ℕ) → n ≤ id_room → (ns nm : List ℕ) (i : ℕ) (s : List ℕ) → SameNode n ns nm i s a j → SameNode n ns nm i s (a ++ b) j
  same_node_behind n l ns nm i s x = record {
    name = same_name s ∙ x.name;
    spans = same_word 8 (lit≤ tt) ∙ x.spans ∙ ap (λ (m : ℕ). m + length (name_at nm ns i)) (sym (same_word 0 (lit≤ tt)));
    count = same_word 16 (lit≤ tt) ∙ x.count;
    subtrees = same_word 24 (lit≤ tt) ∙ x.subtrees;
    id = λ d. same_id n l ∙ x.id d;
    no_id = λ e. same_id n l ∙ x.no_id e;
  }

-- so a tree in front of a store is in the store
in_front : (n : ℕ) → n ≤ id_room → (ns nm s a b : List ℕ) (at : ℕ → ℕ) → 0 < nodes_in ns → SameTree n ns nm s a at → SameTree n ns nm s (a ++ b) at
in_front n small ns nm s a b at some x = record {
  room = omega (arith, x.room, length-append a b);
  inside = x.inside;
  stored = x.stored;
  once = x.once;
  nodes = λ j h. same_node_behind a b j (there_too j h) n small ns nm (at j) s (x.nodes j h);
  first = x.first;
  root = same_parent 0 some ∙ x.root;
  parent = λ j h l. subst (λ (p : ℕ). (p < j) × (at p ≡ parent_at ns (at j))) (sym (same_parent j l)) (x.parent j h l);
  by_name = λ j k h l m e.
      let i : j < nodes_in ns = omega arith in
      rw (same_name a b j (there_too j i) s, same_name a b k (there_too k m) s) (x.by_name j k h l m (sym (same_parent j i) ∙ e ∙ same_parent k m));
  in_order = λ j k h l m e.
      let i : j < nodes_in ns = omega arith in
      rw (same_parent k m, same_parent j i) (x.in_order j k h l m (rw (same_parent k m) at e));
}
  where
    there_too : (j : ℕ) → j < nodes_in ns → j < nodes_in a
    there_too j h = omega (arith, x.room)

    same_parent : (j : ℕ) → j < nodes_in ns → parent_at (a ++ b) j ≡ parent_at a j
    same_parent j h = same_word a b j (there_too j h) 32 (lit≤ tt)

module _ (kind : Kind) where
  -- ---- where TREE's body stands in the file

  module _ (rs : List ℕ) (ps : Paths) (ns nm : List ℕ) (o : Options) (asked : writes_tree o ≡ true) where
    body_lies : Lies (written kind rs ps ns nm o) (tree_place kind rs ps) (length (written kind rs ps ns nm o)) (tree_body kind ns nm)
    unfolding tree_head
    body_lies =
        let w : List ℕ = written kind rs ps ns nm o in
        let h : List ℕ = header_of (version_of rs) (count kind rs ps ns nm o) in
        let t : List ℕ = table_bytes kind.id rs ps in
        let b : List ℕ = behind_entries kind rs ps ns nm o in
        let r : List ℕ = trailer_of kind o.unhashed (before kind rs ps ns nm o) in
        let e : List ℕ = eoie_part kind (has kind rs ps ns nm o) (offset_of kind.id rs ps) (toc kind rs ps ns nm o) in
        let body : List ℕ = tree_body kind ns nm in
        let head : List ℕ = extension_head tree_signature (length body) in
        let sparse : List ℕ = sparse_part o.sparse in
        let parts : b ≡ ((head ++ body) ++ sparse) ++ e =
        ap (λ (x : List ℕ). x ++ e) (bytes_for (writes_tree o) body o.sparse ∙ ap (λ (t : Bool). (pick t (extension_head tree_signature (length (pick t body []))) [] ++ pick t body []) ++ sparse) asked) in
        let all : Lies w 0 (length w) w = record { fits = omega arith; rest = []; is = sym (append-nil w) } in
        let l₀ : Lies w 0 (length w) (h ++ (t ++ (b ++ r))) = subst (λ (x : List ℕ). Lies w 0 (length w) x) (written_parts kind rs ps ns nm o) all in
        let l₁ = lies_left b r (lies_right t (b ++ r) (lies_right h (t ++ (b ++ r)) l₀)) in
        let l₂ : Lies w (0 + length h + length t) (length w) (((head ++ body) ++ sparse) ++ e) =
        subst (λ (x : List ℕ). Lies w (0 + length h + length t) (length w) x) parts l₁ in
        lies_at (lies_right head body (lies_left (head ++ body) sparse (lies_left ((head ++ body) ++ sparse) e l₂)))
        (omega (arith, length-header (version_of rs) (count kind rs ps ns nm o), length-head tree_signature (length body) refl))

  -- TREE is written if a table is given and TREE is asked for
  both : (o : Options) → o.tree ≡ true → o.cache ≡ true → writes_tree o ≡ true
  unfolding writes_tree
  both o given wanted = ap (λ (t : Bool). pick t o.cache false) given ∙ wanted

  -- ---- THE THEOREMS

  module _ (rs : List ℕ) (ps : Paths) (ns nm : List ℕ) (o : Options) (out : List ℕ) (version size : ℕ)
      (done : (write_all kind depth_limit rs ps ns nm o out).answer ≡ Ok (written_with version size)) (few : length ns < 2 ^ 64) (ends : PathsEnd rs ps)
      (records' paths' nodes' : List ℕ)
      (slices : Slices (bytes kind rs ps ns nm o out version size done few ends records' paths' nodes') paths' nodes')
      (roomy : Roomy kind rs ps ns o records' paths' nodes') where
    abbrev file : List ℕ
    file = bytes kind rs ps ns nm o out version size done few ends records' paths' nodes'

    -- the tree that is written, as it is rendered into a store
    abbrev stored : List ℕ
    stored = tree_bytes (tree_written kind rs ps ns nm)

    abbrev order_of_lem : ℕ → ℕ
    order_of_lem j = get_or (walk ns nm depth_limit 0) j 0

    module _ (asked : writes_tree o ≡ true) where
      fits : Proper depth_limit ns nm
      fits = proper kind rs ps ns nm o out version size done few asked

      rendered : SameTree kind.id ns nm file stored order_of_lem
      rendered =
          let t : Tree = tree_written kind rs ps ns nm in
          let spelled : Node kind.id (tree_place kind rs ps) (tree_body kind ns nm) t = written_tree_is_spelled kind rs ps ns nm o out version size done few asked in
          let many : length stored ≡ nodes_in ns * 72 =
          tree_length kind.id kind.fits t spelled minus_one 0 ∙ ap (λ (k : ℕ). k * 72) (written_tree_nodes kind rs ps ns nm o out version size done few asked) in
          let lies : Lies file (tree_place kind rs ps) (length file) (tree_body kind ns nm) =
          subst (λ (f : List ℕ). Lies f (tree_place kind rs ps) (length f) (tree_body kind ns nm)) (sym (file_is kind rs ps ns nm o out version size done))
          (body_lies rs ps ns nm o asked) in
          let shown : ShowsTree file stored minus_one 0 t =
          rendered_is_shown kind.id kind.fits file (length file) (omega arith) slices.file t spelled lies (omega arith) in
          shown_is_same kind.id depth_limit ns nm kind.fits few fits file stored (tree_place kind rs ps) (omega arith) shown

    -- the tree that the written file means is the table's
    pub written_tree_is_the_tables : o.tree ≡ true → o.cache ≡ true → (t : Tree) × (tree_meant kind rs ps ns nm o ≡ option.some t) × ((at : ℕ → ℕ) × SameTree kind.id ns nm file (tree_bytes t) at)
    written_tree_is_the_tables given wanted =
        let asked : writes_tree o ≡ true = both o given wanted in
        (tree_written kind rs ps ns nm, tree_is_meant kind rs ps ns nm o out version size done few asked, (order_of_lem, rendered asked))

    -- and it reads back
    pub tree_reads_back_node_by_node : o.tree ≡ true → o.cache ≡ true
        → (at : ℕ → ℕ) × SameTree kind.id ns nm file (reading kind rs ps ns nm o out version size done few ends records' paths' nodes').nodes at
    tree_reads_back_node_by_node given wanted =
        let asked : writes_tree o ≡ true = both o given wanted in
        let left : (reading kind rs ps ns nm o out version size done few ends records' paths' nodes').nodes ≡ filled nodes' stored =
        tree_reads_back kind rs ps ns nm o out version size done few ends records' paths' nodes' slices roomy asked in (
          order_of_lem,
          subst (λ (m : List ℕ). SameTree kind.id ns nm file m order_of_lem) (sym left)
              (in_front kind.id kind.fits ns nm file stored (drop (length stored) nodes') order_of_lem (fits asked).some (rendered asked)),
        )
