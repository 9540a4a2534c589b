-- The nodes of a store that shows the tree of a proper node table, by their numbers: which node of the table each of them is, where its parent stands, and in
-- which order siblings stand. Over the length of an id and the depth. Assumes nothing.
use Prim.Native.Nat.{ℕ, zero, suc, ◌+◌, ◌-◌, ◌*◌, ◌^◌, ◌≤◌, ◌<◌}
use Rattle.std.specs.Prelude.{◌≡◌, refl, Bool, true, false, ◌⊎◌, ltb, eqb, get_or, take, drop, replicate}
use Rattle.std.proofs.Math.Path.{sym, ap, subst}
use Rattle.std.proofs.Common.{◌∙◌, inl, inr, ⊎_elim, arith, length-append, take_at, take-take, get_or-append-add, lt-ltb, eq-eqb, ne_eqb}
use mathlib.Core.List.{List, [], ◌∷◌, ◌++◌}
use Rattle.std.proofs.Math.ListN.{length, get_or-append}
use Rattle.std.proofs.Math.Seq.{take-nil}
use Rattle.laws.specs.Pick.{pick}
use Rattle.laws.specs.Lists.{length_part, take-replicate}
use Rattle.laws.specs.Order.{Before}
use Rattle.laws.specs.Tests.{lt_or_ge, Same, same, differs, same?}
use Rattle.format.specs.Format.{id_room}
use Rattle.node.specs.Head.{minus_one}
use Rattle.node.specs.Store.{nodes_in, count_at, subtrees_at, parent_at, id_at, name_at}
use Rattle.tree_write.specs.Order.{before, before_names}
use Rattle.tree_write.specs.Tree.{id_bytes, head_bytes, each, node_bytes}
use Rattle.tree_write.specs.Kids.{Mem, here, there, Rising, done, more}
use Rattle.proper.specs.Table.{Proper}
use Rattle.grammar.specs.Number.{covers, invalid}
use Rattle.grammar.specs.Tree.{Subtrees, nodes}
use Rattle.claims_tree.specs.Rendering.{count_word, how_many, id_bytes as idFilled}
use Rattle.claims_tree.specs.Shown.{ShowsNode, ShowsTree, ShowsSubtrees}
use Rattle.claims_write.specs.SameTree.{SameNode}
use Rattle.claims_write.specs.Tree.{count_meant, kids_of, kids_are, kids_rise, length-kids, Level, below, level_within, same_name, subtrees_of, tree_at}
use Rattle.claims_write.specs.Count.{walk, nodes_walked}
use Rattle.claims_write.specs.Listed.{how_many_lem}

-- ---- ONE NODE

count_kept : (v : ℕ) → count_word (count_meant v) ≡ v
count_kept v = by (same? v minus_one)
  where
    by : {t : Bool} → Same v minus_one t → count_word (pick t invalid (covers v)) ≡ v
    by (same e) = sym e
    by (differs d) = refl

-- the first bytes of an id's place
id_front : (n : ℕ) (ms : List ℕ) (j : ℕ) → n ≤ id_room → take n (id_at id_room ms j) ≡ id_at n ms j
unfolding id_at
id_front n ms j small = by (ltb j (nodes_in ms))
  where
    by : (t : Bool) → take n (pick t (take id_room (drop (j * 72 + 40) ms)) []) ≡ pick t (take n (drop (j * 72 + 40) ms)) []
    by true = take-take n id_room (drop (j * 72 + 40) ms) small
    by false = take-nil n

length-id : (n : ℕ) (ns : List ℕ) (i : ℕ) → n ≤ id_room → i < nodes_in ns → length (id_at n ns i) ≡ n
unfolding id_at
length-id n ns i small h = rw (lt-ltb i (nodes_in ns) h) (length_part n (i * 72 + 40) ns (omega arith))

same_node : (n : ℕ) (ns nm : List ℕ) (i : ℕ) (s ms : List ℕ) (j parent place k : ℕ) → n ≤ id_room → i < nodes_in ns → k ≡ subtrees_at ns i
    → ShowsNode s ms j parent place (name_at nm ns i) (count_meant (count_at ns i)) (id_bytes n ns i) k → SameNode n ns nm i s ms j
unfolding id_bytes
same_node n ns nm i s ms j parent place k small h many x =
    record {
      name = x.named;
      spans = omega (arith, x.starts, x.ends);
      count = x.counts ∙ count_kept (count_at ns i);
      subtrees = x.subtrees_there ∙ many;
      id = λ d. front ∙ ap (λ (t : Bool). take n (idFilled (pick t [] (id_at n ns i)))) (ne_eqb (count_at ns i) minus_one d)
          ∙ take_at (id_at n ns i) (replicate (id_room - length (id_at n ns i)) 0) n (length-id n ns i small h);
      no_id = λ e. front ∙ ap (λ (t : Bool). take n (idFilled (pick t [] (id_at n ns i)))) (eq-eqb (count_at ns i) minus_one e) ∙ take-replicate n id_room 0 small;
    }
  where
    front : id_at n ms j ≡ take n (idFilled (pick (eqb (count_at ns i) minus_one) [] (id_at n ns i)))
    front = sym (id_front n ms j small) ∙ ap (take n) x.identified

-- ---- A FOREST IN THE STORE

-- trees one behind the other, from number `me` on, whose roots have the parent p in the store and the parent i in the table: the roots are the nodes l of the
-- table, and all nodes, in their order, are its nodes w
pub data Forest (n : ℕ) (ns nm s ms : List ℕ) : ℕ → ℕ → ℕ → List ℕ → List ℕ → Type 0 where
  no_trees : {p i me : ℕ} → Forest n ns nm s ms p i me [] []
  one_tree : {p i me x : ℕ} {l k a b : List ℕ} → SameNode n ns nm x s ms me → parent_at ms me ≡ p → parent_at ns x ≡ i
      → ((y : ℕ) → Mem y l → Before (name_at nm ns x) (name_at nm ns y))
      → Forest n ns nm s ms me x (me + 1) k a → Forest n ns nm s ms p i (me + suc (length a)) l b → Forest n ns nm s ms p i me (x ∷ l) (x ∷ (a ++ b))

-- what a list of two parts has behind the first
behind : (a b : List ℕ) (j : ℕ) → length a ≤ j → get_or (a ++ b) j 0 ≡ get_or b (j - length a) 0
behind a b j h = let e : length a + (j - length a) ≡ j = omega arith in ap (λ (m : ℕ). get_or (a ++ b) m 0) (sym e) ∙ get_or-append-add a b (j - length a) 0

module _ (n : ℕ) (ns nm s ms : List ℕ) where
  -- each node is the one that the list says
  pub forest_nodes : {p i me : ℕ} {l w : List ℕ} → Forest n ns nm s ms p i me l w → (j : ℕ) → j < length w → SameNode n ns nm (get_or w j 0) s ms (me + j)
  forest_nodes no_trees j h = absurd (omega arith)
  forest_nodes (one_tree {me = me} {x = x} own up under past f g) zero h = let e : me ≡ me + 0 = omega arith in subst (λ (m : ℕ). SameNode n ns nm x s ms m) e own
  forest_nodes (one_tree {me = me} {x = x} {a = a} {b = b} own up under past f g) (suc j) h =
      ⊎_elim
      (λ k.
      let e : me + 1 + j ≡ me + suc j = omega arith in
      subst (λ (m : ℕ). SameNode n ns nm m s ms (me + suc j)) (sym (get_or-append a b 0 j k))
      (subst (λ (m : ℕ). SameNode n ns nm (get_or a j 0) s ms m) e (forest_nodes f j k)))
      (λ k.
      let q : ℕ = j - length a in
      let e : me + suc (length a) + q ≡ me + suc j = omega arith in
      subst (λ (m : ℕ). SameNode n ns nm m s ms (me + suc j)) (sym (behind a b j k))
      (subst (λ (m : ℕ). SameNode n ns nm (get_or b q 0) s ms m) e (forest_nodes g q (omega (arith, length-append a b)))))
      (lt_or_ge j (length a))

  -- where the parent of a node stands, in the store and among the table's nodes
  abbrev Parented : ℕ → ℕ → ℕ → List ℕ → ℕ → Type 0
  Parented p i me w j =
      ((parent_at ms (me + j) ≡ p) × (parent_at ns (get_or w j 0) ≡ i))
      ⊎ ((q : ℕ) × (q < j) × (parent_at ms (me + j) ≡ me + q) × (parent_at ns (get_or w j 0) ≡ get_or w q 0))

  pub forest_parents : {p i me : ℕ} {l w : List ℕ} → Forest n ns nm s ms p i me l w → (j : ℕ) → j < length w → Parented p i me w j
  forest_parents no_trees j h = absurd (omega arith)
  forest_parents (one_tree {me = me} {x = x} own up under past f g) zero h = let e : me + 0 ≡ me = omega arith in inl (ap (parent_at ms) e ∙ up, under)
  forest_parents (one_tree {p = p} {i = i} {me = me} {x = x} {a = a} {b = b} own up under past f g) (suc j) h =
      ⊎_elim (λ k. first k (forest_parents f j k)) (λ k. later k (forest_parents g (j - length a) (omega (arith, length-append a b)))) (lt_or_ge j (length a))
    where
      first : j < length a → Parented me x (me + 1) a j → Parented p i me (x ∷ (a ++ b)) (suc j)
      first k (inl (e, d)) =
          let m : me + suc j ≡ me + 1 + j = omega arith in
          let z : me ≡ me + 0 = omega arith in
          inr (0, omega arith, ap (parent_at ms) m ∙ e ∙ z, ap (parent_at ns) (get_or-append a b 0 j k) ∙ d)
      first k (inr (q, l, e, d)) =
          let m : me + suc j ≡ me + 1 + j = omega arith in
          let z : me + 1 + q ≡ me + suc q = omega arith in
          inr (suc q, omega arith, ap (parent_at ms) m ∙ e ∙ z, ap (parent_at ns) (get_or-append a b 0 j k) ∙ d ∙ sym (get_or-append a b 0 q (omega arith)))

      later : length a ≤ j → Parented p i (me + suc (length a)) b (j - length a) → Parented p i me (x ∷ (a ++ b)) (suc j)
      later k (inl (e, d)) =
          let m : me + suc j ≡ me + suc (length a) + (j - length a) = omega arith in
          inl (ap (parent_at ms) m ∙ e, ap (parent_at ns) (behind a b j k) ∙ d)
      later k (inr (q, l, e, d)) =
          let m : me + suc j ≡ me + suc (length a) + (j - length a) = omega arith in
          let z : me + suc (length a) + q ≡ me + suc (length a + q) = omega arith in
          inr (suc (length a + q), omega arith, ap (parent_at ms) m ∙ e ∙ z, ap (parent_at ns) (behind a b j k) ∙ d ∙ sym (get_or-append-add a b q 0))

  -- ---- by number: a node has the roots' parent and a root's name, or a parent in the forest that stands before it

  abbrev Hangs : ℕ → ℕ → List ℕ → ℕ → Type 0
  Hangs p me l j = ((parent_at ms j ≡ p) × (y : ℕ) × Mem y l × (name_at s ms j ≡ name_at nm ns y)) ⊎ ((me ≤ parent_at ms j) × (parent_at ms j < j))

  hangs : {p i me : ℕ} {l w : List ℕ} → Forest n ns nm s ms p i me l w → (j : ℕ) → me ≤ j → j < me + length w → Hangs p me l j
  hangs no_trees j h k = absurd (omega arith)
  hangs (one_tree {p = p} {me = me} {x = x} {l = l} {k = ks} {a = a} {b = b} own up under past f g) j h k =
      ⊎_elim
      (λ m.
      ⊎_elim (λ q. first m (hangs f j (omega arith) (omega arith)))
      (λ q. later (hangs g j q (omega (arith, length-append a b)))) (lt_or_ge j (me + suc (length a))))
      (λ m. let e : me ≡ j = omega arith in subst (λ (q : ℕ). Hangs p me (x ∷ l) q) e (inl (up, x, here, own.name)))
      (lt_or_ge me j)
    where
      first : me < j → Hangs me (me + 1) ks j → Hangs p me (x ∷ l) j
      first m (inl (e, y, q, d)) = inr (omega arith, omega arith)
      first m (inr (c, d)) = inr (omega arith, d)

      later : Hangs p (me + suc (length a)) l j → Hangs p me (x ∷ l) j
      later (inl (e, y, m, d)) = inl (e, y, there m, d)
      later (inr (c, d)) = inr (omega arith, d)

  -- parents stand outside the forest, or in it and before
  pub forest_parent : {p i me : ℕ} {l w : List ℕ} → Forest n ns nm s ms p i me l w → (j : ℕ) → me ≤ j → j < me + length w
      → (parent_at ms j ≡ p) ⊎ ((me ≤ parent_at ms j) × (parent_at ms j < j))
  forest_parent f j h k = ⊎_elim (λ (e, y, m, d). inl e) (λ (c, d). inr (c, d)) (hangs f j h k)

  -- siblings stand in byte order of name
  pub forest_by_name : {p i me : ℕ} {l w : List ℕ} → Forest n ns nm s ms p i me l w → p < me → (j k : ℕ) → me ≤ j → j < k → k < me + length w
      → parent_at ms j ≡ parent_at ms k
      → Before (name_at s ms j) (name_at s ms k)
  forest_by_name no_trees low j k h q r e = absurd (omega arith)
  forest_by_name (one_tree {p = p} {me = me} {x = x} {l = l} {k = ks} {a = a} {b = b} own up under past f g) low j k h q r e =
      ⊎_elim
      (λ m.
      ⊎_elim
      (λ t.
      ⊎_elim (λ u. forest_by_name f (omega arith) j k (omega arith) q (omega arith) e)
      (λ u. absurd (apart t (forest_parent f j (omega arith) (omega arith)) (forest_parent g k u (omega (arith, length-append a b)))))
      (lt_or_ge k (me + suc (length a))))
      (λ t. forest_by_name g (omega arith) j k t q (omega (arith, length-append a b)) e)
      (lt_or_ge j (me + suc (length a))))
      (λ m.
      let z : me ≡ j = omega arith in
      let own-parent : parent_at ms k ≡ p = sym e ∙ ap (parent_at ms) (sym z) ∙ up in
      ⊎_elim (λ u. absurd (inner own-parent (forest_parent f k (omega arith) (omega arith))))
      (λ u. subst (λ (v : ℕ). Before (name_at s ms v) (name_at s ms k)) z (to_later own-parent (hangs g k u (omega (arith, length-append a b)))))
      (lt_or_ge k (me + suc (length a))))
      (lt_or_ge me j)
    where
      apart : j < me + suc (length a) → (parent_at ms j ≡ me) ⊎ ((me + 1 ≤ parent_at ms j) × (parent_at ms j < j))
          → (parent_at ms k ≡ p) ⊎ ((me + suc (length a) ≤ parent_at ms k) × (parent_at ms k < k)) → ⊥
      apart t (inl c) (inl d) = omega arith
      apart t (inl c) (inr (d, d₁)) = omega arith
      apart t (inr (c, c₁)) (inl d) = omega arith
      apart t (inr (c, c₁)) (inr (d, d₁)) = omega arith

      inner : parent_at ms k ≡ p → (parent_at ms k ≡ me) ⊎ ((me + 1 ≤ parent_at ms k) × (parent_at ms k < k)) → ⊥
      inner c (inl d) = omega arith
      inner c (inr (d, d₁)) = omega arith

      to_later : parent_at ms k ≡ p → Hangs p (me + suc (length a)) l k → Before (name_at s ms me) (name_at s ms k)
      to_later c (inl (d, y, m, v)) = rw (own.name, v) (past y m)
      to_later c (inr (d, v)) = absurd (omega arith)

  -- file order: what stands between a node and its parent hangs at or below that parent
  pub forest_in_order : {p i me : ℕ} {l w : List ℕ} → Forest n ns nm s ms p i me l w → p < me → (j k : ℕ) → me ≤ j → j < k → k < me + length w
      → parent_at ms k < j
      → parent_at ms k ≤ parent_at ms j
  forest_in_order no_trees low j k h q r e = absurd (omega arith)
  forest_in_order (one_tree {p = p} {me = me} {x = x} {l = l} {k = ks} {a = a} {b = b} own up under past f g) low j k h q r e =
      ⊎_elim (λ u. first (λ t. forest_in_order f (omega arith) j k t q (omega arith) e) (omega arith) (forest_parent f k (omega arith) (omega arith)))
      (λ u. later (λ t. forest_in_order g (omega arith) j k t q (omega (arith, length-append a b)) e)
      (forest_parent g k u (omega (arith, length-append a b))) (forest_parent (one_tree own up under past f g) j h (omega arith)))
      (lt_or_ge k (me + suc (length a)))
    where
      at_root : me < j → j < me + 1 + length a → me ≤ parent_at ms j
      at_root t u = ⊎_elim (λ c. omega arith) (λ (c, d). omega arith) (forest_parent f j (omega arith) u)

      first : (me + 1 ≤ j → parent_at ms k ≤ parent_at ms j) → k < me + 1 + length a → (parent_at ms k ≡ me) ⊎ ((me + 1 ≤ parent_at ms k) × (parent_at ms k < k))
          → parent_at ms k ≤ parent_at ms j
      first ih t (inl c) = let d : me ≤ parent_at ms j = at_root (omega arith) (omega arith) in omega arith
      first ih t (inr (c, d)) = ih (omega arith)

      later : (me + suc (length a) ≤ j → parent_at ms k ≤ parent_at ms j) → (parent_at ms k ≡ p) ⊎ ((me + suc (length a) ≤ parent_at ms k) × (parent_at ms k < k))
          → (parent_at ms j ≡ p) ⊎ ((me ≤ parent_at ms j) × (parent_at ms j < j)) → parent_at ms k ≤ parent_at ms j
      later ih (inl c) (inl d) = omega arith
      later ih (inl c) (inr (d, d₁)) = omega arith
      later ih (inr (c, c₁)) d = ih (omega arith)

-- ---- THE TREE OF A TABLE IS SUCH A FOREST BELOW ITS ROOT

rise_by_name : (ns nm : List ℕ) {l : List ℕ} → Rising (λ x y. before ns nm x y ≡ true) l
    → ((x y : ℕ) → Mem x l → Mem y l → name_at nm ns x ≡ name_at nm ns y → x ≡ y)
    → Rising (λ x y. Before (name_at nm ns x) (name_at nm ns y)) l
rise_by_name ns nm done h = done
rise_by_name ns nm (more {x = x} r rest) h =
    more (λ y m. before_names ns nm x y (r y m) (h x y here (there m))) (rise_by_name ns nm rest (λ a b p q. h a b (there p) (there q)))

-- one tree, from number `me` on: its root, and the forest below it
pub record Planted (n : ℕ) (ns nm s ms : List ℕ) (d p me x : ℕ) : Type 0 where
  pub own : SameNode n ns nm x s ms me
  pub up : parent_at ms me ≡ p
  pub rest : List ℕ
  pub whole : walk ns nm d x ≡ x ∷ rest
  pub forest : Forest n ns nm s ms me x (me + 1) (kids_of ns nm x) rest

module _ (n limit : ℕ) (ns nm : List ℕ) (small : n ≤ id_room) (few : length ns < 2 ^ 64) (proper : Proper limit ns nm) (s ms : List ℕ) where
  forest_of : (d p i : ℕ) (l : List ℕ) → ((x : ℕ) → Mem x l → parent_at ns x ≡ i) → Rising (λ x y. Before (name_at nm ns x) (name_at nm ns y)) l
      → ((x me place : ℕ) → Mem x l → ShowsTree s ms p me (tree_at n ns nm d place x) → Planted n ns nm s ms d p me x)
      → (me place : ℕ) → ShowsSubtrees s ms p me (subtrees_of (tree_at n ns nm d) (node_bytes n ns nm d) place l)
      → Forest n ns nm s ms p i me l (each (walk ns nm d) l)
  unfolding subtrees_of each
  forest_of d p i [] child rise ih me place shows = no_trees
  forest_of d p i (x ∷ l) child (more r rise) ih me place (one, others) =
      let t = ih x me place here one in
      let next : ℕ = place + length (node_bytes n ns nm d x) in
      let size : nodes (tree_at n ns nm d place x) ≡ suc (length t.rest) = nodes_walked n ns nm d place x ∙ ap length t.whole in
      let shows : ShowsSubtrees s ms p (me + suc (length t.rest)) (subtrees_of (tree_at n ns nm d) (node_bytes n ns nm d) next l) =
      subst (λ (k : ℕ). ShowsSubtrees s ms p (me + k) (subtrees_of (tree_at n ns nm d) (node_bytes n ns nm d) next l)) size others in
      let later = forest_of d p i l (λ y m. child y (there m)) rise (λ y a b m. ih y a b (there m)) (me + suc (length t.rest)) next shows in
      subst (λ (w : List ℕ). Forest n ns nm s ms p i me (x ∷ l) (w ++ each (walk ns nm d) l)) (sym t.whole)
      (one_tree t.own t.up (child x here) r t.forest later)

  pub planted : (d k x p me place : ℕ) → x < nodes_in ns → Level ns k x → k + d ≡ limit + 1 → ShowsTree s ms p me (tree_at n ns nm d place x)
      → Planted n ns nm s ms d p me x
  unfolding walk tree_at
  planted zero k x p me place h l e shows = absurd (omega (arith, level_within l limit (proper.depth x h)))
  planted (suc d) k x p me place h l e (own, under) =
      let start : ℕ = place + length (head_bytes n ns nm x) in
      let ts : Subtrees = subtrees_of (tree_at n ns nm d) (node_bytes n ns nm d) start (kids_of ns nm x) in
      let many : how_many ts ≡ subtrees_at ns x =
      how_many_lem (tree_at n ns nm d) (node_bytes n ns nm d) (kids_of ns nm x) start ∙ length-kids ns nm x ∙ sym (proper.subtrees x h) in
      record {
        own = same_node n ns nm x s ms me p place (how_many ts) small h many own;
        up = own.parented;
        rest = each (walk ns nm d) (kids_of ns nm x);
        whole = refl;
        forest = forest_of d me x (kids_of ns nm x) (λ y m. (kids_are ns nm x y m).2) (rise_by_name ns nm (kids_rise ns nm x) (same_name n limit ns nm small few proper x h))
            (λ y a b m shows. let (u, v, c) = kids_are ns nm x y m in planted d (suc k) y me a b v (below u c l) (omega arith) shows) (me + 1) start under;
      }
