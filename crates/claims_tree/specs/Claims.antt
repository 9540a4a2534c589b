-- THE CLAIMS on a cache tree: what `read_tree` answers on a part of the file, and what the node store holds after it, is said by the grammar alone. `SaysReadTree` has one rule for
-- each answer; of the answer that is given its rule holds, and of no other. Over the id's length and the depth limit. Assumes that the part lies in the file, that an id fits
-- its place in the store, and that 64 bits address each byte of file and store, each a premise.
use Rattle.std.specs.Prelude.{ℕ, suc, ◌+◌, ◌-◌, ◌≤◌, ◌<◌, ◌≡◌, List, [], ◌++◌, Bool, ◌↔◌, length, take, drop, Err, None, Ok, Some}
use Rattle.std.proofs.Math.Path.{refl}
use Rattle.std.proofs.Common.{sym, ap, ◌∙◌, subst, append-nil, zero-add, arith, length-drop, length-take-le}
use Rattle.std.proofs.Math.Seq.{drop-length}
use borrow.Author.Tests.{le-ltb}
use Rattle.laws.specs.Pick.{pick}
use Rattle.laws.specs.Put.{put_front}
use Rattle.laws.specs.Tests.{Same, same, differs, same?}
use Rattle.format.specs.Format.{id_room}
use Rattle.node.specs.Head.{minus_one}
use Rattle.tree.specs.declared.Fault.TheVariants.{Unspelled}
use Rattle.tree.specs.Tree.{Out, and_then, node_at, alone, root_at, wiped, read_tree}
use Rattle.tree.specs.Frame.{node_kept}
use Rattle.grammar.specs.Tree.{Tree, depth, nodes, Node}
use Rattle.grammar.specs.Walk.{Reaches}
use Rattle.grammar.specs.Descent.{Comes, reached_exactly_by_a_way}
use Rattle.grammar.proofs.Reach.{reaches_within, reaches_each_depth, reaches_each_node, depth_within, nodes_within}
use Rattle.grammar.proofs.Unique.{node_unique, tree_unique}
use Rattle.claims_entries.specs.Said.{SpaceIn}
use Rattle.claims_entries.specs.Shown.{Addressable}
use Rattle.claims_tree.specs.Place.{part}
use Rattle.claims_tree.specs.Rendering.{tree_bytes, filled}
use Rattle.claims_tree.specs.Said.{GoesTooDeep, UsesUp, SpellsTree, SpellsTreeWithin, KeepsWithinDepth, HasRoom, lent, zeroed, Left, SaysReadTree, says_tree, says_too_deep, says_no_room, says_malformed}
use Rattle.claims_tree.specs.Walk.{SaysNode, is_read, is_unspelled, is_full, is_deep, node_says}
use Rattle.tree.specs.Made.{read_up_to}
use Rattle.tree.specs.declared.Error.TheVariants.{NoRoom, TooDeep}

-- ---- no two answers, by the grammar alone

tree_not_deep : {n place : ℕ} {body : List ℕ} {t : Tree} {limit : ℕ} (room : ℕ) → Node n place body t → depth t ≤ limit → ¬ GoesTooDeep n body limit room
tree_not_deep {n} {place} {body} {t} {limit} room x h (k, l, r) = omega (arith, (reaches_within n body place t x (suc limit) k r).0)

tree_not_full : {n place : ℕ} {body : List ℕ} {t : Tree} {room : ℕ} → Node n place body t → nodes t ≤ room → ¬ UsesUp n body room
tree_not_full {n} {place} {body} {t} {room} x h (d, r) = omega (arith, (reaches_within n body place t x d room r).1)

module _ {n place : ℕ} {body : List ℕ} {limit : ℕ} {store : List ℕ} where
  one_answer : {a b : Left} → SaysReadTree n place body limit store a → SaysReadTree n place body limit store b → a ≡ b
  one_answer (says_tree x h k) (says_tree y l m) = ap (λ (t : Tree). (Ok (Some (nodes t)), filled store (tree_bytes t))) (tree_unique x y)
  one_answer (says_tree x h k) (says_too_deep d) = absurd (tree_not_deep (lent store) x h d)
  one_answer (says_tree x h k) (says_no_room f d) = absurd (tree_not_full x k f)
  one_answer (says_tree {t = t} x h k) (says_malformed f d e) = absurd (f (t, x))
  one_answer (says_too_deep d) (says_tree y l m) = absurd (tree_not_deep (lent store) y l d)
  one_answer (says_too_deep d) (says_too_deep e) = refl
  one_answer (says_too_deep d) (says_no_room f e) = absurd (e d)
  one_answer (says_too_deep d) (says_malformed f e g) = absurd (e d)
  one_answer (says_no_room f d) (says_tree y l m) = absurd (tree_not_full y m f)
  one_answer (says_no_room f d) (says_too_deep e) = absurd (d e)
  one_answer (says_no_room f d) (says_no_room g e) = refl
  one_answer (says_no_room f d) (says_malformed g e h) = absurd (h f)
  one_answer (says_malformed f d e) (says_tree {t = t} y l m) = absurd (f (t, y))
  one_answer (says_malformed f d e) (says_too_deep g) = absurd (d g)
  one_answer (says_malformed f d e) (says_no_room g h) = absurd (e g)
  one_answer (says_malformed f d e) (says_malformed g h i) = refl

module _ (n : ℕ) (fits : n ≤ id_room) (limit : ℕ) (s : List ℕ) (start end : ℕ) (ns : List ℕ) (lies_in : SpaceIn s start end) (short : Addressable s) (small : Addressable ns) where
  -- the bytes from start to end
  abbrev bytes : List ℕ
  bytes = part s start end

  abbrev reading : Left
  reading = read_tree n limit s start end ns

  comes : {d k : ℕ} → Reaches n bytes d k → Comes n start bytes d k
  comes {d} {k} r = (reached_exactly_by_a_way n start bytes d k).0 r

  reached : {d k : ℕ} → Comes n start bytes d k → Reaches n bytes d k
  reached {d} {k} r = (reached_exactly_by_a_way n start bytes d k).1 r

  size : length bytes ≡ end - start
  size = length-drop start (take end s) ∙ ap (λ (k : ℕ). k - start) (length-take-le end s lies_in.inside)

  bad : ¬ SpellsTree n start bytes → ((d k : ℕ) → Comes n start bytes d k → (d ≤ limit) × (k < lent ns)) → SaysReadTree n start bytes limit ns (Ok None, zeroed ns)
  bad f w = says_malformed f (λ (k, l, r). omega (arith, (w (suc limit) k (comes r)).0)) (λ (d, r). omega (arith, (w d (lent ns) (comes r)).1))

  same_length : (o : Out) → node_at n s end limit minus_one start 0 ns ≡ o → length o.1 ≡ length ns
  same_length o e = ap (λ (o : Out). length o.1) (sym e) ∙ (node_kept n fits s end limit minus_one start 0 ns).long

  -- the root, and nothing behind it
  root_says : (o : Out) → node_at n s end limit minus_one start 0 ns ≡ o → SaysNode n s end limit minus_one start 0 (lent ns) ns o → SaysReadTree n start bytes limit ns (wiped (and_then o (alone end)))
  root_says o e (is_unspelled f) =
      rw (same_length o e) (bad (λ (t, x). f.none t [] (bytes, sym (append-nil bytes), x)) f.within)
  root_says o e (is_full f) =
      rw (same_length o e) (says_no_room (f.depth, reached f.comes) (λ (k, l, r). omega (arith, f.shallow (suc limit) k (comes r) l)))
  root_says o e (is_deep f) =
      rw (same_length o e) (says_too_deep (f.heads, f.early, reached f.comes))
  root_says o e (is_read {b = b} {t = t} {ms = ms} a i u x y w z stored par nam) = go (same? (start + length b) end)
    where
      whole : start + length b ≡ end → Node n start bytes t
      whole q =
          let r : part s (start + length b) end ≡ [] = ap (λ (k : ℕ). drop k (take end s)) (q ∙ sym (length-take-le end s lies_in.inside)) ∙ drop-length (take end s) in
          subst (λ (c : List ℕ). Node n start c t) (sym (i ∙ ap (λ (c : List ℕ). b ++ c) r ∙ append-nil b)) u

      there : ms ≡ filled ns (tree_bytes t)
      there = stored ∙ put_front ns (tree_bytes t)

      -- two trees from one place are one, so the whole body is none
      longer : (start + length b ≡ end → ⊥) → ¬ SpellsTree n start bytes
      longer q (v, c) =
          let (t₌, r₌, b₌) = node_unique n start bytes v t [] (part s (start + length b) end) (bytes, sym (append-nil bytes), c) (b, i, u) in
          q (omega (arith, ap length b₌, size))

      go : {v : Bool} → Same (start + length b) end v → SaysReadTree n start bytes limit ns (wiped (pick v (Ok (read_up_to (start + length b) (0 + nodes t))) (Err Unspelled), ms))
      go (same q) = rw (zero-add (nodes t), there) (says_tree (whole q) x y)
      go (differs q) = rw (same_length o e) (bad (longer q) w)

  -- ---- of the answer that is given its rule holds
  pub answer_says : SaysReadTree n start bytes limit ns reading
  unfolding read_tree root_at
  answer_says =
      rw (le-ltb end start lies_in.ahead, le-ltb (length s) end lies_in.inside)
      (root_says (node_at n s end limit minus_one start 0 ns) refl (node_says n fits s end lies_in.inside (omega arith) limit minus_one start 0 (lent ns) ns lies_in.ahead (omega arith) (zero-add (lent ns)) (omega arith)))

  -- and no other's
  pub no_second_answer : {o : Left} → SaysReadTree n start bytes limit ns o → reading ≡ o
  no_second_answer x = one_answer answer_says x

  -- ---- THE THEOREMS
  -- what is spelled, with depth and room enough, is read, and the store is its rendering
  pub spelled_is_read : (t : Tree) → Node n start bytes t → depth t ≤ limit → nodes t ≤ lent ns → reading ≡ (Ok (Some (nodes t)), filled ns (tree_bytes t))
  spelled_is_read t x h k = no_second_answer (says_tree x h k)

  -- what is read is spelled, and the store is its rendering
  pub read_is_spelled : (k : ℕ) (ms : List ℕ) → reading ≡ (Ok (Some k), ms) → (t : Tree) × Node n start bytes t × (depth t ≤ limit) × (nodes t ≤ lent ns) × (k ≡ nodes t) × (ms ≡ filled ns (tree_bytes t))
  read_is_spelled k ms q = to answer_says (ap (λ (o : Left). o.0) q) (ap (λ (o : Left). o.1) q)
    where
      to : {o : Left} → SaysReadTree n start bytes limit ns o → o.0 ≡ Ok (Some k) → o.1 ≡ ms
          → (t : Tree) × Node n start bytes t × (depth t ≤ limit) × (nodes t ≤ lent ns) × (k ≡ nodes t) × (ms ≡ filled ns (tree_bytes t))
      to (says_tree {t = t} x h l) q r = let e : k ≡ nodes t = cc in (t, x, h, l, e, sym r)
      to (says_too_deep d) q r = cc
      to (says_no_room f d) q r = cc
      to (says_malformed f d e) q r = cc

  pub tree_exactly_if_spelled_within : (k : ℕ) → (reading.0 ≡ Ok (Some k)) ↔ SpellsTreeWithin n start bytes limit (lent ns) k
  tree_exactly_if_spelled_within k =
      ((λ q. let (t, x, h, l, e, f) = read_is_spelled k reading.1 (λ i. (q i, reading.1)) in (t, x, h, l, e)), (λ (t, x, h, l, e). ap (λ (o : Left). o.0) (spelled_is_read t x h l) ∙ ap (λ (m : ℕ). Ok (Some m)) (sym e)))

  -- 9: where a node should begin one level too deep, and nothing else was met before
  pub too_deep_exactly : (reading.0 ≡ Err TooDeep) ↔ GoesTooDeep n bytes limit (lent ns)
  too_deep_exactly = (to answer_says, (λ d. ap (λ (o : Left). o.0) (no_second_answer (says_too_deep d))))
    where
      to : {o : Left} → SaysReadTree n start bytes limit ns o → o.0 ≡ Err TooDeep → GoesTooDeep n bytes limit (lent ns)
      to (says_too_deep d) q = d
      to (says_tree x h l) q = cc
      to (says_no_room f d) q = cc
      to (says_malformed f d e) q = cc

  -- 10: where a node should begin for which no room is lent, and nothing else was met before
  pub no_room_exactly : (reading.0 ≡ Err NoRoom) ↔ (UsesUp n bytes (lent ns) × ¬ GoesTooDeep n bytes limit (lent ns))
  no_room_exactly = (to answer_says, (λ (f, d). ap (λ (o : Left). o.0) (no_second_answer (says_no_room f d))))
    where
      to : {o : Left} → SaysReadTree n start bytes limit ns o → o.0 ≡ Err NoRoom → UsesUp n bytes (lent ns) × ¬ GoesTooDeep n bytes limit (lent ns)
      to (says_no_room f d) q = (f, d)
      to (says_too_deep d) q = cc
      to (says_tree x h l) q = cc
      to (says_malformed f d e) q = cc

  pub malformed_exactly : (reading.0 ≡ Ok None) ↔ ((¬ SpellsTree n start bytes) × (¬ GoesTooDeep n bytes limit (lent ns)) × (¬ UsesUp n bytes (lent ns)))
  malformed_exactly = (to answer_says, (λ (f, d, e). ap (λ (o : Left). o.0) (no_second_answer (says_malformed f d e))))
    where
      to : {o : Left} → SaysReadTree n start bytes limit ns o → o.0 ≡ Ok None → (¬ SpellsTree n start bytes) × (¬ GoesTooDeep n bytes limit (lent ns)) × (¬ UsesUp n bytes (lent ns))
      to (says_malformed f d e) q = (f, d, e)
      to (says_no_room f d) q = cc
      to (says_too_deep d) q = cc
      to (says_tree x h l) q = cc

  -- where the answer is no tree, every byte lent is zero
  pub zeroed_where_no_tree : ((k : ℕ) → ¬ (reading.0 ≡ Ok (Some k))) → reading.1 ≡ zeroed ns
  zeroed_where_no_tree f = to answer_says f
    where
      to : {o : Left} → SaysReadTree n start bytes limit ns o → ((k : ℕ) → ¬ (o.0 ≡ Ok (Some k))) → o.1 ≡ zeroed ns
      to (says_tree {t = t} x h l) g = absurd (g (nodes t) refl)
      to (says_too_deep d) g = refl
      to (says_no_room e d) g = refl
      to (says_malformed e d h) g = refl

  -- a tree that is spelled, and too deep or too large
  pub deeper_is_too_deep : (t : Tree) → Node n start bytes t → limit < depth t → nodes t ≤ lent ns → reading ≡ (Err TooDeep, zeroed ns)
  deeper_is_too_deep t x h l =
      let (k, r) = reaches_each_depth n bytes start t x limit h in
      let m : k ≤ lent ns = omega (arith, (reaches_within n bytes start t x (suc limit) k r).1) in
      no_second_answer (says_too_deep (k, m, r))

  pub larger_has_no_room : (t : Tree) → Node n start bytes t → depth t ≤ limit → lent ns < nodes t → reading ≡ (Err NoRoom, zeroed ns)
  larger_has_no_room t x h l = no_second_answer (says_no_room (reaches_each_node n bytes start t x (lent ns) l) (tree_not_deep (lent ns) x h))

  -- ---- with depth and room enough for the walk: the tree that is spelled, or else malformed
  module _ (shallow : KeepsWithinDepth n bytes limit) (room : HasRoom n bytes (lent ns)) where
    pub stores_are_the_meaning : (t : Tree) → Node n start bytes t → reading ≡ (Ok (Some (nodes t)), filled ns (tree_bytes t))
    stores_are_the_meaning t x = spelled_is_read t x ((depth_within n bytes start t x limit).0 shallow) ((nodes_within n bytes start t x (lent ns)).0 room)

    pub malformed_if_not_spelled : ¬ SpellsTree n start bytes → reading ≡ (Ok None, zeroed ns)
    malformed_if_not_spelled f = no_second_answer (says_malformed f (λ (k, l, r). shallow k r) (λ (d, r). room d r))

    pub tree_exactly_if_spelled : ((k : ℕ) × (reading.0 ≡ Ok (Some k))) ↔ SpellsTree n start bytes
    tree_exactly_if_spelled =
        ((λ (k, q). let (t, x, h, l, e) = (tree_exactly_if_spelled_within k).0 q in (t, x)), (λ (t, x). (nodes t, ap (λ (o : Left). o.0) (stores_are_the_meaning t x))))

    pub malformed_exactly_if_not_spelled : (reading.0 ≡ Ok None) ↔ (¬ SpellsTree n start bytes)
    malformed_exactly_if_not_spelled = ((λ q. (malformed_exactly.0 q).0), (λ f. ap (λ (o : Left). o.0) (malformed_if_not_spelled f)))
