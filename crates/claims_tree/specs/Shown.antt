-- What a reading of a cache tree leaves, through the accessors: each node of the store shows its node's meaning, by the number that file order gives it, with its name where it
-- stands in the file. Assumes that the part lies in the file, that an id fits its place in the store, and that 64 bits address each byte of file and store, each a premise.
use Rattle.std.specs.Prelude.{ℕ, ◌+◌, ◌-◌, ◌*◌, ◌/◌, ◌^◌, ◌≤◌, ◌<◌, ◌≡◌, refl, take, replicate, Ok, Some}
use Rattle.std.proofs.Math.Path.{sym, ap}
use Rattle.std.proofs.Common.{◌∙◌, subst, add_assoc, lit≤, length-drop, drop-drop, take_at, get_or-drop, lt-ltb}
use mathlib.Core.List.{List, [], ◌∷◌, ◌++◌, append_assoc, append-nil}
use native.Mathlib.Omega.{arith}
use Rattle.std.proofs.Math.ListN.{length, get_or, drop, length-append, length-replicate}
use Rattle.std.proofs.Math.Seq.{drop_at, take-length}
use Rattle.wire.specs.BigEndian.{be_at, be_same, be_left}
use Rattle.format.specs.Format.{id_room}
use Rattle.node.specs.declared.Node.{Node as Fields}
use Rattle.node.specs.Head.{minus_one}
use Rattle.node.specs.Store.{nodes_in, numbers_of, id_of, node_of, word_at, name_start_at, name_end_at, count_at, subtrees_at, parent_at, id_at, name_at}
use Rattle.node.specs.Laws.{length_numbers, length_node, start_found, stop_found, count_found, subtrees_found, parent_found, name_part}
use Rattle.tree.specs.Tree.{read_tree}
use Rattle.grammar.specs.Number.{Count, Signed, plain, plus, minus_zero_lem, minus}
use Rattle.grammar.specs.Tree.{Tree, tree, Subtrees, childless, beside, nodes, nodes_of, Id, of_tree, no_id, Head, NodeHead, node_head, Node, node, Nodes, no_node, one_node_lem}
use Rattle.claims_entries.specs.Place.{Lies, lies_take, lies_left, lies_right, lies_from}
use Rattle.claims_entries.specs.Said.{SpaceIn}
use Rattle.claims_entries.specs.Shown.{Addressable}
use Rattle.claims_tree.specs.Place.{part}
use Rattle.claims_tree.specs.Rendering.{count_word, how_many, id_bytes, node_bytes, nodes_bytes, subtrees_bytes, tree_bytes}
use Rattle.claims_tree.specs.Walk.{how_many_lem}
use Rattle.claims_tree.specs.Claims.{read_is_spelled}

-- ---- what the accessors say

-- node i of the store ms, of a file s
pub record ShowsNode (s ms : List ℕ) (i parent place : ℕ) (name : List ℕ) (count : Count) (id : List ℕ) (subtrees : ℕ) : Type 0 where
  pub starts : name_start_at ms i ≡ place
  pub ends : name_end_at ms i ≡ place + length name
  pub named : name_at s ms i ≡ name
  pub counts : count_at ms i ≡ count_word count
  pub subtrees_there : subtrees_at ms i ≡ subtrees
  pub parented : parent_at ms i ≡ parent
  pub identified : id_at id_room ms i ≡ id_bytes id

-- a tree whose root is node number i, and each node in it
abbrev mutual
  pub ShowsTree : List ℕ → List ℕ → ℕ → ℕ → Tree → Type 0
  ShowsTree s ms parent i (tree place name count id ts) = ShowsNode s ms i parent place name count id (how_many ts) × ShowsSubtrees s ms i (i + 1) ts

  pub ShowsSubtrees : List ℕ → List ℕ → ℕ → ℕ → Subtrees → Type 0
  ShowsSubtrees s ms parent i childless = Unit {0}
  ShowsSubtrees s ms parent i (beside t ts) = ShowsTree s ms parent i t × ShowsSubtrees s ms parent (i + nodes t) ts

-- ---- one node

module _ (place : ℕ) (name : List ℕ) (count : Count) (subtrees parent : ℕ) (id : List ℕ) (fits : length id ≤ 32) where
  abbrev own : List ℕ
  own = node_bytes place name count subtrees parent id

  -- the same as the store's own, of a file that is the id
  abbrev fields : Fields
  fields = record { start = place; stop = place + length name; count = count_word count; subtrees = subtrees; id = 0; next = length id }

  own_is : node_of id fields parent ≡ own
  unfolding node_of numbers_of id_of node_bytes
  own_is = let e : length id - 0 ≡ length id = omega arith in rw (e, take-length id)

  pub own_length : length own ≡ 72
  own_length = ap length (sym own_is) ∙ length_node id fields parent (omega arith) (omega arith) (omega arith)

  module _ (s ms : List ℕ) (i : ℕ) (rest : List ℕ) (room : i < nodes_in ms) (there : drop (i * 72) ms ≡ own ++ rest) where
    word : (k : ℕ) → k + 8 ≤ 72 → word_at k ms i ≡ be_at 8 (node_of id fields parent) k
    unfolding word_at
    word k h =
        let move : (m : ℕ) → m < 8 → get_or ms (i * 72 + k + m) 0 ≡ get_or (drop (i * 72) ms) (k + m) 0 = λ m l. ap (λ (j : ℕ). get_or ms j 0) (add_assoc (i * 72) k m) ∙ sym (get_or-drop (i * 72) ms (k + m) 0) in
        rw (lt-ltb i (nodes_in ms) room)
        (be_same 8 ms (drop (i * 72) ms) (i * 72 + k) k move ∙ ap (λ (l : List ℕ). be_at 8 l k) there ∙ be_left 8 own rest k (omega (arith, own_length)) ∙ ap (λ (l : List ℕ). be_at 8 l k) (sym own_is))

    id_there : id_at id_room ms i ≡ id_bytes id
    unfolding id_at node_bytes numbers_of
    id_there =
        let behind : drop (i * 72 + 40) ms ≡ id_bytes id ++ rest =
        sym (drop-drop 40 (i * 72) ms) ∙ ap (λ (l : List ℕ). drop 40 l) (there ∙ append_assoc (numbers_of fields parent) (id_bytes id) rest) ∙ drop_at (numbers_of fields parent) (id_bytes id ++ rest) 40 (length_numbers fields parent) in
        let size : length (id_bytes id) ≡ 32 = omega (arith, length-append id (replicate (32 - length id) 0), length-replicate {A = ℕ} (32 - length id) 0) in
        rw (lt-ltb i (nodes_in ms) room, behind) (take_at (id_bytes id) rest 32 size)

    pub own_shown : place + length name ≤ length s → length s < 256 ^ 8 → take (length name) (drop place s) ≡ name → count_word count < 256 ^ 8 → subtrees < 256 ^ 8 → parent < 256 ^ 8
        → ShowsNode s ms i parent place name count id subtrees
    own_shown a b c d e f =
        let w₀ : name_start_at ms i ≡ place = word 0 (lit≤ tt) ∙ start_found id fields parent (omega arith) (omega arith) (omega arith) (omega arith) in
        let w₁ : name_end_at ms i ≡ place + length name = word 8 (lit≤ tt) ∙ stop_found id fields parent (omega arith) (omega arith) (omega arith) (omega arith) in
        let sub : place + length name - place ≡ length name = omega arith in
        record {
          starts = w₀;
          ends = w₁;
          named = sym (name_part s ms i place (place + length name) (sym w₀) (sym w₁) (omega arith) a) ∙ ap (λ (k : ℕ). take k (drop place s)) sub ∙ c;
          counts = word 16 (lit≤ tt) ∙ count_found id fields parent (omega arith) (omega arith) (omega arith) d;
          subtrees_there = word 24 (lit≤ tt) ∙ subtrees_found id fields parent (omega arith) (omega arith) (omega arith) e;
          parented = word 32 (lit≤ tt) ∙ parent_found id fields parent (omega arith) (omega arith) (omega arith) f;
          identified = id_there;
        }

-- ---- what a head that is spelled says of its numbers

count_small : {c : List ℕ} {count : Count} → Signed c count → count_word count < 256 ^ 8
count_small (plain x h) = omega arith
count_small (plus x h) = omega arith
count_small (minus_zero_lem x) = omega arith
count_small (minus x h k) = omega arith

id_small : {n : ℕ} {count : Count} {id : List ℕ} → Id n count id → length id ≤ n
id_small (of_tree e) = omega arith
id_small no_id = omega arith

record Numbers (n : ℕ) (h : List ℕ) (v : Head) : Type 0 where
  count : count_word v.count < 256 ^ 8
  subtrees : v.subtrees < 256 ^ 8
  id : length v.id ≤ n
  behind : List ℕ
  named : h ≡ v.name ++ behind

numbers : {n : ℕ} {h : List ℕ} {v : Head} → NodeHead n h v → Numbers n h v
numbers (node_head {name = name} {c = c} {k = k} {id = id} x y z w) =
    record { count = count_small y; subtrees = omega (arith, z.fits); id = id_small w; behind = 0 ∷ (c ++ (32 ∷ (k ++ (10 ∷ id)))); named = refl }

-- ---- the whole tree

module _ (n : ℕ) (fits : n ≤ 32) where
  mutual
    pub tree_length : (t : Tree) {place : ℕ} {b : List ℕ} → Node n place b t → (parent i : ℕ) → length (nodes_bytes parent i t) ≡ nodes t * 72
    tree_length (tree place name count id ts) (node u us dd e) parent i =
        let k : length id ≤ n = (numbers u).id in
        let l = subtrees_length ts us i (i + 1) in
        omega (arith, length-append (node_bytes place name count (how_many ts) parent id) (subtrees_bytes i (i + 1) ts), own_length place name count (how_many ts) parent id (omega arith))

    subtrees_length : (ts : Subtrees) {place m : ℕ} {b : List ℕ} → Nodes n place m b ts → (parent i : ℕ) → length (subtrees_bytes parent i ts) ≡ nodes_of ts * 72
    subtrees_length childless no_node parent i = refl
    subtrees_length (beside t ts) (one_node_lem u us e) parent i =
        let k = tree_length t u parent i in
        let l = subtrees_length ts us parent (i + nodes t) in
        omega (arith, length-append (nodes_bytes parent i t) (subtrees_bytes parent (i + nodes t) ts))

  module _ (s : List ℕ) (end : ℕ) (inside : end ≤ length s) (short : length s < 256 ^ 8) (ms : List ℕ) (small : length ms < 256 ^ 8) where
    -- behind bytes of the store
    beyond : (i j : ℕ) (a c rest : List ℕ) → drop (i * 72) ms ≡ (a ++ c) ++ rest → length a ≡ j * 72 → drop ((i + j) * 72) ms ≡ c ++ rest
    beyond i j a c rest e l =
        let q : (i + j) * 72 ≡ i * 72 + j * 72 = omega arith in
        ap (λ (k : ℕ). drop k ms) q ∙ sym (drop-drop (j * 72) (i * 72) ms) ∙ ap (λ (x : List ℕ). drop (j * 72) x) (e ∙ append_assoc a c rest) ∙ drop_at a (c ++ rest) (j * 72) l

    mutual
      tree_shown : (t : Tree) {place : ℕ} {b : List ℕ} → Node n place b t → Lies s place end b → (parent i : ℕ) (rest : List ℕ) → parent < 256 ^ 8 → i + nodes t ≤ nodes_in ms
          → drop (i * 72) ms ≡ nodes_bytes parent i t ++ rest → ShowsTree s ms parent i t
      tree_shown (tree place name count id ts) (node {h = h} {b = c} {head = v} u us dd e) l parent i rest low room there =
          let k = numbers u in
          let own : List ℕ = node_bytes place name count (how_many ts) parent id in
          let small-id : length id ≤ 32 = omega (arith, k.id) in
          let l₁ : Lies s place end (h ++ c) = subst (λ (x : List ℕ). Lies s place end x) e l in
          let l₂ : Lies s place end (name ++ k.behind) = subst (λ (x : List ℕ). Lies s place end x) k.named (lies_left h c l₁) in
          let l₃ : Lies s place end name = lies_left name k.behind l₂ in
          let many : how_many ts < 256 ^ 8 = omega (arith, k.subtrees, how_many_lem us) in
          let size : length own ≡ 1 * 72 = own_length place name count (how_many ts) parent id small-id in (
            own_shown place name count (how_many ts) parent id small-id s ms i (subtrees_bytes i (i + 1) ts ++ rest) (omega arith) (there ∙ append_assoc own (subtrees_bytes i (i + 1) ts) rest)
                (omega (arith, l₃.fits)) short (lies_take l₃) k.count many low,
            subtrees_shown ts us (lies_right h c l₁) i (i + 1) rest (omega arith) (omega arith) (beyond i 1 own (subtrees_bytes i (i + 1) ts) rest there size),
          )

      subtrees_shown : (ts : Subtrees) {place m : ℕ} {b : List ℕ} → Nodes n place m b ts → Lies s place end b → (parent i : ℕ) (rest : List ℕ) → parent < 256 ^ 8 → i + nodes_of ts ≤ nodes_in ms
          → drop (i * 72) ms ≡ subtrees_bytes parent i ts ++ rest → ShowsSubtrees s ms parent i ts
      subtrees_shown childless no_node l parent i rest low room there = tt
      subtrees_shown (beside t ts) {place} (one_node_lem {b = b} {c = c} u us e) l parent i rest low room there =
          let l₁ : Lies s place end (b ++ c) = subst (λ (x : List ℕ). Lies s place end x) e l in
          let next : List ℕ = subtrees_bytes parent (i + nodes t) ts in (
            tree_shown t u (lies_left b c l₁) parent i (next ++ rest) low (omega arith) (there ∙ append_assoc (nodes_bytes parent i t) next rest),
            subtrees_shown ts us (lies_right b c l₁) parent (i + nodes t) rest low (omega arith) (beyond i (nodes t) (nodes_bytes parent i t) next rest there (tree_length t u parent i)),
          )

-- ---- THE THEOREM

module _ (n : ℕ) (fits : n ≤ id_room) (limit : ℕ) (s : List ℕ) (start end : ℕ) (ns : List ℕ) (lies_in : SpaceIn s start end) (short : Addressable s) (small : Addressable ns) where
  -- what is read is shown: the tree that is spelled, its root node 0
  pub read_is_shown : (k : ℕ) (ms : List ℕ) → read_tree n limit s start end ns ≡ (Ok (Some k), ms) → (t : Tree) × Node n start (part s start end) t × (k ≡ nodes t) × ShowsTree s ms minus_one 0 t
  read_is_shown k ms q =
      let (t, x, h, l, e, f) = read_is_spelled n fits limit s start end ns lies_in short small k ms q in
      let size : length (tree_bytes t) ≡ nodes t * 72 = tree_length n fits t x minus_one 0 in
      let long : length ms ≡ length ns = ap length f ∙ omega (arith, length-append (tree_bytes t) (drop (length (tree_bytes t)) ns), length-drop (length (tree_bytes t)) ns) in
      let lies : Lies s start end (part s start end) = lies_from s start end (part s start end) [] lies_in.ahead lies_in.inside (sym (append-nil (part s start end))) in
      (t, x, e, tree_shown n fits s end lies_in.inside (omega arith) ms (omega arith) t x lies minus_one 0 (drop (length (tree_bytes t)) ns) (omega arith) (omega arith) f)

-- a tree that is spelled in the file and fills a store is shown by it
pub rendered_is_shown : (n : ℕ) → n ≤ id_room → (s : List ℕ) (end : ℕ) → end ≤ length s → Addressable s → (t : Tree) {place : ℕ} {b : List ℕ} → Node n place b t → Lies s place end b → Addressable (tree_bytes t)
    → ShowsTree s (tree_bytes t) minus_one 0 t
rendered_is_shown n fits s end inside short t x lies small =
    let size : length (tree_bytes t) ≡ nodes t * 72 = tree_length n fits t x minus_one 0 in
    let many : 0 + nodes t ≤ length (tree_bytes t) / 72 = omega arith in
    tree_shown n fits s end inside (omega arith) (tree_bytes t) (omega arith) t x lies minus_one 0 [] (omega arith) many (sym (append-nil (tree_bytes t)))
