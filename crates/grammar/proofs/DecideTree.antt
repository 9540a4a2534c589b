-- What decides the relations of Tree on lists. It reads no file and is no reader of the project: it only settles, for given bytes, whether a relation holds, and so that it
-- holds of one meaning at most. Assumes nothing.
use Rattle.std.specs.Prelude.{ℕ, zero, suc, ◌+◌, ◌-◌, ◌≤◌, ◌<◌, ◌≡◌, refl, Bool, true, false, List, [], ◌∷◌, ◌++◌, ◌↔◌, length}
use Rattle.std.proofs.Common.{sym, ap, ◌∙◌, subst, append_assoc, append-nil, arith, length-append}
use Rattle.std.proofs.Math.Option.{Option, some, none as nothing}
use Rattle.laws.specs.Pick.{pick}
use Rattle.laws.specs.Read.{Got, got, none, Says, spelled, refused, Reads, next, says_next}
use Rattle.grammar.specs.Number.{Count, covers, invalid, Signed, Unsigned}
use Rattle.grammar.specs.Tree.{Tree, tree, Subtrees, childless, beside, names, depth, deepest, Head, Id, of_tree, no_id, NodeHead, node_head, Other, alone, differs, Distinct, no_names, one_more_lem, Node, node, Nodes, no_node, one_node_lem}
use Rattle.grammar.specs.DecideNumber.{Bytes, bytes, read_bytes, bytes_reads, read_until, Ended, ended, read_ended, read_signed, read_unsigned, signed_reads, unsigned_reads}
use Rattle.grammar.proofs.DecideEntry.{Text, text, text_reads}
use Rattle.grammar.proofs.DecideExtension.{SameList, same_list_lem, other_list, same_list, same_list?}

-- ---- the head

unfoldable pub read_id : ℕ → Count → List ℕ → Got (List ℕ)
read_id n (covers v) xs = read_bytes n xs
read_id n invalid xs = got [] xs

data IdOf (n : ℕ) (count : Count) : List ℕ → List ℕ → Type 0 where
  id_of_lem : {id : List ℕ} → Id n count id → IdOf n count id id

id_says : (n : ℕ) (count : Count) (xs : List ℕ) → Says (IdOf n count) xs (read_id n count xs)
unfolding read_id
id_says n (covers v) xs = of ((bytes_reads n).says xs)
  where
    of : {g : Got (List ℕ)} → Says (Bytes n) xs g → Says (IdOf n (covers v)) xs g
    of refused = refused
    of (spelled b i (bytes h)) = spelled b i (id_of_lem (of_tree h))
id_says n invalid xs = spelled [] refl (id_of_lem no_id)

id_complete : {n : ℕ} {count : Count} {id : List ℕ} → Id n count id → (rest : List ℕ) → read_id n count (id ++ rest) ≡ got id rest
unfolding read_id
id_complete {n} (of_tree {id = id} h) rest = (bytes_reads n).complete (bytes {b = id} h) rest
id_complete no_id rest = refl

abbrev head_of : List ℕ → Count → ℕ → List ℕ → Head
head_of name count subtrees id = record { name = name; count = count; subtrees = subtrees; id = id }

unfoldable pub read_head : ℕ → List ℕ → Got Head
read_head n xs =
    next (read_until 0 xs) (λ name r. next (read_ended 32 read_signed r) (λ count q. next (read_ended 10 read_unsigned q) (λ k t. next (read_id n count t) (λ id u.
    got (record { name = name; count = count; subtrees = k; id = id }) u))))

pub head_reads : (n : ℕ) → Reads (NodeHead n) (read_head n)
unfolding read_head
head_reads n = record { says = says; complete = complete }
  where
    joined : (a b c id u : List ℕ) → (a ++ (0 ∷ [])) ++ ((b ++ (32 ∷ [])) ++ ((c ++ (10 ∷ [])) ++ (id ++ u))) ≡ (a ++ (0 ∷ (b ++ (32 ∷ (c ++ (10 ∷ id)))))) ++ u
    joined a b c id u = simp append_assoc

    of : {a b c d name id : List ℕ} {count : Count} {k : ℕ} (xs u : List ℕ) → xs ≡ a ++ (b ++ (c ++ (d ++ u))) → Text a name → Ended 32 Signed b count → Ended 10 Unsigned c k → IdOf n count d id
        → Says (NodeHead n) xs (got (head_of name count k id) u)
    of xs u i (text {s = a} x) (ended {b = b} y) (ended {b = c} z) (id_of_lem {id = id} w) = spelled (a ++ (0 ∷ (b ++ (32 ∷ (c ++ (10 ∷ id)))))) (i ∙ joined a b c id u) (node_head x y z w)

    says : (xs : List ℕ) → Says (NodeHead n) xs (read_head n xs)
    says xs =
        says_next (text_reads.says xs) (λ a name r i x. says_next (signed_reads.says r) (λ b count q j y. says_next (unsigned_reads.says q) (λ c k t l z. says_next (id_says n count t) (λ d id u m w.
        of xs u (rw (← m, ← l, ← j) i) x y z w))))

    complete : {b : List ℕ} {v : Head} → NodeHead n b v → (rest : List ℕ) → read_head n (b ++ rest) ≡ got v rest
    complete (node_head {name = a} {c = b} {k = c} {id = id} x y z w) rest =
        rw (← (joined a b c id rest), text_reads.complete (text x) ((b ++ (32 ∷ [])) ++ ((c ++ (10 ∷ [])) ++ (id ++ rest))), signed_reads.complete (ended y) ((c ++ (10 ∷ [])) ++ (id ++ rest)), unsigned_reads.complete (ended z) (id ++ rest), id_complete w rest)

-- ---- names that differ

unfoldable pub other_names : List ℕ → List (List ℕ) → Bool
other_names name [] = true
other_names name (m ∷ ms) = pick (same_list name m) false (other_names name ms)

unfoldable pub distinct : List (List ℕ) → Bool
distinct [] = true
distinct (m ∷ ms) = pick (other_names m ms) (distinct ms) false

data IsOther (name : List ℕ) (ms : List (List ℕ)) : Bool → Type 0 where
  is_other : Other name ms → IsOther name ms true
  is_same : (Other name ms → ⊥) → IsOther name ms false

other? : (name : List ℕ) (ms : List (List ℕ)) → IsOther name ms (other_names name ms)
unfolding other_names
other? name [] = is_other alone
other? name (m ∷ ms) = go (same_list? name m) (other? name ms)
  where
    head_differs : Other name (m ∷ ms) → name ≡ m → ⊥
    head_differs (differs d x) = d

    rest_differs : Other name (m ∷ ms) → Other name ms
    rest_differs (differs d x) = x

    go : {t u : Bool} → SameList name m t → IsOther name ms u → IsOther name (m ∷ ms) (pick t false u)
    go (same_list_lem e) u = is_same (λ x. head_differs x e)
    go (other_list d) (is_other x) = is_other (differs d x)
    go (other_list d) (is_same k) = is_same (λ x. k (rest_differs x))

pub data IsDistinct (ms : List (List ℕ)) : Bool → Type 0 where
  is_distinct : Distinct ms → IsDistinct ms true
  repeats : (Distinct ms → ⊥) → IsDistinct ms false

pub distinct? : (ms : List (List ℕ)) → IsDistinct ms (distinct ms)
unfolding distinct
distinct? [] = is_distinct no_names
distinct? (m ∷ ms) = go (other? m ms) (distinct? ms)
  where
    first_other : Distinct (m ∷ ms) → Other m ms
    first_other (one_more_lem x y) = x

    rest_distinct : Distinct (m ∷ ms) → Distinct ms
    rest_distinct (one_more_lem x y) = y

    go : {t u : Bool} → IsOther m ms t → IsDistinct ms u → IsDistinct (m ∷ ms) (pick t u false)
    go (is_other x) (is_distinct y) = is_distinct (one_more_lem x y)
    go (is_other x) (repeats k) = repeats (λ y. k (rest_distinct y))
    go (is_same k) u = repeats (λ y. k (first_other y))

distinct_true : {ms : List (List ℕ)} → Distinct ms → distinct ms ≡ true
distinct_true {ms} x = go (distinct? ms)
  where
    go : {t : Bool} → IsDistinct ms t → t ≡ true
    go (is_distinct y) = refl
    go (repeats k) = absurd (k x)

-- ---- a node no deeper than a bound, and so many of them

unfoldable pub read_nodes : (ℕ → List ℕ → Got Tree) → ℕ → ℕ → List ℕ → Got Subtrees
read_nodes f place zero xs = got childless xs
read_nodes f place (suc k) xs = next (f place xs) (λ t r. next (read_nodes f (place + (length xs - length r)) k r) (λ ts q. got (beside t ts) q))

unfoldable pub read_node : ℕ → ℕ → ℕ → List ℕ → Got Tree
read_node n zero place xs = none
read_node n (suc d) place xs =
    next (read_head n xs) (λ head r. next (read_nodes (read_node n d) (place + (length xs - length r)) head.subtrees r) (λ ts q.
    pick (distinct (names ts)) (got (tree place head.name head.count head.id ts) q) none))

pub record NodeWithin (n d place : ℕ) (b : List ℕ) (t : Tree) : Type 0 where
  pub is : Node n place b t
  pub within : depth t ≤ d

record NodesWithin (n d place k : ℕ) (b : List ℕ) (ts : Subtrees) : Type 0 where
  are : Nodes n place k b ts
  all_within : deepest ts ≤ d

consumed : (xs b r : List ℕ) → xs ≡ b ++ r → length xs - length r ≡ length b
consumed xs b r i = omega (arith, simp length-append at (ap length i))

nodes_says : (n d : ℕ) → ((place : ℕ) (xs : List ℕ) → Says (NodeWithin n d place) xs (read_node n d place xs)) → (k place : ℕ) (xs : List ℕ)
    → Says (NodesWithin n d place k) xs (read_nodes (read_node n d) place k xs)
unfolding read_nodes
nodes_says n d ih zero place xs = spelled [] refl (record { are = no_node; all_within = omega arith })
nodes_says n d ih (suc k) place xs =
    says_next (ih place xs) (λ b t r i x. says_next (nodes_says n d ih k (place + (length xs - length r)) r) (λ c ts q j y.
    spelled (b ++ c) (rw (append_assoc, ← j) i)
    (record {
      are = one_node_lem x.is (subst (λ (m : ℕ). Nodes n (place + m) k c ts) (consumed xs b r i) y.are) refl;
      all_within = let l : depth t ≤ d = x.within in let m : deepest ts ≤ d = y.all_within in omega arith;
    })))

node_says : (n d place : ℕ) (xs : List ℕ) → Says (NodeWithin n d place) xs (read_node n d place xs)
unfolding read_node
node_says n zero place xs = refused
node_says n (suc d) place xs =
    says_next ((head_reads n).says xs) (λ h head r i x. says_next (nodes_says n d (node_says n d) head.subtrees (place + (length xs - length r)) r) (λ b ts q j y.
    go h head b ts q (rw (append_assoc, ← j) i) x (subst (λ (m : ℕ). Nodes n (place + m) head.subtrees b ts) (consumed xs h r i) y.are) y.all_within (distinct? (names ts))))
  where
    go : (h : List ℕ) (head : Head) (b : List ℕ) (ts : Subtrees) (q : List ℕ) → xs ≡ (h ++ b) ++ q → NodeHead n h head → Nodes n (place + length h) head.subtrees b ts → deepest ts ≤ d
        → {t : Bool} → IsDistinct (names ts) t → Says (NodeWithin n (suc d) place) xs (pick t (got (tree place head.name head.count head.id ts) q) none)
    go h head b ts q i x y l (is_distinct z) = spelled (h ++ b) i (record { is = node x y z refl; within = omega arith })
    go h head b ts q i x y l (repeats k) = refused

nodes_complete : (n d : ℕ) → ((place : ℕ) (b : List ℕ) (t : Tree) → Node n place b t → depth t ≤ d → (rest : List ℕ) → read_node n d place (b ++ rest) ≡ got t rest)
    → {place k : ℕ} {b : List ℕ} {ts : Subtrees} → Nodes n place k b ts → deepest ts ≤ d → (rest : List ℕ) → read_nodes (read_node n d) place k (b ++ rest) ≡ got ts rest
unfolding read_nodes
nodes_complete n d ih no_node l rest = refl
nodes_complete n d ih {place} (one_node_lem {b = b} {c = c} {t = t} x y i) l rest =
    let e : place + (length (b ++ (c ++ rest)) - length (c ++ rest)) ≡ place + length b = ap (λ (m : ℕ). place + m) (consumed (b ++ (c ++ rest)) b (c ++ rest) refl) in
    rw (i, append_assoc b c rest, ih place b t x (omega arith) (c ++ rest), e, nodes_complete n d ih y (omega arith) rest)

node_complete : (n d place : ℕ) (b : List ℕ) (t : Tree) → Node n place b t → depth t ≤ d → (rest : List ℕ) → read_node n d place (b ++ rest) ≡ got t rest
unfolding read_node
node_complete n zero place b t (node x y z i) l rest = absurd (omega arith)
node_complete n (suc d) place b t (node {h = h} {b = c} x y z i) l rest =
    let e : place + (length (h ++ (c ++ rest)) - length (c ++ rest)) ≡ place + length h = ap (λ (m : ℕ). place + m) (consumed (h ++ (c ++ rest)) h (c ++ rest) refl) in
    rw (i, append_assoc h c rest, (head_reads n).complete x (c ++ rest), e, nodes_complete n d (node_complete n d) y (omega arith) rest, distinct_true z)

pub node_reads : (n d place : ℕ) → Reads (NodeWithin n d place) (read_node n d place)
node_reads n d place = record { says = node_says n d place; complete = λ {b} {v} x rest. node_complete n d place b v x.is x.within rest }

-- ---- a tree is no deeper than its bytes are many

head_some : {n : ℕ} {h : List ℕ} {v : Head} → NodeHead n h v → 0 < length h
head_some (node_head {name = a} {c = b} {k = c} {id = id} x y z w) = omega (arith, length-append a (0 ∷ (b ++ (32 ∷ (c ++ (10 ∷ id))))))

mutual
  pub node_depth : (t : Tree) {n place : ℕ} {b : List ℕ} → Node n place b t → depth t ≤ length b
  node_depth (tree place name count id ts) (node {h = h} {b = c} x y z i) = let l = nodes_depth ts y in omega (arith, head_some x, ap length i, length-append h c)

  nodes_depth : (ts : Subtrees) {n place k : ℕ} {b : List ℕ} → Nodes n place k b ts → deepest ts ≤ length b
  nodes_depth childless no_node = omega arith
  nodes_depth (beside t ts) (one_node_lem {b = b} {c = c} x y i) =
      let l = node_depth t x in
      let m = nodes_depth ts y in
      omega (arith, ap length i, length-append b c)

-- ---- the whole body of a TREE

abbrev pub whole : Got Tree → Option Tree
whole none = nothing
whole (got t []) = some t
whole (got t (c ∷ r)) = nothing

unfoldable pub read_tree : ℕ → ℕ → List ℕ → Option Tree
read_tree n place body = whole (read_node n (length body) place body)

pub data SaysTree (n place : ℕ) (body : List ℕ) : Option Tree → Type 0 where
  is_tree : {t : Tree} → Node n place body t → SaysTree n place body (some t)
  no_tree : ((t : Tree) → Node n place body t → ⊥) → SaysTree n place body nothing

tree_complete : {n place : ℕ} {body : List ℕ} {t : Tree} → Node n place body t → read_tree n place body ≡ some t
unfolding read_tree
tree_complete {n} {place} {body} {t} x = ap whole (ap (read_node n (length body) place) (sym (append-nil body)) ∙ node_complete n (length body) place body t x (node_depth t x) [])

pub tree_says : (n place : ℕ) (body : List ℕ) → SaysTree n place body (read_tree n place body)
unfolding read_tree
tree_says n place body = go (read_tree n place body) refl
  where
    sound : {t : Tree} {g : Got Tree} → Says (NodeWithin n (length body) place) body g → whole g ≡ some t → Node n place body t
    sound {t} refused e = let z : ◌≡◌ {A = ℕ} 0 1 = cc in absurd (omega arith)
    sound {t} (spelled {v = u} {rest = []} b i x) e = let f : u ≡ t = cc in rw (i, append-nil b, ← f) x.is
    sound {t} (spelled {rest = c ∷ r} b i x) e = let z : ◌≡◌ {A = ℕ} 0 1 = cc in absurd (omega arith)

    go : (o : Option Tree) → read_tree n place body ≡ o → SaysTree n place body o
    go (some t) e = is_tree (sound (node_says n (length body) place body) e)
    go nothing e = no_tree (λ t x. let f = tree_complete x in let z : ◌≡◌ {A = ℕ} 0 1 = cc in omega arith)

pub tree_decided : (n place : ℕ) (body : List ℕ) (t : Tree) → (read_tree n place body ≡ some t) ↔ Node n place body t
tree_decided n place body t = (of (tree_says n place body), tree_complete)
  where
    of : {o : Option Tree} → SaysTree n place body o → o ≡ some t → Node n place body t
    of (is_tree {t = u} x) e = let f : u ≡ t = cc in subst (Node n place body) f x
    of (no_tree k) e = let z : ◌≡◌ {A = ℕ} 0 1 = cc in absurd (omega arith)

-- one tree at most
pub tree_unique : {n place : ℕ} {body : List ℕ} {t u : Tree} → Node n place body t → Node n place body u → t ≡ u
tree_unique {n} {place} {body} {t} {u} x y =
    let f : read_tree n place body ≡ some t = tree_complete x in
    let g : read_tree n place body ≡ some u = tree_complete y in
    cc
