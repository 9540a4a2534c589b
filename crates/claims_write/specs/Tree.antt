-- The tree that the writer writes of a proper node table is spelled by the grammar: each node with its name, its count and its id, and below it its children, all of
-- them, in byte order of name. Over the length of an id and the depth. Assumes that the node table has fewer than 2^64 bytes, as every slice has.
use Prim.Native.Nat.{ℕ, zero, suc, ◌+◌, ◌-◌, ◌*◌, ◌/◌, ◌%◌, ◌^◌, ◌≤◌, ◌<◌}
use Rattle.std.specs.Prelude.{◌≡◌, Bool, true, false, List, [], ◌∷◌, ◌++◌, map, ◌⊎◌, ltb, eqb, take, drop, Some, is_none}
use Rattle.std.proofs.Math.Path.{refl, sym, subst}
use Rattle.std.proofs.Common.{ap, ◌∙◌, append_assoc, ⊎_elim, arith, lit≤, lit<, lt-ltb, eq-eqb, ne_eqb}
use Rattle.std.proofs.Math.ListN.{length}
use Rattle.laws.specs.Pick.{pick}
use Rattle.laws.specs.Lists.{length_part}
use Rattle.laws.specs.Order.{Before}
use Rattle.laws.specs.Tests.{tri, Less, less, not_less, less?, Same, same, differs, same?}
use Rattle.slices.specs.Bytes.{nul_in, nul_at}
use Rattle.wire.specs.Written.{digits_by, digits_of}
use Rattle.node.specs.Head.{minus_one, count_half}
use Rattle.node.specs.Store.{nodes_in, count_at, subtrees_at, parent_at, id_at, name_at}
use Rattle.siblings.specs.Siblings.{is_child}
use Rattle.siblings.specs.InOrder.{Distinct as DistinctAt, differ_distinct}
pub use Rattle.walk_order.specs.Depth.{Level, root, below, level_within}
use Rattle.tree_write.specs.Order.{before, false_true, before_not, before_names}
use Rattle.tree_write.specs.Tree.{after, count_bytes, front_bytes, number_bytes, id_bytes, head_bytes, kids, each, node_bytes}
use Rattle.proper.specs.Proper.{holds_none, child_count}
use Rattle.proper.specs.Table.{Proper}
use Rattle.tree_write.specs.Kids.{Mem, here, there, Rising, done, more, top, tally_all, cand, goes}
use Rattle.grammar.specs.Number.{Digit, Digits, last_digit, digit, Count, covers, invalid, Signed, minus}
use Rattle.grammar.specs.Number.Signed.{plain as no_sign}
use Rattle.grammar.specs.Entry.{NoNul}
use Rattle.grammar.specs.Entry.NoNul.{empty, byte}
use Rattle.grammar.specs.Tree.{Tree, tree, Subtrees, childless, beside, name_of, names, depth, deepest, Head, Id, of_tree, no_id, NodeHead, node_head, Other, alone, differs as other_differs, Distinct, no_names, one_more_lem, Node, node, Nodes, no_node, one_node_lem}

-- ---- digits

digits_snoc : {v w : ℕ} {b : List ℕ} → Digits 10 v b w → (c : ℕ) → Digit 10 c → Digits 10 v (b ++ (c ∷ [])) (w * 10 + (c - 48))
digits_snoc (last_digit d) c e = digit d (last_digit e)
digits_snoc (digit d y) c e = digit d (digits_snoc y c e)

digits_as : {v w u : ℕ} {b : List ℕ} → Digits 10 v b w → w ≡ u → Digits 10 v b u
digits_as {v} {b = b} x e = subst (Digits 10 v b) e x

one_digit : (x : ℕ) → x < 10 → Digit 10 (48 + x)
one_digit x h = record { least = omega arith; below = omega arith }

digits_by_lem : (f x : ℕ) → x < f → Digits 10 0 (digits_by 10 f x) x
unfolding digits_by
digits_by_lem zero x h = absurd (omega arith)
digits_by_lem (suc f) x h = by (less? x 10) (λ k. digits_by_lem f (x / 10) k)
  where
    by : {t : Bool} → Less x 10 t → (x / 10 < f → Digits 10 0 (digits_by 10 f (x / 10)) (x / 10)) → Digits 10 0 (pick t ((48 + x) ∷ []) (digits_by 10 f (x / 10) ++ ((48 + x % 10) ∷ []))) x
    by (less l) ih = digits_as (last_digit (one_digit x l)) (omega arith)
    by (not_less l) ih = digits_as (digits_snoc (ih (omega arith)) (48 + x % 10) (one_digit (x % 10) (omega arith))) (omega arith)

pub digits_spelled : (x : ℕ) → Digits 10 0 (digits_of 10 x) x
unfolding digits_of
digits_spelled x = digits_by_lem (suc x) x (omega arith)

-- ---- the head

nul_never : (f : ℕ) (l : List ℕ) (i : ℕ) → length l ≤ f → is_none (nul_in f l i) ≡ true → NoNul l
unfolding nul_in
nul_never f [] i h e = empty
nul_never zero (c ∷ l) i h e = absurd (omega arith)
nul_never (suc f) (c ∷ l) i h e = by (same? c 0) (λ q. nul_never f l (i + 1) (omega arith) q) e
  where
    by : {t : Bool} → Same c 0 t → (is_none (nul_in f l (i + 1)) ≡ true → NoNul l) → is_none (pick t (Some i) (nul_in f l (i + 1))) ≡ true → NoNul (c ∷ l)
    by (same z) ih e = absurd (false_true e)
    by (differs d) ih e = let p : 0 < c = omega arith in byte p (ih e)

pub no_nul : (name : List ℕ) → holds_none name ≡ true → NoNul name
unfolding holds_none nul_at
no_nul name e = nul_never (length name - 0) name 0 (omega arith) e

-- how many entries a node covers, or that it is invalid
abbrev pub count_meant : ℕ → Count
count_meant v = pick (eqb v minus_one) invalid (covers v)

count_spelled : (v : ℕ) → (v ≡ minus_one) ⊎ (v < count_half) → Signed (count_bytes v) (count_meant v)
unfolding count_bytes
count_spelled v fits = by (same? v minus_one)
  where
    by : {t : Bool} → Same v minus_one t → Signed (pick t (45 ∷ 49 ∷ []) (digits_of 10 v)) (pick t invalid (covers v))
    by (same e) = minus {b = 49 ∷ []} {v = 1} (last_digit {c = 49} (record { least = lit≤ tt; below = lit< tt })) (lit< tt) (lit≤ tt)
    by (differs d) = no_sign (digits_spelled v) (⊎_elim (λ e. absurd (d e)) (λ h. h) fits)

id_spelled : (n : ℕ) (ns : List ℕ) (i : ℕ) → n ≤ 32 → i < nodes_in ns → Id n (count_meant (count_at ns i)) (id_bytes n ns i)
unfolding id_bytes id_at
id_spelled n ns i small h = by (eqb (count_at ns i) minus_one)
  where
    by : (t : Bool) → Id n (pick t invalid (covers (count_at ns i))) (pick t [] (pick (ltb i (nodes_in ns)) (take n (drop (i * 72 + 40) ns)) []))
    by true = no_id
    by false = rw (lt-ltb i (nodes_in ns) h) (of_tree (length_part n (i * 72 + 40) ns (omega arith)))

abbrev pub head_meant : ℕ → List ℕ → List ℕ → ℕ → Head
head_meant n ns nm i = record { name = name_at nm ns i; count = count_meant (count_at ns i); subtrees = subtrees_at ns i; id = id_bytes n ns i }

child_count_small : (ns : List ℕ) (p k j : ℕ) → child_count ns p k j ≤ k
unfolding child_count
child_count_small ns p zero j = omega arith
child_count_small ns p (suc k) j = by (is_child ns p j) (child_count_small ns p k (j + 1))
  where
    by : (t : Bool) → child_count ns p k (j + 1) ≤ k → pick t 1 0 + child_count ns p k (j + 1) ≤ suc k
    by true h = omega arith
    by false h = omega arith

head_spelled : (n limit : ℕ) (ns nm : List ℕ) (i : ℕ) → n ≤ 32 → length ns < 2 ^ 64 → i < nodes_in ns → Proper limit ns nm → NodeHead n (head_bytes n ns nm i) (head_meant n ns nm i)
unfolding head_bytes front_bytes number_bytes
head_spelled n limit ns nm i small few h proper =
    let name : List ℕ = name_at nm ns i in
    let c : List ℕ = count_bytes (count_at ns i) in
    let k : List ℕ = digits_of 10 (subtrees_at ns i) in
    let id : List ℕ = id_bytes n ns i in
    let e : ((((name ++ (0 ∷ [])) ++ c) ++ (((32 ∷ []) ++ k) ++ (10 ∷ []))) ++ id) ≡ name ++ (0 ∷ (c ++ (32 ∷ (k ++ (10 ∷ id))))) =
    append_assoc ((name ++ (0 ∷ [])) ++ c) (((32 ∷ []) ++ k) ++ (10 ∷ [])) id
    ∙ append_assoc (name ++ (0 ∷ [])) c ((((32 ∷ []) ++ k) ++ (10 ∷ [])) ++ id)
    ∙ append_assoc name (0 ∷ []) (c ++ ((((32 ∷ []) ++ k) ++ (10 ∷ [])) ++ id))
    ∙ ap (λ (l : List ℕ). name ++ (0 ∷ (c ++ (32 ∷ l)))) (append_assoc k (10 ∷ []) id) in
    let fits : subtrees_at ns i < 2 ^ 64 = omega (arith, proper.subtrees i h, child_count_small ns i (nodes_in ns - 1) 1) in
    subst (λ (b : List ℕ). NodeHead n b (head_meant n ns nm i)) (sym e)
    (node_head (no_nul name (proper.plain i h)) (count_spelled (count_at ns i) (proper.counts i h)) (record { digits = digits_spelled (subtrees_at ns i); fits = fits }) (id_spelled n ns i small h))

-- ---- how many children there are

-- the sum of f over k numbers from j on
unfoldable pub total : (ℕ → ℕ) → ℕ → ℕ → ℕ
total f zero j = 0
total f (suc k) j = f j + total f k (j + 1)

-- how often j stands in a list
unfoldable pub hits : List ℕ → ℕ → ℕ
hits [] j = 0
hits (x ∷ l) j = pick (eqb x j) 1 0 + hits l j

pub total_zero : (k j : ℕ) → total (λ x. 0) k j ≡ 0
unfolding total
total_zero zero j = refl
total_zero (suc k) j = omega (arith, total_zero k (j + 1))

pub total_sum : (f g : ℕ → ℕ) (k j : ℕ) → total (λ x. f x + g x) k j ≡ total f k j + total g k j
unfolding total
total_sum f g zero j = refl
total_sum f g (suc k) j = omega (arith, total_sum f g k (j + 1))

pub total_same : (f g : ℕ → ℕ) (k j : ℕ) → ((x : ℕ) → j ≤ x → x < j + k → f x ≡ g x) → total f k j ≡ total g k j
unfolding total
total_same f g zero j h = refl
total_same f g (suc k) j h = omega (arith, total_same f g k (j + 1) (λ x a b. h x (omega arith) (omega arith)), h j (omega arith) (omega arith))

-- one number is met once, or not if it lies before
total_past : (x k j : ℕ) → x < j → total (λ y. pick (eqb x y) 1 0) k j ≡ 0
unfolding total
total_past x zero j h = refl
total_past x (suc k) j h = let d : x ≡ j → ⊥ = λ e. omega arith in rw (ne_eqb x j d) (omega (arith, total_past x k (j + 1) (omega arith)))

total_one : (x k j : ℕ) → j ≤ x → x < j + k → total (λ y. pick (eqb x y) 1 0) k j ≡ 1
unfolding total
total_one x zero j h l = absurd (omega arith)
total_one x (suc k) j h l = by (same? x j) (λ a. total_one x k (j + 1) a (omega arith))
  where
    by : {t : Bool} → Same x j t → (j + 1 ≤ x → total (λ y. pick (eqb x y) 1 0) k (j + 1) ≡ 1) → pick t 1 0 + total (λ y. pick (eqb x y) 1 0) k (j + 1) ≡ 1
    by (same e) ih = omega (arith, total_past x k (j + 1) (omega arith))
    by (differs d) ih = omega (arith, ih (omega arith))

pub total_hits : (l : List ℕ) (k j : ℕ) → ((x : ℕ) → Mem x l → (j ≤ x) × (x < j + k)) → total (hits l) k j ≡ length l
unfolding hits
total_hits [] k j h = total_zero k j
total_hits (x ∷ l) k j h =
    let (a, b) = h x here in
    total_sum (λ y. pick (eqb x y) 1 0) (hits l) k j ∙ omega (arith, total_one x k j a b, total_hits l k j (λ y m. h y (there m)))

pub no_hits : (l : List ℕ) (j : ℕ) → (Mem j l → ⊥) → hits l j ≡ 0
unfolding hits
no_hits [] j h = refl
no_hits (x ∷ l) j h = by (same? x j) (no_hits l j (λ m. h (there m)))
  where
    by : {t : Bool} → Same x j t → hits l j ≡ 0 → pick t 1 0 + hits l j ≡ 0
    by (same e) ih = absurd (h (subst (λ (y : ℕ). Mem j (y ∷ l)) (sym e) here))
    by (differs d) ih = omega arith

pub one_hit : (R : ℕ → ℕ → Type 0) → ((x : ℕ) → R x x → ⊥) → {l : List ℕ} → Rising R l → (j : ℕ) → Mem j l → hits l j ≡ 1
unfolding hits
one_hit R irr done j m = elim m [ ]
one_hit R irr (more {x = x} {xs = l} r rest) j m = go x r m (λ k. one_hit R irr rest j k)
  where
    go : (x : ℕ) → ((y : ℕ) → Mem y l → R x y) → Mem j (x ∷ l) → (Mem j l → hits l j ≡ 1) → pick (eqb x j) 1 0 + hits l j ≡ 1
    go x r here ih = rw (eq-eqb j j refl) (omega (arith, no_hits l j (λ k. irr j (r j k))))
    go x r (there k) ih = let d : x ≡ j → ⊥ = λ e. irr j (subst (λ (y : ℕ). R y j) e (r j k)) in rw (ne_eqb x j d) (omega (arith, ih k))

module _ (ns nm : List ℕ) (p : ℕ) where
  -- the children of p, in the order in which they are written
  abbrev pub kids_of : List ℕ
  kids_of = kids ns nm p (nodes_in ns) 0

  first : (j : ℕ) → after ns nm 0 j ≡ true
  unfolding after
  first j = refl

  -- exactly the nodes with that parent
  pub kids_are : (j : ℕ) → Mem j kids_of → (0 < j) × (j < nodes_in ns) × (parent_at ns j ≡ p)
  kids_are j m =
      let (l, c) = (goes ns nm p (nodes_in ns) 0).inside j m in
      let r : 0 < j = c.real in
      (r, omega arith, c.child)

  pub kids_all : (j : ℕ) → 0 < j → j < nodes_in ns → parent_at ns j ≡ p → Mem j kids_of
  kids_all j r l q = (goes ns nm p (nodes_in ns) 0).whole (omega (arith, tally_all (cand ns nm p 0) (top ns))) j (omega arith) (record { real = r; child = q; past = first j })

  pub kids_rise : Rising (λ x y. before ns nm x y ≡ true) kids_of
  kids_rise = (goes ns nm p (nodes_in ns) 0).rising

  counted : (k j : ℕ) → total (λ y. pick (is_child ns p y) 1 0) k j ≡ child_count ns p k j
  unfolding total child_count
  counted zero j = refl
  counted (suc k) j = omega (arith, counted k (j + 1))

  -- as many as the table says
  pub length-kids : length kids_of ≡ child_count ns p (nodes_in ns - 1) 1
  length-kids =
      sym (total_hits kids_of (nodes_in ns - 1) 1 (λ x m. let (a, b, c) = kids_are x m in (omega arith, omega arith)))
      ∙ total_same (hits kids_of) (λ y. pick (is_child ns p y) 1 0) (nodes_in ns - 1) 1 (λ x a b. by x a b (same? (parent_at ns x) p))
      ∙ counted (nodes_in ns - 1) 1
    where
      by : (x : ℕ) → 1 ≤ x → x < 1 + (nodes_in ns - 1) → {t : Bool} → Same (parent_at ns x) p t → hits (kids ns nm p (nodes_in ns) 0) x ≡ pick t 1 0
      by x a b (same e) = one_hit (λ y z. before ns nm y z ≡ true) (before_not ns nm) kids_rise x (kids_all x (omega arith) (omega arith) e)
      by x a b (differs d) = no_hits (kids ns nm p (nodes_in ns) 0) x (λ m. d (kids_are x m).2)

-- ---- THE TREE THAT A TABLE MEANS

-- the subtrees of these nodes, one behind the other from a place on, by a node's tree and its bytes
unfoldable pub subtrees_of : (ℕ → ℕ → Tree) → (ℕ → List ℕ) → ℕ → List ℕ → Subtrees
subtrees_of t b place [] = childless
subtrees_of t b place (j ∷ js) = beside (t place j) (subtrees_of t b (place + length (b j)) js)

-- node i, from a place on, and what is below it, at most so many levels deep; the names' places are those of the file
unfoldable pub tree_at : ℕ → List ℕ → List ℕ → ℕ → ℕ → ℕ → Tree
tree_at n ns nm zero place i = tree place (name_at nm ns i) invalid [] childless
tree_at n ns nm (suc d) place i =
    tree place (name_at nm ns i) (count_meant (count_at ns i)) (id_bytes n ns i)
    (subtrees_of (tree_at n ns nm d) (node_bytes n ns nm d) (place + length (head_bytes n ns nm i)) (kids_of ns nm i))

-- ---- it is spelled

nodes_spelled : (n : ℕ) (t : ℕ → ℕ → Tree) (b : ℕ → List ℕ) (l : List ℕ) (place : ℕ) → ((p j : ℕ) → Mem j l → Node n p (b j) (t p j)) → Nodes n place (length l) (each b l) (subtrees_of t b place l)
unfolding each subtrees_of
nodes_spelled n t b [] place h = no_node
nodes_spelled n t b (j ∷ js) place h = one_node_lem (h place j here) (nodes_spelled n t b js (place + length (b j)) (λ p k m. h p k (there m))) refl

names_of : (name : ℕ → List ℕ) (t : ℕ → ℕ → Tree) (b : ℕ → List ℕ) (l : List ℕ) (place : ℕ) → ((p j : ℕ) → name_of (t p j) ≡ name j) → names (subtrees_of t b place l) ≡ map name l
unfolding subtrees_of
names_of name t b [] place h = refl
names_of name t b (j ∷ js) place h = λ k. h place j k ∷ names_of name t b js (place + length (b j)) h k

name_at_lem : (n : ℕ) (ns nm : List ℕ) (d p j : ℕ) → name_of (tree_at n ns nm d p j) ≡ name_at nm ns j
unfolding tree_at
name_at_lem n ns nm zero p j = refl
name_at_lem n ns nm (suc d) p j = refl

other_names_lem : (name : ℕ → List ℕ) (x : ℕ) (l : List ℕ) → ((y : ℕ) → Mem y l → name x ≡ name y → ⊥) → Other (name x) (map name l)
other_names_lem name x [] h = alone
other_names_lem name x (y ∷ l) h = other_differs (h y here) (other_names_lem name x l (λ z m. h z (there m)))

pub distinct_names : (name : ℕ → List ℕ) (R : ℕ → ℕ → Type 0) → ((x : ℕ) → R x x → ⊥) → {l : List ℕ} → Rising R l → ((x y : ℕ) → Mem x l → Mem y l → name x ≡ name y → x ≡ y) → Distinct (map name l)
distinct_names name R irr done h = no_names
distinct_names name R irr (more {x = x} {xs = l} r rest) h =
    one_more_lem (other_names_lem name x l (λ y m e. irr x (subst (R x) (sym (h x y here (there m) e)) (r y m)))) (distinct_names name R irr rest (λ y z a b e. h y z (there a) (there b) e))

deepest_small : (t : ℕ → ℕ → Tree) (b : ℕ → List ℕ) (l : List ℕ) (place d : ℕ) → ((p j : ℕ) → Mem j l → depth (t p j) ≤ d) → deepest (subtrees_of t b place l) ≤ d
unfolding subtrees_of
deepest_small t b [] place d h = omega arith
deepest_small t b (j ∷ js) place d h = omega (arith, h place j here, deepest_small t b js (place + length (b j)) d (λ p k m. h p k (there m)))

-- ---- SIBLINGS IN BYTE ORDER OF NAME

-- each name comes before the next
pub data RisingNames : List (List ℕ) → Type 0 where
  no_name : RisingNames []
  one_name : {name : List ℕ} → RisingNames (name ∷ [])
  then_name : {name name₁ : List ℕ} {more : List (List ℕ)} → Before name name₁ → RisingNames (name₁ ∷ more) → RisingNames (name ∷ (name₁ ∷ more))

mutual
  -- the names of a node's subtrees rise, and so below each of them
  pub data Sorted : Tree → Type 0 where
    sorted : {place : ℕ} {name : List ℕ} {count : Count} {id : List ℕ} {subtrees : Subtrees} → RisingNames (names subtrees) → AllSorted subtrees → Sorted (tree place name count id subtrees)

  pub data AllSorted : Subtrees → Type 0 where
    none_sorted : AllSorted childless
    both_sorted : {t : Tree} {ts : Subtrees} → Sorted t → AllSorted ts → AllSorted (beside t ts)

all_sorted : (t : ℕ → ℕ → Tree) (b : ℕ → List ℕ) (l : List ℕ) (place : ℕ) → ((p j : ℕ) → Mem j l → Sorted (t p j)) → AllSorted (subtrees_of t b place l)
unfolding subtrees_of
all_sorted t b [] place h = none_sorted
all_sorted t b (j ∷ js) place h = both_sorted (h place j here) (all_sorted t b js (place + length (b j)) (λ p k m. h p k (there m)))

rising_names : (ns nm : List ℕ) {l : List ℕ} → Rising (λ x y. before ns nm x y ≡ true) l → ((x y : ℕ) → Mem x l → Mem y l → name_at nm ns x ≡ name_at nm ns y → x ≡ y) → RisingNames (map (name_at nm ns) l)
rising_names ns nm done h = no_name
rising_names ns nm (more r done) h = one_name
rising_names ns nm (more {x = x} r (more {x = y} q rest)) h =
    then_name (before_names ns nm x y (r y here) (h x y here (there here))) (rising_names ns nm (more q rest) (λ a b m k e. h a b (there m) (there k) e))

module _ (n limit : ℕ) (ns nm : List ℕ) (small : n ≤ 32) (few : length ns < 2 ^ 64) (proper : Proper limit ns nm) where
  pub same_name : (i : ℕ) → i < nodes_in ns → (x y : ℕ) → Mem x (kids_of ns nm i) → Mem y (kids_of ns nm i) → name_at nm ns x ≡ name_at nm ns y → x ≡ y
  same_name i h x y a b e =
      let d : DistinctAt nm ns i 1 (nodes_in ns) = differ_distinct nm ns i 1 (nodes_in ns) (proper.distinct i h) in
      let (x₁, x₂, x₃) = kids_are ns nm i x a in
      let (y₁, y₂, y₃) = kids_are ns nm i y b in
      ⊎_elim (λ l. absurd (d y x (omega arith) l y₂ y₃ x₃ (sym e))) (⊎_elim (λ l. l) (λ l. absurd (d x y (omega arith) l x₂ x₃ y₃ e))) (tri x y)

  pub node_spelled : (d k i place : ℕ) → i < nodes_in ns → Level ns k i → k + d ≡ limit + 1 → Node n place (node_bytes n ns nm d i) (tree_at n ns nm d place i)
  unfolding node_bytes tree_at
  node_spelled zero k i place h l e = absurd (omega (arith, level_within l limit (proper.depth i h)))
  node_spelled (suc d) k i place h l e =
      let count : length (kids_of ns nm i) ≡ subtrees_at ns i = length-kids ns nm i ∙ sym (proper.subtrees i h) in
      let inner : (p j : ℕ) → Mem j (kids_of ns nm i) → Node n p (node_bytes n ns nm d j) (tree_at n ns nm d p j) =
      λ p j m. let (a, b, c) = kids_are ns nm i j m in node_spelled d (suc k) j p b (below a c l) (omega arith) in
      let start : ℕ = place + length (head_bytes n ns nm i) in
      let subtrees : Subtrees = subtrees_of (tree_at n ns nm d) (node_bytes n ns nm d) start (kids_of ns nm i) in
      let many : Nodes n start (subtrees_at ns i) (each (node_bytes n ns nm d) (kids_of ns nm i)) subtrees =
      subst (λ (j : ℕ). Nodes n start j (each (node_bytes n ns nm d) (kids_of ns nm i)) subtrees) count (nodes_spelled n (tree_at n ns nm d) (node_bytes n ns nm d) (kids_of ns nm i) start inner) in
      let apart : Distinct (names subtrees) =
      subst Distinct (sym (names_of (name_at nm ns) (tree_at n ns nm d) (node_bytes n ns nm d) (kids_of ns nm i) start (name_at_lem n ns nm d)))
      (distinct_names (name_at nm ns) (λ x y. before ns nm x y ≡ true) (before_not ns nm) (kids_rise ns nm i) (same_name i h)) in
      node {head = head_meant n ns nm i} (head_spelled n limit ns nm i small few h proper) many apart refl

  -- THE TREE: what is written of a proper table is its tree
  pub tree_spelled : (place : ℕ) → Node n place (node_bytes n ns nm limit 0) (tree_at n ns nm limit place 0)
  tree_spelled place = node_spelled limit 1 0 place proper.some root (omega arith)

  -- ---- it is no deeper than the limit

  depth_small : (d k i place : ℕ) → i < nodes_in ns → Level ns k i → k + d ≡ limit + 1 → depth (tree_at n ns nm d place i) ≤ d
  unfolding tree_at
  depth_small zero k i place h l e = absurd (omega (arith, level_within l limit (proper.depth i h)))
  depth_small (suc d) k i place h l e =
      let inner : (p j : ℕ) → Mem j (kids_of ns nm i) → depth (tree_at n ns nm d p j) ≤ d = λ p j m. let (a, b, c) = kids_are ns nm i j m in depth_small d (suc k) j p b (below a c l) (omega arith) in
      omega (arith, deepest_small (tree_at n ns nm d) (node_bytes n ns nm d) (kids_of ns nm i) (place + length (head_bytes n ns nm i)) d inner)

  pub tree_shallow : (place : ℕ) → depth (tree_at n ns nm limit place 0) ≤ limit
  tree_shallow place = depth_small limit 1 0 place proper.some root (omega arith)

  -- ---- siblings stand in byte order of name

  sorted_at : (d k i place : ℕ) → i < nodes_in ns → Level ns k i → k + d ≡ limit + 1 → Sorted (tree_at n ns nm d place i)
  unfolding tree_at
  sorted_at zero k i place h l e = absurd (omega (arith, level_within l limit (proper.depth i h)))
  sorted_at (suc d) k i place h l e =
      let inner : (p j : ℕ) → Mem j (kids_of ns nm i) → Sorted (tree_at n ns nm d p j) = λ p j m. let (a, b, c) = kids_are ns nm i j m in sorted_at d (suc k) j p b (below a c l) (omega arith) in
      let start : ℕ = place + length (head_bytes n ns nm i) in
      sorted
      (subst RisingNames (sym (names_of (name_at nm ns) (tree_at n ns nm d) (node_bytes n ns nm d) (kids_of ns nm i) start (name_at_lem n ns nm d)))
      (rising_names ns nm (kids_rise ns nm i) (same_name i h)))
      (all_sorted (tree_at n ns nm d) (node_bytes n ns nm d) (kids_of ns nm i) start inner)

  pub tree_sorted : (place : ℕ) → Sorted (tree_at n ns nm limit place 0)
  tree_sorted place = sorted_at limit 1 0 place proper.some root (omega arith)
