-- A proper node table whose nodes stand in the order in which they are written reads back as the same node list, name places aside. Over the length of an id and the
-- depth. Assumes nothing.
use Prim.Native.Nat.{ℕ, zero, suc, ◌+◌, ◌<◌}
use Rattle.std.specs.Prelude.{◌≡◌, refl}
use Rattle.std.proofs.Math.Path.{sym, subst}
use Rattle.std.proofs.Common.{ap, ◌∙◌, arith, length-append}
use mathlib.Core.List.{List, [], ◌∷◌, ◌++◌, append_assoc}
use Rattle.std.proofs.Math.ListN.{length}
use Rattle.node.specs.Store.{nodes_in, count_at, subtrees_at, parent_at, name_at}
use Rattle.tree_write.specs.Tree.{id_bytes, head_bytes, each, node_bytes}
use Rattle.proper.specs.Table.{Proper}
use Rattle.tree_write.specs.Kids.{Mem, here, there}
use Rattle.grammar.specs.Tree.{Tree, Subtrees, nodes}
use Rattle.claims_tree.specs.Rendering.{how_many, node_bytes as rowBytes, nodes_bytes, subtrees_bytes, tree_bytes}
use Rattle.claims_write.specs.Tree.{count_meant, kids_of, kids_are, length-kids, Level, root, below, level_within, subtrees_of, tree_at}
use Rattle.claims_write.specs.Count.{walk, nodes_walked, walk_length}

-- ---- THE CLAIM'S WORDS

-- k numbers from i on
unfoldable pub count_up : ℕ → ℕ → List ℕ
count_up i zero = []
count_up i (suc k) = i ∷ count_up (i + 1) k

-- the table's nodes stand as they are written: each node, then its subtrees, siblings in byte order of name
abbrev pub InFileOrder : ℕ → List ℕ → List ℕ → Type 0
InFileOrder limit ns nm = walk ns nm limit 0 ≡ count_up 0 (nodes_in ns)

-- k nodes of the store that are those of the table from i on: name, count, subtree count, parent and id; only where the name stands is another
pub data Rows (n : ℕ) (ns nm : List ℕ) : ℕ → ℕ → List ℕ → Type 0 where
  no_rows : {i : ℕ} → Rows n ns nm i zero []
  row : {i k : ℕ} {b : List ℕ} (place : ℕ) → Rows n ns nm (i + 1) k b
      → Rows n ns nm i (suc k) (rowBytes place (name_at nm ns i) (count_meant (count_at ns i)) (subtrees_at ns i) (parent_at ns i) (id_bytes n ns i) ++ b)

-- ---- lists of numbers

length_up : (i k : ℕ) → length (count_up i k) ≡ k
unfolding count_up
length_up i zero = refl
length_up i (suc k) = ap suc (length_up (i + 1) k)

record Consecutive (a : List ℕ) (i : ℕ) : Type 0 where
  is : a ≡ count_up i (length a)

split_up : (a b : List ℕ) (i k : ℕ) → a ++ b ≡ count_up i k → Consecutive a i × Consecutive b (i + length a)
unfolding count_up
split_up [] b i k e =
    let l : length b ≡ k = ap length e ∙ length_up i k in
    let z : i ≡ i + 0 = omega arith in
    (record { is = refl }, record { is = e ∙ (λ j. count_up (z j) (sym l j)) })
split_up (x ∷ a) b i zero e = let z : ◌≡◌ {A = ℕ} 0 1 = cc in absurd (omega arith)
split_up (x ∷ a) b i (suc k) e =
    let p : x ≡ i = cc in
    let q : a ++ b ≡ count_up (i + 1) k = cc in
    let (c, d) = split_up a b (i + 1) k q in
    let z : i + 1 + length a ≡ i + length (x ∷ a) = omega arith in
    (record { is = λ j. p j ∷ c.is j }, record { is = d.is ∙ ap (λ (m : ℕ). count_up m (length b)) z })

-- ---- rows

rows_append : {n : ℕ} {ns nm : List ℕ} {i a : ℕ} {x : List ℕ} → Rows n ns nm i a x → {b : ℕ} {y : List ℕ} → Rows n ns nm (i + a) b y → Rows n ns nm i (a + b) (x ++ y)
rows_append {n} {ns} {nm} {i} no_rows {b} {y} r =
    let z : i + 0 ≡ i = omega arith in
    let w : b ≡ 0 + b = omega arith in
    subst (λ (k : ℕ). Rows n ns nm i k y) w (subst (λ (m : ℕ). Rows n ns nm m b y) z r)
rows_append {n} {ns} {nm} {i} (row {k = k} {b = c} place q) {b} {y} r =
    let z : i + suc k ≡ i + 1 + k = omega arith in
    let w : suc (k + b) ≡ suc k + b = omega arith in
    let own : List ℕ = rowBytes place (name_at nm ns i) (count_meant (count_at ns i)) (subtrees_at ns i) (parent_at ns i) (id_bytes n ns i) in
    subst (λ (l : List ℕ). Rows n ns nm i (suc k + b) l) (sym (append_assoc own c y))
    (subst (λ (m : ℕ). Rows n ns nm i m (own ++ (c ++ y))) w (row place (rows_append q (subst (λ (m : ℕ). Rows n ns nm m b y) z r))))

pub how_many_lem : (t : ℕ → ℕ → Tree) (b : ℕ → List ℕ) (l : List ℕ) (place : ℕ) → how_many (subtrees_of t b place l) ≡ length l
unfolding subtrees_of
how_many_lem t b [] place = refl
how_many_lem t b (j ∷ js) place = ap suc (how_many_lem t b js (place + length (b j)))

-- a walk begins with its node
walk_head : (ns nm : List ℕ) (d x : ℕ) → (l : List ℕ) × (walk ns nm d x ≡ x ∷ l)
unfolding walk
walk_head ns nm zero x = ([], refl)
walk_head ns nm (suc d) x = (each (walk ns nm d) (kids_of ns nm x), refl)

first_is : (ns nm : List ℕ) (d x me : ℕ) → Consecutive (walk ns nm d x) me → x ≡ me
unfolding count_up
first_is ns nm d x me c =
    let (l, e) = walk_head ns nm d x in
    let f : walk ns nm d x ≡ count_up me (length (walk ns nm d x)) = c.is in
    let g : length (walk ns nm d x) ≡ suc (length l) = ap length e in
    let h : x ∷ l ≡ count_up me (suc (length l)) = sym e ∙ f ∙ ap (λ (k : ℕ). count_up me k) g in
    cc

rows_each : (n : ℕ) (ns nm : List ℕ) (d i : ℕ) (t : ℕ → ℕ → Tree) (b : ℕ → List ℕ) (l : List ℕ) → ((x : ℕ) → Mem x l → parent_at ns x ≡ i) → ((p x : ℕ) → nodes (t p x) ≡ length (walk ns nm d x))
    → ((p x : ℕ) → Mem x l → Consecutive (walk ns nm d x) x → Rows n ns nm x (length (walk ns nm d x)) (nodes_bytes (parent_at ns x) x (t p x)))
    → (me place : ℕ) → Consecutive (each (walk ns nm d) l) me → Rows n ns nm me (length (each (walk ns nm d) l)) (subtrees_bytes i me (subtrees_of t b place l))
unfolding subtrees_of each
rows_each n ns nm d i t b [] child count ih me place c = no_rows
rows_each n ns nm d i t b (x ∷ l) child count ih me place c =
    let w : List ℕ = walk ns nm d x in
    let rest : List ℕ = each (walk ns nm d) l in
    let (p, q) = split_up w rest me (length (w ++ rest)) c.is in
    let e : x ≡ me = first_is ns nm d x me p in
    let p₁ : Consecutive w x = subst (λ (m : ℕ). Consecutive w m) (sym e) p in
    let r₁ : Rows n ns nm me (length w) (nodes_bytes i me (t place x)) =
    subst (λ (m : ℕ). Rows n ns nm m (length w) (nodes_bytes i m (t place x))) e (subst (λ (m : ℕ). Rows n ns nm x (length w) (nodes_bytes m x (t place x))) (child x here) (ih place x here p₁)) in
    let r₂ = rows_each n ns nm d i t b l (λ y m. child y (there m)) count (λ a y m. ih a y (there m)) (me + length w) (place + length (b x)) q in
    let r₃ : Rows n ns nm (me + length w) (length rest) (subtrees_bytes i (me + nodes (t place x)) (subtrees_of t b (place + length (b x)) l)) =
    subst (λ (m : ℕ). Rows n ns nm (me + length w) (length rest) (subtrees_bytes i (me + m) (subtrees_of t b (place + length (b x)) l))) (sym (count place x)) r₂ in
    subst (λ (k : ℕ). Rows n ns nm me k (nodes_bytes i me (t place x) ++ subtrees_bytes i (me + nodes (t place x)) (subtrees_of t b (place + length (b x)) l))) (sym (length-append w rest)) (rows_append r₁ r₃)

module _ (n limit : ℕ) (ns nm : List ℕ) (proper : Proper limit ns nm) where
  rows_of : (d k i place : ℕ) → i < nodes_in ns → Level ns k i → k + d ≡ limit + 1 → Consecutive (walk ns nm d i) i → Rows n ns nm i (length (walk ns nm d i)) (nodes_bytes (parent_at ns i) i (tree_at n ns nm d place i))
  unfolding walk tree_at count_up
  rows_of zero k i place h l e c = absurd (omega (arith, level_within l limit (proper.depth i h)))
  rows_of (suc d) k i place h l e c =
      let start : ℕ = place + length (head_bytes n ns nm i) in
      let t : ℕ → ℕ → Tree = tree_at n ns nm d in
      let f : ℕ → List ℕ = node_bytes n ns nm d in
      let ts : Subtrees = subtrees_of t f start (kids_of ns nm i) in
      let many : how_many ts ≡ subtrees_at ns i = how_many_lem t f (kids_of ns nm i) start ∙ length-kids ns nm i ∙ sym (proper.subtrees i h) in
      let rest : List ℕ = each (walk ns nm d) (kids_of ns nm i) in
      let c₀ : i ∷ rest ≡ i ∷ count_up (i + 1) (length rest) = c.is in
      let c₁ : rest ≡ count_up (i + 1) (length rest) = cc in
      let below-it : Rows n ns nm (i + 1) (length rest) (subtrees_bytes i (i + 1) ts) =
      rows_each n ns nm d i t f (kids_of ns nm i) (λ x m. (kids_are ns nm i x m).2) (λ p x. nodes_walked n ns nm d p x)
      (λ p x m q. let (a, b, r) = kids_are ns nm i x m in rows_of d (suc k) x p b (below a r l) (omega arith) q) (i + 1) start (record { is = c₁ }) in
      subst (λ (m : ℕ). Rows n ns nm i (suc (length rest)) (rowBytes place (name_at nm ns i) (count_meant (count_at ns i)) m (parent_at ns i) (id_bytes n ns i) ++ subtrees_bytes i (i + 1) ts)) (sym many) (row place below-it)

  -- THE SAME LIST
  pub same_list_lem : InFileOrder limit ns nm → (place : ℕ) → Rows n ns nm 0 (nodes_in ns) (tree_bytes (tree_at n ns nm limit place 0))
  same_list_lem order place =
      let w : length (walk ns nm limit 0) ≡ nodes_in ns = walk_length limit ns nm proper in
      let c : Consecutive (walk ns nm limit 0) 0 = record { is = order ∙ ap (λ (k : ℕ). count_up 0 k) (sym w) } in
      let r = rows_of limit 1 0 place proper.some root (omega arith) c in
      subst (λ (k : ℕ). Rows n ns nm 0 k (tree_bytes (tree_at n ns nm limit place 0))) w
      (subst (λ (p : ℕ). Rows n ns nm 0 (length (walk ns nm limit 0)) (nodes_bytes p 0 (tree_at n ns nm limit place 0))) proper.root r)
