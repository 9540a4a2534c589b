-- The tree written of a proper table has every node of it, and each once: as many nodes as the table. Over the length of an id and the depth. Assumes nothing.
use Prim.Native.Nat.{ℕ, zero, suc, ◌+◌, ◌-◌, ◌≤◌, ◌<◌}
use Rattle.std.specs.Prelude.{◌≡◌, Bool, true, ◌⊎◌, leb, eqb, length}
use Rattle.std.proofs.Math.Path.{refl}
use Rattle.std.proofs.Common.{sym, ap, ◌∙◌, subst, inl, inr, length-append, eq-eqb, ne_eqb, le-leb}
use mathlib.Core.List.{List, [], ◌∷◌, ◌++◌}
use Rattle.std.proofs.Math.Logic.{⊎_elim}
use native.Mathlib.Omega.{arith}
use Rattle.std.proofs.lemmas.Bool.{lt-leb}
use Rattle.laws.specs.Pick.{pick}
use Rattle.laws.specs.Tests.{lt_or_ge, Same, same, differs, same?}
use Rattle.node.specs.Store.{nodes_in, parent_at}
use Rattle.walk_order.specs.Depth.{level_some}
use Rattle.tree_write.specs.Order.{before, false_true, before_not}
use Rattle.tree_write.specs.Tree.{head_bytes, each, node_bytes}
use Rattle.proper.specs.Proper.{climbs}
use Rattle.proper.specs.Table.{Proper}
use Rattle.tree_write.specs.Kids.{Mem, here, there, not_mem}
use Rattle.grammar.specs.Tree.{Tree, nodes, nodes_of}
use Rattle.claims_write.specs.Tree.{total, hits, total_same, total_hits, no_hits, one_hit, kids_of, kids_are, kids_all, kids_rise, Level, root, below, level_within, subtrees_of, tree_at}

-- ---- the nodes of the tree, in the order in which they are written

unfoldable pub walk : List ℕ → List ℕ → ℕ → ℕ → List ℕ
walk ns nm zero i = i ∷ []
walk ns nm (suc d) i = i ∷ each (walk ns nm d) (kids_of ns nm i)

nodes_each : (t : ℕ → ℕ → Tree) (b f : ℕ → List ℕ) (l : List ℕ) (place : ℕ) → ((p j : ℕ) → nodes (t p j) ≡ length (f j)) → nodes_of (subtrees_of t b place l) ≡ length (each f l)
unfolding subtrees_of each
nodes_each t b f [] place h = refl
nodes_each t b f (j ∷ js) place h = omega (arith, h place j, nodes_each t b f js (place + length (b j)) h, length-append (f j) (each f js))

pub nodes_walked : (n : ℕ) (ns nm : List ℕ) (d place i : ℕ) → nodes (tree_at n ns nm d place i) ≡ length (walk ns nm d i)
unfolding tree_at walk
nodes_walked n ns nm zero place i = refl
nodes_walked n ns nm (suc d) place i =
    ap suc (nodes_each (tree_at n ns nm d) (node_bytes n ns nm d) (walk ns nm d) (kids_of ns nm i) (place + length (head_bytes n ns nm i)) (λ p j. nodes_walked n ns nm d p j))

-- ---- depths

level_once : {ns : List ℕ} {k m i : ℕ} → Level ns k i → Level ns m i → k ≡ m
level_once root root = refl
level_once root (below h p l) = absurd (omega arith)
level_once (below h p l) root = absurd (omega arith)
level_once {ns} (below {k = k} h p l) (below {k = m} h₁ p₁ l₁) = ap suc (level_once l (subst (λ (x : ℕ). Level ns m x) (sym p₁ ∙ p) l₁))

level_parent : {ns : List ℕ} {k j : ℕ} → Level ns k j → 1 < k → (0 < j) × Level ns (k - 1) (parent_at ns j)
level_parent root h = absurd (omega arith)
level_parent {ns} (below {k = k} {i = i} {j = j} a p l) h =
    let e : k ≡ suc k - 1 = omega arith in
    (a, subst (λ (x : ℕ). Level ns (suc k - 1) x) (sym p) (subst (λ (m : ℕ). Level ns m i) e l))

level_one : {ns : List ℕ} {k j : ℕ} → Level ns k j → k ≡ 1 → j ≡ 0
level_one root e = refl
level_one (below a p root) e = absurd (omega arith)
level_one (below a p (below b q l)) e = absurd (omega arith)

pub level_found : (ns : List ℕ) (levels j : ℕ) → climbs ns levels j ≡ true → (k : ℕ) × Level ns k j
unfolding climbs
level_found ns zero j e = absurd (false_true e)
level_found ns (suc levels) j e = by (same? j 0) e (λ f. level_found ns levels (parent_at ns j) f)
  where
    by : {t : Bool} → Same j 0 t → pick t true (climbs ns levels (parent_at ns j)) ≡ true → (climbs ns levels (parent_at ns j) ≡ true → (k : ℕ) × Level ns k (parent_at ns j)) → (k : ℕ) × Level ns k j
    by (same z) f ih = (1, subst (λ (x : ℕ). Level ns 1 x) (sym z) root)
    by (differs d) f ih = let (k, l) = ih f in (suc k, below {j = j} (omega arith) refl l)

-- so many parents up
unfoldable pub up : List ℕ → ℕ → ℕ → ℕ
up ns zero j = j
up ns (suc m) j = parent_at ns (up ns m j)

-- ---- how often a node is met

hits_append : (a b : List ℕ) (j : ℕ) → hits (a ++ b) j ≡ hits a j + hits b j
unfolding hits
hits_append [] b j = omega arith
hits_append (x ∷ a) b j = omega (arith, hits_append a b j)

-- the sum of f over a list
unfoldable sum_over : (ℕ → ℕ) → List ℕ → ℕ
sum_over f [] = 0
sum_over f (x ∷ l) = f x + sum_over f l

hits_each : (f : ℕ → List ℕ) (g : ℕ → ℕ) (l : List ℕ) (j : ℕ) → ((x : ℕ) → Mem x l → hits (f x) j ≡ g x) → hits (each f l) j ≡ sum_over g l
unfolding each sum_over hits
hits_each f g [] j h = refl
hits_each f g (x ∷ l) j h = hits_append (f x) (each f l) j ∙ omega (arith, h x here, hits_each f g l j (λ y m. h y (there m)))

sum-none : (l : List ℕ) → sum_over (λ x. 0) l ≡ 0
unfolding sum_over
sum-none [] = refl
sum-none (x ∷ l) = omega (arith, sum-none l)

sum-hits : (a : ℕ) (l : List ℕ) → sum_over (λ x. pick (eqb x a) 1 0) l ≡ hits l a
unfolding sum_over hits
sum-hits a [] = refl
sum-hits a (x ∷ l) = omega (arith, sum-hits a l)

module _ (limit : ℕ) (ns nm : List ℕ) (proper : Proper limit ns nm) where
  -- a node's parent m levels up has its depth
  up_level : (m k j : ℕ) → Level ns k j → j < nodes_in ns → m < k → Level ns (k - m) (up ns m j) × (up ns m j < nodes_in ns)
  unfolding up
  up_level zero k j l h a = let e : k ≡ k - 0 = omega arith in (subst (λ (x : ℕ). Level ns x j) e l, h)
  up_level (suc m) k j l h a =
      let (x, y) = up_level m k j l h (omega arith) in
      let (b, z) = level_parent x (omega arith) in
      let e : k - m - 1 ≡ k - suc m = omega arith in
      (subst (λ (q : ℕ). Level ns q (parent_at ns (up ns m j))) e z, omega (arith, proper.parents (up ns m j) b y))

  -- among the children of i: those nodes whose parent is i
  hits_kids : (i a : ℕ) → 0 < a → a < nodes_in ns → {t : Bool} → Same i (parent_at ns a) t → hits (kids_of ns nm i) a ≡ pick t 1 0
  hits_kids i a p h (same e) = one_hit (λ x y. before ns nm x y ≡ true) (before_not ns nm) (kids_rise ns nm i) a (kids_all ns nm i a p h (sym e))
  hits_kids i a p h (differs d) = no_hits (kids_of ns nm i) a (λ m. d (sym (kids_are ns nm i a m).2))

  -- node j, of depth m, is met below node i, of depth k: once if i is its parent m - k levels up
  abbrev under : ℕ → ℕ → ℕ → ℕ → ℕ
  under k i m j = pick (leb k m) (pick (eqb i (up ns (m - k) j)) 1 0) 0

  met : (d k i m j : ℕ) → i < nodes_in ns → Level ns k i → k + d ≡ limit + 1 → j < nodes_in ns → Level ns m j → hits (walk ns nm d i) j ≡ under k i m j
  unfolding walk hits up
  met zero k i m j h l e hj lj = absurd (omega (arith, level_within l limit (proper.depth i h)))
  met (suc d) k i m j h l e hj lj =
      by (lt_or_ge k m) (λ x q. let (a, b, c) = kids_are ns nm i x q in met d (suc k) x m j b (below a c l) (omega arith) hj lj)
    where
      none : m ≤ k → ((x : ℕ) → Mem x (kids_of ns nm i) → hits (walk ns nm d x) j ≡ under (suc k) x m j) → hits (each (walk ns nm d) (kids_of ns nm i)) j ≡ 0
      none a ih = hits_each (walk ns nm d) (λ x. 0) (kids_of ns nm i) j (λ x q. ih x q ∙ rw (lt-leb (suc k) m (omega arith))) ∙ sum-none (kids_of ns nm i)

      by : (k < m) ⊎ (m ≤ k) → ((x : ℕ) → Mem x (kids_of ns nm i) → hits (walk ns nm d x) j ≡ under (suc k) x m j)
          → pick (eqb i j) 1 0 + hits (each (walk ns nm d) (kids_of ns nm i)) j ≡ under k i m j
      by (inl a) ih =
          let t : ℕ = up ns (m - suc k) j in
          let s : hits (each (walk ns nm d) (kids_of ns nm i)) j ≡ hits (kids_of ns nm i) t =
          hits_each (walk ns nm d) (λ x. pick (eqb x t) 1 0) (kids_of ns nm i) j (λ x q. ih x q ∙ rw (le-leb (suc k) m a)) ∙ sum-hits t (kids_of ns nm i) in
          let (u, v) = up_level (m - suc k) m j lj hj (omega (arith, level_some l)) in
          let (p, w) = level_parent u (omega (arith, level_some l)) in
          let g : m - k ≡ suc (m - suc k) = omega arith in
          let n : i ≡ j → ⊥ = λ q. omega (arith, level_once l (subst (λ (x : ℕ). Level ns m x) (sym q) lj)) in
          let c = hits_kids i t p v (same? i (parent_at ns t)) in
          rw (ne_eqb i j n, le-leb k m (omega arith), g) (omega (arith, s, c))
      by (inr a) ih = at_or_above (lt_or_ge m k) (none a ih)
        where
          at_or_above : (m < k) ⊎ (k ≤ m) → hits (each (walk ns nm d) (kids_of ns nm i)) j ≡ 0 → pick (eqb i j) 1 0 + hits (each (walk ns nm d) (kids_of ns nm i)) j ≡ under k i m j
          at_or_above (inl b) z =
              let n : i ≡ j → ⊥ = λ q. omega (arith, level_once l (subst (λ (x : ℕ). Level ns m x) (sym q) lj)) in
              rw (ne_eqb i j n, lt-leb k m b) (omega arith)
          at_or_above (inr b) z = let g : m - k ≡ 0 = omega arith in rw (le-leb k m b, g) (omega arith)

  -- ---- all nodes are in the table

  mem_append : (a b : List ℕ) (j : ℕ) → Mem j (a ++ b) → Mem j a ⊎ Mem j b
  mem_append [] b j m = inr m
  mem_append (x ∷ a) b j here = inl here
  mem_append (x ∷ a) b j (there m) = ⊎_elim (λ q. inl (there q)) (λ q. inr q) (mem_append a b j m)

  mem_each : (f : ℕ → List ℕ) (l : List ℕ) (j : ℕ) → Mem j (each f l) → (x : ℕ) × Mem x l × Mem j (f x)
  unfolding each
  mem_each f [] j m = absurd (no_mem m)
    where
      no_mem : Mem j [] → ⊥
      no_mem q = not_mem q refl
  mem_each f (x ∷ l) j m = ⊎_elim (λ q. (x, here, q)) (λ q. let (y, a, b) = mem_each f l j q in (y, there a, b)) (mem_append (f x) (each f l) j m)

  pub walk_inside : (d i j : ℕ) → i < nodes_in ns → Mem j (walk ns nm d i) → j < nodes_in ns
  unfolding walk
  walk_inside zero i j h here = h
  walk_inside zero i j h (there m) = absurd (not_mem m refl)
  walk_inside (suc d) i j h here = h
  walk_inside (suc d) i j h (there m) =
      let (x, a, b) = mem_each (walk ns nm d) (kids_of ns nm i) j m in
      walk_inside d x j (kids_are ns nm i x a).1 b

  -- each node of the table is met once
  pub met_once : (j : ℕ) → j < nodes_in ns → hits (walk ns nm limit 0) j ≡ 1
  met_once j h =
      let (m, l) = level_found ns limit j (proper.depth j h) in
      let s : 1 ≤ m = level_some l in
      let (x, y) = up_level (m - 1) m j l h (omega arith) in
      let z : 0 ≡ up ns (m - 1) j = sym (level_one x (omega arith)) in
      met limit 1 0 m j proper.some root (omega arith) h l ∙ rw (le-leb 1 m s, eq-eqb 0 (up ns (m - 1) j) z)

  total_ones : (k j : ℕ) → total (λ x. 1) k j ≡ k
  unfolding total
  total_ones zero j = refl
  total_ones (suc k) j = omega (arith, total_ones k (j + 1))

  pub walk_length : length (walk ns nm limit 0) ≡ nodes_in ns
  walk_length =
      sym (total_hits (walk ns nm limit 0) (nodes_in ns) 0 (λ x m. let a = walk_inside limit 0 x proper.some m in (omega arith, omega arith)))
      ∙ total_same (hits (walk ns nm limit 0)) (λ x. 1) (nodes_in ns) 0 (λ x a b. met_once x (omega arith))
      ∙ total_ones (nodes_in ns) 0

  -- THE COUNT
  pub tree_nodes : (n place : ℕ) → nodes (tree_at n ns nm limit place 0) ≡ nodes_in ns
  tree_nodes n place = nodes_walked n ns nm limit place 0 ∙ walk_length
