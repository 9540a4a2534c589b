-- WHEN A NODE STORE HOLDS THE TREE OF A NODE TABLE (01, Extensions: "Nodes go to a lent store in file order", and Writing: "siblings in byte order of name"),
-- over the accessors of the two alone: no tree, no byte of a file and no walk of the writer is named here. There is only one order in which it can. n is the
-- length of an id. Assumes nothing.
use Rattle.std.specs.Prelude.{ℕ, zero, suc, ◌+◌, ◌≤◌, ◌<◌, ◌≡◌, List, ◌⊎◌, length, replicate}
use Rattle.std.proofs.Common.{sym, ap, ◌∙◌, inl, inr, ⊎_elim, arith}
use Rattle.laws.specs.Tests.{tri, lt_or_ge}
use Rattle.laws.specs.Order.{Before, irreflexive, transitive}
use Rattle.node.specs.Head.{minus_one}
use Rattle.node.specs.Store.{nodes_in, name_start_at, name_end_at, count_at, subtrees_at, parent_at, id_at, name_at}

-- node j of the store ms, whose names stand in s, shows node i of the table ns, whose names stand in nm: name, count, subtree count, and the id, or zeros
-- where the count is -1
pub record SameNode (n : ℕ) (ns nm : List ℕ) (i : ℕ) (s ms : List ℕ) (j : ℕ) : Type 0 where
  pub name : name_at s ms j ≡ name_at nm ns i
  pub spans : name_end_at ms j ≡ name_start_at ms j + length (name_at nm ns i)
  pub count : count_at ms j ≡ count_at ns i
  pub subtrees : subtrees_at ms j ≡ subtrees_at ns i
  pub id : (count_at ns i ≡ minus_one → ⊥) → id_at n ms j ≡ id_at n ns i
  pub no_id : count_at ns i ≡ minus_one → id_at n ms j ≡ replicate n 0

-- node j of the store is node `at j` of the table
pub record SameTree (n : ℕ) (ns nm s ms : List ℕ) (at : ℕ → ℕ) : Type 0 where
  pub room : nodes_in ns ≤ nodes_in ms
  -- each node of the table is stored, and once
  pub inside : (j : ℕ) → j < nodes_in ns → at j < nodes_in ns
  pub stored : (i : ℕ) → i < nodes_in ns → (j : ℕ) × (j < nodes_in ns) × (at j ≡ i)
  pub once : (j k : ℕ) → j < nodes_in ns → k < nodes_in ns → at j ≡ at k → j ≡ k
  -- with its name, count, subtree count and id
  pub nodes : (j : ℕ) → j < nodes_in ns → SameNode n ns nm (at j) s ms j
  -- the root first, and without a parent; any other with its parent, which stands before it
  pub first : at 0 ≡ 0
  pub root : parent_at ms 0 ≡ minus_one
  pub parent : (j : ℕ) → 0 < j → j < nodes_in ns → (parent_at ms j < j) × (at (parent_at ms j) ≡ parent_at ns (at j))
  -- siblings in byte order of name
  pub by_name : (j k : ℕ) → 0 < j → j < k → k < nodes_in ns → parent_at ms j ≡ parent_at ms k → Before (name_at s ms j) (name_at s ms k)
  -- in file order: what stands between a node and its parent has its own parent there or behind
  pub in_order : (j k : ℕ) → 0 < j → j < k → k < nodes_in ns → parent_at ms k < j → parent_at ms k ≤ parent_at ms j

-- ---- THERE IS ONLY ONE SUCH ORDER: two stores that hold the tree of one table have its nodes at the same numbers, and so show the same nodes with the same parents

module _ (n : ℕ) (ns nm s ms : List ℕ) (at : ℕ → ℕ) (a : SameTree n ns nm s ms at) (s' ms' : List ℕ) (at' : ℕ → ℕ) (b : SameTree n ns nm s' ms' at') where
  -- up to number j the orders agree
  abbrev Agree : ℕ → Type 0
  Agree j = (k : ℕ) → k < j → k < nodes_in ns → at k ≡ at' k

  -- where the node stands in one store that has number j in the other: not before j, and if behind it, its parent stands at the same number in both, at or
  -- before that of node j
  behind : (j : ℕ) → 0 < j → j < nodes_in ns → Agree j → (k : ℕ) → k < nodes_in ns → at k ≡ at' j
      → (j ≡ k) ⊎ ((j < k) × (parent_at ms k ≡ parent_at ms' j) × (parent_at ms' j ≤ parent_at ms j))
  behind j pos h agree k l e = ⊎_elim later (⊎_elim inl (λ m. absurd (early m))) (tri j k)
    where
      early : k < j → ⊥
      early m = let q : k ≡ j = b.once k j l h (sym (agree k m l) ∙ e) in omega arith

      later : j < k → (j ≡ k) ⊎ ((j < k) × (parent_at ms k ≡ parent_at ms' j) × (parent_at ms' j ≤ parent_at ms j))
      later m =
          let (u, v) = a.parent k (omega arith) l in
          let (u', v') = b.parent j pos h in
          let same : parent_at ms k ≡ parent_at ms' j =
          a.once (parent_at ms k) (parent_at ms' j) (omega arith) (omega arith) (v ∙ ap (parent_at ns) e ∙ sym v' ∙ sym (agree (parent_at ms' j) u' (omega arith))) in
          inr (m, same, omega (arith, a.in_order j k pos m l (omega arith)))

module _ (n : ℕ) (ns nm s ms : List ℕ) (at : ℕ → ℕ) (a : SameTree n ns nm s ms at) (s' ms' : List ℕ) (at' : ℕ → ℕ) (b : SameTree n ns nm s' ms' at') where
  -- names that both stores show in opposite orders
  crossed : (j k k' : ℕ) → j < nodes_in ns → k < nodes_in ns → k' < nodes_in ns → at k ≡ at' j → at' k' ≡ at j → Before (name_at s ms j) (name_at s ms k)
      → Before (name_at s' ms' j) (name_at s' ms' k') → ⊥
  crossed j k k' h l l' e e' u v =
      let x : Before (name_at nm ns (at j)) (name_at nm ns (at' j)) = rw ((a.nodes j h).name, (a.nodes k l).name, e) at u in
      let y : Before (name_at nm ns (at' j)) (name_at nm ns (at j)) = rw ((b.nodes j h).name, (b.nodes k' l').name, e') at v in
      irreflexive (transitive x y)

  step : (j : ℕ) → j < nodes_in ns → ((k : ℕ) → k < j → k < nodes_in ns → at k ≡ at' k) → at j ≡ at' j
  step zero h agree = a.first ∙ sym b.first
  step (suc i) h agree =
      let j : ℕ = suc i in
      let (k, l, e) = a.stored (at' j) (b.inside j h) in
      let (k', l', e') = b.stored (at j) (a.inside j h) in
      by k l e k' l' e' (behind n ns nm s ms at a s' ms' at' b j (omega arith) h agree k l e)
      (behind n ns nm s' ms' at' b s ms at a j (omega arith) h (λ m u v. sym (agree m u v)) k' l' e')
    where
      by : (k : ℕ) → k < nodes_in ns → at k ≡ at' (suc i) → (k' : ℕ) → k' < nodes_in ns → at' k' ≡ at (suc i)
          → (suc i ≡ k) ⊎ ((suc i < k) × (parent_at ms k ≡ parent_at ms' (suc i)) × (parent_at ms' (suc i) ≤ parent_at ms (suc i)))
          → (suc i ≡ k') ⊎ ((suc i < k') × (parent_at ms' k' ≡ parent_at ms (suc i)) × (parent_at ms (suc i) ≤ parent_at ms' (suc i))) → at (suc i) ≡ at' (suc i)
      by k l e k' l' e' (inl q) y = ap at q ∙ e
      by k l e k' l' e' (inr x) (inl q) = sym (ap at' q ∙ e')
      by k l e k' l' e' (inr (m, p, q)) (inr (m', p', q')) =
          absurd (crossed (suc i) k k' h l l' e e' (a.by_name (suc i) k (omega arith) m l (omega arith)) (b.by_name (suc i) k' (omega arith) m' l' (omega arith)))

  agree_below : (m k : ℕ) → k < m → k < nodes_in ns → at k ≡ at' k
  agree_below zero k h l = absurd (omega arith)
  agree_below (suc m) k h l = ⊎_elim (λ q. agree_below m k q l)
      (λ q. let e : k ≡ m = omega arith in step k l (λ i u v. agree_below m i (omega arith) v)) (lt_or_ge k m)

  pub only_one_order : (j : ℕ) → j < nodes_in ns → at j ≡ at' j
  only_one_order j h = agree_below (j + 1) j (omega arith) h

  pub same_parents : (j : ℕ) → 0 < j → j < nodes_in ns → parent_at ms j ≡ parent_at ms' j
  same_parents j pos h =
      let (u, v) = a.parent j pos h in
      let (u', v') = b.parent j pos h in
      a.once (parent_at ms j) (parent_at ms' j) (omega arith) (omega arith)
      (v ∙ ap (parent_at ns) (only_one_order j h) ∙ sym v' ∙ sym (only_one_order (parent_at ms' j) (omega arith)))
