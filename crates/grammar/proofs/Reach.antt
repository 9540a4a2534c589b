-- What the walk of a cache tree reaches: after so many heads one depth at most, and in a body that spells a tree each depth of it, after as many heads as it has nodes before.
-- So a limit of depth or of nodes that the walk keeps within is one that the tree does. n is the length of an id. Assumes nothing.
use Rattle.std.specs.Prelude.{ℕ, zero, suc, ◌+◌, ◌-◌, ◌≤◌, ◌<◌, ◌≡◌, refl, List, [], ◌++◌, ◌↔◌, length}
use Rattle.std.proofs.Common.{sym, ap, ◌∙◌, subst, append_assoc, append-nil, ⊎_elim, arith}
use Rattle.laws.specs.Tests.{lt_or_ge}
use Rattle.grammar.specs.Tree.{Tree, tree, Subtrees, childless, beside, depth, deepest, nodes, nodes_of, Head, Node, node, Nodes, no_node, one_node_lem}
use Rattle.grammar.specs.Walk.{Reaches}
use Rattle.grammar.specs.Descent.{Comes, here, below, ComesAmong, in_this, past, some_left, reached_exactly_by_a_way}
use Rattle.grammar.proofs.Unique.{head_unique, node_unique}

-- ---- within a tree that is spelled

mutual
  within_node : (t : Tree) {n place d k : ℕ} {b x : List ℕ} (c : List ℕ) → Node n place b t → Comes n place x d k → x ≡ b ++ c → (d ≤ depth t) × (k < nodes t)
  within_node (tree place name count id ts) c (node u us dd i) here e = (omega arith, omega arith)
  within_node (tree place name count id ts) {n} {x = x} c (node {h = h} {b = b} {head = v} u us dd i) (below {h = h₂} {b = b₂} {v = v₂} u₂ j r) e =
      let q : x ≡ h ++ (b ++ c) = e ∙ ap (λ (l : List ℕ). l ++ c) i ∙ append_assoc h b c in
      let (v₌, b₌, h₌) = head_unique n x v₂ v b₂ (b ++ c) (h₂, j, u₂) (h, q, u) in
      let (l, m) = within_nodes ts c us r (ap (λ (a : List ℕ). place + length a) h₌) (ap (λ (a : Head). a.subtrees) v₌) b₌ in
      (omega arith, omega arith)

  within_nodes : (ts : Subtrees) {n place p m a d k : ℕ} {b x : List ℕ} (c : List ℕ) → Nodes n place m b ts → ComesAmong n p a x d k → p ≡ place → a ≡ m → x ≡ b ++ c
      → (d ≤ deepest ts) × (k < nodes_of ts)
  within_nodes childless c no_node r f g e = absurd (omega (arith, some_left r))
  within_nodes (beside t ts) {n} {place} {d = d} {k} {x = x} c (one_node_lem {b = b} {c = b₁} u us i) (in_this r) f g e =
      let q : x ≡ b ++ (b₁ ++ c) = e ∙ ap (λ (l : List ℕ). l ++ c) i ∙ append_assoc b b₁ c in
      let (l, m) = within_node t (b₁ ++ c) u (subst (λ (a : ℕ). Comes n a x d k) f r) q in
      (omega arith, omega arith)
  within_nodes (beside t ts) {n} {place} {p} {x = x} c (one_node_lem {b = b} {c = b₁} u us i) (past {b = b₂} {c = c₂} {t = t₂} u₂ j r h) f g e =
      let q : x ≡ b ++ (b₁ ++ c) = e ∙ ap (λ (l : List ℕ). l ++ c) i ∙ append_assoc b b₁ c in
      let (t₌, c₌, b₌) = node_unique n place x t₂ t c₂ (b₁ ++ c) (b₂, j, subst (λ (a : ℕ). Node n a b₂ t₂) f u₂) (b, q, u) in
      let f₁ : p + length b₂ ≡ place + length b = λ z. f z + length (b₌ z) in
      let (l, m) = within_nodes ts c us r f₁ (omega arith) c₌ in
      let o : nodes t₂ ≡ nodes t = ap nodes t₌ in
      (omega arith, omega arith)

-- each depth of the tree is reached
mutual
  each_depth : (t : Tree) {n place d : ℕ} {b x : List ℕ} (c : List ℕ) → Node n place b t → x ≡ b ++ c → suc d ≤ depth t → (k : ℕ) × Comes n place x (suc d) k
  each_depth (tree place name count id ts) {d = zero} c (node u us dd i) e l = (0, here)
  each_depth (tree place name count id ts) {d = suc d} c (node {h = h} {b = b} u us dd i) e l =
      let l₁ : suc d ≤ deepest ts = omega arith in
      let (k, r) = each_depth_among ts c us refl l₁ in
      (suc k, below u (e ∙ ap (λ (l : List ℕ). l ++ c) i ∙ append_assoc h b c) r)

  each_depth_among : (ts : Subtrees) {n place m d : ℕ} {b x : List ℕ} (c : List ℕ) → Nodes n place m b ts → x ≡ b ++ c → suc d ≤ deepest ts → (k : ℕ) × ComesAmong n place m x (suc d) k
  each_depth_among childless c no_node e l = absurd (omega arith)
  each_depth_among (beside t ts) {n} {place} {d = d} {x = x} c (one_node_lem {k = m} {b = b} {c = b₁} u us i) e l =
      let q : x ≡ b ++ (b₁ ++ c) = e ∙ ap (λ (l : List ℕ). l ++ c) i ∙ append_assoc b b₁ c in
      ⊎_elim (λ (a : d < depth t). let (k, r) = each_depth t (b₁ ++ c) u q a in (k, in_this r))
      (λ (a : depth t ≤ d). let l₁ : suc d ≤ deepest ts = omega arith in let (k, r) = each_depth_among ts c us refl l₁ in (nodes t + k, past u q r refl))
      (lt_or_ge d (depth t))

-- each node of the tree is
mutual
  each_node : (t : Tree) {n place k : ℕ} {b x : List ℕ} (c : List ℕ) → Node n place b t → x ≡ b ++ c → k < nodes t → (d : ℕ) × Comes n place x d k
  each_node (tree place name count id ts) {k = zero} c (node u us dd i) e l = (1, here)
  each_node (tree place name count id ts) {k = suc k} c (node {h = h} {b = b} u us dd i) e l =
      let l₁ : k < nodes_of ts = omega arith in
      let (d, r) = each_node_among ts c us refl l₁ in
      (suc d, below u (e ∙ ap (λ (l : List ℕ). l ++ c) i ∙ append_assoc h b c) r)

  each_node_among : (ts : Subtrees) {n place m k : ℕ} {b x : List ℕ} (c : List ℕ) → Nodes n place m b ts → x ≡ b ++ c → k < nodes_of ts → (d : ℕ) × ComesAmong n place m x d k
  each_node_among childless c no_node e l = absurd (omega arith)
  each_node_among (beside t ts) {n} {place} {k = k} {x = x} c (one_node_lem {k = m} {b = b} {c = b₁} u us i) e l =
      let q : x ≡ b ++ (b₁ ++ c) = e ∙ ap (λ (l : List ℕ). l ++ c) i ∙ append_assoc b b₁ c in
      ⊎_elim (λ (a : k < nodes t). let (d, r) = each_node t (b₁ ++ c) u q a in (d, in_this r))
      (λ (a : nodes t ≤ k).
      let l₁ : k - nodes t < nodes_of ts = omega arith in
      let h : k ≡ nodes t + (k - nodes t) = omega arith in
      let (d, r) = each_node_among ts c us refl l₁ in
      (d, past u q r h))
      (lt_or_ge k (nodes t))

-- ---- after so many heads one depth at most, tree or not

mutual
  one_depth : {n p q d e k j : ℕ} {x y : List ℕ} → Comes n p x d k → Comes n q y e j → p ≡ q → x ≡ y → k ≡ j → d ≡ e
  one_depth here here a b c = refl
  one_depth here (below u i r) a b c = absurd (omega arith)
  one_depth (below u i r) here a b c = absurd (omega arith)
  one_depth {n} {p} {q} {x = x} {y = y} (below {h = h} {b = b₁} {v = v} u i r) (below {d = d₂} {h = h₂} {b = b₂} {v = v₂} u₂ i₂ r₂) a b c =
      let (v₌, b₌, h₌) = head_unique n x v v₂ b₁ b₂ (h, i, u) (h₂, b ∙ i₂, u₂) in
      let p₌ : p + length h ≡ q + length h₂ = λ z. a z + length (h₌ z) in
      ap suc (one_depth_among r r₂ p₌ (ap (λ (w : Head). w.subtrees) v₌) b₌ (omega arith))

  one_depth_among : {n p q l m d e k j : ℕ} {x y : List ℕ} → ComesAmong n p l x d k → ComesAmong n q m y e j → p ≡ q → l ≡ m → x ≡ y → k ≡ j → d ≡ e
  one_depth_among (in_this r) (in_this r₂) a l b c = one_depth r r₂ a b c
  one_depth_among {n} {p} {q} {d = d} {k = k} {x = x} {y = y} (in_this r) (past {b = b₂} {c = c₂} {t = t₂} u₂ i₂ r₂ h₂) a l b c =
      let w = within_node t₂ c₂ u₂ (subst (λ (z : ℕ). Comes n z x d k) a r) (b ∙ i₂) in
      absurd (omega (arith, w.1))
  one_depth_among {n} {p} {q} {e = e} {j = j} {x = x} {y = y} (past {b = b₁} {c = c₁} {t = t} u i r h) (in_this r₂) a l b c =
      let w = within_node t c₁ u (subst (λ (z : ℕ). Comes n z y e j) (sym a) r₂) (sym b ∙ i) in
      absurd (omega (arith, w.1))
  one_depth_among {n} {p} {q} {x = x} {y = y} (past {b = b₁} {c = c₁} {t = t} u i r h) (past {b = b₂} {c = c₂} {t = t₂} u₂ i₂ r₂ h₂) a l b c =
      let (t₌, c₌, b₌) = node_unique n p x t t₂ c₁ c₂ (b₁, i, u) (b₂, b ∙ i₂, subst (λ (z : ℕ). Node n z b₂ t₂) (sym a) u₂) in
      let p₌ : p + length b₁ ≡ q + length b₂ = λ z. a z + length (b₌ z) in
      let o : nodes t ≡ nodes t₂ = ap nodes t₌ in
      one_depth_among r r₂ p₌ (omega arith) c₌ (omega arith)

-- ---- THE THEOREMS

module _ (n : ℕ) (body : List ℕ) where
  pub reaches_one_depth : (d e k : ℕ) → Reaches n body d k → Reaches n body e k → d ≡ e
  reaches_one_depth d e k x y = one_depth ((reached_exactly_by_a_way n 0 body d k).0 x) ((reached_exactly_by_a_way n 0 body e k).0 y) refl refl refl

  module _ (place : ℕ) (t : Tree) (x : Node n place body t) where
    pub reaches_within : (d k : ℕ) → Reaches n body d k → (d ≤ depth t) × (k < nodes t)
    reaches_within d k r = within_node t [] x ((reached_exactly_by_a_way n place body d k).0 r) (sym (append-nil body))

    pub reaches_each_depth : (d : ℕ) → suc d ≤ depth t → (k : ℕ) × Reaches n body (suc d) k
    reaches_each_depth d l = let (k, r) = each_depth t [] x (sym (append-nil body)) l in (k, (reached_exactly_by_a_way n place body (suc d) k).1 r)

    pub reaches_each_node : (k : ℕ) → k < nodes t → (d : ℕ) × Reaches n body d k
    reaches_each_node k l = let (d, r) = each_node t [] x (sym (append-nil body)) l in (d, (reached_exactly_by_a_way n place body d k).1 r)

    -- the premises of the claims, of a tree that is spelled
    pub depth_within : (limit : ℕ) → ((k : ℕ) → ¬ Reaches n body (suc limit) k) ↔ (depth t ≤ limit)
    depth_within limit = (to, (λ l k r. omega (arith, (reaches_within (suc limit) k r).0)))
      where
        to : ((k : ℕ) → ¬ Reaches n body (suc limit) k) → depth t ≤ limit
        to none = ⊎_elim (λ (a : limit < depth t). let (k, r) = reaches_each_depth limit a in absurd (none k r)) (λ a. a) (lt_or_ge limit (depth t))

    pub nodes_within : (lent : ℕ) → ((d : ℕ) → ¬ Reaches n body d lent) ↔ (nodes t ≤ lent)
    nodes_within lent = (to, (λ l d r. omega (arith, (reaches_within d lent r).1)))
      where
        to : ((d : ℕ) → ¬ Reaches n body d lent) → nodes t ≤ lent
        to none = ⊎_elim (λ (a : lent < nodes t). let (d, r) = reaches_each_node lent a in absurd (none d r)) (λ a. a) (lt_or_ge lent (nodes t))
