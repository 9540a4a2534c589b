-- The walk of a cache tree by its nodes: a node is reached by a way down, at each level of which a head was spelled and some of its subtrees were spelled whole, fewer than
-- it has. It is reached by such a way exactly if the walk in file order reaches it. n is the length of an id. Assumes nothing.
use Rattle.std.specs.Prelude.{ℕ, zero, suc, ◌+◌, ◌<◌, ◌≡◌, refl, List, [], ◌∷◌, ◌++◌, ◌↔◌, length}
use Rattle.std.proofs.Common.{sym, ap, ◌∙◌, subst, append_assoc, append-nil, arith, length-append}
use Rattle.grammar.specs.Tree.{Tree, tree, Subtrees, childless, beside, name_of, names, nodes, nodes_of, Head, NodeHead, Distinct, Node, node, Nodes, no_node, one_node_lem}
use Rattle.grammar.specs.Walk.{Group, group, Walked, begins, head, finished, Reaches, reaches}

mutual
  -- from a place on, x is what is left of the body
  pub data Comes (n : ℕ) : ℕ → List ℕ → ℕ → ℕ → Type 0 where
    here : {place : ℕ} {x : List ℕ} → Comes n place x 1 0
    below : {place d k : ℕ} {x h b : List ℕ} {v : Head} → NodeHead n h v → x ≡ h ++ b → ComesAmong n (place + length h) v.subtrees b d k → Comes n place x (suc d) (suc k)

  -- among so many subtrees that are to come
  pub data ComesAmong (n : ℕ) : ℕ → ℕ → List ℕ → ℕ → ℕ → Type 0 where
    in_this : {place left d k : ℕ} {x : List ℕ} → Comes n place x d k → ComesAmong n place (suc left) x d k
    past : {place left d k j : ℕ} {x b c : List ℕ} {t : Tree} → Node n place b t → x ≡ b ++ c → ComesAmong n (place + length b) left c d k → j ≡ nodes t + k
        → ComesAmong n place (suc left) x d j

-- ---- a node behind others

abbrev behind_all : Subtrees → Tree → Subtrees
behind_all childless t = beside t childless
behind_all (beside s ts) t = beside s (behind_all ts t)

names_behind : (ts : Subtrees) (t : Tree) → names (behind_all ts t) ≡ names ts ++ (name_of t ∷ [])
names_behind childless t = refl
names_behind (beside s ts) t = ap (λ (l : List (List ℕ)). name_of s ∷ l) (names_behind ts t)

nodes_behind : (ts : Subtrees) (t : Tree) → nodes_of (behind_all ts t) ≡ nodes_of ts + nodes t
nodes_behind childless t = omega arith
nodes_behind (beside s ts) t = let e = nodes_behind ts t in omega arith

nodes_snoc : {n place m : ℕ} {b c : List ℕ} {ts : Subtrees} {t : Tree} → Nodes n place m b ts → Node n (place + length b) c t → Nodes n place (suc m) (b ++ c) (behind_all ts t)
nodes_snoc {n} {place} {c = c} {t = t} no_node y =
    let e : place + 0 ≡ place = omega arith in
    one_node_lem (subst (λ (p : ℕ). Node n p c t) e y) no_node (sym (append-nil c))
nodes_snoc {n} {place} {c = c} {t = t} (one_node_lem {x = both} {b = a} {c = b} x xs i) y =
    let j : place + length both ≡ place + length a + length b = omega (arith, ap length i, length-append a b) in
    one_node_lem x (nodes_snoc xs (subst (λ (p : ℕ). Node n p c t) j y)) (ap (λ (l : List ℕ). l ++ c) i ∙ append_assoc a b c)

-- ---- where the walk in file order stands

data Standing (n root : ℕ) (body : List ℕ) : ℕ → ℕ → List ℕ → Group → List Group → Type 0 where
  in_root : {place k m left : ℕ} {x b : List ℕ} {ts : Subtrees} {came : List (List ℕ)} → Nodes n root m b ts → body ≡ b ++ x → 1 ≡ m + left → came ≡ names ts → place ≡ root + length b
      → k ≡ nodes_of ts → Standing n root body place k x (group left came) []
  in_node : {place p k k₀ m left left₀ : ℕ} {x y z h b : List ℕ} {v : Head} {ts : Subtrees} {came came₀ : List (List ℕ)} {around : List Group}
      → Standing n root body p k₀ z (group (suc left₀) came₀) around → NodeHead n h v → z ≡ h ++ y → Nodes n (p + length h) m b ts → y ≡ b ++ x → v.subtrees ≡ m + left → came ≡ names ts
      → place ≡ p + length h + length b → k ≡ suc k₀ + nodes_of ts → Standing n root body place k x (group left came) (group left₀ (came₀ ++ (v.name ∷ [])) ∷ around)

-- one whole node further
further : {n root p k left : ℕ} {body x z c : List ℕ} {t : Tree} {came : List (List ℕ)} {around : List Group} → Standing n root body p k z (group (suc left) came) around → Node n p c t → z ≡ c ++ x
    → Standing n root body (p + length c) (k + nodes t) x (group left (came ++ (name_of t ∷ []))) around
further {n} {root} {p} {k} {left} {x = x} {c = c} {t = t} (in_root {m = m} {b = b} {ts = ts} xs i e f g h) y j =
    let e₁ : 1 ≡ suc m + left = omega arith in
    let g₁ : p + length c ≡ root + length (b ++ c) = omega (arith, length-append b c) in
    let h₁ : k + nodes t ≡ nodes_of (behind_all ts t) = omega (arith, nodes_behind ts t) in
    in_root {ts = behind_all ts t} (nodes_snoc xs (subst (λ (q : ℕ). Node n q c t) g y)) (i ∙ ap (λ (l : List ℕ). b ++ l) j ∙ sym (append_assoc b c x)) e₁
    (ap (λ (l : List (List ℕ)). l ++ (name_of t ∷ [])) f ∙ sym (names_behind ts t)) g₁ h₁
further {n} {root} {p} {k} {left} {x = x} {c = c} {t = t} (in_node {p = p₀} {k₀ = k₀} {m = m} {h = h₀} {b = b} {v = v} {ts = ts} s w l xs i e f g h) y j =
    let e₁ : v.subtrees ≡ suc m + left = omega arith in
    let g₁ : p + length c ≡ p₀ + length h₀ + length (b ++ c) = omega (arith, length-append b c) in
    let h₁ : k + nodes t ≡ suc k₀ + nodes_of (behind_all ts t) = omega (arith, nodes_behind ts t) in
    in_node {ts = behind_all ts t} s w l (nodes_snoc xs (subst (λ (q : ℕ). Node n q c t) g y)) (i ∙ ap (λ (l : List ℕ). b ++ l) j ∙ sym (append_assoc b c x)) e₁
    (ap (λ (l : List (List ℕ)). l ++ (name_of t ∷ [])) f ∙ sym (names_behind ts t)) g₁ h₁

-- the group is finished, and with it a node
closed : {n root place k : ℕ} {body x : List ℕ} {came : List (List ℕ)} {g : Group} {around : List Group} → Standing n root body place k x (group zero came) (g ∷ around) → Distinct came
    → (p : ℕ) × Standing n root body p k x g around
closed {n} {root} {k = k} {body} {x} (in_node {p = p} {k₀ = k₀} {m = m} {left₀ = left₀} {h = h} {b = b} {v = v} {ts = ts} {came₀ = came₀} {around = around} s w l xs i e f g j) d =
    let q : m ≡ v.subtrees = omega arith in
    let whole : Node n p (h ++ b) (tree p v.name v.count v.id ts) = node w (subst (λ (c : ℕ). Nodes n (p + length h) c b ts) q xs) (subst Distinct f d) refl in
    let r : k₀ + suc (nodes_of ts) ≡ k = omega arith in (
      p + length (h ++ b),
      subst (λ (c : ℕ). Standing n root body (p + length (h ++ b)) c x (group left₀ (came₀ ++ (v.name ∷ []))) around) r
          (further s whole (l ∙ ap (λ (c : List ℕ). h ++ c) i ∙ sym (append_assoc h b x))),
    )

standing : {n : ℕ} {body : List ℕ} {k : ℕ} {x : List ℕ} {g : Group} {around : List Group} (root : ℕ) → Walked n body k x g around → (place : ℕ) × Standing n root body place k x g around
standing root begins = (root + 0, in_root {ts = childless} no_node refl refl refl refl refl)
standing root (head {k = k} {h = h} {v = v} w x i) =
    let (p, s) = standing root w in
    let e : v.subtrees ≡ 0 + v.subtrees = omega arith in
    let f : suc k ≡ suc k + 0 = omega arith in
    (p + length h + 0, in_node {ts = childless} s x i no_node refl e refl refl f)
standing root (finished w d) = let (p, s) = standing root w in closed s d

-- ---- from there on

pub moved : {n p q a b d k j : ℕ} {x y : List ℕ} → ComesAmong n p a x d k → p ≡ q → a ≡ b → x ≡ y → k ≡ j → ComesAmong n q b y d j
moved c e f g h = rw (← e, ← f, ← g, ← h) c

pub some_left : {n p left d k : ℕ} {x : List ℕ} → ComesAmong n p left x d k → 0 < left
some_left (in_this c) = omega arith
some_left (past y i c e) = omega arith

-- past nodes that are spelled
past_all : {n place p m left total d j k : ℕ} {b x y : List ℕ} {ts : Subtrees} → Nodes n place m b ts → ComesAmong n p left x d j → p ≡ place + length b → total ≡ m + left → y ≡ b ++ x → k ≡ nodes_of ts + j
    → ComesAmong n place total y d k
past_all no_node c e f g h = moved c (omega arith) (omega arith) (sym g) (omega arith)
past_all {n} {place} {p} {left = left} {d = d} {j} {x = x} {y} (one_node_lem {k = m} {x = both} {b = a} {c = b} {t = t} {ts = ts} u us i) c e f g h =
    let e₁ : p ≡ place + length a + length b = omega (arith, ap length i, length-append a b) in
    let q : y ≡ a ++ (b ++ x) = g ∙ ap (λ (l : List ℕ). l ++ x) i ∙ append_assoc a b x in
    let f₁ : suc (m + left) ≡ suc m + left = omega arith in
    moved (past u q (past_all us c e₁ refl refl refl) refl) refl (f₁ ∙ sym f) refl (omega arith)

only_root : {n p d k : ℕ} {x : List ℕ} → ComesAmong n p 1 x d k → Comes n p x d k
only_root (in_this c) = c
only_root (past y i c e) = absurd (omega (arith, some_left c))

out : {n root : ℕ} {body : List ℕ} {p k left d e j i : ℕ} {x : List ℕ} {came : List (List ℕ)} {around : List Group} → Standing n root body p k x (group left came) around → ComesAmong n p left x d j
    → e ≡ length around + d → i ≡ k + j → Comes n root body e i
out {n} {root} {body} {d = d} {e} {j} {i} (in_root {ts = ts} xs b₁ t₁ f g h) c a b =
    let a₁ : e ≡ d = omega arith in
    let b₂ : i ≡ nodes_of ts + j = omega arith in
    rw a₁ (only_root (past_all xs c g t₁ b₁ b₂))
out {n} {root} {body} {d = d} {e} {j} {i} (in_node {k₀ = k₀} {ts = ts} {around = around} s w l xs y t₁ f g h) c a b =
    let a₁ : e ≡ length around + suc d = omega arith in
    let b₁ : i ≡ k₀ + suc (nodes_of ts + j) = omega arith in
    out s (in_this (below w l (past_all xs c g t₁ y refl))) a₁ b₁

comes_if_reached : {n d k : ℕ} {body : List ℕ} (root : ℕ) → Reaches n body d k → Comes n root body d k
comes_if_reached root (reaches {k = k} {around = around} w) =
    let (p, s) = standing root w in
    let a : suc (length around) ≡ length around + 1 = omega arith in
    let b : k ≡ k + 0 = omega arith in
    out s (in_this here) a b

-- ---- and the other way: the walk in file order goes along the way down

same_walk : {n k j : ℕ} {body x y : List ℕ} {g f : Group} {around : List Group} → Walked n body k x g around → k ≡ j → x ≡ y → g ≡ f → Walked n body j y f around
same_walk w a b c = rw (← a, ← b, ← c) w

mutual
  walk_node : (t : Tree) {n place k left : ℕ} {body b c x : List ℕ} {came : List (List ℕ)} {around : List Group} → Node n place b t → Walked n body k x (group (suc left) came) around → x ≡ b ++ c
      → Walked n body (k + nodes t) c (group left (came ++ (name_of t ∷ []))) around
  walk_node (tree place name count id ts) {k = k} {b = a} {c} (node {h = h} {b = b} u us d i) w e =
      let q = e ∙ ap (λ (l : List ℕ). l ++ c) i ∙ append_assoc h b c in
      let z : suc k + nodes_of ts ≡ k + suc (nodes_of ts) = omega arith in
      same_walk (finished (walk_nodes ts us (head w u q) refl (omega arith)) d) z refl refl

  walk_nodes : (ts : Subtrees) {n place k m left total : ℕ} {body b c x : List ℕ} {came : List (List ℕ)} {around : List Group} → Nodes n place m b ts → Walked n body k x (group total came) around
      → x ≡ b ++ c → total ≡ m + left → Walked n body (k + nodes_of ts) c (group left (came ++ names ts)) around
  walk_nodes childless {k = k} {left = left} {total} {came = came} no_node w e f =
      let z : k ≡ k + 0 = omega arith in
      let g : total ≡ left = omega arith in
      same_walk w z e (λ i. group (g i) (sym (append-nil came) i))
  walk_nodes (beside t ts) {k = k} {left = left} {total} {c = c} {came = came} (one_node_lem {k = m} {b = a} {c = b} u us i) w e f =
      let g : total ≡ suc (m + left) = omega arith in
      let q = e ∙ ap (λ (l : List ℕ). l ++ c) i ∙ append_assoc a b c in
      let z : k + nodes t + nodes_of ts ≡ k + (nodes t + nodes_of ts) = omega arith in
      same_walk (walk_nodes ts us (walk_node t u (same_walk w refl refl (ap (λ (j : ℕ). group j came) g)) q) refl refl) z refl (ap (group left) (append_assoc came (name_of t ∷ []) (names ts)))

mutual
  reached : {n place d j k e i left : ℕ} {body x : List ℕ} {came : List (List ℕ)} {around : List Group} → Comes n place x d j → Walked n body k x (group (suc left) came) around
      → e ≡ length around + d → i ≡ k + j → Reaches n body e i
  reached {n} {k = k} {e} {i} {body = body} {around = around} here w a b =
      let a₁ : suc (length around) ≡ e = omega arith in
      let b₁ : k ≡ i = omega arith in
      rw (← a₁, ← b₁) (reaches w)
  reached {e = e} {i} (below u q c) w a b = reached_among c (head w u q) (omega arith) (omega arith)

  reached_among : {n place d j k e i left : ℕ} {body x : List ℕ} {came : List (List ℕ)} {around : List Group} → ComesAmong n place left x d j → Walked n body k x (group left came) around
      → e ≡ length around + d → i ≡ k + j → Reaches n body e i
  reached_among (in_this c) w a b = reached c w a b
  reached_among (past {t = t} u q c f) w a b = reached_among c (walk_node t u w q) a (omega arith)

reached_if_comes : {n root d k : ℕ} {body : List ℕ} → Comes n root body d k → Reaches n body d k
reached_if_comes {d = d} {k} c = let a : d ≡ 0 + d = omega arith in let b : k ≡ 0 + k = omega arith in reached c begins a b

-- THE THEOREM
pub reached_exactly_by_a_way : (n root : ℕ) (body : List ℕ) (d k : ℕ) → Reaches n body d k ↔ Comes n root body d k
reached_exactly_by_a_way n root body d k = (comes_if_reached root, reached_if_comes)
