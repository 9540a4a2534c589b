-- One step of a walk, in the grammar alone: what is known of the subtrees below a head, or of the nodes behind one that is spelled, is known of the whole. Assumes nothing.
use Rattle.std.specs.Prelude.{ℕ, zero, suc, ◌+◌, ◌≤◌, ◌<◌, ◌≡◌, refl, List, ◌++◌, length}
use Rattle.std.proofs.Common.{sym, ap, ◌∙◌, subst, append_assoc, arith}
use Rattle.laws.specs.Read.{Begins}
use Rattle.grammar.specs.Tree.{Tree, tree, Subtrees, beside, names, nodes, nodes_of, Head, NodeHead, Distinct, Node, node, Nodes, no_node, one_node_lem}
use Rattle.grammar.specs.Descent.{Comes, here, below, ComesAmong, in_this, past, moved, some_left}
use Rattle.grammar.proofs.Unique.{head_unique, node_unique}

-- ---- what is known where the walk stops. R spells what should stand at x, and the walk comes to C e k: at depth e after k heads

-- the bytes are no node's, and all that is reached is within the depth d, before the room r
pub record Faulty {A : Type 0} (R : List ℕ → A → Type 0) (C : ℕ → ℕ → Type 0) (x : List ℕ) (d r : ℕ) : Type 0 where
  pub none : (v : A) (rest : List ℕ) → ¬ Begins R x v rest
  pub within : (e k : ℕ) → C e k → (e ≤ d) × (k < r)

-- the room r is reached, within the depth d so far
pub record Crowded {A : Type 0} (R : List ℕ → A → Type 0) (size : A → ℕ) (C : ℕ → ℕ → Type 0) (x : List ℕ) (d r : ℕ) : Type 0 where
  pub depth : ℕ
  pub comes : C depth r
  pub shallow : (e k : ℕ) → C e k → k ≤ r → e ≤ d
  pub larger : (v : A) (rest : List ℕ) → Begins R x v rest → r < size v

-- one below the depth d is reached, within the room r
pub record TooDeep (C : ℕ → ℕ → Type 0) (d r : ℕ) : Type 0 where
  pub heads : ℕ
  pub early : heads ≤ r
  pub comes : C (suc d) heads

-- ---- below a head

data Opened (C : ℕ → ℕ → Type 0) : ℕ → ℕ → Type 0 where
  first : Opened C 1 0
  under : {e k : ℕ} → C e k → Opened C (suc e) (suc k)

-- a head that no bytes spell
pub no_head : {n p d r : ℕ} {x : List ℕ} → ((v : Head) (rest : List ℕ) → ¬ Begins (NodeHead n) x v rest) → Faulty (Node n p) (Comes n p x) x (suc d) (suc r)
no_head {n} {p} {d} {r} {x} none = record { none = λ t rest z. of z; within = within }
  where
    of : {t : Tree} {rest : List ℕ} → Begins (Node n p) x t rest → ⊥
    of {rest = rest} (b, j, node {h = h} {b = c} {head = v} u us dd i) = none v (c ++ rest) (h, j ∙ ap (λ (l : List ℕ). l ++ rest) i ∙ append_assoc h c rest, u)

    within : (e k : ℕ) → Comes n p x e k → (e ≤ suc d) × (k < suc r)
    within e k here = (omega arith, omega arith)
    within e k (below {h = h} {b = b} {v = v} u j c) = absurd (none v b (h, j, u))

-- a node that should begin where there is no room, or too deep
pub no_room : {n p d : ℕ} {x : List ℕ} → Crowded (Node n p) nodes (Comes n p x) x (suc d) 0
no_room {n} {p} {d} {x} = record { depth = 1; comes = here; shallow = shallow; larger = λ t rest z. of t z }
  where
    shallow : (e k : ℕ) → Comes n p x e k → k ≤ 0 → e ≤ suc d
    shallow e k here h = omega arith
    shallow e k (below u j c) h = absurd (omega arith)

    of : (t : Tree) {rest : List ℕ} → Begins (Node n p) x t rest → 0 < nodes t
    of (tree place name count id ts) z = omega arith

pub too_deep : {n p : ℕ} {x : List ℕ} (r : ℕ) → TooDeep (Comes n p x) 0 r
too_deep r = record { heads = 0; early = omega arith; comes = here }

abbrev pub Inner : ℕ → ℕ → List ℕ → Head → List ℕ → ℕ → ℕ → Type 0
Inner n p h v y = ComesAmong n (p + length h) v.subtrees y

abbrev pub Subs : ℕ → ℕ → List ℕ → Head → List ℕ → Subtrees → Type 0
Subs n p h v = Nodes n (p + length h) v.subtrees

module _ {n : ℕ} (p : ℕ) {x h : List ℕ} (y : List ℕ) {v : Head} (u : NodeHead n h v) (i : x ≡ h ++ y) where
  opened : {e k : ℕ} → Comes n p x e k → Opened (Inner n p h v y) e k
  opened here = first
  opened (below {h = h₂} {b = b₂} {v = v₂} u₂ j c) =
      let (v₌, b₌, h₌) = head_unique n x v₂ v b₂ y (h₂, j, u₂) (h, i, u) in
      under (moved c (ap (λ (a : List ℕ). p + length a) h₌) (ap (λ (a : Head). a.subtrees) v₌) b₌ refl)

  open_node : {t : Tree} {rest : List ℕ} → Begins (Node n p) x t rest → (ts : Subtrees) × Begins (Subs n p h v) y ts rest × Distinct (names ts) × (nodes t ≡ suc (nodes_of ts))
  open_node {rest = rest} (b, j, node {h = h₂} {b = b₂} {head = v₂} {subtrees = ts} u₂ us dd k) =
      let q : x ≡ h₂ ++ (b₂ ++ rest) = j ∙ ap (λ (l : List ℕ). l ++ rest) k ∙ append_assoc h₂ b₂ rest in
      let (v₌, r₌, h₌) = head_unique n x v₂ v (b₂ ++ rest) y (h₂, q, u₂) (h, i, u) in
      let us₂ : Subs n p h v b₂ ts = subst (λ (a : List ℕ). Nodes n (p + length a) v.subtrees b₂ ts) h₌ (subst (λ (a : Head). Nodes n (p + length h₂) a.subtrees b₂ ts) v₌ us) in
      (ts, (b₂, sym r₌, us₂), dd, refl)

  pub below_within : {d r : ℕ} → ((e k : ℕ) → Inner n p h v y e k → (e ≤ d) × (k < r)) → (e k : ℕ) → Comes n p x e k → (e ≤ suc d) × (k < suc r)
  below_within {d} {r} w e k c = of (opened c)
    where
      of : {e k : ℕ} → Opened (Inner n p h v y) e k → (e ≤ suc d) × (k < suc r)
      of first = (omega arith, omega arith)
      of (under {e = e} {k = k} c) = let (a, b) = w e k c in (omega arith, omega arith)

  pub below_faulty : {d r : ℕ} → Faulty (Subs n p h v) (Inner n p h v y) y d r → Faulty (Node n p) (Comes n p x) x (suc d) (suc r)
  below_faulty f = record { none = λ t rest z. let (ts, w, dd, e) = open_node z in f.none ts rest w; within = below_within f.within }

  pub below_crowded : {d r : ℕ} → Crowded (Subs n p h v) nodes_of (Inner n p h v y) y d r → Crowded (Node n p) nodes (Comes n p x) x (suc d) (suc r)
  below_crowded {d} {r} f =
      record {
        depth = suc f.depth;
        comes = below u i f.comes;
        shallow = λ e k c l. of (opened c) l;
        larger = λ t rest z. let (ts, w, dd, e) = open_node z in omega (arith, f.larger ts rest w);
      }
    where
      of : {e k : ℕ} → Opened (Inner n p h v y) e k → k ≤ suc r → e ≤ suc d
      of first l = omega arith
      of (under {e = e} {k = k} c) l = omega (arith, f.shallow e k c (omega arith))

  pub below_deep : {d r : ℕ} → TooDeep (Inner n p h v y) d r → TooDeep (Comes n p x) (suc d) (suc r)
  below_deep f = record { heads = suc f.heads; early = omega (arith, f.early); comes = below u i f.comes }

-- ---- behind a node that is spelled

data Parted (C D : ℕ → ℕ → Type 0) (m : ℕ) : ℕ → ℕ → Type 0 where
  in_it : {e k : ℕ} → C e k → Parted C D m e k
  behind : {e k j : ℕ} → D e k → j ≡ m + k → Parted C D m e j

abbrev pub Later : ℕ → ℕ → List ℕ → ℕ → List ℕ → ℕ → ℕ → Type 0
Later n p b l y = ComesAmong n (p + length b) l y

module _ {n p : ℕ} (l : ℕ) {x b : List ℕ} (y : List ℕ) {t : Tree} (u : Node n p b t) (i : x ≡ b ++ y) where
  parted : {e k : ℕ} → ComesAmong n p (suc l) x e k → Parted (Comes n p x) (Later n p b l y) (nodes t) e k
  parted (in_this c) = in_it c
  parted (past {k = k} {b = b₂} {c = c₂} {t = t₂} u₂ j c f) =
      let (t₌, r₌, b₌) = node_unique n p x t₂ t c₂ y (b₂, j, u₂) (b, i, u) in
      behind (moved c (ap (λ (a : List ℕ). p + length a) b₌) refl r₌ refl) (f ∙ ap (λ (a : Tree). nodes a + k) t₌)

  part_nodes : {ts : Subtrees} {rest : List ℕ} → Begins (Nodes n p (suc l)) x ts rest → (ts₂ : Subtrees) × Begins (Nodes n (p + length b) l) y ts₂ rest × (ts ≡ beside t ts₂)
  part_nodes {rest = rest} (c, j, one_node_lem {b = b₂} {c = c₂} {t = t₂} {ts = ts₂} u₂ us k) =
      let q : x ≡ b₂ ++ (c₂ ++ rest) = j ∙ ap (λ (l : List ℕ). l ++ rest) k ∙ append_assoc b₂ c₂ rest in
      let (t₌, r₌, b₌) = node_unique n p x t₂ t (c₂ ++ rest) y (b₂, q, u₂) (b, i, u) in
      (ts₂, (c₂, sym r₌, subst (λ (a : List ℕ). Nodes n (p + length a) l c₂ ts₂) b₌ us), ap (λ (a : Tree). beside a ts₂) t₌)

  module _ {d r r₂ : ℕ} (within : (e k : ℕ) → Comes n p x e k → (e ≤ d) × (k < r)) (f : r ≡ nodes t + r₂) where
    pub past_within : ((e k : ℕ) → Later n p b l y e k → (e ≤ d) × (k < r₂)) → (e k : ℕ) → ComesAmong n p (suc l) x e k → (e ≤ d) × (k < r)
    past_within w e k c = of (parted c)
      where
        of : {e k : ℕ} → Parted (Comes n p x) (Later n p b l y) (nodes t) e k → (e ≤ d) × (k < r)
        of (in_it {e = e} {k = k} c) = within e k c
        of (behind {e = e} {k = k} c g) = let (a, b) = w e k c in (a, omega arith)

    pub past_faulty : Faulty (Nodes n (p + length b) l) (Later n p b l y) y d r₂ → Faulty (Nodes n p (suc l)) (ComesAmong n p (suc l) x) x d r
    past_faulty g = record { none = λ ts rest z. let (ts₂, w, e) = part_nodes z in g.none ts₂ rest w; within = past_within g.within }

    pub past_crowded : Crowded (Nodes n (p + length b) l) nodes_of (Later n p b l y) y d r₂ → Crowded (Nodes n p (suc l)) nodes_of (ComesAmong n p (suc l) x) x d r
    past_crowded g =
        record {
          depth = g.depth;
          comes = past u i g.comes f;
          shallow = λ e k c l. of (parted c) l;
          larger = λ ts rest z. let (ts₂, w, e) = part_nodes z in let q : nodes_of ts ≡ nodes t + nodes_of ts₂ = ap nodes_of e in omega (arith, g.larger ts₂ rest w);
        }
      where
        of : {e k : ℕ} → Parted (Comes n p x) (Later n p b l y) (nodes t) e k → k ≤ r → e ≤ d
        of (in_it {e = e} {k = k} c) l = (within e k c).0
        of (behind {e = e} {k = k} c h) l = g.shallow e k c (omega arith)

    pub past_deep : TooDeep (Later n p b l y) d r₂ → TooDeep (ComesAmong n p (suc l) x) d r
    past_deep g = record { heads = nodes t + g.heads; early = omega (arith, g.early); comes = past u i g.comes refl }

-- ---- where the first of them stops

module _ {n p l d r : ℕ} {x : List ℕ} where
  pub this_faulty : Faulty (Node n p) (Comes n p x) x d r → Faulty (Nodes n p (suc l)) (ComesAmong n p (suc l) x) x d r
  this_faulty f = record { none = λ ts rest z. of z; within = within }
    where
      of : {ts : Subtrees} {rest : List ℕ} → Begins (Nodes n p (suc l)) x ts rest → ⊥
      of {rest = rest} (b, j, one_node_lem {b = a} {c = c} {t = t} u us k) = f.none t (c ++ rest) (a, j ∙ ap (λ (m : List ℕ). m ++ rest) k ∙ append_assoc a c rest, u)

      within : (e k : ℕ) → ComesAmong n p (suc l) x e k → (e ≤ d) × (k < r)
      within e k (in_this c) = f.within e k c
      within e k (past {b = b} {c = c} {t = t} u j z g) = absurd (f.none t c (b, j, u))

  pub this_crowded : Crowded (Node n p) nodes (Comes n p x) x d r → Crowded (Nodes n p (suc l)) nodes_of (ComesAmong n p (suc l) x) x d r
  this_crowded f = record { depth = f.depth; comes = in_this f.comes; shallow = shallow; larger = λ ts rest z. of z }
    where
      of : {ts : Subtrees} {rest : List ℕ} → Begins (Nodes n p (suc l)) x ts rest → r < nodes_of ts
      of {rest = rest} (b, j, one_node_lem {b = a} {c = c} {t = t} u us k) =
          let m = f.larger t (c ++ rest) (a, j ∙ ap (λ (m : List ℕ). m ++ rest) k ∙ append_assoc a c rest, u) in
          omega arith

      shallow : (e k : ℕ) → ComesAmong n p (suc l) x e k → k ≤ r → e ≤ d
      shallow e k (in_this c) h = f.shallow e k c h
      shallow e k (past {b = b} {c = c} {t = t} u j z g) h = let m = f.larger t c (b, j, u) in absurd (omega arith)

  pub this_deep : TooDeep (Comes n p x) d r → TooDeep (ComesAmong n p (suc l) x) d r
  this_deep f = record { heads = f.heads; early = f.early; comes = in_this f.comes }

-- no node left to come
pub none_left : {n p d r : ℕ} {x : List ℕ} (e k : ℕ) → ComesAmong n p zero x e k → (e ≤ d) × (k < r)
none_left e k c = absurd (omega (arith, some_left c))

-- ---- names that repeat

nodes_unique : {n p l : ℕ} {b y : List ℕ} (r : List ℕ) {ts us : Subtrees} {q : List ℕ} → Nodes n p l b ts → y ≡ b ++ r → Begins (Nodes n p l) y us q → ts ≡ us
nodes_unique r no_node i (c, j, no_node) = refl
nodes_unique r (one_node_lem {k = l} {b = b} {c = c} {t = t} u us k) i z =
    let q = i ∙ ap (λ (m : List ℕ). m ++ r) k ∙ append_assoc b c r in
    let (ts₂, w, e) = part_nodes l (c ++ r) u q z in
    ap (λ (a : Subtrees). beside t a) (nodes_unique r us refl w) ∙ sym e

pub repeated : {n : ℕ} (p : ℕ) {d r : ℕ} {x h b : List ℕ} (y rest : List ℕ) {v : Head} {ts : Subtrees} → NodeHead n h v → x ≡ h ++ y → Nodes n (p + length h) v.subtrees b ts → y ≡ b ++ rest → ¬ Distinct (names ts)
    → ((e k : ℕ) → Inner n p h v y e k → (e ≤ d) × (k < r)) → Faulty (Node n p) (Comes n p x) x (suc d) (suc r)
repeated p y rest u i us j not w =
    record { none = λ t q z. let (ts₂, a, dd, e) = open_node p y u i z in not (subst (λ (c : Subtrees). Distinct (names c)) (sym (nodes_unique rest us j a)) dd); within = below_within p y u i w }
