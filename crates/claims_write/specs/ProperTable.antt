-- A PROPER NODE TABLE IN 01'S WORDS (01, Writing): over the table's accessors, the grammar's names without NUL and distinct names, and the levels of nodes;
-- and that the writer's test passes exactly these. Over the depth. Assumes nothing.
use Prim.Native.Nat.{ℕ, zero, suc, ◌+◌, ◌-◌, ◌^◌, ◌≤◌, ◌<◌}
use Rattle.std.specs.Prelude.{◌≡◌, Bool, List, [], ◌∷◌, map, ◌⊎◌, ◌↔◌, leb, eqb, is_none}
use Rattle.std.proofs.Math.Path.{refl, ap, subst}
use Rattle.std.proofs.Common.{sym, ◌∙◌, ne_eqb, le-leb, leb-true}
use Rattle.std.proofs.Math.Bool.{true, false}
use Rattle.std.proofs.Math.Logic.{⊎_elim}
use native.Mathlib.Omega.{arith}
use Rattle.std.proofs.Math.ListN.{length}
use Rattle.laws.specs.Pick.{pick}
use Rattle.laws.specs.Tests.{tri, Same, same, differs, same?}
use Rattle.slices.specs.Bytes.{nul_in, nul_at}
use Rattle.node.specs.Head.{minus_one}
use Rattle.node.specs.Store.{nodes_in, name_start_at, name_end_at, count_at, subtrees_at, parent_at, is_part, name_inside, name_at}
use Rattle.siblings.specs.Siblings.{is_child}
use Rattle.siblings.specs.InOrder.{Distinct as DistinctAt, differ_distinct, distinct_differ}
use Rattle.walk_order.specs.Depth.{level_climbs}
use Rattle.tree_write.specs.Order.{false_true}
use Rattle.proper.specs.Proper.{holds_none, child_count, is_proper}
use Rattle.proper.specs.Table.{Proper, proper_exactly}
use Rattle.tree_write.specs.Kids.{Mem, here, there, not_mem, Rising, done, more}
use Rattle.grammar.specs.Entry.{NoNul}
use Rattle.grammar.specs.Entry.NoNul.{empty, byte}
use Rattle.grammar.specs.Tree.{Other, differs as other_differs, Distinct, one_more_lem}
use Rattle.claims_write.specs.Tree.{no_nul, distinct_names, Level, level_within}
use Rattle.claims_write.specs.Count.{level_found}
use Rattle.claims_write.specs.Stored.{first_or_later}

-- ---- THE WORDS

-- of k nodes from j on, those that name p as their parent, in the table's order
unfoldable pub children_from : List ℕ → ℕ → ℕ → ℕ → List ℕ
children_from ns p zero j = []
children_from ns p (suc k) j = pick (eqb (parent_at ns j) p) (j ∷ children_from ns p k (j + 1)) (children_from ns p k (j + 1))

-- of all nodes but the root
abbrev pub children_of : List ℕ → ℕ → List ℕ
children_of ns p = children_from ns p (nodes_in ns - 1) 1

-- the root has level 1, a child one more than its parent; node i has such a level, and it is at most the limit
abbrev pub NotDeeper : ℕ → List ℕ → ℕ → Type 0
NotDeeper limit ns i = (k : ℕ) × Level ns k i × (k ≤ limit)

pub record ProperTable (limit : ℕ) (ns nm : List ℕ) : Type 0 where
  -- "it is non-empty"
  pub some : 0 < nodes_in ns
  -- "node 0 alone has no parent"
  pub root : parent_at ns 0 ≡ minus_one
  -- "every other parent is an earlier node"
  pub parents : (i : ℕ) → 0 < i → i < nodes_in ns → parent_at ns i < i
  -- "subtree counts agree with parents"
  pub subtrees : (i : ℕ) → i < nodes_in ns → subtrees_at ns i ≡ length (children_of ns i)
  -- "counts are -1 to 2^31 - 1"
  pub counts : (i : ℕ) → i < nodes_in ns → (count_at ns i ≡ minus_one) ⊎ (count_at ns i < 2 ^ 31)
  -- "sibling names are distinct"
  pub distinct : (i : ℕ) → i < nodes_in ns → Distinct (map (name_at nm ns) (children_of ns i))
  -- "names lie in the lent bytes"
  pub inside : (i : ℕ) → i < nodes_in ns → (name_start_at ns i ≤ name_end_at ns i) × (name_end_at ns i ≤ length nm)
  -- "and hold no NUL"
  pub plain : (i : ℕ) → i < nodes_in ns → NoNul (name_at nm ns i)
  -- "and depth is at most 64", by 02, A2, 512
  pub depth : (i : ℕ) → i < nodes_in ns → NotDeeper limit ns i

-- ---- names

never_nul : {name : List ℕ} → NoNul name → (f i : ℕ) → is_none (nul_in f name i) ≡ true
unfolding nul_in
never_nul n zero i = refl
never_nul empty (suc f) i = refl
never_nul (byte {c = c} p n) (suc f) i = let d : c ≡ 0 → ⊥ = λ e. omega arith in rw (ne_eqb c 0 d) (never_nul n f (i + 1))

holds_none_lem : (name : List ℕ) → NoNul name → holds_none name ≡ true
unfolding holds_none nul_at
holds_none_lem name n = never_nul n (length name - 0) 0

lies_inside_lem : (ns nm : List ℕ) (i : ℕ) → (name_inside nm ns i ≡ true) ↔ ((name_start_at ns i ≤ name_end_at ns i) × (name_end_at ns i ≤ length nm))
unfolding name_inside is_part
lies_inside_lem ns nm i = (λ e. to (leb (name_start_at ns i) (name_end_at ns i)) refl e, λ (a, b). rw (le-leb (name_start_at ns i) (name_end_at ns i) a) (le-leb (name_end_at ns i) (length nm) b))
  where
    to : (t : Bool) → leb (name_start_at ns i) (name_end_at ns i) ≡ t → pick t (leb (name_end_at ns i) (length nm)) false ≡ true
        → (name_start_at ns i ≤ name_end_at ns i) × (name_end_at ns i ≤ length nm)
    to true e q = (leb-true (name_start_at ns i) (name_end_at ns i) e, leb-true (name_end_at ns i) (length nm) q)
    to false e q = absurd (false_true q)

-- ---- children

module _ (ns : List ℕ) (p : ℕ) where
  counted : (k j : ℕ) → child_count ns p k j ≡ length (children_from ns p k j)
  unfolding child_count children_from
  counted zero j = refl
  counted (suc k) j = by (is_child ns p j) (counted k (j + 1))
    where
      by : (t : Bool) → child_count ns p k (j + 1) ≡ length (children_from ns p k (j + 1))
          → pick t 1 0 + child_count ns p k (j + 1) ≡ length (pick t (j ∷ children_from ns p k (j + 1)) (children_from ns p k (j + 1)))
      by true e = omega arith
      by false e = omega arith

  -- exactly the nodes with that parent
  children_are : (k j i : ℕ) → Mem i (children_from ns p k j) → (j ≤ i) × (i < j + k) × (parent_at ns i ≡ p)
  unfolding children_from
  children_are zero j i m = absurd (not_mem m refl)
  children_are (suc k) j i m = by (same? (parent_at ns j) p) m (λ n. children_are k (j + 1) i n)
    where
      by : {t : Bool} → Same (parent_at ns j) p t → Mem i (pick t (j ∷ children_from ns p k (j + 1)) (children_from ns p k (j + 1)))
          → (Mem i (children_from ns p k (j + 1)) → (j + 1 ≤ i) × (i < j + 1 + k) × (parent_at ns i ≡ p)) → (j ≤ i) × (i < j + suc k) × (parent_at ns i ≡ p)
      by (same e) n ih = ⊎_elim (λ q. (omega arith, omega arith, ap (parent_at ns) q ∙ e)) (λ q. let (a, b, c) = ih q in (omega arith, omega arith, c)) (first_or_later n)
      by (differs d) n ih = let (a, b, c) = ih n in (omega arith, omega arith, c)

  children_all : (k j i : ℕ) → j ≤ i → i < j + k → parent_at ns i ≡ p → Mem i (children_from ns p k j)
  unfolding children_from
  children_all zero j i a b e = absurd (omega arith)
  children_all (suc k) j i a b e = by (same? (parent_at ns j) p) (tri j i) (λ h. children_all k (j + 1) i h (omega arith) e)
    where
      by : {t : Bool} → Same (parent_at ns j) p t → (j < i) ⊎ ((j ≡ i) ⊎ (i < j)) → (j + 1 ≤ i → Mem i (children_from ns p k (j + 1)))
          → Mem i (pick t (j ∷ children_from ns p k (j + 1)) (children_from ns p k (j + 1)))
      by (same q) c ih =
          ⊎_elim (λ h. there (ih (omega arith)))
          (⊎_elim (λ h. subst (λ (x : ℕ). Mem i (x ∷ children_from ns p k (j + 1))) (sym h) here) (λ h. absurd (omega arith))) c
      by (differs d) c ih = ⊎_elim (λ h. ih (omega arith)) (⊎_elim (λ h. absurd (d (ap (parent_at ns) h ∙ e))) (λ h. absurd (omega arith))) c

  -- in the table's order
  children_rise : (k j : ℕ) → Rising (λ x y. x < y) (children_from ns p k j)
  unfolding children_from
  children_rise zero j = done
  children_rise (suc k) j = by (eqb (parent_at ns j) p) (children_rise k (j + 1))
    where
      by : (t : Bool) → Rising (λ x y. x < y) (children_from ns p k (j + 1))
          → Rising (λ x y. x < y) (pick t (j ∷ children_from ns p k (j + 1)) (children_from ns p k (j + 1)))
      by true r = more {x = j} (λ y m. let (a, b, c) = children_are k (j + 1) y m in omega arith) r
      by false r = r

-- ---- distinct names

other_of : (name : ℕ → List ℕ) (x : List ℕ) (l : List ℕ) → Other x (map name l) → (y : ℕ) → Mem y l → x ≡ name y → ⊥
other_of name x [] o y m e = not_mem m refl
other_of name x (z ∷ l) (other_differs d o) y m e = ⊎_elim (λ q. d (e ∙ ap name q)) (λ q. other_of name x l o y q e) (first_or_later m)

apart : (name : ℕ → List ℕ) (l : List ℕ) → Rising (λ x y. x < y) l → Distinct (map name l) → (x y : ℕ) → x < y → Mem x l → Mem y l → name x ≡ name y → ⊥
apart name [] r d x y h a b e = not_mem a refl
apart name (z ∷ l) (more f r) (one_more_lem o d) x y h a b e =
    ⊎_elim (λ p. ⊎_elim (λ q. omega arith) (λ q. other_of name (name z) l o y q (ap name (sym p) ∙ e)) (first_or_later b))
    (λ p. let g : z < x = f x p in ⊎_elim (λ q. omega arith) (λ q. apart name l r d x y h p q e) (first_or_later b)) (first_or_later a)

module _ (ns nm : List ℕ) (p : ℕ) where
  to_distinct : DistinctAt nm ns p 1 (nodes_in ns) → Distinct (map (name_at nm ns) (children_of ns p))
  to_distinct d = distinct_names (name_at nm ns) (λ x y. x < y) (λ x h. omega arith) (children_rise ns p (nodes_in ns - 1) 1) same_name
    where
      same_name : (x y : ℕ) → Mem x (children_of ns p) → Mem y (children_of ns p) → name_at nm ns x ≡ name_at nm ns y → x ≡ y
      same_name x y a b e =
          let (x₁, x₂, x₃) = children_are ns p (nodes_in ns - 1) 1 x a in
          let (y₁, y₂, y₃) = children_are ns p (nodes_in ns - 1) 1 y b in
          ⊎_elim (λ l. absurd (d y x x₁ l (omega arith) y₃ x₃ (sym e))) (⊎_elim (λ l. l) (λ l. absurd (d x y y₁ l (omega arith) x₃ y₃ e))) (tri x y)

  from_distinct : Distinct (map (name_at nm ns) (children_of ns p)) → DistinctAt nm ns p 1 (nodes_in ns)
  from_distinct d i j a b c q r e =
      apart (name_at nm ns) (children_of ns p) (children_rise ns p (nodes_in ns - 1) 1) d j i b (children_all ns p (nodes_in ns - 1) 1 j a (omega arith) r)
      (children_all ns p (nodes_in ns - 1) 1 i (omega arith) (omega arith) q) (sym e)

-- ---- THE CLAIM

module _ (limit : ℕ) (ns nm : List ℕ) where
  to : Proper limit ns nm → ProperTable limit ns nm
  to w = record {
    some = w.some;
    root = w.root;
    parents = w.parents;
    subtrees = λ i h. w.subtrees i h ∙ counted ns i (nodes_in ns - 1) 1;
    counts = w.counts;
    distinct = λ i h. to_distinct ns nm i (differ_distinct nm ns i 1 (nodes_in ns) (w.distinct i h));
    inside = λ i h. (lies_inside_lem ns nm i).0 (w.inside i h);
    plain = λ i h. no_nul (name_at nm ns i) (w.plain i h);
    depth = λ i h. let (k, l) = level_found ns limit i (w.depth i h) in (k, l, level_within l limit (w.depth i h));
  }

  from : ProperTable limit ns nm → Proper limit ns nm
  from w = record {
    some = w.some;
    root = w.root;
    parents = w.parents;
    counts = w.counts;
    inside = λ i h. (lies_inside_lem ns nm i).1 (w.inside i h);
    plain = λ i h. holds_none_lem (name_at nm ns i) (w.plain i h);
    depth = λ i h. let (k, l, m) = w.depth i h in level_climbs l limit m;
    subtrees = λ i h. w.subtrees i h ∙ sym (counted ns i (nodes_in ns - 1) 1);
    distinct = λ i h. sym (distinct_differ nm ns i 1 (nodes_in ns) (from_distinct ns nm i (w.distinct i h)));
  }

  -- the test passes exactly the tables that are proper in 01's words
  pub proper_exactly_in_words : (is_proper limit ns nm ≡ true) ↔ ProperTable limit ns nm
  proper_exactly_in_words = (λ e. to ((proper_exactly limit ns nm).0 e), λ w. (proper_exactly limit ns nm).1 (from w))
