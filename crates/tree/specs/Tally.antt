-- Where a tree was read, every node's subtree count is the number of its children in the store. Assumes nothing.
use Rattle.std.specs.Prelude.{Bool, ◌≡◌, eqb, Err, None, Ok, Option, Some}
use Rattle.std.proofs.Math.Path.{refl}
use Rattle.std.proofs.Common.{sym, subst, ◌∙◌, lit≤}
use mathlib.Core.List.{List}
use Rattle.std.proofs.Math.Logic.{⊎_elim}
use Prim.Native.Nat.{ℕ, zero, suc, ◌+◌, ◌*◌, ◌-◌, ◌/◌, ◌^◌, ◌≤◌, ◌<◌}
use native.Mathlib.Omega.{arith}
use Rattle.std.proofs.Math.ListN.{length}
use borrow.Author.Tests.{eq-eqb, ne_eqb}
use Rattle.laws.specs.Pick.{pick}
use Rattle.laws.specs.Tests.{AtMost, at_most, above, at_most?, lt_or_ge}
use Rattle.node.specs.Head.{head_at}
use Rattle.node.specs.Store.{put_at, parent_at, subtrees_at}
use Rattle.node.specs.Spelled.{head_spelled}
use Rattle.node.specs.Laws.{word_same}
use Rattle.tree.specs.declared.Fault.TheVariants.{Full}
use Rattle.tree.specs.Tree.{Out, and_then, kids, settled, body, node_at}
use Rattle.tree.specs.Frame.{Kept, read_used, kids_kept, settled_used, put_long, put_subtrees, node_kept}
use Rattle.tree.specs.Inside.{parent_first, parents_below}
use Rattle.tree.specs.Distinct.{kids_outer}
use Rattle.node.specs.declared.Node.{Node}
use Rattle.tree.specs.Made.{read_up_to}

-- how many of the f nodes from i on have the parent k
unfoldable pub children_in : List ℕ → ℕ → ℕ → ℕ → ℕ
children_in ns k zero i = 0
children_in ns k (suc f) i = pick (eqb (parent_at ns i) k) 1 0 + children_in ns k f (i + 1)

-- how many of the nodes from `first` on and before `used` do
abbrev pub children : List ℕ → ℕ → ℕ → ℕ → ℕ
children ns k first used = children_in ns k (used - first) first

-- none of them
none_in : (ns : List ℕ) (k f i : ℕ) → ((j : ℕ) → i ≤ j → j < i + f → parent_at ns j ≡ k → ⊥) → children_in ns k f i ≡ 0
unfolding children_in
none_in ns k zero i h = refl
none_in ns k (suc f) i h =
    let ih : children_in ns k f (i + 1) ≡ 0 = none_in ns k f (i + 1) (λ j l m. h j (omega arith) (omega arith)) in
    rw (ne_eqb (parent_at ns i) k (h i (omega arith) (omega arith))) (omega arith)

-- two runs side by side
both_in : (ns : List ℕ) (k f g i : ℕ) → children_in ns k (f + g) i ≡ children_in ns k f i + children_in ns k g (i + f)
unfolding children_in
both_in ns k zero g i =
    let p : zero + g ≡ g = omega arith in
    let q : i + zero ≡ i = omega arith in
    let none : children_in ns k zero i ≡ 0 = refl in
    rw (p, q) (omega arith)
both_in ns k (suc f) g i =
    let p : suc f + g ≡ suc (f + g) = omega arith in
    let q : i + suc f ≡ i + 1 + f = omega arith in
    let ih : children_in ns k (f + g) (i + 1) ≡ children_in ns k f (i + 1) + children_in ns k g (i + 1 + f) = both_in ns k f g (i + 1) in
    rw (p, q) (omega arith)

-- a store with the same parents
same_in : (ns ms : List ℕ) (k f i : ℕ) → ((j : ℕ) → i ≤ j → j < i + f → parent_at ms j ≡ parent_at ns j) → children_in ms k f i ≡ children_in ns k f i
unfolding children_in
same_in ns ms k zero i h = refl
same_in ns ms k (suc f) i h = rw (h i (omega arith) (omega arith), same_in ns ms k f (i + 1) (λ j l m. h j (omega arith) (omega arith)))

joined : (ns : List ℕ) (k first v u : ℕ) → first ≤ v → v ≤ u → children ns k first u ≡ children ns k first v + children ns k v u
joined ns k first v u h l =
    let p : u - first ≡ (v - first) + (u - v) = omega arith in
    let q : first + (v - first) ≡ v = omega arith in
    rw p (both_in ns k (v - first) (u - v) first ∙ rw q)

-- every node from `from` on that the outcome has
abbrev pub Agree : ℕ → Out → Type 0
Agree from o = (n u : ℕ) → o.0 ≡ Ok (read_up_to n u) → (k : ℕ) → from ≤ k → k < u → children o.1 k (k + 1) u ≡ subtrees_at o.1 k

-- a store that keeps the nodes before v
module _ (ns : List ℕ) (v a : ℕ) (o : Out) (kept : Kept v a ns o) where
  parent_kept : (j : ℕ) → j < v → parent_at o.1 j ≡ parent_at ns j
  parent_kept j x = word_same ns o.1 j kept.long (λ m l. kept.low (j * 72 + m) (omega arith)) 32 (lit≤ tt)

  subtrees_kept : (j : ℕ) → j < v → subtrees_at o.1 j ≡ subtrees_at ns j
  subtrees_kept j x = word_same ns o.1 j kept.long (λ m l. kept.low (j * 72 + m) (omega arith)) 24 (lit≤ tt)

  children_kept : (k first : ℕ) → first ≤ v → children o.1 k first v ≡ children ns k first v
  children_kept k first h = same_in ns o.1 k (v - first) first (λ j l m. parent_kept j (omega arith))

  -- later nodes are children of others
  counted_on : (k u : ℕ) → k < v → v ≤ u → ((j : ℕ) → v ≤ j → j < u → parent_at o.1 j ≡ k → ⊥) → children ns k (k + 1) v ≡ subtrees_at ns k → children o.1 k (k + 1) u ≡ subtrees_at o.1 k
  counted_on k u h l later e =
      let first = children_kept k (k + 1) (omega arith) in
      let rest = none_in o.1 k (u - v) v (λ j x y. later j x (omega arith)) in
      let split = joined o.1 k (k + 1) v u (omega arith) l in
      let count = subtrees_kept k h in
      omega (arith, first, rest, split, count, e)

module _ (idLength : ℕ) (fits : idLength ≤ 32) (s : List ℕ) (end : ℕ) where
  -- ---- a subtree is one child of its parent

  module _ (me used : ℕ) where
    one_child : (d at : ℕ) (ns : List ℕ) → me < used → length ns < 256 ^ 8 → (n v : ℕ) → (node_at idLength s end d me at used ns).0 ≡ Ok (read_up_to n v) → used < v → children (node_at idLength s end d me at used ns).1 me used v ≡ 1
    unfolding children_in
    one_child d at ns h long n v e l =
        let o : List ℕ = (node_at idLength s end d me at used ns).1 in
        let left : v - used ≡ suc (v - (used + 1)) = omega arith in
        let mine : parent_at o used ≡ me = parent_first idLength fits s end me used d at ns h long n v e in
        let others : children_in o me (v - (used + 1)) (used + 1) ≡ 0
        = none_in o me (v - (used + 1)) (used + 1) (λ j x y z. omega (arith, (parents_below idLength fits s end d me at used ns long n v e j x (omega arith)).0)) in
        rw (left, eq-eqb (parent_at o used) me mine) (omega arith)

  -- ---- a run of subtrees

  kids_count : (d me l at used : ℕ) (ns : List ℕ) → me < used → length ns < 256 ^ 8 → (n u : ℕ) → (kids (node_at idLength s end d me) l at used ns).0 ≡ Ok (read_up_to n u) → children (kids (node_at idLength s end d me) l at used ns).1 me used u ≡ l
  unfolding kids children_in
  kids_count d me zero at used ns h long n u e = let z : u - used ≡ 0 = omega (arith, read_used at used n u e) in rw z
  kids_count d me (suc l) at used ns h long n u e =
      go (node_at idLength s end d me at used ns) (node_kept idLength fits s end d me at used ns) (λ m v q x. one_child me used d at ns h long m v q x) (λ m v ms x y. kids_count d me l m v ms x y n u) e
    where
      go : (o : Out) → Kept used (used + 1) ns o → ((m v : ℕ) → o.0 ≡ Ok (read_up_to m v) → used < v → children o.1 me used v ≡ 1)
          → ((m v : ℕ) (ms : List ℕ) → me < v → length ms < 256 ^ 8 → (kids (node_at idLength s end d me) l m v ms).0 ≡ Ok (read_up_to n u) → children (kids (node_at idLength s end d me) l m v ms).1 me v u ≡ l)
          → (and_then o (kids (node_at idLength s end d me) l)).0 ≡ Ok (read_up_to n u) → children (and_then o (kids (node_at idLength s end d me) l)).1 me used u ≡ suc l
      go (Err w, ms) kept one ih e = cc
      go (Ok r₁, ms) kept one ih e =
          let r : Out = kids (node_at idLength s end d me) l r₁.next r₁.used ms in
          let onward : used + 1 ≤ r₁.used = kept.onward r₁.next r₁.used refl in
          let keeps : Kept r₁.used r₁.used ms r = kids_kept (node_at idLength s end d me) (λ a i xs. node_kept idLength fits s end d me a i xs) l r₁.next r₁.used ms in
          let further : r₁.used ≤ u = keeps.onward n u e in
          let split : children r.1 me used u ≡ children r.1 me used r₁.used + children r.1 me r₁.used u = joined r.1 me used r₁.used u (omega arith) further in
          let first : children r.1 me used r₁.used ≡ children ms me used r₁.used = children_kept ms r₁.used r₁.used r keeps me used (omega arith) in
          let single : children ms me used r₁.used ≡ 1 = one r₁.next r₁.used refl (omega arith) in
          let rest : children r.1 me r₁.used u ≡ l = ih r₁.next r₁.used ms (omega arith) (rw kept.long long) e in
          split ∙ omega (arith, first, single, rest)

  kids_agree : (d me : ℕ) → ((at used : ℕ) (ns : List ℕ) → me < used → length ns < 256 ^ 8 → Agree used (node_at idLength s end d me at used ns))
      → (l at used : ℕ) (ns : List ℕ) → me < used → length ns < 256 ^ 8 → Agree used (kids (node_at idLength s end d me) l at used ns)
  unfolding kids
  kids_agree d me a zero at used ns h long n u e k x y = absurd (omega (arith, read_used at used n u e))
  kids_agree d me a (suc l) at used ns h long n u e k x y =
      go (node_at idLength s end d me at used ns) (node_kept idLength fits s end d me at used ns) (a at used ns h long) (λ m v ms z w. kids_agree d me a l m v ms z w) n u e k x y
    where
      go : (o : Out) → Kept used (used + 1) ns o → Agree used o → ((m v : ℕ) (ms : List ℕ) → me < v → length ms < 256 ^ 8 → Agree v (kids (node_at idLength s end d me) l m v ms)) → Agree used (and_then o (kids (node_at idLength s end d me) l))
      go (Err w, ms) kept b ih n u e k x y = cc
      go (Ok r₁, ms) kept b ih n u e k x y =
          let long' : length ms < 256 ^ 8 = rw kept.long long in
          let onward : used + 1 ≤ r₁.used = kept.onward r₁.next r₁.used refl in
          let r : Out = kids (node_at idLength s end d me) l r₁.next r₁.used ms in
          let keeps : Kept r₁.used r₁.used ms r = kids_kept (node_at idLength s end d me) (λ a i xs. node_kept idLength fits s end d me a i xs) l r₁.next r₁.used ms in
          ⊎_elim
          (λ z. counted_on ms r₁.used r₁.used r keeps k u z (keeps.onward n u e) (λ j p q t. ⊎_elim (λ w. omega arith) (λ w. omega arith) (kids_outer idLength fits s end me r₁.used d l r₁.next ms (omega arith) long' n u e j p q)) (b r₁.next r₁.used refl k x z))
          (λ z. ih r₁.next r₁.used ms (omega arith) long' n u e k z y)
          (lt_or_ge k r₁.used)

  -- ---- a node

  settle_agree : (me : ℕ) (o : Out) → ((n u : ℕ) → o.0 ≡ Ok (read_up_to n u) → children o.1 me (me + 1) u ≡ subtrees_at o.1 me) → Agree (me + 1) o → Agree me (settled s me o)
  settle_agree me (Err f, ns) c a n u e k x y = cc
  settle_agree me (Ok r, ns) c a n u e k x y =
      let same : r.used ≡ u = settled_used s me r.next r.used ns n u e in
      subst (λ (w : ℕ). children ns k (k + 1) w ≡ subtrees_at ns k) same
      (⊎_elim (λ z. a r.next r.used refl k (omega arith) (omega arith)) (λ z. let eq : me ≡ k = omega arith in subst (λ (i : ℕ). children ns i (i + 1) r.used ≡ subtrees_at ns i) eq (c r.next r.used refl)) (lt_or_ge me k))

  body_agree : (d at parent used : ℕ) (ns : List ℕ) → ((p a v : ℕ) (ms : List ℕ) → length ms < 256 ^ 8 → Agree v (node_at idLength s end d p a v ms)) → used < length ns / 72 → length ns < 256 ^ 8
      → (h : Option Node) → head_at idLength s at end ≡ h → Agree used (body s (node_at idLength s end d) parent used ns h)
  body_agree d at parent used ns ih room long None q n u e k x y = cc
  body_agree d at parent used ns ih room long (Some m) q n u e k x y =
      let ps : List ℕ = put_at s m parent ns used in
      let same : length ps ≡ length ns = put_long idLength fits s at end m parent ns used room q in
      let small : length ps < 256 ^ 8 = rw same long in
      let o : Out = kids (node_at idLength s end d used) m.subtrees m.next (used + 1) ps in
      let keeps : Kept (used + 1) (used + 1) ps o = kids_kept (node_at idLength s end d used) (λ a i xs. node_kept idLength fits s end d used a i xs) m.subtrees m.next (used + 1) ps in
      let put : subtrees_at ps used ≡ m.subtrees = put_subtrees idLength fits s at end m parent ns used room q (omega (arith, (head_spelled idLength s at end m q).small)) in
      settle_agree used o (λ i v r. kids_count d used m.subtrees m.next (used + 1) ps (omega arith) small i v r ∙ sym (subtrees_kept ps (used + 1) (used + 1) o keeps used (omega arith) ∙ put))
      (kids_agree d used (λ a v ms w z. ih used a v ms z) m.subtrees m.next (used + 1) ps (omega arith) small) n u e k x y

  pub node_agree : (d parent at used : ℕ) (ns : List ℕ) → length ns < 256 ^ 8 → Agree used (node_at idLength s end d parent at used ns)
  unfolding node_at
  node_agree zero parent at used ns long n u e = cc
  node_agree (suc d) parent at used ns long n u e = by (at_most? (length ns / 72) used) (λ p a v ms z. node_agree d p a v ms z) e
    where
      by : {t : Bool} → AtMost (length ns / 72) used t → ((p a v : ℕ) (ms : List ℕ) → length ms < 256 ^ 8 → Agree v (node_at idLength s end d p a v ms))
          → (pick {A = Out} t (Err Full, ns) (body s (node_at idLength s end d) parent used ns (head_at idLength s at end))).0 ≡ Ok (read_up_to n u) → (k : ℕ) → used ≤ k → k < u
          → children (pick {A = Out} t (Err Full, ns) (body s (node_at idLength s end d) parent used ns (head_at idLength s at end))).1 k (k + 1) u
          ≡ subtrees_at (pick {A = Out} t (Err Full, ns) (body s (node_at idLength s end d) parent used ns (head_at idLength s at end))).1 k
      by (at_most h) ih e = cc
      by (above h) ih e = body_agree d at parent used ns ih h long (head_at idLength s at end) refl n u e
