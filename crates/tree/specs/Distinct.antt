-- Where a tree was read, the names of every node's children differ: of each node when its last subtree is done, and then for good, since a node that comes later has
-- another parent. Assumes nothing.
use Rattle.std.specs.Prelude.{Bool, ◌≡◌, ◌⊎◌, get_or, Err, None, Ok, Option, Some}
use Rattle.std.proofs.Math.Bool.{true, false}
use Rattle.std.proofs.Math.Path.{refl}
use Rattle.std.proofs.Common.{sym, subst, ◌∙◌, inl, inr, arith, lit≤}
use mathlib.Core.List.{List}
use Rattle.std.proofs.Math.Logic.{⊎_elim}
use Prim.Native.Nat.{ℕ, zero, suc, ◌+◌, ◌*◌, ◌-◌, ◌/◌, ◌^◌, ◌≤◌, ◌<◌}
use Rattle.std.proofs.Math.ListN.{length}
use Rattle.laws.specs.Pick.{pick}
use Rattle.laws.specs.Tests.{AtMost, at_most, above, at_most?, lt_or_ge}
use Rattle.node.specs.declared.Node.{Node}
use Rattle.node.specs.Head.{head_at}
use Rattle.node.specs.Store.{put_at, parent_at, name_at}
use Rattle.node.specs.Laws.{word_same, name_same}
use Rattle.siblings.specs.Siblings.{siblings_differ}
use Rattle.siblings.specs.InOrder.{Distinct, differ_distinct}
use Rattle.tree.specs.declared.Fault.TheVariants.{Unspelled, Full}
use Rattle.tree.specs.Tree.{Out, and_then, kids, settled_as, settled, body, node_at}
use Rattle.tree.specs.Frame.{Kept, read_used, kids_kept, settled_used, put_long, put_parent, node_kept}
use Rattle.tree.specs.Inside.{kids_hold, from_first, node_inner}
use Rattle.node.specs.declared.Node.{Node}
use Rattle.tree.specs.Made.{read_up_to}

-- every node from `from` on that the outcome has: its children's names differ
abbrev pub Apart : List ℕ → ℕ → Out → Type 0
Apart s from o = (n u : ℕ) → o.0 ≡ Ok (read_up_to n u) → (k : ℕ) → from ≤ k → k < u → Distinct s o.1 k (k + 1) u

-- later nodes are children of others
extended : (s ns : List ℕ) (k v u : ℕ) (o : Out) → Kept v v ns o → ((j : ℕ) → v ≤ j → j < u → parent_at o.1 j ≡ k → ⊥) → Distinct s ns k (k + 1) v → Distinct s o.1 k (k + 1) u
extended s ns k v u o kept later d i j h l m p q e =
    let below : i < v = ⊎_elim (λ x. x) (λ x. absurd (later i x m p)) (lt_or_ge i v) in
    d i j h l below (sym (same i below) ∙ p) (sym (same j (omega arith)) ∙ q) (sym (named i below) ∙ e ∙ named j (omega arith))
  where
    same : (j : ℕ) → j < v → parent_at o.1 j ≡ parent_at ns j
    same j x = word_same ns o.1 j kept.long (λ m l. kept.low (j * 72 + m) (omega arith)) 32 (lit≤ tt)

    named : (j : ℕ) → j < v → name_at s o.1 j ≡ name_at s ns j
    named j x = name_same ns o.1 j kept.long (λ m l. kept.low (j * 72 + m) (omega arith)) s

-- ---- where the parents of a run of subtrees lie

abbrev Outer : ℕ → ℕ → ℕ → List ℕ → Type 0
Outer me from j ns = (parent_at ns j ≡ me) ⊎ (from ≤ parent_at ns j)

module _ (idLength : ℕ) (fits : idLength ≤ 32) (s : List ℕ) (end me from : ℕ) where
  abbrev Parent : ℕ → ℕ → Type 0
  Parent p j = ((p ≡ me) ⊎ (from ≤ p)) × (p < j)

  outer_local : (j : ℕ) (ns ms : List ℕ) → length ms ≡ length ns → ((m : ℕ) → m < 72 → get_or ms (j * 72 + m) 0 ≡ get_or ns (j * 72 + m) 0) → Outer me from j ns → Outer me from j ms
  outer_local j ns ms e h b = rw (word_same ns ms j e h 32 (lit≤ tt)) b

  outer_put : (at : ℕ) (n : Node) (parent : ℕ) (ns : List ℕ) (j : ℕ) → head_at idLength s at end ≡ Some n → j < length ns / 72 → length ns < 256 ^ 8 → Parent parent j → Outer me from j (put_at s n parent ns j)
  outer_put at n parent ns j q h long l = rw (put_parent idLength fits s at end n parent ns j h q (omega (arith, l.1))) l.0

  pub kids_outer : (d l at : ℕ) (ns : List ℕ) → me < from → length ns < 256 ^ 8 → (n u : ℕ) → (kids (node_at idLength s end d me) l at from ns).0 ≡ Ok (read_up_to n u) → (j : ℕ) → from ≤ j → j < u → Outer me from j (kids (node_at idLength s end d me) l at from ns).1
  kids_outer d l at ns h long =
      kids_hold idLength fits s end from Parent (λ p j x y. (inr x, y)) (Outer me from) outer_local outer_put (node_at idLength s end d me) (from - 1) (λ a v ms. node_kept idLength fits s end d me a v ms)
      (λ a v ms x y. from_first idLength fits s end from Parent (λ p j z w. (inr z, w)) (Outer me from) outer_local outer_put d me a v ms (inl refl, omega arith) y
      (node_inner idLength fits s end from Parent (λ p j z w. (inr z, w)) (Outer me from) outer_local outer_put d me a v ms (omega arith) y))
      l at from ns (omega arith) long

-- ---- by induction on the depth

module _ (idLength : ℕ) (fits : idLength ≤ 32) (s : List ℕ) (end : ℕ) where
  kids_apart : (d me : ℕ) → ((at used : ℕ) (ns : List ℕ) → length ns < 256 ^ 8 → Apart s used (node_at idLength s end d me at used ns))
      → (l at used : ℕ) (ns : List ℕ) → me < used → length ns < 256 ^ 8 → Apart s used (kids (node_at idLength s end d me) l at used ns)
  unfolding kids
  kids_apart d me a zero at used ns h long n u e k x y = absurd (omega (arith, read_used at used n u e))
  kids_apart d me a (suc l) at used ns h long n u e k x y =
      go (node_at idLength s end d me at used ns) (node_kept idLength fits s end d me at used ns) (a at used ns long) (λ m v ms z w. kids_apart d me a l m v ms z w) n u e k x y
    where
      go : (o : Out) → Kept used (used + 1) ns o → Apart s used o → ((m v : ℕ) (ms : List ℕ) → me < v → length ms < 256 ^ 8 → Apart s v (kids (node_at idLength s end d me) l m v ms)) → Apart s used (and_then o (kids (node_at idLength s end d me) l))
      go (Err w, ms) kept b ih n u e k x y = cc
      go (Ok r₁, ms) kept b ih n u e k x y =
          let long' : length ms < 256 ^ 8 = rw kept.long long in
          let onward : used + 1 ≤ r₁.used = kept.onward r₁.next r₁.used refl in
          ⊎_elim
          (λ z. extended s ms k r₁.used u (kids (node_at idLength s end d me) l r₁.next r₁.used ms) (kids_kept (node_at idLength s end d me) (λ a i xs. node_kept idLength fits s end d me a i xs) l r₁.next r₁.used ms)
          (λ j p q r. ⊎_elim (λ t. omega arith) (λ t. omega arith) (kids_outer idLength fits s end me r₁.used d l r₁.next ms (omega arith) long' n u e j p q)) (b r₁.next r₁.used refl k x z))
          (λ z. ih r₁.next r₁.used ms (omega arith) long' n u e k z y)
          (lt_or_ge k r₁.used)

  settled_distinct : (me next used : ℕ) (ns : List ℕ) (n u : ℕ) → settled_as s ns me next used ≡ Ok (read_up_to n u) → Distinct s ns me (me + 1) used
  unfolding settled_as
  settled_distinct me next used ns n u = by (siblings_differ s ns me (me + 1) used) refl
    where
      by : (t : Bool) → siblings_differ s ns me (me + 1) used ≡ t → pick t (Ok (read_up_to next used)) (Err Unspelled) ≡ Ok (read_up_to n u) → Distinct s ns me (me + 1) used
      by true q e = differ_distinct s ns me (me + 1) used q
      by false q e = cc

  settle_apart : (me : ℕ) (o : Out) → Apart s (me + 1) o → Apart s me (settled s me o)
  settle_apart me (Err f, ns) a n u e k x y = cc
  settle_apart me (Ok r, ns) a n u e k x y =
      let same : r.used ≡ u = settled_used s me r.next r.used ns n u e in
      subst (λ (w : ℕ). Distinct s ns k (k + 1) w) same (⊎_elim (λ z. a r.next r.used refl k (omega arith) (omega arith)) (λ z. let eq : me ≡ k = omega arith in subst (λ (i : ℕ). Distinct s ns i (i + 1) r.used) eq (settled_distinct me r.next r.used ns n u e)) (lt_or_ge me k))

  body_apart : (d at parent used : ℕ) (ns : List ℕ) → ((p a v : ℕ) (ms : List ℕ) → length ms < 256 ^ 8 → Apart s v (node_at idLength s end d p a v ms)) → used < length ns / 72 → length ns < 256 ^ 8
      → (h : Option Node) → head_at idLength s at end ≡ h → Apart s used (body s (node_at idLength s end d) parent used ns h)
  body_apart d at parent used ns ih room long None q n u e k x y = cc
  body_apart d at parent used ns ih room long (Some m) q n u e k x y =
      let same : length (put_at s m parent ns used) ≡ length ns = put_long idLength fits s at end m parent ns used room q in
      let small : length (put_at s m parent ns used) < 256 ^ 8 = rw same long in
      settle_apart used (kids (node_at idLength s end d used) m.subtrees m.next (used + 1) (put_at s m parent ns used))
      (kids_apart d used (λ a v ms z. ih used a v ms z) m.subtrees m.next (used + 1) (put_at s m parent ns used) (omega arith) small) n u e k x y

  pub node_apart : (d parent at used : ℕ) (ns : List ℕ) → length ns < 256 ^ 8 → Apart s used (node_at idLength s end d parent at used ns)
  unfolding node_at
  node_apart zero parent at used ns long n u e = cc
  node_apart (suc d) parent at used ns long n u e = by (at_most? (length ns / 72) used) (λ p a v ms z. node_apart d p a v ms z) e
    where
      by : {t : Bool} → AtMost (length ns / 72) used t → ((p a v : ℕ) (ms : List ℕ) → length ms < 256 ^ 8 → Apart s v (node_at idLength s end d p a v ms))
          → (pick {A = Out} t (Err Full, ns) (body s (node_at idLength s end d) parent used ns (head_at idLength s at end))).0 ≡ Ok (read_up_to n u) → (k : ℕ) → used ≤ k → k < u
          → Distinct s (pick {A = Out} t (Err Full, ns) (body s (node_at idLength s end d) parent used ns (head_at idLength s at end))).1 k (k + 1) u
      by (at_most h) ih e = cc
      by (above h) ih e = body_apart d at parent used ns ih h long (head_at idLength s at end) refl n u e
