-- What holds of every node that a reading stores: proved once over a property of a node in the store, by induction on the depth. Then, of parents: each lies before
-- its child, and in the subtree that was read. Assumes nothing.
use Rattle.std.specs.Prelude.{Bool, ◌≡◌, get_or, Err, None, Ok, Option, Result, Some}
use Rattle.std.proofs.Math.Path.{refl}
use Rattle.std.proofs.Common.{sym, ap, subst, ◌∙◌, ⊎_elim, arith, lit≤}
use mathlib.Core.List.{List}
use Prim.Native.Nat.{ℕ, zero, suc, ◌+◌, ◌*◌, ◌/◌, ◌^◌, ◌≤◌, ◌<◌}
use Rattle.std.proofs.Math.ListN.{length}
use Rattle.laws.specs.Pick.{pick}
use Rattle.laws.specs.Tests.{AtMost, at_most, above, at_most?, lt_or_ge}
use Rattle.node.specs.declared.Node.{Node}
use Rattle.node.specs.Head.{head_at}
use Rattle.node.specs.Store.{put_at, parent_at}
use Rattle.node.specs.Laws.{word_same, name_same}
use Rattle.siblings.specs.InOrder.{Grows}
use Rattle.tree.specs.declared.Fault.TheVariants.{Full}
use Rattle.tree.specs.Tree.{Out, and_then, kids, settled_as, settled, body, node_at}
use Rattle.tree.specs.Frame.{Kept, read_used, then_kept, kids_kept, settled_used, settled_kept, put_long, put_parent, node_kept}
use Rattle.node.specs.declared.Node.{Node}
use Rattle.tree.specs.Made.{read_up_to}
use Rattle.tree.specs.declared.Fault.{Fault}
use Rattle.tree.specs.declared.Read.{Read}

-- P of node j asks only for that node's bytes, and holds of each node that is put below a parent of which Q holds, as of each from `least` on and before j
module _ (idLength : ℕ) (fits : idLength ≤ 32) (s : List ℕ) (end least : ℕ) (Q : ℕ → ℕ → Type 0) (lower : (p j : ℕ) → least ≤ p → p < j → Q p j) (P : ℕ → List ℕ → Type 0)
    (local : (j : ℕ) (ns ms : List ℕ) → length ms ≡ length ns → ((m : ℕ) → m < 72 → get_or ms (j * 72 + m) 0 ≡ get_or ns (j * 72 + m) 0) → P j ns → P j ms)
    (stores : (at : ℕ) (n : Node) (parent : ℕ) (ns : List ℕ) (j : ℕ) → head_at idLength s at end ≡ Some n → j < length ns / 72 → length ns < 256 ^ 8 → Q parent j → P j (put_at s n parent ns j)) where
  -- it holds of every node from `from` on that the outcome has
  abbrev Holds : ℕ → Out → Type 0
  Holds from o = (n u : ℕ) → o.0 ≡ Ok (read_up_to n u) → (j : ℕ) → from ≤ j → j < u → P j o.1

  stays : (used a : ℕ) (ns : List ℕ) (o : Out) → Kept used a ns o → (j : ℕ) → j < used → P j ns → P j o.1
  stays used a ns o k j h p = local j ns o.1 k.long (λ m l. k.low (j * 72 + m) (omega arith)) p

  then_holds : (used from a : ℕ) (ns : List ℕ) (o : Out) (k : ℕ → ℕ → List ℕ → Out) → Kept used a ns o → Holds from o → ((n u : ℕ) (ms : List ℕ) → Kept u u ms (k n u ms))
      → ((n u : ℕ) (ms : List ℕ) → length ms ≡ length ns → a ≤ u → Holds u (k n u ms)) → Holds from (and_then o k)
  then_holds used from a ns (Ok r, ms) k kept h keeps next n' u' e j l m =
      ⊎_elim (λ p. stays r.used r.used ms (k r.next r.used ms) (keeps r.next r.used ms) j p (h r.next r.used refl j l p)) (λ p. next r.next r.used ms kept.long (kept.onward r.next r.used refl) n' u' e j p m) (lt_or_ge j r.used)
  then_holds used from a ns (Err f, ms) k kept h keeps next n' u' e j l m = cc

  pub kids_hold : (f : ℕ → ℕ → List ℕ → Out) (me : ℕ) → ((at used : ℕ) (ns : List ℕ) → Kept used (used + 1) ns (f at used ns))
      → ((at used : ℕ) (ns : List ℕ) → me < used → length ns < 256 ^ 8 → Holds used (f at used ns)) → (l at used : ℕ) (ns : List ℕ) → me < used → length ns < 256 ^ 8 → Holds used (kids f l at used ns)
  unfolding kids
  kids_hold f me a b zero at used ns h k n u e j l m = absurd (omega (arith, read_used at used n u e))
  kids_hold f me a b (suc l) at used ns h k n u e j x y =
      then_holds used used (used + 1) ns (f at used ns) (kids f l) (a at used ns) (b at used ns h k) (λ n u ms. kids_kept f a l n u ms)
      (λ n u ms q r. kids_hold f me a b l n u ms (omega arith) (rw q k)) n u e j x y

  settled_holds : (me n u : ℕ) (ms : List ℕ) → Holds u (settled_as s ms me n u, ms)
  settled_holds me n u ms n' u' e j l m = absurd (omega (arith, settled_used s me n u ms n' u' e))

  module _ (at : ℕ) (rec : ℕ → ℕ → ℕ → List ℕ → Out) (keeps : (p a u : ℕ) (ms : List ℕ) → Kept u (u + 1) ms (rec p a u ms)) (parent used : ℕ) (ns : List ℕ) (room : used < length ns / 72) (long : length ns < 256 ^ 8) where
    -- below a node
    body_inner : ((p a u : ℕ) (ms : List ℕ) → Q p u → least ≤ u → length ms < 256 ^ 8 → Holds u (rec p a u ms)) → least ≤ used → (h : Option Node) → head_at idLength s at end ≡ h → Holds (used + 1) (body s rec parent used ns h)
    body_inner below l None q n u e j x y = cc
    body_inner below l (Some n) q m v e j x y =
        let ps : List ℕ = put_at s n parent ns used in
        let same : length ps ≡ length ns = put_long idLength fits s at end n parent ns used room q in
        let small : length ps < 256 ^ 8 = rw same long in
        then_holds (used + 1) (used + 1) (used + 1) ps (kids (rec used) n.subtrees n.next (used + 1) ps) (λ m v ms. (settled_as s ms used m v, ms))
        (kids_kept (rec used) (λ a u ms. keeps used a u ms) n.subtrees n.next (used + 1) ps)
        (kids_hold (rec used) used (λ a u ms. keeps used a u ms) (λ a u ms x y. below used a u ms (lower used u l x) (omega arith) y) n.subtrees n.next (used + 1) ps (omega arith) small)
        (λ m v ms. settled_kept s used m v ms) (λ m v ms x y. settled_holds used m v ms) m v e j x y

    -- of the node itself
    body_first : Q parent used → (h : Option Node) → head_at idLength s at end ≡ h → (n u : ℕ) → (body s rec parent used ns h).0 ≡ Ok (read_up_to n u) → P used (body s rec parent used ns h).1
    body_first l None q m v e = cc
    body_first l (Some n) q m v e =
        let ps : List ℕ = put_at s n parent ns used in
        stays (used + 1) (used + 1) ps (settled s used (kids (rec used) n.subtrees n.next (used + 1) ps))
        (then_kept (used + 1) (used + 1) ps (kids (rec used) n.subtrees n.next (used + 1) ps) (λ m v ms. (settled_as s ms used m v, ms)) (omega arith)
        (kids_kept (rec used) (λ a u ms. keeps used a u ms) n.subtrees n.next (used + 1) ps) (λ m v ms. settled_kept s used m v ms))
        used (omega arith) (stores at n parent ns used q room long l)

  pub node_first : (d parent at used : ℕ) (ns : List ℕ) → Q parent used → length ns < 256 ^ 8 → (n u : ℕ) → (node_at idLength s end d parent at used ns).0 ≡ Ok (read_up_to n u) → P used (node_at idLength s end d parent at used ns).1
  unfolding node_at
  node_first zero parent at used ns l long n u e = cc
  node_first (suc d) parent at used ns l long n u e = by (at_most? (length ns / 72) used) e
    where
      by : {t : Bool} → AtMost (length ns / 72) used t → (pick {A = Out} t (Err Full, ns) (body s (node_at idLength s end d) parent used ns (head_at idLength s at end))).0 ≡ Ok (read_up_to n u)
          → P used (pick {A = Out} t (Err Full, ns) (body s (node_at idLength s end d) parent used ns (head_at idLength s at end))).1
      by (at_most h) e = cc
      by (above h) e = body_first at (node_at idLength s end d) (λ p a u ms. node_kept idLength fits s end d p a u ms) parent used ns h long l (head_at idLength s at end) refl n u e

  -- of the node, and of all below it
  pub from_first : (d parent at used : ℕ) (ns : List ℕ) → Q parent used → length ns < 256 ^ 8 → Holds (used + 1) (node_at idLength s end d parent at used ns) → Holds used (node_at idLength s end d parent at used ns)
  from_first d parent at used ns l long h n u e j x y =
      ⊎_elim (λ p. h n u e j (omega arith) y) (λ p. let q : used ≡ j = omega arith in subst (λ (i : ℕ). P i (node_at idLength s end d parent at used ns).1) q (node_first d parent at used ns l long n u e)) (lt_or_ge used j)

  pub node_inner : (d parent at used : ℕ) (ns : List ℕ) → least ≤ used → length ns < 256 ^ 8 → Holds (used + 1) (node_at idLength s end d parent at used ns)
  unfolding node_at
  node_inner zero parent at used ns l long n u e = cc
  node_inner (suc d) parent at used ns l long n u e = by (at_most? (length ns / 72) used) (λ p a v ms x y z. from_first d p a v ms x z (node_inner d p a v ms y z)) e
    where
      by : {t : Bool} → AtMost (length ns / 72) used t → ((p a v : ℕ) (ms : List ℕ) → Q p v → least ≤ v → length ms < 256 ^ 8 → Holds v (node_at idLength s end d p a v ms))
          → (pick {A = Out} t (Err Full, ns) (body s (node_at idLength s end d) parent used ns (head_at idLength s at end))).0 ≡ Ok (read_up_to n u) → (j : ℕ) → used + 1 ≤ j → j < u
          → P j (pick {A = Out} t (Err Full, ns) (body s (node_at idLength s end d) parent used ns (head_at idLength s at end))).1
      by (at_most h) ih e = cc
      by (above h) ih e = body_inner at (node_at idLength s end d) (λ p a v ms. node_kept idLength fits s end d p a v ms) parent used ns h long ih l (head_at idLength s at end) refl n u e

-- ---- parents

abbrev pub Below : ℕ → ℕ → List ℕ → Type 0
Below least j ns = (least ≤ parent_at ns j) × (parent_at ns j < j)

abbrev Between : ℕ → ℕ → ℕ → Type 0
Between least p j = (least ≤ p) × (p < j)

module _ (idLength : ℕ) (fits : idLength ≤ 32) (s : List ℕ) (end : ℕ) where
  below_local : (least j : ℕ) (ns ms : List ℕ) → length ms ≡ length ns → ((m : ℕ) → m < 72 → get_or ms (j * 72 + m) 0 ≡ get_or ns (j * 72 + m) 0) → Below least j ns → Below least j ms
  below_local least j ns ms e h b = rw (word_same ns ms j e h 32 (lit≤ tt)) b

  below_put : (least at : ℕ) (n : Node) (parent : ℕ) (ns : List ℕ) (j : ℕ) → head_at idLength s at end ≡ Some n → j < length ns / 72 → length ns < 256 ^ 8 → Between least parent j → Below least j (put_at s n parent ns j)
  below_put least at n parent ns j q h long l = rw (put_parent idLength fits s at end n parent ns j h q (omega (arith, l.1))) l

  -- every node below node `used` has its parent there, and before it
  pub parents_below : (d parent at used : ℕ) (ns : List ℕ) → length ns < 256 ^ 8 → (n u : ℕ) → (node_at idLength s end d parent at used ns).0 ≡ Ok (read_up_to n u) → (j : ℕ) → used + 1 ≤ j → j < u
      → Below used j (node_at idLength s end d parent at used ns).1
  parents_below d parent at used ns long n u e j h k =
      node_inner idLength fits s end used (Between used) (λ p i x y. (x, y)) (Below used) (below_local used) (below_put used) d parent at used ns (omega arith) long n u e j h k

  -- the node itself has its parent
  module _ (me used : ℕ) where
    abbrev Child : ℕ → List ℕ → Type 0
    Child j ns = j ≡ used → parent_at ns j ≡ me

    abbrev ChildOf : ℕ → ℕ → Type 0
    ChildOf p j = (j ≡ used → p ≡ me) × (p < j)

    child_local : (j : ℕ) (ns ms : List ℕ) → length ms ≡ length ns → ((m : ℕ) → m < 72 → get_or ms (j * 72 + m) 0 ≡ get_or ns (j * 72 + m) 0) → Child j ns → Child j ms
    child_local j ns ms e h g z = word_same ns ms j e h 32 (lit≤ tt) ∙ g z

    child_put : (at : ℕ) (n : Node) (parent : ℕ) (ns : List ℕ) (j : ℕ) → head_at idLength s at end ≡ Some n → j < length ns / 72 → length ns < 256 ^ 8 → ChildOf parent j → Child j (put_at s n parent ns j)
    child_put at n parent ns j q h long l z = put_parent idLength fits s at end n parent ns j h q (omega (arith, l.1)) ∙ l.0 z

    pub parent_first : (d at : ℕ) (ns : List ℕ) → me < used → length ns < 256 ^ 8 → (n v : ℕ) → (node_at idLength s end d me at used ns).0 ≡ Ok (read_up_to n v) → parent_at (node_at idLength s end d me at used ns).1 used ≡ me
    parent_first d at ns h long n v e =
        node_first idLength fits s end used ChildOf (λ p j x y. ((λ z. absurd (omega arith)), y)) Child child_local child_put d me at used ns ((λ z. refl), h) long n v e refl

-- a subtree that was read grows the store as the order of its parent's children asks
pub node_grows : (idLength : ℕ) → idLength ≤ 32 → (s : List ℕ) (end d me at have : ℕ) (ns ms : List ℕ) (a : Result Read Fault) (n u : ℕ) → (a, ms) ≡ node_at idLength s end d me at have ns → a ≡ Ok (read_up_to n u) → length ns < 256 ^ 8 → me < have
    → Grows s ns ms me have u
node_grows idLength fits s end d me at have ns ms a n u e q long less =
    let o : Out = node_at idLength s end d me at have ns in
    let kept : Kept have (have + 1) ns o = node_kept idLength fits s end d me at have ns in
    let read : o.0 ≡ Ok (read_up_to n u) = ap (λ (x : Out). x.0) (sym e) ∙ q in
    let same : ms ≡ o.1 = ap (λ (x : Out). x.1) e in
    rw same (record {
      onward = omega (arith, kept.onward n u read);
      parents = λ j h. word_same ns o.1 j kept.long (λ m l. kept.low (j * 72 + m) (omega arith)) 32 (lit≤ tt);
      spelled = λ j h. name_same ns o.1 j kept.long (λ m l. kept.low (j * 72 + m) (omega arith)) s;
      others = λ j h k p. omega (arith, (parents_below idLength fits s end d me at have ns long n u read j (omega arith) k).0);
    })
