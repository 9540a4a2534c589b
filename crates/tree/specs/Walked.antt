-- The reader stores nodes in walk order: what is below a node stands right behind it, up to the nodes used when it is done. By induction on the depth. Assumes
-- nothing.
use Rattle.std.specs.Prelude.{Bool, ◌≡◌, Err, None, Ok, Option, Result, Some}
use Rattle.std.proofs.Math.Path.{refl, subst}
use Rattle.std.proofs.Common.{sym, ap, ◌∙◌, arith, lit≤}
use mathlib.Core.List.{List}
use Prim.Native.Nat.{ℕ, zero, suc, ◌+◌, ◌*◌, ◌/◌, ◌^◌, ◌≤◌, ◌<◌}
use Rattle.std.proofs.Math.ListN.{length}
use Rattle.laws.specs.Pick.{pick}
use Rattle.laws.specs.Tests.{AtMost, at_most, above, at_most?}
use Rattle.node.specs.declared.Node.{Node}
use Rattle.node.specs.Head.{head_at}
use Rattle.node.specs.Store.{put_at}
use Rattle.node.specs.Laws.{word_same}
use Rattle.walk_order.specs.Below.{Below}
use Rattle.link_sort.specs.Folder.{Folder, folder_start, folder_more}
use Rattle.tree.specs.declared.Fault.TheVariants.{Full}
use Rattle.tree.specs.Tree.{Out, and_then, kids, settled, body, node_at}
use Rattle.tree.specs.Frame.{Kept, read_used, settled_used, put_long, node_kept}
use Rattle.tree.specs.Inside.{parent_first}
use Rattle.node.specs.declared.Node.{Node}
use Rattle.tree.specs.Made.{read_up_to}
use Rattle.tree.specs.declared.Fault.{Fault}
use Rattle.tree.specs.declared.Read.{Read}

module _ (idLength : ℕ) (fits : idLength ≤ 32) (s : List ℕ) (end : ℕ) where
  -- a node that was read, and what is below it
  abbrev Walks : ℕ → Out → Type 0
  Walks used o = (n u : ℕ) → o.0 ≡ Ok (read_up_to n u) → Below o.1 used u

  -- a folder with a subtree more, which was read into it
  module _ (d me : ℕ) (below : (at used : ℕ) (ns : List ℕ) → length ns < 256 ^ 8 → Walks used (node_at idLength s end d me at used ns)) where
    pub folder_grows : (at have : ℕ) (ns : List ℕ) (last : ℕ) → Folder ns me have last → length ns < 256 ^ 8 → (n u : ℕ) → (node_at idLength s end d me at have ns).0 ≡ Ok (read_up_to n u) → Folder (node_at idLength s end d me at have ns).1 me u have
    folder_grows at have ns last f long n u e =
        let o : Out = node_at idLength s end d me at have ns in
        let kept : Kept have (have + 1) ns o = node_kept idLength fits s end d me at have ns in
        let same : length o.1 ≡ length ns = kept.long in
        let room : u ≤ length ns / 72 = kept.room n u e f.room in
        folder_more ns o.1 me have u last f (λ j h. word_same ns o.1 j kept.long (λ m l. kept.low (j * 72 + m) (omega arith)) 32 (lit≤ tt)) (omega (arith, kept.onward n u e)) (rw same room)
        (parent_first idLength fits s end me have d at ns f.onward long n u e) (below at have ns long n u e)

    kids_walk : (l at have : ℕ) (ns : List ℕ) (last : ℕ) → Folder ns me have last → length ns < 256 ^ 8 → Walks me (kids (node_at idLength s end d me) l at have ns)
    unfolding kids
    kids_walk zero at have ns last f long n u e = subst (λ (v : ℕ). Below ns me v) (read_used at have n u e) f.below
    kids_walk (suc l) at have ns last f long n u e =
        go (node_at idLength s end d me at have ns) (node_kept idLength fits s end d me at have ns).long (λ m v q. folder_grows at have ns last f long m v q) (λ m v ms g z. kids_walk l m v ms have g z n u) e
      where
        go : (o : Out) → length o.1 ≡ length ns → ((m v : ℕ) → o.0 ≡ Ok (read_up_to m v) → Folder o.1 me v have)
            → ((m v : ℕ) (ms : List ℕ) → Folder ms me v have → length ms < 256 ^ 8 → (kids (node_at idLength s end d me) l m v ms).0 ≡ Ok (read_up_to n u) → Below (kids (node_at idLength s end d me) l m v ms).1 me u)
            → (and_then o (kids (node_at idLength s end d me) l)).0 ≡ Ok (read_up_to n u) → Below (and_then o (kids (node_at idLength s end d me) l)).1 me u
        go (Err w, ms) same grown ih e = cc
        go (Ok r, ms) same grown ih e = ih r.next r.used ms (grown r.next r.used refl) (rw same long) e

  settle_walk : (me : ℕ) (o : Out) → Walks me o → Walks me (settled s me o)
  settle_walk me (Err f, ns) a n u e = cc
  settle_walk me (Ok r, ns) a n u e = subst (λ (w : ℕ). Below ns me w) (settled_used s me r.next r.used ns n u e) (a r.next r.used refl)

  body_walk : (d at parent used : ℕ) (ns : List ℕ) → ((p a v : ℕ) (ms : List ℕ) → length ms < 256 ^ 8 → Walks v (node_at idLength s end d p a v ms)) → used < length ns / 72 → length ns < 256 ^ 8
      → (h : Option Node) → head_at idLength s at end ≡ h → Walks used (body s (node_at idLength s end d) parent used ns h)
  body_walk d at parent used ns ih room long None q n u e = cc
  body_walk d at parent used ns ih room long (Some m) q n u e =
      let ps : List ℕ = put_at s m parent ns used in
      let same : length ps ≡ length ns = put_long idLength fits s at end m parent ns used room q in
      let fit : used + 1 ≤ length ps / 72 = rw same (omega arith) in
      settle_walk used (kids (node_at idLength s end d used) m.subtrees m.next (used + 1) ps)
      (kids_walk d used (λ a v ms z. ih used a v ms z) m.subtrees m.next (used + 1) ps used (folder_start ps used fit) (rw same long)) n u e

  -- THE WALK ORDER
  pub node_walks : (d parent at used : ℕ) (ns : List ℕ) → length ns < 256 ^ 8 → Walks used (node_at idLength s end d parent at used ns)
  unfolding node_at
  node_walks zero parent at used ns long n u e = cc
  node_walks (suc d) parent at used ns long n u e = by (at_most? (length ns / 72) used) (λ p a v ms z. node_walks d p a v ms z) e
    where
      by : {t : Bool} → AtMost (length ns / 72) used t → ((p a v : ℕ) (ms : List ℕ) → length ms < 256 ^ 8 → Walks v (node_at idLength s end d p a v ms))
          → (pick {A = Out} t (Err Full, ns) (body s (node_at idLength s end d) parent used ns (head_at idLength s at end))).0 ≡ Ok (read_up_to n u)
          → Below (pick {A = Out} t (Err Full, ns) (body s (node_at idLength s end d) parent used ns (head_at idLength s at end))).1 used u
      by (at_most h) ih e = cc
      by (above h) ih e = body_walk d at parent used ns ih h long (head_at idLength s at end) refl n u e

-- a folder whose next subtree was read, and one with none yet
pub folder_next : (idLength : ℕ) → idLength ≤ 32 → (s : List ℕ) (end d me at have : ℕ) (ns ms : List ℕ) (a : Result Read Fault) (n u last : ℕ) → Folder ns me have last → (a, ms) ≡ node_at idLength s end d me at have ns → a ≡ Ok (read_up_to n u) → length ns < 256 ^ 8
    → Folder ms me u have
folder_next idLength fits s end d me at have ns ms a n u last f e q long =
    let o : Out = node_at idLength s end d me at have ns in
    let read : o.0 ≡ Ok (read_up_to n u) = ap (λ (x : Out). x.0) (sym e) ∙ q in
    let same : ms ≡ o.1 = ap (λ (x : Out). x.1) e in
    rw same (folder_grows idLength fits s end d me (λ b v ls z. node_walks idLength fits s end d me b v ls z) at have ns last f long n u read)

pub folder_put : (idLength : ℕ) → idLength ≤ 32 → (s : List ℕ) (at end : ℕ) (n : Node) (parent : ℕ) (ns ms : List ℕ) (used : ℕ) → used < length ns / 72 → head_at idLength s at end ≡ Some n → ms ≡ put_at s n parent ns used → Folder ms used (used + 1) used
folder_put idLength fits s at end n parent ns ms used h q e =
    let same : length ms ≡ length ns = ap length e ∙ put_long idLength fits s at end n parent ns used h q in
    folder_start ms used (rw same (omega arith))
