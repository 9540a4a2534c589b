-- Laws of the walk in the directions that the proofs of `src/` ask. Assumes nothing.
use mathlib.Core.Bool.{Bool, true, false}
use mathlib.Core.Path.{◌≡◌, refl, sym, ap, ◌∙◌}
use mathlib.Core.List.{List}
use Prim.Native.Nat.{ℕ, zero, suc, ◌+◌, ◌-◌, ◌/◌, ◌^◌, ◌≤◌, ◌<◌}
use native.Mathlib.Omega.{arith}
use lib.Dec.{leb, lit≤}
use lib.ListN.{length}
use borrow.Author.Tests.{le-leb, lt-leb}
use Rattle.laws.specs.Pick.{pick}
use Rattle.format.specs.Format.{id_size}
use Rattle.node.specs.declared.Node.{Node}
use Rattle.node.specs.Head.{head_at}
use Rattle.node.specs.Store.{put_at}
use Rattle.node.specs.Parents.{Bytes}
use Rattle.siblings.specs.declared.Rising.{Rising}
use Rattle.siblings.specs.Siblings.{siblings_differ}
use Rattle.siblings.specs.Rising.{risen}
use Rattle.siblings.specs.InOrder.{SoFar, risen_last, so_far_more, bytes_differ, git_differ}
use Rattle.link_sort.specs.Runs.{sorted_differ}
use Rattle.link_sort.specs.Folder.{Folder}
use Rattle.link_sort.specs.Answer.{answered}
use Rattle.tree.specs.declared.Fault.{Fault}
use Rattle.tree.specs.declared.Fault.TheVariants.{Unspelled, Deep, Full}
use Rattle.tree.specs.Tree.{Out, and_then, kids, settled_as, settled, body, node_at}
use Rattle.tree.specs.Inside.{node_grows}
use Rattle.tree.specs.Walked.{folder_next, folder_put}
use Rattle.std.specs.Result.{IsErrAnd}
use Rattle.std.specs.Prelude.{Err, None, Ok, Option, Result, Some}
use Rattle.node.specs.declared.Node.{Node}
use Rattle.tree.specs.Made.{read_up_to}
use Rattle.tree.specs.declared.Fault.{Fault}
use Rattle.tree.specs.declared.Read.{Read}

-- ---- a node whose last subtree is done

module _ (s ns : List ℕ) (me next used : ℕ) where
  settle_is : true ≡ siblings_differ s ns me (me + 1) used → Ok (read_up_to next used) ≡ settled_as s ns me next used
  unfolding settled_as
  settle_is e = sym (rw (← e))

  settle_not : false ≡ siblings_differ s ns me (me + 1) used → Err Unspelled ≡ settled_as s ns me next used
  unfolding settled_as
  settle_not e = sym (rw (← e))

  pub settle_bytes : (so : Rising) → SoFar s ns me used so → so.bytes ≡ true → (Ok (read_up_to next used), ns) ≡ settled s me (Ok (read_up_to next used), ns)
  settle_bytes so o e = λ i. (settle_is (bytes_differ s ns me used so o e) i, ns)

  pub settle_git : (so : Rising) → SoFar s ns me used so → so.git ≡ true → (Ok (read_up_to next used), ns) ≡ settled s me (Ok (read_up_to next used), ns)
  settle_git so o e = λ i. (settle_is (git_differ s ns me used so o e) i, ns)

  -- the children were sorted, and the store put back
  module _ (last : ℕ) (f : Folder ns me used last) (sized : length ns < 256 ^ 8) (t : Bool) (ms : List ℕ) (e : (t, ms) ≡ sorted_differ s me last ns) (bytes : Bytes ns) (bytes₂ : Bytes ms) where
    back : ◌≡◌ {A = Bool × List ℕ} (t, ms) (siblings_differ s ns me (me + 1) used, ns)
    back = answered s ns me used last f sized bytes t ms bytes₂ e

    said : t ≡ siblings_differ s ns me (me + 1) used
    said = ap (λ (o : Bool × List ℕ). o.0) back

    store : ms ≡ ns
    store = ap (λ (o : Bool × List ℕ). o.1) back

    pub settle_differ : t ≡ true → (Ok (read_up_to next used), ms) ≡ settled s me (Ok (read_up_to next used), ns)
    settle_differ q = λ i. (settle_is (sym q ∙ said) i, store i)

    pub settle_repeat : t ≡ false → (Err Unspelled, ms) ≡ settled s me (Ok (read_up_to next used), ns)
    settle_repeat q = λ i. (settle_not (sym q ∙ said) i, store i)

pub ruleset settles = (settle_bytes, settle_git)

-- ---- a node

module _ (idLength : ℕ) (s : List ℕ) (end d parent at used : ℕ) (ns : List ℕ) where
  pub out_deep : d ≡ 0 → (Err Deep, ns) ≡ node_at idLength s end d parent at used ns
  unfolding node_at
  out_deep q = sym (rw q)

  module _ (p : d ≡ 0 → ⊥) where
    opened : (x : ℕ) → d ≡ x → node_at idLength s end d parent at used ns ≡ pick (leb (length ns / 72) used) (Err Full, ns) (body s (node_at idLength s end (d - 1)) parent used ns (head_at idLength s at end))
    unfolding node_at
    opened zero e = absurd (p e)
    opened (suc x) e = let q : d - 1 ≡ x = omega arith in rw (q, e)

    pub out_full : length ns / 72 ≤ used → (Err Full, ns) ≡ node_at idLength s end d parent at used ns
    out_full r = sym (opened d refl ∙ rw (le-leb (length ns / 72) used r))

    module _ (r : used < length ns / 72) (h : Option Node) (e : h ≡ head_at idLength s at end) where
      pub out_bad : h ≡ None → (Err Unspelled, ns) ≡ node_at idLength s end d parent at used ns
      out_bad q = sym (opened d refl ∙ rw (lt-leb (length ns / 72) used r, ← e, q))

      pub out_node : (n : Node) (ms : List ℕ) (o : Out) → h ≡ Some n → ms ≡ put_at s n parent ns used → o ≡ settled s used (kids (node_at idLength s end (d - 1) used) n.subtrees n.next (used + 1) ms) → o ≡ node_at idLength s end d parent at used ns
      out_node n ms o q w z = z ∙ sym (opened d refl ∙ rw (lt-leb (length ns / 72) used r, ← e, q, w))

-- ---- its subtrees: what is left, from the present state, gives the whole

-- of e subtrees k are read
module _ (f : ℕ → ℕ → List ℕ → Out) (e k at used : ℕ) (ns : List ℕ) where
  kids_step : k < e → kids f (e - k) at used ns ≡ and_then (f at used ns) (kids f (e - (k + 1)))
  unfolding kids
  kids_step h = let q : e - k ≡ suc (e - (k + 1)) = omega arith in rw q

  kids_end : e ≤ k → kids f (e - k) at used ns ≡ (Ok (read_up_to at used), ns)
  unfolding kids
  kids_end h = let q : e - k ≡ 0 = omega arith in rw q

  module _ (whole : Out) (inv : kids f (e - k) at used ns ≡ whole) where
    pub loop_end : (s : List ℕ) (me : ℕ) (r : Result Read Fault) (ms : List ℕ) → e ≤ k → (r, ms) ≡ settled s me (Ok (read_up_to at used), ns) → (r, ms) ≡ settled s me whole
    loop_end s me r ms h q = q ∙ sym (rw (← inv, kids_end h))

    module _ (more : k < e) (ms : List ℕ) (a : Result Read Fault) (p : (a, ms) ≡ f at used ns) where
      pub loop_next : (n u : ℕ) → a ≡ Ok (read_up_to n u) → kids f (e - (k + 1)) n u ms ≡ whole
      loop_next n u q = sym (kids_step more ∙ rw (← p, q)) ∙ inv

      pub loop_stop : (s : List ℕ) (me : ℕ) (x : Fault) → a ≡ Err x → (Err x, ms) ≡ settled s me whole
      loop_stop s me x q = rw (← inv, kids_step more, ← p, q)

-- what `?` hands on is the fault of the child
pub stops : (r : Result Read Fault) (x : Fault) → IsErrAnd r (λ y. y ≡ x) → r ≡ Err x
stops (Ok a) x e = absurd e
stops (Err y) x e = ap Err e

-- the order of the children so far, with one child more
pub so_far_next : (s : List ℕ) (end d me at have : ℕ) (ns ms : List ℕ) (a : Result Read Fault) (n u : ℕ) (so more : Rising) → SoFar s ns me have so → (a, ms) ≡ node_at id_size s end d me at have ns → a ≡ Ok (read_up_to n u)
    → more ≡ risen s ms me so have → length ns < 256 ^ 8 → SoFar s ms me u more
so_far_next s end d me at have ns ms a n u so more o e q r long =
    rw r (so_far_more s ns ms me have u so o (node_grows id_size (lit≤ tt) s end d me at have ns ms a n u e q long o.onward))

-- the folder, with one child more, and with none yet
pub folder_child : (s : List ℕ) (end d me at have : ℕ) (ns ms : List ℕ) (a : Result Read Fault) (n u : ℕ) (so more : Rising) → Folder ns me have so.last → (a, ms) ≡ node_at id_size s end d me at have ns → a ≡ Ok (read_up_to n u)
    → more ≡ risen s ms me so have → length ns < 256 ^ 8 → Folder ms me u more.last
folder_child s end d me at have ns ms a n u so more f e q r long =
    let last : more.last ≡ have = ap (λ (x : Rising). x.last) r ∙ risen_last s ms me so have in
    rw last (folder_next id_size (lit≤ tt) s end d me at have ns ms a n u so.last f e q long)

pub folder_first : (s : List ℕ) (at end : ℕ) (h : Option Node) (n : Node) (parent : ℕ) (ns ms : List ℕ) (used : ℕ) → used < length ns / 72 → h ≡ head_at id_size s at end → h ≡ Some n → ms ≡ put_at s n parent ns used → Folder ms used (used + 1) used
folder_first s at end h n parent ns ms used l e q w = folder_put id_size (lit≤ tt) s at end n parent ns ms used l (sym e ∙ q) w

pub ruleset walks = (out_deep, out_full, out_bad)
