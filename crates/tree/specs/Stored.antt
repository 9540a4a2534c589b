-- What the node store holds where a tree was read: the nodes used are some and lie in the store, the root alone has no parent, every other parent is an earlier node,
-- names lie in the tree's bytes and hold no NUL, counts are -1 to 2^31 - 1, sibling names are distinct, subtree counts agree with parents; and every byte behind them is as it was. Assumes nothing.
use Rattle.std.specs.Prelude.{Bool, ◌≡◌, ◌⊎◌, ℕ, ◌+◌, ◌*◌, ◌/◌, ◌^◌, ◌≤◌, ◌<◌, ltb, eqb, length, get_or, Err, Ok, Some}
use Rattle.std.proofs.Math.Bool.{true, false}
use Rattle.std.proofs.Math.Path.{refl}
use Rattle.std.proofs.Common.{ap, subst, ◌∙◌, inl, inr, ⊎_elim, arith, lit≤}
use mathlib.Core.List.{List}
use Rattle.laws.specs.Pick.{pick}
use Rattle.laws.specs.Same.{pair_same}
use Rattle.laws.specs.Tests.{lt_or_ge}
use Rattle.node.specs.declared.Node.{Node}
use Rattle.node.specs.Head.{count_half, minus_one, head_at}
use Rattle.node.specs.Store.{put_at, name_start_at, name_end_at, count_at, subtrees_at, parent_at}
use Rattle.node.specs.Spelled.{head_spelled}
use Rattle.node.specs.Laws.{word_same}
use Rattle.siblings.specs.InOrder.{Distinct}
use Rattle.tree.specs.declared.Fault.TheVariants.{Unspelled, Deep, Full}
use Rattle.tree.specs.Tree.{Out, and_then, node_at, alone, root_at, wiped, read_tree}
use Rattle.tree.specs.Frame.{Kept, put_start, put_stop, put_count, put_parent, node_kept}
use Rattle.tree.specs.Distinct.{node_apart}
use Rattle.tree.specs.Tally.{children, node_agree}
use Rattle.tree.specs.Inside.{node_first, node_inner, parents_below}
use Rattle.tree.specs.Made.{read_up_to}

-- a node's numbers: its name from b to e, and its count c
pub record Good (s : List ℕ) (end b e c : ℕ) : Type 0 where
  pub named : b ≤ e
  pub inside : e < end
  pub plain : (k : ℕ) → b + k < e → get_or s (b + k) 0 ≡ 0 → ⊥
  pub counted : (c < count_half) ⊎ (c ≡ minus_one)

abbrev pub GoodAt : List ℕ → ℕ → ℕ → List ℕ → Type 0
GoodAt s end j ns = Good s end (name_start_at ns j) (name_end_at ns j) (count_at ns j)

pub record Stored (s : List ℕ) (end u : ℕ) (ns ms : List ℕ) : Type 0 where
  pub some : 0 < u
  pub room : u ≤ length ms / 72
  pub root : parent_at ms 0 ≡ minus_one
  pub parents : (j : ℕ) → 0 < j → j < u → parent_at ms j < j
  pub good : (j : ℕ) → j < u → GoodAt s end j ms
  pub siblings : (k : ℕ) → k < u → Distinct s ms k (k + 1) u
  pub subtrees : (k : ℕ) → k < u → children ms k (k + 1) u ≡ subtrees_at ms k
  pub long : length ms ≡ length ns
  pub high : (k : ℕ) → u * 72 ≤ k → get_or ms k 0 ≡ get_or ns k 0

module _ (idLength : ℕ) (fits : idLength ≤ 32) (s : List ℕ) (end : ℕ) (file : length s < 256 ^ 8) where
  -- ---- names and counts

  abbrev Any : ℕ → ℕ → Type 0
  Any p j = p ≡ p

  good_local : (j : ℕ) (ns ms : List ℕ) → length ms ≡ length ns → ((m : ℕ) → m < 72 → get_or ms (j * 72 + m) 0 ≡ get_or ns (j * 72 + m) 0) → GoodAt s end j ns → GoodAt s end j ms
  good_local j ns ms e h g = rw (word_same ns ms j e h 0 (lit≤ tt), word_same ns ms j e h 8 (lit≤ tt), word_same ns ms j e h 16 (lit≤ tt)) g

  good_put : (at : ℕ) (n : Node) (parent : ℕ) (ns : List ℕ) (j : ℕ) → head_at idLength s at end ≡ Some n → j < length ns / 72 → length ns < 256 ^ 8 → Any parent j → GoodAt s end j (put_at s n parent ns j)
  good_put at n parent ns j q h long l =
      let x = head_spelled idLength s at end n q in
      let starts : n.start ≡ at = x.starts in
      let counts : n.count < 256 ^ 8 = ⊎_elim (λ y. omega arith) (λ y. omega arith) x.counted in
      rw (put_start idLength fits s at end n parent ns j h q (omega (arith, x.named, x.stops, x.within)), put_stop idLength fits s at end n parent ns j h q (omega (arith, x.stops, x.within)), put_count idLength fits s at end n parent ns j h q counts)
      (record {
        named = omega (arith, x.named);
        inside = x.stops;
        plain = λ k l e. x.plain k (omega arith) (rw starts at e);
        counted = x.counted;
      })

  -- ---- the root's parent

  abbrev NoParent : ℕ → ℕ → Type 0
  NoParent p j = j ≡ 0 → p ≡ minus_one

  abbrev RootAt : ℕ → List ℕ → Type 0
  RootAt j ns = j ≡ 0 → parent_at ns j ≡ minus_one

  root_local : (j : ℕ) (ns ms : List ℕ) → length ms ≡ length ns → ((m : ℕ) → m < 72 → get_or ms (j * 72 + m) 0 ≡ get_or ns (j * 72 + m) 0) → RootAt j ns → RootAt j ms
  root_local j ns ms e h g z = word_same ns ms j e h 32 (lit≤ tt) ∙ g z

  root_put : (at : ℕ) (n : Node) (parent : ℕ) (ns : List ℕ) (j : ℕ) → head_at idLength s at end ≡ Some n → j < length ns / 72 → length ns < 256 ^ 8 → NoParent parent j → RootAt j (put_at s n parent ns j)
  root_put at n parent ns j q h long l z = let e : parent ≡ minus_one = l z in put_parent idLength fits s at end n parent ns j h q (omega arith) ∙ e

  -- ---- the whole tree

  module _ (limit start : ℕ) (ns : List ℕ) (store : length ns < 256 ^ 8) (n u : ℕ) where
    abbrev walked : Out
    walked = node_at idLength s end limit minus_one start 0 ns

    kept : Kept 0 (0 + 1) ns walked
    kept = node_kept idLength fits s end limit minus_one start 0 ns

    root_stored : walked.0 ≡ Ok (read_up_to n u) → Stored s end u ns walked.1
    root_stored e =
        let long : length walked.1 ≡ length ns = kept.long in
        record {
          some = omega (arith, kept.onward n u e);
          room = rw long (kept.room n u e (omega arith));
          root = node_first idLength fits s end 0 NoParent (λ p j x y z. absurd (omega arith)) RootAt root_local root_put limit minus_one start 0 ns (λ z. refl) store n u e refl;
          parents = λ j h l. (parents_below idLength fits s end limit minus_one start 0 ns store n u e j (omega arith) l).1;
          good = λ j l. good_of j l (lt_or_ge 0 j);
          siblings = λ k l. node_apart idLength fits s end limit minus_one start 0 ns store n u e k (omega arith) l;
          subtrees = λ k l. node_agree idLength fits s end limit minus_one start 0 ns store n u e k (omega arith) l;
          long = long;
          high = λ k l. kept.high n u e k l;
        }
      where
        good_of : (j : ℕ) → j < u → (0 < j) ⊎ (j ≤ 0) → GoodAt s end j walked.1
        good_of j l (inl h) = node_inner idLength fits s end 0 Any (λ p j x y. refl) (GoodAt s end) good_local good_put limit minus_one start 0 ns (omega arith) store n u e j (omega arith) l
        good_of j l (inr h) =
            let z : 0 ≡ j = omega arith in
            subst (λ (i : ℕ). GoodAt s end i walked.1) z (node_first idLength fits s end 0 Any (λ p j x y. refl) (GoodAt s end) good_local good_put limit minus_one start 0 ns refl store n u e)

-- THE THEOREM: what a reading that answers a tree stores
module _ (idLength : ℕ) (fits : idLength ≤ 32) (limit : ℕ) (s : List ℕ) (start end : ℕ) (ns ms : List ℕ) (u : ℕ) (file : length s < 256 ^ 8) (store : length ns < 256 ^ 8) where
  out_stored : (o : Out) → node_at idLength s end limit minus_one start 0 ns ≡ o → wiped (and_then o (alone end)) ≡ (Ok (Some u), ms) → Stored s end u ns ms
  out_stored (Err Unspelled, xs) e q = cc ((pair_same q).0)
  out_stored (Err Deep, xs) e q = cc ((pair_same q).0)
  out_stored (Err Full, xs) e q = cc ((pair_same q).0)
  out_stored (Ok r, xs) e q = by (eqb r.next end) q
    where
      by : (t : Bool) → wiped (pick t (Ok (read_up_to r.next r.used)) (Err Unspelled), xs) ≡ (Ok (Some u), ms) → Stored s end u ns ms
      by true q =
          let same_used : r.used ≡ u = cc ((pair_same q).0) in
          let read : (node_at idLength s end limit minus_one start 0 ns).0 ≡ Ok (read_up_to r.next u) = ap (λ (x : Out). x.0) e ∙ ap (λ (w : ℕ). Ok (read_up_to r.next w)) same_used in
          let held : (node_at idLength s end limit minus_one start 0 ns).1 ≡ ms = ap (λ (x : Out). x.1) e ∙ (pair_same q).1 in
          subst (λ (x : List ℕ). Stored s end u ns x) held (root_stored idLength fits s end file limit start ns store r.next u read)
      by false q = cc ((pair_same q).0)

  pub tree_stored : read_tree idLength limit s start end ns ≡ (Ok (Some u), ms) → Stored s end u ns ms
  unfolding read_tree root_at
  tree_stored = by (ltb end start) (ltb (length s) end)
    where
      by : (t v : Bool) → wiped (pick t (Err Unspelled, ns) (pick v (Err Unspelled, ns) (and_then (node_at idLength s end limit minus_one start 0 ns) (alone end)))) ≡ (Ok (Some u), ms) → Stored s end u ns ms
      by true v q = cc ((pair_same q).0)
      by false true q = cc ((pair_same q).0)
      by false false q = out_stored (node_at idLength s end limit minus_one start 0 ns) refl q
