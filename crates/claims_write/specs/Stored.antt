-- A tree that the reader stored, siblings sorted by name, is a table in file order: the premise of `same_nodes_are_stored` holds of it. So what was read from a sorted tree and is
-- written again is read again as the same nodes. Over the length of an id and the depth. Assumes that 64 bits address each byte of file and store, a premise.
use Rattle.std.specs.Prelude.{ℕ, zero, suc, ◌+◌, ◌*◌, ◌≤◌, ◌<◌, ◌≡◌, refl, true, ◌⊎◌, length, take, drop, Ok, Some}
use Rattle.std.proofs.Common.{sym, ap, ◌∙◌, inl, inr, ⊎_elim, take_at}
use Rattle.std.proofs.Math.Path.{subst}
use mathlib.Core.List.{List, [], ◌∷◌, ◌++◌, append-nil}
use native.Mathlib.Omega.{arith}
use Rattle.laws.specs.Tests.{lt_or_ge}
use Rattle.laws.specs.Order.{Before, transitive, before_below}
use Rattle.format.specs.Format.{id_room}
use Rattle.node.specs.Head.{minus_one}
use Rattle.node.specs.Store.{nodes_in, parent_at, name_at}
use Rattle.tree.specs.Tree.{read_tree}
use Rattle.tree_write.specs.Order.{before, by_index, before_not, before_trans}
use Rattle.tree_write.specs.Tree.{each}
use Rattle.tree_write.specs.Kids.{Mem, here, there, not_mem, Rising, done, more}
use Rattle.grammar.specs.Tree.{Tree, tree, Subtrees, childless, beside, name_of, names, depth, deepest, nodes, nodes_of, Node}
use Rattle.claims_entries.specs.Place.{Lies, lies_from}
use Rattle.claims_entries.specs.Said.{SpaceIn}
use Rattle.claims_entries.specs.Shown.{Addressable}
use Rattle.claims_tree.specs.Rendering.{tree_bytes}
use Rattle.claims_tree.specs.Place.{part}
use Rattle.claims_tree.specs.Claims.{read_is_spelled}
use Rattle.claims_tree.specs.Shown.{ShowsTree, ShowsSubtrees, tree_length, rendered_is_shown}
use Rattle.claims_write.specs.Tree.{kids_of, kids_are, kids_all, kids_rise, RisingNames, no_name, one_name, then_name, Sorted, sorted, AllSorted, both_sorted}
use Rattle.claims_write.specs.Count.{walk}
use Rattle.claims_write.specs.Listed.{count_up, InFileOrder}

-- ---- lists that rise

none_in : {A : Type 0} {x : ℕ} → Mem x [] → A
none_in m = absurd (not_mem m refl)

pub first_or_later : {x y : ℕ} {l : List ℕ} → Mem x (y ∷ l) → (x ≡ y) ⊎ Mem x l
first_or_later here = inl refl
first_or_later (there m) = inr m

module _ (R : ℕ → ℕ → Type 0) (not : (x : ℕ) → R x x → ⊥) (trans : (x y z : ℕ) → R x y → R y z → R x z) where
  -- two rising lists with the same members are one list
  same_rising : {a b : List ℕ} → Rising R a → Rising R b → ((x : ℕ) → Mem x a → Mem x b) → ((x : ℕ) → Mem x b → Mem x a) → a ≡ b
  same_rising done done f g = refl
  same_rising done (more {x = y} k s) f g = none_in (g y here)
  same_rising (more {x = x} h r) done f g = none_in (f x here)
  same_rising (more {x = x} {xs = a} h r) (more {x = y} {xs = b} k s) f g =
      let e : x ≡ y = meet (f x here) (g y here) in
      λ j. e j ∷ same_rising r s (λ z m. later z (h z m) (f z (there m)) e) (λ z m. later z (k z m) (g z (there m)) (sym e)) j
    where
      meet : Mem x (y ∷ b) → Mem y (x ∷ a) → x ≡ y
      meet m n = ⊎_elim (λ e. e) (λ p. ⊎_elim (λ e. sym e) (λ q. absurd (not x (trans x y x (h y q) (k x p)))) (first_or_later n)) (first_or_later m)

      later : {u v : ℕ} {l : List ℕ} (z : ℕ) → R u z → Mem z (v ∷ l) → u ≡ v → Mem z l
      later {u} z q m e = ⊎_elim (λ p. absurd (not z (subst (λ (w : ℕ). R w z) (e ∙ sym p) q))) (λ p. p) (first_or_later m)

up_append : (i a b : ℕ) → count_up i a ++ count_up (i + a) b ≡ count_up i (a + b)
unfolding count_up
up_append i zero b =
    let e : i + 0 ≡ i = omega arith in
    let f : b ≡ 0 + b = omega arith in
    λ j. count_up (e j) (f j)
up_append i (suc a) b =
    let e : i + suc a ≡ i + 1 + a = omega arith in
    let f : suc (a + b) ≡ suc a + b = omega arith in
    ap (λ (l : List ℕ). i ∷ l) (ap (λ (m : ℕ). count_up (i + 1) a ++ count_up m b) e ∙ up_append (i + 1) a b) ∙ ap (count_up i) f

-- ---- where the subtrees of a node stand

unfoldable starts : ℕ → Subtrees → List ℕ
starts i childless = []
starts i (beside t ts) = i ∷ starts (i + nodes t) ts

module _ (ns nm : List ℕ) where
  root_parent : (t : Tree) (p i : ℕ) → ShowsTree nm ns p i t → parent_at ns i ≡ p
  root_parent (tree place name count id ts) p i (own, below) = own.parented

  root_name : (t : Tree) (p i : ℕ) → ShowsTree nm ns p i t → name_at nm ns i ≡ name_of t
  root_name (tree place name count id ts) p i (own, below) = own.named

  mutual
    unfolding starts

    -- below a node every parent is the node or one below it
    tree_within : (t : Tree) (parent i : ℕ) → ShowsTree nm ns parent i t → (j : ℕ) → i < j → j < i + nodes t → (i ≤ parent_at ns j) × (parent_at ns j < i + nodes t)
    tree_within (tree place name count id ts) parent i (own, below) j a b = by (subtrees_within ts i (i + 1) below j (omega arith) (omega arith))
      where
        by : ((parent_at ns j ≡ i) × Mem j (starts (i + 1) ts)) ⊎ ((i + 1 ≤ parent_at ns j) × (parent_at ns j < i + 1 + nodes_of ts)) → (i ≤ parent_at ns j) × (parent_at ns j < i + suc (nodes_of ts))
        by (inl (e, m)) = (omega arith, omega arith)
        by (inr (u, v)) = (omega arith, omega arith)

    subtrees_within : (ts : Subtrees) (p i : ℕ) → ShowsSubtrees nm ns p i ts → (j : ℕ) → i ≤ j → j < i + nodes_of ts
        → ((parent_at ns j ≡ p) × Mem j (starts i ts)) ⊎ ((i ≤ parent_at ns j) × (parent_at ns j < i + nodes_of ts))
    subtrees_within childless p i shows j a b = absurd (omega arith)
    subtrees_within (beside t ts) p i (one, others) j a b =
        ⊎_elim (λ l. ⊎_elim (λ m. let (u, v) = tree_within t p i one j m l in inr (omega arith, omega arith)) (λ m. let e : j ≡ i = omega arith in inl (first e)) (lt_or_ge i j))
        (λ l. later (subtrees_within ts p (i + nodes t) others j l (omega arith))) (lt_or_ge j (i + nodes t))
      where
        first : j ≡ i → (parent_at ns j ≡ p) × Mem j (i ∷ starts (i + nodes t) ts)
        first e = (ap (parent_at ns) e ∙ root_parent t p i one, subst (λ (x : ℕ). Mem x (i ∷ starts (i + nodes t) ts)) (sym e) here)

        later : ((parent_at ns j ≡ p) × Mem j (starts (i + nodes t) ts)) ⊎ ((i + nodes t ≤ parent_at ns j) × (parent_at ns j < i + nodes t + nodes_of ts))
            → ((parent_at ns j ≡ p) × Mem j (i ∷ starts (i + nodes t) ts)) ⊎ ((i ≤ parent_at ns j) × (parent_at ns j < i + (nodes t + nodes_of ts)))
        later (inl (e, m)) = inl (e, there m)
        later (inr (u, v)) = inr (omega arith, omega arith)

  starts_are : (ts : Subtrees) (p i : ℕ) → ShowsSubtrees nm ns p i ts → (j : ℕ) → Mem j (starts i ts) → (i ≤ j) × (j < i + nodes_of ts) × (parent_at ns j ≡ p)
  unfolding starts
  starts_are childless p i shows j m = none_in m
  starts_are (beside t ts) p i (one, others) j here = let k : 0 < nodes t = some t in (omega arith, omega arith, root_parent t p i one)
    where
      some : (t : Tree) → 0 < nodes t
      some (tree place name count id ts) = omega arith
  starts_are (beside t ts) p i (one, others) j (there m) = let (a, b, e) = starts_are ts p (i + nodes t) others j m in (omega arith, omega arith, e)

  -- a name that rises to the first subtree's rises to all
  above : {name : List ℕ} (ts : Subtrees) (p i : ℕ) → RisingNames (name ∷ names ts) → ShowsSubtrees nm ns p i ts → (j : ℕ) → Mem j (starts i ts) → Before name (name_at nm ns j)
  unfolding starts
  above childless p i rise shows j m = none_in m
  above {name} (beside t ts) p i (then_name h rise) (one, others) j here = subst (Before name) (sym (root_name t p i one)) h
  above {name} (beside t ts) p i (then_name h rise) (one, others) j (there m) = transitive h (above ts p (i + nodes t) rise others j m)

  before_of : (i j : ℕ) → Before (name_at nm ns i) (name_at nm ns j) → before ns nm i j ≡ true
  unfolding before by_index
  before_of i j h = rw (before_below h)

  rise_on : {name : List ℕ} {more : List (List ℕ)} → RisingNames (name ∷ more) → RisingNames more
  rise_on one_name = no_name
  rise_on (then_name h rise) = rise

  starts_rise : (ts : Subtrees) (p i : ℕ) → RisingNames (names ts) → ShowsSubtrees nm ns p i ts → Rising (λ x y. before ns nm x y ≡ true) (starts i ts)
  unfolding starts
  starts_rise childless p i rise shows = done
  starts_rise (beside t ts) p i rise (one, others) =
      more (λ y m. before_of i y (subst (λ (x : List ℕ). Before x (name_at nm ns y)) (sym (root_name t p i one)) (above ts p (i + nodes t) rise others y m))) (starts_rise ts p (i + nodes t) (rise_on rise) others)

  -- ---- no node from elsewhere has its parent in a subtree

  record Apart (low high : ℕ) : Type 0 where
    elsewhere : (j : ℕ) → j < nodes_in ns → (j < low) ⊎ (high ≤ j) → (parent_at ns j < low) ⊎ (high ≤ parent_at ns j)

  -- the children of a node are where its subtrees stand
  kids_start : (me : ℕ) (ts : Subtrees) → RisingNames (names ts) → ShowsSubtrees nm ns me (me + 1) ts → me + 1 + nodes_of ts ≤ nodes_in ns
      → ((j : ℕ) → j < nodes_in ns → (j < me + 1) ⊎ (me + 1 + nodes_of ts ≤ j) → parent_at ns j ≡ me → ⊥) → kids_of ns nm me ≡ starts (me + 1) ts
  kids_start me ts rise shows room none =
      same_rising (λ x y. before ns nm x y ≡ true) (before_not ns nm) (before_trans ns nm) (kids_rise ns nm me) (starts_rise ts me (me + 1) rise shows)
      (λ j m. let (a, b, e) = kids_are ns nm me j m in is_start_lem j b e)
      (λ j m. let (a, b, e) = starts_are ts me (me + 1) shows j m in kids_all ns nm me j (omega arith) (omega arith) e)
    where
      is_start_lem : (j : ℕ) → j < nodes_in ns → parent_at ns j ≡ me → Mem j (starts (me + 1) ts)
      is_start_lem j b e =
          ⊎_elim (λ l. absurd (none j b (inl l) e))
          (λ l. ⊎_elim (λ h. ⊎_elim (λ (q, m). m) (λ (u, v). absurd (omega arith)) (subtrees_within ts me (me + 1) shows j l h)) (λ h. absurd (none j b (inr h) e)) (lt_or_ge j (me + 1 + nodes_of ts)))
          (lt_or_ge j (me + 1))

  mutual
    unfolding walk each starts count_up

    walk_tree : (t : Tree) (d parent me : ℕ) → ShowsTree nm ns parent me t → Sorted t → depth t ≤ d → me + nodes t ≤ nodes_in ns → Apart me (me + nodes t) → (parent < me) ⊎ (me + nodes t ≤ parent)
        → walk ns nm d me ≡ count_up me (nodes t)
    walk_tree (tree place name count id ts) zero parent me shows s deep room apart up = absurd (omega arith)
    walk_tree (tree place name count id ts) (suc d) parent me (own, below) (sorted rise all) deep room apart up =
        let kids-are-starts : kids_of ns nm me ≡ starts (me + 1) ts = kids_start me ts rise below (omega arith) strangers in
        let inner : each (walk ns nm d) (starts (me + 1) ts) ≡ count_up (me + 1) (nodes_of ts) = walk_subtrees ts d me (me + 1) below all (omega arith) (omega arith) (omega arith) (record { elsewhere = outside }) in
        ap (λ (l : List ℕ). me ∷ l) (ap (each (walk ns nm d)) kids-are-starts ∙ inner)
      where
        ends : {q : ℕ} → (q < me) ⊎ (me + suc (nodes_of ts) ≤ q) → (q < me) ⊎ (me + 1 + nodes_of ts ≤ q)
        ends (inl l) = inl l
        ends (inr l) = inr (omega arith)

        parent_of : (j : ℕ) → j < nodes_in ns → (j < me + 1) ⊎ (me + 1 + nodes_of ts ≤ j) → (parent_at ns j < me) ⊎ (me + 1 + nodes_of ts ≤ parent_at ns j)
        parent_of j h (inl l) = ⊎_elim (λ m. ends (apart.elsewhere j h (inl m))) (λ m. let e : j ≡ me = omega arith in subst (λ (q : ℕ). (q < me) ⊎ (me + 1 + nodes_of ts ≤ q)) (sym (ap (parent_at ns) e ∙ own.parented)) (ends up)) (lt_or_ge j me)
        parent_of j h (inr l) = ends (apart.elsewhere j h (inr (omega arith)))

        strangers : (j : ℕ) → j < nodes_in ns → (j < me + 1) ⊎ (me + 1 + nodes_of ts ≤ j) → parent_at ns j ≡ me → ⊥
        strangers j h l e = ⊎_elim (λ m. omega arith) (λ m. omega arith) (parent_of j h l)

        outside : (j : ℕ) → j < nodes_in ns → (j < me + 1) ⊎ (me + 1 + nodes_of ts ≤ j) → (parent_at ns j < me + 1) ⊎ (me + 1 + nodes_of ts ≤ parent_at ns j)
        outside j h l = ⊎_elim (λ m. inl (omega arith)) (λ m. inr m) (parent_of j h l)

    walk_subtrees : (ts : Subtrees) (d p i : ℕ) → ShowsSubtrees nm ns p i ts → AllSorted ts → deepest ts ≤ d → i + nodes_of ts ≤ nodes_in ns → p < i → Apart i (i + nodes_of ts)
        → each (walk ns nm d) (starts i ts) ≡ count_up i (nodes_of ts)
    walk_subtrees childless d p i shows s deep room up apart = refl
    walk_subtrees (beside t ts) d p i (one, others) (both_sorted s all) deep room up apart =
        let own : walk ns nm d i ≡ count_up i (nodes t) = walk_tree t d p i one s (omega arith) (omega arith) (record { elsewhere = around }) (inl up) in
        let rest : each (walk ns nm d) (starts (i + nodes t) ts) ≡ count_up (i + nodes t) (nodes_of ts) = walk_subtrees ts d p (i + nodes t) others all (omega arith) (omega arith) (omega arith) (record { elsewhere = behind }) in
        (λ j. own j ++ rest j) ∙ up_append i (nodes t) (nodes_of ts)
      where
        around : (j : ℕ) → j < nodes_in ns → (j < i) ⊎ (i + nodes t ≤ j) → (parent_at ns j < i) ⊎ (i + nodes t ≤ parent_at ns j)
        around j h (inl l) = ⊎_elim (λ m. inl m) (λ m. inr (omega arith)) (apart.elsewhere j h (inl l))
        around j h (inr l) =
            ⊎_elim (λ m. ⊎_elim (λ (e, q). inl (omega arith)) (λ (u, v). inr u) (subtrees_within ts p (i + nodes t) others j l (omega arith)))
            (λ m. ⊎_elim (λ q. inl q) (λ q. inr (omega arith)) (apart.elsewhere j h (inr m))) (lt_or_ge j (i + (nodes t + nodes_of ts)))

        behind : (j : ℕ) → j < nodes_in ns → (j < i + nodes t) ⊎ (i + nodes t + nodes_of ts ≤ j) → (parent_at ns j < i + nodes t) ⊎ (i + nodes t + nodes_of ts ≤ parent_at ns j)
        behind j h (inl l) =
            ⊎_elim (λ m. let (u, v) = tree_within t p i one j m l in inl v)
            (λ m. ⊎_elim (λ q. ⊎_elim (λ k. inl (omega arith)) (λ k. inr (omega arith)) (apart.elsewhere j h (inl q))) (λ q. let e : j ≡ i = omega arith in let w : parent_at ns j ≡ p = ap (parent_at ns) e ∙ root_parent t p i one in inl (omega arith)) (lt_or_ge j i))
            (lt_or_ge i j)
        behind j h (inr l) = ⊎_elim (λ q. inl (omega arith)) (λ q. inr (omega arith)) (apart.elsewhere j h (inr (omega arith)))

-- ---- THE CLAIM

-- a sorted tree that is spelled in the file, as the reader stores it, is a table in file order; its names are the file's
pub sorted_tree_in_file_order : (n : ℕ) → n ≤ id_room → (limit : ℕ) (s : List ℕ) (end : ℕ) → end ≤ length s → Addressable s → (t : Tree) {place : ℕ} {b : List ℕ} → Node n place b t → Lies s place end b
    → Addressable (tree_bytes t) → depth t ≤ limit → Sorted t → InFileOrder limit (tree_bytes t) s
sorted_tree_in_file_order n fits limit s end inside short t x lies small deep sort =
    let shows : ShowsTree s (tree_bytes t) minus_one 0 t = rendered_is_shown n fits s end inside short t x lies small in
    let size : length (tree_bytes t) ≡ nodes t * 72 = tree_length n fits t x minus_one 0 in
    let many : nodes t ≡ nodes_in (tree_bytes t) = omega arith in
    let whole : Apart (tree_bytes t) s 0 (0 + nodes t) = record { elsewhere = λ j h l. ⊎_elim (λ k. absurd (omega arith)) (λ k. absurd (omega arith)) l } in
    walk_tree (tree_bytes t) s t limit minus_one 0 shows sort deep (omega arith) whole (inr (omega arith)) ∙ ap (count_up 0) many

-- so of what the reader leaves in the node store, where siblings stand sorted in the file
module _ (n : ℕ) (fits : n ≤ id_room) (limit : ℕ) (s : List ℕ) (start end : ℕ) (ns : List ℕ) (lies_in : SpaceIn s start end) (short : Addressable s) (small : Addressable ns) where
  pub stored_in_file_order : (k : ℕ) (ms : List ℕ) → read_tree n limit s start end ns ≡ (Ok (Some k), ms) → (t : Tree) × Node n start (part s start end) t × (Sorted t → InFileOrder limit (take (k * 72) ms) s)
  stored_in_file_order k ms q =
      let (t, x, deep, room, e, f) = read_is_spelled n fits limit s start end ns lies_in short small k ms q in
      let size : length (tree_bytes t) ≡ nodes t * 72 = tree_length n fits t x minus_one 0 in
      let used : take (k * 72) ms ≡ tree_bytes t = ap (take (k * 72)) f ∙ take_at (tree_bytes t) (drop (length (tree_bytes t)) ns) (k * 72) (omega arith) in
      let lies : Lies s start end (part s start end) = lies_from s start end (part s start end) [] lies_in.ahead lies_in.inside (sym (append-nil (part s start end))) in
      (t, x, (λ sort. subst (λ (l : List ℕ). InFileOrder limit l s) (sym used) (sorted_tree_in_file_order n fits limit s end lies_in.inside short t x lies (omega arith) deep sort)))
