-- The merge of two lists in a strict order gives one list with the same nodes, in the opposite order; no other parent changes, and no name. Assumes nothing.
use Rattle.std.specs.Prelude.{Bool, ◌≡◌, ◌⊎◌, ltb, eqb, length}
use Rattle.std.proofs.Math.Bool.{true, false}
use Rattle.std.proofs.Math.Path.{refl, subst}
use Rattle.std.proofs.Common.{sym, ◌∙◌, inl, inr, ⊎_elim, pos_of_ne-zero, arith, eqb-true}
use mathlib.Core.List.{List, ◌∷◌}
use Prim.Native.Nat.{ℕ, zero, suc, ◌+◌, ◌<◌}
use Rattle.std.proofs.lemmas.Bool.{eqb-false}
use Rattle.link_sort.specs.declared.Runs.{Runs}
use Rattle.laws.specs.Pick.{pick}
use Rattle.laws.specs.Order.{compared}
use Rattle.access.specs.Order.{order_of}
use Rattle.node.specs.Store.{nodes_in, parent_at, with_parent}
use Rattle.node.specs.Parents.{parent_other, Alike, alike_refl, alike_on, with_alike}
use Rattle.link_sort.specs.Runs.{opposite, foremost, is_before, takes_left, taken, turn_of, merge_run}
use Rattle.link_sort.specs.Order.{Fore, fore_not, fore_on, Tested, first, second, tested}
use Rattle.link_sort.specs.Linked.{Mem, here, there, Rising, more, Chain, mem_long, Spells, spells_on, Opened, opened, other_kept, in_front, rising_first, rising_rest, lead}

-- WHAT A MERGE HOLDS AND WHAT IT GIVES

-- node i is in one of three lists
pub data In (i : ℕ) (xs ys os : List ℕ) : Type 0 where
  in_left : Mem i xs → In i xs ys os
  in_right : Mem i ys → In i xs ys os
  in_out : Mem i os → In i xs ys os

-- node j comes before node i
abbrev pub Aft : (ℕ → List ℕ) → Bool → ℕ → ℕ → Type 0
Aft K up i j = Fore K up j i

-- two lists xs and ys, and the list os of those that were taken, which come before all that are left
pub record Held (file : List ℕ) (K : ℕ → List ℕ) (up : Bool) (s : List ℕ) (r : Runs) (xs ys os : List ℕ) : Type 0 where
  pub spells : Spells file K s
  pub left : Chain s r.x xs
  pub right : Chain s r.y ys
  pub took : Chain s r.out os
  pub many_left : length xs ≡ r.nx
  pub many_right : length ys ≡ r.ny
  pub rise_left : Rising (Fore K up) xs
  pub rise_right : Rising (Fore K up) ys
  pub fall_took : Rising (Aft K up) os
  pub past_left : (o i : ℕ) → Mem o os → Mem i xs → Fore K up o i
  pub past_right : (o i : ℕ) → Mem o os → Mem i ys → Fore K up o i
  pub apart : (i : ℕ) → Mem i xs → Mem i ys → ⊥

-- one list, with where it starts and the store
pub record Merged (K : ℕ → List ℕ) (up : Bool) (s : List ℕ) (xs ys os : List ℕ) (o : ℕ × List ℕ) : Type 0 where
  pub ids : List ℕ
  pub chain : Chain o.1 o.0 ids
  pub falls : Rising (Aft K up) ids
  pub from : (i : ℕ) → Mem i ids → In i xs ys os
  pub into : (i : ℕ) → In i xs ys os → Mem i ids
  pub kept : (i : ℕ) → (Mem i xs → ⊥) → (Mem i ys → ⊥) → parent_at o.1 i ≡ parent_at s i
  pub alike : Alike s o.1
  pub many : length ids ≡ length xs + length ys + length os

-- THE MIRROR

abbrev mirror : Runs → Runs
mirror r = record { x = r.y; nx = r.ny; y = r.x; ny = r.nx; out = r.out }

in_mirror : {i : ℕ} {xs ys os : List ℕ} → In i xs ys os → In i ys xs os
in_mirror (in_left m) = in_right m
in_mirror (in_right m) = in_left m
in_mirror (in_out m) = in_out m

-- a node that is taken
in_back : {i x : ℕ} {xs ys os : List ℕ} → In i xs ys (x ∷ os) → In i (x ∷ xs) ys os
in_back (in_left m) = in_left (there m)
in_back (in_right m) = in_right m
in_back (in_out here) = in_left here
in_back (in_out (there m)) = in_out m

in_on : {i x : ℕ} {xs ys os : List ℕ} → In i (x ∷ xs) ys os → In i xs ys (x ∷ os)
in_on (in_left here) = in_out here
in_on (in_left (there m)) = in_left m
in_on (in_right m) = in_right m
in_on (in_out m) = in_out (there m)

module _ (file : List ℕ) (K : ℕ → List ℕ) (up : Bool) where
  held_mirror : {s : List ℕ} {r : Runs} {xs ys os : List ℕ} → Held file K up s r xs ys os → Held file K up s (mirror r) ys xs os
  held_mirror h = record {
    spells = h.spells;
    left = h.right;
    right = h.left;
    took = h.took;
    many_left = h.many_right;
    many_right = h.many_left;
    rise_left = h.rise_right;
    rise_right = h.rise_left;
    fall_took = h.fall_took;
    past_left = h.past_right;
    past_right = h.past_left;
    apart = λ i a b. h.apart i b a;
  }

  merged_mirror : {s xs ys os : List ℕ} {o : ℕ × List ℕ} → Merged K up s ys xs os o → Merged K up s xs ys os o
  merged_mirror g = record {
    ids = g.ids;
    chain = g.chain;
    falls = g.falls;
    from = λ i m. in_mirror (g.from i m);
    into = λ i m. g.into i (in_mirror m);
    kept = λ i a b. g.kept i b a;
    alike = g.alike;
    many = let e = g.many in omega arith;
  }

  -- ONE NODE IS TAKEN

  module _ (s : List ℕ) (r : Runs) (xs ys os : List ℕ) (h : Held file K up s r (r.x ∷ xs) ys os) (inside : r.x < nodes_in s) (goes : Chain s (parent_at s r.x) xs)
      (ahead : (i : ℕ) → Mem i ys → Fore K up r.x i) where
    not_left : Mem r.x xs → ⊥
    not_left m = fore_not K up r.x (rising_first h.rise_left r.x m)

    not_right : Mem r.x ys → ⊥
    not_right m = h.apart r.x here m

    not_took : Mem r.x os → ⊥
    not_took m = fore_not K up r.x (h.past_left r.x r.x m here)

    take_left : Held file K up (taken s r true).1 (taken s r true).0 xs ys (r.x ∷ os)
    take_left = record {
      spells = spells_on (with_alike s r.x r.out) h.spells;
      left = other_kept r.x r.out not_left goes;
      right = other_kept r.x r.out not_right h.right;
      took = in_front r.x r.out h.spells.sized inside not_took h.took;
      many_left = let e = h.many_left in omega arith;
      many_right = h.many_right;
      rise_left = rising_rest h.rise_left;
      rise_right = h.rise_right;
      fall_took = more (λ o m. h.past_left o r.x m here) h.fall_took;
      past_left = past_l;
      past_right = past_r;
      apart = λ i a b. h.apart i (there a) b;
    }
      where
        past_l : (o i : ℕ) → Mem o (r.x ∷ os) → Mem i xs → Fore K up o i
        past_l o i here n = rising_first h.rise_left i n
        past_l o i (there m) n = h.past_left o i m (there n)

        past_r : (o i : ℕ) → Mem o (r.x ∷ os) → Mem i ys → Fore K up o i
        past_r o i here n = ahead i n
        past_r o i (there m) n = h.past_right o i m n

  -- what a merge gives from there on, it gives from here on
  merged_left : (s : List ℕ) (x o : ℕ) (xs ys os : List ℕ) (w : ℕ × List ℕ) → Merged K up (with_parent s x o) xs ys (x ∷ os) w → Merged K up s (x ∷ xs) ys os w
  merged_left s x o xs ys os w g = record {
    ids = g.ids;
    chain = g.chain;
    falls = g.falls;
    from = λ i m. in_back (g.from i m);
    into = λ i m. g.into i (in_on m);
    kept = λ i a b. g.kept i (λ m. a (there m)) b ∙ parent_other s x o i (λ e. a (subst (λ (z : ℕ). Mem z (x ∷ xs)) (sym e) here));
    alike = alike_on (with_alike s x o) g.alike;
    many = let e = g.many in omega arith;
  }

  -- THE CHOICE

  -- why a side is taken
  data Sided (r : Runs) : Bool → Type 0 where
    by_left : 0 < r.nx → (r.ny ≡ 0) ⊎ Fore K up r.x r.y → Sided r true
    by_right : 0 < r.ny → (r.nx ≡ 0) ⊎ Fore K up r.y r.x → Sided r false

  sided : {s : List ℕ} {r : Runs} {xs ys os : List ℕ} → Held file K up s r xs ys os → 0 < r.nx + r.ny → Sided r (takes_left file up s r)
  unfolding takes_left is_before
  sided {s} {r} {xs} {ys} h p = by (eqb r.nx 0) (eqb r.ny 0) refl refl
    where
      -- the first nodes of two lists
      other : 0 < r.nx → 0 < r.ny → r.x ≡ r.y → ⊥
      other p q e =
          let a : Opened s r.x xs = opened h.left (omega (arith, h.many_left)) in
          let b : Opened s r.y ys = opened h.right (omega (arith, h.many_right)) in
          let mb : Mem r.y ys = subst (Mem r.y) (sym b.is) here in
          h.apart r.x (subst (Mem r.x) (sym a.is) here) (subst (λ (i : ℕ). Mem i ys) (sym e) mb)

      both : 0 < r.nx → 0 < r.ny → (v : Bool) → v ≡ up → (t : Bool) → Tested (K r.x) r.x (K r.y) r.y t → Sided r (pick v t (opposite t))
      both p q true e true (first l) = by_left p (inr (subst (λ (u : Bool). Fore K u r.x r.y) e l))
      both p q true e false (second l) = by_right q (inr (subst (λ (u : Bool). Fore K u r.y r.x) e l))
      both p q false e true (first l) = by_right q (inr (subst (λ (u : Bool). Fore K u r.y r.x) e l))
      both p q false e false (second l) = by_left p (inr (subst (λ (u : Bool). Fore K u r.x r.y) e l))

      by : (t u : Bool) → eqb r.nx 0 ≡ t → eqb r.ny 0 ≡ u
          → Sided r (pick t false (pick u true (pick up (is_before file s r.x r.y) (opposite (is_before file s r.x r.y)))))
      by true u e f = let z : r.nx ≡ 0 = eqb-true r.nx 0 e in by_right (omega arith) (inl z)
      by false true e f = by_left (pos_of_ne-zero (eqb-false r.nx 0 e)) (inl (eqb-true r.ny 0 f))
      by false false e f =
          let a : 0 < r.nx = pos_of_ne-zero (eqb-false r.nx 0 e) in
          let b : 0 < r.ny = pos_of_ne-zero (eqb-false r.ny 0 f) in
          rw (h.spells.names r.x, h.spells.names r.y) (both a b up refl (foremost (order_of (compared (K r.x) (K r.y))) (ltb r.x r.y)) (tested (K r.x) r.x (K r.y) r.y (other a b)))

  -- THE MERGE

  -- the node that is taken comes before all of the other list
  ahead_of : {s : List ℕ} {r : Runs} {xs ys os : List ℕ} → Held file K up s r xs ys os → (r.ny ≡ 0) ⊎ Fore K up r.x r.y → (i : ℕ) → Mem i ys → Fore K up r.x i
  ahead_of {r = r} h (inl e) i m = absurd (omega (arith, mem_long m, h.many_right))
  ahead_of {r = r} h (inr a) i m =
      ⊎_elim (λ e. subst (λ (z : ℕ). Fore K up r.x z) (sym e) a) (λ b. fore_on K up r.x r.y i a b) (lead h.right h.rise_right i m)

  go_left : (s : List ℕ) (r : Runs) (xs ys os : List ℕ) → Held file K up s r xs ys os → 0 < r.nx → (r.ny ≡ 0) ⊎ Fore K up r.x r.y → (w : ℕ × List ℕ)
      → ((zs : List ℕ) → Held file K up (taken s r true).1 (taken s r true).0 zs ys (r.x ∷ os) → Merged K up (taken s r true).1 zs ys (r.x ∷ os) w)
      → Merged K up s xs ys os w
  go_left s r xs ys os h p q w k =
      let o : Opened s r.x xs = opened h.left (omega (arith, h.many_left)) in
      let h₁ : Held file K up s r (r.x ∷ o.rest) ys os = subst (λ (l : List ℕ). Held file K up s r l ys os) o.is h in
      let g = merged_left s r.x r.out o.rest ys os w (k o.rest (take_left s r o.rest ys os h₁ o.inside o.goes (ahead_of h q))) in
      subst (λ (l : List ℕ). Merged K up s l ys os w) (sym o.is) g

  pub merge_good : (n : ℕ) (s : List ℕ) (r : Runs) (xs ys os : List ℕ) → Held file K up s r xs ys os → r.nx + r.ny ≡ n → Merged K up s xs ys os (merge_run file up n s r)
  unfolding merge_run turn_of
  merge_good zero s r xs ys os h e = record {
    ids = os;
    chain = h.took;
    falls = h.fall_took;
    from = λ i m. in_out m;
    into = into_out;
    kept = λ i a b. refl;
    alike = alike_refl s;
    many = omega (arith, h.many_left, h.many_right);
  }
    where
      into_out : (i : ℕ) → In i xs ys os → Mem i os
      into_out i (in_left m) = absurd (omega (arith, mem_long m, h.many_left))
      into_out i (in_right m) = absurd (omega (arith, mem_long m, h.many_right))
      into_out i (in_out m) = m
  merge_good (suc n) s r xs ys os h e =
      by (takes_left file up s r) (sided h (omega arith)) (λ t q ls bs cs g f. merge_good n t q ls bs cs g f)
    where
      by : (d : Bool) → Sided r d
          → ((t : List ℕ) (q : Runs) (ls bs cs : List ℕ) → Held file K up t q ls bs cs → q.nx + q.ny ≡ n → Merged K up t ls bs cs (merge_run file up n t q))
          → Merged K up s xs ys os (merge_run file up n (taken s r d).1 (taken s r d).0)
      by true (by_left p q) k = go_left s r xs ys os h p q (merge_run file up n (taken s r true).1 (taken s r true).0) (λ zs g. k _ _ zs ys (r.x ∷ os) g (omega arith))
      by false (by_right p q) k =
          merged_mirror (go_left s (mirror r) ys xs os (held_mirror h) p q (merge_run file up n (taken s r false).1 (taken s r false).0)
          (λ zs g. merged_mirror (k _ _ xs zs (r.y ∷ os) (held_mirror g) (omega arith))))
