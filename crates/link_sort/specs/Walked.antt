-- The walk along a list in order: each node has `me` for its parent again, no other parent changes, and two nodes with one name are seen side by side. Assumes
-- nothing.
use Rattle.std.specs.Prelude.{Bool, false, ◌≡◌, ltb}
use Rattle.std.proofs.Math.Bool.{true}
use Rattle.std.proofs.Math.Path.{refl, ap, subst}
use Rattle.std.proofs.Common.{sym, ◌∙◌, inl, inr, ⊎_elim}
use mathlib.Core.List.{List, [], ◌∷◌}
use Prim.Native.Nat.{ℕ, zero, suc, ◌^◌, ◌≤◌, ◌<◌}
use native.Mathlib.Omega.{arith}
use Rattle.std.proofs.Math.ListN.{length}
use Rattle.laws.specs.Pick.{pick}
use Rattle.link_sort.specs.declared.Walk.{Walk}
use Rattle.laws.specs.Tests.{Less, less, not_less, less?}
use Rattle.laws.specs.Order.{Before, irreflexive, transitive, compared, Comparison, Compares, is_below_lem, is_equal_lem, is_beyond, compares}
use Rattle.access.specs.Order.{order_of}
use Rattle.node.specs.Store.{nodes_in, parent_at, with_parent}
use Rattle.node.specs.Parents.{parent_same, parent_other, Alike, alike_refl, alike_on, with_alike}
use Rattle.link_sort.specs.Runs.{unless_equal, still_of, step_of, walk_run}
use Rattle.link_sort.specs.Order.{Fore, fore_not}
use Rattle.link_sort.specs.Linked.{Mem, here, there, Rising, done, more, Chain, no_mem, mem_long, Spells, spells_on, Opened, opened, other_kept, rising_first, rising_rest, lead}

-- two nodes of a list with one name
pub record Twins (K : ℕ → List ℕ) (ids : List ℕ) : Type 0 where
  pub one : ℕ
  pub two : ℕ
  pub one_is : Mem one ids
  pub two_is : Mem two ids
  pub apart : one ≡ two → ⊥
  pub same : K one ≡ K two

abbrev pub NameBefore : (ℕ → List ℕ) → ℕ → ℕ → Type 0
NameBefore K i j = Before (K i) (K j)

-- what the walk says: what was said before it, and the names rise; or no, and there are twins
pub data Verdict (K : ℕ → List ℕ) (ids : List ℕ) (was r : Bool) : Type 0 where
  as_was : r ≡ was → Rising (NameBefore K) ids → Verdict K ids was r
  twins : r ≡ false → Twins K ids → Verdict K ids was r

pub record Released (K : ℕ → List ℕ) (me : ℕ) (s ids : List ℕ) (was : Bool) (o : Bool × List ℕ) : Type 0 where
  pub back : (i : ℕ) → Mem i ids → parent_at o.1 i ≡ me
  pub kept : (i : ℕ) → (Mem i ids → ⊥) → parent_at o.1 i ≡ parent_at s i
  pub alike : Alike s o.1
  pub verdict : Verdict K ids was o.0

module _ (K : ℕ → List ℕ) where
  twins_there : {x : ℕ} {l : List ℕ} → Twins K l → Twins K (x ∷ l)
  twins_there t = record { one = t.one; two = t.two; one_is = there t.one_is; two_is = there t.two_is; apart = t.apart; same = t.same }

  -- by name, where the names differ
  fore_before : (i j : ℕ) → Fore K true i j → (K i ≡ K j → ⊥) → Before (K i) (K j)
  fore_before i j (inl h) n = h
  fore_before i j (inr h) n = absurd (n h.0)

  -- what is said with node x, whose next is y, in front of n others
  abbrev said : Bool → ℕ → ℕ → ℕ → Bool
  said was n x y = pick (ltb (suc n) 2) was (unless_equal (order_of (compared (K x) (K y))) was)

  -- one node in front
  module _ (s : List ℕ) (x y : ℕ) (l : List ℕ) (was r : Bool) (n : ℕ) (c : Chain s y l) (rise : Rising (Fore K true) (x ∷ l)) (many : length l ≡ n) where
    alone : n ≤ 0 → Verdict K l was r → Verdict K (x ∷ l) was r
    alone h (as_was e q) = as_was e (more {x = x} {xs = l} (λ z m. absurd (omega (arith, mem_long m))) q)
    alone h (twins e t) = twins e (twins_there t)

    next : 0 < n → {o : Comparison} → Compares (K x) (K y) o → Verdict K l (unless_equal (order_of o) was) r → Verdict K (x ∷ l) was r
    next h v w = by v w
      where
        mem_y : Mem y l
        mem_y = let o : Opened s y l = opened c (omega arith) in subst (Mem y) (sym o.is) here

        unequal : (K x ≡ K y → ⊥) → Verdict K l was r → Verdict K (x ∷ l) was r
        unequal n (as_was q k) =
            let less : Before (K x) (K y) = fore_before x y (rising_first rise y mem_y) n in
            as_was q (more {x = x} {xs = l} (λ z m. ⊎_elim (λ f. subst (λ (i : ℕ). Before (K x) (K i)) (sym f) less) (λ f. transitive less f) (lead c k z m)) k)
        unequal n (twins q t) = twins q (twins_there t)

        never : Verdict K l false r → r ≡ false
        never (as_was q k) = q
        never (twins q k) = q

        by : {o : Comparison} → Compares (K x) (K y) o → Verdict K l (unless_equal (order_of o) was) r → Verdict K (x ∷ l) was r
        by (is_below_lem b) w = unequal (λ e. irreflexive (subst (λ (a : List ℕ). Before a (K y)) e b)) w
        by (is_equal_lem e) w = twins (never w) (record {
          one = x;
          two = y;
          one_is = here;
          two_is = there mem_y;
          apart = λ z. fore_not K true x (subst (λ (i : ℕ). Fore K true x i) (sym z) (rising_first rise y mem_y));
          same = e;
        })
        by (is_beyond b) w = unequal (λ e. irreflexive (subst (λ (a : List ℕ). Before (K y) a) e b)) w

    one_more_lem : Verdict K l (said was n x y) r → Verdict K (x ∷ l) was r
    one_more_lem v = by (less? (suc n) 2) v
      where
        by : {t : Bool} → Less (suc n) 2 t → Verdict K l (pick t was (unless_equal (order_of (compared (K x) (K y))) was)) r → Verdict K (x ∷ l) was r
        by (less h) w = alone (omega arith) w
        by (not_less h) w = next (omega arith) (compares (K x) (K y)) w

  module _ (file : List ℕ) (me : ℕ) (small : me < 256 ^ 8) where
    still_is : (s : List ℕ) (x n : ℕ) (was : Bool) → Spells file K s → still_of file s was (suc n) x (parent_at s x) ≡ said was n x (parent_at s x)
    unfolding still_of
    still_is s x n was k = rw (k.names x, k.names (parent_at s x))

    -- a node and then the rest
    released_one : (s : List ℕ) (x n : ℕ) (l : List ℕ) (was : Bool) (o : Bool × List ℕ) → Spells file K s → x < nodes_in s → Chain s (parent_at s x) l → Rising (Fore K true) (x ∷ l) → length l ≡ n
        → Released K me (with_parent s x me) l (still_of file s was (suc n) x (parent_at s x)) o → Released K me s (x ∷ l) was o
    released_one s x n l was o k h c rise many g = record {
      back = back;
      kept = λ i m. g.kept i (λ a. m (there a)) ∙ parent_other s x me i (λ e. m (subst (λ (z : ℕ). Mem z (x ∷ l)) (sym e) here));
      alike = alike_on (with_alike s x me) g.alike;
      verdict = one_more_lem s x (parent_at s x) l was o.0 n c rise many (subst (λ (t : Bool). Verdict K l t o.0) (still_is s x n was k) g.verdict);
    }
      where
        back : (i : ℕ) → Mem i (x ∷ l) → parent_at o.1 i ≡ me
        back i here = g.kept x (λ m. fore_not K true x (rising_first rise x m)) ∙ parent_same s x me h small
        back i (there m) = g.back i m

    pub walk_good : (n : ℕ) (s : List ℕ) (w : Walk) (ids : List ℕ) → Spells file K s → Chain s w.x ids → Rising (Fore K true) ids → length ids ≡ n → Released K me s ids w.differ (walk_run file me n s w)
    unfolding walk_run step_of
    walk_good zero s w [] k c r e = record { back = λ i m. absurd (no_mem m); kept = λ i m. refl; alike = alike_refl s; verdict = as_was refl done }
    walk_good zero s w (x ∷ l) k c r e = absurd (omega arith)
    walk_good (suc n) s w ids k c r e =
        let o : Opened s w.x ids = opened c (omega arith) in
        let r₁ : Rising (Fore K true) (w.x ∷ o.rest) = subst (Rising (Fore K true)) o.is r in
        let m : length o.rest ≡ n = let q : length ids ≡ suc (length o.rest) = ap length o.is in omega arith in
        let out : Mem w.x o.rest → ⊥ = λ a. fore_not K true w.x (rising_first r₁ w.x a) in
        let ih = walk_good n (step_of file me (suc n) s w).1 (step_of file me (suc n) s w).0 o.rest (spells_on (with_alike s w.x me) k) (other_kept w.x me out o.goes) (rising_rest r₁) m in
        subst (λ (l : List ℕ). Released K me s l w.differ (walk_run file me (suc n) s w)) (sym o.is) (released_one s w.x n o.rest w.differ (walk_run file me (suc n) s w) k o.inside o.goes r₁ m ih)
