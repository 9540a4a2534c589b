-- Children in strict order have distinct names, and a child that stands behind the last keeps them so. Once over any strict order. Assumes nothing.
use Rattle.std.specs.Prelude.{◌≡◌, Bool, List, ◌⊎◌, ℕ, zero, suc, ◌+◌, ◌-◌, ◌≤◌, ◌<◌, length, ltb}
use Rattle.std.proofs.Math.Path.{refl, sym}
use Rattle.std.proofs.Common.{subst, ◌∙◌, ⊎_elim, arith, ltb-true, ltb-false, eqb-true, eq-eqb}
use Rattle.std.proofs.Math.Bool.{true, false}
use Rattle.std.proofs.Math.Logic.{inl, inr}
use Rattle.std.proofs.Math.Dec.{eqb}
use Rattle.laws.specs.Pick.{pick}
use Rattle.laws.specs.Tests.{tri, lt_or_ge}
use Rattle.laws.specs.Order.{Before, irreflexive, transitive, Comparison, below, equal, beyond, compared, below_before}
use Rattle.slices.specs.Bytes.{same_bytes}
use Rattle.slices.specs.Laws.{same_equal, same_refl}
use Rattle.node.specs.Store.{parent_at, name_at}
use Rattle.siblings.specs.declared.Rising.{Rising}
use Rattle.siblings.specs.Siblings.{any_in, some, is_child, twin, repeats, siblings_differ}
use Rattle.siblings.specs.Rising.{is_below, before, git_before, and, risen}

-- ---- what the search says

pub any_false : (p : ℕ → Bool) (f i : ℕ) → ((k : ℕ) → i ≤ k → k < i + f → p k ≡ false) → any_in p f i ≡ false
unfolding any_in
any_false p zero i h = refl
any_false p (suc f) i h = rw (h i (omega arith) (omega arith)) (any_false p f (i + 1) (λ k l m. h k (omega arith) (omega arith)))

-- no two of the children from `first` on and before `used` have the same name
abbrev pub Distinct : List ℕ → List ℕ → ℕ → ℕ → ℕ → Type 0
Distinct names ns parent first used =
    (i j : ℕ) → first ≤ j → j < i → i < used → parent_at ns i ≡ parent → parent_at ns j ≡ parent → name_at names ns i ≡ name_at names ns j → ⊥

-- what is not true is false
is_false : (t : Bool) → (t ≡ true → ⊥) → t ≡ false
is_false true h = absurd (h refl)
is_false false h = refl

pick_true : (a b : Bool) → pick a b false ≡ true → (a ≡ true) × (b ≡ true)
pick_true true b h = (refl, h)
pick_true false b h = cc

module _ (names ns : List ℕ) (parent first used : ℕ) (d : Distinct names ns parent first used) where
  no_twin : (i j : ℕ) → first ≤ j → j < i → i < used → parent_at ns i ≡ parent → twin names ns parent i j ≡ false
  unfolding twin
  no_twin i j h k l p = is_false (pick (is_child ns parent j) (same_bytes (name_at names ns i) (name_at names ns j)) false)
      (λ q. let both = pick_true (is_child ns parent j) (same_bytes (name_at names ns i) (name_at names ns j)) q in
      d i j h k l p (eqb-true (parent_at ns j) parent both.0) (same_equal (name_at names ns i) (name_at names ns j) both.1))

  no_repeat : (i : ℕ) → first ≤ i → i < used → repeats names ns parent first i ≡ false
  unfolding repeats
  no_repeat i h k = by (is_child ns parent i) refl
    where
      by : (t : Bool) → is_child ns parent i ≡ t → pick t (some (twin names ns parent i) first i) false ≡ false
      by true e = any_false (twin names ns parent i) (i - first) first (λ j l m. no_twin i j l (omega arith) k (eqb-true (parent_at ns i) parent e))
      by false e = refl

  pub distinct_differ : true ≡ siblings_differ names ns parent first used
  unfolding siblings_differ
  distinct_differ = sym (rw (any_false (repeats names ns parent first) (used - first) first (λ i h k. no_repeat i h (omega arith))))

-- ---- the search finds what is there

pub any_true : (p : ℕ → Bool) (f i k : ℕ) → i ≤ k → k < i + f → p k ≡ true → any_in p f i ≡ true
unfolding any_in
any_true p zero i k h l e = absurd (omega arith)
any_true p (suc f) i k h l e = ⊎_elim (λ m. by (p i) (any_true p f (i + 1) k (omega arith) (omega arith) e)) (λ m. let z : k ≡ i = omega arith in rw (← z, e)) (lt_or_ge i k)
  where
    by : (t : Bool) → any_in p f (i + 1) ≡ true → pick t true (any_in p f (i + 1)) ≡ true
    by true q = refl
    by false q = q

twin_is : (names ns : List ℕ) (parent i j : ℕ) → parent_at ns j ≡ parent → name_at names ns i ≡ name_at names ns j → twin names ns parent i j ≡ true
unfolding twin
twin_is names ns parent i j q e = rw (eq-eqb (parent_at ns j) parent q, e) (same_refl (name_at names ns j))

pub repeats_is : (names ns : List ℕ) (parent first i j : ℕ) → parent_at ns i ≡ parent → first ≤ j → j < i → twin names ns parent i j ≡ true → repeats names ns parent first i ≡ true
unfolding repeats
repeats_is names ns parent first i j p h k t = rw (eq-eqb (parent_at ns i) parent p) (any_true (twin names ns parent i) (i - first) first j h (omega arith) t)

-- where the answer is yes, the names are distinct
pub differ_distinct : (names ns : List ℕ) (parent first used : ℕ) → siblings_differ names ns parent first used ≡ true → Distinct names ns parent first used
unfolding siblings_differ
differ_distinct names ns parent first used d i j h k l p q e =
    let t : twin names ns parent i j ≡ true = twins in
    let r : repeats names ns parent first i ≡ true = repeated t in
    let s : any_in (repeats names ns parent first) (used - first) first ≡ true = any_true (repeats names ns parent first) (used - first) first i (omega arith) (omega arith) r in
    let never : pick (any_in (repeats names ns parent first) (used - first) first) false true ≡ false = rw s in
    let z : ◌≡◌ {A = ℕ} 0 1 = cc in
    omega arith
  where
    twins : twin names ns parent i j ≡ true
    twins = twin_is names ns parent i j q e

    repeated : twin names ns parent i j ≡ true → repeats names ns parent first i ≡ true
    repeated t = repeats_is names ns parent first i j p h k t

-- ---- children in strict order

-- git's own order
abbrev pub GitBefore : List ℕ → List ℕ → Type 0
GitBefore a b = (length a < length b) ⊎ ((length a ≡ length b) × Before a b)

pub git_irreflexive : (a : List ℕ) → GitBefore a a → ⊥
git_irreflexive a h = ⊎_elim (λ l. omega arith) (λ l. irreflexive l.1) h

pub git_transitive : (a b c : List ℕ) → GitBefore a b → GitBefore b c → GitBefore a c
git_transitive a b c h k =
    ⊎_elim
    (λ l. inl (⊎_elim (λ m. omega arith) (λ m. omega (arith, m.0)) k))
    (λ l. ⊎_elim (λ m. inl (omega (arith, l.0))) (λ m. inr (l.0 ∙ m.0, transitive l.1 m.1)) k)
    h

-- the children of `parent` from `first` on and before `used` are in order, and `last` is the last of them
pub record Ordered (R : List ℕ → List ℕ → Type 0) (names ns : List ℕ) (parent first used last : ℕ) : Type 0 where
  pub rising : (i j : ℕ) → first ≤ j → j < i → i < used → parent_at ns i ≡ parent → parent_at ns j ≡ parent → R (name_at names ns j) (name_at names ns i)
  pub top : (j : ℕ) → first ≤ j → j < used → parent_at ns j ≡ parent → (j ≡ last) ⊎ ((j < last) × R (name_at names ns j) (name_at names ns last))

pub ordered_distinct : (R : List ℕ → List ℕ → Type 0) → ((a : List ℕ) → R a a → ⊥) → (names ns : List ℕ) (parent first used last : ℕ) → Ordered R names ns parent first used last → Distinct names ns parent first used
ordered_distinct R irr names ns parent first used last o i j h k l p q e = irr (name_at names ns j) (subst (λ (x : List ℕ). R (name_at names ns j) x) e (o.rising i j h k l p q))

-- one child more, number `used`: the store keeps the nodes before it, and the nodes behind it, up to u, are children of others
pub record Grows (names ns ms : List ℕ) (me used u : ℕ) : Type 0 where
  pub onward : used < u
  pub parents : (j : ℕ) → j < used → parent_at ms j ≡ parent_at ns j
  pub spelled : (j : ℕ) → j < used → name_at names ms j ≡ name_at names ns j
  pub others : (j : ℕ) → used < j → j < u → parent_at ms j ≡ me → ⊥

module _ (R : List ℕ → List ℕ → Type 0) (trans : (a b c : List ℕ) → R a b → R b c → R a c) (names ns ms : List ℕ) (me used u last : ℕ) (g : Grows names ns ms me used u)
    (behind : (last ≡ me) ⊎ R (name_at names ms last) (name_at names ms used)) (ls : last < used) (old : Ordered R names ns me (me + 1) used last) where
  before_new : (j : ℕ) → me + 1 ≤ j → j < used → parent_at ms j ≡ me → R (name_at names ms j) (name_at names ms used)
  before_new j h k p = by (old.top j h k (sym (g.parents j k) ∙ p)) behind
    where
      moved : R (name_at names ns j) (name_at names ns last) → R (name_at names ms j) (name_at names ms last)
      moved r = rw (g.spelled j k, g.spelled last ls) r

      by : (j ≡ last) ⊎ ((j < last) × R (name_at names ns j) (name_at names ns last)) → (last ≡ me) ⊎ R (name_at names ms last) (name_at names ms used) → R (name_at names ms j) (name_at names ms used)
      by (inl e) (inl z) = absurd (omega arith)
      by (inl e) (inr r) = subst (λ (x : ℕ). R (name_at names ms x) (name_at names ms used)) (sym e) r
      by (inr l) (inl z) = absurd (omega (arith, l.0))
      by (inr l) (inr r) = trans (name_at names ms j) (name_at names ms last) (name_at names ms used) (moved l.1) r

  pub ordered_more : Ordered R names ms me (me + 1) u used
  ordered_more = record { rising = rises; top = tops }
    where
      rises : (i j : ℕ) → me + 1 ≤ j → j < i → i < u → parent_at ms i ≡ me → parent_at ms j ≡ me → R (name_at names ms j) (name_at names ms i)
      rises i j h k l p q = by (tri i used)
        where
          earlier : i < used → R (name_at names ms j) (name_at names ms i)
          earlier m =
              let o : R (name_at names ns j) (name_at names ns i) = old.rising i j h k m (sym (g.parents i m) ∙ p) (sym (g.parents j (omega arith)) ∙ q) in
              rw (g.spelled i m, g.spelled j (omega arith)) o

          by : (i < used) ⊎ ((i ≡ used) ⊎ (used < i)) → R (name_at names ms j) (name_at names ms i)
          by (inl m) = earlier m
          by (inr (inl m)) = subst (λ (x : ℕ). R (name_at names ms j) (name_at names ms x)) (sym m) (before_new j h (omega arith) q)
          by (inr (inr m)) = absurd (g.others i m l p)

      tops : (j : ℕ) → me + 1 ≤ j → j < u → parent_at ms j ≡ me → (j ≡ used) ⊎ ((j < used) × R (name_at names ms j) (name_at names ms used))
      tops j h k p = by (tri j used)
        where
          by : (j < used) ⊎ ((j ≡ used) ⊎ (used < j)) → (j ≡ used) ⊎ ((j < used) × R (name_at names ms j) (name_at names ms used))
          by (inl m) = inr (m, before_new j h m p)
          by (inr (inl m)) = inl m
          by (inr (inr m)) = absurd (g.others j m k p)

-- ---- what the two marks say

pub record SoFar (names ns : List ℕ) (me used : ℕ) (so : Rising) : Type 0 where
  pub onward : me < used
  pub last : so.last < used
  pub bytes : so.bytes ≡ true → Ordered Before names ns me (me + 1) used so.last
  pub git : so.git ≡ true → Ordered GitBefore names ns me (me + 1) used so.last

no_child : (R : List ℕ → List ℕ → Type 0) (names ns : List ℕ) (me : ℕ) → Ordered R names ns me (me + 1) (me + 1) me
no_child R names ns me = record { rising = λ i j h k l p q. absurd (omega arith); top = λ j h k p. absurd (omega arith) }

pub so_far_start : (names ns : List ℕ) (me : ℕ) → SoFar names ns me (me + 1) (record { last = me; bytes = true; git = true })
so_far_start names ns me = record { onward = omega arith; last = omega arith; bytes = λ e. no_child Before names ns me; git = λ e. no_child GitBefore names ns me }

before_true : (a b : List ℕ) → before a b ≡ true → Before a b
unfolding before
before_true a b e = below_before a b (by (compared a b) e)
  where
    by : (c : Comparison) → is_below c ≡ true → c ≡ below
    by below e = refl
    by equal e = cc
    by beyond e = cc

git_true : (a b : List ℕ) → git_before (length a) (length b) (before a b) ≡ true → GitBefore a b
unfolding git_before
git_true a b e = by (ltb (length a) (length b)) (ltb (length b) (length a)) refl refl e
  where
    by : (t v : Bool) → ltb (length a) (length b) ≡ t → ltb (length b) (length a) ≡ v → pick t true (pick v false (before a b)) ≡ true → GitBefore a b
    by true v p q h = inl (ltb-true (length a) (length b) p)
    by false true p q h = cc
    by false false p q h = let l = ltb-false (length a) (length b) p in let m = ltb-false (length b) (length a) q in inr (omega (arith, l, m), before_true a b h)

module _ (names ms : List ℕ) (me : ℕ) (so : Rising) (child : ℕ) where
  abbrev last_name : List ℕ
  last_name = name_at names ms so.last

  abbrev new_name : List ℕ
  new_name = name_at names ms child

  abbrev same_marks : Rising
  same_marks = record { last = child; bytes = so.bytes; git = so.git }

  abbrev new_marks : Rising
  new_marks = record { last = child; bytes = and so.bytes (before last_name new_name); git = and so.git (git_before (length last_name) (length new_name) (before last_name new_name)) }

  pub risen_last : (risen names ms me so child).last ≡ child
  unfolding risen
  risen_last = by (eqb so.last me)
    where
      by : (t : Bool) → (pick {A = Rising} t same_marks new_marks).last ≡ child
      by true = refl
      by false = refl

  pub risen_bytes : (risen names ms me so child).bytes ≡ true → (so.bytes ≡ true) × ((so.last ≡ me) ⊎ Before last_name new_name)
  unfolding risen
  risen_bytes = by (eqb so.last me) refl
    where
      by : (t : Bool) → eqb so.last me ≡ t
          → (pick {A = Rising} t same_marks new_marks).bytes ≡ true
          → (so.bytes ≡ true) × ((so.last ≡ me) ⊎ Before last_name new_name)
      by true e q = (q, inl (eqb-true so.last me e))
      by false e q = let both = pick_true so.bytes (before last_name new_name) q in (both.0, inr (before_true last_name new_name both.1))

  pub risen_git : (risen names ms me so child).git ≡ true → (so.git ≡ true) × ((so.last ≡ me) ⊎ GitBefore last_name new_name)
  unfolding risen
  risen_git = by (eqb so.last me) refl
    where
      by : (t : Bool) → eqb so.last me ≡ t
          → (pick {A = Rising} t same_marks new_marks).git ≡ true
          → (so.git ≡ true) × ((so.last ≡ me) ⊎ GitBefore last_name new_name)
      by true e q = (q, inl (eqb-true so.last me e))
      by false e q = let both = pick_true so.git (git_before (length last_name) (length new_name) (before last_name new_name)) q in (both.0, inr (git_true last_name new_name both.1))

-- one child more keeps what is known
pub so_far_more : (names ns ms : List ℕ) (me used u : ℕ) (so : Rising) → SoFar names ns me used so → Grows names ns ms me used u → SoFar names ms me u (risen names ms me so used)
so_far_more names ns ms me used u so old g =
    record {
      onward = omega (arith, old.onward, g.onward);
      last = omega (arith, risen_last names ms me so used, g.onward);
      bytes = λ e. by_bytes (risen_bytes names ms me so used e);
      git = λ e. by_git (risen_git names ms me so used e);
    }
  where
    by_bytes : (so.bytes ≡ true) × ((so.last ≡ me) ⊎ Before (name_at names ms so.last) (name_at names ms used)) → Ordered Before names ms me (me + 1) u (risen names ms me so used).last
    by_bytes h =
        subst (λ (x : ℕ). Ordered Before names ms me (me + 1) u x) (sym (risen_last names ms me so used))
        (ordered_more Before (λ a b c p q. transitive p q) names ns ms me used u so.last g h.1 old.last (old.bytes h.0))

    by_git : (so.git ≡ true) × ((so.last ≡ me) ⊎ GitBefore (name_at names ms so.last) (name_at names ms used)) → Ordered GitBefore names ms me (me + 1) u (risen names ms me so used).last
    by_git h =
        subst (λ (x : ℕ). Ordered GitBefore names ms me (me + 1) u x) (sym (risen_last names ms me so used))
        (ordered_more GitBefore git_transitive names ns ms me used u so.last g h.1 old.last (old.git h.0))

-- either mark settles the names
pub bytes_differ : (names ns : List ℕ) (me used : ℕ) (so : Rising) → SoFar names ns me used so → so.bytes ≡ true → true ≡ siblings_differ names ns me (me + 1) used
bytes_differ names ns me used so o e =
    distinct_differ names ns me (me + 1) used (ordered_distinct Before (λ a h. irreflexive h) names ns me (me + 1) used so.last (o.bytes e))

pub git_differ : (names ns : List ℕ) (me used : ℕ) (so : Rising) → SoFar names ns me used so → so.git ≡ true → true ≡ siblings_differ names ns me (me + 1) used
git_differ names ns me used so o e =
    distinct_differ names ns me (me + 1) used (ordered_distinct GitBefore git_irreflexive names ns me (me + 1) used so.last (o.git e))
