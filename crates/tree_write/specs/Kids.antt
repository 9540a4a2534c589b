-- The children that the tree's definition goes through are exactly the nodes with that parent, each once, in rising order; where siblings have distinct names,
-- their names rise strictly. Over all tables. Assumes nothing.
use Rattle.std.specs.Prelude.{Bool, ◌≡◌, ◌⊎◌, ◌↔◌, List, [], ◌∷◌}
use Rattle.std.proofs.Math.Bool.{true, false}
use Rattle.std.proofs.Math.Path.{refl, sym, ap, subst}
use Rattle.std.proofs.Common.{◌∙◌}
use Rattle.std.proofs.Math.Logic.{inl, inr, ⊎_elim}
use Prim.Native.Nat.{ℕ, zero, suc, ◌+◌, ◌-◌, ◌/◌, ◌≤◌, ◌<◌}
use Rattle.std.proofs.Math.Nat.{pos_of_ne-zero}
use native.Mathlib.Omega.{arith}
use Rattle.std.proofs.Math.Dec.{eqb}
use Rattle.std.proofs.Math.ListN.{length}
use borrow.Author.Tests.{eq-eqb, ne_eqb, eqb-true, eqb-false}
use Rattle.laws.specs.Pick.{pick}
use Rattle.laws.specs.Tests.{lt_or_ge}
use Rattle.laws.specs.Order.{Before}
use Rattle.node.specs.Store.{parent_at, name_at}
use Rattle.tree_write.specs.Order.{before, false_true, before_not, before_trans, before_total, before_names}
use Rattle.tree_write.specs.Tree.{after, ahead, better, best_run, next_kid, kids}

-- THE CLAIM'S WORDS
pub data Mem (x : ℕ) : List ℕ → Type 0 where
  here : {xs : List ℕ} → Mem x (x ∷ xs)
  there : {y : ℕ} {xs : List ℕ} → Mem x xs → Mem x (y ∷ xs)

-- each stands in R to every later one
pub data Rising (R : ℕ → ℕ → Type 0) : List ℕ → Type 0 where
  done : Rising R []
  more : {x : ℕ} {xs : List ℕ} → ((y : ℕ) → Mem y xs → R x y) → Rising R xs → Rising R (x ∷ xs)

-- THE BEST CANDIDATE

-- a child of p that comes after the last one
pub record Cand (ns nm : List ℕ) (p last i : ℕ) : Type 0 where
  pub real : 0 < i
  pub child : parent_at ns i ≡ p
  pub past : after ns nm last i ≡ true

-- b is the best of the candidates below j, or 0 and there is none
pub record Best (ns nm : List ℕ) (p last j b : ℕ) : Type 0 where
  pub low : b < j
  pub found : (b ≡ 0 → ⊥) → Cand ns nm p last b
  pub some : (i : ℕ) → i < j → Cand ns nm p last i → b ≡ 0 → ⊥
  pub least : (i : ℕ) → i < j → Cand ns nm p last i → before ns nm i b ≡ true → ⊥

module _ (ns nm : List ℕ) (p last : ℕ) where
  below_or : (i j : ℕ) → i < j + 1 → (i < j) ⊎ (i ≡ j)
  below_or i j h = ⊎_elim (λ l. inl l) (λ l. inr (omega arith)) (lt_or_ge i j)

  keep : (j b : ℕ) → Best ns nm p last j b → (Cand ns nm p last j → b ≡ 0 → ⊥) → (Cand ns nm p last j → before ns nm j b ≡ true → ⊥) → Best ns nm p last (j + 1) b
  keep j b g s l = record {
    low = let h : b < j = g.low in omega arith;
    found = g.found;
    some = λ i h c q. ⊎_elim (λ k. g.some i k c q) (λ k. s (subst (λ (x : ℕ). Cand ns nm p last x) k c) q) (below_or i j h);
    least = λ i h c q.
        ⊎_elim (λ k. g.least i k c q) (λ k. l (subst (λ (x : ℕ). Cand ns nm p last x) k c) (subst (λ (x : ℕ). before ns nm x b ≡ true) k q)) (below_or i j h);
  }

  step : (j b : ℕ) → 0 < j → Best ns nm p last j b → Best ns nm p last (j + 1) (better ns nm p last b j)
  unfolding better ahead
  step j b pos g = by (eqb (parent_at ns j) p) (after ns nm last j) (ahead ns nm j b) refl refl refl
    where
      by : (x y z : Bool) → eqb (parent_at ns j) p ≡ x → after ns nm last j ≡ y → ahead ns nm j b ≡ z → Best ns nm p last (j + 1) (pick x (pick y (pick z j b) b) b)
      by false y z ex ey ez = keep j b g (λ c q. eqb-false (parent_at ns j) p ex c.child) (λ c q. eqb-false (parent_at ns j) p ex c.child)
      by true false z ex ey ez = keep j b g (λ c q. false_true (sym ey ∙ c.past)) (λ c q. false_true (sym ey ∙ c.past))
      by true true false ex ey ez =
          keep j b g (λ c q. false_true (sym ez ∙ ap (λ (t : Bool). pick t true (before ns nm j b)) (eq-eqb b 0 q)))
          (λ c q. ⊎_elim (λ t. false_true (sym ez ∙ ap (λ (t : Bool). pick t true (before ns nm j b)) (eq-eqb b 0 t))) (λ t. false_true (sym ez ∙ ap (λ (t : Bool). pick t true (before ns nm j b)) (ne_eqb b 0 t) ∙ q)) (zero_or b))
        where
          zero_or : (m : ℕ) → (m ≡ 0) ⊎ (m ≡ 0 → ⊥)
          zero_or zero = inl refl
          zero_or (suc m) = inr (λ e. omega arith)
      by true true true ex ey ez = record {
        low = omega arith;
        found = λ q. record { real = pos; child = eqb-true (parent_at ns j) p ex; past = ey };
        some = λ i h c q. omega arith;
        least = λ i h c q.
            ⊎_elim
            (λ k.
            let full : b ≡ 0 → ⊥ = g.some i k c in
            let jb : before ns nm j b ≡ true = sym (ap (λ (t : Bool). pick t true (before ns nm j b)) (ne_eqb b 0 full)) ∙ ez in
            g.least i k c (before_trans ns nm i j b q jb))
            (λ k. before_not ns nm j (subst (λ (x : ℕ). before ns nm x j ≡ true) k q)) (below_or i j h);
      }

  run : (k j b : ℕ) → 0 < j → Best ns nm p last j b → Best ns nm p last (j + k) (best_run ns nm p last k j b)
  unfolding best_run
  run zero j b pos g = let q : j ≡ j + 0 = omega arith in subst (λ (m : ℕ). Best ns nm p last m b) q g
  run (suc k) j b pos g =
      let q : j + 1 + k ≡ j + suc k = omega arith in
      subst (λ (m : ℕ). Best ns nm p last m (best_run ns nm p last k (j + 1) (better ns nm p last b j))) q (run k (j + 1) (better ns nm p last b j) (omega arith) (step j b pos g))

  pub next_best : Best ns nm p last (1 + (length ns / 72 - 1)) (next_kid ns nm p last)
  unfolding next_kid
  next_best = run (length ns / 72 - 1) 1 0 (omega arith) (record {
    low = omega arith;
    found = λ q. absurd (q refl);
    some = λ i h c q. let r : 0 < i = c.real in omega arith;
    least = λ i h c q. let r : 0 < i = c.real in omega arith;
  })

-- COUNTING
unfoldable pub tally : (ℕ → Bool) → ℕ → ℕ
tally f zero = 0
tally f (suc m) = pick (f m) (suc (tally f m)) (tally f m)

pub tally_all : (f : ℕ → Bool) (m : ℕ) → tally f m ≤ m
unfolding tally
tally_all f zero = omega arith
tally_all f (suc m) = by (f m) (tally_all f m)
  where
    by : (t : Bool) → tally f m ≤ m → pick t (suc (tally f m)) (tally f m) ≤ suc m
    by true h = omega arith
    by false h = omega arith

module _ (f g : ℕ → Bool) (sub : (i : ℕ) → f i ≡ true → g i ≡ true) where
  tally_sub : (m : ℕ) → tally f m ≤ tally g m
  unfolding tally
  tally_sub zero = omega arith
  tally_sub (suc m) = by (f m) (g m) (sub m) (tally_sub m)
    where
      by : (s t : Bool) → (s ≡ true → t ≡ true) → tally f m ≤ tally g m → pick s (suc (tally f m)) (tally f m) ≤ pick t (suc (tally g m)) (tally g m)
      by true true h l = omega arith
      by true false h l = absurd (false_true (h refl))
      by false true h l = omega arith
      by false false h l = l

  -- one more is counted
  pub tally_less : (m x : ℕ) → x < m → g x ≡ true → f x ≡ false → tally f m < tally g m
  unfolding tally
  tally_less zero x h a b = absurd (none h)
    where
      none : x < 0 → ⊥
      none l = omega arith
  tally_less (suc m) x h a b = ⊎_elim (λ l. by (f m) (g m) (sub m) (tally_less m x l a b)) (λ l. last (omega arith)) (lt_or_ge x m)
    where
      by : (s t : Bool) → (s ≡ true → t ≡ true) → tally f m < tally g m → pick s (suc (tally f m)) (tally f m) < pick t (suc (tally g m)) (tally g m)
      by true true h l = omega arith
      by true false h l = absurd (false_true (h refl))
      by false true h l = omega arith
      by false false h l = l

      last : x ≡ m → pick (f m) (suc (tally f m)) (tally f m) < pick (g m) (suc (tally g m)) (tally g m)
      last e = rw (sym (ap f e) ∙ b, sym (ap g e) ∙ a) (omega (arith, tally_sub m))

-- THE CHILDREN

-- the table's size, at least 1
abbrev pub top : List ℕ → ℕ
top ns = 1 + (length ns / 72 - 1)

rising_as : {R S : ℕ → ℕ → Type 0} {l : List ℕ} → ((x y : ℕ) → Mem x l → Mem y l → R x y → S x y) → Rising R l → Rising S l
rising_as f done = done
rising_as f (more {x = x} h r) = more (λ y m. f x y here (there m) (h y m)) (rising_as (λ u v a b. f u v (there a) (there b)) r)

pub not_mem : {j : ℕ} {l : List ℕ} → Mem j l → l ≡ [] → ⊥
not_mem here e = let z : ◌≡◌ {A = ℕ} 0 1 = cc in omega arith
not_mem (there m) e = let z : ◌≡◌ {A = ℕ} 0 1 = cc in omega arith

module _ (ns nm : List ℕ) (p : ℕ) where
  -- the test of a candidate
  pub cand : ℕ → ℕ → Bool
  cand last i = pick (eqb i 0) false (pick (eqb (parent_at ns i) p) (after ns nm last i) false)

  pub cand_yes : (last i : ℕ) → Cand ns nm p last i → cand last i ≡ true
  unfolding cand
  cand_yes last i c = let q : i ≡ 0 → ⊥ = λ e. let r : 0 < i = c.real in omega arith in rw (ne_eqb i 0 q, eq-eqb (parent_at ns i) p c.child) c.past

  cand_is : (last i : ℕ) → cand last i ≡ true → Cand ns nm p last i
  unfolding cand
  cand_is last i h = by (eqb i 0) (eqb (parent_at ns i) p) refl refl h
    where
      by : (x y : Bool) → eqb i 0 ≡ x → eqb (parent_at ns i) p ≡ y → pick x false (pick y (after ns nm last i) false) ≡ true → Cand ns nm p last i
      by true y ex ey h = absurd (false_true h)
      by false false ex ey h = absurd (false_true h)
      by false true ex ey h = record { real = pos_of_ne-zero (eqb-false i 0 ex); child = eqb-true (parent_at ns i) p ey; past = h }

  -- after a child come those that come after it
  pub after_before : (x i : ℕ) → 0 < x → after ns nm x i ≡ true → before ns nm x i ≡ true
  unfolding after
  after_before x i pos h = let q : x ≡ 0 → ⊥ = λ e. omega arith in rw (ne_eqb x 0 q) at h

  pub before_after : (x i : ℕ) → before ns nm x i ≡ true → after ns nm x i ≡ true
  unfolding after
  before_after x i h = by (eqb x 0)
    where
      by : (t : Bool) → pick t true (before ns nm x i) ≡ true
      by true = refl
      by false = h

  pub after_on : (last x i : ℕ) → after ns nm last x ≡ true → before ns nm x i ≡ true → after ns nm last i ≡ true
  unfolding after
  after_on last x i h k = by (eqb last 0) h
    where
      by : (t : Bool) → pick t true (before ns nm last x) ≡ true → pick t true (before ns nm last i) ≡ true
      by true h = refl
      by false h = before_trans ns nm last x i h k

  pub cand_on : (last x i : ℕ) → Cand ns nm p last x → Cand ns nm p x i → Cand ns nm p last i
  cand_on last x i c d = record { real = d.real; child = d.child; past = after_on last x i c.past (after_before x i c.real d.past) }

  -- fewer are left after the next
  pub fewer : (last x : ℕ) → x < top ns → Cand ns nm p last x → tally (cand x) (top ns) < tally (cand last) (top ns)
  unfolding cand
  fewer last x h c =
      tally_less (cand x) (cand last) (λ i e. cand_yes last i (cand_on last x i c (cand_is x i e))) (top ns) x h (cand_yes last x c) (not (cand x x) refl)
    where
      not : (t : Bool) → cand x x ≡ t → t ≡ false
      not false e = refl
      not true e = absurd (before_not ns nm x (after_before x x c.real (cand_is x x e).past))

  pub record Goes (k last : ℕ) : Type 0 where
    pub inside : (j : ℕ) → Mem j (kids ns nm p k last) → (j < top ns) × Cand ns nm p last j
    pub rising : Rising (λ x y. before ns nm x y ≡ true) (kids ns nm p k last)
    pub whole : tally (cand last) (top ns) ≤ k → (j : ℕ) → j < top ns → Cand ns nm p last j → Mem j (kids ns nm p k last)

  goes_none : (k last : ℕ) → kids ns nm p k last ≡ [] → ((j : ℕ) → j < top ns → Cand ns nm p last j → tally (cand last) (top ns) ≤ k → ⊥) → Goes k last
  goes_none k last e h = record {
    inside = λ j m. absurd (not_mem m e);
    rising = rw e done;
    whole = λ f j l c. absurd (h j l c f);
  }

  goes_one : (k last x : ℕ) → kids ns nm p (suc k) last ≡ x ∷ kids ns nm p k x → x < top ns → Cand ns nm p last x → ((j : ℕ) → j < top ns → Cand ns nm p last j → before ns nm j x ≡ true → ⊥) → Goes k x → Goes (suc k) last
  goes_one k last x e low c least g = record {
    inside = λ j m. member j (subst (Mem j) e m);
    rising = rw e (more (λ y m. after_before x y c.real (g.inside y m).1.past) g.rising);
    whole = λ f j l d. rw e (⊎_elim (λ q. subst (λ (y : ℕ). Mem y (x ∷ kids ns nm p k x)) (sym q) here) (⊎_elim (λ q. absurd (least j l d q)) (λ q. there (g.whole (omega (arith, fewer last x low c)) j l (record { real = d.real; child = d.child; past = before_after x j q })))) (before_total ns nm j x));
  }
    where
      member : (j : ℕ) → Mem j (x ∷ kids ns nm p k x) → (j < top ns) × Cand ns nm p last j
      member j here = (low, c)
      member j (there m) = ((g.inside j m).0, cand_on last x j c (g.inside j m).1)

  pub goes : (k last : ℕ) → Goes k last
  unfolding kids
  goes zero last = goes_none 0 last refl (λ j l c f. omega (arith, tally_less (λ i. false) (cand last) (λ i e. absurd (false_true e)) (top ns) j l (cand_yes last j c) refl))
  goes (suc k) last = by (next_kid ns nm p last) refl (goes k (next_kid ns nm p last)) (eqb (next_kid ns nm p last) 0) refl
    where
      best : Best ns nm p last (top ns) (next_kid ns nm p last)
      best = next_best ns nm p last

      by : (x : ℕ) → next_kid ns nm p last ≡ x → Goes k (next_kid ns nm p last) → (t : Bool) → eqb (next_kid ns nm p last) 0 ≡ t → Goes (suc k) last
      by x ex g true et = goes_none (suc k) last (ap (λ (t : Bool). pick t [] (next_kid ns nm p last ∷ kids ns nm p k (next_kid ns nm p last))) et) (λ j l c f. best.some j l c (eqb-true (next_kid ns nm p last) 0 et))
      by x ex g false et =
          goes_one k last (next_kid ns nm p last) (ap (λ (t : Bool). pick t [] (next_kid ns nm p last ∷ kids ns nm p k (next_kid ns nm p last))) et) best.low (best.found (eqb-false (next_kid ns nm p last) 0 et)) best.least g

  -- THE CLAIMS

  -- the children of p in the order in which the tree is written
  unfoldable pub children : List ℕ
  children = kids ns nm p (length ns / 72) 0

  first : (j : ℕ) → after ns nm 0 j ≡ true
  unfolding after
  first j = refl

  -- exactly the nodes with that parent
  pub children_are : (j : ℕ) → Mem j children ↔ ((0 < j) × (j < length ns / 72) × (parent_at ns j ≡ p))
  unfolding children
  children_are j = (to, from)
    where
      to : Mem j (kids ns nm p (length ns / 72) 0) → (0 < j) × (j < length ns / 72) × (parent_at ns j ≡ p)
      to m =
          let g = (goes (length ns / 72) 0).inside j m in
          let l : j < 1 + (length ns / 72 - 1) = g.0 in
          let r : 0 < j = g.1.real in
          (r, omega arith, g.1.child)

      from : (0 < j) × (j < length ns / 72) × (parent_at ns j ≡ p) → Mem j (kids ns nm p (length ns / 72) 0)
      from (r, l, q) =
          let t : top ns ≡ length ns / 72 = omega arith in
          (goes (length ns / 72) 0).whole (omega (arith, tally_all (cand 0) (top ns))) j (omega arith) (record { real = r; child = q; past = first j })

  -- each comes before every later one, so none stands there twice
  pub children_rise : Rising (λ x y. before ns nm x y ≡ true) children
  unfolding children
  children_rise = (goes (length ns / 72) 0).rising

  -- where no two children have one name, the names rise strictly
  pub names_rise : ((i j : ℕ) → Mem i children → Mem j children → name_at nm ns i ≡ name_at nm ns j → i ≡ j) → Rising (λ x y. Before (name_at nm ns x) (name_at nm ns y)) children
  names_rise d = rising_as (λ x y mx my h. before_names ns nm x y h (d x y mx my)) children_rise
