-- How many comparisons of names it takes to see whether k children differ, counted beside the steps of Runs: at most k (2 + log2 k), with those of the order
-- test, which compares each child with the one before it. Assumes nothing.
use Rattle.std.proofs.Math.Bool.{Bool}
use Rattle.std.specs.Prelude.{true, false, ◌≡◌, ◌⊎◌, ltb, eqb}
use Rattle.std.proofs.Math.Path.{refl}
use Rattle.std.proofs.Common.{sym, ap, ◌∙◌, inl, inr, pow-suc, mul-suc, mul-add, add-mul, add-one}
use Rattle.std.proofs.Math.Logic.{⊎_elim}
use mathlib.Core.List.{List}
use Prim.Native.Nat.{ℕ, zero, suc, ◌+◌, ◌*◌, ◌-◌, ◌/◌, ◌^◌, ◌≤◌, ◌<◌}
use native.Mathlib.Omega.{arith}
use Rattle.laws.specs.Pick.{pick}
use Rattle.laws.specs.Tests.{Less, less, not_less, less?, Same, same, differs, same?, lt_or_ge}
use Rattle.link_sort.specs.declared.Runs.{Runs}
use Rattle.link_sort.specs.declared.Strung.{Strung}
use Rattle.link_sort.specs.Runs.{Out, levels, opposite, is_before, takes_left, taken, turn_of, both_of, sort_run, strung_kids}

-- ---- the counts

-- a turn of a merge compares where both lists have a node
abbrev pub turn_cost : Runs → ℕ
turn_cost r = pick (eqb r.nx 0) 0 (pick (eqb r.ny 0) 0 1)

unfoldable pub merge_cost : List ℕ → Bool → ℕ → List ℕ → Runs → ℕ
merge_cost file up zero s r = 0
merge_cost file up (suc n) s r = turn_cost r + merge_cost file up n (turn_of file up s r).1 (turn_of file up s r).0

-- both halves, from what the sort of each answers, and their merge
abbrev pub halves_cost : List ℕ → (ℕ → ℕ → List ℕ → Out) → (ℕ → ℕ → List ℕ → ℕ) → Bool → ℕ → ℕ → List ℕ → ℕ
halves_cost file rec cost up first n s =
    cost first (n / 2) s + cost (rec first (n / 2) s).0.rest (n - n / 2) (rec first (n / 2) s).1
    + merge_cost file (opposite up) n (rec (rec first (n / 2) s).0.rest (n - n / 2) (rec first (n / 2) s).1).1
    (both_of (n / 2) (n - n / 2) (rec first (n / 2) s).0 (rec (rec first (n / 2) s).0.rest (n - n / 2) (rec first (n / 2) s).1).0)

unfoldable pub sort_cost : List ℕ → ℕ → Bool → ℕ → ℕ → List ℕ → ℕ
sort_cost file zero up first n s = 0
sort_cost file (suc d) up first n s = pick (ltb n 2) 0 (halves_cost file (sort_run file d (opposite up)) (sort_cost file d (opposite up)) up first n s)

-- the walk compares each but the last with its next
unfoldable pub walk_cost : ℕ → ℕ
walk_cost zero = 0
walk_cost (suc n) = pick (ltb (suc n) 2) 0 1 + walk_cost n

-- the order test compares each child but the first with the one before it
abbrev pub order_cost : ℕ → ℕ
order_cost k = k - 1

-- all that is spent on k children whose list stands in a store
abbrev pub list_cost : List ℕ → Strung × List ℕ → ℕ
list_cost file l = order_cost l.0.count + sort_cost file levels true l.0.first l.0.count l.1 + walk_cost l.0.count

unfoldable pub comparisons : List ℕ → ℕ → ℕ → List ℕ → ℕ
comparisons file me last s = list_cost file (strung_kids me last s)

-- ---- a merge of n nodes compares at most n - 1 times

module _ (file : List ℕ) (up : Bool) where
  -- a list that is empty stays so
  merge_free : (n : ℕ) (s : List ℕ) (r : Runs) → (r.nx ≡ 0) ⊎ (r.ny ≡ 0) → merge_cost file up n s r ≡ 0
  unfolding merge_cost turn_of takes_left
  merge_free zero s r h = refl
  merge_free (suc n) s r h = by (same? r.nx 0) (same? r.ny 0) (λ t q z. merge_free n t q z) h
    where
      rest : Bool → ℕ
      rest d = merge_cost file up n (taken s r d).1 (taken s r d).0

      by : {t u : Bool} → Same r.nx 0 t → Same r.ny 0 u → ((t : List ℕ) (q : Runs) → (q.nx ≡ 0) ⊎ (q.ny ≡ 0) → merge_cost file up n t q ≡ 0) → (r.nx ≡ 0) ⊎ (r.ny ≡ 0)
          → pick t 0 (pick u 0 1) + rest (pick t false (pick u true (pick up (is_before file s r.x r.y) (opposite (is_before file s r.x r.y))))) ≡ 0
      by (same e) v f h = omega (arith, f (taken s r false).1 (taken s r false).0 (inl e))
      by (differs e) (same g) f h = omega (arith, f (taken s r true).1 (taken s r true).0 (inr g))
      by (differs e) (differs g) f (inl z) = absurd (e z)
      by (differs e) (differs g) f (inr z) = absurd (g z)

  pub merge_few : (n : ℕ) (s : List ℕ) (r : Runs) → r.nx + r.ny ≡ n → merge_cost file up n s r ≤ n - 1
  unfolding merge_cost turn_of
  merge_few zero s r h = omega arith
  merge_few (suc n) s r h = ⊎_elim (λ a. ⊎_elim (λ b. two a b (takes_left file up s r) (λ t q z. merge_few n t q z)) (λ b. none (inr (omega arith))) (lt_or_ge 0 r.ny)) (λ a. none (inl (omega arith))) (lt_or_ge 0 r.nx)
    where
      none : (r.nx ≡ 0) ⊎ (r.ny ≡ 0) → merge_cost file up (suc n) s r ≤ suc n - 1
      none z = omega (arith, merge_free (suc n) s r z)

      one : turn_cost r ≤ 1
      one = by (eqb r.nx 0) (eqb r.ny 0)
        where
          by : (t u : Bool) → pick t 0 (pick u 0 1) ≤ 1
          by true u = omega arith
          by false true = omega arith
          by false false = omega arith

      two : 0 < r.nx → 0 < r.ny → (d : Bool) → ((t : List ℕ) (q : Runs) → q.nx + q.ny ≡ n → merge_cost file up n t q ≤ n - 1) → turn_cost r + merge_cost file up n (taken s r d).1 (taken s r d).0 ≤ suc n - 1
      two a b true f = omega (arith, one, f (taken s r true).1 (taken s r true).0 (omega arith))
      two a b false f = omega (arith, one, f (taken s r false).1 (taken s r false).0 (omega arith))

-- ---- the sort

-- e is the logarithm of n, rounded up or one more
abbrev Levels : ℕ → ℕ → Type 0
Levels e n = (2 ^ e ≤ 2 * n) × (n ≤ 2 ^ e)

-- each half needs one level less
halved : (e n : ℕ) → 2 ≤ n → Levels (suc e) n → Levels e (n / 2) × Levels e (n - n / 2)
halved zero n h l = let one : 2 ^ 0 ≡ 1 = refl in let two : 2 ^ 1 ≡ 2 = refl in ((omega arith, omega (arith, l.1)), (omega arith, omega (arith, l.1)))
halved (suc e) n h l =
    let twice : 2 ^ suc e ≡ 2 ^ e * 2 = pow-suc 2 e in
    let more : 2 ^ suc (suc e) ≡ 2 ^ suc e * 2 = pow-suc 2 (suc e) in
    let low : 2 ^ suc (suc e) ≤ 2 * n = l.0 in
    let high : n ≤ 2 ^ suc (suc e) = l.1 in
    let half : 2 ^ e ≤ n / 2 = omega arith in
    ((omega arith, omega arith), (omega arith, omega arith))

-- what costs nothing
free_level : (e n : ℕ) → Levels e n → 2 ^ e ≤ n * e + 1
free_level zero n l = let one : 2 ^ 0 ≡ 1 = refl in omega arith
free_level (suc zero) n l = let two : 2 ^ 1 ≡ 2 = refl in omega (arith, l.0)
free_level (suc (suc e)) n l = let step : n * suc (suc e) ≡ n * suc e + n = mul-suc n (suc e) in let next : n * suc e ≡ n * e + n = mul-suc n e in omega (arith, l.0)

-- the cost of two halves and of their merge
whole_level : (e n a b m : ℕ) → 2 ≤ n → a + 2 ^ e ≤ n / 2 * e + 1 → b + 2 ^ e ≤ (n - n / 2) * e + 1 → m ≤ n - 1 → a + b + m + 2 ^ suc e ≤ n * suc e + 1
whole_level e n a b m h p q r =
    let twice : 2 ^ suc e ≡ 2 ^ e * 2 = pow-suc 2 e in
    let step : n * suc e ≡ n * e + n = mul-suc n e in
    let cut : n / 2 + (n - n / 2) ≡ n = omega arith in
    let sum : n * e ≡ n / 2 * e + (n - n / 2) * e = sym (ap (λ (x : ℕ). x * e) cut) ∙ add-mul (n / 2) (n - n / 2) e in
    omega arith

module _ (file : List ℕ) where
  pub sort_few : (d : ℕ) (up : Bool) (first n : ℕ) (s : List ℕ) (e : ℕ) → Levels e n → sort_cost file d up first n s + 2 ^ e ≤ n * e + 1
  unfolding sort_cost
  sort_few zero up first n s e l = omega (arith, free_level e n l)
  sort_few (suc d) up first n s e l = by (less? n 2) (λ f m t g k. sort_few d (opposite up) f m t g k)
    where
      down : ℕ → ℕ → List ℕ → ℕ
      down = sort_cost file d (opposite up)

      run : ℕ → ℕ → List ℕ → Out
      run = sort_run file d (opposite up)

      halves_few : 2 ≤ n → ((f m : ℕ) (t : List ℕ) (g : ℕ) → Levels g m → down f m t + 2 ^ g ≤ m * g + 1) → (g : ℕ) → Levels g n → halves_cost file run down up first n s + 2 ^ g ≤ n * g + 1
      halves_few h ih zero k = let one : 2 ^ 0 ≡ 1 = refl in absurd (omega (arith, k.1))
      halves_few h ih (suc g) k =
          let halves = halved g n h k in
          let a : Out = run first (n / 2) s in
          let b : Out = run a.0.rest (n - n / 2) a.1 in
          whole_level g n (down first (n / 2) s) (down a.0.rest (n - n / 2) a.1) (merge_cost file (opposite up) n b.1 (both_of (n / 2) (n - n / 2) a.0 b.0)) h
          (ih first (n / 2) s g halves.0) (ih a.0.rest (n - n / 2) a.1 g halves.1)
          (merge_few file (opposite up) n b.1 (both_of (n / 2) (n - n / 2) a.0 b.0) (omega arith))

      by : {t : Bool} → Less n 2 t → ((f m : ℕ) (t : List ℕ) (g : ℕ) → Levels g m → down f m t + 2 ^ g ≤ m * g + 1) → pick t 0 (halves_cost file run down up first n s) + 2 ^ e ≤ n * e + 1
      by (less h) ih = omega (arith, free_level e n l)
      by (not_less h) ih = halves_few h ih e l

-- ---- the whole

walk_few : (n : ℕ) → walk_cost n ≡ n - 1
unfolding walk_cost
walk_few zero = refl
walk_few (suc n) = by (less? (suc n) 2) (walk_few n)
  where
    by : {t : Bool} → Less (suc n) 2 t → walk_cost n ≡ n - 1 → pick t 0 1 + walk_cost n ≡ suc n - 1
    by (less h) f = omega arith
    by (not_less h) f = omega arith

-- THE BOUND: for k children, where l is the logarithm of k, rounded down
pub few_comparisons : (file : List ℕ) (me last : ℕ) (s : List ℕ) (k l : ℕ) → k ≡ (strung_kids me last s).0.count → 2 ^ l ≤ k → k < 2 ^ (l + 1) → comparisons file me last s ≤ k * (2 + l)
unfolding comparisons
few_comparisons file me last s k l e low high =
    let list : Strung × List ℕ = strung_kids me last s in
    let next : l + 1 ≡ suc l = add-one l in
    let twice : 2 ^ (l + 1) ≡ 2 ^ l * 2 = rw next (pow-suc 2 l) in
    let sort : sort_cost file levels true list.0.first k list.1 + 2 ^ (l + 1) ≤ k * (l + 1) + 1 = sort_few file levels true list.0.first k list.1 (l + 1) (omega arith, omega arith) in
    let walk : walk_cost k ≡ k - 1 = walk_few k in
    let over : k * (l + 1) ≡ k * l + k * 1 = mul-add k l 1 in
    let all : k * (2 + l) ≡ k * 2 + k * l = mul-add k 2 l in
    rw (← e) (omega arith)
