-- How many records a lookup compares: the count that it answers is the halving rule's own steps, and at most 1 plus the whole part of the logarithm of the number
-- of records (01, Order and lookup). Assumes nothing.
use Rattle.std.specs.Prelude.{◌≡◌, Bool, List, ℕ, zero, suc, ◌+◌, ◌-◌, ◌/◌, ◌^◌, ◌≤◌, ◌<◌, ltb, Err, None, Ok, Option, Result, Some}
use Rattle.std.proofs.Math.Path.{refl}
use Rattle.std.proofs.Common.{ap, ◌∙◌, ⊎_elim, one-add, arith, lt-ltb, le-ltb}
use Rattle.std.proofs.Math.Bool.{true, false}
use Rattle.std.proofs.Math.Nat.{pow-zero, two-pow-succ}
use Rattle.laws.specs.Pick.{pick}
use Rattle.laws.specs.Tests.{lt_or_ge, Less, less, not_less, less?}
use Rattle.entry.specs.Paths.{Paths}
use Rattle.entry.specs.Record.{records_in}
use Rattle.access.specs.Lookup.{highest_stage, probe_at, turn, halve, search_at, lookup_at, steps_after, steps}
use Rattle.std.specs.declared.cmp.Ordering.TheVariants as order
use Rattle.access.specs.declared.Error.{Error as LookupError}
use Rattle.access.specs.declared.Error.TheVariants.{NoStage, PathOutside}
use Rattle.access.specs.declared.Found.{Found}
use Rattle.access.specs.declared.Found.TheVariants.{Absent, At}
use Rattle.std.specs.declared.cmp.Ordering.{Ordering}

-- ---- the whole part of the logarithm

-- at most f halvings
unfoldable pub log_in : ℕ → ℕ → ℕ
log_in zero n = 0
log_in (suc f) n = pick (ltb n 2) 0 (1 + log_in f (n / 2))

-- how often n can be halved before it is below 2
unfoldable pub log2 : ℕ → ℕ
log2 n = log_in n n

doubled : (e : ℕ) → 2 ^ (1 + e) ≡ 2 ^ e + 2 ^ e
doubled e = rw (one-add e) (two-pow-succ e)

log_right : (f n : ℕ) → 1 ≤ n → n ≤ f → (2 ^ log_in f n ≤ n) × (n < 2 ^ (1 + log_in f n))
unfolding log_in
log_right zero n h k = absurd (omega arith)
log_right (suc f) n h k = by (ltb n 2) (less? n 2) (λ a b. log_right f (n / 2) a b)
  where
    by : (t : Bool) → Less n 2 t → (1 ≤ n / 2 → n / 2 ≤ f → (2 ^ log_in f (n / 2) ≤ n / 2) × (n / 2 < 2 ^ (1 + log_in f (n / 2))))
        → (2 ^ pick t 0 (1 + log_in f (n / 2)) ≤ n) × (n < 2 ^ (1 + pick t 0 (1 + log_in f (n / 2))))
    by true (less l) ih = (omega (arith, pow-zero 2), omega (arith, doubled 0, pow-zero 2))
    by false (not_less l) ih =
        let r = ih (omega arith) (omega arith) in
        (omega (arith, r.0, doubled (log_in f (n / 2))), omega (arith, r.1, doubled (1 + log_in f (n / 2)), doubled (log_in f (n / 2))))

pub log2_right : (n : ℕ) → 1 ≤ n → (2 ^ log2 n ≤ n) × (n < 2 ^ (1 + log2 n))
unfolding log2
log2_right n h = log_right n n h (omega arith)

-- ---- the count that is answered

-- the count of an answer; d where it carries none
abbrev pub count_or : ℕ → Result Found LookupError → ℕ
count_or d (Ok (At i k)) = k
count_or d (Ok (Absent k)) = k
count_or d (Err NoStage) = d
count_or d (Err (PathOutside i)) = d

pub halve_some : (p : ℕ → Option Ordering) (f low high k : ℕ) → low < high → halve p (suc f) low high k ≡ turn (λ l h. halve p f l h (k + 1)) low high ((low + high) / 2) (k + 1) (p ((low + high) / 2))
unfolding halve
halve_some p f low high k h = rw (lt-ltb low high h)

pub halve_none : (p : ℕ → Option Ordering) (f low high k : ℕ) → high ≤ low → halve p (suc f) low high k ≡ Ok (Absent k)
unfolding halve
halve_none p f low high k h = rw (le-ltb low high h)

steps_some : (p : ℕ → Option Ordering) (f low high : ℕ) → low < high → steps p (suc f) low high ≡ 1 + steps_after (steps p f) low high ((low + high) / 2) (p ((low + high) / 2))
unfolding steps
steps_some p f low high h = rw (lt-ltb low high h)

steps_none : (p : ℕ → Option Ordering) (f low high : ℕ) → high ≤ low → steps p (suc f) low high ≡ 0
unfolding steps
steps_none p f low high h = rw (le-ltb low high h)

count_turn : (p : ℕ → Option Ordering) (f low high m k d : ℕ) → ((l h : ℕ) → (d ≡ k + 1 + steps p f l h) → count_or d (halve p f l h (k + 1)) ≡ d)
    → (a : Option Ordering) → d ≡ k + (1 + steps_after (steps p f) low high m a) → count_or d (turn (λ l h. halve p f l h (k + 1)) low high m (k + 1) a) ≡ d
count_turn p f low high m k d ih None e = refl
count_turn p f low high m k d ih (Some order.Equal) e = omega arith
count_turn p f low high m k d ih (Some order.Less) e = ih (m + 1) high (omega arith)
count_turn p f low high m k d ih (Some order.Greater) e = ih low m (omega arith)

-- an answer counts the steps that the rule takes
pub counts_steps : (p : ℕ → Option Ordering) (f low high k d : ℕ) → d ≡ k + steps p f low high → count_or d (halve p f low high k) ≡ d
unfolding halve steps
counts_steps p zero low high k d e = omega arith
counts_steps p (suc f) low high k d e =
    ⊎_elim
    (λ l. rw (halve_some p f low high k l) (count_turn p f low high ((low + high) / 2) k d (λ l' h' q. counts_steps p f l' h' (k + 1) d q) (p ((low + high) / 2)) (e ∙ ap (λ (s : ℕ). k + s) (steps_some p f low high l))))
    (λ l. rw (halve_none p f low high k l) (omega (arith, steps_none p f low high l)))
    (lt_or_ge low high)

-- ---- the bound

few_after : (p : ℕ → Option Ordering) (f m low high : ℕ) → ((l h : ℕ) → h - l < 2 ^ m → steps p f l h ≤ m) → high - low < 2 ^ m + 2 ^ m → low < high → (a : Option Ordering) → steps_after (steps p f) low high ((low + high) / 2) a ≤ m
few_after p f m low high ih w l None = omega arith
few_after p f m low high ih w l (Some order.Equal) = omega arith
few_after p f m low high ih w l (Some order.Less) = ih ((low + high) / 2 + 1) high (omega arith)
few_after p f m low high ih w l (Some order.Greater) = ih low ((low + high) / 2) (omega arith)

-- among fewer than 2 ^ m records at most m are compared
pub few_steps : (p : ℕ → Option Ordering) (f m low high : ℕ) → high - low < 2 ^ m → steps p f low high ≤ m
unfolding steps
few_steps p zero m low high h = omega arith
few_steps p (suc f) zero low high h = let z : high - low < 1 = rw (pow-zero 2) at h in rw (steps_none p f low high (omega arith)) (omega arith)
few_steps p (suc f) (suc m) low high h =
    ⊎_elim
    (λ l. rw (steps_some p f low high l) (omega (arith, few_after p f m low high (λ l' h' q. few_steps p f m l' h' q) (rw (two-pow-succ m) at h) l (p ((low + high) / 2)))))
    (λ l. rw (steps_none p f low high l) (omega arith))
    (lt_or_ge low high)

-- ---- of a lookup

-- the halving rule's steps in a table
abbrev pub lookup_steps : List ℕ → Paths → List ℕ → ℕ → ℕ
lookup_steps rs ps key stage = steps (probe_at rs ps key stage) (records_in rs) 0 (records_in rs)

module _ (rs : List ℕ) (ps : Paths) (key : List ℕ) (stage : ℕ) where
  lookup_counts : count_or (lookup_steps rs ps key stage) (lookup_at rs ps key stage) ≡ lookup_steps rs ps key stage
  unfolding lookup_at search_at
  lookup_counts = by (ltb highest_stage stage)
    where
      by : (t : Bool) → count_or (lookup_steps rs ps key stage) (pick t (Err NoStage) (halve (probe_at rs ps key stage) (records_in rs) 0 (records_in rs) 0)) ≡ lookup_steps rs ps key stage
      by true = refl
      by false = counts_steps (probe_at rs ps key stage) (records_in rs) 0 (records_in rs) 0 (lookup_steps rs ps key stage) (omega arith)

  pub found_counts_the_steps : (i k : ℕ) → lookup_at rs ps key stage ≡ Ok (At i k) → k ≡ lookup_steps rs ps key stage
  found_counts_the_steps i k e = rw e at lookup_counts

  pub absent_counts_the_steps : (k : ℕ) → lookup_at rs ps key stage ≡ Ok (Absent k) → k ≡ lookup_steps rs ps key stage
  absent_counts_the_steps k e = rw e at lookup_counts

  pub steps_at_most_log : 1 ≤ records_in rs → lookup_steps rs ps key stage ≤ 1 + log2 (records_in rs)
  steps_at_most_log h = few_steps (probe_at rs ps key stage) (records_in rs) (1 + log2 (records_in rs)) 0 (records_in rs) (omega (arith, (log2_right (records_in rs) h).1))
