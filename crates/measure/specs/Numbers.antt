-- Numbers in groups of seven bits: where one ends, and how large it and what is cut of it can be. Assumes nothing.
use Rattle.std.specs.Prelude.{◌≡◌, refl, Bool, true, false, List, [], ◌∷◌, ℕ, zero, suc, ◌+◌, ◌-◌, ◌*◌, ◌%◌, ◌^◌, ◌≤◌, ◌<◌, drop, ltb, Err, Ok}
use Rattle.std.proofs.Common.{arith, ltb-true}
use Rattle.laws.specs.Pick.{pick}
use Rattle.laws.specs.Same.{pair_same}
use Rattle.wire.specs.Groups.{groups_in, number_at}
use Rattle.wire.specs.declared.NumberError.TheVariants.{Cut, Over}

pub record NumberFits (i f a v e : ℕ) : Type 0 where
  pub after : i < e
  pub within : e ≤ i + f
  pub least : a * 128 ≤ v
  pub small : v < 2 ^ 64

number_step : (f : ℕ) (l : List ℕ) (i a c v e : ℕ) (t : Bool) (k : ℕ) → a < 2 ^ 57 → k < 128 → ltb (a * 128 + k) (2 ^ 57 - 1) ≡ t → (a * 128 + k + 1 < 2 ^ 57 → groups_in f l (i + 1) (a * 128 + k + 1) ≡ Ok (v, e) → NumberFits (i + 1) f (a * 128 + k + 1) v e)
    → pick t (groups_in f l (i + 1) (a * 128 + k + 1)) (Err Over) ≡ Ok (v, e) → NumberFits i (suc f) a v e
number_step f l i a c v e true k h m w ih q =
    let lt : a * 128 + k < 2 ^ 57 - 1 = ltb-true (a * 128 + k) (2 ^ 57 - 1) w in
    let r = ih (omega arith) q in
    record { after = omega (arith, r.after); within = omega (arith, r.within); least = omega (arith, r.least); small = r.small }
number_step f l i a c v e false k h m w ih q = let z : ◌≡◌ {A = ℕ} 0 1 = cc in absurd (omega arith)

number_group : (f : ℕ) (l : List ℕ) (i a c v e : ℕ) (t : Bool) → a < 2 ^ 57 → (a * 128 + c % 128 + 1 < 2 ^ 57 → groups_in f l (i + 1) (a * 128 + c % 128 + 1) ≡ Ok (v, e) → NumberFits (i + 1) f (a * 128 + c % 128 + 1) v e)
    → pick t (Ok (a * 128 + c % 128, i + 1)) (pick (ltb (a * 128 + c % 128) (2 ^ 57 - 1)) (groups_in f l (i + 1) (a * 128 + c % 128 + 1)) (Err Over)) ≡ Ok (v, e) → NumberFits i (suc f) a v e
number_group f l i a c v e true h ih q =
    let parts : ◌≡◌ {A = ℕ × ℕ} (a * 128 + c % 128, i + 1) (v, e) = cc in
    let both = pair_same parts in
    record { after = omega (arith, both.1); within = omega (arith, both.1); least = omega (arith, both.0); small = omega (arith, both.0) }
number_group f l i a c v e false h ih q = number_step f l i a c v e (ltb (a * 128 + c % 128) (2 ^ 57 - 1)) (c % 128) h (omega arith) refl ih q

pub groups_fit : (f : ℕ) (l : List ℕ) (i a v e : ℕ) → a < 2 ^ 57 → groups_in f l i a ≡ Ok (v, e) → NumberFits i f a v e
unfolding groups_in
groups_fit zero l i a v e h q = let w : ◌≡◌ {A = ℕ} 0 1 = cc in absurd (omega arith)
groups_fit (suc f) [] i a v e h q = let w : ◌≡◌ {A = ℕ} 0 1 = cc in absurd (omega arith)
groups_fit (suc f) (c ∷ l) i a v e h q = number_group f l i a c v e (ltb c 128) h (λ k r. groups_fit f l (i + 1) (a * 128 + c % 128 + 1) v e k r) q

pub number_fits : (s : List ℕ) (i end v e : ℕ) → number_at s i end ≡ Ok (v, e) → NumberFits i (end - i) 0 v e
unfolding number_at
number_fits s i end v e q = groups_fit (end - i) (drop i s) i 0 v e (omega arith) q

pub record CutFits (a b : ℕ) : Type 0 where
  pub least : a ≤ b
  pub small : b < 2 ^ 57

cut_step : (f : ℕ) (l : List ℕ) (i a b : ℕ) (t : Bool) (k : ℕ) → a < 2 ^ 57 → ltb (a * 128 + k) (2 ^ 57 - 1) ≡ t → (a * 128 + k + 1 < 2 ^ 57 → groups_in f l (i + 1) (a * 128 + k + 1) ≡ Err (Cut b) → CutFits (a * 128 + k + 1) b)
    → pick t (groups_in f l (i + 1) (a * 128 + k + 1)) (Err Over) ≡ Err (Cut b) → CutFits a b
cut_step f l i a b true k h w ih q =
    let lt : a * 128 + k < 2 ^ 57 - 1 = ltb-true (a * 128 + k) (2 ^ 57 - 1) w in
    let r = ih (omega arith) q in
    record { least = omega (arith, r.least); small = r.small }
cut_step f l i a b false k h w ih q = let z : ◌≡◌ {A = ℕ} 0 1 = cc in absurd (omega arith)

cut_group : (f : ℕ) (l : List ℕ) (i a c b : ℕ) (t : Bool) → a < 2 ^ 57 → (a * 128 + c % 128 + 1 < 2 ^ 57 → groups_in f l (i + 1) (a * 128 + c % 128 + 1) ≡ Err (Cut b) → CutFits (a * 128 + c % 128 + 1) b)
    → pick t (Ok (a * 128 + c % 128, i + 1)) (pick (ltb (a * 128 + c % 128) (2 ^ 57 - 1)) (groups_in f l (i + 1) (a * 128 + c % 128 + 1)) (Err Over)) ≡ Err (Cut b) → CutFits a b
cut_group f l i a c b true h ih q = let z : ◌≡◌ {A = ℕ} 0 1 = cc in absurd (omega arith)
cut_group f l i a c b false h ih q = cut_step f l i a b (ltb (a * 128 + c % 128) (2 ^ 57 - 1)) (c % 128) h refl ih q

pub groups_cut_fit : (f : ℕ) (l : List ℕ) (i a b : ℕ) → a < 2 ^ 57 → groups_in f l i a ≡ Err (Cut b) → CutFits a b
unfolding groups_in
groups_cut_fit zero l i a b h q = let w : a ≡ b = cc in record { least = omega arith; small = omega arith }
groups_cut_fit (suc f) [] i a b h q = let w : a ≡ b = cc in record { least = omega arith; small = omega arith }
groups_cut_fit (suc f) (c ∷ l) i a b h q = cut_group f l i a c b (ltb c 128) h (λ k r. groups_cut_fit f l (i + 1) (a * 128 + c % 128 + 1) b k r) q
