-- Laws of `take`, `drop` and `get_or` in the shapes that a loop over `i + 1` and a part of a list ask. Assumes nothing.
use Rattle.std.specs.Prelude.{◌≡◌, refl, List, ◌∷◌, ◌++◌, ℕ, zero, suc, ◌+◌, ◌-◌, ◌≤◌, ◌<◌, length, get_or, take, drop, replicate}
use Rattle.std.proofs.Common.{ap, subst, add-one, arith, length-drop, drop-cons, get_or-append-add, get_or-drop, get_or-take, length-take-le}

-- one byte of what is left, in the code's own i + 1
pub drop-next : (s : List ℕ) (i : ℕ) → i < length s → drop i s ≡ get_or s i 0 ∷ drop (i + 1) s
drop-next s i h = rw (add-one, drop-cons s i 0)

pub length_part : (n at : ℕ) (s : List ℕ) → at + n ≤ length s → length (take n (drop at s)) ≡ n
length_part n at s h = length-take-le n (drop at s) (omega (arith, length-drop at s))

pub get_or_right : (p q : List ℕ) (n k : ℕ) → length p ≡ n → get_or (p ++ q) (n + k) 0 ≡ get_or q k 0
get_or_right p q n k e = subst (λ (m : ℕ). get_or (p ++ q) (m + k) 0 ≡ get_or q k 0) e (get_or-append-add p q k 0)

pub get_d_part : (s : List ℕ) (i n k : ℕ) → k < n → get_or (take n (drop i s)) k 0 ≡ get_or s (i + k) 0
get_d_part s i n k h = rw (get_or-take, get_or-drop)

-- parts of equal elements
pub take-replicate : (n m x : ℕ) → n ≤ m → take n (replicate m x) ≡ replicate n x
take-replicate zero m x h = refl
take-replicate (suc n) zero x h = absurd (omega arith)
take-replicate (suc n) (suc m) x h = ap (λ (l : List ℕ). x ∷ l) (take-replicate n m x (omega arith))

pub drop-replicate : (n m x : ℕ) → drop n (replicate m x) ≡ replicate (m - n) x
drop-replicate zero m x = let e : m - 0 ≡ m = omega arith in rw e
drop-replicate (suc n) zero x = let e : 0 - suc n ≡ 0 = omega arith in rw e
drop-replicate (suc n) (suc m) x = let e : suc m - suc n ≡ m - n = omega arith in rw e (drop-replicate n m x)
