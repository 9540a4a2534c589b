-- Big-endian numbers of any width ("All numbers are big-endian", 01, How an entry is spelled): what w bytes spell at a place, and the w bytes that spell a
-- number; each law once, over the width. Assumes nothing.
use Rattle.std.specs.Prelude.{◌≡◌, refl, List, [], ◌∷◌, ◌++◌, ℕ, zero, suc, ◌+◌, ◌*◌, ◌/◌, ◌%◌, ◌^◌, ◌≤◌, ◌<◌, length, get_or}
use Rattle.std.proofs.Common.{ap, ◌∙◌, ⊎_elim, add_assoc, pow-suc, arith, length-append}
use Rattle.std.proofs.Math.ListN.{get_or-append}
use Rattle.std.proofs.Math.Seq.{paste}
use Rattle.laws.specs.Lists.{get_or_right}
use Rattle.laws.specs.Tests.{lt_or_ge}
use Rattle.laws.specs.Paste.{get_or-pasted}

-- the number that the w bytes from `at` on spell, the upper first; a byte past the end counts as 0
unfoldable pub be_at : ℕ → List ℕ → ℕ → ℕ
be_at zero s at = 0
be_at (suc w) s at = be_at w s at * 256 + get_or s (at + w) 0

-- the w bytes that spell x modulo 256 ^ w, the upper first
unfoldable pub bytes_of : ℕ → ℕ → List ℕ
bytes_of zero x = []
bytes_of (suc w) x = bytes_of w (x / 256) ++ (x % 256 ∷ [])

pub length-bytes : (w x : ℕ) → length (bytes_of w x) ≡ w
unfolding bytes_of
length-bytes zero x = refl
length-bytes (suc w) x = length-append (bytes_of w (x / 256)) (x % 256 ∷ []) ∙ omega (arith, length-bytes w (x / 256))

-- two numbers side by side are one
pub be_join : (w v : ℕ) (s : List ℕ) (i : ℕ) → be_at (w + v) s i ≡ be_at w s i * 256 ^ v + be_at v s (i + w)
unfolding be_at
be_join w zero s i = let e : w + 0 ≡ w = omega arith in rw e (omega arith)
be_join w (suc v) s i =
    let e : w + suc v ≡ suc (w + v) = omega arith in
    let ih : be_at (w + v) s i ≡ be_at w s i * 256 ^ v + be_at v s (i + w) = be_join w v s i in
    let q : i + w + v ≡ i + (w + v) = add_assoc i w v in
    rw (e, pow-suc 256 v, q) (omega arith)

-- two lists that have the same w bytes at two places
pub be_same : (w : ℕ) (s t : List ℕ) (i j : ℕ) → ((m : ℕ) → m < w → get_or s (i + m) 0 ≡ get_or t (j + m) 0) → be_at w s i ≡ be_at w t j
unfolding be_at
be_same zero s t i j h = refl
be_same (suc w) s t i j h = rw (be_same w s t i j (λ m l. h m (omega arith)), h w (omega arith))

-- behind a list of n bytes, and before one
pub be_right : (w : ℕ) (p q : List ℕ) (n k : ℕ) → length p ≡ n → be_at w (p ++ q) (n + k) ≡ be_at w q k
be_right w p q n k e = be_same w (p ++ q) q (n + k) k (λ m l. rw (add_assoc n k m) (get_or_right p q n (k + m) e))

pub be_left : (w : ℕ) (p q : List ℕ) (k : ℕ) → k + w ≤ length p → be_at w (p ++ q) k ≡ be_at w p k
be_left w p q k h = be_same w (p ++ q) p k k (λ m l. get_or-append p q 0 (k + m) (omega arith))

-- within a paste, before it and behind it
module _ (w : ℕ) (d : List ℕ) (to : ℕ) (s : List ℕ) (n : ℕ) (hd : to ≤ length d) (hs : n ≤ length s) where
  pub be_pasted : (k : ℕ) → k + w ≤ n → be_at w (paste d to s n) (to + k) ≡ be_at w s k
  be_pasted k h = be_same w (paste d to s n) s (to + k) k (λ m l. rw (add_assoc to k m) (get_or-pasted d to s n (k + m) (omega arith) hs hd))

-- what is spelled is read back
pub be_bytes : (w x : ℕ) → x < 256 ^ w → be_at w (bytes_of w x) 0 ≡ x
unfolding be_at bytes_of
be_bytes zero x h = let e : 256 ^ 0 ≡ 1 = refl in omega arith
be_bytes (suc w) x h =
    let p : List ℕ = bytes_of w (x / 256) in
    let l : length p ≡ w = length-bytes w (x / 256) in
    let q : x < 256 ^ w * 256 = rw (pow-suc 256 w) at h in
    let e : be_at w (p ++ (x % 256 ∷ [])) 0 ≡ x / 256 = be_left w p (x % 256 ∷ []) 0 (omega arith) ∙ be_bytes w (x / 256) (omega arith) in
    let f : get_or (p ++ (x % 256 ∷ [])) (0 + w) 0 ≡ x % 256 = ap (λ (k : ℕ). get_or (p ++ (x % 256 ∷ [])) k 0) (omega arith) ∙ get_or_right p (x % 256 ∷ []) w 0 l in
    omega (arith, e, f)

-- a number of w bytes is below 256 ^ w
pub be_small : (w : ℕ) (s : List ℕ) (at : ℕ) → ((i : ℕ) → get_or s i 0 < 256) → be_at w s at < 256 ^ w
unfolding be_at
be_small zero s at h = let e : 256 ^ 0 ≡ 1 = refl in omega arith
be_small (suc w) s at h =
    let p : be_at w s at < 256 ^ w = be_small w s at h in
    let q : get_or s (at + w) 0 < 256 = h (at + w) in
    rw (pow-suc 256 w) (omega arith)

-- numbers of w bytes that are equal have equal bytes
pub bytes_same : (w : ℕ) (a b : List ℕ) (i : ℕ) → ((j : ℕ) → get_or a j 0 < 256) → ((j : ℕ) → get_or b j 0 < 256) → be_at w a i ≡ be_at w b i → (m : ℕ) → m < w → get_or a (i + m) 0 ≡ get_or b (i + m) 0
unfolding be_at
bytes_same zero a b i ha hb e m h = absurd (omega arith)
bytes_same (suc w) a b i ha hb e m h =
    let high : be_at w a i ≡ be_at w b i = omega (arith, ha (i + w), hb (i + w)) in
    let low : get_or a (i + w) 0 ≡ get_or b (i + w) 0 = omega (arith, ha (i + w), hb (i + w)) in
    ⊎_elim (λ l. bytes_same w a b i ha hb high m l) (λ l. let q : m ≡ w = omega arith in rw q low) (lt_or_ge m w)
