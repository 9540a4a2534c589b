-- The digits of a byte, and a turn of the loop of `hex_line`: the digits of the bytes so far stand at the start, and the rest of the line is as it was. Assumes nothing.
use mathlib.Core.Path.{◌≡◌, refl, sym, ap, ◌∙◌}
use mathlib.Core.List.{List, [], ◌∷◌, ◌++◌, append_assoc}
use Prim.Native.Nat.{ℕ, suc, ◌+◌, ◌*◌, ◌/◌, ◌<◌}
use native.Mathlib.Numerals.{add-one}
use native.Mathlib.Omega.{arith}
use lib.ListN.{length, get_or, take, drop, set, replicate, length-append}
use lib.Seq.{take-suc, length-take-le, drop-cons, set_at, take_all}
use Rattle.show.specs.Hex.{digit, hex, length-hex}

hex_append : (s t : List ℕ) → hex (s ++ t) ≡ hex s ++ hex t
unfolding hex
hex_append [] t = refl
hex_append (x ∷ s) t = ap (λ (l : List ℕ). digit (x / 16) ∷ digit x ∷ l) (hex_append s t)

pub byte_digits : (x a b : ℕ) → a ≡ digit (x / 16) → b ≡ digit x → a ∷ b ∷ [] ≡ hex (x ∷ [])
unfolding hex
byte_digits x a b ea eb = rw (ea, eb)

-- two stores at the seam
set-two : (p q : List ℕ) (n x y a b : ℕ) → length p ≡ n → set (set (p ++ x ∷ y ∷ q) n a) (n + 1) b ≡ p ++ a ∷ b ∷ q
set-two p q n x y a b e =
    let m : length (p ++ (a ∷ [])) ≡ n + 1 = rw (length-append p (a ∷ []), e) in
    let s : set (p ++ x ∷ y ∷ q) n a ≡ (p ++ (a ∷ [])) ++ y ∷ q = set_at p x (y ∷ q) a n e ∙ sym (append_assoc p (a ∷ []) (y ∷ q)) in
    ap (λ (l : List ℕ). set l (n + 1) b) s ∙ set_at (p ++ (a ∷ [])) y q b (n + 1) m ∙ append_assoc p (a ∷ []) (b ∷ q)

pub hex_more : (s w w₀ : List ℕ) (i a b : ℕ) → i < 20 → length s ≡ 20 → length w₀ ≡ 41 → a ≡ digit (get_or s i 0 / 16) → b ≡ digit (get_or s i 0)
    → w ≡ hex (take i s) ++ drop (i * 2) w₀ → set (set w (i * 2) a) (i * 2 + 1) b ≡ hex (take (i + 1) s) ++ drop ((i + 1) * 2) w₀
unfolding hex
hex_more s w w₀ i a b h ls lw ea eb inv =
    let l : length (hex (take i s)) ≡ i * 2 = length-hex (take i s) ∙ ap (λ (k : ℕ). k * 2) (length-take-le i s (omega arith)) in
    let two : (i + 1) * 2 ≡ suc (suc (i * 2)) = omega arith in
    let rest : drop (i * 2) w₀ ≡ get_or w₀ (i * 2) 0 ∷ get_or w₀ (suc (i * 2)) 0 ∷ drop (suc (suc (i * 2))) w₀ =
    drop-cons w₀ (i * 2) 0 (omega arith) ∙ ap (λ (t : List ℕ). get_or w₀ (i * 2) 0 ∷ t) (drop-cons w₀ (suc (i * 2)) 0 (omega arith)) in
    let digits : hex (take (i + 1) s) ≡ hex (take i s) ++ (a ∷ b ∷ []) =
    ap (λ (k : ℕ). hex (take k s)) (add-one i) ∙ ap hex (take-suc s i 0 (omega arith)) ∙ hex_append (take i s) (get_or s i 0 ∷ []) ∙ rw (ea, eb) in
    ap (λ (t : List ℕ). set (set t (i * 2) a) (i * 2 + 1) b) (inv ∙ ap (λ (t : List ℕ). hex (take i s) ++ t) rest)
    ∙ set-two (hex (take i s)) (drop (suc (suc (i * 2))) w₀) (i * 2) (get_or w₀ (i * 2) 0) (get_or w₀ (suc (i * 2)) 0) a b l
    ∙ sym (append_assoc (hex (take i s)) (a ∷ b ∷ []) (drop (suc (suc (i * 2))) w₀))
    ∙ (λ k. sym digits k ++ drop (sym two k) w₀)

pub hex_end : (s w : List ℕ) (i : ℕ) → length s ≡ 20 → i ≡ 20 → w ≡ hex (take i s) ++ drop (i * 2) (replicate 41 10) → w ≡ hex s ++ (10 ∷ [])
hex_end s w i l e inv = (rw e at inv) ∙ ap (λ (t : List ℕ). hex t ++ (10 ∷ [])) (take_all 20 s (omega arith))
