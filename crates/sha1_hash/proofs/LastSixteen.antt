-- Laws of the window over a list of words: of t words it has the last sixteen, word i at place i modulo 16 (`Held`), and the round puts word t where word t - 16 stood
-- (`held_more`). Earlier words count no more (`rounds_same`). Assumes nothing.
use Rattle.std.proofs.Common.{◌≡◌, ℕ, zero, suc, ◌+◌, ◌-◌, ◌*◌, ◌%◌, ◌<◌, ◌≤◌, List, [], ◌∷◌, ◌++◌, length, get_or, take, set, replicate, sym, refl, ap, ◌∙◌, ⊎_elim, eq-or-lt_of_le, arith, length-append, length-set, length-take-le, get_or-set_other, get_or-take, get_or-set_same}
use mathlib.Core.List.{flatten}
use lib.Bits.{bit_xor}
use lib.ListN.{get_or-append}
use lib.Seq.{get_or_at}
use Rattle.laws.specs.Lists.{get_or_right}
use Rattle.laws.specs.Tests.{lt_or_ge}
use Rattle.sha1_hash.specs.Sha1.{rotl, mix_of, const_of, next_word, extend, Five, turn, rounds}

-- ---- words

-- words that are there stay as they are when others are put behind
pub word_stays : (n : ℕ) (ws : List ℕ) (i : ℕ) → i < length ws → get_or (extend n ws) i 0 ≡ get_or ws i 0
unfolding extend
word_stays zero ws i h = refl
word_stays (suc n) ws i h =
    let l : length (ws ++ (next_word ws ∷ [])) ≡ length ws + 1 = length-append ws (next_word ws ∷ []) in
    word_stays n (ws ++ (next_word ws ∷ [])) i (omega arith) ∙ get_or-append ws (next_word ws ∷ []) 0 i h

next_stays : (n : ℕ) (ws : List ℕ) (t : ℕ) → length ws ≡ t → get_or (extend n (ws ++ (next_word ws ∷ []))) t 0 ≡ next_word ws
next_stays n ws t e =
    let l : length (ws ++ (next_word ws ∷ [])) ≡ length ws + 1 = length-append ws (next_word ws ∷ []) in
    word_stays n (ws ++ (next_word ws ∷ [])) t (omega arith) ∙ get_or_at ws (next_word ws) [] 0 t e

-- ---- what the window holds

-- of the t words ws the last sixteen, each at its number modulo 16
pub record Held (ws : List ℕ) (t : ℕ) (w : List ℕ) : Type 0 where
  pub count : length ws ≡ t
  pub long : length w ≡ 16
  pub place : (i : ℕ) → i < t → t ≤ i + 16 → get_or w (i % 16) 0 ≡ get_or ws i 0

-- the word t, as `renew` makes it
abbrev pub renewed : List ℕ → ℕ → ℕ
renewed w t = rotl 1 (bit_xor (bit_xor (bit_xor (get_or w ((t + 13) % 16) 0) (get_or w ((t + 8) % 16) 0)) (get_or w ((t + 2) % 16) 0)) (get_or w (t % 16) 0))

module _ (ws : List ℕ) (t : ℕ) (w : List ℕ) (held : Held ws t w) (late : 16 ≤ t) where
  word_back : (k p : ℕ) → 0 < k → k ≤ 16 → p ≡ (t - k) % 16 → get_or w p 0 ≡ get_or ws (length ws - k) 0
  word_back k p a b e =
      let n : length ws - k ≡ t - k = omega (arith, held.count) in
      rw (e, n) (held.place (t - k) (omega arith) (omega arith))

  pub renewed_next : renewed w t ≡ next_word ws
  unfolding next_word
  renewed_next =
      let back-3 : get_or w ((t + 13) % 16) 0 ≡ get_or ws (length ws - 3) 0 = word_back 3 ((t + 13) % 16) (omega arith) (omega arith) (omega arith) in
      let back-8 : get_or w ((t + 8) % 16) 0 ≡ get_or ws (length ws - 8) 0 = word_back 8 ((t + 8) % 16) (omega arith) (omega arith) (omega arith) in
      let back-14 : get_or w ((t + 2) % 16) 0 ≡ get_or ws (length ws - 14) 0 = word_back 14 ((t + 2) % 16) (omega arith) (omega arith) (omega arith) in
      let back-16 : get_or w (t % 16) 0 ≡ get_or ws (length ws - 16) 0 = word_back 16 (t % 16) (omega arith) (omega arith) (omega arith) in
      rw (back-3, back-8, back-14, back-16)

  -- the window after round t: the word t, and the others
  new_place : (x : ℕ) → x ≡ renewed w t → get_or (set w (t % 16) x) (t % 16) 0 ≡ get_or (ws ++ (next_word ws ∷ [])) t 0
  new_place x e = get_or-set_same w (t % 16) x 0 (omega (arith, held.long)) ∙ e ∙ renewed_next ∙ sym (get_or_at ws (next_word ws) [] 0 t held.count)

  old_place : (x i : ℕ) → i < t → t + 1 ≤ i + 16 → get_or (set w (t % 16) x) (i % 16) 0 ≡ get_or (ws ++ (next_word ws ∷ [])) i 0
  old_place x i h k =
      let inside : i < length ws = omega (arith, held.count) in
      get_or-set_other w (t % 16) (i % 16) x 0 (λ q. omega arith) ∙ held.place i h (omega arith) ∙ sym (get_or-append ws (next_word ws ∷ []) 0 i inside)

  pub held_more : (x : ℕ) → x ≡ renewed w t → Held (ws ++ (next_word ws ∷ [])) (t + 1) (set w (t % 16) x)
  held_more x e =
      record {
        count = length-append ws (next_word ws ∷ []) ∙ ap (λ (n : ℕ). n + 1) held.count;
        long = length-set w (t % 16) x ∙ held.long;
        place = λ i h k. let upto : i ≤ t = omega arith in ⊎_elim (λ same. rw same (new_place x e)) (λ before. old_place x i before k) (eq-or-lt_of_le upto);
      }

-- a window that is repeated has each word at its number
abbrev pub repeated : ℕ → List ℕ → List ℕ
repeated t w = take t (flatten (replicate 5 w))

module _ (w : List ℕ) (long : length w ≡ 16) where
  length-repeated : (n : ℕ) → length (flatten (replicate n w)) ≡ n * 16
  unfolding flatten
  length-repeated zero = refl
  length-repeated (suc n) = length-append w (flatten (replicate n w)) ∙ omega (arith, length-repeated n)

  repeated_place : (n i : ℕ) → i < n * 16 → get_or (flatten (replicate n w)) i 0 ≡ get_or w (i % 16) 0
  unfolding flatten
  repeated_place zero i h = absurd (omega arith)
  repeated_place (suc n) i h =
      let more = flatten (replicate n w) in
      ⊎_elim
      (λ first. let q : i % 16 ≡ i = omega arith in rw q (get_or-append w more 0 i (omega arith)))
      (λ later.
      let q : i ≡ 16 + (i - 16) = omega arith in
      let p : (i - 16) % 16 ≡ i % 16 = omega arith in
      ap (λ (k : ℕ). get_or (w ++ more) k 0) q ∙ get_or_right w more 16 (i - 16) long ∙ repeated_place n (i - 16) (omega arith) ∙ ap (λ (k : ℕ). get_or w k 0) p)
      (lt_or_ge i 16)

  held_repeated : (t : ℕ) → t ≤ 80 → Held (repeated t w) t w
  held_repeated t h =
      record {
        count = length-take-le t (flatten (replicate 5 w)) (omega (arith, length-repeated 5));
        long = long;
        place = λ i a b. sym (get_or-take t (flatten (replicate 5 w)) i 0 a ∙ repeated_place 5 i (omega arith));
      }

  -- so its next word is the word t
  pub next_repeated : (t x : ℕ) → 16 ≤ t → t < 80 → x ≡ renewed w t → x ≡ next_word (repeated t w)
  next_repeated t x late h e = e ∙ renewed_next (repeated t w) t w (held_repeated t (omega arith)) late

-- two lists of words of which one window holds the last sixteen give the same rounds
pub rounds_same : (n t : ℕ) (a b w : List ℕ) (v : Five) → Held a t w → Held b t w → 16 ≤ t → rounds (extend n a) n t v ≡ rounds (extend n b) n t v
unfolding rounds extend
rounds_same zero t a b w v p q h = refl
rounds_same (suc n) t a b w v p q h =
    let x = renewed w t in
    let a₁ = a ++ (next_word a ∷ []) in
    let b₁ = b ++ (next_word b ∷ []) in
    let word : get_or (extend n a₁) t 0 ≡ get_or (extend n b₁) t 0 =
    next_stays n a t p.count ∙ sym (renewed_next a t w p h) ∙ renewed_next b t w q h ∙ sym (next_stays n b t q.count) in
    ap (λ (y : ℕ). rounds (extend n a₁) n (t + 1) (turn (mix_of t v.b v.c v.d) (const_of t) y v)) word
    ∙ rounds_same n (t + 1) a₁ b₁ (set w (t % 16) x) _ (held_more a t w p h x refl) (held_more b t w q h x refl) (omega arith)
