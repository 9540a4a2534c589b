-- The words of the schedule are those of FIPS 180-4, 6.1.2: the first sixteen are the block's, and each other is made of four before it.
-- The definition builds the list from its start, so this says that what is built later leaves the earlier words as they are. Assumes nothing.
use Rattle.std.specs.Prelude.{◌≡◌, ℕ, zero, suc, ◌+◌, ◌-◌, ◌*◌, ◌<◌, ◌≤◌, List, [], ◌∷◌, ◌++◌, length, bit_xor, slice_index, slice_index_or, refl}
use Rattle.std.proofs.Common.{sym, ◌∙◌, ⊎_elim, eq-or-lt_of_le, arith, length-append}
use Rattle.std.proofs.Math.ListN.{get_or-append}
use Rattle.std.proofs.lemmas.List.{get_or_at}
use Rattle.wire.specs.BigEndian.{be_at}
use Rattle.sha1_hash.specs.Sha1.{rotl, words_of, next_word, extend, schedule}

-- the word t, made of four before it
abbrev pub late : List ℕ → ℕ → ℕ
late ws t = rotl 1 (bit_xor (bit_xor (bit_xor (slice_index ws (t - 3)) (slice_index ws (t - 8))) (slice_index ws (t - 14))) (slice_index ws (t - 16)))

pub words_length : (n : ℕ) (m : List ℕ) → length (words_of n m) ≡ n
unfolding words_of
words_length zero m = refl
words_length (suc n) m = rw (length-append, words_length n m) (omega arith)

pub words_word : (n t : ℕ) (m : List ℕ) → t < n → slice_index (words_of n m) t ≡ be_at 4 m (t * 4)
unfolding words_of
words_word zero t m h = absurd (omega arith)
words_word (suc n) t m h =
    let x = be_at 4 m (n * 4) in
    let same : t ≤ n = omega arith in
    ⊎_elim (λ e. rw e (get_or_at (words_of n m) x [] 0 n (words_length n m))) (λ l. get_or-append (words_of n m) (x ∷ []) 0 t (omega (arith, words_length n m)) ∙ words_word n t m l) (eq-or-lt_of_le same)

one_more_lem : (ws : List ℕ) → length (ws ++ (next_word ws ∷ [])) ≡ length ws + 1
one_more_lem ws = rw (length-append ws (next_word ws ∷ []))

extend_keeps : (n : ℕ) (ws : List ℕ) (i : ℕ) → i < length ws → slice_index (extend n ws) i ≡ slice_index ws i
unfolding extend
extend_keeps zero ws i h = refl
extend_keeps (suc n) ws i h = extend_keeps n (ws ++ (next_word ws ∷ [])) i (omega (arith, one_more_lem ws)) ∙ get_or-append ws (next_word ws ∷ []) 0 i h

-- a list that agrees below t gives the same word t
late_same : (a b : List ℕ) (t : ℕ) → 16 ≤ t → ((i : ℕ) → i < t → slice_index a i ≡ slice_index b i) → late a t ≡ late b t
late_same a b t l h = rw (h (t - 3) (omega arith), h (t - 8) (omega arith), h (t - 14) (omega arith), h (t - 16) (omega arith))

extend_word : (n : ℕ) (ws : List ℕ) (t : ℕ) → 16 ≤ length ws → length ws ≤ t → t < length ws + n → slice_index (extend n ws) t ≡ late (extend n ws) t
unfolding extend next_word
extend_word zero ws t l p q = absurd (omega arith)
extend_word (suc n) ws t l p q =
    let more = ws ++ (next_word ws ∷ []) in
    let here : slice_index_or (extend n more) (length ws) 0 ≡ late (extend n more) (length ws) =
    extend_keeps n more (length ws) (omega (arith, one_more_lem ws)) ∙ get_or_at ws (next_word ws) [] 0 (length ws) refl
    ∙ late_same ws (extend n more) (length ws) l (λ i h. sym (extend_keeps n more i (omega (arith, one_more_lem ws)) ∙ get_or-append ws (next_word ws ∷ []) 0 i h)) in
    ⊎_elim (λ e. rw (← e) here) (λ h. extend_word n more t (omega (arith, one_more_lem ws)) (omega (arith, one_more_lem ws)) (omega (arith, one_more_lem ws))) (eq-or-lt_of_le p)

pub schedule_early : (m : List ℕ) (t : ℕ) → t < 16 → slice_index (schedule m) t ≡ be_at 4 m (t * 4)
unfolding schedule
schedule_early m t h = extend_keeps 64 (words_of 16 m) t (omega (arith, words_length 16 m)) ∙ words_word 16 t m h

pub schedule_late : (m : List ℕ) (t : ℕ) → 16 ≤ t → t < 80 → slice_index (schedule m) t ≡ late (schedule m) t
unfolding schedule
schedule_late m t p q = extend_word 64 (words_of 16 m) t (omega (arith, words_length 16 m)) (omega (arith, words_length 16 m)) (omega (arith, words_length 16 m))
