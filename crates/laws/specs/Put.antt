-- Bytes put into a list: what stood at the place is replaced, and all else is as it was. A writer's turns are `put`s side by side. Assumes nothing.
use Rattle.std.specs.Prelude.{◌≡◌, List, [], ◌∷◌, ◌++◌, ℕ, ◌+◌, ◌≤◌, ◌<◌, length, set, take, drop}
use Rattle.std.proofs.Common.{sym, ap, ◌∙◌, append_assoc, append-nil, add-zero, add-one, arith, length-append, length-drop, take-append-drop, length-take-le, take-take, take_at, drop_at, drop-drop}
use Rattle.std.proofs.Math.Seq.{paste, append_snoc, take-length}
use Rattle.std.proofs.lemmas.List.{set_split, take-append-le}

-- d with the bytes xs in the place of those from `at` on
unfoldable pub put : List ℕ → ℕ → List ℕ → List ℕ
put d at xs = (take at d ++ xs) ++ drop (at + length xs) d

pub put_none : (d : List ℕ) (at : ℕ) → put d at [] ≡ d
unfolding put
put_none d at = rw (append-nil, add-zero) (take-append-drop at d)

pub put_front : (d xs : List ℕ) → put d 0 xs ≡ xs ++ drop (length xs) d
unfolding put
put_front d xs = let q : 0 + length xs ≡ length xs = omega arith in ap (λ (k : ℕ). xs ++ drop k d) q

head_length : (d xs : List ℕ) (at : ℕ) → at ≤ length d → length (take at d ++ xs) ≡ at + length xs
head_length d xs at h = rw (length-append, length-take-le at d h)

pub length-put : (d xs : List ℕ) (at : ℕ) → at + length xs ≤ length d → length (put d at xs) ≡ length d
unfolding put
length-put d xs at h = omega (arith, length-append (take at d ++ xs) (drop (at + length xs) d), head_length d xs at (omega arith), length-drop (at + length xs) d)

-- bytes put right behind bytes that were put
pub put_put : (d xs ys : List ℕ) (at : ℕ) → at ≤ length d → put (put d at xs) (at + length xs) ys ≡ put d at (xs ++ ys)
unfolding put
put_put d xs ys at h =
    ap (λ (l : List ℕ). (l ++ ys) ++ drop (at + length xs + length ys) (put d at xs)) (take_at (take at d ++ xs) (drop (at + length xs) d) (at + length xs) (head_length d xs at h))
    ∙ ap (λ (l : List ℕ). ((take at d ++ xs) ++ ys) ++ l) past
    ∙ ap (λ (l : List ℕ). l ++ drop (at + length (xs ++ ys)) d) (append_assoc (take at d) xs ys)
  where
    both : at + length xs + length ys ≡ at + length (xs ++ ys)
    both = omega (arith, length-append xs ys)

    past : drop (at + length xs + length ys) (put d at xs) ≡ drop (at + length (xs ++ ys)) d
    past =
        sym (drop-drop (length ys) (at + length xs) ((take at d ++ xs) ++ drop (at + length xs) d))
        ∙ ap (λ (l : List ℕ). drop (length ys) l) (drop_at (take at d ++ xs) (drop (at + length xs) d) (at + length xs) (head_length d xs at h))
        ∙ drop-drop (length ys) (at + length xs) d
        ∙ ap (λ (k : ℕ). drop k d) both

-- bytes put right before bytes that were put
pub put_before : (d xs ys : List ℕ) (at : ℕ) → at + length xs ≤ length d → put (put d (at + length xs) ys) at xs ≡ put d at (xs ++ ys)
unfolding put
put_before d xs ys at h =
    ap (λ (l : List ℕ). (l ++ xs) ++ drop (at + length xs) (put d (at + length xs) ys)) early
    ∙ ap (λ (l : List ℕ). (take at d ++ xs) ++ l) late
    ∙ sym (append_assoc (take at d ++ xs) ys (drop (at + length xs + length ys) d))
    ∙ ap (λ (l : List ℕ). l ++ drop (at + length xs + length ys) d) (append_assoc (take at d) xs ys)
    ∙ ap (λ (k : ℕ). (take at d ++ (xs ++ ys)) ++ drop k d) both
  where
    both : at + length xs + length ys ≡ at + length (xs ++ ys)
    both = omega (arith, length-append xs ys)

    long : length (take (at + length xs) d) ≡ at + length xs
    long = length-take-le (at + length xs) d h

    early : take at ((take (at + length xs) d ++ ys) ++ drop (at + length xs + length ys) d) ≡ take at d
    early =
        take-append-le at (take (at + length xs) d ++ ys) (drop (at + length xs + length ys) d) (omega (arith, long, length-append (take (at + length xs) d) ys))
        ∙ take-append-le at (take (at + length xs) d) ys (omega (arith, long))
        ∙ take-take at (at + length xs) d (omega arith)

    late : drop (at + length xs) ((take (at + length xs) d ++ ys) ++ drop (at + length xs + length ys) d) ≡ ys ++ drop (at + length xs + length ys) d
    late =
        ap (λ (l : List ℕ). drop (at + length xs) l) (append_assoc (take (at + length xs) d) ys (drop (at + length xs + length ys) d))
        ∙ drop_at (take (at + length xs) d) (ys ++ drop (at + length xs + length ys) d) (at + length xs) long

-- a copy of as many elements as there are
pub paste_put : (d xs : List ℕ) (at n : ℕ) → n ≡ length xs → paste d at xs n ≡ put d at xs
unfolding put
paste_put d xs at n e = rw (e, take-length xs)

-- one store is one byte put
pub set-put : (d : List ℕ) (at a : ℕ) → at < length d → set d at a ≡ put d at (a ∷ [])
unfolding put
set-put d at a h = rw (append_snoc (take at d) a (drop (at + 1) d), add-one at) (set_split d at a h)

-- the same, from what two calls left: the second place is a number of its own
pub put_then : (d d₁ d₂ a b : List ℕ) (k k₁ : ℕ) → d₁ ≡ put d k a → k₁ ≡ k + length a → d₂ ≡ put d₁ k₁ b → k ≤ length d → d₂ ≡ put d k (a ++ b)
put_then d d₁ d₂ a b k k₁ e₁ p₁ e₂ room = e₂ ∙ (λ j. put (e₁ j) (p₁ j) b) ∙ put_put d a b k room
