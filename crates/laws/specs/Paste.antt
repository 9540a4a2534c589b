-- Laws of `paste`: a loop that pastes one element a turn, pastes side by side, and what stands at an index after one. Assumes nothing.
use Rattle.std.specs.Prelude.{◌≡◌, List, [], ◌∷◌, ◌++◌, ℕ, suc, ◌+◌, ◌-◌, ◌≤◌, ◌<◌, length, get_or, set, take, drop, replicate}
use Rattle.std.proofs.Common.{sym, ap, subst, ◌∙◌, append_assoc, add_assoc, add-one, arith, length-drop, get_or-drop, get_or-take, length-take-le, drop-drop, take_all, take-take}
use Rattle.std.proofs.lemmas.List.{length-replicate, get_or-replicate}
use Rattle.std.proofs.Math.ListN.{get_or-append}
use Rattle.laws.specs.Lists.{get_or_right}
use Rattle.std.proofs.Math.Seq.{paste, paste-suc, length_paste_head, take-append-add}
use Rattle.std.proofs.lemmas.List.Edits.{take-paste, drop-paste, sets-eq}

-- a store of s's element j at to + j takes the paste of j elements to the paste of j + 1
pub paste_more : (d d₀ : List ℕ) (to : ℕ) (s : List ℕ) (j : ℕ) → d ≡ paste d₀ to s j → to + j < length d₀ → j < length s → set d (to + j) (get_or s j 0) ≡ paste d₀ to s (j + 1)
paste_more d d₀ to s j e h k =
    ap (λ (l : List ℕ). set l (to + j) (get_or s j 0)) e ∙ paste-suc d₀ to s j 0 h k ∙ ap (λ (n : ℕ). paste d₀ to s n) (sym (add-one j))

-- the same, where the elements are those of s from `from` on
pub paste_more_from : (d d₀ : List ℕ) (to : ℕ) (s : List ℕ) (from j : ℕ) → d ≡ paste d₀ to (drop from s) j → to + j < length d₀ → from + j < length s → set d (to + j) (get_or s (from + j) 0) ≡ paste d₀ to (drop from s) (j + 1)
paste_more_from d d₀ to s from j e h k =
    ap (λ (x : ℕ). set d (to + j) x) (sym (get_or-drop from s j 0)) ∙ paste_more d d₀ to (drop from s) j e h (omega (arith, length-drop from s))

-- the same, where each element is zero
pub paste_more_zero : (d d₀ : List ℕ) (to n j : ℕ) → d ≡ paste d₀ to (replicate n 0) j → to + j < length d₀ → j < n → set d (to + j) 0 ≡ paste d₀ to (replicate n 0) (j + 1)
paste_more_zero d d₀ to n j e h k =
    ap (λ (x : ℕ). set d (to + j) x) (sym (get_or-replicate n j 0 0 k)) ∙ paste_more d d₀ to (replicate n 0) j e h (omega (arith, length-replicate {A = ℕ} n 0))

-- four stores side by side
pub set-four : (d : List ℕ) (at a b c e : ℕ) → at + 4 ≤ length d → set (set (set (set d at a) (at + 1) b) (at + 2) c) (at + 3) e ≡ paste d at (a ∷ b ∷ c ∷ e ∷ []) 4
set-four d at a b c e h =
    let p : at + 1 ≡ suc at = add-one at in
    let q : at + 2 ≡ suc (suc at) = omega arith in
    let r : at + 3 ≡ suc (suc (suc at)) = omega arith in
    rw (p, q, r) (sets-eq (a ∷ b ∷ c ∷ e ∷ []) d at h)

-- a paste right behind a paste is one paste
pub paste_paste : (d : List ℕ) (a : ℕ) (x y : List ℕ) (n m : ℕ) → length x ≡ n → m ≤ length y → a + n + m ≤ length d → paste (paste d a x n) (a + n) y m ≡ paste d a (x ++ y) (n + m)
paste_paste d a x y n m e k h =
    (λ i. (take-paste d a x n ha hx i ++ take m y) ++ past i)
    ∙ (λ i. (append_assoc (take a d) (take n x) (take m y) i) ++ drop (add_assoc a n m i) d)
    ∙ ap (λ (l : List ℕ). (take a d ++ l) ++ drop (a + (n + m)) d) both
  where
    ha : a ≤ length d
    ha = omega arith

    hx : n ≤ length x
    hx = omega arith

    past : drop (a + n + m) (paste d a x n) ≡ drop (a + n + m) d
    past = sym (drop-drop m (a + n) (paste d a x n)) ∙ ap (λ (l : List ℕ). drop m l) (drop-paste d a x n ha hx) ∙ drop-drop m (a + n) d

    both : take n x ++ take m y ≡ take (n + m) (x ++ y)
    both = ap (λ (l : List ℕ). l ++ take m y) (take_all n x (omega arith)) ∙ sym (subst (λ (q : ℕ). take (q + m) (x ++ y) ≡ x ++ take m y) e (take-append-add x y m))

-- the same, from what two calls ensure: the second place and the whole length are numbers of their own
pub paste_then : (d d₁ d₂ : List ℕ) (a b : ℕ) (x y : List ℕ) (n m k : ℕ) → d₁ ≡ paste d a x n → d₂ ≡ paste d₁ b y m → b ≡ a + n → k ≡ n + m → length x ≡ n → m ≤ length y → a + k ≤ length d → d₂ ≡ paste d a (x ++ y) k
paste_then d d₁ d₂ a b x y n m k e₁ e₂ eb ek ex ey h =
    e₂ ∙ (λ i. paste (e₁ i) (eb i) y m) ∙ paste_paste d a x y n m ex ey (omega arith) ∙ ap (λ (q : ℕ). paste d a (x ++ y) q) (sym ek)

-- only what is pasted counts
pub paste_take : (d : List ℕ) (a : ℕ) (x : List ℕ) (n : ℕ) → paste d a x n ≡ paste d a (take n x) n
paste_take d a x n = ap (λ (l : List ℕ). take a d ++ l ++ drop (a + n) d) (sym (take-take n n x (omega arith)))

-- what stands before a paste, in it, and behind it
module _ (d : List ℕ) (to : ℕ) (s : List ℕ) (n : ℕ) where
  pub get_or-before : (k : ℕ) → k < to → to ≤ length d → get_or (paste d to s n) k 0 ≡ get_or d k 0
  get_or-before k h e =
      ap (λ (l : List ℕ). get_or l k 0) (append_assoc (take to d) (take n s) (drop (to + n) d))
      ∙ get_or-append (take to d) (take n s ++ drop (to + n) d) 0 k (omega (arith, length-take-le to d e))
      ∙ get_or-take to d k 0 h

  pub get_or-pasted : (k : ℕ) → k < n → n ≤ length s → to ≤ length d → get_or (paste d to s n) (to + k) 0 ≡ get_or s k 0
  get_or-pasted k h l e =
      get_or-append (take to d ++ take n s) (drop (to + n) d) 0 (to + k) (omega (arith, length_paste_head d to s n e l))
      ∙ get_or_right (take to d) (take n s) to k (length-take-le to d e)
      ∙ get_or-take n s k 0 h

  pub get_d_after : (k : ℕ) → to + n ≤ k → n ≤ length s → to ≤ length d → get_or (paste d to s n) k 0 ≡ get_or d k 0
  get_d_after k h l e =
      let q : k ≡ to + n + (k - (to + n)) = omega arith in
      ap (λ (m : ℕ). get_or (paste d to s n) m 0) q
      ∙ get_or_right (take to d ++ take n s) (drop (to + n) d) (to + n) (k - (to + n)) (length_paste_head d to s n e l)
      ∙ get_or-drop (to + n) d (k - (to + n)) 0
      ∙ ap (λ (m : ℕ). get_or d m 0) (sym q)
