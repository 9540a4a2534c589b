-- The order of byte lists: by unsigned bytes, a prefix first. `Before` is the relation, `compared` the walk that decides it, and the two agree. Assumes nothing.
use Rattle.std.specs.Prelude.{◌≡◌, refl, ◌⊎◌, List, [], ◌∷◌, ℕ, ◌<◌, ◌≤◌, ltb}
use Rattle.std.proofs.Common.{sym, ap, subst, ◌∙◌, inl, inr, ⊎_elim, arith, lt-ltb, le-ltb}
use Rattle.laws.specs.Pick.{pick}
use Rattle.laws.specs.Tests.{tri}

-- a stands before b: it is a proper beginning of b, or its byte is the smaller where they first part
pub data Before : List ℕ → List ℕ → Type 0 where
  prefix : {y : ℕ} {ys : List ℕ} → Before [] (y ∷ ys)
  smaller : {x y : ℕ} {xs ys : List ℕ} → x < y → Before (x ∷ xs) (y ∷ ys)
  further : {x : ℕ} {xs ys : List ℕ} → Before xs ys → Before (x ∷ xs) (x ∷ ys)

-- said of two lists, since a list that stands on both sides cannot be taken apart
apart : {a b : List ℕ} → Before a b → a ≡ b → ⊥
apart prefix e = cc
apart (smaller {x = x} {y = y} h) e = let q : x ≡ y = cc in omega arith
apart (further t) e = apart t cc

pub irreflexive : {a : List ℕ} → Before a a → ⊥
irreflexive t = apart t refl

pub transitive : {a b c : List ℕ} → Before a b → Before b c → Before a c
transitive prefix (smaller h) = prefix
transitive prefix (further t) = prefix
transitive (smaller {x = x} h) (smaller {y = z} k) = let l : x < z = omega arith in smaller l
transitive (smaller h) (further t) = smaller h
transitive (further s) (smaller k) = smaller k
transitive (further s) (further t) = further (transitive s t)

-- ---- the walk

pub data Comparison : Type 0 where
  below : Comparison
  equal : Comparison
  beyond : Comparison

unfoldable pub compared : List ℕ → List ℕ → Comparison
compared [] [] = equal
compared [] (y ∷ ys) = below
compared (x ∷ xs) [] = beyond
compared (x ∷ xs) (y ∷ ys) = pick (ltb x y) below (pick (ltb y x) beyond (compared xs ys))

abbrev pub flip : Comparison → Comparison
flip below = beyond
flip equal = equal
flip beyond = below

pub compared_lt : (x y : ℕ) (xs ys : List ℕ) → x < y → compared (x ∷ xs) (y ∷ ys) ≡ below
unfolding compared
compared_lt x y xs ys h = rw (lt-ltb x y h)

pub compared_gt : (x y : ℕ) (xs ys : List ℕ) → y < x → compared (x ∷ xs) (y ∷ ys) ≡ beyond
unfolding compared
compared_gt x y xs ys h = let l : y ≤ x = omega arith in rw (le-ltb x y l, lt-ltb y x h)

pub compared_eq : (x y : ℕ) (xs ys : List ℕ) → x ≡ y → compared (x ∷ xs) (y ∷ ys) ≡ compared xs ys
unfolding compared
compared_eq x y xs ys h = let l : y ≤ x = omega arith in let m : x ≤ y = omega arith in rw (le-ltb x y l, le-ltb y x m)

-- ---- what each answer says

pub data Compares (a b : List ℕ) : Comparison → Type 0 where
  is_below_lem : Before a b → Compares a b below
  is_equal_lem : a ≡ b → Compares a b equal
  is_beyond : Before b a → Compares a b beyond

-- one byte in front of both changes nothing
further_by : (z : ℕ) {a b : List ℕ} {c : Comparison} → Compares a b c → Compares (z ∷ a) (z ∷ b) c
further_by z (is_below_lem t) = is_below_lem (further t)
further_by z (is_equal_lem e) = is_equal_lem (ap (λ (l : List ℕ). z ∷ l) e)
further_by z (is_beyond t) = is_beyond (further t)

pub compares : (a b : List ℕ) → Compares a b (compared a b)
unfolding compared
compares [] [] = is_equal_lem refl
compares [] (y ∷ ys) = is_below_lem prefix
compares (x ∷ xs) [] = is_beyond prefix
compares (x ∷ xs) (y ∷ ys) =
    ⊎_elim (λ h. subst (Compares (x ∷ xs) (y ∷ ys)) (sym (compared_lt x y xs ys h)) (is_below_lem (smaller h)))
    (⊎_elim
    (λ h. subst (Compares (x ∷ xs) (y ∷ ys)) (sym (compared_eq x y xs ys h)) (subst (λ (z : ℕ). Compares (x ∷ xs) (z ∷ ys) (compared xs ys)) h (further_by x (compares xs ys))))
    (λ h. subst (Compares (x ∷ xs) (y ∷ ys)) (sym (compared_gt x y xs ys h)) (is_beyond (smaller h))))
    (tri x y)

-- one of three
pub one_of_three : (a b : List ℕ) → Before a b ⊎ ((a ≡ b) ⊎ Before b a)
one_of_three a b = by (compares a b)
  where
    by : {c : Comparison} → Compares a b c → Before a b ⊎ ((a ≡ b) ⊎ Before b a)
    by (is_below_lem t) = inl t
    by (is_equal_lem e) = inr (inl e)
    by (is_beyond t) = inr (inr t)

-- ---- each answer exactly when

pub before_below : {a b : List ℕ} → Before a b → compared a b ≡ below
unfolding compared
before_below prefix = refl
before_below (smaller {x} {y} {xs} {ys} h) = compared_lt x y xs ys h
before_below (further {x} {xs} {ys} t) = compared_eq x x xs ys refl ∙ before_below t

pub before_beyond : {a b : List ℕ} → Before b a → compared a b ≡ beyond
unfolding compared
before_beyond prefix = refl
before_beyond (smaller {x} {y} {xs} {ys} h) = compared_gt y x ys xs h
before_beyond (further {x} {xs} {ys} t) = compared_eq x x ys xs refl ∙ before_beyond t

pub compared_same : (a : List ℕ) → compared a a ≡ equal
unfolding compared
compared_same [] = refl
compared_same (x ∷ xs) = compared_eq x x xs xs refl ∙ compared_same xs

pub below_before : (a b : List ℕ) → compared a b ≡ below → Before a b
below_before a b e = by (subst (Compares a b) e (compares a b))
  where
    by : Compares a b below → Before a b
    by (is_below_lem t) = t

pub equal_same : (a b : List ℕ) → compared a b ≡ equal → a ≡ b
equal_same a b e = by (subst (Compares a b) e (compares a b))
  where
    by : Compares a b equal → a ≡ b
    by (is_equal_lem t) = t

pub compared_flip : (a b : List ℕ) → compared b a ≡ flip (compared a b)
compared_flip a b = by (compares a b)
  where
    by : {c : Comparison} → Compares a b c → compared b a ≡ flip c
    by (is_below_lem t) = before_beyond t
    by (is_equal_lem e) = subst (λ (l : List ℕ). compared l a ≡ equal) e (compared_same a)
    by (is_beyond t) = before_below t
