-- Laws of siblings in the directions that the proofs of `src/` ask. Assumes nothing.
use Rattle.std.specs.Prelude.{ℕ, zero, suc, ◌+◌, ◌-◌, ◌<◌, ◌≡◌, refl, Bool, true, false, not, ◌&&◌, ◌||◌, List, [], ◌∷◌, length, eqb, nat_eq}
use Rattle.std.specs.Cmp.Lexicographic.{pointwise}
use Rattle.std.specs.List.{list_any, range_with_len}
use Rattle.std.proofs.Math.ListN.{drop_of_length-le}
use lib.ListN.{take}
use lib.Seq.{take-length}
use Rattle.laws.specs.Lists.{drop-next}
use Rattle.laws.specs.Tests.{lt_or_ge, tri}
use Rattle.std.proofs.Common.{arith, min, ◌≤◌, get_or, drop, ltb, le-ltb, lt-ltb, ◌⊎◌, inl, inr, sym, ap, ◌∙◌, eq-eqb, ne_eqb}
use Rattle.laws.specs.Pick.{pick}
use Rattle.laws.specs.Order.{compared, compared_lt, compared_gt, compared_eq}
use Rattle.slices.specs.Bytes.{same_bytes}
use Rattle.slices.specs.Laws.{same_equal}
use Rattle.node.specs.Store.{parent_at, name_at}
use Rattle.siblings.specs.declared.Rising.{Rising}
use Rattle.siblings.specs.Siblings.{any_in, twin, repeats, siblings_differ}
use Rattle.siblings.specs.Rising.{is_below, before, git_before, and, risen}

-- ---- by bytes: what is left to compare answers r

-- where the lists from i on are compared
module _ (a b : List ℕ) (i : ℕ) (r : Bool) (inv : before (drop i a) (drop i b) ≡ r) where
  pub before_ended : length b ≤ i → i < length a → false ≡ r
  unfolding before compared
  before_ended h k = sym (rw (drop-next a i k, drop_of_length-le b {i = i} h)) ∙ inv

  pub before_left : length a ≤ i → i < length b → true ≡ r
  unfolding before compared
  before_left h k = sym (rw (drop-next b i k, drop_of_length-le a {i = i} h)) ∙ inv

  pub before_equal : length a ≤ i → length b ≤ i → false ≡ r
  unfolding before compared
  before_equal h k = sym (rw (drop_of_length-le b {i = i} k, drop_of_length-le a {i = i} h)) ∙ inv

  pub before_end : i ≡ min (length a) (length b) → ltb (length a) (length b) ≡ r
  before_end e = by (lt_or_ge (length a) (length b)) (lt_or_ge (length b) (length a))
    where
      by : (length a < length b) ⊎ (length b ≤ length a) → (length b < length a) ⊎ (length a ≤ length b) → ltb (length a) (length b) ≡ r
      by (inl h) k = lt-ltb (length a) (length b) h ∙ before_left (omega arith) (omega arith)
      by (inr h) (inl k) = le-ltb (length a) (length b) h ∙ before_ended (omega arith) (omega arith)
      by (inr h) (inr k) = le-ltb (length a) (length b) h ∙ before_equal (omega arith) (omega arith)

  module _ (h : i < length a) (k : i < length b) where
    both_next : before (drop i a) (drop i b) ≡ is_below (compared (get_or a i 0 ∷ drop (i + 1) a) (get_or b i 0 ∷ drop (i + 1) b))
    unfolding before
    both_next = rw (drop-next a i h, drop-next b i k)

    pub before_parts : (get_or a i 0 ≡ get_or b i 0 → ⊥) → ltb (get_or a i 0) (get_or b i 0) ≡ r
    before_parts d = by (tri (get_or a i 0) (get_or b i 0))
      where
        by : (get_or a i 0 < get_or b i 0) ⊎ ((get_or a i 0 ≡ get_or b i 0) ⊎ (get_or b i 0 < get_or a i 0)) → ltb (get_or a i 0) (get_or b i 0) ≡ r
        by (inl l) = lt-ltb (get_or a i 0) (get_or b i 0) l ∙ sym (both_next ∙ ap is_below (compared_lt (get_or a i 0) (get_or b i 0) (drop (i + 1) a) (drop (i + 1) b) l)) ∙ inv
        by (inr (inl l)) = absurd (d l)
        by (inr (inr l)) = le-ltb (get_or a i 0) (get_or b i 0) (omega arith) ∙ sym (both_next ∙ ap is_below (compared_gt (get_or a i 0) (get_or b i 0) (drop (i + 1) a) (drop (i + 1) b) l)) ∙ inv

    pub before_next : get_or a i 0 ≡ get_or b i 0 → before (drop (i + 1) a) (drop (i + 1) b) ≡ r
    unfolding before
    before_next l = sym (both_next ∙ ap is_below (compared_eq (get_or a i 0) (get_or b i 0) (drop (i + 1) a) (drop (i + 1) b) l)) ∙ inv

pub ruleset compares = (before_end, before_parts, before_next)

-- ---- one child more

module _ (names ns : List ℕ) (me : ℕ) (so : Rising) (child : ℕ) where
  pub risen_first : so.last ≡ me → record { last = child; bytes = so.bytes; git = so.git } ≡ risen names ns me so child
  unfolding risen
  risen_first q = sym (rw (eq-eqb so.last me q))

  pub risen_next : (so.last ≡ me → ⊥) → (a b : List ℕ) → a ≡ name_at names ns so.last → b ≡ name_at names ns child → (less : Bool) → less ≡ before a b
      → (x y : Bool) → x ≡ and so.bytes less → y ≡ and so.git (git_before (length a) (length b) less) → record { last = child; bytes = x; git = y } ≡ risen names ns me so child
  unfolding risen
  risen_next q a b ea eb less el x y ex ey = rw (ex, ey, el, ea, eb) (sym (rw (ne_eqb so.last me q)))

-- ---- equal names

-- the library's `==` at two names
pub same_is : (a b : List ℕ) → pointwise nat_eq a b ≡ same_bytes a b
unfolding same_bytes
same_is [] [] = refl
same_is [] (y ∷ ys) = refl
same_is (x ∷ xs) [] = refl
same_is (x ∷ xs) (y ∷ ys) = by (eqb x y) (same_is xs ys)
  where
    by : (t : Bool) → pointwise nat_eq xs ys ≡ same_bytes xs ys → (t && pointwise nat_eq xs ys) ≡ pick t (same_bytes xs ys) false
    by true h = h
    by false h = refl

take_whole : (a : List ℕ) (n : ℕ) → n ≡ length a → take n (drop 0 a) ≡ a
take_whole a n e = rw (e, take-length a)

-- names of one length are compared byte by byte, and names of two lengths differ
module _ (a b x y : List ℕ) (p : a ≡ x) (q : b ≡ y) where
  pub same_names : length a ≡ length b → (r : Bool) → r ≡ same_bytes (take (length a) (drop 0 a)) (take (length a) (drop 0 b)) → r ≡ same_bytes x y
  same_names f r e = e ∙ (λ i. same_bytes (take_whole a (length a) refl i) (take_whole b (length a) f i)) ∙ (λ i. same_bytes (p i) (q i))

  pub other_names_lem : (length a ≡ length b → ⊥) → false ≡ same_bytes x y
  other_names_lem f = by (same_bytes x y) refl
    where
      by : (t : Bool) → same_bytes x y ≡ t → false ≡ t
      by true e = absurd (f (ap length (p ∙ same_equal x y e ∙ sym q)))
      by false e = refl

module _ (names ns : List ℕ) (parent i j p : ℕ) (e : p ≡ parent_at ns j) where
  pub twin_child : p ≡ parent → (t : Bool) → t ≡ same_bytes (name_at names ns i) (name_at names ns j) → t ≡ twin names ns parent i j
  unfolding twin
  twin_child q t f = f ∙ sym (rw (← e, eq-eqb p parent q))

  pub twin_other : (p ≡ parent → ⊥) → false ≡ twin names ns parent i j
  unfolding twin
  twin_other q = sym (rw (← e, ne_eqb p parent q))

-- ---- a search among numbers

-- the library's `any` over a range
pub any_is : (p : ℕ → Bool) (n i : ℕ) → list_any p (range_with_len i n) ≡ any_in p n i
unfolding any_in
any_is p zero i = refl
any_is p (suc n) i = by (p i) (any_is p n (i + 1))
  where
    by : (t : Bool) → list_any p (range_with_len (i + 1) n) ≡ any_in p n (i + 1) → (t || list_any p (range_with_len (i + 1) n)) ≡ pick t true (any_in p n (i + 1))
    by true h = refl
    by false h = h

module _ (names ns : List ℕ) (parent first i p : ℕ) (e : p ≡ parent_at ns i) where
  pub repeats_child : p ≡ parent → (t : Bool) → t ≡ any_in (twin names ns parent i) (i - first) first → t ≡ repeats names ns parent first i
  unfolding repeats
  repeats_child q t f = f ∙ sym (rw (← e, eq-eqb p parent q))

  pub repeats_other : (p ≡ parent → ⊥) → false ≡ repeats names ns parent first i
  unfolding repeats
  repeats_other q = sym (rw (← e, ne_eqb p parent q))

pub differ_is : (names ns : List ℕ) (parent first used : ℕ) (t : Bool) → t ≡ any_in (repeats names ns parent first) (used - first) first → not t ≡ siblings_differ names ns parent first used
unfolding siblings_differ
differ_is names ns parent first used t e = by t e
  where
    by : (t : Bool) → t ≡ any_in (repeats names ns parent first) (used - first) first → not t ≡ pick (any_in (repeats names ns parent first) (used - first) first) false true
    by true q = sym (rw (sym q))
    by false q = sym (rw (sym q))

pub ruleset twins = (twin_child, twin_other)
