-- Laws of the order's and the tree's definitions, turned the way that the needs ask. Assumes nothing.
use mathlib.Core.Bool.{Bool, true, false, not}
use mathlib.Core.Logic.{⊎_elim}
use lib.Dec.{ltb}
use Rattle.laws.specs.Tests.{lt_or_ge}
use mathlib.Core.Path.{◌≡◌, refl, sym, ap, ◌∙◌, subst}
use mathlib.Core.List.{List, [], ◌∷◌, ◌++◌}
use Prim.Native.Nat.{ℕ, suc, ◌+◌, ◌-◌, ◌/◌, ◌≤◌, ◌<◌, min}
use native.Mathlib.Nat.{pos_of_ne-zero}
use native.Mathlib.Omega.{arith}
use lib.ListN.{length, set, length-append}
use Rattle.laws.specs.Pick.{pick}
use lib.Seq.{paste}
use borrow.Author.Tests.{le-leb, lt-leb, eq-eqb, ne_eqb}
use Rattle.laws.specs.Put.{put_then, put, put_none, put_put, length-put, paste_put, set-put}
use Rattle.laws.specs.Order.{Comparison, below, equal, beyond, compared, Compares, is_below_lem, is_equal_lem, is_beyond, compares, before_below, compared_same}
use Rattle.sums.specs.Cap.{largest, cap, cap_fits, cap_over, cap_small, cap_le, cap_below, cap_cap}
use Rattle.wire.specs.Written.{digits_of}
use Rattle.format.specs.Format.{depth_limit, id_size}
use Rattle.node.specs.Head.{minus_one}
use Rattle.node.specs.Store.{nodes_in, count_at, subtrees_at, parent_at, id_at, name_at}
use Rattle.siblings.specs.Siblings.{is_child}
use Rattle.siblings.specs.Rising.{is_below}
use Rattle.siblings.specs.Rising as rising
use Rattle.tree_write.specs.Order.{by_index, before, false_true}
use Rattle.tree_write.specs.Tree.{count_bytes, front_bytes, number_bytes, id_bytes, head_bytes, better, best_run, next_kid, kids, each, node_bytes, put_fit}
use Rattle.tree_write.specs.Children.{passing, table_kids, sum_over, each_length, kids_sum}

-- a sum that stops at the largest number
pub min_cap : (n r : ℕ) → r ≡ min n largest → r ≡ cap n
min_cap n r e = ⊎_elim (λ h. omega (arith, cap_over n h)) (λ h. omega (arith, cap_fits n h)) (lt_or_ge largest n)

-- ---- bytes put side by side

-- a part right behind another
module _ (d d₁ d₂ a b : List ℕ) (k k₁ : ℕ) (e₁ : d₁ ≡ put d k a) (p₁ : k₁ ≡ k + length a) where
  pub both_put : d₂ ≡ put d₁ k₁ b → k + length (a ++ b) ≤ length d → d₂ ≡ put d k (a ++ b)
  both_put e₂ room = put_then d d₁ d₂ a b k k₁ e₁ p₁ e₂ (omega (arith, length-append a b))

pub bytes_put : (d d₁ xs : List ℕ) (k : ℕ) → d₁ ≡ paste d k xs (length xs) → d₁ ≡ put d k xs
bytes_put d d₁ xs k e = e ∙ paste_put d xs k (length xs) refl

pub byte_put : (d : List ℕ) (k b : ℕ) → k < length d → set d k b ≡ put d k (b ∷ [])
byte_put d k b h = set-put d k b h

-- ---- an id

-- the id of a node that has one, of which x is a copy
module _ (ns : List ℕ) (i count : ℕ) (ec : count ≡ count_at ns i) where
  id_in : (count ≡ minus_one → ⊥) → id_bytes id_size ns i ≡ id_at id_size ns i
  unfolding id_bytes
  id_in h = rw (ne_eqb (count_at ns i) minus_one (λ q. h (ec ∙ q)))

  pub id_long : (count ≡ minus_one → ⊥) → (x : List ℕ) → x ≡ id_at id_size ns i → length x ≡ length (id_bytes id_size ns i)
  id_long h x e = ap length (e ∙ sym (id_in h))

  pub id_room_lem : (count ≡ minus_one → ⊥) → (x : List ℕ) → x ≡ id_at id_size ns i → (k m : ℕ) → k + length (id_bytes id_size ns i) ≤ m → k + length x ≤ m
  id_room_lem h x e k m r = omega (arith, id_long h x e)

-- ---- a head's parts

module _ (ns nm : List ℕ) (i : ℕ) (d : List ℕ) (k : ℕ) (room : k + length (front_bytes ns nm i) ≤ length d) (name : List ℕ) (en : name ≡ name_at nm ns i) (count : ℕ) (ec : count ≡ count_at ns i) where
  front_is : front_bytes ns nm i ≡ (name ++ (0 ∷ [])) ++ count_bytes count
  unfolding front_bytes
  front_is = sym (λ j. (en j ++ (0 ∷ [])) ++ count_bytes (ec j))

  front_long : length (front_bytes ns nm i) ≡ length name + 1 + length (count_bytes count)
  front_long = ap length front_is ∙ omega (arith, length-append (name ++ (0 ∷ [])) (count_bytes count), length-append name (0 ∷ []))

  pub front_name : k + length name ≤ length d
  front_name = omega (arith, front_long)

  module _ (d₁ : List ℕ) (k₁ : ℕ) (e₁ : d₁ ≡ put d k name) (p₁ : k₁ ≡ k + length name) where
    same₁ : length d₁ ≡ length d
    same₁ = ap length e₁ ∙ length-put d name k front_name

    pub front_nul : k₁ < length d₁
    front_nul = omega (arith, same₁, front_long)

    module _ (d₂ : List ℕ) (k₂ : ℕ) (e₂ : d₂ ≡ put d₁ k₁ (0 ∷ [])) (p₂ : k₂ ≡ k₁ + 1) where
      same₂ : length d₂ ≡ length d
      same₂ = ap length e₂ ∙ length-put d₁ (0 ∷ []) k₁ (omega (arith, front_nul)) ∙ same₁

      pub front_count : k₂ + length (count_bytes count) ≤ length d₂
      front_count = omega (arith, same₂, front_long)

      pub front_next : (k₃ : ℕ) → k₃ ≡ k₂ + length (count_bytes count) → k₃ ≡ k + length (front_bytes ns nm i)
      front_next k₃ p₃ = omega (arith, front_long)

      pub front_put : (d₃ : List ℕ) → d₃ ≡ put d₂ k₂ (count_bytes count) → d₃ ≡ put d k (front_bytes ns nm i)
      front_put d₃ e₃ =
          let q₂ : d₂ ≡ put d k (name ++ (0 ∷ [])) = both_put d d₁ d₂ name (0 ∷ []) k k₁ e₁ p₁ e₂ (omega (arith, front_long, length-append name (0 ∷ []))) in
          let n₂ : k₂ ≡ k + length (name ++ (0 ∷ [])) = omega (arith, length-append name (0 ∷ [])) in
          both_put d d₂ d₃ (name ++ (0 ∷ [])) (count_bytes count) k k₂ q₂ n₂ e₃ (omega (arith, ap length front_is)) ∙ ap (λ (l : List ℕ). put d k l) (sym front_is)

module _ (ns : List ℕ) (i : ℕ) (d : List ℕ) (k : ℕ) (room : k + length (number_bytes ns i) ≤ length d) (subtrees : ℕ) (es : subtrees ≡ subtrees_at ns i) where
  numbers_are : number_bytes ns i ≡ ((32 ∷ []) ++ digits_of 10 subtrees) ++ (10 ∷ [])
  unfolding number_bytes
  numbers_are = sym (λ j. ((32 ∷ []) ++ digits_of 10 (es j)) ++ (10 ∷ []))

  numbers_long : length (number_bytes ns i) ≡ 1 + length (digits_of 10 subtrees) + 1
  numbers_long = ap length numbers_are ∙ omega (arith, length-append ((32 ∷ []) ++ digits_of 10 subtrees) (10 ∷ []), length-append (32 ∷ []) (digits_of 10 subtrees))

  pub numbers_space : k < length d
  numbers_space = omega (arith, numbers_long)

  module _ (d₁ : List ℕ) (k₁ : ℕ) (e₁ : d₁ ≡ put d k (32 ∷ [])) (p₁ : k₁ ≡ k + 1) where
    number₁ : length d₁ ≡ length d
    number₁ = ap length e₁ ∙ length-put d (32 ∷ []) k (omega (arith, numbers_space))

    pub numbers_digits : k₁ + length (digits_of 10 subtrees) ≤ length d₁
    numbers_digits = omega (arith, number₁, numbers_long)

    module _ (d₂ : List ℕ) (k₂ : ℕ) (e₂ : d₂ ≡ put d₁ k₁ (digits_of 10 subtrees)) (p₂ : k₂ ≡ k₁ + length (digits_of 10 subtrees)) where
      number₂ : length d₂ ≡ length d
      number₂ = ap length e₂ ∙ length-put d₁ (digits_of 10 subtrees) k₁ numbers_digits ∙ number₁

      pub numbers_line : k₂ < length d₂
      numbers_line = omega (arith, number₂, numbers_long)

      pub numbers_next : (k₃ : ℕ) → k₃ ≡ k₂ + 1 → k₃ ≡ k + length (number_bytes ns i)
      numbers_next k₃ p₃ = omega (arith, numbers_long)

      pub numbers_put : (d₃ : List ℕ) → d₃ ≡ put d₂ k₂ (10 ∷ []) → d₃ ≡ put d k (number_bytes ns i)
      numbers_put d₃ e₃ =
          let q₂ : d₂ ≡ put d k ((32 ∷ []) ++ digits_of 10 subtrees) = both_put d d₁ d₂ (32 ∷ []) (digits_of 10 subtrees) k k₁ e₁ p₁ e₂ (omega (arith, numbers_long, length-append (32 ∷ []) (digits_of 10 subtrees))) in
          let n₂ : k₂ ≡ k + length ((32 ∷ []) ++ digits_of 10 subtrees) = omega (arith, length-append (32 ∷ []) (digits_of 10 subtrees)) in
          both_put d d₂ d₃ ((32 ∷ []) ++ digits_of 10 subtrees) (10 ∷ []) k k₂ q₂ n₂ e₃ (omega (arith, ap length numbers_are)) ∙ ap (λ (l : List ℕ). put d k l) (sym numbers_are)

-- ---- a head

module _ (ns nm : List ℕ) (i : ℕ) where
  abbrev f : List ℕ
  f = front_bytes ns nm i

  abbrev g : List ℕ
  g = number_bytes ns i

  abbrev h : List ℕ
  h = id_bytes id_size ns i

  head_is : head_bytes id_size ns nm i ≡ (f ++ g) ++ h
  unfolding head_bytes
  head_is = refl

  head_long : length (head_bytes id_size ns nm i) ≡ length f + length g + length h
  head_long = ap length head_is ∙ omega (arith, length-append (f ++ g) h, length-append f g)

  module _ (d : List ℕ) (k : ℕ) (room : k + length (head_bytes id_size ns nm i) ≤ length d) where
    pub head_first : k + length (front_bytes ns nm i) ≤ length d
    head_first = omega (arith, head_long)

    module _ (d₁ : List ℕ) (k₁ : ℕ) (e₁ : d₁ ≡ put d k (front_bytes ns nm i)) (p₁ : k₁ ≡ k + length (front_bytes ns nm i)) where
      head₁ : length d₁ ≡ length d
      head₁ = ap length e₁ ∙ length-put d f k head_first

      pub head_second : k₁ + length (number_bytes ns i) ≤ length d₁
      head_second = omega (arith, head₁, head_long)

      module _ (d₂ : List ℕ) (k₂ : ℕ) (e₂ : d₂ ≡ put d₁ k₁ (number_bytes ns i)) (p₂ : k₂ ≡ k₁ + length (number_bytes ns i)) where
        head₂ : length d₂ ≡ length d
        head₂ = ap length e₂ ∙ length-put d₁ g k₁ head_second ∙ head₁

        pub head_third : k₂ + length (id_bytes id_size ns i) ≤ length d₂
        head_third = omega (arith, head₂, head_long)

        pub head_next : (k₃ : ℕ) → k₃ ≡ k₂ + length (id_bytes id_size ns i) → k₃ ≡ k + length (head_bytes id_size ns nm i)
        head_next k₃ p₃ = omega (arith, head_long)

        pub head_put : (d₃ : List ℕ) → d₃ ≡ put d₂ k₂ (id_bytes id_size ns i) → d₃ ≡ put d k (head_bytes id_size ns nm i)
        head_put d₃ e₃ =
            let q₂ : d₂ ≡ put d k (f ++ g) = both_put d d₁ d₂ f g k k₁ e₁ p₁ e₂ (omega (arith, head_long, length-append f g)) in
            let n₂ : k₂ ≡ k + length (f ++ g) = omega (arith, length-append f g) in
            both_put d d₂ d₃ (f ++ g) h k k₂ q₂ n₂ e₃ (omega (arith, ap length head_is)) ∙ ap (λ (l : List ℕ). put d k l) (sym head_is)

  pub head_size_lem : (name : List ℕ) (count subtrees digits more id named counted numbered r : ℕ) → name ≡ name_at nm ns i → count ≡ count_at ns i → subtrees ≡ subtrees_at ns i → digits ≡ length (count_bytes count) → more ≡ length (digits_of 10 subtrees)
      → id ≡ length (id_bytes id_size ns i) → named ≡ cap (length name + 3) → counted ≡ cap (named + digits) → numbered ≡ cap (counted + more) → r ≡ cap (numbered + id) → r ≡ cap (length (head_bytes id_size ns nm i))
  unfolding front_bytes number_bytes
  head_size_lem name count subtrees digits more id named counted numbered r en ec es ed em ei e₁ e₂ e₃ e₄ =
      let fl : length (front_bytes ns nm i) ≡ length name + 1 + digits
      = omega (arith, ap length en, ap (λ (x : ℕ). length (count_bytes x)) ec, length-append (name_at nm ns i ++ (0 ∷ [])) (count_bytes (count_at ns i)), length-append (name_at nm ns i) (0 ∷ [])) in
      let gl : length (number_bytes ns i) ≡ 1 + more + 1
      = omega (arith, ap (λ (x : ℕ). length (digits_of 10 x)) es, length-append ((32 ∷ []) ++ digits_of 10 (subtrees_at ns i)) (10 ∷ []), length-append (32 ∷ []) (digits_of 10 (subtrees_at ns i))) in
      let z : length name + 3 + digits + more + id ≡ length (head_bytes id_size ns nm i) = omega (arith, head_long) in
      e₄ ∙ ap (λ (x : ℕ). cap (x + id)) (e₃ ∙ ap (λ (x : ℕ). cap (x + more)) (e₂ ∙ ap (λ (x : ℕ). cap (x + digits)) e₁ ∙ cap_cap (length name + 3) digits) ∙ cap_cap (length name + 3 + digits) more)
      ∙ cap_cap (length name + 3 + digits + more) id ∙ ap cap z

-- ---- the order of two nodes

module _ (ns nm : List ℕ) (i j : ℕ) (a b : List ℕ) (ea : a ≡ name_at nm ns i) (eb : b ≡ name_at nm ns j) (t : Bool) (et : t ≡ rising.before a b) where
  compare_below : (x : Comparison) → is_below x ≡ true → x ≡ below
  compare_below below e = refl
  compare_below equal e = absurd (false_true e)
  compare_below beyond e = absurd (false_true e)

  named : compared a b ≡ compared (name_at nm ns i) (name_at nm ns j)
  named = λ k. compared (ea k) (eb k)

  pub before_less : t ≡ true → t ≡ before ns nm i j
  unfolding before by_index rising.before
  before_less h = h ∙ sym (ap (λ (x : Comparison). by_index x i j) (sym named ∙ compare_below (compared a b) (sym et ∙ h)))

  module _ (h : t ≡ false) (u : Bool) (eu : u ≡ rising.before b a) where
    pub before_greater : u ≡ true → not u ≡ before ns nm i j
    unfolding before by_index rising.before
    before_greater k = ap not k ∙ by (compares a b) refl
      where
        by : {x : Comparison} → Compares a b x → compared a b ≡ x → false ≡ by_index (compared (name_at nm ns i) (name_at nm ns j)) i j
        by (is_beyond s) e = sym (ap (λ (x : Comparison). by_index x i j) (sym named ∙ e))
        by (is_below_lem s) e = absurd (false_true (sym h ∙ et ∙ ap is_below e))
        by (is_equal_lem s) e = absurd (false_true (sym (ap is_below (equal_flip s)) ∙ sym eu ∙ k))
          where
            equal_flip : a ≡ b → compared b a ≡ equal
            equal_flip q = subst (λ (x : List ℕ). compared b x ≡ equal) (sym q) (compared_same b)

    tied : u ≡ false → compared (name_at nm ns i) (name_at nm ns j) ≡ equal
    unfolding rising.before
    tied k = sym named ∙ by (compares a b) refl
      where
        by : {x : Comparison} → Compares a b x → compared a b ≡ x → compared a b ≡ equal
        by (is_equal_lem s) e = e
        by (is_below_lem s) e = absurd (false_true (sym h ∙ et ∙ ap is_below e))
        by (is_beyond s) e = absurd (false_true (sym k ∙ eu ∙ ap is_below (before_below s)))

    pub before_tied : u ≡ false → ltb i j ≡ before ns nm i j
    unfolding before by_index
    before_tied k = sym (rw (tied k))

-- ---- the pass
pub run_start : (ns nm : List ℕ) (p last n : ℕ) → n ≡ nodes_in ns → best_run ns nm p last (n - 1) 1 0 ≡ next_kid ns nm p last
unfolding next_kid
run_start ns nm p last n e = rw e

module _ (ns nm : List ℕ) (p last n j best r : ℕ) (inv : best_run ns nm p last (n - j) j best ≡ r) where
  pub run_end : n ≤ j → best ≡ r
  unfolding best_run
  run_end h = let q : n - j ≡ 0 = omega arith in rw q at inv

  pub run_more : (b : ℕ) → j < n → b ≡ better ns nm p last best j → best_run ns nm p last (n - (j + 1)) (j + 1) b ≡ r
  unfolding best_run
  run_more b h e = let q : n - j ≡ suc (n - (j + 1)) = omega arith in rw e (rw q at inv)

-- ---- the children
module _ (ns nm : List ℕ) (p left last kid : ℕ) (more : 0 < left) (is : kid ≡ next_kid ns nm p last) where
  one : left ≡ suc (left - 1)
  one = omega arith

  pub kids_stop : kid ≡ 0 → kids ns nm p left last ≡ []
  unfolding kids
  kids_stop q = rw (one, ← is, eq-eqb kid 0 q)

  step : (k : ℕ) → (kid ≡ 0 → ⊥) → kids ns nm p (suc k) last ≡ kid ∷ kids ns nm p k kid
  unfolding kids
  step k q = rw (← is, ne_eqb kid 0 q)

  pub kids_more : (kid ≡ 0 → ⊥) → kids ns nm p left last ≡ kid ∷ kids ns nm p (left - 1) kid
  kids_more q = ap (λ (k : ℕ). kids ns nm p k last) one ∙ step (left - 1) q

pub kids_none : (ns nm : List ℕ) (p left last : ℕ) → left ≤ 0 → kids ns nm p left last ≡ []
unfolding kids
kids_none ns nm p left last h = let q : left ≡ 0 = omega arith in rw q

-- ---- a node
module _ (ns nm : List ℕ) (depth me : ℕ) where
  pub node_zero_at : (at : ℕ) → depth ≡ 0 → at ≡ at + length (node_bytes id_size ns nm depth me)
  unfolding node_bytes
  node_zero_at at h = rw h (omega arith)

  pub node_zero_put : (d : List ℕ) (at : ℕ) → depth ≡ 0 → d ≡ put d at (node_bytes id_size ns nm depth me)
  unfolding node_bytes
  node_zero_put d at h = rw h (sym (put_none d at))

  module _ (deep : depth ≡ 0 → ⊥) where
    pub node_cut : node_bytes id_size ns nm depth me ≡ head_bytes id_size ns nm me ++ each (node_bytes id_size ns nm (depth - 1)) (kids ns nm me (length ns / 72) 0)
    unfolding node_bytes
    node_cut = ap (λ (k : ℕ). node_bytes id_size ns nm k me) q
      where
        q : depth ≡ suc (depth - 1)
        q = let z : 0 < depth = pos_of_ne-zero deep in omega arith

    pub node_long : length (node_bytes id_size ns nm depth me) ≡ length (head_bytes id_size ns nm me) + length (each (node_bytes id_size ns nm (depth - 1)) (kids ns nm me (length ns / 72) 0))
    node_long = ap length node_cut ∙ length-append (head_bytes id_size ns nm me) (each (node_bytes id_size ns nm (depth - 1)) (kids ns nm me (length ns / 72) 0))

    pub node_head : (at m : ℕ) → at + length (node_bytes id_size ns nm depth me) ≤ m → at + length (head_bytes id_size ns nm me) ≤ m
    node_head at m h = omega (arith, node_long)

    pub node_rest : (at m m' pos : ℕ) → at + length (node_bytes id_size ns nm depth me) ≤ m → m' ≡ m → pos ≡ at + length (head_bytes id_size ns nm me) → pos + length (each (node_bytes id_size ns nm (depth - 1)) (kids ns nm me (length ns / 72) 0)) ≤ m'
    node_rest at m m' pos h q e = omega (arith, node_long)

    module _ (at left last pos pos₀ : ℕ) (none : kids ns nm me left last ≡ []) (e₀ : pos₀ ≡ at + length (head_bytes id_size ns nm me)) where
      node_at_lem : pos + length (each (node_bytes id_size ns nm (depth - 1)) (kids ns nm me left last)) ≡ pos₀ + length (each (node_bytes id_size ns nm (depth - 1)) (kids ns nm me (length ns / 72) 0)) → pos ≡ at + length (node_bytes id_size ns nm depth me)
      unfolding each
      node_at_lem h = let z : pos + 0 ≡ pos₀ + length (each (node_bytes id_size ns nm (depth - 1)) (kids ns nm me (length ns / 72) 0)) = rw none at h in omega (arith, node_long)

      node_put : (d d₀ d₁ : List ℕ) → at ≤ length d → d₀ ≡ put d at (head_bytes id_size ns nm me)
          → put d₁ pos (each (node_bytes id_size ns nm (depth - 1)) (kids ns nm me left last)) ≡ put d₀ pos₀ (each (node_bytes id_size ns nm (depth - 1)) (kids ns nm me (length ns / 72) 0)) → d₁ ≡ put d at (node_bytes id_size ns nm depth me)
      unfolding each
      node_put d d₀ d₁ room e h =
          sym (put_none d₁ pos)
          ∙ (rw none at h)
          ∙ (rw (e, e₀, node_cut) (put_put d (head_bytes id_size ns nm me) (each (node_bytes id_size ns nm (depth - 1)) (kids ns nm me (length ns / 72) 0)) at room))

-- ---- the loop over the children, each written at most b levels deep

module _ (b : ℕ) (ns nm : List ℕ) (p left last kid pos : ℕ) (is : kids ns nm p left last ≡ kid ∷ kids ns nm p (left - 1) kid) where
  each_cut : each (node_bytes id_size ns nm b) (kids ns nm p left last) ≡ node_bytes id_size ns nm b kid ++ each (node_bytes id_size ns nm b) (kids ns nm p (left - 1) kid)
  unfolding each
  each_cut = rw is

  each_long : length (each (node_bytes id_size ns nm b) (kids ns nm p left last)) ≡ length (node_bytes id_size ns nm b kid) + length (each (node_bytes id_size ns nm b) (kids ns nm p (left - 1) kid))
  each_long = ap length each_cut ∙ length-append (node_bytes id_size ns nm b kid) (each (node_bytes id_size ns nm b) (kids ns nm p (left - 1) kid))

  each_room : (m : ℕ) → pos + length (each (node_bytes id_size ns nm b) (kids ns nm p left last)) ≤ m → pos + length (node_bytes id_size ns nm b kid) ≤ m
  each_room m h = omega (arith, each_long)

  each_next : (pos' : ℕ) → pos' ≡ pos + length (node_bytes id_size ns nm b kid) → pos' + length (each (node_bytes id_size ns nm b) (kids ns nm p (left - 1) kid)) ≡ pos + length (each (node_bytes id_size ns nm b) (kids ns nm p left last))
  each_next pos' e = omega (arith, each_long)

  each_put : (d d' r : List ℕ) (pos' : ℕ) → pos ≤ length d → put d pos (each (node_bytes id_size ns nm b) (kids ns nm p left last)) ≡ r → d' ≡ put d pos (node_bytes id_size ns nm b kid) → pos' ≡ pos + length (node_bytes id_size ns nm b kid) → put d' pos' (each (node_bytes id_size ns nm b) (kids ns nm p (left - 1) kid)) ≡ r
  each_put d d' r pos' room inv e q = rw (e, q) (put_put d (node_bytes id_size ns nm b kid) (each (node_bytes id_size ns nm b) (kids ns nm p (left - 1) kid)) pos room ∙ (rw each_cut at inv))

pub node_size_none : (ns nm : List ℕ) (depth me : ℕ) → depth ≡ 0 → 0 ≡ cap (length (node_bytes id_size ns nm depth me))
unfolding node_bytes cap
node_size_none ns nm depth me h = rw h

-- the size so far and that of the children that are left, as they stand, make up the whole
pub record Adding (ns nm : List ℕ) (b me n j size r : ℕ) : Type 0 where
  pub low : 1 ≤ j
  pub small : size ≤ largest
  pub run : cap (size + sum_over (λ x. length (node_bytes id_size ns nm b x)) (table_kids ns me (n - j) j)) ≡ r

pub adding_start : (ns nm : List ℕ) (depth me n size : ℕ) → (depth ≡ 0 → ⊥) → n ≡ nodes_in ns → size ≡ cap (length (head_bytes id_size ns nm me)) → Adding ns nm (depth - 1) me n 1 size (cap (length (node_bytes id_size ns nm depth me)))
adding_start ns nm depth me n size deep en e =
    let rest : ℕ = sum_over (λ x. length (node_bytes id_size ns nm (depth - 1) x)) (table_kids ns me (nodes_in ns - 1) 1) in
    let z : length (head_bytes id_size ns nm me) + rest ≡ length (node_bytes id_size ns nm depth me) =
    omega (arith, node_long ns nm depth me deep, each_length (node_bytes id_size ns nm (depth - 1)) (kids ns nm me (length ns / 72) 0), kids_sum ns nm me (λ x. length (node_bytes id_size ns nm (depth - 1) x))) in
    record {
      low = omega arith;
      small = omega (arith, cap_small (length (head_bytes id_size ns nm me)));
      run = rw en (ap (λ (k : ℕ). cap (k + rest)) e ∙ cap_cap (length (head_bytes id_size ns nm me)) rest ∙ ap cap z);
    }

module _ (ns nm : List ℕ) (b me n j size r : ℕ) (inv : Adding ns nm b me n j size r) where
  abbrev sizes : ℕ → ℕ
  sizes x = length (node_bytes id_size ns nm b x)

  pub adding_end : n ≤ j → size ≡ r
  unfolding passing sum_over
  adding_end h =
      let q : n - j ≡ 0 = omega arith in
      let z : cap (size + 0) ≡ r = rw q at inv.run in
      omega (arith, z, cap_fits (size + 0) (omega (arith, inv.small)))

  module _ (h : j < n) (p : ℕ) (e : p ≡ parent_at ns j) where
    kids_cut : table_kids ns me (n - j) j ≡ pick (is_child ns me j) (j ∷ table_kids ns me (n - (j + 1)) (j + 1)) (table_kids ns me (n - (j + 1)) (j + 1))
    unfolding passing
    kids_cut = let z : n - j ≡ suc (n - (j + 1)) = omega arith in ap (λ (k : ℕ). table_kids ns me k j) z

    pub adding_other : (p ≡ me → ⊥) → Adding ns nm b me n (j + 1) size r
    adding_other d = record {
      low = omega arith;
      small = inv.small;
      run = sym (ap (λ (l : List ℕ). cap (size + sum_over sizes l)) (kids_cut ∙ rw (ne_eqb (parent_at ns j) me (λ q. d (e ∙ q))))) ∙ inv.run;
    }

    pub adding_kid : p ≡ me → (one next : ℕ) → one ≡ cap (length (node_bytes id_size ns nm b j)) → next ≡ cap (size + one) → Adding ns nm b me n (j + 1) next r
    unfolding sum_over
    adding_kid d one next eo en =
        let rest : ℕ = sum_over sizes (table_kids ns me (n - (j + 1)) (j + 1)) in
        let c : table_kids ns me (n - j) j ≡ j ∷ table_kids ns me (n - (j + 1)) (j + 1) = kids_cut ∙ rw (eq-eqb (parent_at ns j) me (sym e ∙ d)) in
        let x : size + one + rest ≡ one + (size + rest) = omega arith in
        let y : length (node_bytes id_size ns nm b j) + (size + rest) ≡ size + sum_over sizes (table_kids ns me (n - j) j) = omega (arith, ap (sum_over sizes) c) in
        record {
          low = omega arith;
          small = omega (arith, cap_small (size + one));
          run = ap (λ (k : ℕ). cap (k + rest)) en ∙ cap_cap (size + one) rest ∙ ap cap x ∙ ap (λ (k : ℕ). cap (k + (size + rest))) eo ∙ cap_cap (length (node_bytes id_size ns nm b j)) (size + rest) ∙ ap cap y ∙ inv.run;
        }

-- ---- the loop that writes the children

-- putting the bytes of the children that are left at the present place gives the whole output, and they fit
pub record Writing (ns nm : List ℕ) (b me : ℕ) (out₀ : List ℕ) (pos₀ : ℕ) (out : List ℕ) (pos left last : ℕ) : Type 0 where
  pub long : length out ≡ length out₀
  pub room : pos + length (each (node_bytes id_size ns nm b) (kids ns nm me left last)) ≤ length out
  pub ends : pos + length (each (node_bytes id_size ns nm b) (kids ns nm me left last)) ≡ pos₀ + length (each (node_bytes id_size ns nm b) (kids ns nm me (nodes_in ns) 0))
  pub run : put out pos (each (node_bytes id_size ns nm b) (kids ns nm me left last)) ≡ put out₀ pos₀ (each (node_bytes id_size ns nm b) (kids ns nm me (nodes_in ns) 0))

pub writing_start : (ns nm : List ℕ) (depth me at : ℕ) (d d₀ : List ℕ) (pos₀ left : ℕ) → (depth ≡ 0 → ⊥) → at + length (node_bytes id_size ns nm depth me) ≤ length d → pos₀ ≡ at + length (head_bytes id_size ns nm me)
    → d₀ ≡ put d at (head_bytes id_size ns nm me) → left ≡ nodes_in ns → Writing ns nm (depth - 1) me d₀ pos₀ d₀ pos₀ left 0
writing_start ns nm depth me at d d₀ pos₀ left deep h e q n =
    let same : length d₀ ≡ length d = ap length q ∙ length-put d (head_bytes id_size ns nm me) at (node_head ns nm depth me deep at (length d) h) in
    record { long = refl; room = rw n (node_rest ns nm depth me deep at (length d) (length d₀) pos₀ h same e); ends = rw n; run = rw n }

module _ (ns nm : List ℕ) (b me : ℕ) (out₀ : List ℕ) (pos₀ : ℕ) (out : List ℕ) (pos left last : ℕ) (inv : Writing ns nm b me out₀ pos₀ out pos left last) where
  module _ (more : 0 < left) (kid : ℕ) (is : kid ≡ next_kid ns nm me last) (real : kid ≡ 0 → ⊥) where
    pub writing_room : pos + length (node_bytes id_size ns nm b kid) ≤ length out
    writing_room = each_room b ns nm me left last kid pos (kids_more ns nm me left last kid more is real) (length out) inv.room

    pub writing_more : (left₁ : ℕ) → left₁ ≡ left - 1 → (out₁ : List ℕ) (pos₁ : ℕ) → length out₁ ≡ length out → pos₁ ≡ pos + length (node_bytes id_size ns nm b kid) → out₁ ≡ put out pos (node_bytes id_size ns nm b kid) → Writing ns nm b me out₀ pos₀ out₁ pos₁ left₁ kid
    writing_more left₁ z out₁ pos₁ long e q =
        let cut = kids_more ns nm me left last kid more is real in
        let on = each_next b ns nm me left last kid pos cut pos₁ e in
        rw z
        (record {
          long = long ∙ inv.long;
          room = omega (arith, on, inv.room);
          ends = on ∙ inv.ends;
          run = each_put b ns nm me left last kid pos cut out out₁ (put out₀ pos₀ (each (node_bytes id_size ns nm b) (kids ns nm me (nodes_in ns) 0))) pos₁ (omega (arith, inv.room)) inv.run q e;
        })

module _ (ns nm : List ℕ) (depth me at : ℕ) (d d₀ : List ℕ) (pos₀ : ℕ) (deep : depth ≡ 0 → ⊥) (h : at + length (node_bytes id_size ns nm depth me) ≤ length d) (e : pos₀ ≡ at + length (head_bytes id_size ns nm me)) (q : d₀ ≡ put d at (head_bytes id_size ns nm me))
    (out : List ℕ) (pos left last : ℕ) (inv : Writing ns nm (depth - 1) me d₀ pos₀ out pos left last) (none : kids ns nm me left last ≡ []) where
  pub written : (pos ≡ at + length (node_bytes id_size ns nm depth me)) × (out ≡ put d at (node_bytes id_size ns nm depth me))
  written = (node_at_lem ns nm depth me deep at left last pos pos₀ none e inv.ends, node_put ns nm depth me deep at left last pos pos₀ none e d d₀ out (omega arith) q inv.run)

-- ---- the whole tree

fits : (tree : List ℕ) (k m size : ℕ) → k ≤ m → size ≡ cap (length tree) → size ≤ m - k → m < largest → k + length tree ≤ m
fits tree k m size inside is h small = omega (arith, cap_below (length tree) (m - k) (omega arith) (omega arith))

pub tree_fits_lem : (ns nm : List ℕ) (k m size : ℕ) → k ≤ m → size ≡ cap (length (node_bytes id_size ns nm depth_limit 0)) → size ≤ m - k → m < largest → k + length (node_bytes id_size ns nm depth_limit 0) ≤ m
tree_fits_lem ns nm k m size inside is h small = fits (node_bytes id_size ns nm depth_limit 0) k m size inside is h small

-- where it ends
pub tree_ends : (ns nm : List ℕ) (k m size to : ℕ) → k ≤ m → size ≡ cap (length (node_bytes id_size ns nm depth_limit 0)) → size ≤ m - k → m < largest → to ≡ k + size → (to ≡ k + length (node_bytes id_size ns nm depth_limit 0)) × (to ≤ m)
tree_ends ns nm k m size to inside is h small e =
    let room : k + length (node_bytes id_size ns nm depth_limit 0) ≤ m = tree_fits_lem ns nm k m size inside is h small in
    (omega (arith, cap_fits (length (node_bytes id_size ns nm depth_limit 0)) (omega arith)), omega arith)

module _ (out tree : List ℕ) (k : ℕ) where
  pub tree_past : length out < k → out ≡ put_fit out k tree
  unfolding put_fit
  tree_past h = sym (rw (lt-leb (k + length tree) (length out) (omega arith)))

  module _ (inside : k ≤ length out) (size : ℕ) (is : size ≡ cap (length tree)) where
    pub tree_short : length out - k < size → out ≡ put_fit out k tree
    unfolding put_fit
    tree_short h = sym (rw (lt-leb (k + length tree) (length out) (omega (arith, cap_le (length tree)))))

    pub tree_done : length out < largest → size ≤ length out - k → (out₁ : List ℕ) → out₁ ≡ put out k tree → out₁ ≡ put_fit out k tree
    unfolding put_fit
    tree_done small h out₁ e = e ∙ sym (rw (le-leb (k + length tree) (length out) (fits tree k (length out) size inside is h small)))

pub ruleset tree_laws = (tree_past, tree_short)

pub ruleset laws = (bytes_put, byte_put, front_name, front_nul, front_count, front_next, front_put, numbers_space, numbers_digits, numbers_line, numbers_next, numbers_put, head_first, head_second, head_third, head_next, head_put, head_size_lem, before_less, before_greater, before_tied)

pub ruleset run-laws = (run_start, run_end, run_more)

pub ruleset node_laws = (node_zero_at, node_zero_put, node_head)

pub ruleset size-laws = (node_size_none, adding_start, adding_end, adding_other, adding_kid)
