-- The children of a node in the store, in file order: `siblings_differ` says yes exactly if their names differ as the grammar asks. Assumes nothing.
use Rattle.std.specs.Prelude.{ℕ, ◌+◌, ◌≤◌, ◌<◌, ◌≡◌, refl, List, [], ◌∷◌, Bool, true, false, ◌⊎◌}
use Rattle.std.proofs.Common.{sym, ap, ◌∙◌, inl, inr, ⊎_elim, arith}
use Rattle.laws.specs.Tests.{lt_or_ge}
use Rattle.node.specs.Store.{parent_at, name_at}
use Rattle.siblings.specs.Siblings.{siblings_differ}
use Rattle.siblings.specs.InOrder.{Distinct as DistinctAt, distinct_differ, differ_distinct}
use Rattle.grammar.specs.Tree.{Other, alone, differs, Distinct, no_names, one_more_lem}
use Rattle.grammar.proofs.DecideTree.{IsDistinct, is_distinct, repeats as repeated}

-- ---- the children, in file order

-- of the nodes from the first number on and before the second, the children of `me` have these names
pub data Children (s ns : List ℕ) (me : ℕ) : ℕ → ℕ → List (List ℕ) → Type 0 where
  no_more : {i : ℕ} → Children s ns me i i []
  child : {i j u : ℕ} {name : List ℕ} {names : List (List ℕ)} → parent_at ns i ≡ me → name_at s ns i ≡ name → i < j → ((k : ℕ) → i < k → k < j → parent_at ns k ≡ me → ⊥)
      → Children s ns me j u names → Children s ns me i u (name ∷ names)

module _ {s ns : List ℕ} {me : ℕ} where
  other_name : {name : List ℕ} {i u : ℕ} {names : List (List ℕ)} → Other name names → Children s ns me i u names → (k : ℕ) → i ≤ k → k < u → parent_at ns k ≡ me → name ≡ name_at s ns k → ⊥
  other_name alone no_more k h l p e = omega arith
  other_name {name} {i} (differs d o) (child {j = j} q r m n c) k h l p e = by (lt_or_ge k j) (lt_or_ge i k) (λ a. other_name o c k a l p e)
    where
      by : (k < j) ⊎ (j ≤ k) → (i < k) ⊎ (k ≤ i) → (j ≤ k → ⊥) → ⊥
      by (inr a) b ih = ih a
      by (inl a) (inl b) ih = n k b a p
      by (inl a) (inr b) ih = let z : k ≡ i = omega arith in d (e ∙ ap (λ (y : ℕ). name_at s ns y) z ∙ r)

  distinct_at : {i u : ℕ} {names : List (List ℕ)} → Distinct names → Children s ns me i u names → DistinctAt s ns me i u
  distinct_at no_names no_more a b h k l p q e = omega arith
  distinct_at {i} (one_more_lem o d) (child {j = j} r t m n c) a b h k l p q e = by (lt_or_ge b j) (lt_or_ge i b) (λ x. distinct_at d c a b x k l p q e)
    where
      by : (b < j) ⊎ (j ≤ b) → (i < b) ⊎ (b ≤ i) → (j ≤ b → ⊥) → ⊥
      by (inr x) y ih = ih x
      by (inl x) (inl y) ih = n b y x q
      by (inl x) (inr y) ih =
          let z : b ≡ i = omega arith in
          let f = sym t ∙ ap (λ (y : ℕ). name_at s ns y) (sym z) ∙ sym e in
          ⊎_elim (λ w. n a (omega arith) w p) (λ w. other_name o c a w l p f) (lt_or_ge a j)

  onward : {i u : ℕ} {names : List (List ℕ)} → Children s ns me i u names → i ≤ u
  onward no_more = omega arith
  onward (child q r m n c) = let l = onward c in omega arith

  others : {i u : ℕ} {names : List (List ℕ)} (name : List ℕ) → Children s ns me i u names → ((k : ℕ) → i ≤ k → k < u → parent_at ns k ≡ me → name ≡ name_at s ns k → ⊥) → Other name names
  others name no_more f = alone
  others {i} name (child {j = j} q r m n c) f =
      let l = onward c in
      differs (λ e. f i (omega arith) (omega arith) q (e ∙ sym r)) (others name c (λ k a b p e. f k (omega arith) b p e))

  distinct_names : {i u : ℕ} {names : List (List ℕ)} → Children s ns me i u names → DistinctAt s ns me i u → Distinct names
  distinct_names no_more f = no_names
  distinct_names {i} (child {j = j} q r m n c) f =
      one_more_lem (others _ c (λ k a b p e. f k i (omega arith) (omega arith) b p q (sym e ∙ sym r))) (distinct_names c (λ a b h k l p o e. f a b (omega arith) k l p o e))

  -- THE VIEW
  pub differ? : {u : ℕ} {names : List (List ℕ)} → Children s ns me (me + 1) u names → IsDistinct names (siblings_differ s ns me (me + 1) u)
  differ? {u} {names} c = go (siblings_differ s ns me (me + 1) u) refl
    where
      go : (t : Bool) → siblings_differ s ns me (me + 1) u ≡ t → IsDistinct names t
      go true e = is_distinct (distinct_names c (differ_distinct s ns me (me + 1) u e))
      go false e = repeated (λ d. let f = distinct_differ s ns me (me + 1) u (distinct_at d c) in cc)
