-- The order of nodes: by name, and by number where the names are equal, rising or falling. A strict order, so that a list in it holds no node twice. Assumes
-- nothing.
use Rattle.std.specs.Prelude.{Bool, true, false, ◌≡◌, ◌⊎◌, List, ℕ, ◌<◌, ltb}
use Rattle.std.proofs.Common.{sym, subst, ◌∙◌, inl, inr, ⊎_elim, arith}
use Rattle.laws.specs.Tests.{Less, less, not_less, less?, lt_or_ge}
use Rattle.laws.specs.Order.{Before, irreflexive, transitive, Comparison, compared, Compares, is_below_lem, is_equal_lem, is_beyond, compares}
use Rattle.access.specs.Order.{order_of}
use Rattle.link_sort.specs.Runs.{opposite, foremost}

abbrev pub Lex : List ℕ → ℕ → List ℕ → ℕ → Type 0
Lex a i b j = Before a b ⊎ ((a ≡ b) × (i < j))

-- node i comes before node j, for names K
abbrev pub Fore : (ℕ → List ℕ) → Bool → ℕ → ℕ → Type 0
Fore K true i j = Lex (K i) i (K j) j
Fore K false i j = Lex (K j) j (K i) i

lex_not : (a : List ℕ) (i : ℕ) → Lex a i a i → ⊥
lex_not a i (inl h) = irreflexive h
lex_not a i (inr h) = omega (arith, h.1)

lex_on : (a : List ℕ) (i : ℕ) (b : List ℕ) (j : ℕ) (c : List ℕ) (k : ℕ) → Lex a i b j → Lex b j c k → Lex a i c k
lex_on a i b j c k (inl h) (inl g) = inl (transitive h g)
lex_on a i b j c k (inl h) (inr g) = inl (subst (λ (x : List ℕ). Before a x) g.0 h)
lex_on a i b j c k (inr h) (inl g) = inl (subst (λ (x : List ℕ). Before x c) (sym h.0) g)
lex_on a i b j c k (inr h) (inr g) = inr (h.0 ∙ g.0, omega (arith, h.1, g.1))

pub fore_not : (K : ℕ → List ℕ) (up : Bool) (i : ℕ) → Fore K up i i → ⊥
fore_not K true i h = lex_not (K i) i h
fore_not K false i h = lex_not (K i) i h

pub fore_on : (K : ℕ → List ℕ) (up : Bool) (i j k : ℕ) → Fore K up i j → Fore K up j k → Fore K up i k
fore_on K true i j k h g = lex_on (K i) i (K j) j (K k) k h g
fore_on K false i j k h g = lex_on (K k) k (K j) j (K i) i g h

-- what falls the other way rises
pub turned : (K : ℕ → List ℕ) (up : Bool) (i j : ℕ) → Fore K (opposite up) j i → Fore K up i j
turned K true i j h = h
turned K false i j h = h

-- the test, of two nodes
pub data Tested (a : List ℕ) (i : ℕ) (b : List ℕ) (j : ℕ) : Bool → Type 0 where
  first : Lex a i b j → Tested a i b j true
  second : Lex b j a i → Tested a i b j false

pub tested : (a : List ℕ) (i : ℕ) (b : List ℕ) (j : ℕ) → (i ≡ j → ⊥) → Tested a i b j (foremost (order_of (compared a b)) (ltb i j))
tested a i b j n = by (compares a b) (less? i j)
  where
    by : {c : Comparison} {t : Bool} → Compares a b c → Less i j t → Tested a i b j (foremost (order_of c) t)
    by (is_below_lem h) l = first (inl h)
    by (is_equal_lem e) (less l) = first (inr (e, l))
    by (is_equal_lem e) (not_less l) = second (inr (sym e, ⊎_elim (λ m. m) (λ m. absurd (n (omega arith))) (lt_or_ge j i)))
    by (is_beyond h) l = second (inl h)
