-- Items that fill a byte list.
use Prim.Native.Nat.{ℕ, zero, suc, ◌≤◌, ◌<◌}
use Rattle.std.specs.Prelude.{◌≡◌, ◌↔◌}
use Rattle.std.proofs.Math.Path.{refl}
use Rattle.std.proofs.Common.{ap, subst, arith}
use mathlib.Core.List.{List, [], ◌∷◌, ◌++◌, append_assoc}
use Rattle.std.proofs.Math.ListN.{length, length-append}
use Rattle.laws.specs.Read.{Got, got, none, Begins, Says, spelled, cut, Reads, refuses}

pub data Filled (A : Type 0) : Type 0 where
  filled : List A → Filled A
  broken : List A → Filled A

-- THE GRAMMAR
pub data Fill {A : Type 0} (E : List ℕ → A → Type 0) : List ℕ → List A → Type 0 where
  done : Fill E [] []
  more : {v : A} {vs : List A} {b c : List ℕ} → E b v → Fill E c vs → Fill E (b ++ c) (v ∷ vs)

-- THE READER
abbrev pub on_item : {A B : Type 0} → Got A → (A → List ℕ → Filled B) → Filled B
on_item (got a r) k = k a r
on_item none k = broken []

abbrev pub cons : {A : Type 0} → A → Filled A → Filled A
cons v (filled vs) = filled (v ∷ vs)
cons v (broken vs) = broken (v ∷ vs)

-- by fuel: no more items than bytes
unfoldable pub read_fill : {A : Type 0} → (List ℕ → Got A) → ℕ → List ℕ → Filled A
read_fill read zero [] = filled []
read_fill read zero (x ∷ xs) = broken []
read_fill read (suc k) [] = filled []
read_fill read (suc k) (x ∷ xs) = on_item (read (x ∷ xs)) (λ v r. cons v (read_fill read k r))

-- some items, and then bytes that begin with no item
abbrev pub Breaks : {A : Type 0} (E : List ℕ → A → Type 0) → List ℕ → List A → Type 0
Breaks E xs vs = (b : List ℕ) × (rest : List ℕ) × (xs ≡ b ++ rest) × Fill E b vs × (0 < length rest) × ((v : _) (q : List ℕ) → ¬ Begins E rest v q)

pub data SaysFill {A : Type 0} (E : List ℕ → A → Type 0) (xs : List ℕ) : Filled A → Type 0 where
  whole : {vs : List A} → Fill E xs vs → SaysFill E xs (filled vs)
  part : {vs : List A} → Breaks E xs vs → SaysFill E xs (broken vs)

module _ {A : Type 0} {E : List ℕ → A → Type 0} {read : List ℕ → Got A} (p : Reads E read) (some : (b : List ℕ) (v : A) → E b v → 0 < length b) where
  fill_says : (k : ℕ) (xs : List ℕ) → length xs ≤ k → SaysFill E xs (read_fill read k xs)
  unfolding read_fill
  fill_says zero [] h = whole done
  fill_says zero (x ∷ xs) h = absurd (omega arith)
  fill_says (suc k) [] h = whole done
  fill_says (suc k) (x ∷ xs) h = go (read (x ∷ xs)) refl (p.says (x ∷ xs)) (fill_says k)
    where
      put : {v : A} {r b : List ℕ} → E b v → x ∷ xs ≡ b ++ r → {m : Filled A} → SaysFill E r m → SaysFill E (x ∷ xs) (cons v m)
      put {v} e i (whole {vs = vs} t) = whole {vs = v ∷ vs} (rw i (more e t))
      put {r = r} {b = b} e i (part (c, rest, j, t, q, z)) = part (b ++ c, rest, cut (x ∷ xs) b c r rest i j, more e t, q, z)

      go : (g : Got A) → read (x ∷ xs) ≡ g → Says E (x ∷ xs) g → ((r : List ℕ) → length r ≤ k → SaysFill E r (read_fill read k r))
          → SaysFill E (x ∷ xs) (on_item g (λ v r. cons v (read_fill read k r)))
      go none x₁ y ih = part ([], x ∷ xs, refl, done, omega arith, (refuses p (x ∷ xs)).0 x₁)
      go (got v r) x₁ (spelled b i e) ih = put e i (ih r (omega (arith, some b v e, simp length-append at (ap length i))))

  fill_complete : {b : List ℕ} {vs : List A} → Fill E b vs → (k : ℕ) → length b ≤ k → read_fill read k b ≡ filled vs
  unfolding read_fill
  fill_complete done zero h = refl
  fill_complete done (suc k) h = refl
  fill_complete (more {v = v} {b = []} e t) k h = absurd (omega (arith, some [] v e))
  fill_complete (more {b = y ∷ b} e t) zero h = absurd (omega arith)
  fill_complete (more {b = y ∷ b} {c = c} e t) (suc k) h =
      let l : length c ≤ k = omega (arith, length-append b c) in
      rw (p.complete e c, fill_complete t k l)

  fill_breaks : {b : List ℕ} {vs : List A} → Fill E b vs → (rest : List ℕ) → 0 < length rest → read rest ≡ none → (k : ℕ) → length (b ++ rest) ≤ k → read_fill read k (b ++ rest) ≡ broken vs
  unfolding read_fill
  fill_breaks done [] h x k l = absurd (omega arith)
  fill_breaks done (y ∷ rest) h x zero l = absurd (omega arith)
  fill_breaks done (y ∷ rest) h x (suc k) l = rw x
  fill_breaks (more {v = v} {b = []} e t) rest h x k l = absurd (omega (arith, some [] v e))
  fill_breaks (more {b = y ∷ b} e t) rest h x zero l = absurd (omega arith)
  fill_breaks (more {b = y ∷ b} {c = c} e t) rest h x (suc k) l =
      let m : length (c ++ rest) ≤ k = omega (arith, simp length-append at l, length-append c rest) in
      rw (append_assoc b c rest, p.complete e (c ++ rest), fill_breaks t rest h x k m)

  -- THE THEOREMS
  pub fill_accepts : (xs : List ℕ) (vs : List A) → (read_fill read (length xs) xs ≡ filled vs) ↔ Fill E xs vs
  fill_accepts xs vs = ((λ e. to (subst (SaysFill E xs) e (fill_says (length xs) xs (omega arith)))), (λ t. fill_complete t (length xs) (omega arith)))
    where
      to : SaysFill E xs (filled vs) → Fill E xs vs
      to (whole x) = x

  pub fill_broken : (xs : List ℕ) (vs : List A) → (read_fill read (length xs) xs ≡ broken vs) ↔ Breaks E xs vs
  fill_broken xs vs = ((λ e. to (subst (SaysFill E xs) e (fill_says (length xs) xs (omega arith)))), from)
    where
      to : SaysFill E xs (broken vs) → Breaks E xs vs
      to (part x) = x

      from : Breaks E xs vs → read_fill read (length xs) xs ≡ broken vs
      from (b, rest, i, t, h, z) = rw i (fill_breaks t rest h ((refuses p rest).1 z) (length (b ++ rest)) (omega arith))

  pub fill_unique : (xs : List ℕ) (vs ws : List A) → Fill E xs vs → Fill E xs ws → vs ≡ ws
  fill_unique xs vs ws x y =
      let f : read_fill read (length xs) xs ≡ filled vs = (fill_accepts xs vs).1 x in
      let g : read_fill read (length xs) xs ≡ filled ws = (fill_accepts xs ws).1 y in
      cc
