-- A language R of byte lists with meanings, and a reader of it.
use Rattle.std.specs.Prelude.{ℕ, ◌≤◌, ◌<◌, ◌≡◌, refl, List, ◌++◌, Bool, ◌↔◌, ltb, leb}
use Rattle.std.proofs.Common.{sym, ap, ◌∙◌, subst, append_assoc, arith}
use Rattle.std.proofs.lemmas.List.{append_cancel_right}
use Rattle.laws.specs.Pick.{pick}
use Rattle.laws.specs.Tests.{Less, less, not_less, less?, AtMost, at_most, above, at_most?}

pub data Got (A : Type 0) : Type 0 where
  got : A → List ℕ → Got A
  none : Got A

pub never : {A : Type 0} {v : A} {r : List ℕ} → none ≡ got v r → ⊥
never e = let z : ◌≡◌ {A = ℕ} 0 1 = cc in omega arith

-- xs begins with bytes that R spells v by, and rest is left
abbrev pub Begins : {A : Type 0} → (List ℕ → A → Type 0) → List ℕ → A → List ℕ → Type 0
Begins R xs v rest = (b : List ℕ) × (xs ≡ b ++ rest) × R b v

-- what an answer of a reader of R says of the input
pub data Says {A : Type 0} (R : List ℕ → A → Type 0) (xs : List ℕ) : Got A → Type 0 where
  spelled : {v : A} {rest : List ℕ} (b : List ℕ) → xs ≡ b ++ rest → R b v → Says R xs (got v rest)
  refused : Says R xs none

pub said : {A : Type 0} {R : List ℕ → A → Type 0} {xs : List ℕ} {v : A} {rest : List ℕ} → Says R xs (got v rest) → Begins R xs v rest
said (spelled b e r) = (b, e, r)

pub cut : (xs b c r rest : List ℕ) → xs ≡ b ++ r → r ≡ c ++ rest → xs ≡ (b ++ c) ++ rest
cut xs b c r rest i j = rw (append_assoc, ← j) i

pub record Reads {A : Type 0} (R : List ℕ → A → Type 0) (read : List ℕ → Got A) : Type 0 where
  pub says : (xs : List ℕ) → Says R xs (read xs)
  pub complete : {b : List ℕ} {v : A} → R b v → (rest : List ℕ) → read (b ++ rest) ≡ got v rest

module _ {A : Type 0} {R : List ℕ → A → Type 0} {read : List ℕ → Got A} (p : Reads R read) where
  pub sound : (xs : List ℕ) (v : A) (rest : List ℕ) → read xs ≡ got v rest → Begins R xs v rest
  sound xs v rest e = said (subst (Says R xs) e (p.says xs))

  pub begins_read : (xs : List ℕ) (v : A) (rest : List ℕ) → Begins R xs v rest → read xs ≡ got v rest
  begins_read xs v rest (b, e, r) = ap read e ∙ p.complete r rest

  pub accepts : (xs : List ℕ) (v : A) (rest : List ℕ) → (read xs ≡ got v rest) ↔ Begins R xs v rest
  accepts xs v rest = (sound xs v rest, begins_read xs v rest)

  pub unique : (xs : List ℕ) (v w : A) (r s : List ℕ) (x : Begins R xs v r) (y : Begins R xs w s) → (v ≡ w) × (r ≡ s) × (x.0 ≡ y.0)
  unique xs v w r s x y =
      let f : read xs ≡ got v r = begins_read xs v r x in
      let g : read xs ≡ got w s = begins_read xs w s y in
      let rs : r ≡ s = cc in
      ((cc), rs, append_cancel_right x.0 y.0 s (ap (λ (l : List ℕ). x.0 ++ l) (sym rs) ∙ sym x.1 ∙ y.1))

  pub refuses : (xs : List ℕ) → (read xs ≡ none) ↔ ((v : A) (rest : List ℕ) → ¬ Begins R xs v rest)
  refuses xs = (to, from (read xs) refl)
    where
      to : read xs ≡ none → (v : A) (rest : List ℕ) → ¬ Begins R xs v rest
      to e v rest x =
          let f : read xs ≡ got v rest = begins_read xs v rest x in
          let z : ◌≡◌ {A = ℕ} 0 1 = cc in
          omega arith

      from : (g : Got A) → read xs ≡ g → ((v : A) (rest : List ℕ) → ¬ Begins R xs v rest) → read xs ≡ none
      from none e h = e
      from (got v rest) e h = absurd (h v rest (sound xs v rest e))

abbrev pub next : {A B : Type 0} → Got A → (A → List ℕ → Got B) → Got B
next (got a r) k = k a r
next none k = none

-- one after the other, where the second may depend on what the first means
pub data Both {A B : Type 0} (R : List ℕ → A → Type 0) (S : A → List ℕ → B → Type 0) : List ℕ → B → Type 0 where
  both : {a : A} {v : B} {b c : List ℕ} → R b a → S a c v → Both R S (b ++ c) v

pub both_says : {A B : Type 0} {R : List ℕ → A → Type 0} {S : A → List ℕ → B → Type 0} (k : A → List ℕ → Got B) {xs : List ℕ} {g : Got A}
    → Says R xs g → ((a : A) (r : List ℕ) → Says (S a) r (k a r)) → Says (Both R S) xs (next g k)
both_says k refused y = refused
both_says {R = R} {S = S} k {xs} (spelled {v = a} {rest = r} b i x) y = go (y a r)
  where
    go : {h : Got _} → Says (S a) r h → Says (Both R S) xs h
    go refused = refused
    go (spelled {rest = q} c j z) = spelled (b ++ c) (cut xs b c r q i j) (both x z)

-- a step of a reader: what it says follows from what it says after the step
pub says_next : {A B : Type 0} {R : List ℕ → A → Type 0} {T : List ℕ → B → Type 0} {xs ys : List ℕ} {g : Got A} {k : A → List ℕ → Got B} → Says R ys g
    → ((b : List ℕ) (v : A) (r : List ℕ) → ys ≡ b ++ r → R b v → Says T xs (k v r)) → Says T xs (next g k)
says_next refused f = refused
says_next (spelled {v = v} {rest = r} b i x) f = f b v r i x

pub says_if_at_most : {B : Type 0} {T : List ℕ → B → Type 0} {xs : List ℕ} {g : Got B} (m n : ℕ) → (m ≤ n → Says T xs g) → Says T xs (pick (leb m n) g none)
says_if_at_most {T = T} {xs} {g} m n f = go (at_most? m n)
  where
    go : {t : Bool} → AtMost m n t → Says T xs (pick t g none)
    go (at_most h) = f h
    go (above h) = refused

pub says_if_less : {B : Type 0} {T : List ℕ → B → Type 0} {xs : List ℕ} {g : Got B} (m n : ℕ) → (m < n → Says T xs g) → Says T xs (pick (ltb m n) g none)
says_if_less {T = T} {xs} {g} m n f = go (less? m n)
  where
    go : {t : Bool} → Less m n t → Says T xs (pick t g none)
    go (less h) = f h
    go (not_less h) = refused
