-- What two pairs that are one value share: their parts. Assumes nothing.
use Rattle.std.specs.Prelude.{◌≡◌, Option, Some, None, Result, Ok, Err, unwrap_or}
use Rattle.std.proofs.Common.{ap}

pub pair_same : {A B : Type 0} {a c : A} {b d : B} → ◌≡◌ {A = A × B} (a, b) (c, d) → (a ≡ c) × (b ≡ d)
pair_same q = (ap (λ p. p.0) q, ap (λ p. p.1) q)

-- the value that an answer has, or another
abbrev ok_or_else : {A B : Type 0} → A → Result A B → A
ok_or_else a (Ok x) = x
ok_or_else a (Err y) = a

abbrev err_or_else : {A B : Type 0} → B → Result A B → B
err_or_else b (Ok x) = b
err_or_else b (Err y) = y

pub some_same : {A : Type 0} {a b : A} → Some a ≡ Some b → a ≡ b
some_same {a = a} q = ap (λ o. unwrap_or o a) q

pub ok_same : {A B : Type 0} {a b : A} → ◌≡◌ {A = Result A B} (Ok a) (Ok b) → a ≡ b
ok_same {a = a} q = ap (λ r. ok_or_else a r) q

pub err_same : {A B : Type 0} {a b : B} → ◌≡◌ {A = Result A B} (Err a) (Err b) → a ≡ b
err_same {a = a} q = ap (λ r. err_or_else a r) q
