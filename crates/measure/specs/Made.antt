-- The head of an entry, and an entry that was measured: each made of its parts, so that definitions and theorems can name it. Assumes nothing.
use Rattle.std.specs.Prelude.{ℕ, ◌≡◌, Ok, Result}
use Rattle.std.proofs.Common.{ap}
use Rattle.wire.specs.declared.FileAt.{FileAt}
use Rattle.measure.specs.declared.Head.{Head}
use Rattle.measure.specs.declared.Measured.{Measured}
use Rattle.measure.specs.declared.Unspelled.{Unspelled}

abbrev pub fixed_head : ℕ → ℕ → ℕ → Head
fixed_head flags size field = record { flags = flags; size = size; field = field }

abbrev pub measured_as : ℕ → ℕ → FileAt → ℕ → FileAt → Measured
measured_as flags keep suffix len next = record { flags = flags; keep = keep; suffix = suffix; len = len; next = next }

-- two that are one have the same parts
pub record SameHead (f g : ℕ) (n m : ℕ) (k l : ℕ) : Type 0 where
  pub flags : f ≡ g
  pub size : n ≡ m
  pub field : k ≡ l

pub record SameMeasured (f g k m : ℕ) (p q : FileAt) (l n : ℕ) (x y : FileAt) : Type 0 where
  pub flags : f ≡ g
  pub keep : k ≡ m
  pub suffix : p ≡ q
  pub len : l ≡ n
  pub next : x ≡ y

pub head_same : {f g n m k l : ℕ} → ◌≡◌ {A = Result Head Unspelled} (Ok (fixed_head f n k)) (Ok (fixed_head g m l)) → SameHead f g n m k l
head_same {f} {g} {n} {m} {k} {l} q =
    let w : fixed_head f n k ≡ fixed_head g m l = cc in
    record { flags = ap (λ (h : Head). h.flags) w; size = ap (λ (h : Head). h.size) w; field = ap (λ (h : Head). h.field) w }

pub measured_same : {f g k m l n : ℕ} {p q x y : FileAt} → ◌≡◌ {A = Result Measured Unspelled} (Ok (measured_as f k p l x)) (Ok (measured_as g m q n y)) → SameMeasured f g k m p q l n x y
measured_same {f} {g} {k} {m} {l} {n} {p} {q} {x} {y} e =
    let w : measured_as f k p l x ≡ measured_as g m q n y = cc in
    record {
      flags = ap (λ (h : Measured). h.flags) w;
      keep = ap (λ (h : Measured). h.keep) w;
      suffix = ap (λ (h : Measured). h.suffix) w;
      len = ap (λ (h : Measured). h.len) w;
      next = ap (λ (h : Measured). h.next) w;
    }
