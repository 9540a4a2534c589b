-- Bytes that lie at a place of a file, one by one, and the part of a file that they lie in. Assumes nothing.
use Rattle.std.specs.Prelude.{ℕ, ◌+◌, ◌≤◌, ◌<◌, ◌≡◌, List, [], ◌∷◌, length, get_or, take, drop}
use Rattle.std.proofs.Common.{sym, ap, ◌∙◌, add-zero, arith, get_or-drop}
use Rattle.laws.specs.Lists.{drop-next}
use Rattle.claims_entries.specs.Place.{Lies, lies_right}

-- the bytes of s from `at` on, before `end`
abbrev pub part : List ℕ → ℕ → ℕ → List ℕ
part s at end = drop at (take end s)

-- one byte in front
pub lies_cons : (s : List ℕ) (at end c : ℕ) {b : List ℕ} → at < end → end ≤ length s → get_or s at 0 ≡ c → Lies s (at + 1) end b → Lies s at end (c ∷ b)
lies_cons s at end c h k e l = record { fits = omega (arith, l.fits); rest = l.rest; is = drop-next s at (omega arith) ∙ (λ i. e i ∷ l.is i) }

pub lies_head : {s : List ℕ} {at end c : ℕ} {b : List ℕ} → Lies s at end (c ∷ b) → get_or s at 0 ≡ c
lies_head {s} {at} l = ap (λ (i : ℕ). get_or s i 0) (sym (add-zero at)) ∙ sym (get_or-drop at s 0 0) ∙ ap (λ (x : List ℕ). get_or x 0 0) l.is

pub lies_tail : {s : List ℕ} {at end c : ℕ} {b : List ℕ} → Lies s at end (c ∷ b) → Lies s (at + 1) end b
lies_tail {c = c} {b = b} l = lies_right (c ∷ []) b l
