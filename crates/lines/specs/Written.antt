-- What writing a text into a lent output comes to: the text where it fits, and its length, which stops at the largest number. Assumes nothing.
use Rattle.std.specs.Prelude.{◌≡◌, List, ℕ, ◌≤◌, ◌<◌, ltb, drop}
use Rattle.std.proofs.Common.{sym, ◌∙◌, arith}
use Rattle.std.proofs.Math.Logic.{⊎_elim}
use Rattle.std.proofs.Math.ListN.{length}
use Rattle.std.proofs.Math.Seq.{paste}
use borrow.Author.Tests.{lt-ltb, le-ltb}
use Rattle.laws.specs.Pick.{pick}
use Rattle.laws.specs.Tests.{lt_or_ge}
use Rattle.laws.specs.Put.{put, paste_put}
use Rattle.sums.specs.Cap.{largest, cap, cap_fits, cap_over, cap_below}

-- the answer, and what the output holds
pub record Outcome : Type 0 where
  pub size : ℕ
  pub out : List ℕ

abbrev pub outcome : ℕ → List ℕ → Outcome
outcome n o = record { size = n; out = o }

-- the text at the start of the output, or, where it does not fit, the output as it was; its length in either case
unfoldable pub written : List ℕ → List ℕ → Outcome
written text out = outcome (cap (length text)) (pick (ltb (length out) (length text)) out (put out 0 text))

-- ---- a text that is written, or not

module _ (text out : List ℕ) (size : ℕ) (es : size ≡ cap (length text)) where
  pub text_short : length out < size → outcome size out ≡ written text out
  unfolding written
  text_short h =
      let l : length out < length text = ⊎_elim (λ g. omega (arith, cap_over (length text) g)) (λ g. omega (arith, cap_fits (length text) g)) (lt_or_ge largest (length text)) in
      rw (es, lt-ltb (length out) (length text) l)

  pub text_fits : size ≤ length out → length out < largest → length text ≤ length out
  text_fits h k = cap_below (length text) (length out) (omega arith) k

  pub text_written : size ≤ length out → length out < largest → (out₁ : List ℕ) → out₁ ≡ put out 0 text → outcome size out₁ ≡ written text out
  unfolding written
  text_written h k out₁ e = let l : length text ≤ length out = text_fits h k in rw (es, e, le-ltb (length out) (length text) l)

-- a length that is a number of 64 bits
pub size_whole : (size n : ℕ) → size ≡ n → size ≤ largest → size ≡ cap n
size_whole size n e h = e ∙ sym (cap_fits n (omega arith))

-- a copy of as many bytes as there are
pub copied : (d d₁ s : List ℕ) (to n : ℕ) → d₁ ≡ paste d to (drop 0 s) n → n ≡ length s → d₁ ≡ put d to s
copied d d₁ s to n e l = e ∙ paste_put d s to n l
