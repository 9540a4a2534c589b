-- What the contracts of the rounds say: the window of sixteen words with which they go over the schedule, and how far they are. Assumes nothing.
use Rattle.std.specs.Prelude.{◌≡◌, ℕ, ◌+◌, ◌-◌, ◌%◌, ◌<◌, ◌≤◌, List, slice_index}
use Rattle.std.proofs.Common.{◌⊎◌}
use Rattle.sha1_hash.specs.Sha1.{mix_of, const_of, schedule, Five, five, listed, rounds}

-- before round t the window w has the last sixteen of the words that the block m begins with or that were made, word i at place i modulo 16
abbrev pub Held : List ℕ → List ℕ → ℕ → Type 0
Held m w t = (i : ℕ) → (i < 16) ⊎ (i < t) → t ≤ i + 16 → slice_index w (i % 16) ≡ slice_index (schedule m) i

-- before round t, with the variables v and the window w: the rounds that are left, up to the eightieth, give `goal`
pub record Before (m : List ℕ) (goal : Five) (v w : List ℕ) (t : ℕ) : Type 0 where
  pub whole : v ≡ listed (five v)
  pub held : Held m w t
  pub left : rounds (schedule m) (80 - t) t (five v) ≡ goal

-- round t has the constant k, and its function of the three words is what a call answers
pub record IsRound (answers : ℕ → ℕ → ℕ → ℕ → Type 0) (k t : ℕ) : Type 0 where
  pub constant : const_of t ≡ k
  pub mixed : (b c d f : ℕ) → answers b c d f → f ≡ mix_of t b c d
