-- Laws of the window of sixteen words with which the rounds go over the schedule: what it holds before a block's first round (`held_first`), the word that a round
-- takes from it (`given_word`, `made_word`) and what it holds after that (`held_on`, `held_new`). `round_more` is a round. Assumes nothing.
use Rattle.std.proofs.Common.{◌≡◌, ℕ, suc, ◌+◌, ◌-◌, ◌%◌, ◌<◌, ◌≤◌, inl, inr, List, length, slice_index, set, sym, refl, ap, ◌∙◌, ⊎_elim, eq-or-lt_of_le, arith, get_or-set_other, get_or-set_same}
use lib.Bits.{bit_xor}
use Rattle.sha1_hash.specs.Sha1.{rotl, mix_of, const_of, words_of, schedule, Five, five, listed, turn, rounds}
use Rattle.sha1_hash.specs.Schedule.{late, words_word, schedule_early, schedule_late}
use Rattle.sha1_hash.specs.Window.{Held, Before, IsRound}
use Rattle.sha1_hash.proofs.Laws.{listed_five}

pub held_first : (m : List ℕ) → Held m (words_of 16 m) 0
held_first m i which inside =
    let small : i < 16 = ⊎_elim (λ h. h) (λ h. absurd (omega arith)) which in
    let same : i % 16 ≡ i = omega arith in
    rw same (words_word 16 i m small ∙ sym (schedule_early m i small))

module _ (m w : List ℕ) (t : ℕ) (held : Held m w t) where
  -- a word of the block
  pub given_word : t < 16 → slice_index w (t % 16) ≡ slice_index (schedule m) t
  given_word small = held t (inl small) (omega arith)

  pub held_on : t < 16 → Held m w (t + 1)
  held_on small i which inside = held i (inl (⊎_elim (λ h. h) (λ h. omega arith) which)) (omega arith)

  -- the word that stands k before word t
  word_back : (k p : ℕ) → 0 < k → k ≤ 16 → k ≤ t → p ≡ (t - k) % 16 → slice_index w p ≡ slice_index (schedule m) (t - k)
  word_back k p a b c e = rw e (held (t - k) (inr (omega arith)) (omega arith))

  -- the word t, as `word` makes it
  pub made_word : 16 ≤ t → t < 80
      → rotl 1 (bit_xor (bit_xor (bit_xor (slice_index w ((t + 13) % 16)) (slice_index w ((t + 8) % 16))) (slice_index w ((t + 2) % 16))) (slice_index w (t % 16)))
      ≡ slice_index (schedule m) t
  made_word low high =
      let back-3 : slice_index w ((t + 13) % 16) ≡ slice_index (schedule m) (t - 3) = word_back 3 ((t + 13) % 16) (omega arith) (omega arith) (omega arith) (omega arith) in
      let back-8 : slice_index w ((t + 8) % 16) ≡ slice_index (schedule m) (t - 8) = word_back 8 ((t + 8) % 16) (omega arith) (omega arith) (omega arith) (omega arith) in
      let back-14 : slice_index w ((t + 2) % 16) ≡ slice_index (schedule m) (t - 14) = word_back 14 ((t + 2) % 16) (omega arith) (omega arith) (omega arith) (omega arith) in
      let back-16 : slice_index w (t % 16) ≡ slice_index (schedule m) (t - 16) = word_back 16 (t % 16) (omega arith) (omega arith) (omega arith) (omega arith) in
      rw (back-3, back-8, back-14, back-16) (sym (schedule_late m t low high))

  pub held_new : (x : ℕ) → length w ≡ 16 → 16 ≤ t → x ≡ slice_index (schedule m) t → Held m (set w (t % 16) x) (t + 1)
  held_new x long late e i which inside =
      let upto : i ≤ t = ⊎_elim (λ h. omega arith) (λ h. omega arith) which in
      ⊎_elim
      (λ same. rw same (get_or-set_same w (t % 16) x 0 (omega arith) ∙ e))
      (λ before. get_or-set_other w (t % 16) (i % 16) x 0 (λ q. omega arith) ∙ held i (inr before) (omega arith))
      (eq-or-lt_of_le upto)

-- ---- the rounds

pub round_more : {answers : ℕ → ℕ → ℕ → ℕ → Type 0} {m : List ℕ} {goal : Five} {v w u y : List ℕ} {t k f x : ℕ} → t < 80 → IsRound answers k t
    → answers (slice_index v 1) (slice_index v 2) (slice_index v 3) f → x ≡ slice_index (schedule m) t → Held m u (t + 1) → y ≡ listed (turn f k x (five v))
    → Before m goal v w t → Before m goal y u (t + 1)
unfolding rounds
round_more {answers} {m} {goal} {v} {w} {u} {y} {t} {k} {f} {x} small round answer word held result before =
    let n : 80 - t ≡ suc (80 - (t + 1)) = omega arith in
    let s : five y ≡ turn (mix_of t (slice_index v 1) (slice_index v 2) (slice_index v 3)) (const_of t) (slice_index (schedule m) t) (five v) =
    rw (result, round.constant, ← word, ← round.mixed _ _ _ f answer) in
    record { whole = rw result; held = held; left = rw s (rw n at before.left) }

-- before the first round, and after the last
pub before_first : (m h w : List ℕ) → length h ≡ 5 → w ≡ words_of 16 m → Before m (rounds (schedule m) 80 0 (five h)) h w 0
before_first m h w five_words first = record { whole = listed_five h five_words; held = rw first (held_first m); left = refl }

pub after_last : {m : List ℕ} {goal : Five} {v w : List ℕ} → Before m goal v w 80 → v ≡ listed goal
unfolding rounds
after_last before = before.whole ∙ ap listed before.left
