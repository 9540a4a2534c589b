-- Laws of the schedule, the rounds and the blocks, each in the form in which a loop's turn or a return asks it. Assumes nothing.
use Rattle.std.proofs.Common.{◌≡◌, ℕ, suc, ◌+◌, ◌*◌, ◌%◌, ◌^◌, ◌<◌, ◌≤◌, List, [], ◌∷◌, ◌++◌, length, get_or, take, drop, set, sym, refl, ap, ◌∙◌, append_assoc, append-nil, add-one, arith, drop_of_length-le, take_all, drop-cons, take-suc-set, le-ltb, lt-ltb, zero, take-suc}
use lib.Seq.{paste, take-paste}
use Rattle.wire.specs.BigEndian.{be_at, bytes_of, length-bytes}
use Rattle.sha1_hash.specs.Sha1.{ch, parity, maj, mix_of, const_of, words_of, schedule, five, listed, rounds, added, compress, digest_of}
use Rattle.std.proofs.lemmas.List.{take_more_set, drop-set-lt}
use Rattle.sha1_hash.specs.Window.{IsRound}

-- sums of five words
pub sum-five : (a b c d e : ℕ) → ((((a + b) % 2 ^ 32 + c) % 2 ^ 32 + d) % 2 ^ 32 + e) % 2 ^ 32 ≡ (a + b + c + d + e) % 2 ^ 32
sum-five a b c d e = omega arith

-- ---- the schedule

-- a word more of the block
pub words_more : (m w : List ℕ) (t x : ℕ) → t < 16 → length w ≡ 16 → x ≡ be_at 4 m (t * 4) → take t w ≡ words_of t m → take (t + 1) (set w t x) ≡ words_of (t + 1) m
unfolding words_of
words_more m w t x h l e g = rw (add-one t, take-suc-set w t x (omega arith), g, e)

pub words_end : (w m : List ℕ) (t : ℕ) → 16 ≤ t → t ≤ 16 → length w ≡ 16 → take t w ≡ words_of t m → w ≡ words_of 16 m
words_end w m t a b l g =
    let q : t ≡ 16 = omega arith in
    sym (take_all 16 w (omega arith)) ∙ (rw q at g)

-- ---- the rounds

-- the run of twenty rounds from `from` on takes the function f and the constant k
pub record Run (from : ℕ) (f : ℕ → ℕ → ℕ → ℕ) (k : ℕ) : Type 0 where
  pub even : from % 2 ≡ 0
  pub end : from ≤ 60
  pub mix : (t : ℕ) → from ≤ t → t < from + 20 → mix_of t ≡ f
  pub const : (t : ℕ) → from ≤ t → t < from + 20 → const_of t ≡ k

pub run_ch : Run 0 ch 0x5a82_7999
unfolding mix_of const_of
run_ch = record { even = refl; end = omega arith; mix = λ t p q. rw (lt-ltb t 20 q); const = λ t p q. rw (lt-ltb t 20 q) }

pub run_parity : Run 20 parity 0x6ed9_eba1
unfolding mix_of const_of
run_parity = record { even = refl; end = omega arith; mix = λ t p q. rw (le-ltb t 20 p, lt-ltb t 40 q); const = λ t p q. rw (le-ltb t 20 p, lt-ltb t 40 q) }

pub run_maj : Run 40 maj 0x8f1b_bcdc
unfolding mix_of const_of
run_maj =
    record {
      even = refl;
      end = omega arith;
      mix = λ t p q. rw (le-ltb t 20 (omega arith), le-ltb t 40 p, lt-ltb t 60 q);
      const = λ t p q. rw (le-ltb t 20 (omega arith), le-ltb t 40 p, lt-ltb t 60 q);
    }

pub run_last : Run 60 parity 0xca62_c1d6
unfolding mix_of const_of
run_last =
    record {
      even = refl;
      end = omega arith;
      mix = λ t p q. rw (le-ltb t 20 (omega arith), le-ltb t 40 (omega arith), le-ltb t 60 p);
      const = λ t p q. rw (le-ltb t 20 (omega arith), le-ltb t 40 (omega arith), le-ltb t 60 p);
    }

pub listed_five : (v : List ℕ) → length v ≡ 5 → v ≡ listed (five v)
listed_five [] l = absurd (omega arith)
listed_five (a ∷ []) l = absurd (omega arith)
listed_five (a ∷ b ∷ []) l = absurd (omega arith)
listed_five (a ∷ b ∷ c ∷ []) l = absurd (omega arith)
listed_five (a ∷ b ∷ c ∷ d ∷ []) l = absurd (omega arith)
listed_five (a ∷ b ∷ c ∷ d ∷ e ∷ []) l = refl
listed_five (a ∷ b ∷ c ∷ d ∷ e ∷ f ∷ v) l = absurd (omega arith)

-- a round of a run
pub is_round : {answers : ℕ → ℕ → ℕ → ℕ → Type 0} {from : ℕ} {mix : ℕ → ℕ → ℕ → ℕ} {k : ℕ} → Run from mix k → ((b c d f : ℕ) → answers b c d f → f ≡ mix b c d)
    → (t : ℕ) → from ≤ t → t < from + 20 → IsRound answers k t
is_round run given t low high =
    record { constant = run.const t low high; mixed = λ b c d f h. given b c d f h ∙ sym (ap (λ (mix : ℕ → ℕ → ℕ → ℕ). mix b c d) (run.mix t low high)) }

-- ---- blocks

added_at : (v h : List ℕ) (i : ℕ) → i < 5 → get_or (added (five v) (five h)) i 0 ≡ (get_or v i 0 + get_or h i 0) % 2 ^ 32
unfolding added
added_at v h zero l = refl
added_at v h (suc zero) l = refl
added_at v h (suc (suc zero)) l = refl
added_at v h (suc (suc (suc zero))) l = refl
added_at v h (suc (suc (suc (suc zero)))) l = refl
added_at v h (suc (suc (suc (suc (suc i))))) l = absurd (omega arith)

added_length : (v h : List ℕ) → length (added (five v) (five h)) ≡ 5
unfolding added
added_length v h = refl

-- a sum more
pub sum_more : (v first h : List ℕ) (i x : ℕ) → i < 5 → length first ≡ 5 → length h ≡ 5 → x ≡ (get_or v i 0 + get_or h i 0) % 2 ^ 32
    → take i h ≡ take i (added (five v) (five first)) → drop i h ≡ drop i first
    → (take (i + 1) (set h i x) ≡ take (i + 1) (added (five v) (five first))) × (drop (i + 1) (set h i x) ≡ drop (i + 1) first)
sum_more v first h i x small long_first long sum done left =
    let all = added (five v) (five first) in
    let rest : get_or h i 0 ∷ drop (suc i) h ≡ get_or first i 0 ∷ drop (suc i) first = sym (drop-cons h i 0 (omega arith)) ∙ left ∙ drop-cons first i 0 (omega arith) in
    let same : get_or h i 0 ≡ get_or first i 0 = ap (λ (l : List ℕ). get_or l 0 0) rest in
    let last : x ≡ get_or all i 0 = sum ∙ ap (λ (y : ℕ). (get_or v i 0 + y) % 2 ^ 32) same ∙ sym (added_at v first i small) in
    let behind : drop (i + 1) h ≡ drop (i + 1) first = rw add-one (ap (drop 1) rest) in (
      take_more_set h i x (omega arith) ∙ (λ k. done k ++ (last k ∷ [])) ∙ rw add-one (sym (take-suc all i 0 (omega (arith, added_length v first)))),
      drop-set-lt (i + 1) h i x (omega arith) ∙ behind,
    )

pub compress_made : (h m v r : List ℕ) (i : ℕ) → v ≡ listed (rounds (schedule m) 80 0 (five h)) → i ≡ 5 → length r ≡ 5 → take i r ≡ take i (added (five v) (five h)) → r ≡ compress h m
unfolding compress
compress_made h m v r i e end long sums =
    let all : take 5 r ≡ take 5 (added (five v) (five h)) = rw end at sums in
    sym (take_all 5 r (omega arith)) ∙ all ∙ take_all 5 (added (five v) (five h)) (omega (arith, added_length v h)) ∙ rw e

-- ---- the digest's bytes

-- those of one word more
pub digest_more : (h out o r : List ℕ) (k : ℕ) → k < 5 → length h ≡ 5 → length out ≡ 20 → o ≡ paste out (k * 4) (bytes_of 4 (get_or h k 0)) 4
    → take (k * 4) out ++ digest_of (drop k h) ≡ r → take ((k + 1) * 4) o ++ digest_of (drop (k + 1) h) ≡ r
unfolding digest_of
digest_more h out o r k b l n f g =
    let x = bytes_of 4 (get_or h k 0) in
    let w : length x ≡ 4 = length-bytes 4 (get_or h k 0) in
    let q : (k + 1) * 4 ≡ k * 4 + 4 = omega arith in
    let p : take ((k + 1) * 4) o ≡ take (k * 4) out ++ x =
    ap (λ (i : ℕ). take i o) q ∙ ap (take (k * 4 + 4)) f ∙ take-paste out (k * 4) x 4 (omega arith) (omega arith) ∙ ap (λ (y : List ℕ). take (k * 4) out ++ y) (take_all 4 x (omega arith)) in
    ap (λ (y : List ℕ). y ++ digest_of (drop (k + 1) h)) p
    ∙ append_assoc (take (k * 4) out) x (digest_of (drop (k + 1) h))
    ∙ ap (λ (i : ℕ). take (k * 4) out ++ (x ++ digest_of (drop i h))) (add-one k)
    ∙ ap (λ (y : List ℕ). take (k * 4) out ++ digest_of y) (sym (drop-cons h k 0 (omega arith)))
    ∙ g

pub digest_end : (h out r : List ℕ) (k : ℕ) → 5 ≤ k → k ≤ 5 → length h ≡ 5 → length out ≡ 20 → take (k * 4) out ++ digest_of (drop k h) ≡ r → out ≡ r
unfolding digest_of
digest_end h out r k a b l n g =
    let q : k ≡ 5 = omega arith in
    let e : drop 5 h ≡ [] = drop_of_length-le h {i = 5} (omega arith) in
    sym (ap (λ (x : List ℕ). x ++ digest_of (drop 5 h)) (take_all 20 out (omega arith)) ∙ ap (λ (x : List ℕ). out ++ digest_of x) e ∙ append-nil out)
    ∙ (rw q at g)
