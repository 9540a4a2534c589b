-- What the definitions come to. A digest that is fed pieces one after the other and then finishes gives the SHA-1 of the pieces joined, whatever the
-- cutting (`pieces_finish`), and so after each piece (`each_prefix_finishes`). Feeding two pieces is feeding them joined, from any state
-- (`feed_twice`) and to any digest (`fed_twice`).
-- The padding is the standard's: the fewest zeros with which the length is a multiple of 64. Assumes nothing.
use Rattle.std.specs.Prelude.{◌≡◌, ℕ, zero, suc, ◌+◌, ◌-◌, ◌*◌, ◌/◌, ◌%◌, ◌^◌, ◌<◌, ◌≤◌, List, [], ◌∷◌, ◌++◌, length, take, drop, replicate, refl}
use Rattle.std.proofs.Common.{sym, ap, ◌∙◌, arith, length-append, length-drop, drop-drop, take_at, length-take-le}
use mathlib.Core.List.{append_assoc, append-nil, flatten}
use Rattle.std.proofs.lemmas.List.{length-replicate, take-append-le, drop-append-le}
use Rattle.wire.specs.BigEndian.{bytes_of, length-bytes}
use Rattle.sha1_hash.specs.Sha1.{compress, hash_blocks, hash_all, initial, zeros_of, padding, digest_of, sha1}
use Rattle.sha1_hash.specs.Pieces.{State, last_part, feed_state, finish_state, no_bytes, state_after, filled, digest_at, state_of, digest_after, fed, finished, fed_all}
use Rattle.sha1_hash.specs.declared.Digest.{Digest}

-- ---- blocks

-- less than a block, and a block and more
pub hash_short : (h s : List ℕ) → length s < 64 → hash_all h s ≡ h
unfolding hash_blocks
hash_short h s p = let q : length s / 64 ≡ 0 = omega arith in rw q

pub last_short : (s : List ℕ) → length s < 64 → last_part s ≡ s
last_short s p = let q : length s / 64 * 64 ≡ 0 = omega arith in rw q

pub hash_long : (h s : List ℕ) → 64 ≤ length s → hash_all h s ≡ hash_all (compress h (take 64 s)) (drop 64 s)
unfolding hash_blocks
hash_long h s p =
    let q : length s / 64 ≡ suc (length (drop 64 s) / 64) = rw (length-drop 64 s) (omega arith) in
    rw q

pub last_long : (s : List ℕ) → 64 ≤ length s → last_part s ≡ last_part (drop 64 s)
last_long s p =
    let q : 64 + length (drop 64 s) / 64 * 64 ≡ length s / 64 * 64 = rw (length-drop 64 s) (omega arith) in
    sym (drop-drop (length (drop 64 s) / 64 * 64) 64 s ∙ ap (λ (n : ℕ). drop n s) q)

-- the blocks of a ++ b are those of a, and then those of what is left of a, with b
module _ (b : List ℕ) where
  hash_append_at : (n : ℕ) (h a : List ℕ) → length a / 64 ≡ n → hash_all (hash_all h a) (last_part a ++ b) ≡ hash_all h (a ++ b)
  hash_append_at zero h a e =
      let p : length a < 64 = omega arith in
      rw (hash_short h a p, last_short a p)
  hash_append_at (suc n) h a e =
      let p : 64 ≤ length a = omega arith in
      let l : 64 ≤ length (a ++ b) = rw (length-append a b) (omega arith) in
      let i : length (drop 64 a) / 64 ≡ n = rw (length-drop 64 a) (omega arith) in
      rw (hash_long h a p, last_long a p, hash_long h (a ++ b) l, take-append-le 64 a b p, drop-append-le 64 a b p)
      (hash_append_at n (compress h (take 64 a)) (drop 64 a) i)

  last_append_at : (n : ℕ) (a : List ℕ) → length a / 64 ≡ n → last_part (last_part a ++ b) ≡ last_part (a ++ b)
  last_append_at zero a e =
      let p : length a < 64 = omega arith in
      rw (last_short a p)
  last_append_at (suc n) a e =
      let p : 64 ≤ length a = omega arith in
      let l : 64 ≤ length (a ++ b) = rw (length-append a b) (omega arith) in
      let i : length (drop 64 a) / 64 ≡ n = rw (length-drop 64 a) (omega arith) in
      rw (last_long a p, last_long (a ++ b) l, drop-append-le 64 a b p) (last_append_at n (drop 64 a) i)

pub hash_append : (h a b : List ℕ) → hash_all (hash_all h a) (last_part a ++ b) ≡ hash_all h (a ++ b)
hash_append h a b = hash_append_at b (length a / 64) h a refl

pub last_append : (a b : List ℕ) → last_part (last_part a ++ b) ≡ last_part (a ++ b)
last_append a b = last_append_at b (length a / 64) a refl

-- ---- states

-- two pieces
pub feed_twice : (x : State) (s t : List ℕ) → feed_state (feed_state x s) t ≡ feed_state x (s ++ t)
unfolding feed_state
feed_twice x s t =
    let r = x.rest ++ s in
    let p : hash_all (hash_all x.hash r) (last_part r ++ t) ≡ hash_all x.hash (x.rest ++ (s ++ t)) = rw (← append_assoc) (hash_append x.hash r t) in
    let q : last_part (last_part r ++ t) ≡ last_part (x.rest ++ (s ++ t)) = rw (← append_assoc) (last_append r t) in
    let c : ((x.count + length s) % 2 ^ 64 + length t) % 2 ^ 64 ≡ (x.count + length (s ++ t)) % 2 ^ 64 = rw (length-append s t) (omega arith) in
    λ k. record { hash = p k; rest = q k; count = c k }

pub after_more : (s t : List ℕ) → feed_state (state_after s) t ≡ state_after (s ++ t)
unfolding state_after
after_more s t = feed_twice no_bytes s t

-- the padding sees the length modulo 2 ^ 64 alone
pub padding_wraps : (n : ℕ) → padding (n % 2 ^ 64) ≡ padding n
unfolding padding zeros_of
padding_wraps n =
    let p : n % 2 ^ 64 % 64 ≡ n % 64 = omega arith in
    let q : n % 2 ^ 64 * 8 % 2 ^ 64 ≡ n * 8 % 2 ^ 64 = omega arith in
    rw (p, q)

count_after : (s : List ℕ) → (feed_state no_bytes s).count ≡ length s % 2 ^ 64
unfolding feed_state
count_after s = ap (λ (n : ℕ). n % 2 ^ 64) (omega arith)

hash_after : (s : List ℕ) → (feed_state no_bytes s).hash ≡ hash_all initial s
unfolding feed_state
hash_after s = refl

pub state_finishes : (s : List ℕ) → finish_state (state_after s) ≡ sha1 s
unfolding finish_state state_after sha1
state_finishes s =
    ap (λ (l : List ℕ). digest_of (feed_state (feed_state no_bytes s) l).hash) (ap padding (count_after s) ∙ padding_wraps (length s))
    ∙ ap (λ (x : State). digest_of x.hash) (feed_twice no_bytes s (padding (length s)))
    ∙ ap digest_of (hash_after (s ++ padding (length s)))

-- ---- digests

-- what a digest holds is read back, where as many bytes are left over as the count says
pub filled_start : (s : List ℕ) (n : ℕ) → length s ≡ n → take n (filled s) ≡ s
unfolding filled
filled_start s n e = take_at s (replicate (64 - length s) 0) n e

left_over_lem : (n k : ℕ) → n % 64 + k - (n % 64 + k) / 64 * 64 ≡ (n + k) % 2 ^ 64 % 64
left_over_lem n k = omega arith

rest_length : (r s : List ℕ) (n : ℕ) → length r ≡ n % 64 → length (last_part (r ++ s)) ≡ (n + length s) % 2 ^ 64 % 64
rest_length r s n e =
    let l : length (r ++ s) ≡ n % 64 + length s = length-append r s ∙ ap (λ (k : ℕ). k + length s) e in
    length-drop (length (r ++ s) / 64 * 64) (r ++ s) ∙ ap (λ (k : ℕ). k - k / 64 * 64) l ∙ left_over_lem n (length s)

pub holds_fed : (x : State) (s : List ℕ) → length x.rest ≡ x.count % 64 → state_of (digest_at (feed_state x s)) ≡ feed_state x s
unfolding feed_state
holds_fed x s e =
    let n = (x.count + length s) % 2 ^ 64 in
    let r : take (n % 64) (filled (last_part (x.rest ++ s))) ≡ last_part (x.rest ++ s) = filled_start (last_part (x.rest ++ s)) (n % 64) (rest_length x.rest s x.count e) in
    λ k. record { hash = hash_all x.hash (x.rest ++ s); rest = r k; count = n }

pub holds_after : (s : List ℕ) → state_of (digest_after s) ≡ state_after s
unfolding digest_after state_after
holds_after s = holds_fed no_bytes s refl

-- two pieces, fed to any digest that a program can hold
pub fed_twice : (d : Digest) (s t : List ℕ) → length d.block ≡ 64 → fed (fed d s) t ≡ fed d (s ++ t)
unfolding fed
fed_twice d s t l =
    let small : d.len % 64 < 64 = omega arith in
    ap (λ (x : State). digest_at (feed_state x t)) (holds_fed (state_of d) s (length-take-le (d.len % 64) d.block (omega arith)))
    ∙ ap digest_at (feed_twice (state_of d) s t)

-- a digest that stands for a message, after one more piece, and its end
-- the definition, opened
shut : (s : List ℕ) → digest_at (state_after s) ≡ digest_after s
unfolding digest_after
shut s = refl

pub fed_after : (s t : List ℕ) → fed (digest_after s) t ≡ digest_after (s ++ t)
unfolding fed
fed_after s t = ap (λ (x : State). digest_at (feed_state x t)) (holds_after s) ∙ ap digest_at (after_more s t) ∙ shut (s ++ t)

pub finished_after : (s : List ℕ) → finished (digest_after s) ≡ sha1 s
unfolding finished
finished_after s = ap finish_state (holds_after s) ∙ state_finishes s

-- ---- pieces

pub fed_all_lem : (s : List ℕ) (ps : List (List ℕ)) → fed_all (digest_after s) ps ≡ digest_after (s ++ flatten ps)
unfolding fed_all flatten
fed_all_lem s [] = ap digest_after (sym (append-nil s))
fed_all_lem s (p ∷ ps) = ap (λ (d : Digest). fed_all d ps) (fed_after s p) ∙ fed_all_lem (s ++ p) ps ∙ ap digest_after (append_assoc s p (flatten ps))

-- pieces in any cutting, empty ones among them, and then the end
pub pieces_finish : (ps : List (List ℕ)) → finished (fed_all (digest_after []) ps) ≡ sha1 (flatten ps)
pieces_finish ps = ap finished (fed_all_lem [] ps) ∙ finished_after (flatten ps)

-- the same after each of them
pub each_prefix_finishes : (ps : List (List ℕ)) (n : ℕ) → finished (fed_all (digest_after []) (take n ps)) ≡ sha1 (flatten (take n ps))
each_prefix_finishes ps n = pieces_finish (take n ps)

-- ---- 5.1.1: the padded length is a multiple of 64, and no fewer zeros make it so

pub padded : (n : ℕ) → (n + length (padding n)) % 64 ≡ 0
unfolding padding zeros_of
padded n = rw (length-append (replicate ((119 - n % 64) % 64) 0) (bytes_of 8 (n * 8 % 2 ^ 64)), length-replicate, length-bytes) (omega arith)

pub fewest : (n k : ℕ) → (n + 1 + k + 8) % 64 ≡ 0 → zeros_of n ≤ k
unfolding zeros_of
fewest n k h = omega arith
