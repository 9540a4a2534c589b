-- SHA-1 on lists of bytes, from FIPS 180-4: the functions and constants of sections 3.2, 4.1.1 and 4.2.1, the padding of 5.1.1, the initial hash
-- value of 5.3.1 and the computation of 6.1.2. A word is a number below 2 ^ 32, a block 64 bytes. Assumes nothing.
use Rattle.std.specs.Prelude.{ℕ, zero, suc, ◌+◌, ◌-◌, ◌*◌, ◌/◌, ◌%◌, ◌^◌, List, [], ◌∷◌, ◌++◌, length, take, drop, replicate, bit_and, bit_or, bit_xor, nat_lt, slice_index}
use Rattle.laws.specs.Pick.{pick}
use Rattle.wire.specs.BigEndian.{be_at, bytes_of}

-- ---- 3.2: the word x rotated left by n, 0 < n < 32

unfoldable pub rotl : ℕ → ℕ → ℕ
rotl n x = bit_or (x * 2 ^ n % 2 ^ 32) (x / 2 ^ (32 - n))

-- ---- 4.1.1: the functions of three words, and which of them round t takes

unfoldable pub ch : ℕ → ℕ → ℕ → ℕ
ch x y z = bit_xor (bit_and x y) (bit_and (2 ^ 32 - 1 - x) z)

unfoldable pub parity : ℕ → ℕ → ℕ → ℕ
parity x y z = bit_xor (bit_xor x y) z

unfoldable pub maj : ℕ → ℕ → ℕ → ℕ
maj x y z = bit_xor (bit_xor (bit_and x y) (bit_and x z)) (bit_and y z)

unfoldable pub mix_of : ℕ → ℕ → ℕ → ℕ → ℕ
mix_of t = pick (nat_lt t 20) ch (pick (nat_lt t 40) parity (pick (nat_lt t 60) maj parity))

-- ---- 4.2.1: the constant of round t

unfoldable pub const_of : ℕ → ℕ
const_of t = pick (nat_lt t 20) 0x5a82_7999 (pick (nat_lt t 40) 0x6ed9_eba1 (pick (nat_lt t 60) 0x8f1b_bcdc 0xca62_c1d6))

-- ---- 5.1.1: what is put after a message of n bytes: a one bit, the fewest zeros, and the number of bits in 64, so that whole blocks come out

unfoldable pub zeros_of : ℕ → ℕ
zeros_of n = (119 - n % 64) % 64

unfoldable pub padding : ℕ → List ℕ
padding n = 128 ∷ (replicate (zeros_of n) 0 ++ bytes_of 8 (n * 8 % 2 ^ 64))

-- ---- 5.3.1: the initial hash value

unfoldable pub initial : List ℕ
initial = 0x6745_2301 ∷ 0xefcd_ab89 ∷ 0x98ba_dcfe ∷ 0x1032_5476 ∷ 0xc3d2_e1f0 ∷ []

-- ---- 6.1.2, step 1: the schedule of a block m

-- the first n words of the block
unfoldable pub words_of : ℕ → List ℕ → List ℕ
words_of zero m = []
words_of (suc n) m = words_of n m ++ (be_at 4 m (n * 4) ∷ [])

-- the word that comes after those of ws
unfoldable pub next_word : List ℕ → ℕ
next_word ws = rotl 1 (bit_xor (bit_xor (bit_xor (slice_index ws (length ws - 3)) (slice_index ws (length ws - 8))) (slice_index ws (length ws - 14))) (slice_index ws (length ws - 16)))

-- n words more
unfoldable pub extend : ℕ → List ℕ → List ℕ
extend zero ws = ws
extend (suc n) ws = extend n (ws ++ (next_word ws ∷ []))

unfoldable pub schedule : List ℕ → List ℕ
schedule m = extend 64 (words_of 16 m)

-- ---- 6.1.2, step 2: the five working variables

pub record Five : Type 0 where
  pub a : ℕ
  pub b : ℕ
  pub c : ℕ
  pub d : ℕ
  pub e : ℕ

abbrev pub five : List ℕ → Five
five h = record { a = slice_index h 0; b = slice_index h 1; c = slice_index h 2; d = slice_index h 3; e = slice_index h 4 }

abbrev pub listed : Five → List ℕ
listed v = v.a ∷ v.b ∷ v.c ∷ v.d ∷ v.e ∷ []

-- ---- 6.1.2, step 3: a round, where the function gave f, with the constant k and the word w

unfoldable pub turn : ℕ → ℕ → ℕ → Five → Five
turn f k w v =
    record {
      a = (rotl 5 v.a + f + v.e + k + w) % 2 ^ 32;
      b = v.a;
      c = rotl 30 v.b;
      d = v.c;
      e = v.d;
    }

-- n rounds with the schedule ws, from the round t on
unfoldable pub rounds : List ℕ → ℕ → ℕ → Five → Five
rounds ws zero t v = v
rounds ws (suc n) t v = rounds ws n (t + 1) (turn (mix_of t v.b v.c v.d) (const_of t) (slice_index ws t) v)

-- ---- 6.1.2, step 4: the hash value after the block m, and after the first n blocks of s

unfoldable pub added : Five → Five → List ℕ
added v h = (v.a + h.a) % 2 ^ 32 ∷ (v.b + h.b) % 2 ^ 32 ∷ (v.c + h.c) % 2 ^ 32 ∷ (v.d + h.d) % 2 ^ 32 ∷ (v.e + h.e) % 2 ^ 32 ∷ []

unfoldable pub compress : List ℕ → List ℕ → List ℕ
compress h m = added (rounds (schedule m) 80 0 (five h)) (five h)

unfoldable pub hash_blocks : ℕ → List ℕ → List ℕ → List ℕ
hash_blocks zero h s = h
hash_blocks (suc n) h s = hash_blocks n (compress h (take 64 s)) (drop 64 s)

-- the hash value after all the whole blocks of s
abbrev pub hash_all : List ℕ → List ℕ → List ℕ
hash_all h s = hash_blocks (length s / 64) h s

-- ---- 6.1.2, the end: the bytes of the words of the hash value

unfoldable pub digest_of : List ℕ → List ℕ
digest_of [] = []
digest_of (x ∷ h) = bytes_of 4 x ++ digest_of h

unfoldable pub sha1 : List ℕ → List ℕ
sha1 s = digest_of (hash_all initial (s ++ padding (length s)))
