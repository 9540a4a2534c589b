-- SHA-1 of a message that comes in pieces (FIPS 180-4, 6.1.2, takes the message block by block). A state has the hash value of the blocks so far, the
-- bytes after the last whole block, and the number of bytes so far modulo 2 ^ 64. A `Digest` holds a state: every digest does, also one that a caller
-- made up, and what each function makes of it is said through the state. Assumes nothing.
use Rattle.std.specs.Prelude.{ℕ, ◌+◌, ◌-◌, ◌*◌, ◌/◌, ◌%◌, ◌^◌, List, [], ◌∷◌, ◌++◌, length, take, drop, replicate}
use Rattle.sha1_hash.specs.Sha1.{hash_all, initial, padding, digest_of}
use Rattle.sha1_hash.specs.declared.Digest.{Digest}

pub record State : Type 0 where
  pub hash : List ℕ
  pub rest : List ℕ
  pub count : ℕ

-- the bytes after the last whole block
abbrev pub last_part : List ℕ → List ℕ
last_part s = drop (length s / 64 * 64) s

-- the state after one more piece
unfoldable pub feed_state : State → List ℕ → State
feed_state x s =
    record {
      hash = hash_all x.hash (x.rest ++ s);
      rest = last_part (x.rest ++ s);
      count = (x.count + length s) % 2 ^ 64;
    }

-- the twenty bytes that a state finishes with
unfoldable pub finish_state : State → List ℕ
finish_state x = digest_of (feed_state x (padding x.count)).hash

abbrev pub no_bytes : State
no_bytes = record { hash = initial; rest = []; count = 0 }

-- the state that stands for the message s
unfoldable pub state_after : List ℕ → State
state_after s = feed_state no_bytes s

-- ---- the digest that holds a state, and the state that a digest holds

-- a block that begins with s and has zeros behind
unfoldable pub filled : List ℕ → List ℕ
filled s = s ++ replicate (64 - length s) 0

abbrev pub digest_at : State → Digest
digest_at x = record { h = x.hash; block = filled x.rest; len = x.count }

-- of the digest's block only the bytes in use
abbrev pub state_of : Digest → State
state_of d = record { hash = d.h; rest = take (d.len % 64) d.block; count = d.len }

-- ---- what the three methods answer

-- the digest that stands for the message s
unfoldable pub digest_after : List ℕ → Digest
digest_after s = digest_at (state_after s)

-- the digest d after one more piece
unfoldable pub fed : Digest → List ℕ → Digest
fed d s = digest_at (feed_state (state_of d) s)

unfoldable pub finished : Digest → List ℕ
finished d = finish_state (state_of d)

-- the digest d after all of the pieces, one after the other
unfoldable pub fed_all : Digest → List (List ℕ) → Digest
fed_all d [] = d
fed_all d (p ∷ ps) = fed_all (fed d p) ps
