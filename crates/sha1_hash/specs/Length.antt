-- SHA-1 has twenty bytes (FIPS 180-4, figure 1: a message digest of 160 bits). Assumes nothing.
use Rattle.std.specs.Prelude.{◌≡◌, ℕ, zero, suc, ◌*◌, ◌/◌, List, [], ◌∷◌, ◌++◌, length, take, drop, refl}
use Rattle.std.proofs.Common.{ap, ◌∙◌, arith, length-append}
use Rattle.wire.specs.BigEndian.{bytes_of, length-bytes}
use Rattle.sha1_hash.specs.Sha1.{initial, padding, added, compress, hash_blocks, hash_all, digest_of, sha1}

length-digest : (h : List ℕ) → length (digest_of h) ≡ length h * 4
unfolding digest_of
length-digest [] = refl
length-digest (x ∷ h) = length-append (bytes_of 4 x) (digest_of h) ∙ omega (arith, length-bytes 4 x, length-digest h)

length-compress : (h s : List ℕ) → length (compress h s) ≡ 5
unfolding compress added
length-compress h s = refl

length_blocks : (n : ℕ) (h s : List ℕ) → length h ≡ 5 → length (hash_blocks n h s) ≡ 5
unfolding hash_blocks
length_blocks zero h s e = e
length_blocks (suc n) h s e = length_blocks n (compress h (take 64 s)) (drop 64 s) (length-compress h (take 64 s))

length-initial : length initial ≡ 5
unfolding initial
length-initial = refl

pub length-sha1 : (s : List ℕ) → length (sha1 s) ≡ 20
unfolding sha1
length-sha1 s =
    let m : List ℕ = s ++ padding (length s) in
    length-digest (hash_all initial m) ∙ ap (λ (n : ℕ). n * 4) (length_blocks (length m / 64) initial m length-initial)
