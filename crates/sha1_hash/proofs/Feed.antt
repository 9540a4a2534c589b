-- Laws of `join`, `feed` and `finish`: what the code leaves in a digest is what `feed_state` says. Assumes nothing.
use Rattle.std.proofs.Common.{◌≡◌, ℕ, zero, suc, ◌+◌, ◌-◌, ◌*◌, ◌/◌, ◌%◌, ◌^◌, ◌<◌, ◌≤◌, List, [], ◌∷◌, ◌++◌, length, take, drop, set, replicate, sym, refl, ap, ◌∙◌, append_assoc, append-nil, add-one, arith, length-append, length-drop, take-append-drop, drop_of_length-le, length-take-le, take_all}
use Rattle.std.proofs.lemmas.Slice.{take-put_mid}
use Rattle.std.specs.List.{fold}
use Rattle.std.specs.Simd.{first_chunks}
use borrow.Rule.Slice.PartMut.{put_mid, mid_of, same_len_mid}
use lib.ListN.{length-replicate}
use lib.Seq.{paste, take-paste, drop-length}
use Rattle.wire.specs.BigEndian.{bytes_of, length-bytes}
use Rattle.laws.specs.Lists.{length_part, take-replicate}
use Rattle.sha1_hash.specs.Sha1.{compress, hash_blocks, hash_all, zeros_of, padding}
use Rattle.sha1_hash.specs.Pieces.{last_part, feed_state, filled, fed}
use Rattle.sha1_hash.specs.declared.Digest.{Digest}
use Rattle.sha1_hash.specs.Theorems.{hash_short, last_short, hash_append, last_append}

-- ---- `join`: a copy, and zeros behind it

module _ (block piece ys zs : List ℕ) (n end : ℕ) (long : length block ≡ 64) (fits : n + length piece ≤ 64) (place : end ≡ n + length piece) where
  abbrev copied : List ℕ
  copied = put_mid n (end - n) block ys

  pub join_made : length ys ≡ length (mid_of n (end - n) block) → ys ≡ piece → zs ≡ replicate (length (mid_of end (64 - end) copied)) 0
      → put_mid end (64 - end) (put_mid n (end - n) block ys) zs ≡ filled (take n block ++ piece)
  unfolding filled
  join_made as_long same zeros =
      let s = take n block ++ piece in
      let start : take end copied ≡ s =
      take-put_mid n (end - n) block ys end (omega (arith, ap length same)) (omega arith) ∙ ap (λ (l : List ℕ). take n block ++ l) same in
      let whole : length copied ≡ 64 = same_len_mid n (end - n) block ys as_long ∙ long in
      let left : length (drop end copied) ≡ 64 - end = rw (length-drop end copied, whole) in
      let used : length s ≡ end = length-append (take n block) piece ∙ rw (length-take-le n block (omega arith)) (sym place) in
      let count : length (mid_of end (64 - end) copied) ≡ 64 - length s = rw (used) (length-take-le (64 - end) (drop end copied) (omega arith)) in
      let cleared : zs ≡ replicate (64 - length s) 0 = zeros ∙ ap (λ (k : ℕ). replicate k 0) count in
      let rest : drop (64 - end) (drop end copied) ≡ [] = drop_of_length-le (drop end copied) {i = 64 - end} (omega arith) in
      (λ i. start i ++ (cleared i ++ rest i)) ∙ ap (λ (l : List ℕ). s ++ l) (append-nil (replicate (64 - length s) 0))

-- a part of a block and a part of a piece behind it fill a block
module _ (block b : List ℕ) (n from m : ℕ) (long : length block ≡ 64) (fits : n + m ≤ 64) (inside : from + m ≤ length b) where
  joined : List ℕ
  joined = take n block ++ take m (drop from b)

  joined_length : length joined ≡ n + m
  unfolding joined
  joined_length = length-append (take n block) (take m (drop from b)) ∙ rw (length-take-le n block (omega arith), length_part m from b inside)

  pub filled_long : (d : List ℕ) → d ≡ filled (take n block ++ take m (drop from b)) → length d ≡ 64
  unfolding filled joined
  filled_long d e =
      ap length e ∙ length-append joined (replicate (64 - length joined) 0) ∙ omega (arith, joined_length, length-replicate {A = ℕ} (64 - length joined) 0)

-- ---- blocks

pub fold_chunks : (k : ℕ) (h s : List ℕ) → fold compress h (first_chunks 64 k s) ≡ hash_blocks k h s
unfolding hash_blocks
fold_chunks zero h s = refl
fold_chunks (suc k) h s = fold_chunks k (compress h (take 64 s)) (drop 64 s)

-- ---- `feed`

module _ (h block piece : List ℕ) (len room : ℕ) (long : length block ≡ 64) (space : room ≡ (64 - len % 64) % 64) where
  in_use : length (take (len % 64) block) ≡ len % 64
  in_use = length-take-le (len % 64) block (omega arith)

  -- the piece fits beside the bytes in use
  pub feed_short : (d : List ℕ) → length piece < room → d ≡ filled (take (len % 64) block ++ piece)
      → ◌≡◌ {A = Digest} (record { h = h; block = d; len = (len + length piece) % 2 ^ 64 }) (fed (record { h = h; block = block; len = len }) piece)
  unfolding fed feed_state
  feed_short d fits e =
      let s = take (len % 64) block ++ piece in
      let small : length s < 64 = rw (length-append (take (len % 64) block) piece, in_use) (omega arith) in
      let p : h ≡ hash_all h s = sym (hash_short h s small) in
      let q : d ≡ filled (last_part s) = e ∙ ap filled (sym (last_short s small)) in
      λ k. record { h = p k; block = q k; len = (len + length piece) % 2 ^ 64 }

  -- the piece fills the block that is begun, if one is
  module _ (fills : room ≤ length piece) where
    begun : List ℕ
    begun = take (len % 64) block ++ take room piece

    begun_length : length begun ≡ len % 64 + room
    unfolding begun
    begun_length = length-append (take (len % 64) block) (take room piece) ∙ rw (in_use, length-take-le room piece fills)

    begun_whole : last_part begun ≡ []
    begun_whole =
        let n : length begun / 64 * 64 ≡ length begun = omega (arith, begun_length) in
        ap (λ (k : ℕ). drop k begun) n ∙ drop-length begun

    message : begun ++ drop room piece ≡ take (len % 64) block ++ piece
    unfolding begun
    message = append_assoc (take (len % 64) block) (take room piece) (drop room piece) ∙ ap (λ (l : List ℕ). take (len % 64) block ++ l) (take-append-drop room piece)

    -- the hash value after the block that is filled up: none where no byte is in use, and else one
    pub fill_none : len % 64 ≡ 0 → h ≡ hash_all h (take (len % 64) block ++ take room piece)
    unfolding begun
    fill_none none = sym (hash_short h begun (omega (arith, begun_length)))

    pub fill_one : (start d r : List ℕ) → (len % 64 ≡ 0 → ⊥) → start ≡ take room piece → d ≡ filled (take (len % 64) block ++ start) → r ≡ compress h d
        → r ≡ hash_all h (take (len % 64) block ++ take room piece)
    unfolding filled hash_blocks begun
    fill_one start d r some e f g =
        let l : length begun ≡ 64 = omega (arith, begun_length) in
        let n : length begun / 64 ≡ 1 = rw l in
        let full : filled begun ≡ take 64 begun = ap (λ (k : ℕ). begun ++ replicate (64 - k) 0) l ∙ append-nil begun ∙ sym (take_all 64 begun (omega arith)) in
        g ∙ ap (compress h) (f ∙ ap (λ (x : List ℕ). filled (take (len % 64) block ++ x)) e ∙ full) ∙ sym (ap (λ (k : ℕ). hash_blocks k h begun) n)

    pub feed_long : (rest tail d first last : List ℕ) (blocks : List (List ℕ)) (total : ℕ) → rest ≡ drop room piece → total ≡ (len + length piece) % 2 ^ 64
        → first ≡ hash_all h (take (len % 64) block ++ take room piece) → blocks ≡ first_chunks 64 (length rest / 64) rest → last ≡ fold compress first blocks
        → tail ≡ last_part rest → d ≡ filled (take 0 block ++ tail)
        → ◌≡◌ {A = Digest} (record { h = last; block = d; len = total }) (fed (record { h = h; block = block; len = len }) piece)
    unfolding fed feed_state begun
    feed_long rest tail d first last blocks total cut sum f cut_again g left e =
        let p : last ≡ hash_all h (take (len % 64) block ++ piece) =
        g ∙ ap (fold compress first) cut_again ∙ fold_chunks (length rest / 64) first rest ∙ ap (λ (v : List ℕ). hash_all v rest) f
        ∙ ap (hash_all (hash_all h begun)) (cut ∙ ap (λ (l : List ℕ). l ++ drop room piece) (sym begun_whole)) ∙ hash_append h begun (drop room piece) ∙ ap (hash_all h) message in
        let q : last_part rest ≡ last_part (take (len % 64) block ++ piece) =
        ap last_part (cut ∙ ap (λ (l : List ℕ). l ++ drop room piece) (sym begun_whole)) ∙ last_append begun (drop room piece) ∙ ap last_part message in
        λ k. record { h = p k; block = (e ∙ ap filled (left ∙ q)) k; len = sum k }

-- ---- `finish`

pub pad_made : (len zeros bits : ℕ) (d : List ℕ) → zeros ≡ (119 - len % 64) % 64 → bits ≡ len * 8 % 2 ^ 64 → d ≡ paste {A = ℕ} (set (replicate 72 0) 0 128) (zeros + 1) (bytes_of 8 bits) 8
    → take (zeros + 9) d ≡ padding len
unfolding padding zeros_of
pad_made len zeros bits d z b f =
    let n : zeros + 9 ≡ zeros + 1 + 8 = omega arith in
    let x : take {A = ℕ} (zeros + 1) (set (replicate 72 0) 0 128) ≡ 128 ∷ replicate zeros 0 = rw add-one (ap (λ (l : List ℕ). 128 ∷ l) (take-replicate zeros 71 0 (omega arith))) in
    let l : length (bytes_of 8 bits) ≡ 8 = length-bytes 8 bits in
    rw (n, f, take-paste {A = ℕ} (set (replicate 72 0) 0 128) (zeros + 1) (bytes_of 8 bits) 8 (omega arith) (omega arith), x, take_all 8 (bytes_of 8 bits) (omega arith), b, z)
