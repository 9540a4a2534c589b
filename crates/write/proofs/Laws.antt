-- Laws of what follows the entries, turned the way that the needs ask. Assumes nothing.
use Prim.Native.Nat.{ℕ, ◌+◌, ◌≤◌}
use mathlib.Core.Bool.{Bool, true, false}
use mathlib.Core.Path.{◌≡◌, refl, sym, ap, ◌∙◌}
use mathlib.Core.List.{List, [], ◌++◌}
use Rattle.std.specs.Prelude.{Option, Some, None}
use native.Mathlib.Omega.{arith}
use lib.ListN.{length, take, drop, replicate, length-append, length-replicate}
use lib.Seq.{paste, length-paste, take_at}
use Rattle.laws.specs.Put.{put, put_none, put_front, put_put, length-put, paste_put}
use Rattle.wire.specs.BigEndian.{bytes_of, length-bytes}
use Rattle.sha1_hash.specs.Sha1.{sha1}
use Rattle.format.specs.Format.{id_size}
use Rattle.write.specs.File.{extension_head, tree_signature, sparse_signature, eoie_signature, tree_head, tree_head_with, sparse_part, heads_of, eoie_part, trailer_of}
use Rattle.sha1_hash.specs.Length.{length-sha1}
use Rattle.kind.specs.Sha1.{sha1_kind}
use Rattle.write.specs.Parts.{length-head, length_eoie}

-- ---- an extension's head

pub head_put : (d d₁ d₂ signature : List ℕ) (k size : ℕ) → length signature ≡ 4 → k + 8 ≤ length d → d₁ ≡ paste d k signature 4 → d₂ ≡ paste d₁ (k + 4) (bytes_of 4 size) 4 → d₂ ≡ put d k (extension_head signature size)
unfolding extension_head
head_put d d₁ d₂ signature k size l room e₁ e₂ =
    let q₁ : d₁ ≡ put d k signature = e₁ ∙ paste_put d signature k 4 (sym l) in
    let p : k + 4 ≡ k + length signature = omega arith in
    e₂ ∙ paste_put d₁ (bytes_of 4 size) (k + 4) 4 (sym (length-bytes 4 size)) ∙ (λ j. put (q₁ j) (p j) (bytes_of 4 size)) ∙ put_put d signature (bytes_of 4 size) k (omega arith)

-- ---- parts that are there or not

module _ (sparse : Bool) where
  pub sparse_room : sparse ≡ true → (k m : ℕ) → k + length (sparse_part sparse) ≤ m → k + 8 ≤ m
  unfolding sparse_part
  sparse_room h k m r = let l : length (sparse_part sparse) ≡ 8 = rw h (length-head sparse_signature 0 refl) in omega arith

  pub sparse_next : sparse ≡ true → (k r : ℕ) → r ≡ k + 8 → r ≡ k + length (sparse_part sparse)
  unfolding sparse_part
  sparse_next h k r e = let l : length (sparse_part sparse) ≡ 8 = rw h (length-head sparse_signature 0 refl) in omega arith

  pub sparse_put : sparse ≡ true → (d d₁ : List ℕ) (k : ℕ) → d₁ ≡ put d k (extension_head sparse_signature 0) → d₁ ≡ put d k (sparse_part sparse)
  unfolding sparse_part
  sparse_put h d d₁ k e = rw h e

  pub sparse_none : sparse ≡ false → (k : ℕ) → k ≡ k + length (sparse_part sparse)
  unfolding sparse_part
  sparse_none h k = rw h (omega arith)

  pub sparse_same : sparse ≡ false → (d : List ℕ) (k : ℕ) → d ≡ put d k (sparse_part sparse)
  unfolding sparse_part
  sparse_same h d k = rw h (sym (put_none d k))

module _ (tree : Option ℕ) where
  headed : (size : ℕ) → tree ≡ Some size → tree_head_with tree ≡ extension_head tree_signature size
  unfolding tree_head
  headed size e = ap (λ (t : Option ℕ). tree_head_with t) e

  unheaded : tree ≡ None → tree_head_with tree ≡ []
  unfolding tree_head
  unheaded e = ap (λ (t : Option ℕ). tree_head_with t) e

  module _ (size : ℕ) (e : tree ≡ Some size) where
    eight : length (tree_head_with tree) ≡ 8
    eight = ap length (headed size e) ∙ length-head tree_signature size refl

    pub tree_room : (k m : ℕ) → k + length (tree_head_with tree) ≤ m → k + 8 ≤ m
    tree_room k m r = omega (arith, eight)

    pub tree_next : (k r : ℕ) → r ≡ k + 8 → r ≡ k + length (tree_head_with tree)
    tree_next k r e₁ = omega (arith, eight)

    pub tree_put : (d d₁ : List ℕ) (k : ℕ) → d₁ ≡ put d k (extension_head tree_signature size) → d₁ ≡ put d k (tree_head_with tree)
    tree_put d d₁ k e₁ = e₁ ∙ ap (λ (l : List ℕ). put d k l) (sym (headed size e))

  pub tree_none : tree ≡ None → (k : ℕ) → k ≡ k + length (tree_head_with tree)
  tree_none e k = omega (arith, ap length (unheaded e))

  pub tree_same : tree ≡ None → (d : List ℕ) (k : ℕ) → d ≡ put d k (tree_head_with tree)
  tree_same e d k = sym (put_none d k) ∙ ap (λ (l : List ℕ). put d k l) (sym (unheaded e))

pub short_tree : (writes : Bool) (size : ℕ) → length (tree_head writes size) ≤ 8
unfolding tree_head
short_tree true size = omega (arith, length-head tree_signature size refl)
short_tree false size = omega arith

pub short_sparse : (sparse : Bool) → length (sparse_part sparse) ≤ 8
unfolding sparse_part
short_sparse true = omega (arith, length-head sparse_signature 0 refl)
short_sparse false = omega arith

-- ---- the extensions' signatures and sizes, in an array of 16 bytes

module _ (writes : Bool) (size : ℕ) (sparse : Bool) (d : List ℕ) (z : d ≡ replicate 16 0) where
  sixteen : length d ≡ 16
  sixteen = ap length z ∙ length-replicate {A = ℕ} 16 0

  pub contents_first : 0 + length (tree_head writes size) ≤ length d
  contents_first = omega (arith, sixteen, short_tree writes size)

  module _ (d₁ : List ℕ) (m : ℕ) (e₁ : d₁ ≡ put d 0 (tree_head writes size)) (em : m ≡ 0 + length (tree_head writes size)) where
    same_long : length d₁ ≡ 16
    same_long = ap length e₁ ∙ length-put d (tree_head writes size) 0 contents_first ∙ sixteen

    pub contents_second : m + length (sparse_part sparse) ≤ length d₁
    contents_second = omega (arith, same_long, short_tree writes size, short_sparse sparse)

    module _ (d₂ : List ℕ) (n : ℕ) (e₂ : d₂ ≡ put d₁ m (sparse_part sparse)) (en : n ≡ m + length (sparse_part sparse)) where
      both : d₂ ≡ put d 0 (heads_of writes size sparse)
      unfolding heads_of
      both = e₂ ∙ (λ j. put (e₁ j) (em j) (sparse_part sparse)) ∙ put_put d (tree_head writes size) (sparse_part sparse) 0 (omega arith)

      whole : n ≡ length (heads_of writes size sparse)
      unfolding heads_of
      whole = omega (arith, length-append (tree_head writes size) (sparse_part sparse))

      pub contents_inside : n ≤ length d₂
      contents_inside = omega (arith, ap length e₂, length-put d₁ (sparse_part sparse) m contents_second, contents_second)

      pub contents_are : take n d₂ ≡ heads_of writes size sparse
      contents_are =
          (λ j. take n ((both ∙ put_front d (heads_of writes size sparse)) j))
          ∙ take_at (heads_of writes size sparse) (drop (length (heads_of writes size sparse)) d) n (sym whole)

      pub contents_hashed : (hash : List ℕ) → hash ≡ sha1 (take n d₂) → hash ≡ sha1 (heads_of writes size sparse)
      contents_hashed hash e = e ∙ ap (λ (l : List ℕ). sha1 l) contents_are

-- ---- EOIE

module _ (has : Bool) (offset : ℕ) (toc : List ℕ) where
  module _ (h : has ≡ true) (k : ℕ) (d : List ℕ) (room : k + length (eoie_part sha1_kind has offset toc) ≤ length d) where
    pub eoie_head_room : k + 8 ≤ length d
    eoie_head_room = omega (arith, length_eoie sha1_kind has offset toc h)

    module _ (b : ℕ) (eb : b ≡ k + 8) (d₁ : List ℕ) (e₁ : d₁ ≡ put d k (extension_head eoie_signature 24)) where
      same₁ : length d₁ ≡ length d
      same₁ = ap length e₁ ∙ length-put d (extension_head eoie_signature 24) k (omega (arith, length-head eoie_signature 24 refl, eoie_head_room))

      pub eoie_offset_room : b + 4 ≤ length d₁
      eoie_offset_room = omega (arith, length_eoie sha1_kind has offset toc h, same₁)

      -- whatever number was put there
      pub eoie_hash_room : (d₂ : List ℕ) (x : ℕ) → d₂ ≡ paste d₁ b (bytes_of 4 x) 4 → b + 4 + id_size ≤ length d₂
      eoie_hash_room d₂ x e₂ = omega (arith, length_eoie sha1_kind has offset toc h, same₁, ap length e₂, length-paste d₁ b (bytes_of 4 x) 4 eoie_offset_room (omega (arith, length-bytes 4 x)))

  pub eoie_hash : (hash : List ℕ) → hash ≡ sha1 toc → 0 + id_size ≤ length hash
  eoie_hash hash e = omega (arith, ap length e, length-sha1 toc)

  pub eoie_next : has ≡ true → (k b : ℕ) → b ≡ k + 8 → b + 4 + id_size ≡ k + length (eoie_part sha1_kind has offset toc)
  eoie_next h k b e = omega (arith, length_eoie sha1_kind has offset toc h)

  pub eoie_put : has ≡ true → (d d₁ d₂ d₃ hash : List ℕ) (k b : ℕ) → k + length (eoie_part sha1_kind has offset toc) ≤ length d → hash ≡ sha1 toc → b ≡ k + 8 → d₁ ≡ put d k (extension_head eoie_signature 24) → d₂ ≡ paste d₁ b (bytes_of 4 offset) 4 → d₃ ≡ paste d₂ (b + 4) hash id_size
      → d₃ ≡ put d k (eoie_part sha1_kind has offset toc)
  unfolding eoie_part
  eoie_put h d d₁ d₂ d₃ hash k b room eh eb e₁ e₂ e₃ =
      let x : List ℕ = extension_head eoie_signature 24 in
      let o : List ℕ = bytes_of 4 offset in
      let lx : length (extension_head eoie_signature 24) ≡ 8 = length-head eoie_signature 24 refl in
      let lo : length (bytes_of 4 offset) ≡ 4 = length-bytes 4 offset in
      let low : k ≤ length d = omega arith in
      let pb : b ≡ k + length x = omega arith in
      let pe : b + 4 ≡ k + length (x ++ o) = omega (arith, length-append x o) in
      let q₂ : d₂ ≡ put d k (x ++ o) = e₂ ∙ paste_put d₁ o b 4 (sym lo) ∙ (λ j. put (e₁ j) (pb j) o) ∙ put_put d x o k low in
      let q₃ : d₃ ≡ put d k ((x ++ o) ++ sha1 toc)
      = e₃ ∙ ap (λ (l : List ℕ). paste d₂ (b + 4) l id_size) eh ∙ paste_put d₂ (sha1 toc) (b + 4) id_size (sym (length-sha1 toc)) ∙ (λ j. put (q₂ j) (pe j) (sha1 toc)) ∙ put_put d (x ++ o) (sha1 toc) k low in
      rw h q₃

  pub eoie_none : has ≡ false → (k : ℕ) → k ≡ k + length (eoie_part sha1_kind has offset toc)
  unfolding eoie_part
  eoie_none h k = rw h (omega arith)

  pub eoie_same : has ≡ false → (d : List ℕ) (k : ℕ) → d ≡ put d k (eoie_part sha1_kind has offset toc)
  unfolding eoie_part
  eoie_same h d k = rw h (sym (put_none d k))

-- ---- the trailer

module _ (skips : Bool) (d d₁ : List ℕ) (k : ℕ) where
  pub trailer_zeros : skips ≡ true → d₁ ≡ paste d k (replicate id_size 0) id_size → d₁ ≡ put d k (trailer_of sha1_kind skips (take k d))
  unfolding trailer_of
  trailer_zeros h e = rw h (e ∙ paste_put d (replicate id_size 0) k id_size (sym (length-replicate {A = ℕ} id_size 0)))

  pub trailer_hash : skips ≡ false → (hash : List ℕ) → hash ≡ sha1 (take k d) → d₁ ≡ paste d k hash id_size → d₁ ≡ put d k (trailer_of sha1_kind skips (take k d))
  unfolding trailer_of
  trailer_hash h hash eh e = rw h (e ∙ ap (λ (l : List ℕ). paste d k l id_size) eh ∙ paste_put d (sha1 (take k d)) k id_size (sym (length-sha1 (take k d))))

pub ruleset parts = (head_put, sparse_room, sparse_next, sparse_put, sparse_none, sparse_same, tree_room, tree_next, tree_put, tree_none, tree_same, contents_first, contents_second, contents_inside, contents_hashed, eoie_head_room, eoie_offset_room, eoie_hash, eoie_next, eoie_put, eoie_none, eoie_same, trailer_zeros, trailer_hash)
