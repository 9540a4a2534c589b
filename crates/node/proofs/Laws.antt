-- What the proofs of the code cite: where a name ends, and the laws of the node store, with what the code's pastes come to. Assumes nothing.
use mathlib.Core.Path.{◌≡◌, refl, sym, ap, ◌∙◌}
use mathlib.Core.List.{List, ◌++◌, append_assoc}
use Prim.Native.Nat.{ℕ, ◌+◌, ◌-◌, ◌*◌, ◌/◌, ◌≤◌, ◌<◌}
use native.Mathlib.Omega.{arith}
use lib.ListN.{length, take, drop, replicate, length-replicate}
use lib.Seq.{paste, take_all}
use Rattle.laws.specs.Lists.{drop-replicate, length_part}
use Rattle.laws.specs.Paste.{paste_then, paste_take}
use Rattle.slices.specs.Bytes.{nul_at}
use Rattle.slices.specs.Laws.{nul_bounds}
use Rattle.wire.specs.BigEndian.{bytes_of, length-bytes}
use Rattle.node.specs.declared.Node.{Node}
use Rattle.node.specs.Laws.{length_both, one, two, three, four, length_two, length_three, length-four, length_numbers, put_is}
use Rattle.node.specs.Store.{numbers_of, id_of, node_of, put_at}
use Rattle.std.specs.Prelude.{Option, Some}
use Rattle.node.specs.declared.Node.{Node}

-- the NUL that ends a name lies before the end
pub stop_less : (s : List ℕ) (at end : ℕ) (e : Option ℕ) (stop : ℕ) → e ≡ nul_at s at end → e ≡ Some stop → stop < end
stop_less s at end e stop f q = (nul_bounds s at end stop (sym f ∙ q)).1

-- ---- a node's bytes, as the code pastes them

module _ (n : Node) (parent : ℕ) where
  pub numbers_put : (d d₁ d₂ d₃ d₄ d₅ : List ℕ) → d₁ ≡ paste d 0 (bytes_of 8 n.start) 8 → d₂ ≡ paste d₁ 8 (bytes_of 8 n.stop) 8 → d₃ ≡ paste d₂ 16 (bytes_of 8 n.count) 8
      → d₄ ≡ paste d₃ 24 (bytes_of 8 n.subtrees) 8 → d₅ ≡ paste d₄ 32 (bytes_of 8 parent) 8 → 40 ≤ length d → d₅ ≡ paste d 0 (numbers_of n parent) 40
  unfolding numbers_of
  numbers_put d d₁ d₂ d₃ d₄ d₅ e₁ e₂ e₃ e₄ e₅ h =
      let a₂ = paste_then d d₁ d₂ 0 8 (one n parent) (bytes_of 8 n.stop) 8 8 16 e₁ e₂ refl refl (length-bytes 8 n.start) (omega (arith, length-bytes 8 n.stop)) (omega arith) in
      let a₃ = paste_then d d₂ d₃ 0 16 (two n parent) (bytes_of 8 n.count) 16 8 24 a₂ e₃ refl refl (length_two n parent) (omega (arith, length-bytes 8 n.count)) (omega arith) in
      let a₄ = paste_then d d₃ d₄ 0 24 (three n parent) (bytes_of 8 n.subtrees) 24 8 32 a₃ e₄ refl refl (length_three n parent) (omega (arith, length-bytes 8 n.subtrees)) (omega arith) in
      paste_then d d₄ d₅ 0 32 (four n parent) (bytes_of 8 parent) 32 8 40 a₄ e₅ refl refl (length-four n parent) (omega (arith, length-bytes 8 parent)) (omega arith)

module _ (s : List ℕ) (n : Node) (parent : ℕ) (turned : n.id ≤ n.next) (small : n.next - n.id ≤ 32) (inside : n.next ≤ length s) where
  made : (w w₁ w₂ : List ℕ) (bytes : ℕ) → bytes ≡ n.next - n.id → w ≡ replicate 72 0 → w₁ ≡ paste w 0 (numbers_of n parent) 40 → w₂ ≡ paste w₁ 40 (drop n.id s) bytes → w₂ ≡ node_of s n parent
  unfolding node_of id_of
  made w w₁ w₂ bytes eb ew e₁ e₂ =
      let x : List ℕ = numbers_of n parent in
      let y : List ℕ = take bytes (drop n.id s) in
      let lx : length x ≡ 40 = length_numbers n parent in
      let ly : length y ≡ bytes = length_part bytes n.id s (omega arith) in
      let lw : length w ≡ 72 = ap length ew ∙ length-replicate {A = ℕ} 72 0 in
      let joined = paste_then w w₁ w₂ 0 40 x y 40 bytes (40 + bytes) e₁ (e₂ ∙ paste_take w₁ 40 (drop n.id s) bytes) refl refl lx (omega arith) (omega arith) in
      let lxy : length (x ++ y) ≡ 40 + bytes = length_both x y 40 bytes lx ly in
      let whole : take (40 + bytes) (x ++ y) ≡ x ++ y = take_all (40 + bytes) (x ++ y) (omega arith) in
      let left : 72 - (0 + (40 + bytes)) ≡ 32 - bytes = omega arith in
      let rest : drop (0 + (40 + bytes)) w ≡ replicate (32 - bytes) 0 = ap (λ (l : List ℕ). drop (0 + (40 + bytes)) l) ew ∙ drop-replicate (0 + (40 + bytes)) 72 0 ∙ ap (λ (k : ℕ). replicate k 0) left in
      joined ∙ (λ k. whole k ++ rest k) ∙ append_assoc x y (replicate (32 - bytes) 0) ∙ ap (λ (k : ℕ). x ++ (take k (drop n.id s) ++ replicate (32 - k) 0)) eb

-- the store with a node written, as the code returns it
pub put_whole : (s : List ℕ) (n : Node) (parent : ℕ) (ns : List ℕ) (i : ℕ) → i < length ns / 72 → n.id ≤ n.next → n.next - n.id ≤ 32 → n.next ≤ length s → (ns' w w₁ w₂ : List ℕ) (bytes : ℕ)
    → bytes ≡ n.next - n.id → w ≡ replicate 72 0 → w₁ ≡ paste w 0 (numbers_of n parent) 40 → w₂ ≡ paste w₁ 40 (drop n.id s) bytes → ns' ≡ paste ns (i * 72) (drop 0 w₂) 72
    → ns' ≡ put_at s n parent ns i
put_whole s n parent ns i h k l m ns' w w₁ w₂ bytes eb ew e₁ e₂ e₃ =
    e₃ ∙ ap (λ (x : List ℕ). paste ns (i * 72) x 72) (made s n parent k l m w w₁ w₂ bytes eb ew e₁ e₂) ∙ sym (put_is s n parent ns i h k l m)
