-- Stores that differ in the parents of their nodes only: what a parent that is set leaves as it was, and that a store is its parents and its other bytes. Assumes
-- nothing.
use Rattle.std.specs.Prelude.{Bool, ◌≡◌, ◌⊎◌, List, ℕ, ◌+◌, ◌*◌, ◌-◌, ◌/◌, ◌^◌, ◌≤◌, ◌<◌}
use Rattle.std.proofs.Math.Path.{refl, ap, subst}
use Rattle.std.proofs.Common.{sym, ◌∙◌, add_assoc, ext_get_or}
use Rattle.std.proofs.Math.Logic.{inl, inr, ⊎_elim}
use Rattle.std.proofs.Math.Nat.{add-zero}
use native.Mathlib.Omega.{arith}
use Rattle.std.proofs.Math.ListN.{length, get_or}
use Rattle.std.proofs.Math.Seq.{paste, length-paste}
use borrow.Author.Tests.{lt-ltb}
use Rattle.laws.specs.Pick.{pick}
use Rattle.laws.specs.Tests.{Less, less, not_less, less?, lt_or_ge}
use Rattle.laws.specs.Paste.{get_or-before, get_d_after}
use Rattle.wire.specs.BigEndian.{be_at, bytes_of, length-bytes, be_same, be_pasted, be_bytes, bytes_same}
use Rattle.node.specs.Store.{nodes_in, word_at, parent_at, name_at, with_parent}

-- byte b is in no parent of n nodes
abbrev pub Elsewhere : ℕ → ℕ → Type 0
Elsewhere n b = (i : ℕ) → i < n → (b < i * 72 + 32) ⊎ (i * 72 + 40 ≤ b)

-- ---- a parent that is set

module _ (s : List ℕ) (i v : ℕ) where
  eight : 8 ≤ length (bytes_of 8 v)
  eight = omega (arith, length-bytes 8 v)

  pub with_long : length (with_parent s i v) ≡ length s
  unfolding with_parent
  with_long = by (less? i (nodes_in s))
    where
      by : {t : Bool} → Less i (nodes_in s) t → length (pick t (paste s (i * 72 + 32) (bytes_of 8 v) 8) s) ≡ length s
      by (less h) = length-paste s (i * 72 + 32) (bytes_of 8 v) 8 (omega arith) eight
      by (not_less h) = refl

  -- a byte that is not in it stays
  byte_kept : (b : ℕ) → (i < nodes_in s → (b < i * 72 + 32) ⊎ (i * 72 + 40 ≤ b)) → get_or (with_parent s i v) b 0 ≡ get_or s b 0
  unfolding with_parent
  byte_kept b o = by (less? i (nodes_in s))
    where
      by : {t : Bool} → Less i (nodes_in s) t → get_or (pick t (paste s (i * 72 + 32) (bytes_of 8 v) 8) s) b 0 ≡ get_or s b 0
      by (less h) = ⊎_elim (λ l. get_or-before s (i * 72 + 32) (bytes_of 8 v) 8 b l (omega arith)) (λ l. get_d_after s (i * 72 + 32) (bytes_of 8 v) 8 b (omega arith) eight (omega arith)) (o h)
      by (not_less h) = refl

  pub parent_other : (j : ℕ) → (j ≡ i → ⊥) → parent_at (with_parent s i v) j ≡ parent_at s j
  unfolding word_at
  parent_other j n =
      rw (with_long, be_same 8 (with_parent s i v) s (j * 72 + 32) (j * 72 + 32) (λ m l. byte_kept (j * 72 + 32 + m) (λ h. ⊎_elim (λ k. inl (omega arith)) (λ k. inr (past k m)) (lt_or_ge j i))))
    where
      past : i ≤ j → (m : ℕ) → i * 72 + 40 ≤ j * 72 + 32 + m
      past k m = ⊎_elim (λ l. omega arith) (λ l. absurd (n (omega arith))) (lt_or_ge i j)

  pub parent_same : i < nodes_in s → v < 256 ^ 8 → parent_at (with_parent s i v) i ≡ v
  unfolding word_at with_parent
  parent_same h k =
      let p : nodes_in (paste s (i * 72 + 32) (bytes_of 8 v) 8) ≡ nodes_in s = ap (λ (l : ℕ). l / 72) (length-paste s (i * 72 + 32) (bytes_of 8 v) 8 (omega arith) eight) in
      rw (lt-ltb i (nodes_in s) h, p, lt-ltb i (nodes_in s) h) (here ∙ be_bytes 8 v k)
    where
      here : be_at 8 (paste s (i * 72 + 32) (bytes_of 8 v) 8) (i * 72 + 32) ≡ be_at 8 (bytes_of 8 v) 0
      here = simp add-zero at (be_pasted 8 s (i * 72 + 32) (bytes_of 8 v) 8 (omega arith) eight 0 (omega arith))

-- ---- stores that differ in parents only

pub record Alike (s t : List ℕ) : Type 0 where
  pub long : length t ≡ length s
  pub rest : (b : ℕ) → Elsewhere (nodes_in s) b → get_or t b 0 ≡ get_or s b 0

pub alike_refl : (s : List ℕ) → Alike s s
alike_refl s = record { long = refl; rest = λ b h. refl }

pub alike_on : {s t u : List ℕ} → Alike s t → Alike t u → Alike s u
alike_on a b = record { long = b.long ∙ a.long; rest = λ c h. b.rest c (subst (λ (l : ℕ). Elsewhere (l / 72) c) (sym a.long) h) ∙ a.rest c h }

pub with_alike : (s : List ℕ) (i v : ℕ) → Alike s (with_parent s i v)
with_alike s i v = record { long = with_long s i v; rest = λ b h. byte_kept s i v b (λ l. h i l) }

-- the words of a node but its parent
module _ {s t : List ℕ} (a : Alike s t) (i : ℕ) where
  head_byte : (m : ℕ) → m < 32 → get_or t (i * 72 + m) 0 ≡ get_or s (i * 72 + m) 0
  head_byte m h = a.rest (i * 72 + m) (λ j l. ⊎_elim (λ k. inr (omega arith)) (λ k. inl (omega arith)) (lt_or_ge j i))

  head_word : (k : ℕ) → k + 8 ≤ 32 → word_at k t i ≡ word_at k s i
  unfolding word_at
  head_word k h = rw (a.long, be_same 8 t s (i * 72 + k) (i * 72 + k) (λ m l. rw (add_assoc (i * 72) k m) (head_byte (k + m) (omega arith))))

  pub alike_name : (names : List ℕ) → name_at names t i ≡ name_at names s i
  unfolding name_at
  alike_name names = rw (head_word 0 (omega arith), head_word 8 (omega arith))

-- ---- a store is its parents and its other bytes

abbrev pub Bytes : List ℕ → Type 0
Bytes s = (i : ℕ) → get_or s i 0 < 256

module _ {s t : List ℕ} (bs : Bytes s) (bt : Bytes t) (a : Alike s t) (parents : (i : ℕ) → parent_at t i ≡ parent_at s i) where
  in_parent : (i b : ℕ) → i < nodes_in s → i * 72 + 32 ≤ b → b < i * 72 + 40 → get_or t b 0 ≡ get_or s b 0
  unfolding word_at
  in_parent i b h j k =
      let q : nodes_in t ≡ nodes_in s = ap (λ (n : ℕ). n / 72) a.long in
      let e : be_at 8 t (i * 72 + 32) ≡ be_at 8 s (i * 72 + 32) = rw (q, lt-ltb i (nodes_in s) h) at (parents i) in
      let z : i * 72 + 32 + (b - (i * 72 + 32)) ≡ b = omega arith in
      subst (λ (c : ℕ). get_or t c 0 ≡ get_or s c 0) z (bytes_same 8 t s (i * 72 + 32) bt bs e (b - (i * 72 + 32)) (omega arith))

  -- byte b in the node that has it
  byte_same : (b : ℕ) → get_or t b 0 ≡ get_or s b 0
  byte_same b = ⊎_elim
      (λ h. ⊎_elim
      (λ k. a.rest b (λ i j. ⊎_elim (λ f. inl f) (λ f. inr (omega arith)) (lt_or_ge b (i * 72 + 32))))
      (λ k. ⊎_elim
      (λ l. in_parent (b / 72) b h k l)
      (λ l. a.rest b (λ i j. ⊎_elim (λ f. inl f) (λ f. inr (omega arith)) (lt_or_ge b (i * 72 + 32))))
      (lt_or_ge b (b / 72 * 72 + 40)))
      (lt_or_ge b (b / 72 * 72 + 32)))
      (λ h. a.rest b (λ i j. inr (omega arith)))
      (lt_or_ge (b / 72) (nodes_in s))

  pub store_same : t ≡ s
  store_same = ext_get_or 0 t s a.long (λ b m. byte_same b)
