-- Laws of the node store: how long a node's bytes are, that what was put is found, and that the other nodes are as they were. Assumes nothing.
use Rattle.std.specs.Prelude.{◌≡◌, ℕ, ◌+◌, ◌-◌, ◌*◌, ◌/◌, ◌^◌, ◌≤◌, ◌<◌, length, take, drop, replicate}
use Rattle.std.proofs.Math.Path.{refl, sym}
use Rattle.std.proofs.Common.{ap, ◌∙◌, add_assoc, length-append, lit≤}
use mathlib.Core.List.{List, [], ◌++◌, append_assoc}
use native.Mathlib.Omega.{arith}
use Rattle.std.proofs.Math.ListN.{get_or}
use Rattle.std.proofs.lemmas.List.{length-replicate}
use Rattle.std.proofs.Math.Seq.{paste}
use Rattle.std.proofs.lemmas.List.Edits.{length-paste}
use borrow.Author.Tests.{lt-ltb, le-ltb, le-leb, lt-leb}
use Rattle.laws.specs.Lists.{length_part}
use Rattle.laws.specs.Paste.{get_or-before}
use Rattle.wire.specs.BigEndian.{be_at, bytes_of, length-bytes, be_left, be_right, be_bytes, be_pasted, be_same}
use Rattle.node.specs.declared.Node.{Node}
use Rattle.node.specs.Store.{numbers_of, id_of, node_of, put_at, word_at, is_part, part_of, name_at}

-- ---- what the store says

pub word_out : (k : ℕ) (ns : List ℕ) (i : ℕ) → length ns / 72 ≤ i → 0 ≡ word_at k ns i
unfolding word_at
word_out k ns i h = sym (rw (le-ltb i (length ns / 72) h))

module _ (names ns : List ℕ) (i b e : ℕ) (p : b ≡ word_at 0 ns i) (q : e ≡ word_at 8 ns i) where
  pub name_part : b ≤ e → e ≤ length names → take (e - b) (drop b names) ≡ name_at names ns i
  unfolding name_at part_of is_part
  name_part h k = sym (rw (← p, ← q, le-leb b e h, le-leb e (length names) k))

-- ---- a node's bytes

pub length_both : (p q : List ℕ) (m k : ℕ) → length p ≡ m → length q ≡ k → length (p ++ q) ≡ m + k
length_both p q m k e f = length-append p q ∙ (λ i. e i + f i)

module _ (n : Node) (parent : ℕ) where
  abbrev pub one : List ℕ
  one = bytes_of 8 n.start

  abbrev pub two : List ℕ
  two = one ++ bytes_of 8 n.stop

  abbrev pub three : List ℕ
  three = two ++ bytes_of 8 n.count

  abbrev pub four : List ℕ
  four = three ++ bytes_of 8 n.subtrees

  pub length_two : length two ≡ 16
  length_two = length_both one (bytes_of 8 n.stop) 8 8 (length-bytes 8 n.start) (length-bytes 8 n.stop)

  pub length_three : length three ≡ 24
  length_three = length_both two (bytes_of 8 n.count) 16 8 length_two (length-bytes 8 n.count)

  pub length-four : length four ≡ 32
  length-four = length_both three (bytes_of 8 n.subtrees) 24 8 length_three (length-bytes 8 n.subtrees)

  pub length_numbers : length (numbers_of n parent) ≡ 40
  unfolding numbers_of
  length_numbers = length_both four (bytes_of 8 parent) 32 8 length-four (length-bytes 8 parent)

module _ (s : List ℕ) (n : Node) (parent : ℕ) (turned : n.id ≤ n.next) (small : n.next - n.id ≤ 32) (inside : n.next ≤ length s) where
  length-id : length (id_of s n) ≡ 32
  unfolding id_of
  length-id =
      length_both (take (n.next - n.id) (drop n.id s)) (replicate (32 - (n.next - n.id)) 0) (n.next - n.id) (32 - (n.next - n.id)) (length_part (n.next - n.id) n.id s (omega arith)) (length-replicate {A = ℕ} (32 - (n.next - n.id)) 0)
      ∙ omega arith

  pub length_node : length (node_of s n parent) ≡ 72
  unfolding node_of
  length_node = length_both (numbers_of n parent) (id_of s n) 40 32 (length_numbers n parent) length-id

-- where the node and its id are there, it is one paste
pub put_is : (s : List ℕ) (n : Node) (parent : ℕ) (ns : List ℕ) (i : ℕ) → i < length ns / 72 → n.id ≤ n.next → n.next - n.id ≤ 32 → n.next ≤ length s
    → put_at s n parent ns i ≡ paste ns (i * 72) (node_of s n parent) 72
unfolding put_at
put_is s n parent ns i h k l m = rw (lt-leb (length ns / 72) i h, le-ltb n.next n.id k, le-ltb 32 (n.next - n.id) l, le-ltb (length s) n.next m)

-- ---- what was put is found

module _ (s : List ℕ) (n : Node) (parent : ℕ) (turned : n.id ≤ n.next) (small : n.next - n.id ≤ 32) (inside : n.next ≤ length s) where
  -- a number of the five, from the bytes before it
  number_in : (p q : List ℕ) (m x : ℕ) → length p ≡ m → node_of s n parent ≡ (p ++ bytes_of 8 x) ++ q → x < 256 ^ 8 → be_at 8 (node_of s n parent) m ≡ x
  number_in p q m x lp e h =
      let zero-behind : m ≡ m + 0 = omega arith in
      let both : length (p ++ bytes_of 8 x) ≡ m + 8 = length_both p (bytes_of 8 x) m 8 lp (length-bytes 8 x) in
      ap (λ (l : List ℕ). be_at 8 l m) e
      ∙ be_left 8 (p ++ bytes_of 8 x) q m (omega arith)
      ∙ ap (λ (k : ℕ). be_at 8 (p ++ bytes_of 8 x) k) zero-behind
      ∙ be_right 8 p (bytes_of 8 x) m 0 lp
      ∙ be_bytes 8 x h

  pub start_found : n.start < 256 ^ 8 → be_at 8 (node_of s n parent) 0 ≡ n.start
  unfolding node_of numbers_of
  start_found h = number_in [] (bytes_of 8 n.stop ++ (bytes_of 8 n.count ++ (bytes_of 8 n.subtrees ++ (bytes_of 8 parent ++ id_of s n)))) 0 n.start refl (simp append_assoc) h

  pub stop_found : n.stop < 256 ^ 8 → be_at 8 (node_of s n parent) 8 ≡ n.stop
  unfolding node_of numbers_of
  stop_found h = number_in (one n parent) (bytes_of 8 n.count ++ (bytes_of 8 n.subtrees ++ (bytes_of 8 parent ++ id_of s n))) 8 n.stop (length-bytes 8 n.start) (simp append_assoc) h

  pub count_found : n.count < 256 ^ 8 → be_at 8 (node_of s n parent) 16 ≡ n.count
  unfolding node_of numbers_of
  count_found h = number_in (two n parent) (bytes_of 8 n.subtrees ++ (bytes_of 8 parent ++ id_of s n)) 16 n.count (length_two n parent) (simp append_assoc) h

  pub subtrees_found : n.subtrees < 256 ^ 8 → be_at 8 (node_of s n parent) 24 ≡ n.subtrees
  unfolding node_of numbers_of
  subtrees_found h = number_in (three n parent) (bytes_of 8 parent ++ id_of s n) 24 n.subtrees (length_three n parent) (simp append_assoc) h

  pub parent_found : parent < 256 ^ 8 → be_at 8 (node_of s n parent) 32 ≡ parent
  unfolding node_of numbers_of
  parent_found h = number_in (four n parent) (id_of s n) 32 parent (length-four n parent) (simp append_assoc) h

-- ---- a store that has the same bytes of node j says the same of it

module _ (ns ms : List ℕ) (j : ℕ) (long : length ms ≡ length ns) (same : (m : ℕ) → m < 72 → get_or ms (j * 72 + m) 0 ≡ get_or ns (j * 72 + m) 0) where
  pub word_same : (k : ℕ) → k + 8 ≤ 72 → word_at k ms j ≡ word_at k ns j
  unfolding word_at
  word_same k h =
      let bytes : (m : ℕ) → m < 8 → get_or ms (j * 72 + k + m) 0 ≡ get_or ns (j * 72 + k + m) 0 = λ m l. rw (add_assoc (j * 72) k m) (same (k + m) (omega arith)) in
      rw (long, be_same 8 ms ns (j * 72 + k) (j * 72 + k) bytes)

  pub name_same : (names : List ℕ) → name_at names ms j ≡ name_at names ns j
  unfolding name_at
  name_same names = rw (word_same 0 (lit≤ tt), word_same 8 (lit≤ tt))

-- the node that was put, and the others
module _ (ns : List ℕ) (i : ℕ) (x : List ℕ) (hx : length x ≡ 72) (hi : i < length ns / 72) where
  pub length-put : length (paste ns (i * 72) x 72) ≡ length ns
  length-put = length-paste ns (i * 72) x 72 (omega arith) (omega arith)

  pub word_put : (k : ℕ) → k + 8 ≤ 72 → word_at k (paste ns (i * 72) x 72) i ≡ be_at 8 x k
  unfolding word_at
  word_put k h = rw (length-put, lt-ltb i (length ns / 72) hi) (be_pasted 8 ns (i * 72) x 72 (omega arith) (omega arith) k h)

  pub byte_before : (k : ℕ) → k < i * 72 → get_or (paste ns (i * 72) x 72) k 0 ≡ get_or ns k 0
  byte_before k h = get_or-before ns (i * 72) x 72 k h (omega arith)
