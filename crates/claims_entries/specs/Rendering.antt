-- How meanings are rendered into the two stores, with nothing of a file in it (01: "A record holds all fields above and its path's start and end"); and that a measured
-- entry's record is its meaning's rendering. Assumes nothing.
use Prim.Native.Nat.{ℕ, zero, suc, ◌+◌, ◌*◌, ◌/◌, ◌%◌, ◌≤◌, ◌<◌}
use Rattle.std.specs.Prelude.{◌≡◌, Bool, true, false, eqb}
use Rattle.std.proofs.Math.Path.{refl, sym, ap}
use Rattle.std.proofs.Common.{◌∙◌, add_assoc, length-append, take-suc, drop-drop, get_or-drop}
use mathlib.Core.List.{List, [], ◌∷◌, ◌++◌, append_assoc}
use native.Mathlib.Omega.{arith}
use Rattle.std.proofs.Math.ListN.{length, get_or, take, drop, length-drop}
use Rattle.std.proofs.Math.Seq.{take-add}
use Rattle.laws.specs.Pick.{pick}
use Rattle.laws.specs.Tests.{Same, same, differs, same?}
use Rattle.wire.specs.BigEndian.{be_at, bytes_of, length-bytes}
use Rattle.entry.specs.Mode.{directory, keep_mode}
use Rattle.entry.specs.Record.{front_of, rest_of, record_of}
use Rattle.entry.specs.Laws.{dir_inside, length_rest}
use Rattle.decode.specs.Entries.{marked}
use Rattle.grammar.specs.Entry.{Stat, Meaning, kept_mode, fields, Entry, entry}
use Rattle.grammar.specs.File.{directory_mode, Some, this, other, Tells, it_is, it_is_not}
use Rattle.claims_entries.specs.Parts.{words_at, stat_at, meaning_at}

-- 32-bit numbers, big-endian
unfoldable pub word_bytes : List ℕ → List ℕ
word_bytes [] = []
word_bytes (v ∷ vs) = bytes_of 4 v ++ word_bytes vs

-- the ten numbers, in the order in which an entry has them
abbrev pub numbers_of : Stat → List ℕ
numbers_of t = t.ctime ∷ t.ctime_nanos ∷ t.mtime ∷ t.mtime_nanos ∷ t.dev ∷ t.ino ∷ t.mode ∷ t.uid ∷ t.gid ∷ t.size ∷ []

-- a record of 96 bytes, over the length of an id and where the path starts in the path store: the ten numbers, the id, and then zeros up to 72, the flags, the path's start
-- and end, and four zeros
unfoldable pub record_bytes : ℕ → ℕ → Meaning → List ℕ
record_bytes n from m = word_bytes (numbers_of m.stat) ++ m.id ++ rest_of n m.flags from (from + length m.path)

-- the records of entries, and their paths, one behind the other
unfoldable pub records_bytes : ℕ → ℕ → List Meaning → List ℕ
records_bytes n from [] = []
records_bytes n from (m ∷ ms) = record_bytes n from m ++ records_bytes n (from + length m.path) ms

unfoldable pub paths_bytes : List Meaning → List ℕ
paths_bytes [] = []
paths_bytes (m ∷ ms) = m.path ++ paths_bytes ms

-- sparse so far, or by an entry that is a directory
abbrev pub marked_by : Bool → Meaning → Bool
marked_by sparse m = pick (eqb m.stat.mode directory) true sparse

unfoldable pub sparse_by : Bool → List Meaning → Bool
sparse_by sparse [] = sparse
sparse_by sparse (m ∷ ms) = sparse_by (marked_by sparse m) ms

-- a file's elements are bytes
abbrev pub Bytes : List ℕ → Type 0
Bytes s = (i : ℕ) → get_or s i 0 < 256

-- ---- how long a record is

pub length-words : (vs : List ℕ) → length (word_bytes vs) ≡ length vs * 4
unfolding word_bytes
length-words [] = refl
length-words (v ∷ vs) = length-append (bytes_of 4 v) (word_bytes vs) ∙ omega (arith, length-bytes 4 v, length-words vs)

pub length_record : (n from : ℕ) (m : Meaning) → n ≤ 32 → length m.id ≡ n → length (record_bytes n from m) ≡ 96
unfolding record_bytes
length_record n from m h e = simp (length-append, length-words, length_rest) (omega arith)

pub spelled_id : {n version : ℕ} {before : _} {b : List ℕ} {m : Meaning} → Entry n version before b m → length m.id ≡ n
spelled_id (entry (fields x e) y z) = e

-- ---- a number's bytes are those that it was read from

words_append : (vs ws : List ℕ) → word_bytes (vs ++ ws) ≡ word_bytes vs ++ word_bytes ws
unfolding word_bytes
words_append [] ws = refl
words_append (v ∷ vs) ws = ap (λ (l : List ℕ). bytes_of 4 v ++ l) (words_append vs ws) ∙ sym (append_assoc (bytes_of 4 v) (word_bytes vs) (word_bytes ws))

upper : (a c : ℕ) → c < 256 → (a * 256 + c) / 256 ≡ a
upper a c h = omega arith

lower : (a c : ℕ) → c < 256 → (a * 256 + c) % 256 ≡ c
lower a c h = omega arith

module _ (s : List ℕ) (bytes : Bytes s) where
  pub bytes_are : (w at : ℕ) → at + w ≤ length s → bytes_of w (be_at w s at) ≡ take w (drop at s)
  unfolding bytes_of be_at
  bytes_are zero at h = refl
  bytes_are (suc w) at h =
      let c : ℕ = get_or s (at + w) 0 in
      (λ i. bytes_of w (upper (be_at w s at) c (bytes (at + w)) i) ++ (lower (be_at w s at) c (bytes (at + w)) i ∷ []))
      ∙ (λ i. bytes_are w at (omega arith) i ++ (sym (get_or-drop at s w 0) i ∷ []))
      ∙ sym (take-suc (drop at s) w 0 (omega (arith, length-drop at s)))

  words_are : (k at : ℕ) → at + k * 4 ≤ length s → word_bytes (words_at k s at) ≡ take (k * 4) (drop at s)
  unfolding word_bytes words_at
  words_are zero at h = refl
  words_are (suc k) at h =
      let e : suc k * 4 ≡ 4 + k * 4 = omega arith in
      (λ i. bytes_are 4 at (omega arith) i ++ words_are k (at + 4) (omega arith) i)
      ∙ sym (ap (λ (j : ℕ). take j (drop at s)) e ∙ take-add 4 (k * 4) (drop at s) ∙ ap (λ (l : List ℕ). take 4 (drop at s) ++ take (k * 4) l) (drop-drop 4 at s))

  -- the front of the record that the reader puts
  front_is : (n at : ℕ) → at + (40 + n) ≤ length s → front_of n s at ≡ word_bytes (numbers_of (stat_at s at)) ++ take n (drop (at + 40) s)
  unfolding front_of stat_at words_at keep_mode word_bytes
  front_is n at h =
      let id : List ℕ = take n (drop (at + 40) s) in
      let mode : ℕ → List ℕ = λ j. bytes_of 4 (kept_mode (be_at 4 s j)) in
      let six : List ℕ = word_bytes (words_at 6 s at) in
      let three : ℕ → List ℕ = λ j. word_bytes (words_at 3 s j) in
      let e : take (12 + n) (drop (at + 28) s) ≡ take 12 (drop (at + 28) s) ++ id =
      take-add 12 n (drop (at + 28) s) ∙ ap (λ (l : List ℕ). take 12 (drop (at + 28) s) ++ take n l) (drop-drop 12 (at + 28) s ∙ ap (λ (j : ℕ). drop j s) (add_assoc at 28 12)) in
      let f : take 24 (drop at s) ≡ six = sym (words_are 6 at (omega arith)) in
      let g : take (12 + n) (drop (at + 28) s) ≡ three (at + 28) ++ id = e ∙ ap (λ (l : List ℕ). l ++ id) (sym (words_are 3 (at + 28) (omega arith))) in
      let j : at + 28 ≡ at + 4 + 4 + 4 + 4 + 4 + 4 + 4 = omega arith in
      let k : at + 24 ≡ at + 4 + 4 + 4 + 4 + 4 + 4 = omega arith in
      (λ i. f i ++ mode (k i) ++ g i)
      ∙ (λ i. six ++ mode (at + 4 + 4 + 4 + 4 + 4 + 4) ++ (three (j i) ++ id))
      ∙ sym (append_assoc (six ++ mode (at + 4 + 4 + 4 + 4 + 4 + 4)) (three (at + 4 + 4 + 4 + 4 + 4 + 4 + 4)) id)
      ∙ ap (λ (l : List ℕ). l ++ id) (append_assoc six (mode (at + 4 + 4 + 4 + 4 + 4 + 4)) (three (at + 4 + 4 + 4 + 4 + 4 + 4 + 4)))
      ∙ ap (λ (l : List ℕ). l ++ id) (sym (words_append (words_at 6 s at) (kept_mode (be_at 4 s (at + 4 + 4 + 4 + 4 + 4 + 4)) ∷ words_at 3 s (at + 4 + 4 + 4 + 4 + 4 + 4 + 4))))

  -- the record that the reader puts is the meaning's
  pub record_is : (n at flags from : ℕ) (p : List ℕ) → at + (40 + n) ≤ length s → record_of n s at flags from (from + length p) ≡ record_bytes n from (meaning_at n s at flags p)
  unfolding record_of record_bytes
  record_is n at flags from p h = ap (λ (l : List ℕ). l ++ rest_of n flags from (from + length p)) (front_is n at h)

-- the mark, by the meaning's mode
pub marked_is : (n : ℕ) (s : List ℕ) (at flags : ℕ) (p : List ℕ) (sparse : Bool) → at + 28 ≤ length s → marked s at sparse ≡ marked_by sparse (meaning_at n s at flags p)
unfolding marked stat_at words_at keep_mode
marked_is n s at flags p sparse h =
    let k : at + 24 ≡ at + 4 + 4 + 4 + 4 + 4 + 4 = omega arith in
    ap (λ (t : Bool). pick t true sparse) (dir_inside s at h) ∙ ap (λ (j : ℕ). pick (eqb (kept_mode (be_at 4 s j)) directory) true sparse) k

-- ---- the mark says whether one of the entries is a directory

mark_stays : (ms : List Meaning) → sparse_by true ms ≡ true
unfolding sparse_by
mark_stays [] = refl
mark_stays (m ∷ ms) = by (eqb m.stat.mode directory) (mark_stays ms)
  where
    by : (t : Bool) → sparse_by true ms ≡ true → sparse_by (pick t true true) ms ≡ true
    by true e = e
    by false e = e

some_length : {P : Meaning → Type 0} {ms : List Meaning} → Some P ms → 0 < length ms
some_length (this x) = omega arith
some_length (other x) = omega arith

pub sparse_tells : (ms : List Meaning) → Tells (Some (λ (m : Meaning). m.stat.mode ≡ directory_mode) ms) (sparse_by false ms)
unfolding sparse_by
sparse_tells [] = it_is_not (λ x. omega (arith, some_length x))
sparse_tells (m ∷ ms) = go (same? m.stat.mode directory) (sparse_tells ms)
  where
    neither : {P : Meaning → Type 0} → (P m → ⊥) → (Some P ms → ⊥) → Some P (m ∷ ms) → ⊥
    neither d k (this e) = d e
    neither d k (other x) = k x

    behind : {u : Bool} → (m.stat.mode ≡ directory → ⊥) → Tells (Some (λ (m : Meaning). m.stat.mode ≡ directory_mode) ms) u → Tells (Some (λ (m : Meaning). m.stat.mode ≡ directory_mode) (m ∷ ms)) u
    behind d (it_is x) = it_is (other x)
    behind d (it_is_not k) = it_is_not (neither d k)

    go : {t : Bool} → Same m.stat.mode directory t → Tells (Some (λ (m : Meaning). m.stat.mode ≡ directory_mode) ms) (sparse_by false ms)
        → Tells (Some (λ (m : Meaning). m.stat.mode ≡ directory_mode) (m ∷ ms)) (sparse_by (pick t true false) ms)
    go (same e) u = rw (mark_stays ms) (it_is (this e))
    go (differs d) u = behind d u
