-- What the accessors show of a rendering: field for field the meaning that was rendered, its path in the path store, whatever stands behind it. A spelling in bytes means
-- numbers that fit their places in a record. Assumes nothing.
use Rattle.std.specs.Prelude.{ℕ, zero, suc, ◌+◌, ◌-◌, ◌*◌, ◌/◌, ◌^◌, ◌≤◌, ◌<◌, ◌≡◌, refl, get_or, drop}
use Rattle.std.proofs.Common.{sym, ◌∙◌, subst, ⊎_elim, arith, lit≤, lit<, length-append, length-drop, drop_at, drop-drop, take_all, le-leb}
use Rattle.std.proofs.Math.Path.{ap}
use mathlib.Core.List.{List, [], ◌∷◌, ◌++◌, append_assoc}
use Rattle.std.proofs.Math.Option.{some}
use Rattle.std.proofs.Math.ListN.{length, take, get_elem?, get_or-append, get_or-eq_default}
use Rattle.std.proofs.Math.Seq.{take_at}
use Rattle.std.proofs.lemmas.List.{take-append-le, drop-append-le}
use Rattle.laws.specs.Lists.{get_or_right}
use Rattle.laws.specs.Tests.{lt_or_ge}
use Rattle.laws.specs.Times.{done, more}
use Rattle.wire.specs.BigEndian.{be_at, bytes_of, length-bytes, be_left, be_right, be_bytes, be_small}
use Rattle.entry.specs.Flags.{stage_raw}
use Rattle.entry.specs.Layout.{record_size}
use Rattle.entry.specs.Paths.{Paths, lying_in}
use Rattle.entry.specs.Record.{rest_of, field_at, flags_at, start_at, end_at, id_at}
use Rattle.entry.specs.Laws.{field_is, id_is, inside_is, path_is}
use Rattle.entry.specs.Found.{flags_behind, start_behind, end_behind}
use Rattle.grammar.specs.Number.{big_endian, BigEndian, big_endian_lem}
use Rattle.grammar.specs.Entry.{Stat, Meaning, meaning, Words, no_words, word, kept_mode, Fields, fields, Flags, plain, extended, Before, Entry, entry, Entries}
use Rattle.claims_entries.specs.Parts.{be_is}
use Rattle.claims_entries.specs.Rendering.{word_bytes, numbers_of, record_bytes, records_bytes, paths_bytes, Bytes, length-words, length_record}
use Rattle.claims_entries.specs.Said.{filled}
use Rattle.claims_entries.specs.Fields.{stat_shown, Shows}

-- ---- numbers that fit

pub data Below (limit : ℕ) : List ℕ → Type 0 where
  none : Below limit []
  below : {v : ℕ} {vs : List ℕ} → v < limit → Below limit vs → Below limit (v ∷ vs)

-- the numbers of a meaning fit their places in a record, and the id has n bytes
pub record FitsRecord (n : ℕ) (m : Meaning) : Type 0 where
  pub numbers : Below (2 ^ 32) (numbers_of m.stat)
  pub id : length m.id ≡ n
  pub flags : m.flags < 2 ^ 32

pub data EachFits (n : ℕ) : List Meaning → Type 0 where
  none_left : EachFits n []
  each : {m : Meaning} {ms : List Meaning} → FitsRecord n m → EachFits n ms → EachFits n (m ∷ ms)

-- ---- what is spelled in bytes fits

pub bytes_left : (b c : List ℕ) → Bytes (b ++ c) → Bytes b
bytes_left b c h i =
    ⊎_elim (λ (l : i < length b). let e : get_or (b ++ c) i 0 ≡ get_or b i 0 = get_or-append b c 0 i l in omega (arith, h i)) (λ (l : length b ≤ i). omega (arith, get_or-eq_default b 0 l)) (lt_or_ge i (length b))

pub bytes_right : (b c : List ℕ) → Bytes (b ++ c) → Bytes c
bytes_right b c h i = let e : get_or (b ++ c) (length b + i) 0 ≡ get_or c i 0 = get_or_right b c (length b) i refl in omega (arith, h (length b + i))

big_below : {w : ℕ} {b : List ℕ} {v : ℕ} → BigEndian w b v → Bytes b → v < 256 ^ w
big_below {w} (big_endian_lem {b = b} e) h =
    let q : big_endian b ≡ be_at w b 0 = ap big_endian (sym (take_all w b (omega arith))) ∙ be_is w b 0 (omega arith) in
    rw q (be_small w b 0 h)

words_below : {k : ℕ} {b vs : List ℕ} → Words k b vs → Bytes b → Below (2 ^ 32) vs
words_below no_words h = none
words_below (word {b = b} {r = r} x w) h = below (big_below x (bytes_left b r h)) (words_below w (bytes_right b r h))

mode_below : (m : ℕ) → kept_mode m < 2 ^ 32
mode_below m = omega arith

fields_below : {n : ℕ} {f id : List ℕ} {stat : Stat} → Fields n f stat id → Bytes f → Below (2 ^ 32) (numbers_of stat)
fields_below (fields {b = b} {id = id} {mode = mode} x e) h = go (words_below x (bytes_left b id h))
  where
    go : {c₁ c₂ c₃ c₄ c₅ c₆ c₈ c₉ c₁₀ : ℕ} → Below (2 ^ 32) (c₁ ∷ c₂ ∷ c₃ ∷ c₄ ∷ c₅ ∷ c₆ ∷ mode ∷ c₈ ∷ c₉ ∷ c₁₀ ∷ []) → Below (2 ^ 32) (c₁ ∷ c₂ ∷ c₃ ∷ c₄ ∷ c₅ ∷ c₆ ∷ kept_mode mode ∷ c₈ ∷ c₉ ∷ c₁₀ ∷ [])
    go (below a (below b (below c (below d (below e (below f (below g r))))))) = below a (below b (below c (below d (below e (below f (below (mode_below mode) r))))))

flags_below : {g : List ℕ} {flags field : ℕ} → Flags g flags field → Bytes g → flags < 2 ^ 32
flags_below (plain {bits = bits} x e) h = let a : bits < 65536 = big_below x h in omega arith
flags_below (extended {b = b} {c = c} {bits = bits} {marks = marks} x e y k) h =
    let a : bits < 65536 = big_below x (bytes_left b c h) in
    let d : marks < 32768 = k.not_bit_15 in
    omega arith

pub spelled_fits : {n version : ℕ} {before : Before} {b : List ℕ} {m : Meaning} → Entry n version before b m → Bytes b → FitsRecord n m
spelled_fits (entry {f = f} {g = g} {r = r} x y z) h =
    record { numbers = fields_below x (bytes_left f (g ++ r) h); id = id_length x; flags = flags_below y (bytes_left g r (bytes_right f (g ++ r) h)) }
  where
    id_length : {n : ℕ} {f id : List ℕ} {stat : Stat} → Fields n f stat id → length id ≡ n
    id_length (fields x e) = e

pub spelled_each_fits : {n version : ℕ} {before : Before} {k : ℕ} {b : List ℕ} {ms : List Meaning} → Entries n version before k b ms → Bytes b → EachFits n ms
spelled_each_fits done h = none_left
spelled_each_fits (more {b = b} {c = c} x t) h = each (spelled_fits x (bytes_left b c h)) (spelled_each_fits t (bytes_right b c h))

pub spelled_length : {n version : ℕ} {before : Before} {k : ℕ} {b : List ℕ} {ms : List Meaning} → Entries n version before k b ms → length ms ≡ k
spelled_length done = refl
spelled_length (more x t) = ap suc (spelled_length t)

-- ---- one record

words_at_lem : {vs : List ℕ} → Below (2 ^ 32) vs → (j : ℕ) → j < length vs → (rest : List ℕ) → be_at 4 (word_bytes vs ++ rest) (j * 4) ≡ get_or vs j 0
unfolding word_bytes
words_at_lem none j h rest = absurd (omega arith)
words_at_lem (below {v = v} {vs = vs} l b) zero h rest =
    rw (append_assoc (bytes_of 4 v) (word_bytes vs) rest) (be_left 4 (bytes_of 4 v) (word_bytes vs ++ rest) 0 (omega (arith, length-bytes 4 v)) ∙ be_bytes 4 v l)
words_at_lem (below {v = v} {vs = vs} l b) (suc j) h rest =
    let e : suc j * 4 ≡ 4 + j * 4 = omega arith in
    rw (append_assoc (bytes_of 4 v) (word_bytes vs) rest, e) (be_right 4 (bytes_of 4 v) (word_bytes vs ++ rest) 4 (j * 4) (length-bytes 4 v) ∙ words_at_lem b j (omega arith) rest)

module _ (n : ℕ) (hid : n ≤ 32) (from : ℕ) (m : Meaning) (fit : FitsRecord n m) where
  abbrev row : List ℕ
  row = record_bytes n from m

  abbrev words : List ℕ
  words = word_bytes (numbers_of m.stat)

  abbrev rest : List ℕ
  rest = rest_of n m.flags from (from + length m.path)

  row_length : length row ≡ 96
  row_length = length_record n from m hid fit.id

  front_length : length (words ++ m.id) ≡ 40 + n
  front_length = length-append words m.id ∙ omega (arith, length-words (numbers_of m.stat), fit.id)

  row_number : (j : ℕ) → j < 10 → be_at 4 row (j * 4) ≡ get_or (numbers_of m.stat) j 0
  unfolding record_bytes
  row_number j h = rw (append_assoc words m.id rest) (words_at_lem fit.numbers j h (m.id ++ rest))

  row_id : take n (drop 40 row) ≡ m.id
  unfolding record_bytes
  row_id =
      let l : length words ≡ 40 = length-words (numbers_of m.stat) in
      ap (λ (x : List ℕ). take n (drop 40 x)) (append_assoc words m.id rest) ∙ ap (λ (x : List ℕ). take n x) (drop_at words (m.id ++ rest) 40 l) ∙ take_at m.id rest n fit.id

  row_flags : be_at 4 row 72 ≡ m.flags
  unfolding record_bytes
  row_flags = flags_behind (words ++ m.id) n m.flags from (from + length m.path) hid front_length fit.flags

  row_start : from < 2 ^ 64 → be_at 8 row 76 ≡ from
  unfolding record_bytes
  row_start h = start_behind (words ++ m.id) n m.flags from (from + length m.path) hid front_length h

  row_end : from + length m.path < 2 ^ 64 → be_at 8 row 84 ≡ from + length m.path
  unfolding record_bytes
  row_end h = end_behind (words ++ m.id) n m.flags from (from + length m.path) hid front_length h

-- ---- records among others

pub records_append : (n from : ℕ) (ms os : List Meaning) → records_bytes n from (ms ++ os) ≡ records_bytes n from ms ++ records_bytes n (from + length (paths_bytes ms)) os
unfolding records_bytes paths_bytes
records_append n from [] os = let e : from ≡ from + 0 = omega arith in ap (λ (j : ℕ). records_bytes n j os) e
records_append n from (m ∷ ms) os =
    let e : from + length m.path + length (paths_bytes ms) ≡ from + length (m.path ++ paths_bytes ms) = omega (arith, length-append m.path (paths_bytes ms)) in
    let later : List ℕ = records_bytes n (from + length m.path) ms in
    ap (λ (l : List ℕ). record_bytes n from m ++ l) (records_append n (from + length m.path) ms os ∙ ap (λ (j : ℕ). later ++ records_bytes n j os) e)
    ∙ sym (append_assoc (record_bytes n from m) later (records_bytes n (from + length (m.path ++ paths_bytes ms)) os))

pub paths_append : (ms os : List Meaning) → paths_bytes (ms ++ os) ≡ paths_bytes ms ++ paths_bytes os
unfolding paths_bytes
paths_append [] os = refl
paths_append (m ∷ ms) os = ap (λ (l : List ℕ). m.path ++ l) (paths_append ms os) ∙ sym (append_assoc m.path (paths_bytes ms) (paths_bytes os))

pub length-records : (n from : ℕ) {ms : List Meaning} → n ≤ 32 → EachFits n ms → length (records_bytes n from ms) ≡ length ms * record_size
unfolding records_bytes
length-records n from h none_left = refl
length-records n from h (each {m = m} {ms = ms} f g) =
    length-append (record_bytes n from m) (records_bytes n (from + length m.path) ms) ∙ omega (arith, length_record n from m h f.id, length-records n (from + length m.path) h g)

module _ (n : ℕ) (hid : n ≤ 32) (from i : ℕ) (m : Meaning) (fit : FitsRecord n m) (p q x y : List ℕ) (at_row : length p ≡ i * 96) (at_path : length x ≡ from) (small : from + length m.path < 2 ^ 64) where
  -- a record and its path, behind p and x and before anything
  abbrev rows : List ℕ
  rows = p ++ (record_bytes n from m ++ q)

  abbrev texts : List ℕ
  texts = x ++ (m.path ++ y)

  rows_there : i < length rows / 96
  rows_there = let e : length rows ≡ i * 96 + (96 + length q) = length-append p (record_bytes n from m ++ q) ∙ omega (arith, length-append (record_bytes n from m) q, row_length n hid from m fit) in omega arith

  field_shown : (w k : ℕ) → k + w ≤ 96 → field_at w k rows i ≡ be_at w (record_bytes n from m) k
  field_shown w k h =
      field_is w k rows i rows_there
      ∙ be_right w p (record_bytes n from m ++ q) (i * 96) k at_row
      ∙ be_left w (record_bytes n from m) q k (omega (arith, row_length n hid from m fit))

  number_shown : (j : ℕ) → j < 10 → field_at 4 (j * 4) rows i ≡ get_or (numbers_of m.stat) j 0
  number_shown j h = field_shown 4 (j * 4) (omega arith) ∙ row_number n hid from m fit j h

  id_shown : id_at n rows i ≡ m.id
  id_shown =
      let r : List ℕ = record_bytes n from m in
      let l : length r ≡ 96 = row_length n hid from m fit in
      id_is n rows i rows_there
      ∙ ap (λ (z : List ℕ). take n z) (sym (drop-drop 40 (i * 96) rows) ∙ ap (λ (z : List ℕ). drop 40 z) (drop_at p (r ++ q) (i * 96) at_row) ∙ drop-append-le 40 r q (omega arith))
      ∙ take-append-le n (drop 40 r) q (omega (arith, length-drop 40 r))
      ∙ row_id n hid from m fit

  rendered_here : Shows n rows (lying_in texts) i m
  rendered_here =
      let s : start_at rows i ≡ from = field_shown 8 76 (lit≤ tt) ∙ row_start n hid from m fit (omega arith) in
      let e : end_at rows i ≡ from + length m.path = field_shown 8 84 (lit≤ tt) ∙ row_end n hid from m fit small in
      let f : flags_at rows i ≡ m.flags = field_shown 4 72 (lit≤ tt) ∙ row_flags n hid from m fit in
      let room : from + length m.path ≤ length texts = simp length-append (omega arith) in
      let d : from + length m.path - from ≡ length m.path = omega arith in
      record {
        there = rows_there;
        stat = rw
            (number_shown 0 (lit< tt), number_shown 1 (lit< tt), number_shown 2 (lit< tt), number_shown 3 (lit< tt), number_shown 4 (lit< tt), number_shown 5 (lit< tt), number_shown 7 (lit< tt), number_shown 8 (lit< tt), number_shown 9 (lit< tt));
        mode = number_shown 6 (lit< tt);
        id = id_shown;
        flags = f;
        stage = ap stage_raw f;
        start = from;
        starts = s;
        ends = e;
        inside = sym (inside_is rows texts i rows_there from (from + length m.path) (sym s) (sym e) (omega arith)) ∙ le-leb (from + length m.path) (length texts) room;
        path = sym (path_is rows texts i rows_there from (from + length m.path) (sym s) (sym e) (omega arith) room)
            ∙ ap (λ (j : ℕ). take j (drop from texts)) d ∙ ap (λ (z : List ℕ). take (length m.path) z) (drop_at x (m.path ++ y) from at_path) ∙ take_at m.path y (length m.path) refl;
      }

-- ---- THE THEOREM: each record of a rendering, in front of whatever the stores held

record Among (ms : List Meaning) (i : ℕ) (m : Meaning) : Type 0 where
  before : List Meaning
  behind : List Meaning
  is : ms ≡ before ++ (m ∷ behind)
  place : length before ≡ i

among : (ms : List Meaning) (i : ℕ) (m : Meaning) → get_elem? ms i ≡ some m → Among ms i m
among [] i m e = let z : ◌≡◌ {A = ℕ} 0 1 = cc in absurd (omega arith)
among (o ∷ ms) zero m e = let q : o ≡ m = cc in record { before = []; behind = ms; is = λ k. q k ∷ ms; place = refl }
among (o ∷ ms) (suc i) m e =
    let a = among ms i m e in
    record { before = o ∷ a.before; behind = a.behind; is = λ k. o ∷ a.is k; place = ap suc a.place }

fits_before : {n : ℕ} (ms : List Meaning) {m : Meaning} (os : List Meaning) → EachFits n (ms ++ (m ∷ os)) → EachFits n ms × FitsRecord n m
fits_before [] os (each f g) = (none_left, f)
fits_before (o ∷ ms) os (each f g) = let (x, y) = fits_before ms os g in (each f x, y)

-- the rendering around one of them
rendered_split : (n from : ℕ) (ms : List Meaning) (m : Meaning) (os : List Meaning)
    → records_bytes n from (ms ++ (m ∷ os)) ≡ records_bytes n from ms ++ (record_bytes n (from + length (paths_bytes ms)) m ++ records_bytes n (from + length (paths_bytes ms) + length m.path) os)
unfolding records_bytes
rendered_split n from ms m os = records_append n from ms (m ∷ os)

paths_split : (ms : List Meaning) (m : Meaning) (os : List Meaning) → paths_bytes (ms ++ (m ∷ os)) ≡ paths_bytes ms ++ (m.path ++ paths_bytes os)
unfolding paths_bytes
paths_split ms m os = paths_append ms (m ∷ os)

filled_split : (store x p r q : List ℕ) → x ≡ p ++ (r ++ q) → filled store x ≡ p ++ (r ++ (q ++ drop (length x) store))
filled_split store x p r q e =
    ap (λ (l : List ℕ). l ++ drop (length x) store) e ∙ append_assoc p (r ++ q) (drop (length x) store) ∙ ap (λ (l : List ℕ). p ++ l) (append_assoc r q (drop (length x) store))

module _ (n : ℕ) (hid : n ≤ 32) (rs ps : List ℕ) where
  rendered_among : (ms : List Meaning) (m : Meaning) (os : List Meaning) → EachFits n (ms ++ (m ∷ os)) → length (paths_bytes (ms ++ (m ∷ os))) < 2 ^ 64
      → Shows n (filled rs (records_bytes n 0 (ms ++ (m ∷ os)))) (lying_in (filled ps (paths_bytes (ms ++ (m ∷ os))))) (length ms) m
  rendered_among ms m os fits small =
      let (before, fit) = fits_before ms os fits in
      let all : List Meaning = ms ++ (m ∷ os) in
      let u : ℕ = 0 + length (paths_bytes ms) in
      let q : List ℕ = records_bytes n (u + length m.path) os in
      let a : filled rs (records_bytes n 0 all) ≡ records_bytes n 0 ms ++ (record_bytes n u m ++ (q ++ drop (length (records_bytes n 0 all)) rs)) =
      filled_split rs (records_bytes n 0 all) (records_bytes n 0 ms) (record_bytes n u m) q (rendered_split n 0 ms m os) in
      let b : filled ps (paths_bytes all) ≡ paths_bytes ms ++ (m.path ++ (paths_bytes os ++ drop (length (paths_bytes all)) ps)) =
      filled_split ps (paths_bytes all) (paths_bytes ms) m.path (paths_bytes os) (paths_split ms m os) in
      let l : length (paths_bytes all) ≡ length (paths_bytes ms) + (length m.path + length (paths_bytes os)) =
      ap length (paths_split ms m os) ∙ length-append (paths_bytes ms) (m.path ++ paths_bytes os) ∙ omega (arith, length-append m.path (paths_bytes os)) in
      rw (a, b)
      (rendered_here n hid u (length ms) m fit (records_bytes n 0 ms) (q ++ drop (length (records_bytes n 0 all)) rs) (paths_bytes ms) (paths_bytes os ++ drop (length (paths_bytes all)) ps) (length-records n 0 hid before) (omega arith) (omega arith))

  pub rendered_fields : (ms : List Meaning) → EachFits n ms → length (paths_bytes ms) < 2 ^ 64 → (i : ℕ) (m : Meaning) → get_elem? ms i ≡ some m
      → Shows n (filled rs (records_bytes n 0 ms)) (lying_in (filled ps (paths_bytes ms))) i m
  rendered_fields ms fits small i m e =
      let a = among ms i m e in
      let q = a.is in
      let r = rendered_among a.before m a.behind (subst (EachFits n) q fits) (subst (λ (l : List Meaning). length (paths_bytes l) < 2 ^ 64) q small) in
      subst (λ (j : ℕ). Shows n (filled rs (records_bytes n 0 ms)) (lying_in (filled ps (paths_bytes ms))) j m) a.place
      (subst (λ (l : List Meaning). Shows n (filled rs (records_bytes n 0 l)) (lying_in (filled ps (paths_bytes l))) (length a.before) m) (sym q) r)

-- there is a meaning at each place below the length
pub meaning_at_lem : (ms : List Meaning) (i : ℕ) → i < length ms → (m : Meaning) × (get_elem? ms i ≡ some m)
meaning_at_lem [] i h = absurd (omega arith)
meaning_at_lem (m ∷ ms) zero h = (m, refl)
meaning_at_lem (m ∷ ms) (suc i) h = meaning_at_lem ms i (omega arith)

-- ---- a record shows one meaning only, so that a rendering loses nothing

stat_shown_once : (t u : Stat) → stat_shown t ≡ stat_shown u → t.mode ≡ u.mode → t ≡ u
stat_shown_once t u e m =
    λ j. record {
      ctime = (e j).ctime.secs;
      ctime_nanos = (e j).ctime.nsecs;
      mtime = (e j).mtime.secs;
      mtime_nanos = (e j).mtime.nsecs;
      dev = (e j).dev;
      ino = (e j).ino;
      mode = m j;
      uid = (e j).uid;
      gid = (e j).gid;
      size = (e j).size;
    }

pub shown_once : {n : ℕ} {rs : List ℕ} {ps : Paths} {i : ℕ} {m o : Meaning} → Shows n rs ps i m → Shows n rs ps i o → m ≡ o
shown_once {m = m} {o = o} a b =
    let s : m.stat ≡ o.stat = stat_shown_once m.stat o.stat (sym a.stat ∙ b.stat) (sym a.mode ∙ b.mode) in
    λ j. meaning (s j) ((sym a.id ∙ b.id) j) ((sym a.flags ∙ b.flags) j) ((sym a.path ∙ b.path) j)
