-- What decides the relations of Entry on lists. It reads no file and is no reader of the project: it only settles, for given bytes, whether a relation holds, and so that it
-- holds of one meaning at most. Assumes nothing.
use Rattle.std.specs.Prelude.{ℕ, zero, suc, ◌+◌, ◌-◌, ◌*◌, ◌/◌, ◌%◌, ◌≤◌, ◌<◌, ◌≡◌, refl, Bool, List, [], ◌∷◌, ◌++◌, leb, ltb, eqb, length, take, get_or}
use Rattle.std.proofs.Common.{sym, ap, ◌∙◌, subst, append_assoc, arith, length-append, le-leb, lt-ltb, le-ltb, eq-eqb, ne_eqb}
use Rattle.laws.specs.Pick.{pick}
use Rattle.laws.specs.Tests.{Less, less, not_less, less?, Same, same, differs, same?}
use Rattle.laws.specs.Read.{Got, got, none, Says, spelled, refused, Reads, next, says_next, says_if_at_most, says_if_less}
use Rattle.laws.specs.Times.{read_times, times_reads, as_got}
use Rattle.grammar.specs.Number.{VariableWidth}
use Rattle.grammar.specs.Entry.{Stat, Meaning, meaning, Words, no_words, word, kept_mode, Fields, fields, extended_bit, length_field, kept_bits, Flags, plain, extended, Padding, NoNul, Before, start, path, full_field, Name, counted, ended, first, later, Entry, entry, behind, Entries}
use Rattle.grammar.specs.Entry.NoNul.{empty, byte}
use Rattle.grammar.specs.DecideNumber.{Bytes, bytes, read_bytes, bytes_reads, read_big, big_reads, read_variable, variable_reads, Without, Until, until, read_until, until_here, until_reads}
use Rattle.grammar.specs.DecideNumber.Without.{empty as empty₁, byte as byte₁}

pub says_if_same : {B : Type 0} {T : List ℕ → B → Type 0} {xs : List ℕ} {g h : Got B} (m n : ℕ) → (m ≡ n → Says T xs g) → ((m ≡ n → ⊥) → Says T xs h) → Says T xs (pick (eqb m n) g h)
says_if_same {T = T} {xs} {g} {h} m n f k = go (same? m n)
  where
    go : {t : Bool} → Same m n t → Says T xs (pick t g h)
    go (same e) = f e
    go (differs d) = k d

says_which : {B : Type 0} {T : List ℕ → B → Type 0} {xs : List ℕ} {g h : Got B} (m n : ℕ) → (m < n → Says T xs g) → (n ≤ m → Says T xs h) → Says T xs (pick (ltb m n) g h)
says_which {T = T} {xs} {g} {h} m n f k = go (less? m n)
  where
    go : {t : Bool} → Less m n t → Says T xs (pick t g h)
    go (less e) = f e
    go (not_less d) = k d

-- ---- the fields

unfoldable pub read_words : ℕ → List ℕ → Got (List ℕ)
read_words zero xs = got [] xs
read_words (suc k) xs = next (read_big 4 xs) (λ v r. next (read_words k r) (λ vs q. got (v ∷ vs) q))

words_says : (k : ℕ) (xs : List ℕ) → Says (Words k) xs (read_words k xs)
unfolding read_words
words_says zero xs = spelled [] refl no_words
words_says (suc k) xs =
    says_next ((big_reads 4).says xs) (λ b v r i x. says_next (words_says k r) (λ c vs q j y. spelled (b ++ c) (rw (append_assoc, ← j) i) (word x y)))

words_complete : {k : ℕ} {b vs : List ℕ} → Words k b vs → (rest : List ℕ) → read_words k (b ++ rest) ≡ got vs rest
unfolding read_words
words_complete no_words rest = refl
words_complete (word {b = b} {r = r} x w) rest = rw (append_assoc b r rest, (big_reads 4).complete x (r ++ rest), words_complete w rest)

abbrev pub stat_of : List ℕ → Stat
stat_of vs =
    record {
      ctime = get_or vs 0 0;
      ctime_nanos = get_or vs 1 0;
      mtime = get_or vs 2 0;
      mtime_nanos = get_or vs 3 0;
      dev = get_or vs 4 0;
      ino = get_or vs 5 0;
      mode = kept_mode (get_or vs 6 0);
      uid = get_or vs 7 0;
      gid = get_or vs 8 0;
      size = get_or vs 9 0;
    }

data FieldsOf (n : ℕ) : List ℕ → Stat × List ℕ → Type 0 where
  fields_of : {b id : List ℕ} {stat : Stat} → Fields n b stat id → FieldsOf n b (stat, id)

the_fields : {n : ℕ} {b : List ℕ} {v : Stat × List ℕ} → FieldsOf n b v → Fields n b v.0 v.1
the_fields (fields_of x) = x

ten : {n : ℕ} {b vs id : List ℕ} → Words 10 b vs → length id ≡ n → Fields n (b ++ id) (stat_of vs) id
ten (word a (word b (word c (word d (word e (word f (word g (word h (word i (word j no_words)))))))))) l =
    fields (word a (word b (word c (word d (word e (word f (word g (word h (word i (word j no_words)))))))))) l

unfoldable pub read_fields : ℕ → List ℕ → Got (Stat × List ℕ)
read_fields n xs = next (read_words 10 xs) (λ vs r. next (read_bytes n r) (λ id q. got (stat_of vs, id) q))

fields_reads : (n : ℕ) → Reads (FieldsOf n) (read_fields n)
unfolding read_fields
fields_reads n = record { says = says; complete = complete }
  where
    of : {b c vs id : List ℕ} → Words 10 b vs → Bytes n c id → FieldsOf n (b ++ c) (stat_of vs, id)
    of x (bytes h) = fields_of (ten x h)

    says : (xs : List ℕ) → Says (FieldsOf n) xs (read_fields n xs)
    says xs = says_next (words_says 10 xs) (λ b vs r i x. says_next ((bytes_reads n).says r) (λ c id q j y. spelled (b ++ c) (rw (append_assoc, ← j) i) (of x y)))

    complete : {b : List ℕ} {v : Stat × List ℕ} → FieldsOf n b v → (rest : List ℕ) → read_fields n (b ++ rest) ≡ got v rest
    complete (fields_of (fields {b = b} {id = id} x h)) rest = rw (append_assoc b id rest, words_complete x (id ++ rest), (bytes_reads n).complete (bytes {b = id} h) rest)

-- ---- the flags

data FlagsOf : List ℕ → ℕ × ℕ → Type 0 where
  flags_of : {b : List ℕ} {flags field : ℕ} → Flags b flags field → FlagsOf b (flags, field)

the_flags : {b : List ℕ} {v : ℕ × ℕ} → FlagsOf b v → Flags b v.0 v.1
the_flags (flags_of x) = x

unfoldable pub read_flags : List ℕ → Got (ℕ × ℕ)
read_flags xs =
    next (read_big 2 xs) (λ bits r.
    pick (eqb (extended_bit bits) 0) (got (kept_bits bits, length_field bits) r)
    (next (read_big 2 r) (λ marks q. pick (ltb marks 32768) (pick (eqb (marks % 8192) 0) (got (kept_bits bits + marks * 65536, length_field bits) q) none) none)))

odd : (x : ℕ) → (x % 2 ≡ 0 → ⊥) → x % 2 ≡ 1
odd x h = omega arith

flags_reads : Reads FlagsOf read_flags
unfolding read_flags
flags_reads = record { says = says; complete = complete }
  where
    says : (xs : List ℕ) → Says FlagsOf xs (read_flags xs)
    says xs =
        says_next ((big_reads 2).says xs) (λ b bits r i x.
        says_if_same (extended_bit bits) 0 (λ e. spelled b i (flags_of (plain x e))) (λ d.
        says_next ((big_reads 2).says r) (λ c marks q j y.
        says_if_less marks 32768 (λ h. says_if_same (marks % 8192) 0
        (λ e. spelled (b ++ c) (rw (append_assoc, ← j) i) (flags_of (extended x (odd (bits / 16384) d) y (record { not_bit_15 = omega arith; not_below_13 = e })))) (λ z. refused)))))

    complete : {b : List ℕ} {v : ℕ × ℕ} → FlagsOf b v → (rest : List ℕ) → read_flags (b ++ rest) ≡ got v rest
    complete (flags_of (plain {bits = bits} x e)) rest = rw ((big_reads 2).complete x rest, eq-eqb (extended_bit bits) 0 e)
    complete (flags_of (extended {b = b} {c = c} {bits = bits} {marks = marks} x e y z)) rest =
        rw (append_assoc b c rest, (big_reads 2).complete x (c ++ rest), ne_eqb (extended_bit bits) 0 (λ q. omega arith), (big_reads 2).complete y rest, lt-ltb marks 32768 z.not_bit_15, eq-eqb (marks % 8192) 0 z.not_below_13)

-- ---- the path

no_nul : {s : List ℕ} → Without 0 s → NoNul s
no_nul empty₁ = empty
no_nul (byte₁ {c = c} d w) = let h : 0 < c = omega arith in byte h (no_nul w)

without_nul : {s : List ℕ} → NoNul s → Without 0 s
without_nul empty = empty₁
without_nul (byte {c = c} h w) = byte₁ (λ (q : c ≡ 0). omega arith) (without_nul w)

pub data Text : List ℕ → List ℕ → Type 0 where
  text : {s : List ℕ} → NoNul s → Text (s ++ (0 ∷ [])) s

pub text_reads : Reads Text (read_until 0)
text_reads = record { says = λ xs. says_next₁ ((until_reads 0).says xs); complete = complete }
  where
    says_next₁ : {xs : List ℕ} {g : Got (List ℕ)} → Says (Until 0) xs g → Says Text xs g
    says_next₁ refused = refused
    says_next₁ (spelled b i (until {s = s} w)) = spelled (s ++ (0 ∷ [])) i (text (no_nul w))

    complete : {b v : List ℕ} → Text b v → (rest : List ℕ) → read_until 0 (b ++ rest) ≡ got v rest
    complete (text {s = s} w) rest = (until_reads 0).complete (until (without_nul w)) rest

-- how many bytes pad k bytes
abbrev pub padding : ℕ → ℕ
padding k = 8 - k % 8

padding_is : {k : ℕ} {p : List ℕ} → Padding k p → length p ≡ padding k
padding_is {k} {p} x = let a : 1 ≤ length p = x.least in let b : length p ≤ 8 = x.most in let c : (k + length p) % 8 ≡ 0 = x.eights in omega arith

padding_of : (k : ℕ) (p : List ℕ) → length p ≡ padding k → Padding k p
padding_of k p e = record { least = omega arith; most = omega arith; eights = omega arith }

unfoldable pub read_counted : ℕ → ℕ → List ℕ → Got (List ℕ)
read_counted k field xs = next (read_bytes field xs) (λ s r. next (read_bytes (padding (k + field)) r) (λ p q. got s q))

unfoldable pub read_to_nul : ℕ → List ℕ → Got (List ℕ)
read_to_nul k xs = next (read_until 0 xs) (λ s r. next (read_bytes (padding (k + length s) - 1) r) (λ p q. got s q))

unfoldable pub read_compressed : Before → List ℕ → Got (List ℕ)
read_compressed start xs = next (read_variable xs) (λ strip r. next (read_until 0 r) (λ s q. got s q))
read_compressed (path p) xs = next (read_variable xs) (λ strip r. next (read_until 0 r) (λ s q. pick (leb strip (length p)) (got (take (length p - strip) p ++ s) q) none))

unfoldable pub read_name : ℕ → ℕ → ℕ → Before → List ℕ → Got (List ℕ)
read_name version k field before xs =
    pick (eqb version 4) (read_compressed before xs)
    (pick (ltb field full_field) (read_counted k field xs)
    (pick (eqb field full_field) (read_to_nul k xs)
    none))

counted_says : {version : ℕ} (k field : ℕ) (before : Before) → (version ≡ 4 → ⊥) → field < full_field → (xs : List ℕ) → Says (Name version k field before) xs (read_counted k field xs)
unfolding read_counted
counted_says {version} k field before v h xs =
    says_next ((bytes_reads field).says xs) (λ b s r i x. says_next ((bytes_reads (padding (k + field))).says r) (λ c p q j y. spelled (b ++ c) (rw (append_assoc, ← j) i) (of x y)))
  where
    of : {b c s p : List ℕ} → Bytes field b s → Bytes (padding (k + field)) c p → Name version k field before (b ++ c) s
    of (bytes {b = s} e) (bytes {b = p} f) = counted v h e (padding_of (k + length s) p (f ∙ ap (λ (j : ℕ). padding (k + j)) (sym e)))

to_nul_says : {version : ℕ} (k field : ℕ) (before : Before) → (version ≡ 4 → ⊥) → field ≡ full_field → (xs : List ℕ) → Says (Name version k field before) xs (read_to_nul k xs)
unfolding read_to_nul
to_nul_says {version} k field before v h xs =
    says_next (text_reads.says xs) (λ b s r i x. says_next ((bytes_reads (padding (k + length s) - 1)).says r) (λ c p q j y. of q (rw (append_assoc, ← j) i) x y))
  where
    of : {b c s p : List ℕ} (q : List ℕ) → xs ≡ (b ++ c) ++ q → Text b s → Bytes (padding (k + length s) - 1) c p → Says (Name version k field before) xs (got s q)
    of q i (text {s = s} w) (bytes {b = p} f) =
        spelled (s ++ (0 ∷ p)) (i ∙ ap (λ (l : List ℕ). l ++ q) (append_assoc s (0 ∷ []) p)) (ended v h w (padding_of (k + length s) (0 ∷ p) (omega arith)))

compressed_says : {version : ℕ} (k field : ℕ) (before : Before) → version ≡ 4 → (xs : List ℕ) → Says (Name version k field before) xs (read_compressed before xs)
unfolding read_compressed
compressed_says {version} k field start v xs = says_next (variable_reads.says xs) (λ b strip r i x. says_next (text_reads.says r) (λ c s q j y. of q (rw (append_assoc, ← j) i) x y))
  where
    of : {b c s : List ℕ} {strip : ℕ} (q : List ℕ) → xs ≡ (b ++ c) ++ q → VariableWidth b strip → Text c s → Says (Name version k field start) xs (got s q)
    of {b} q i x (text {s = s} w) = spelled (b ++ (s ++ (0 ∷ []))) i (first v x w)
compressed_says {version} k field (path p) v xs =
    says_next (variable_reads.says xs) (λ b strip r i x. says_next (text_reads.says r) (λ c s q j y. says_if_at_most strip (length p) (λ h. of q (rw (append_assoc, ← j) i) x y h)))
  where
    of : {b c s : List ℕ} {strip : ℕ} (q : List ℕ) → xs ≡ (b ++ c) ++ q → VariableWidth b strip → Text c s → strip ≤ length p
        → Says (Name version k field (path p)) xs (got (take (length p - strip) p ++ s) q)
    of {b} q i x (text {s = s} w) h = spelled (b ++ (s ++ (0 ∷ []))) i (later v x w h)

name_complete : {version k field : ℕ} {before : Before} {b s : List ℕ} → Name version k field before b s → (rest : List ℕ) → read_name version k field before (b ++ rest) ≡ got s rest
unfolding read_name read_counted read_to_nul read_compressed
name_complete {version} {k} {field} (counted {s = s} {p = p} v h e x) rest =
    let f : length p ≡ padding (k + field) = padding_is x ∙ ap (λ (j : ℕ). padding (k + j)) e in
    rw (append_assoc s p rest, ne_eqb version 4 v, lt-ltb field full_field h, (bytes_reads field).complete (bytes {b = s} e) (p ++ rest), (bytes_reads (padding (k + field))).complete (bytes {b = p} f) rest)
name_complete {version} {k} {field} (ended {s = s} {p = p} v h w x) rest =
    let f : length p ≡ padding (k + length s) - 1 = omega (arith, padding_is x) in
    rw (append_assoc s (0 ∷ p) rest, ne_eqb version 4 v, le-ltb field full_field (omega arith), eq-eqb field full_field h, until_here (without_nul w) (p ++ rest), (bytes_reads (padding (k + length s) - 1)).complete (bytes {b = p} f) rest)
name_complete {version} (first {b = b} {s = s} v x w) rest =
    rw (append_assoc b (s ++ (0 ∷ [])) rest, eq-eqb version 4 v, variable_reads.complete x ((s ++ (0 ∷ [])) ++ rest), text_reads.complete (text w) rest)
name_complete {version} (later {b = b} {s = s} {p = p} {strip = strip} v x w h) rest =
    rw (append_assoc b (s ++ (0 ∷ [])) rest, eq-eqb version 4 v, variable_reads.complete x ((s ++ (0 ∷ [])) ++ rest), text_reads.complete (text w) rest, le-leb strip (length p) h)

pub name_reads : (version k field : ℕ) (before : Before) → Reads (Name version k field before) (read_name version k field before)
unfolding read_name
name_reads version k field before = record { says = says; complete = name_complete }
  where
    says : (xs : List ℕ) → Says (Name version k field before) xs (read_name version k field before xs)
    says xs =
        says_if_same version 4 (λ v. compressed_says k field before v xs) (λ v.
        says_which field full_field (λ h. counted_says k field before v h xs) (λ z.
        says_if_same field full_field (λ h. to_nul_says k field before v h xs) (λ d. refused)))

-- ---- the entry, and so many of them

unfoldable pub read_entry : ℕ → ℕ → Before → List ℕ → Got Meaning
read_entry n version before xs =
    next (read_fields n xs) (λ f r. next (read_flags r) (λ g q. next (read_name version (length xs - length q) g.1 before q) (λ s t. got (meaning f.0 f.1 g.0 s) t)))

pub entry_reads : (n version : ℕ) (before : Before) → Reads (Entry n version before) (read_entry n version before)
unfolding read_entry
entry_reads n version before = record { says = says; complete = complete }
  where
    size : (xs f r g q : List ℕ) → xs ≡ f ++ r → r ≡ g ++ q → length xs - length q ≡ length f + length g
    size xs f r g q i j = omega (arith, simp length-append at (ap length i), simp length-append at (ap length j))

    says : (xs : List ℕ) → Says (Entry n version before) xs (read_entry n version before xs)
    says xs =
        says_next ((fields_reads n).says xs) (λ f v r i x. says_next (flags_reads.says r) (λ g w q j y.
        says_next ((name_reads version (length xs - length q) w.1 before).says q) (λ b s t k z.
        spelled (f ++ (g ++ b)) (rw (append_assoc, append_assoc, ← k, ← j) i)
        (entry (the_fields x) (the_flags y) (subst (λ (m : ℕ). Name version m w.1 before b s) (size xs f r g q i j) z)))))

    complete : {b : List ℕ} {v : Meaning} → Entry n version before b v → (rest : List ℕ) → read_entry n version before (b ++ rest) ≡ got v rest
    complete (entry {f = f} {g = g} {r = r} x y z) rest =
        let e : length (f ++ (g ++ (r ++ rest))) - length (r ++ rest) ≡ length f + length g = size (f ++ (g ++ (r ++ rest))) f (g ++ (r ++ rest)) g (r ++ rest) refl refl in
        rw (append_assoc f (g ++ r) rest, append_assoc g r rest, (fields_reads n).complete (fields_of x) (g ++ (r ++ rest)), flags_reads.complete (flags_of y) (r ++ rest), e, name_complete z rest)

unfoldable pub read_entries : ℕ → ℕ → Before → ℕ → List ℕ → Got (List Meaning)
read_entries n version before count xs = as_got (read_times (read_entry n version) behind before count xs)

pub entries_reads : (n version : ℕ) (before : Before) (count : ℕ) → Reads (Entries n version before count) (read_entries n version before count)
unfolding read_entries
entries_reads n version before count = times_reads behind (entry_reads n version) before count
