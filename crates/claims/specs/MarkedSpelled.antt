-- THE MARKED PAGES of 01 AGAINST THE GRAMMAR: the list of `Marked`, what is asked and what 01 says, page by page, and the grammar's relations must say the
-- same; no reader is named. The pages on how many entries a file of some size can have are left out: that bound refuses nothing, and the grammar has no word
-- for it. Assumes nothing.
use Rattle.std.specs.Prelude.{ℕ, zero, suc, ◌+◌, ◌≤◌, ◌≡◌, refl, Bool, true, false, List, [], ◌∷◌, length, take, drop, replicate, Err, Ok}
use Rattle.std.proofs.Common.{sym, ap, ◌∙◌, append-nil, arith, lit≤, take-append-drop, length-take-le}
use Rattle.std.proofs.Math.Seq.{take-length}
use Rattle.laws.specs.Pick.{pick}
use Rattle.laws.specs.Read.{Got, got, none as nothing, Begins, refuses as never-begins}
use Rattle.format.specs.Format.{id_size}
use Rattle.entry.specs.Paths.{Paths}
use Rattle.access.specs.Sorted.{StrictlySorted}
use Rattle.access.specs.Marked.{page_sorted}
use Rattle.grammar.specs.Number.{VariableWidth}
use Rattle.grammar.specs.Entry.{Meaning, meaning, kept_mode, Before, start, path as behind, Entry}
use Rattle.grammar.specs.File.{Index, header_length, File}
use Rattle.grammar.proofs.Space.{spelled_has_good_header}
use Rattle.grammar.specs.DecideNumber.{decided, read_bytes, read_big, read_groups, read_variable, read_until, variable_reads}
use Rattle.grammar.proofs.DecideEntry.{read_words, read_fields, read_flags, read_counted, read_to_nul, read_compressed, read_name, read_entry, entry_reads}
use Rattle.grammar.proofs.Unique.{number_unique, entry_unique, one_meaning}
use Rattle.grammar.proofs.Examples as example
use Rattle.claims.specs.Marked.{Asked, file, plain, wider, groups, after, bits, file_size, order, Said, reads, entry, number, path, passes, checked, refuses, fixed, plain_bytes, wider_bytes, stripped_bytes, bits_bytes, untouched, Page, page, pair, pear, ear, pages}
use Rattle.file.specs.Read.{Outcome}
use Rattle.claims_entries.specs.Rendering.{paths_bytes}
use Rattle.claims.specs.Claims.{answer_of}
use Rattle.file.specs.Made.{read_with_all}
use Rattle.file.specs.declared.Error.TheVariants.{ShortFile}

-- ---- what the grammar says of bytes

-- they begin with an entry of so many bytes that means m, and with no other
pub record BeginsWith (version : ℕ) (before : Before) (bytes : List ℕ) (size : ℕ) (m : Meaning) : Type 0 where
  pub long : size ≤ length bytes
  pub spelled : Entry id_size version before (take size bytes) m
  pub only : (k : ℕ) (o : Meaning) → k ≤ length bytes → Entry id_size version before (take k bytes) o → (k ≡ size) × (o ≡ m)

-- they begin with no entry
abbrev pub BeginsWithNone : ℕ → Before → List ℕ → Type 0
BeginsWithNone version before bytes = (k : ℕ) (m : Meaning) → ¬ Entry id_size version before (take k bytes) m

-- ---- what is said on a page, of what is asked: one rule for each kind of page

pub data Spells : Asked → Said → Type 0 where
  -- the file is read: one index is spelled, whose rendering is the answer
  one_index : {s : List ℕ} {o : Outcome} (m : Index) → File id_size s m → ((n : Index) → File id_size s n → n ≡ m) → o.answer ≡ answer_of m
      → Spells (file s) (reads zero o)
  -- it is refused, here as too short: none is
  no_index : {s : List ℕ} {k : ℕ} {o : Outcome} → ((m : Index) → ¬ File id_size s m) → Spells (file s) (reads (suc k) o)
  -- the entry is the fixed part, the path and the padding; with EXTENDED two bytes more
  plain_entry : {n field size padding : ℕ} (m : Meaning) → BeginsWith 3 start (plain_bytes n field) size m → m.path ≡ replicate n 97
      → size ≡ length (fixed field) + n + padding → Spells (plain n field) (entry size padding)
  wider_entry : {n field size padding : ℕ} (m : Meaning) → BeginsWith 3 start (wider_bytes n field) size m → m.path ≡ replicate n 97
      → size ≡ length (fixed field) + 2 + n + padding → Spells (wider n field) (entry size padding)
  -- all bytes are one number, and no other
  one_number : {s : List ℕ} {v : ℕ} → VariableWidth s v → ((w : ℕ) → VariableWidth s w → w ≡ v) → Spells (groups s) (number v)
  -- strip and suffix stand for that path, or for none
  one_path : {p q suffix : List ℕ} {strip : ℕ} (m : Meaning) → BeginsWith 4 (behind p) (stripped_bytes strip suffix) (length (stripped_bytes strip suffix)) m
      → m.path ≡ q → Spells (after p strip suffix) (path q)
  no_path : {p suffix : List ℕ} {strip : ℕ} → BeginsWithNone 4 (behind p) (stripped_bytes strip suffix) → Spells (after p strip suffix) refuses
  -- the bits are kept as these flags, or the entry is none
  kept_bits_lem : {more flags : ℕ} (size : ℕ) (m : Meaning) → BeginsWith 3 start (bits_bytes more) size m → m.flags ≡ flags → Spells (bits more) (passes flags)
  no_bits : {more : ℕ} → BeginsWithNone 3 start (bits_bytes more) → Spells (bits more) refuses
  -- the order is over the accessors, since the grammar asks for none
  in_order : {rs : List ℕ} {ps : Paths} → StrictlySorted rs ps → Spells (order rs ps) (checked (Ok tt))

-- ---- the pages of which the grammar speaks

abbrev pub speaks_of : Asked → Bool
speaks_of (file s) = true
speaks_of (plain n field) = true
speaks_of (wider n field) = true
speaks_of (groups s) = true
speaks_of (after p strip suffix) = true
speaks_of (bits more) = true
speaks_of (file_size n) = false
speaks_of (order rs ps) = true

abbrev pub spoken : List Page → List Page
spoken [] = []
spoken (p ∷ ps) = pick (speaks_of p.asked) (p ∷ spoken ps) (spoken ps)

-- each of them is spelled
infixr 4 ◌and◌
pub data EachSpelled : List Page → Type 0 where
  no_more : EachSpelled []
  ◌and◌ : {p : Page} {ps : List Page} → Spells p.asked p.said → EachSpelled ps → EachSpelled (p ∷ ps)

-- ---- by what decides

module _ (version : ℕ) (before : Before) (bytes : List ℕ) where
  abbrev cut_off : (k : ℕ) {m : Meaning} → Entry id_size version before (take k bytes) m → Begins (Entry id_size version before) bytes m (drop k bytes)
  cut_off k x = (take k bytes, sym (take-append-drop k bytes), x)

  begins_with : (size : ℕ) (m : Meaning) → size ≤ length bytes → read_entry id_size version before (take size bytes) ≡ got m []
      → BeginsWith version before bytes size m
  begins_with size m long e =
      let x : Entry id_size version before (take size bytes) m = decided (entry_reads id_size version before) (take size bytes) m e in
      record {
        long = long;
        spelled = x;
        only = λ k o h y.
            let (p, q, r) = entry_unique id_size version before bytes o m (drop k bytes) (drop size bytes) (cut_off k y) (cut_off size x) in
            (omega (arith, ap length r, length-take-le k bytes h, length-take-le size bytes long), p);
      }

  begins_with_none : read_entry id_size version before bytes ≡ nothing → BeginsWithNone version before bytes
  begins_with_none e k m x = (never-begins (entry_reads id_size version before) bytes).0 e m (drop k bytes) (cut_off k x)

is_number : (s : List ℕ) (v : ℕ) → read_variable s ≡ got v [] → Spells (groups s) (number v)
is_number s v e =
    let x : VariableWidth s v = decided variable_reads s v e in
    one_number x (λ w y. (number_unique s w v [] [] (s, sym (append-nil s), y) (s, sym (append-nil s), x)).0)

-- all that decides an entry, open
unfoldable entry_decided : ℕ → Before → List ℕ → Got Meaning
unfolding read_bytes read_big read_groups read_variable read_until read_words read_fields read_flags read_counted read_to_nul read_compressed read_name read_entry
entry_decided = read_entry id_size

-- the meaning of the pages' entries: every byte of the numbers and the id is 1
abbrev ones : ℕ
ones = 0x01010101

abbrev means : ℕ → List ℕ → Meaning
means flags p =
    meaning (record { ctime = ones; ctime_nanos = ones; mtime = ones; mtime_nanos = ones; dev = ones; ino = ones; mode = kept_mode ones; uid = ones; gid = ones; size = ones })
    (replicate id_size 1) flags p

plain_page : (n field size padding : ℕ) → size ≤ length (plain_bytes n field)
    → read_entry id_size 3 start (take size (plain_bytes n field)) ≡ got (means 0 (replicate n 97)) []
    → size ≡ length (fixed field) + n + padding → Spells (plain n field) (entry size padding)
plain_page n field size padding h e k = plain_entry (means 0 (replicate n 97)) (begins_with 3 start (plain_bytes n field) size (means 0 (replicate n 97)) h e) refl k

wider_page : (n field size padding : ℕ) → size ≤ length (wider_bytes n field)
    → read_entry id_size 3 start (take size (wider_bytes n field)) ≡ got (means 16384 (replicate n 97)) []
    → size ≡ length (fixed field) + 2 + n + padding → Spells (wider n field) (entry size padding)
wider_page n field size padding h e k = wider_entry (means 16384 (replicate n 97)) (begins_with 3 start (wider_bytes n field) size (means 16384 (replicate n 97)) h e) refl k

after_page : (p q : List ℕ) (strip : ℕ) (suffix : List ℕ) → read_entry id_size 4 (behind p) (stripped_bytes strip suffix) ≡ got (means 0 q) []
    → Spells (after p strip suffix) (path q)
after_page p q strip suffix e =
    let bytes : List ℕ = stripped_bytes strip suffix in
    one_path (means 0 q) (begins_with 4 (behind p) bytes (length bytes) (means 0 q) (omega arith) (ap (read_entry id_size 4 (behind p)) (take-length bytes) ∙ e)) refl

-- ---- THE THEOREM

pub marked_pages_are_spelled : EachSpelled (spoken pages)
unfolding pages page pair pear ear entry_decided paths_bytes
marked_pages_are_spelled =
    no_index {s = replicate 31 0} {o = untouched (Err ShortFile)} (λ m x. let h : header_length + id_size ≤ 31 = (spelled_has_good_header x).long in omega arith)
    and one_index {o = untouched (Ok (read_with_all 2 false false 0 0 0))} _ example.least_file (λ n x. one_meaning id_size _ n _ x example.least_file) refl
    and plain_page 1 1 64 1 (lit≤ tt) refl refl
    and plain_page 2 2 72 8 (lit≤ tt) refl refl
    and plain_page 9 9 72 1 (lit≤ tt) refl refl
    and plain_page 10 10 80 8 (lit≤ tt) refl refl
    and wider_page 7 7 72 1 (lit≤ tt) refl refl
    and wider_page 8 8 80 8 (lit≤ tt) refl refl
    and plain_page 4094 4094 4160 4 (lit≤ tt) refl refl
    and plain_page 4095 4095 4160 3 (lit≤ tt) refl refl
    and is_number (0x7f ∷ []) 127 refl
    and is_number (0x80 ∷ 0x00 ∷ []) 128 refl
    and is_number (0xff ∷ 0x7f ∷ []) 16511 refl
    and after_page pair pear 3 ear refl
    and after_page pair ear 12 ear refl
    and no_path {suffix = ear} {strip = 13} (begins_with_none 4 (behind pair) (stripped_bytes 13 ear) refl)
    and kept_bits_lem {more = 0x6000} 72 (means 0x6000_4000 (97 ∷ [])) (begins_with 3 start (bits_bytes 0x6000) 72 (means 0x6000_4000 (97 ∷ [])) (lit≤ tt) refl) refl
    and no_bits {more = 0x8000} (begins_with_none 3 start (bits_bytes 0x8000) refl)
    and no_bits {more = 0x0001} (begins_with_none 3 start (bits_bytes 0x0001) refl)
    and in_order page_sorted
    and no_more
