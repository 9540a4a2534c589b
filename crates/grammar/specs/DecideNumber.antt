-- What decides the relations of Number on lists, and bytes up to a mark. It reads no file and is no reader of the project: it only settles, for given bytes, whether a
-- relation holds, and so that it holds of one meaning at most. Assumes nothing.
use Rattle.std.specs.Prelude.{ℕ, ◌+◌, ◌-◌, ◌*◌, ◌%◌, ◌^◌, ◌≤◌, ◌<◌, ◌≡◌, refl, Bool, true, false, List, [], ◌∷◌, ◌++◌, leb, ltb, eqb, length, take, drop}
use Rattle.std.proofs.Common.{sym, ap, ◌∙◌, subst, append_assoc, append-nil, arith, length-append, take-append-drop, length-take-le, take_at, drop_at, le-leb, lt-ltb, le-ltb, eq-eqb, ne_eqb}
use Rattle.std.proofs.Math.Option.{Option, some, none as nothing}
use Rattle.laws.specs.Pick.{pick}
use Rattle.laws.specs.Tests.{Less, less, not_less, less?, AtMost, at_most, above, at_most?, Same, same, differs, same?}
use Rattle.laws.specs.Read.{Got, got, none, Says, spelled, refused, Reads, sound, next, says_next, says_if_at_most, says_if_less}
use Rattle.grammar.specs.Number.{followed_by, big_endian, BigEndian, big_endian_lem, Groups, VariableWidth, Digit, Digits, last_digit, digit, Unsigned, Count, covers, invalid, Signed, plain, plus, minus_zero_lem, minus}
use Rattle.grammar.specs.Number.Groups.{last, next as group}

-- what is read whole is spelled
pub decided : {A : Type 0} {R : List ℕ → A → Type 0} {read : List ℕ → Got A} → Reads R read → (b : List ℕ) (v : A) → read b ≡ got v [] → R b v
decided {R = R} p b v e = let (c, i, x) = sound p b v [] e in subst (λ (l : List ℕ). R l v) (sym (i ∙ append-nil c)) x

-- ---- so many bytes, any values

pub data Bytes (n : ℕ) : List ℕ → List ℕ → Type 0 where
  bytes : {b : List ℕ} → length b ≡ n → Bytes n b b

unfoldable pub read_bytes : ℕ → List ℕ → Got (List ℕ)
read_bytes n xs = pick (leb n (length xs)) (got (take n xs) (drop n xs)) none

pub bytes_reads : (n : ℕ) → Reads (Bytes n) (read_bytes n)
unfolding read_bytes
bytes_reads n = record { says = says; complete = complete }
  where
    says : (xs : List ℕ) → Says (Bytes n) xs (read_bytes n xs)
    says xs = says_if_at_most n (length xs) (λ h. spelled (take n xs) (sym (take-append-drop n xs)) (bytes (length-take-le n xs h)))

    complete : {b v : List ℕ} → Bytes n b v → (rest : List ℕ) → read_bytes n (b ++ rest) ≡ got v rest
    complete (bytes {b = b} h) rest = rw (le-leb n (length (b ++ rest)) (omega (arith, length-append b rest)), take_at b rest n h, drop_at b rest n h)

-- ---- big_endian_lem numbers

unfoldable pub read_big : ℕ → List ℕ → Got ℕ
read_big w xs = next (read_bytes w xs) (λ b r. got (big_endian b) r)

pub big_reads : (w : ℕ) → Reads (BigEndian w) (read_big w)
unfolding read_big
big_reads w = record { says = λ xs. says_next ((bytes_reads w).says xs) (λ b v r i x. spelled b i (of x)); complete = complete }
  where
    of : {b v : List ℕ} → Bytes w b v → BigEndian w b (big_endian v)
    of (bytes h) = big_endian_lem h

    complete : {b : List ℕ} {v : ℕ} → BigEndian w b v → (rest : List ℕ) → read_big w (b ++ rest) ≡ got v rest
    complete (big_endian_lem {b = b} h) rest = rw ((bytes_reads w).complete (bytes {b = b} h) rest)

pub big_endian_length : {w k : ℕ} {b : List ℕ} → BigEndian w b k → length b ≡ w
big_endian_length (big_endian_lem h) = h

-- one byte more
followed_snoc : (v : ℕ) (b : List ℕ) (c : ℕ) → followed_by v (b ++ (c ∷ [])) ≡ followed_by v b * 256 + c
followed_snoc v [] c = refl
followed_snoc v (a ∷ b) c = followed_snoc (v * 256 + a) b c

pub big_endian_snoc : (b : List ℕ) (c : ℕ) → big_endian (b ++ (c ∷ [])) ≡ big_endian b * 256 + c
big_endian_snoc [] c = omega arith
big_endian_snoc (a ∷ b) c = followed_snoc a b c

-- ---- seven-bit groups

unfoldable pub read_groups : ℕ → List ℕ → Got ℕ
read_groups carried [] = none
read_groups carried (c ∷ xs) = pick (ltb c 128) (got (carried * 128 + c % 128) xs) (read_groups (carried * 128 + c % 128 + 1) xs)

groups_says : (carried : ℕ) (xs : List ℕ) → Says (Groups carried) xs (read_groups carried xs)
unfolding read_groups
groups_says carried [] = refused
groups_says carried (c ∷ xs) = go (less? c 128) (groups_says (carried * 128 + c % 128 + 1) xs)
  where
    go : {t : Bool} → Less c 128 t → {g : Got ℕ} → Says (Groups (carried * 128 + c % 128 + 1)) xs g → Says (Groups carried) (c ∷ xs) (pick t (got (carried * 128 + c % 128) xs) g)
    go (less h) s = spelled (c ∷ []) refl (last h)
    go (not_less h) refused = refused
    go (not_less h) (spelled b i x) = spelled (c ∷ b) (ap (c ∷◌) i) (group h x)

groups_complete : {carried : ℕ} {b : List ℕ} {v : ℕ} → Groups carried b v → (rest : List ℕ) → read_groups carried (b ++ rest) ≡ got v rest
unfolding read_groups
groups_complete (last {c = c} h) rest = rw (lt-ltb c 128 h)
groups_complete (group {c = c} h x) rest = rw (le-ltb c 128 h) (groups_complete x rest)

unfoldable pub read_variable : List ℕ → Got ℕ
read_variable xs = next (read_groups 0 xs) (λ v r. pick (ltb v (2 ^ 64)) (got v r) none)

pub variable_reads : Reads VariableWidth read_variable
unfolding read_variable
variable_reads = record { says = λ xs. says_next (groups_says 0 xs) (λ b v r i x. says_if_less v (2 ^ 64) (λ h. spelled b i (record { groups = x; fits = h }))); complete = complete }
  where
    complete : {b : List ℕ} {v : ℕ} → VariableWidth b v → (rest : List ℕ) → read_variable (b ++ rest) ≡ got v rest
    complete {b} {v} x rest = rw (groups_complete x.groups rest, lt-ltb v (2 ^ 64) x.fits)

-- ---- bytes up to a mark

pub data Without (mark : ℕ) : List ℕ → Type 0 where
  empty : Without mark []
  byte : {c : ℕ} {s : List ℕ} → (c ≡ mark → ⊥) → Without mark s → Without mark (c ∷ s)

pub data Until (mark : ℕ) : List ℕ → List ℕ → Type 0 where
  until : {s : List ℕ} → Without mark s → Until mark (s ++ (mark ∷ [])) s

unfoldable pub read_until : ℕ → List ℕ → Got (List ℕ)
read_until mark [] = none
read_until mark (c ∷ xs) = pick (eqb c mark) (got [] xs) (next (read_until mark xs) (λ s r. got (c ∷ s) r))

until_says : (mark : ℕ) (xs : List ℕ) → Says (Until mark) xs (read_until mark xs)
unfolding read_until
until_says mark [] = refused
until_says mark (c ∷ xs) = go (same? c mark) (until_says mark xs)
  where
    further : {b v r : List ℕ} → (c ≡ mark → ⊥) → xs ≡ b ++ r → Until mark b v → Says (Until mark) (c ∷ xs) (got (c ∷ v) r)
    further d i (until {s = s} w) = spelled (c ∷ (s ++ (mark ∷ []))) (ap (c ∷◌) i) (until (byte d w))

    go : {t : Bool} → Same c mark t → {g : Got (List ℕ)} → Says (Until mark) xs g → Says (Until mark) (c ∷ xs) (pick t (got [] xs) (next g (λ s r. got (c ∷ s) r)))
    go (same e) s = spelled (mark ∷ []) (ap (◌∷ xs) e) (until empty)
    go (differs d) refused = refused
    go (differs d) (spelled b i x) = further d i x

pub until_here : {mark : ℕ} {s : List ℕ} → Without mark s → (rest : List ℕ) → read_until mark (s ++ (mark ∷ rest)) ≡ got s rest
unfolding read_until
until_here {mark} empty rest = rw (eq-eqb mark mark refl)
until_here {mark} (byte {c = c} d w) rest = rw (ne_eqb c mark d, until_here w rest)

pub until_reads : (mark : ℕ) → Reads (Until mark) (read_until mark)
until_reads mark = record { says = until_says mark; complete = complete }
  where
    complete : {b v : List ℕ} → Until mark b v → (rest : List ℕ) → read_until mark (b ++ rest) ≡ got v rest
    complete (until {s = s} w) rest = rw (append_assoc s (mark ∷ []) rest) (until_here w rest)

-- ---- a whole list that means something, or nothing

pub data Whole {A : Type 0} (R : A → Type 0) : Option A → Type 0 where
  means : {v : A} → R v → Whole R (some v)
  nothing_said : Whole R nothing

abbrev digitb : ℕ → ℕ → Bool
digitb base c = pick (leb 48 c) (ltb c (48 + base)) false

data IsDigit (base c : ℕ) : Bool → Type 0 where
  is_digit_lem : Digit base c → IsDigit base c true
  no_digit : IsDigit base c false

digit? : (base c : ℕ) → IsDigit base c (digitb base c)
digit? base c = go (at_most? 48 c) (less? c (48 + base))
  where
    go : {t u : Bool} → AtMost 48 c t → Less c (48 + base) u → IsDigit base c (pick t u false)
    go (at_most h) (less l) = is_digit_lem (record { least = h; below = l })
    go (at_most h) (not_less l) = no_digit
    go (above h) u = no_digit

digit_true : {base c : ℕ} → Digit base c → digitb base c ≡ true
digit_true {base} {c} d = rw (le-leb 48 c d.least, lt-ltb c (48 + base) d.below)

unfoldable pub more_digits : ℕ → ℕ → List ℕ → Option ℕ
more_digits base v [] = some v
more_digits base v (c ∷ b) = pick (pick (leb 48 c) (ltb c (48 + base)) false) (more_digits base (v * base + (c - 48)) b) nothing

unfoldable pub read_digits : ℕ → List ℕ → Option ℕ
read_digits base [] = nothing
read_digits base (c ∷ b) = more_digits base 0 (c ∷ b)

more_says : (base v c : ℕ) (b : List ℕ) → Digit base c → Whole (Digits base v (c ∷ b)) (more_digits base (v * base + (c - 48)) b)
unfolding more_digits
more_says base v c [] d = means (last_digit d)
more_says base v c (e ∷ b) d = go (digit? base e) (more_says base (v * base + (c - 48)) e b)
  where
    put : {o : Option ℕ} → Whole (Digits base (v * base + (c - 48)) (e ∷ b)) o → Whole (Digits base v (c ∷ e ∷ b)) o
    put nothing_said = nothing_said
    put (means x) = means (digit d x)

    go : {t : Bool} {o : Option ℕ} → IsDigit base e t → (Digit base e → Whole (Digits base (v * base + (c - 48)) (e ∷ b)) o) → Whole (Digits base v (c ∷ e ∷ b)) (pick t o nothing)
    go (is_digit_lem f) k = put (k f)
    go no_digit k = nothing_said

more_complete : {base v : ℕ} {b : List ℕ} {w : ℕ} → Digits base v b w → more_digits base v b ≡ some w
unfolding more_digits
more_complete (last_digit d) = rw (digit_true d)
more_complete (digit d x) = rw (digit_true d) (more_complete x)

digits_says : (base : ℕ) (b : List ℕ) → Whole (Digits base 0 b) (read_digits base b)
unfolding read_digits more_digits
digits_says base [] = nothing_said
digits_says base (c ∷ b) = go (digit? base c) (more_says base 0 c b)
  where
    go : {t : Bool} {o : Option ℕ} → IsDigit base c t → (Digit base c → Whole (Digits base 0 (c ∷ b)) o) → Whole (Digits base 0 (c ∷ b)) (pick t o nothing)
    go (is_digit_lem f) k = k f
    go no_digit k = nothing_said

digits_complete : {base : ℕ} {b : List ℕ} {w : ℕ} → Digits base 0 b w → read_digits base b ≡ some w
unfolding read_digits
digits_complete (last_digit {c = c} d) = more_complete (last_digit {v = 0} {c = c} d)
digits_complete (digit d x) = more_complete (digit d x)

abbrev pub below64 : Option ℕ → Option ℕ
below64 nothing = nothing
below64 (some v) = pick (ltb v (2 ^ 64)) (some v) nothing

unfoldable pub read_unsigned : List ℕ → Option ℕ
read_unsigned b = below64 (read_digits 10 b)

unsigned_says : (b : List ℕ) → Whole (Unsigned b) (read_unsigned b)
unfolding read_unsigned
unsigned_says b = go (digits_says 10 b)
  where
    to : {v : ℕ} → Digits 10 0 b v → {t : Bool} → Less v (2 ^ 64) t → Whole (Unsigned b) (pick t (some v) nothing)
    to x (less h) = means (record { digits = x; fits = h })
    to x (not_less h) = nothing_said

    go : {o : Option ℕ} → Whole (Digits 10 0 b) o → Whole (Unsigned b) (below64 o)
    go nothing_said = nothing_said
    go (means {v = v} x) = to x (less? v (2 ^ 64))

unsigned_complete : {b : List ℕ} {v : ℕ} → Unsigned b v → read_unsigned b ≡ some v
unfolding read_unsigned
unsigned_complete {b} {v} x = rw (digits_complete x.digits, lt-ltb v (2 ^ 64) x.fits)

abbrev pub not_negative : Option ℕ → Option Count
not_negative nothing = nothing
not_negative (some v) = pick (ltb v (2 ^ 31)) (some (covers v)) nothing

abbrev pub negated : Option ℕ → Option Count
negated nothing = nothing
negated (some v) = pick (eqb v 0) (some (covers 0)) (pick (leb v (2 ^ 31)) (some invalid) nothing)

unfoldable pub read_signed : List ℕ → Option Count
read_signed [] = nothing
read_signed (c ∷ b) = pick (eqb c 43) (not_negative (read_digits 10 b)) (pick (eqb c 45) (negated (read_digits 10 b)) (not_negative (read_digits 10 (c ∷ b))))

not_negative_says : {R : Count → Type 0} {b : List ℕ} {o : Option ℕ} → ((v : ℕ) → Digits 10 0 b v → v < 2 ^ 31 → R (covers v)) → Whole (Digits 10 0 b) o → Whole R (not_negative o)
not_negative_says k nothing_said = nothing_said
not_negative_says {R} k (means {v = v} x) = to (less? v (2 ^ 31))
  where
    to : {t : Bool} → Less v (2 ^ 31) t → Whole R (pick t (some (covers v)) nothing)
    to (less h) = means (k v x h)
    to (not_less h) = nothing_said

negated_says : {b : List ℕ} {o : Option ℕ} → Whole (Digits 10 0 b) o → Whole (Signed (45 ∷ b)) (negated o)
negated_says nothing_said = nothing_said
negated_says {b} (means {v = v} x) = to (same? v 0) (at_most? v (2 ^ 31))
  where
    to : {t u : Bool} → Same v 0 t → AtMost v (2 ^ 31) u → Whole (Signed (45 ∷ b)) (pick t (some (covers 0)) (pick u (some invalid) nothing))
    to (same e) u = means (minus_zero_lem (subst (Digits 10 0 b) e x))
    to (differs d) (at_most h) = means (minus x (omega arith) h)
    to (differs d) (above h) = nothing_said

signed_says : (b : List ℕ) → Whole (Signed b) (read_signed b)
unfolding read_signed
signed_says [] = nothing_said
signed_says (c ∷ b) = go (same? c 43) (same? c 45)
  where
    go : {t u : Bool} → Same c 43 t → Same c 45 u
        → Whole (Signed (c ∷ b)) (pick t (not_negative (read_digits 10 b)) (pick u (negated (read_digits 10 b)) (not_negative (read_digits 10 (c ∷ b)))))
    go (same e) u = rw e (not_negative_says (λ v x h. plus x h) (digits_says 10 b))
    go (differs d) (same e) = rw e (negated_says (digits_says 10 b))
    go (differs d) (differs f) = not_negative_says (λ v x h. plain x h) (digits_says 10 (c ∷ b))

first_digit : {base v : ℕ} {b : List ℕ} {w : ℕ} → Digits base v b w → (c : ℕ) × (r : List ℕ) × (b ≡ c ∷ r) × (48 ≤ c)
first_digit (last_digit {c = c} d) = (c, [], refl, d.least)
first_digit (digit {c = c} {b = b} d x) = (c, b, refl, d.least)

signed_complete : {b : List ℕ} {v : Count} → Signed b v → read_signed b ≡ some v
unfolding read_signed
signed_complete (plain {b = b} {v = v} x h) =
    let (c, r, e, l) = first_digit x in
    let y : Digits 10 0 (c ∷ r) v = subst (λ (z : List ℕ). Digits 10 0 z v) e x in
    rw (e, ne_eqb c 43 (λ q. omega arith), ne_eqb c 45 (λ q. omega arith), digits_complete y, lt-ltb v (2 ^ 31) h)
signed_complete (plus {v = v} x h) = rw (digits_complete x, lt-ltb v (2 ^ 31) h)
signed_complete (minus_zero_lem x) = rw (digits_complete x)
signed_complete (minus {v = v} x h k) = rw (digits_complete x, ne_eqb v 0 (λ q. omega arith), le-leb v (2 ^ 31) k)

-- ---- digits up to a mark that is no digit

pub data Ended {A : Type 0} (mark : ℕ) (R : List ℕ → A → Type 0) : List ℕ → A → Type 0 where
  ended : {b : List ℕ} {v : A} → R b v → Ended mark R (b ++ (mark ∷ [])) v

abbrev pub on_whole : {A : Type 0} → Option A → List ℕ → Got A
on_whole nothing r = none
on_whole (some v) r = got v r

abbrev pub read_ended : {A : Type 0} → ℕ → (List ℕ → Option A) → List ℕ → Got A
read_ended mark f xs = next (read_until mark xs) (λ s r. on_whole (f s) r)

module _ {A : Type 0} {R : List ℕ → A → Type 0} {f : List ℕ → Option A} (mark : ℕ) (without : (b : List ℕ) (v : A) → R b v → Without mark b) (says : (b : List ℕ) → Whole (R b) (f b))
    (complete : (b : List ℕ) (v : A) → R b v → f b ≡ some v) where
  ended_reads : Reads (Ended mark R) (read_ended mark f)
  ended_reads = record { says = λ xs. says_next ((until_reads mark).says xs) (λ b s r i x. of xs r i x); complete = cpl }
    where
      to : (xs s r : List ℕ) → xs ≡ (s ++ (mark ∷ [])) ++ r → {o : Option A} → Whole (R s) o → Says (Ended mark R) xs (on_whole o r)
      to xs s r i nothing_said = refused
      to xs s r i (means x) = spelled (s ++ (mark ∷ [])) i (ended x)

      of : (xs : List ℕ) {b s : List ℕ} (r : List ℕ) → xs ≡ b ++ r → Until mark b s → Says (Ended mark R) xs (on_whole (f s) r)
      of xs r i (until {s = s} w) = to xs s r i (says s)

      cpl : {b : List ℕ} {v : A} → Ended mark R b v → (rest : List ℕ) → read_ended mark f (b ++ rest) ≡ got v rest
      cpl (ended {b = b} {v = v} x) rest = rw (append_assoc b (mark ∷ []) rest, until_here (without b v x) rest, complete b v x)

digits_without : {base v : ℕ} {b : List ℕ} {w : ℕ} → Digits base v b w → (mark : ℕ) → mark < 48 → Without mark b
digits_without (last_digit {c = c} d) mark h = byte (λ (q : c ≡ mark). omega (arith, d.least)) empty
digits_without (digit {c = c} d x) mark h = byte (λ (q : c ≡ mark). omega (arith, d.least)) (digits_without x mark h)

signed_without : {b : List ℕ} {v : Count} → Signed b v → Without 32 b
signed_without (plain x h) = digits_without x 32 (omega arith)
signed_without (plus x h) = byte (λ (q : ◌≡◌ {A = ℕ} 43 32). omega arith) (digits_without x 32 (omega arith))
signed_without (minus_zero_lem x) = byte (λ (q : ◌≡◌ {A = ℕ} 45 32). omega arith) (digits_without x 32 (omega arith))
signed_without (minus x h k) = byte (λ (q : ◌≡◌ {A = ℕ} 45 32). omega arith) (digits_without x 32 (omega arith))

-- a count and the space behind it
pub signed_reads : Reads (Ended 32 Signed) (read_ended 32 read_signed)
signed_reads = ended_reads 32 (λ b v x. signed_without x) signed_says (λ b v x. signed_complete x)

-- a number of subtrees and the newline behind it
pub unsigned_reads : Reads (Ended 10 Unsigned) (read_ended 10 read_unsigned)
unsigned_reads = ended_reads 10 (λ b v x. digits_without x.digits 10 (omega arith)) unsigned_says (λ b v x. unsigned_complete x)
