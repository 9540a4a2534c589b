-- What decides the relations of Extension on lists. It reads no file and is no reader of the project: it only settles, for given bytes, whether a relation holds, and so
-- that it holds of one meaning at most. Assumes nothing.
use Rattle.std.specs.Prelude.{ℕ, ◌+◌, ◌<◌, ◌≡◌, refl, Bool, true, false, List, [], ◌∷◌, ◌++◌, ◌↔◌, leb, length, get_or}
use Rattle.std.proofs.Common.{sym, ap, ◌∙◌, subst, append_assoc, arith, length-append}
use Rattle.std.proofs.Math.Option.{Option, some, none as nothing}
use Rattle.laws.specs.Pick.{pick}
use Rattle.laws.specs.Tests.{AtMost, at_most, above, at_most?}
use Rattle.laws.specs.Read.{Got, got, none, Says, spelled, refused, Reads, next, says_next}
use Rattle.laws.specs.Fill.{Filled, filled, broken, Breaks, read_fill, fill_accepts, fill_broken}
use Rattle.laws.specs.Order.{Comparison, below, equal, beyond, compared, compares, Compares, is_below_lem, is_equal_lem, is_beyond, irreflexive, compared_same, Before}
use Rattle.grammar.specs.Number.{BigEndian}
use Rattle.grammar.specs.Extension.{Ext, ext, Framed, framed, extension_header, Optional, Mandatory, sdir, Allowed, optional, empty_sdir, Extension, Extensions, NoneSigned, none_left, another, bytes_of, LastSigned, last_signed}
use Rattle.grammar.specs.DecideNumber.{Bytes, bytes, read_bytes, bytes_reads, read_big, big_reads}

-- ---- two lists are the same

pub data SameList (a b : List ℕ) : Bool → Type 0 where
  same_list_lem : a ≡ b → SameList a b true
  other_list : (a ≡ b → ⊥) → SameList a b false

abbrev pub is_equal : Comparison → Bool
is_equal below = false
is_equal equal = true
is_equal beyond = false

unfoldable pub same_list : List ℕ → List ℕ → Bool
same_list a b = is_equal (compared a b)

pub same_list? : (a b : List ℕ) → SameList a b (same_list a b)
unfolding same_list
same_list? a b = go (compares a b)
  where
    go : {c : Comparison} → Compares a b c → SameList a b (is_equal c)
    go (is_below_lem t) = other_list (λ e. irreflexive (subst (Before a) (sym e) t))
    go (is_equal_lem e) = same_list_lem e
    go (is_beyond t) = other_list (λ e. irreflexive (subst (λ (l : List ℕ). Before l a) (sym e) t))

pub list_true : {a b : List ℕ} → a ≡ b → same_list a b ≡ true
unfolding same_list
list_true {a} {b} e = rw (← e, compared_same a)

-- ---- an extension with its frame

unfoldable pub read_framed : List ℕ → Got Ext
read_framed xs = next (read_bytes 4 xs) (λ s r. next (read_big 4 r) (λ k q. next (read_bytes k q) (λ d t. got (ext s d) t)))

pub framed_reads : Reads Framed read_framed
unfolding read_framed
framed_reads = record { says = says; complete = complete }
  where
    of : {b c e s d : List ℕ} {k : ℕ} → Bytes 4 b s → BigEndian 4 c k → Bytes k e d → Framed (b ++ (c ++ e)) (ext s d)
    of (bytes h) y (bytes l) = framed h (subst (BigEndian 4 _) (sym l) y)

    says : (xs : List ℕ) → Says Framed xs (read_framed xs)
    says xs =
        says_next ((bytes_reads 4).says xs) (λ b s r i x. says_next ((big_reads 4).says r) (λ c k q j y. says_next ((bytes_reads k).says q) (λ e d t l w.
        spelled (b ++ (c ++ e)) (rw (append_assoc, append_assoc, ← l, ← j) i) (of x y w))))

    complete : {b : List ℕ} {v : Ext} → Framed b v → (rest : List ℕ) → read_framed (b ++ rest) ≡ got v rest
    complete (framed {signature = s} {size = z} {body = d} h x) rest =
        rw (append_assoc s (z ++ d) rest, append_assoc z d rest, (bytes_reads 4).complete (bytes {b = s} h) (z ++ (d ++ rest)), (big_reads 4).complete x (d ++ rest), (bytes_reads (length d)).complete (bytes {b = d} refl) rest)

-- ---- which may stand

unfoldable pub is_optional : List ℕ → Bool
is_optional s = pick (leb 65 (get_or s 0 0)) (leb (get_or s 0 0) 90) false

pub data OptionalOrNot (s : List ℕ) : Bool → Type 0 where
  is_optional_lem : Optional s → OptionalOrNot s true
  is_mandatory : Mandatory s → OptionalOrNot s false

pub optional? : (s : List ℕ) → OptionalOrNot s (is_optional s)
unfolding is_optional
optional? s = go (at_most? 65 (get_or s 0 0)) (at_most? (get_or s 0 0) 90)
  where
    go : {t u : Bool} → AtMost 65 (get_or s 0 0) t → AtMost (get_or s 0 0) 90 u → OptionalOrNot s (pick t u false)
    go (at_most h) (at_most l) = is_optional_lem (record { least = h; most = l })
    go (at_most h) (above l) = is_mandatory (λ o. omega (arith, o.most))
    go (above h) u = is_mandatory (λ o. omega (arith, o.least))

unfoldable pub allowed : Ext → Bool
allowed e = pick (is_optional e.signature) true (pick (same_list e.signature sdir) (same_list e.body []) false)

pub data IsAllowed (e : Ext) : Bool → Type 0 where
  is_allowed : Allowed e → IsAllowed e true
  is_refused : (Allowed e → ⊥) → IsAllowed e false

pub allowed? : (e : Ext) → IsAllowed e (allowed e)
unfolding allowed
allowed? e = go (optional? e.signature) (same_list? e.signature sdir) (same_list? e.body [])
  where
    not_optional : {e : Ext} → Mandatory e.signature → Allowed e → (e.signature ≡ sdir) × (e.body ≡ [])
    not_optional m (optional o) = absurd (m o)
    not_optional m empty_sdir = (refl, refl)

    go : {t u v : Bool} → OptionalOrNot e.signature t → SameList e.signature sdir u → SameList e.body [] v → IsAllowed e (pick t true (pick u v false))
    go (is_optional_lem o) u v = is_allowed (optional o)
    go (is_mandatory m) (same_list_lem i) (same_list_lem j) =
        let k : ext sdir [] ≡ e = λ n. ext (sym i n) (sym j n) in
        is_allowed (subst Allowed k empty_sdir)
    go (is_mandatory m) (same_list_lem i) (other_list j) = is_refused (λ a. j (not_optional m a).1)
    go (is_mandatory m) (other_list i) v = is_refused (λ a. i (not_optional m a).0)

-- ---- extensions that fill their space

unfoldable pub read_extension : List ℕ → Got Ext
read_extension xs = next (read_framed xs) (λ e r. pick (allowed e) (got e r) none)

pub extension_reads : Reads Extension read_extension
unfolding read_extension
extension_reads = record { says = says; complete = complete }
  where
    says : (xs : List ℕ) → Says Extension xs (read_extension xs)
    says xs = says_next (framed_reads.says xs) (λ b e r i x. to r i x (allowed? e))
      where
        to : {b : List ℕ} {e : Ext} (r : List ℕ) → xs ≡ b ++ r → Framed b e → {t : Bool} → IsAllowed e t → Says Extension xs (pick t (got e r) none)
        to {b = b} r i x (is_allowed a) = spelled b i (record { is_framed = x; is_allowed = a })
        to r i x (is_refused a) = refused

    complete : {b : List ℕ} {v : Ext} → Extension b v → (rest : List ℕ) → read_extension (b ++ rest) ≡ got v rest
    complete {b} {v} x rest = rw (framed_reads.complete x.is_framed rest) (to (allowed? v))
      where
        to : {t : Bool} → IsAllowed v t → pick t (got v rest) none ≡ got v rest
        to (is_allowed a) = refl
        to (is_refused a) = absurd (a x.is_allowed)

framed_some : {b : List ℕ} {e : Ext} → Framed b e → 0 < length b
framed_some (framed {signature = s} {size = z} {body = d} h x) = omega (arith, length-append s (z ++ d))

pub extension_some : (b : List ℕ) (e : Ext) → Extension b e → 0 < length b
extension_some b e x = framed_some x.is_framed

unfoldable pub read_extensions : List ℕ → Filled Ext
read_extensions xs = read_fill read_extension (length xs) xs

pub extensions_accepts : (xs : List ℕ) (es : List Ext) → (read_extensions xs ≡ filled es) ↔ Extensions xs es
unfolding read_extensions
extensions_accepts = fill_accepts extension_reads extension_some

-- some extensions, and then bytes that begin with none that may stand
pub extensions_broken : (xs : List ℕ) (es : List Ext) → (read_extensions xs ≡ broken es) ↔ Breaks Extension xs es
unfolding read_extensions
extensions_broken = fill_broken extension_reads extension_some

-- ---- the last one with a signature

abbrev pub or_else : Option (ℕ × List ℕ) → Option (ℕ × List ℕ) → Option (ℕ × List ℕ)
or_else nothing o = o
or_else (some v) o = some v

unfoldable pub read_last : List ℕ → ℕ → List Ext → Option (ℕ × List ℕ)
read_last S at [] = nothing
read_last S at (e ∷ es) = or_else (read_last S (at + (extension_header + length e.body)) es) (pick (same_list e.signature S) (some (at + extension_header, e.body)) nothing)

pub data SaysLast (S : List ℕ) (at : ℕ) (es : List Ext) : Option (ℕ × List ℕ) → Type 0 where
  last_is : {place : ℕ} {body : List ℕ} → LastSigned S at es place body → SaysLast S at es (some (place, body))
  none_is : NoneSigned S es → SaysLast S at es nothing

last_further : {S : List ℕ} {at : ℕ} (e : Ext) {place : ℕ} {es : List Ext} {body : List ℕ} → LastSigned S (at + (extension_header + length e.body)) es place body → LastSigned S at (e ∷ es) place body
last_further {S} {at} e {es = es} (last_signed before {e = d} behind i j x) =
    let k : at + bytes_of (e ∷ before) + extension_header ≡ at + (extension_header + length e.body) + bytes_of before + extension_header = omega arith in
    subst (λ (p : ℕ). LastSigned S at (e ∷ es) p d.body) k (last_signed (e ∷ before) behind (ap (λ (l : List Ext). e ∷ l) i) j x)

last_this : {S : List ℕ} {at : ℕ} {es : List Ext} (e : Ext) → e.signature ≡ S → NoneSigned S es → LastSigned S at (e ∷ es) (at + extension_header) e.body
last_this {S} {at} {es} e i x =
    let k : at + bytes_of [] + extension_header ≡ at + extension_header = omega arith in
    subst (λ (p : ℕ). LastSigned S at (e ∷ es) p e.body) k (last_signed [] es refl i x)

pub last_says : (S : List ℕ) (at : ℕ) (es : List Ext) → SaysLast S at es (read_last S at es)
unfolding read_last
last_says S at [] = none_is none_left
last_says S at (e ∷ es) = go (last_says S (at + (extension_header + length e.body)) es) (same_list? e.signature S)
  where
    go : {o : Option (ℕ × List ℕ)} {t : Bool} → SaysLast S (at + (extension_header + length e.body)) es o → SameList e.signature S t
        → SaysLast S at (e ∷ es) (or_else o (pick t (some (at + extension_header, e.body)) nothing))
    go (last_is x) u = last_is (last_further e x)
    go (none_is x) (same_list_lem i) = last_is (last_this e i x)
    go (none_is x) (other_list d) = none_is (another d x)

-- where none is signed so, there is no last one
none_signed : {S : List ℕ} {es : List Ext} → NoneSigned S es → (before : List Ext) (e : Ext) (behind : List Ext) → es ≡ before ++ (e ∷ behind) → e.signature ≡ S → ⊥
none_signed none_left [] e behind i j = let z : ◌≡◌ {A = ℕ} 0 1 = cc in omega arith
none_signed none_left (d ∷ before) e behind i j = let z : ◌≡◌ {A = ℕ} 0 1 = cc in omega arith
none_signed (another {e = f} k x) [] e behind i j = let l : f ≡ e = cc in k (ap (λ (a : Ext). a.signature) l ∙ j)
none_signed (another {es = es} k x) (d ∷ before) e behind i j = let l : es ≡ before ++ (e ∷ behind) = cc in none_signed x before e behind l j

pub none_not_last : {S : List ℕ} {at place : ℕ} {es : List Ext} {body : List ℕ} → NoneSigned S es → LastSigned S at es place body → ⊥
none_not_last x (last_signed before {e = e} behind i j y) = none_signed x before e behind i j

-- of the last one there is at most one
one_last : {S : List ℕ} (p : List Ext) (e : Ext) (q p₂ : List Ext) (e₂ : Ext) (q₂ : List Ext) → p ++ (e ∷ q) ≡ p₂ ++ (e₂ ∷ q₂) → e.signature ≡ S → e₂.signature ≡ S → NoneSigned S q → NoneSigned S q₂
    → (p ≡ p₂) × (e ≡ e₂)
one_last [] e q [] e₂ q₂ i j k x y = (refl, (cc))
one_last [] e q (d ∷ p₂) e₂ q₂ i j k x y = let l : q ≡ p₂ ++ (e₂ ∷ q₂) = cc in absurd (none_signed x p₂ e₂ q₂ l k)
one_last (d ∷ p) e q [] e₂ q₂ i j k x y = let l : q₂ ≡ p ++ (e ∷ q) = cc in absurd (none_signed y p e q l j)
one_last (d ∷ p) e q (d₂ ∷ p₂) e₂ q₂ i j k x y =
    let l : p ++ (e ∷ q) ≡ p₂ ++ (e₂ ∷ q₂) = cc in
    let m : d ≡ d₂ = cc in
    let (f, g) = one_last p e q p₂ e₂ q₂ l j k x y in
    ((λ n. m n ∷ f n), g)

pub last_unique : {S : List ℕ} {at place place₂ : ℕ} {es : List Ext} {body body₂ : List ℕ} → LastSigned S at es place body → LastSigned S at es place₂ body₂ → (place ≡ place₂) × (body ≡ body₂)
last_unique {at = at} (last_signed p {e = e} q i j x) (last_signed p₂ {e = e₂} q₂ i₂ j₂ x₂) =
    let (f, g) = one_last p e q p₂ e₂ q₂ (sym i ∙ i₂) j j₂ x x₂ in
    (ap (λ (l : List Ext). at + bytes_of l + extension_header) f, ap (λ (a : Ext). a.body) g)
