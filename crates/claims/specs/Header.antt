-- The header: what `header_at`, which the reader's contract cites, says in the grammar's terms, over the length of an id. Assumes that the file is bytes.
use Rattle.std.specs.Prelude.{ℕ, ◌+◌, ◌≤◌, ◌<◌, ◌≡◌, refl, Bool, List, eqb, take, drop, Err, Ok, Result}
use Rattle.std.proofs.Common.{sym, ap, ◌∙◌, ⊎_elim, arith, take-append-drop, length-take-le}
use Rattle.std.proofs.Math.ListN.{length}
use Rattle.laws.specs.Pick.{pick}
use Rattle.laws.specs.Tests.{lt_or_ge, Less, less, not_less, less?, Same, same, differs, same?}
use Rattle.wire.specs.BigEndian.{be_at}
use Rattle.decode.specs.Header.{signature, on_version, header_at}
use Rattle.grammar.specs.Number.{big_endian}
use Rattle.grammar.specs.File.{DIRC, header_length, Supported, version_of, count_of, GoodHeader}
use Rattle.claims_entries.specs.Parts.{be_is}
use Rattle.claims_entries.specs.Rendering.{Bytes}
use Rattle.claims_entries.proofs.Fields.{bytes_left}
use Rattle.claims_extension.specs.Words.{all_bytes, bytes_if, FourBytes, signature_injective}
use Rattle.decode.specs.Made.{header_with}
use Rattle.decode.specs.declared.header.Error.{Error as HeaderError}
use Rattle.decode.specs.declared.header.Error.TheVariants.{NoSignature, OtherVersion, ShortFile}
use Rattle.decode.specs.declared.header.Header.{Header}

-- what each answer says
pub data SaysHeader (id : ℕ) (s : List ℕ) : Result Header HeaderError → Type 0 where
  -- 1
  says_short : length s < header_length + id → SaysHeader id s (Err ShortFile)
  -- 2
  says_no_signature : header_length + id ≤ length s → (take 4 s ≡ DIRC → ⊥) → SaysHeader id s (Err NoSignature)
  -- 3
  says_other_version : header_length + id ≤ length s → take 4 s ≡ DIRC → (Supported (version_of s) → ⊥) → SaysHeader id s (Err (OtherVersion (version_of s)))
  says_opens : GoodHeader id s → SaysHeader id s (Ok (header_with (version_of s) (count_of s)))

-- "DIRC" as bytes
dirc_bytes : FourBytes DIRC
unfolding all_bytes
dirc_bytes = record { four = refl; small = bytes_if DIRC refl }

module _ (id : ℕ) (s : List ℕ) (bytes : Bytes s) where
  first_four : 4 ≤ length s → FourBytes (take 4 s)
  first_four h = record { four = length-take-le 4 s h; small = bytes_left (take 4 s) (drop 4 s) (rw (take-append-drop 4 s) bytes) }

  signed : 4 ≤ length s → be_at 4 s 0 ≡ signature → take 4 s ≡ DIRC
  signed h e = signature_injective (first_four h) dirc_bytes (be_is 4 s 0 h ∙ e)

  unsigned : 4 ≤ length s → (be_at 4 s 0 ≡ signature → ⊥) → take 4 s ≡ DIRC → ⊥
  unsigned h d e = d (sym (be_is 4 s 0 h) ∙ ap big_endian e)

  version_says : header_length + id ≤ length s → take 4 s ≡ DIRC → SaysHeader id s (on_version (version_of s) (count_of s))
  unfolding on_version
  version_says h d = two (same? (version_of s) 2)
    where
      opens : 2 ≤ version_of s → version_of s ≤ 4 → SaysHeader id s (Ok (header_with (version_of s) (count_of s)))
      opens a b = says_opens (record { long = h; signature = d; version = record { oldest = a; newest = b } })

      four : {t : Bool} → (version_of s ≡ 2 → ⊥) → (version_of s ≡ 3 → ⊥) → Same (version_of s) 4 t → SaysHeader id s (pick t (Ok (header_with (version_of s) (count_of s))) (Err (OtherVersion (version_of s))))
      four a b (same e) = opens (omega arith) (omega arith)
      four a b (differs c) = says_other_version h d (λ x. none x.oldest x.newest a b c)
        where
          none : 2 ≤ version_of s → version_of s ≤ 4 → (version_of s ≡ 2 → ⊥) → (version_of s ≡ 3 → ⊥) → (version_of s ≡ 4 → ⊥) → ⊥
          none p q x y z = ⊎_elim (λ (l : version_of s < 3). x (omega arith)) (λ (l : 3 ≤ version_of s). ⊎_elim (λ (m : version_of s < 4). y (omega arith)) (λ (m : 4 ≤ version_of s). z (omega arith)) (lt_or_ge (version_of s) 4)) (lt_or_ge (version_of s) 3)

      three : {t : Bool} → (version_of s ≡ 2 → ⊥) → Same (version_of s) 3 t
          → SaysHeader id s (pick t (Ok (header_with (version_of s) (count_of s))) (pick (eqb (version_of s) 4) (Ok (header_with (version_of s) (count_of s))) (Err (OtherVersion (version_of s)))))
      three a (same e) = opens (omega arith) (omega arith)
      three a (differs b) = four a b (same? (version_of s) 4)

      two : {t : Bool} → Same (version_of s) 2 t
          → SaysHeader id s (pick t (Ok (header_with (version_of s) (count_of s))) (pick (eqb (version_of s) 3) (Ok (header_with (version_of s) (count_of s))) (pick (eqb (version_of s) 4) (Ok (header_with (version_of s) (count_of s))) (Err (OtherVersion (version_of s))))))
      two (same e) = opens (omega arith) (omega arith)
      two (differs a) = three a (same? (version_of s) 3)

  -- of the answer that is given its rule holds
  pub header_says : SaysHeader id s (header_at id s)
  unfolding header_at
  header_says = long (less? (length s) (header_length + id))
    where
      named : header_length + id ≤ length s → {t : Bool} → Same (be_at 4 s 0) signature t → SaysHeader id s (pick t (on_version (be_at 4 s 4) (be_at 4 s 8)) (Err NoSignature))
      named h (same e) =
          let v : version_of s ≡ be_at 4 s 4 = be_is 4 s 4 (omega arith) in
          let c : count_of s ≡ be_at 4 s 8 = be_is 4 s 8 (omega arith) in
          rw (← v, ← c) (version_says h (signed (omega arith) e))
      named h (differs d) = says_no_signature h (unsigned (omega arith) d)

      long : {t : Bool} → Less (length s) (header_length + id) t → SaysHeader id s (pick t (Err ShortFile) (pick (eqb (be_at 4 s 0) signature) (on_version (be_at 4 s 4) (be_at 4 s 8)) (Err NoSignature)))
      long (less h) = says_short h
      long (not_less h) = named h (same? (be_at 4 s 0) signature)

-- the rules leave one answer at most
pub one_header : {id : ℕ} {s : List ℕ} {a b : Result Header HeaderError} → SaysHeader id s a → SaysHeader id s b → a ≡ b
one_header (says_short h) (says_short k) = refl
one_header (says_short h) (says_no_signature k d) = absurd (omega arith)
one_header (says_short h) (says_other_version k d e) = absurd (omega arith)
one_header (says_short h) (says_opens g) = absurd (omega (arith, g.long))
one_header (says_no_signature h d) (says_short k) = absurd (omega arith)
one_header (says_no_signature h d) (says_no_signature k e) = refl
one_header (says_no_signature h d) (says_other_version k e f) = absurd (d e)
one_header (says_no_signature h d) (says_opens g) = absurd (d g.signature)
one_header (says_other_version h d e) (says_short k) = absurd (omega arith)
one_header (says_other_version h d e) (says_no_signature k f) = absurd (f d)
one_header (says_other_version h d e) (says_other_version k f g) = refl
one_header (says_other_version h d e) (says_opens g) = absurd (e g.version)
one_header (says_opens g) (says_short k) = absurd (omega (arith, g.long))
one_header (says_opens g) (says_no_signature k d) = absurd (d g.signature)
one_header (says_opens g) (says_other_version k d e) = absurd (e g.version)
one_header (says_opens g) (says_opens h) = refl
