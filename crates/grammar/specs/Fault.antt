-- Where the extensions of a file first go wrong; after 01, "When the desk says no": 7, "extension space not exactly filled; offset of fault", and 8, "non-empty `sdir`, other
-- mandatory extension; signature"; "first fault in file order, at one header 7 before 8; 7's offset is the first byte of that header or of the stray bytes". Assumes nothing.
use Rattle.std.specs.Prelude.{ℕ, ◌+◌, ◌<◌, ◌≡◌, List, ◌++◌, length}
use Rattle.laws.specs.Read.{Begins}
use Rattle.grammar.specs.Extension.{Ext, Framed, Allowed, Extensions}

pub data Fault : Type 0 where
  stray : (offset : ℕ) → Fault
  refused : (signature : List ℕ) → Fault

-- behind extensions that may stand: bytes that begin with no extension, or an extension that may not stand. xs begins at a place of the file
pub data Faulty (at : ℕ) (xs : List ℕ) : Fault → Type 0 where
  stray_bytes : {b : List ℕ} {es : List Ext} (rest : List ℕ) → xs ≡ b ++ rest → Extensions b es → 0 < length rest → ((e : Ext) (q : List ℕ) → ¬ Begins Framed rest e q)
      → Faulty at xs (stray (at + length b))
  refused_extension : {b : List ℕ} {es : List Ext} {e : Ext} (rest q : List ℕ) → xs ≡ b ++ rest → Extensions b es → Begins Framed rest e q → (Allowed e → ⊥)
      → Faulty at xs (refused e.signature)
