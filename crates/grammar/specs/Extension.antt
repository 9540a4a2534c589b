-- How extensions are spelled: they fill their space, and which of them may stand there; after gitformat-index, "Extensions" and "SPARSE DIRECTORY ENTRIES", and 01,
-- "Extensions", as 02's A4 amends it. Assumes nothing.
use Rattle.std.specs.Prelude.{ℕ, ◌+◌, ◌≤◌, ◌≡◌, List, [], ◌∷◌, ◌++◌, length, get_or}
use Rattle.laws.specs.Fill.{Fill}
use Rattle.grammar.specs.Number.{BigEndian}

-- an extension's meaning
pub record Ext : Type 0 where
  pub signature : List ℕ
  pub body : List ℕ

abbrev pub ext : List ℕ → List ℕ → Ext
ext signature body = record { signature = signature; body = body }

-- "An extension is a 4-byte signature, a big-endian 32-bit size, then that many bytes."
pub data Framed : List ℕ → Ext → Type 0 where
  framed : {signature size body : List ℕ} → length signature ≡ 4 → BigEndian 4 size (length body) → Framed (signature ++ (size ++ body)) (ext signature body)

-- the bytes of signature and size
abbrev pub extension_header : ℕ
extension_header = 8

-- "If the first byte is 'A'..'Z' the extension is optional and can be ignored."
pub record Optional (signature : List ℕ) : Type 0 where
  pub least : 65 ≤ get_or signature 0 0
  pub most : get_or signature 0 0 ≤ 90

-- 02, A4: "every first byte outside 65 to 90 makes the extension mandatory"
abbrev pub Mandatory : List ℕ → Type 0
Mandatory signature = ¬ Optional signature

-- "sdir" and "TREE"
abbrev pub sdir : List ℕ
sdir = 115 ∷ 100 ∷ 105 ∷ 114 ∷ []

abbrev pub TREE : List ℕ
TREE = 84 ∷ 82 ∷ 69 ∷ 69 ∷ []

-- "`sdir` must be empty and marks the index sparse. Every other mandatory one is refused."
pub data Allowed : Ext → Type 0 where
  optional : {e : Ext} → Optional e.signature → Allowed e
  empty_sdir : Allowed (ext sdir [])

pub record Extension (b : List ℕ) (e : Ext) : Type 0 where
  pub is_framed : Framed b e
  pub is_allowed : Allowed e

-- "They fill the space from the last entry to the last 20 bytes exactly."
abbrev pub Extensions : List ℕ → List Ext → Type 0
Extensions = Fill Extension

-- ---- which of them counts: "If a file has several TREEs only the last counts."

-- none of them has this signature
pub data NoneSigned (signature : List ℕ) : List Ext → Type 0 where
  none_left : NoneSigned signature []
  another : {e : Ext} {es : List Ext} → (e.signature ≡ signature → ⊥) → NoneSigned signature es → NoneSigned signature (e ∷ es)

-- the bytes that extensions take
abbrev pub bytes_of : List Ext → ℕ
bytes_of [] = 0
bytes_of (e ∷ es) = extension_header + length e.body + bytes_of es

-- of extensions that begin at a place of the file, the last one with this signature: none behind it has it. The place of its body, and its body
pub data LastSigned (signature : List ℕ) (at : ℕ) (es : List Ext) : ℕ → List ℕ → Type 0 where
  last_signed : (before : List Ext) {e : Ext} (behind : List Ext) → es ≡ before ++ (e ∷ behind) → e.signature ≡ signature → NoneSigned signature behind
      → LastSigned signature at es (at + bytes_of before + extension_header) e.body
