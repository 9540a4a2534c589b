-- The whole index file: header, entries, extensions and trailer, and the index that it means; after gitformat-index, "THE GIT INDEX FILE HAS THE FOLLOWING FORMAT", and 01.
-- n is the length of an id. Assumes nothing.
use Rattle.std.specs.Prelude.{ℕ, ◌+◌, ◌-◌, ◌≤◌, ◌≡◌, Bool, true, false, List, [], ◌∷◌, ◌++◌, length, take, drop}
use Rattle.std.proofs.Math.Option.{Option, none, some}
use Rattle.grammar.specs.Number.{big_endian, BigEndian}
use Rattle.grammar.specs.Entry.{Meaning, start, Entries}
use Rattle.grammar.specs.Extension.{Ext, sdir, TREE, Extensions, NoneSigned, LastSigned}
use Rattle.grammar.specs.Tree.{Tree, Node}

-- ---- THE MEANING

pub record Index : Type 0 where
  pub version : ℕ
  pub sparse : Bool
  pub entries : List Meaning
  pub tree : Option Tree

-- ---- THE HEADER: "A 12-byte header"

-- "DIRC"
abbrev pub DIRC : List ℕ
DIRC = 68 ∷ 73 ∷ 82 ∷ 67 ∷ []

abbrev pub header_length : ℕ
header_length = 12

-- "The current supported versions are 2, 3 and 4."
pub record Supported (version : ℕ) : Type 0 where
  pub oldest : 2 ≤ version
  pub newest : version ≤ 4

-- "The signature is { 'D', 'I', 'R', 'C' }", "4-byte version number", "32-bit number of index entries"
pub data Header : List ℕ → ℕ → ℕ → Type 0 where
  header : {v c : List ℕ} {version count : ℕ} → BigEndian 4 v version → Supported version → BigEndian 4 c count → Header (DIRC ++ (v ++ c)) version count

-- ---- THE MARK: "one entry of kept mode octal 040000, or `sdir`, makes the index sparse"

abbrev pub directory_mode : ℕ
directory_mode = 0o40000

-- one of a list
pub data Some {A : Type 0} (P : A → Type 0) : List A → Type 0 where
  this : {a : A} {l : List A} → P a → Some P (a ∷ l)
  other : {a : A} {l : List A} → Some P l → Some P (a ∷ l)

pub data Sparse (ms : List Meaning) (es : List Ext) : Type 0 where
  by_entry : Some (λ (m : Meaning). m.stat.mode ≡ directory_mode) ms → Sparse ms es
  by_sdir : Some (λ (e : Ext). e.signature ≡ sdir) es → Sparse ms es

-- a mark tells whether something is so
pub data Tells (P : Type 0) : Bool → Type 0 where
  it_is : P → Tells P true
  it_is_not : (P → ⊥) → Tells P false

-- ---- THE TREE: "If a file has several TREEs only the last counts. A malformed one means "no tree", and the file is still read."; "nothing follows the root"

-- of extensions that begin at a place
pub data CacheTree (n at : ℕ) (es : List Ext) : Option Tree → Type 0 where
  spelled : {place : ℕ} {body : List ℕ} {t : Tree} → LastSigned TREE at es place body → Node n place body t → CacheTree n at es (some t)
  malformed : {place : ℕ} {body : List ℕ} → LastSigned TREE at es place body → ((t : Tree) → Node n place body t → ⊥) → CacheTree n at es none
  absent : NoneSigned TREE es → CacheTree n at es none

-- ---- THE FILE: "Entries occupy bytes from 12 on and may not reach into the last 20."

-- "Hash checksum over the content of the index file before this checksum": here only as many bytes as an id has, the claims say more of them
pub record Trailer (n : ℕ) (b : List ℕ) : Type 0 where
  pub size : length b ≡ n

pub data File (n : ℕ) : List ℕ → Index → Type 0 where
  file : {h b c trailer : List ℕ} {version count : ℕ} {ms : List Meaning} {es : List Ext} {sparse : Bool} {tree : Option Tree}
      → Header h version count → Entries n version start count b ms → Extensions c es → Trailer n trailer
      → Tells (Sparse ms es) sparse → CacheTree n (header_length + length b) es tree
      → File n (h ++ (b ++ (c ++ trailer))) (record { version = version; sparse = sparse; entries = ms; tree = tree })

-- ---- PREMISES of the claims, at the places of a file

-- the version and the count, where they stand
abbrev pub version_of : List ℕ → ℕ
version_of xs = big_endian (take 4 (drop 4 xs))

abbrev pub count_of : List ℕ → ℕ
count_of xs = big_endian (take 4 (drop 8 xs))

-- the bytes between header and trailer
abbrev pub space : ℕ → List ℕ → List ℕ
space n xs = drop header_length (take (length xs - n) xs)

-- "under 32 bytes", "not "DIRC"" and "version not 2, 3, 4" are none of them so
pub record GoodHeader (n : ℕ) (xs : List ℕ) : Type 0 where
  pub long : header_length + n ≤ length xs
  pub signature : take 4 xs ≡ DIRC
  pub version : Supported (version_of xs)
