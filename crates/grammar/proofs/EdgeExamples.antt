-- Files at the edge of one rule each, with what they mean, and beside them files one step over it: the mark by an entry's mode, a number in groups above
-- 2^64 - 1, "+" before a count, and the first bytes that make an extension optional (01, "How an entry is spelled" and "Extensions"; 02, A4). Each holds by computing
-- what decides. Assumes nothing.
use Rattle.std.specs.Prelude.{ℕ, refl, Bool, true, false, List, [], ◌∷◌, ◌++◌, replicate}
use Rattle.std.proofs.Math.Option.{some, none}
use Rattle.grammar.specs.Number.{covers}
use Rattle.grammar.specs.Entry.{meaning}
use Rattle.grammar.specs.Extension.{TREE}
use Rattle.grammar.specs.Tree.{tree, childless}
use Rattle.grammar.specs.File.{Index, File}
use Rattle.grammar.proofs.Unique.{file_decided, no_file_decided}
use Rattle.grammar.proofs.Examples.{decided, header, fixed, kept, extension, trailer, entry_a, index, NoFile}

-- ---- "one entry of kept mode octal 040000, or `sdir`, makes the index sparse"

-- the path "a", with a mode of four bytes
abbrev moded : List ℕ → List ℕ
moded mode = header 2 1 ++ ((replicate 24 0 ++ (mode ++ (replicate 12 0 ++ replicate 20 3))) ++ ((0 ∷ 1 ∷ 97 ∷ 7 ∷ []) ++ trailer))

abbrev means_mode : Bool → ℕ → Index
means_mode sparse mode =
    record {
      version = 2;
      sparse = sparse;
      entries = meaning (record { ctime = 0; ctime_nanos = 0; mtime = 0; mtime_nanos = 0; dev = 0; ino = 0; mode = mode; uid = 0; gid = 0; size = 0 }) (replicate 20 3) 0 (97 ∷ []) ∷ [];
      tree = none;
    }

pub a_directory_is_sparse : File 20 (moded (0 ∷ 0 ∷ 64 ∷ 0 ∷ [])) (means_mode true 0o40000)
unfolding decided
a_directory_is_sparse = (file_decided 20 _ _).0 refl

-- what is kept counts: bits 1 and 4 and those above 15 are dropped
pub dropped_bits_do_not_count : File 20 (moded (255 ∷ 255 ∷ 64 ∷ 18 ∷ [])) (means_mode true 0o40000)
unfolding decided
dropped_bits_do_not_count = (file_decided 20 _ _).0 refl

-- bit 0 is kept
pub another_kept_bit_is_no_directory : File 20 (moded (0 ∷ 0 ∷ 64 ∷ 1 ∷ [])) (means_mode false 0o40001)
unfolding decided
another_kept_bit_is_no_directory = (file_decided 20 _ _).0 refl

-- ---- "A value above 2^64 - 1 spoils the entry", though "the first entry's number is read and ignored"

abbrev strips : List ℕ → List ℕ
strips groups = header 4 1 ++ (fixed ++ ((0 ∷ 0 ∷ []) ++ (groups ++ ((97 ∷ 0 ∷ []) ++ trailer))))

-- 2^64 - 1
pub greatest_strip : File 20 (strips (128 ∷ 254 ∷ 254 ∷ 254 ∷ 254 ∷ 254 ∷ 254 ∷ 254 ∷ 254 ∷ 127 ∷ [])) (index 4 (kept 0 (97 ∷ []) ∷ []) none)
unfolding decided
greatest_strip = (file_decided 20 _ _).0 refl

-- 2^64
pub strip_above : NoFile (strips (128 ∷ 254 ∷ 254 ∷ 254 ∷ 254 ∷ 254 ∷ 254 ∷ 254 ∷ 255 ∷ 0 ∷ []))
unfolding decided
strip_above = (no_file_decided 20 _).0 refl

-- ---- "+" may stand before the count, and not before the number of subtrees

abbrev counted : List ℕ → List ℕ
counted numbers = header 2 1 ++ (entry_a ++ (extension TREE ((0 ∷ []) ++ (numbers ++ (10 ∷ replicate 20 5))) ++ trailer))

-- "+7 0"
pub plus_counts : File 20 (counted (43 ∷ 55 ∷ 32 ∷ 48 ∷ [])) (index 2 (kept 0 (97 ∷ []) ∷ []) (some (tree 84 [] (covers 7) (replicate 20 5) childless)))
unfolding decided
plus_counts = (file_decided 20 _ _).0 refl

-- "7 +0", "+ 0" and "+-7 0" are no tree, and the file is still read
pub plus_on_subtrees : File 20 (counted (55 ∷ 32 ∷ 43 ∷ 48 ∷ [])) (index 2 (kept 0 (97 ∷ []) ∷ []) none)
unfolding decided
plus_on_subtrees = (file_decided 20 _ _).0 refl

pub plus_alone : File 20 (counted (43 ∷ 32 ∷ 48 ∷ [])) (index 2 (kept 0 (97 ∷ []) ∷ []) none)
unfolding decided
plus_alone = (file_decided 20 _ _).0 refl

pub plus_minus : File 20 (counted (43 ∷ 45 ∷ 55 ∷ 32 ∷ 48 ∷ [])) (index 2 (kept 0 (97 ∷ []) ∷ []) none)
unfolding decided
plus_minus = (file_decided 20 _ _).0 refl

-- ---- "every first byte outside 65 to 90 makes the extension mandatory" (02, A4)

abbrev signed : ℕ → List ℕ
signed first = header 2 1 ++ (entry_a ++ (extension (first ∷ 82 ∷ 69 ∷ 69 ∷ []) (1 ∷ 2 ∷ []) ++ trailer))

-- "A" and "Z"
pub optional_at_A : File 20 (signed 65) (index 2 (kept 0 (97 ∷ []) ∷ []) none)
unfolding decided
optional_at_A = (file_decided 20 _ _).0 refl

pub optional_at_Z : File 20 (signed 90) (index 2 (kept 0 (97 ∷ []) ∷ []) none)
unfolding decided
optional_at_Z = (file_decided 20 _ _).0 refl

-- "@" and "["
pub mandatory_before_A : NoFile (signed 64)
unfolding decided
mandatory_before_A = (no_file_decided 20 _).0 refl

pub mandatory_behind_Z : NoFile (signed 91)
unfolding decided
mandatory_behind_Z = (no_file_decided 20 _).0 refl

-- "0", "_", NUL and 255
pub mandatory_digit : NoFile (signed 48)
unfolding decided
mandatory_digit = (no_file_decided 20 _).0 refl

pub mandatory_underscore : NoFile (signed 95)
unfolding decided
mandatory_underscore = (no_file_decided 20 _).0 refl

pub mandatory_NUL : NoFile (signed 0)
unfolding decided
mandatory_NUL = (no_file_decided 20 _).0 refl

pub mandatory_of_ones : NoFile (signed 255)
unfolding decided
mandatory_of_ones = (no_file_decided 20 _).0 refl

-- "a" and "z"
pub mandatory_at_small_a : NoFile (signed 97)
unfolding decided
mandatory_at_small_a = (no_file_decided 20 _).0 refl

pub mandatory_at_small_z : NoFile (signed 122)
unfolding decided
mandatory_at_small_z = (no_file_decided 20 _).0 refl
