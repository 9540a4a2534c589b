-- Files that are spelled, with what they mean, and files that nearly are and are not; a file of each version has a TREE. Each holds by computing what decides. Assumes nothing.
use Rattle.std.specs.Prelude.{ℕ, ◌+◌, refl, true, false, List, [], ◌∷◌, ◌++◌, length, replicate}
use Rattle.std.proofs.Math.Option.{Option, some, none}
use Rattle.laws.specs.Order.{compared}
use Rattle.laws.specs.Times.{read_times}
use Rattle.laws.specs.Fill.{read_fill}
use Rattle.grammar.specs.Number.{covers, invalid}
use Rattle.grammar.specs.Entry.{Stat, Meaning, meaning}
use Rattle.grammar.specs.Extension.{sdir, TREE}
use Rattle.grammar.specs.Tree.{Tree, tree, childless, beside}
use Rattle.grammar.specs.File.{Index, DIRC, File}
use Rattle.grammar.specs.DecideNumber.{read_bytes, read_big, read_groups, read_variable, read_until, more_digits, read_digits, read_unsigned, read_signed}
use Rattle.grammar.proofs.DecideEntry.{read_words, read_fields, read_flags, read_counted, read_to_nul, read_compressed, read_name, read_entry, read_entries}
use Rattle.grammar.proofs.DecideExtension.{same_list, read_framed, is_optional, allowed, read_extension, read_extensions, read_last}
use Rattle.grammar.proofs.DecideTree.{read_id, read_head, other_names, distinct, read_nodes, read_node, read_tree}
use Rattle.grammar.proofs.DecideFile.{read_header, any_of, sparse_of, read_cache_tree, read_file}
use Rattle.grammar.proofs.Unique.{file_decided, no_file_decided}

-- all that decides, open
unfoldable pub decided : List ℕ → Option Index
unfolding compared read_times read_fill read_bytes read_big read_groups read_variable read_until more_digits read_digits read_unsigned read_signed read_words read_fields read_flags read_counted read_to_nul read_compressed read_name read_entry read_entries same_list read_framed is_optional allowed read_extension read_extensions read_last read_id read_head other_names distinct read_nodes read_node read_tree read_header any_of sparse_of read_cache_tree read_file
decided = read_file 20

-- ---- parts of the files

abbrev pub header : ℕ → ℕ → List ℕ
header version count = DIRC ++ (0 ∷ 0 ∷ 0 ∷ version ∷ 0 ∷ 0 ∷ 0 ∷ count ∷ [])

-- 24 bytes, a mode of which some bits are dropped, 12 bytes, and an id
abbrev pub fixed : List ℕ
fixed = replicate 24 0 ++ ((255 ∷ 255 ∷ 129 ∷ 164 ∷ []) ++ (replicate 12 0 ++ replicate 20 3))

abbrev stat : Stat
stat = record { ctime = 0; ctime_nanos = 0; mtime = 0; mtime_nanos = 0; dev = 0; ino = 0; mode = 0o100644; uid = 0; gid = 0; size = 0 }

abbrev pub kept : ℕ → List ℕ → Meaning
kept flags path = meaning stat (replicate 20 3) flags path

abbrev pub extension : List ℕ → List ℕ → List ℕ
extension signature body = signature ++ (0 ∷ 0 ∷ 0 ∷ length body ∷ body)

-- a root without a name, "2 1", an id, and in it "a", "-1 0"
abbrev pub two_nodes : List ℕ
two_nodes = 0 ∷ 50 ∷ 32 ∷ 49 ∷ 10 ∷ (replicate 20 5 ++ (97 ∷ 0 ∷ 45 ∷ 49 ∷ 32 ∷ 48 ∷ 10 ∷ []))

abbrev pub two_nodes_at : ℕ → Tree
two_nodes_at place = tree place [] (covers 2) (replicate 20 5) (beside (tree (place + 25) (97 ∷ []) invalid [] childless) childless)

abbrev pub trailer : List ℕ
trailer = replicate 20 0

-- "a": one byte of padding, a 7
abbrev pub entry_a : List ℕ
entry_a = fixed ++ (0 ∷ 1 ∷ 97 ∷ 7 ∷ [])

abbrev pub index : ℕ → List Meaning → Option Tree → Index
index version entries root = record { version = version; sparse = false; entries = entries; tree = root }

-- ---- FILES THAT ARE SPELLED

pub version_2 : File 20 (header 2 1 ++ (entry_a ++ (extension TREE two_nodes ++ trailer))) (index 2 (kept 0 (97 ∷ []) ∷ []) (some (two_nodes_at 84)))
unfolding decided
version_2 = (file_decided 20 _ _).0 refl

-- "exhibit" with both extended bits; a root alone, "-0 00", whose id follows; and an empty `sdir`
abbrev exhibit : List ℕ
exhibit = 101 ∷ 120 ∷ 104 ∷ 105 ∷ 98 ∷ 105 ∷ 116 ∷ []

abbrev minus_zero : List ℕ
minus_zero = 0 ∷ 45 ∷ 48 ∷ 32 ∷ 48 ∷ 48 ∷ 10 ∷ replicate 20 6

pub version_3 : File 20 (header 3 1 ++ (fixed ++ ((64 ∷ 7 ∷ 96 ∷ 0 ∷ exhibit) ++ ((9 ∷ []) ++ (extension TREE minus_zero ++ (extension sdir [] ++ trailer))))))
    (record { version = 3; sparse = true; entries = kept 0x60004000 exhibit ∷ []; tree = some (tree 92 [] (covers 0) (replicate 20 6) childless) })
unfolding decided
version_3 = (file_decided 20 _ _).0 refl

-- "exhibit/pair", and then strip 3, "ear"; of two TREEs the last counts, which has the name's place of its own
abbrev exhibit_pair : List ℕ
exhibit_pair = exhibit ++ (47 ∷ 112 ∷ 97 ∷ 105 ∷ 114 ∷ [])

abbrev exhibit_pear : List ℕ
exhibit_pear = exhibit ++ (47 ∷ 112 ∷ 101 ∷ 97 ∷ 114 ∷ [])

-- the first strips 9 of nothing, and that is ignored
abbrev compressed : ℕ → List ℕ
compressed strip = fixed ++ ((0 ∷ 12 ∷ 9 ∷ exhibit_pair) ++ (0 ∷ (fixed ++ (0 ∷ 0 ∷ strip ∷ 101 ∷ 97 ∷ 114 ∷ 0 ∷ []))))

abbrev one_node : List ℕ
one_node = 0 ∷ 53 ∷ 32 ∷ 48 ∷ 10 ∷ replicate 20 4

pub version_4 : File 20 (header 4 2 ++ (compressed 3 ++ (extension TREE one_node ++ (extension TREE two_nodes ++ trailer))))
    (index 4 (kept 0 exhibit_pair ∷ kept 0 exhibit_pear ∷ []) (some (two_nodes_at 196)))
unfolding decided
version_4 = (file_decided 20 _ _).0 refl

-- 32 bytes, no entry
pub least_file : File 20 (header 2 0 ++ trailer) (index 2 [] none)
unfolding decided
least_file = (file_decided 20 _ _).0 refl

-- field 4095 and the path "ab", which its first NUL ends; seven bytes of any value follow
pub path_to_nul : File 20 (header 2 1 ++ (fixed ++ ((15 ∷ 255 ∷ 97 ∷ 98 ∷ 0 ∷ 1 ∷ 2 ∷ 3 ∷ 4 ∷ 5 ∷ 6 ∷ 7 ∷ []) ++ trailer))) (index 2 (kept 0 (97 ∷ 98 ∷ []) ∷ []) none)
unfolding decided
path_to_nul = (file_decided 20 _ _).0 refl

-- strip 12 keeps nothing of "exhibit/pair"
pub strip_all : File 20 (header 4 2 ++ (compressed 12 ++ trailer)) (index 4 (kept 0 exhibit_pair ∷ kept 0 (101 ∷ 97 ∷ 114 ∷ []) ∷ []) none)
unfolding decided
strip_all = (file_decided 20 _ _).0 refl

-- a root "2 2" and in it two nodes, each "-1 0"
abbrev siblings : ℕ → ℕ → List ℕ
siblings a b = 0 ∷ 50 ∷ 32 ∷ 50 ∷ 10 ∷ (replicate 20 5 ++ (a ∷ 0 ∷ 45 ∷ 49 ∷ 32 ∷ 48 ∷ 10 ∷ b ∷ 0 ∷ 45 ∷ 49 ∷ 32 ∷ 48 ∷ 10 ∷ []))

pub other_siblings : File 20 (header 2 1 ++ (entry_a ++ (extension TREE (siblings 97 98) ++ trailer)))
    (index 2 (kept 0 (97 ∷ []) ∷ [])
    (some (tree 84 [] (covers 2) (replicate 20 5) (beside (tree 109 (97 ∷ []) invalid [] childless) (beside (tree 116 (98 ∷ []) invalid [] childless) childless)))))
unfolding decided
other_siblings = (file_decided 20 _ _).0 refl

-- ---- FILES WHOSE TREE IS NONE

pub equal_siblings : File 20 (header 2 1 ++ (entry_a ++ (extension TREE (siblings 97 97) ++ trailer))) (index 2 (kept 0 (97 ∷ []) ∷ []) none)
unfolding decided
equal_siblings = (file_decided 20 _ _).0 refl

-- the first TREE is a tree, and the last is not
pub first_tree_does_not_count : File 20 (header 2 1 ++ (entry_a ++ (extension TREE two_nodes ++ (extension TREE (1 ∷ []) ++ trailer)))) (index 2 (kept 0 (97 ∷ []) ∷ []) none)
unfolding decided
first_tree_does_not_count = (file_decided 20 _ _).0 refl

-- a byte behind the root
pub byte_behind_the_root : File 20 (header 2 1 ++ (entry_a ++ (extension TREE (two_nodes ++ (0 ∷ [])) ++ trailer))) (index 2 (kept 0 (97 ∷ []) ∷ []) none)
unfolding decided
byte_behind_the_root = (file_decided 20 _ _).0 refl

-- ---- FILES THAT ARE NOT SPELLED

abbrev pub NoFile : List ℕ → Type 0
NoFile xs = (m : Index) → ¬ File 20 xs m

-- 31 bytes
pub too_short : NoFile (header 2 0 ++ replicate 19 0)
unfolding decided
too_short = (no_file_decided 20 _).0 refl

pub version_5 : NoFile (header 5 0 ++ trailer)
unfolding decided
version_5 = (no_file_decided 20 _).0 refl

-- "ab" ends the entry at 64 bytes, a multiple of 8, with 0 bytes of padding
pub no_padding : NoFile (header 2 1 ++ (fixed ++ ((0 ∷ 2 ∷ 97 ∷ 98 ∷ []) ++ trailer)))
unfolding decided
no_padding = (no_file_decided 20 _).0 refl

pub no_padding_before_extensions : NoFile (header 2 1 ++ (fixed ++ ((0 ∷ 2 ∷ 97 ∷ 98 ∷ []) ++ (extension TREE two_nodes ++ trailer))))
unfolding decided
no_padding_before_extensions = (no_file_decided 20 _).0 refl

-- the entry of version 3 with other extended bits
abbrev marked : ℕ → ℕ → List ℕ
marked high low = header 3 1 ++ (fixed ++ ((64 ∷ 7 ∷ high ∷ low ∷ exhibit) ++ ((9 ∷ []) ++ trailer)))

pub extended_bit_8000 : NoFile (marked 128 0)
unfolding decided
extended_bit_8000 = (no_file_decided 20 _).0 refl

pub extended_bit_0001 : NoFile (marked 0 1)
unfolding decided
extended_bit_0001 = (no_file_decided 20 _).0 refl

pub stray_byte : NoFile (header 2 1 ++ (entry_a ++ (extension TREE two_nodes ++ ((0 ∷ []) ++ trailer))))
unfolding decided
stray_byte = (no_file_decided 20 _).0 refl

-- "link", and an `sdir` that is not empty
pub mandatory_extension : NoFile (header 2 1 ++ (entry_a ++ (extension (108 ∷ 105 ∷ 110 ∷ 107 ∷ []) [] ++ trailer)))
unfolding decided
mandatory_extension = (no_file_decided 20 _).0 refl

pub full_sdir : NoFile (header 2 1 ++ (entry_a ++ (extension sdir (0 ∷ []) ++ trailer)))
unfolding decided
full_sdir = (no_file_decided 20 _).0 refl

-- 13 bytes cannot be stripped of "exhibit/pair"
pub strip_one_too_many : NoFile (header 4 2 ++ (compressed 13 ++ trailer))
unfolding decided
strip_one_too_many = (no_file_decided 20 _).0 refl
