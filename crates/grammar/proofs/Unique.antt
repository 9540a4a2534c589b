-- The grammar spells at most one meaning: of a list of bytes that begins with an entry, with so many entries, with an extension, with a node, and of a whole file; and a
-- list is a file exactly if what decides says so. Assumes nothing.
use Rattle.std.specs.Prelude.{ℕ, max, ◌≡◌, refl, List, ◌↔◌}
use Rattle.std.proofs.Common.{subst, arith}
use Rattle.std.proofs.Math.Option.{Option, some, none as nothing}
use Rattle.laws.specs.Read.{Begins, unique}
use Rattle.laws.specs.Fill.{fill_unique}
use Rattle.grammar.specs.Number.{VariableWidth}
use Rattle.grammar.specs.Entry.{Before, Entry, Entries}
use Rattle.grammar.specs.Extension.{Ext, Framed, Extension, Extensions}
use Rattle.grammar.specs.Tree.{depth, NodeHead, Node}
use Rattle.grammar.specs.File.{Index, File}
use Rattle.grammar.specs.DecideNumber.{variable_reads, Whole, means, nothing_said}
use Rattle.grammar.proofs.DecideEntry.{entry_reads, entries_reads}
use Rattle.grammar.proofs.DecideExtension.{framed_reads, extension_reads, extension_some}
use Rattle.grammar.proofs.DecideTree.{head_reads, node_reads}
pub use Rattle.grammar.proofs.DecideTree.{tree_unique}
use Rattle.grammar.proofs.DecideFile.{read_file, file_says, file_complete}
pub use Rattle.grammar.proofs.DecideFile.{cache_tree_unique}

-- v and w are spelled by the same first bytes of xs, and mean the same
abbrev pub SameMeaning : {A : Type 0} (R : List ℕ → A → Type 0) → Type 0
SameMeaning {A} R = (xs : List ℕ) (v w : A) (r s : List ℕ) (x : Begins R xs v r) (y : Begins R xs w s) → (v ≡ w) × (r ≡ s) × (x.0 ≡ y.0)

pub number_unique : SameMeaning VariableWidth
number_unique = unique variable_reads

pub entry_unique : (n version : ℕ) (before : Before) → SameMeaning (Entry n version before)
entry_unique n version before = unique (entry_reads n version before)

pub entries_unique : (n version : ℕ) (before : Before) (count : ℕ) → SameMeaning (Entries n version before count)
entries_unique n version before count = unique (entries_reads n version before count)

pub framed_unique : SameMeaning Framed
framed_unique = unique framed_reads

pub extension_unique : SameMeaning Extension
extension_unique = unique extension_reads

pub extensions_unique : (xs : List ℕ) (es fs : List Ext) → Extensions xs es → Extensions xs fs → es ≡ fs
extensions_unique = fill_unique extension_reads extension_some

pub head_unique : (n : ℕ) → SameMeaning (NodeHead n)
head_unique n = unique (head_reads n)

pub node_unique : (n place : ℕ) → SameMeaning (Node n place)
node_unique n place xs t u r s (b, i, x) (c, j, y) =
    unique (node_reads n (max (depth t) (depth u)) place) xs t u r s (b, i, record { is = x; within = omega arith }) (c, j, record { is = y; within = omega arith })

-- ---- THE FILE

pub one_meaning : (n : ℕ) (xs : List ℕ) (m o : Index) → File n xs m → File n xs o → m ≡ o
one_meaning n xs m o x y =
    let f : read_file n xs ≡ some m = file_complete x in
    let g : read_file n xs ≡ some o = file_complete y in
    cc

pub file_decided : (n : ℕ) (xs : List ℕ) (m : Index) → (read_file n xs ≡ some m) ↔ File n xs m
file_decided n xs m = (of (file_says n xs), file_complete)
  where
    of : {o : Option Index} → Whole (File n xs) o → o ≡ some m → File n xs m
    of nothing_said e = let z : ◌≡◌ {A = ℕ} 0 1 = cc in absurd (omega arith)
    of (means {v = v} x) e = let f : v ≡ m = cc in subst (File n xs) f x

pub no_file_decided : (n : ℕ) (xs : List ℕ) → (read_file n xs ≡ nothing) ↔ ((m : Index) → ¬ File n xs m)
no_file_decided n xs = ((λ e m x. let f = file_complete x in let z : ◌≡◌ {A = ℕ} 0 1 = cc in omega arith), of (file_says n xs))
  where
    of : {o : Option Index} → Whole (File n xs) o → ((m : Index) → ¬ File n xs m) → o ≡ nothing
    of nothing_said k = refl
    of (means {v = v} x) k = absurd (k v x)
