-- THE LIST OF EXTENSIONS: how long their bytes are, for every list whose signatures have four bytes; and what the list of TREE and `sdir` comes to, part by part.
-- A further extension is a further member of `extensions_for`. Assumes nothing.
use Rattle.std.specs.Prelude.{ℕ, ◌+◌, Bool, true, false, ◌≡◌, refl, List, [], ◌∷◌, ◌++◌, length}
use Rattle.std.proofs.Common.{ap, ◌∙◌, append-nil, arith, length-append}
use Rattle.laws.specs.Pick.{pick}
use Rattle.write.specs.File.{extension_head, tree_signature, sparse_signature, Extension, extensions_for, extensions_of, extensions_size, contents, tree_head, sparse_part, heads_of, head_size}
use Rattle.write.specs.Parts.{length-head}

-- ---- over any list

-- each signature has four bytes
pub data Signed : List Extension → Type 0 where
  none_left : Signed []
  one_signed : {e : Extension} {es : List Extension} → length e.signature ≡ 4 → Signed es → Signed (e ∷ es)

-- so the bytes are as many as their sizes and eight for each say
pub length-extensions : {es : List Extension} → Signed es → length (extensions_of es) ≡ extensions_size es
unfolding extensions_of extensions_size
length-extensions none_left = refl
length-extensions (one_signed {e = e} {es = es} l rest) =
    let h : List ℕ = extension_head e.signature (length e.body) in
    omega (arith, length-append (h ++ e.body) (extensions_of es), length-append h e.body, length-head e.signature (length e.body) l, length-extensions rest)

-- ---- TREE and `sdir`

pub signed_for : (writes : Bool) (tree : List ℕ) (sparse : Bool) → Signed (extensions_for writes tree sparse)
signed_for true tree true = one_signed refl (one_signed refl none_left)
signed_for true tree false = one_signed refl none_left
signed_for false tree true = one_signed refl none_left
signed_for false tree false = none_left

pub size_for : (writes : Bool) (tree : List ℕ) (sparse : Bool) → extensions_size (extensions_for writes tree sparse) ≡ head_size writes + length (pick writes tree []) + head_size sparse
unfolding extensions_size head_size
size_for true tree true = omega arith
size_for true tree false = omega arith
size_for false tree true = refl
size_for false tree false = refl

pub bytes_for : (writes : Bool) (tree : List ℕ) (sparse : Bool)
    → extensions_of (extensions_for writes tree sparse) ≡ (tree_head writes (length (pick writes tree [])) ++ pick writes tree []) ++ sparse_part sparse
unfolding extensions_of tree_head sparse_part
bytes_for true tree true =
    ap (λ (l : List ℕ). (extension_head tree_signature (length tree) ++ tree) ++ l) (append-nil (extension_head sparse_signature 0 ++ []) ∙ append-nil (extension_head sparse_signature 0))
bytes_for true tree false = refl
bytes_for false tree true = append-nil (extension_head sparse_signature 0 ++ []) ∙ append-nil (extension_head sparse_signature 0)
bytes_for false tree false = refl

pub contents_for : (writes : Bool) (tree : List ℕ) (sparse : Bool) → contents (extensions_for writes tree sparse) ≡ heads_of writes (length (pick writes tree [])) sparse
unfolding contents heads_of tree_head sparse_part
contents_for true tree true = ap (λ (l : List ℕ). extension_head tree_signature (length tree) ++ l) (append-nil (extension_head sparse_signature 0))
contents_for true tree false = refl
contents_for false tree true = append-nil (extension_head sparse_signature 0)
contents_for false tree false = refl
