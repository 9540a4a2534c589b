-- What the writer writes behind the entries is spelled by the grammar as extensions: TREE, `sdir` and EOIE, those that are there, in this order. Assumes nothing.
use Rattle.std.specs.Prelude.{ℕ, ◌+◌, ◌^◌, ◌<◌, ◌≡◌, refl, Bool, true, false, List, [], ◌∷◌, ◌++◌, length, get_or}
use Rattle.std.proofs.Common.{sym, ap, ◌∙◌, subst, append_assoc, append-nil, arith, lit<, lit≤, length-append}
use Rattle.laws.specs.Pick.{pick}
use Rattle.laws.specs.Fill.{Fill, done, more}
use Rattle.wire.specs.BigEndian.{bytes_of, length-bytes}
use Rattle.kind.specs.Kind.{Kind}
use Rattle.grammar.specs.Extension.{Ext, ext, Framed, framed, Optional, sdir, TREE, Allowed, optional, empty_sdir, Extension, Extensions, NoneSigned, none_left, another, LastSigned, last_signed}
use Rattle.grammar.specs.File.{Some, this, other, Tells, it_is, it_is_not}
use Rattle.claims_extension.specs.Said.{HasSdir}
use Rattle.write.specs.File.{Extension as Written, extension_head, extensions_for, extensions_of, eoie_part}
use Rattle.claims_write.specs.Entries.{big}

-- ---- THE MEANING

-- "EOIE"
abbrev pub EOIE : List ℕ
EOIE = 69 ∷ 79 ∷ 73 ∷ 69 ∷ []

-- the extensions of a file: TREE with its body, `sdir`, and EOIE with its body, each if it is there
abbrev pub extensions_meant : Bool → List ℕ → Bool → Bool → List ℕ → List Ext
extensions_meant writes tree sparse has body = pick writes (ext TREE tree ∷ []) [] ++ (pick sparse (ext sdir [] ∷ []) [] ++ pick has (ext EOIE body ∷ []) [])

-- ---- each of them

fill_append : {b c : List ℕ} {vs ws : List Ext} → Fill Extension b vs → Fill Extension c ws → Fill Extension (b ++ c) (vs ++ ws)
fill_append done y = y
fill_append {c = d} (more {b = b} {c = c} x t) y = rw (append_assoc b c d) (more x (fill_append t y))

one : {b : List ℕ} {e : Ext} → Extension b e → Fill Extension b (e ∷ [])
one {b} {e} x = subst (λ (c : List ℕ). Fill Extension c (e ∷ [])) (append-nil b) (more x done)

framed_here : (signature body : List ℕ) → length signature ≡ 4 → length body < 2 ^ 32 → Framed (extension_head signature (length body) ++ body) (ext signature body)
unfolding extension_head
framed_here signature body l h = rw (append_assoc signature (bytes_of 4 (length body)) body) (framed l (big 4 (length body) h))

TREE-optional : Optional TREE
TREE-optional = record { least = lit≤ tt; most = lit≤ tt }

EOIE-optional : Optional EOIE
EOIE-optional = record { least = lit≤ tt; most = lit≤ tt }

-- what a written extension means
abbrev meant : Written → Ext
meant e = ext e.signature e.body

abbrev meanings : List Written → List Ext
meanings [] = []
meanings (e ∷ es) = meant e ∷ meanings es

-- extensions that may stand there and whose size has four bytes
data Sound : List Written → Type 0 where
  no_other : Sound []
  one_sound : {e : Written} {es : List Written} → length e.signature ≡ 4 → length e.body < 2 ^ 32 → Allowed (meant e) → Sound es → Sound (e ∷ es)

-- each list of them is spelled
list_spelled : {es : List Written} → Sound es → Fill Extension (extensions_of es) (meanings es)
unfolding extensions_of
list_spelled no_other = done
list_spelled (one_sound {e = e} l h allowed rest) = more (record { is_framed = framed_here e.signature e.body l h; is_allowed = allowed }) (list_spelled rest)

-- TREE and `sdir` are sound
sound_for : (writes : Bool) (tree : List ℕ) (sparse : Bool) → (writes ≡ true → length tree < 2 ^ 32) → Sound (extensions_for writes tree sparse)
sound_for true tree true h = one_sound refl (h refl) (optional TREE-optional) (one_sound refl (lit< tt) empty_sdir no_other)
sound_for true tree false h = one_sound refl (h refl) (optional TREE-optional) no_other
sound_for false tree true h = one_sound refl (lit< tt) empty_sdir no_other
sound_for false tree false h = no_other

meanings_for : (writes : Bool) (tree : List ℕ) (sparse : Bool) → meanings (extensions_for writes tree sparse) ≡ pick writes (ext TREE tree ∷ []) [] ++ pick sparse (ext sdir [] ∷ []) []
meanings_for true tree true = refl
meanings_for true tree false = refl
meanings_for false tree true = refl
meanings_for false tree false = refl

eoie_part_lem : (kind : Kind) (has : Bool) (offset : ℕ) (toc : List ℕ)
    → Fill Extension (eoie_part kind has offset toc) (pick has (ext EOIE (bytes_of 4 offset ++ kind.hash toc) ∷ []) [])
unfolding eoie_part
eoie_part_lem kind false offset toc = done
eoie_part_lem kind true offset toc =
    let body : List ℕ = bytes_of 4 offset ++ kind.hash toc in
    let k : length body ≡ 4 + kind.id = length-append (bytes_of 4 offset) (kind.hash toc) ∙ omega (arith, length-bytes 4 offset, kind.answers toc) in
    let f : Framed (extension_head EOIE (length body) ++ body) (ext EOIE body) = framed_here EOIE body refl (omega (arith, kind.fits)) in
    let e : extension_head EOIE (length body) ++ body ≡ (extension_head EOIE (4 + kind.id) ++ bytes_of 4 offset) ++ kind.hash toc =
    ap (λ (j : ℕ). extension_head EOIE j ++ body) k ∙ sym (append_assoc (extension_head EOIE (4 + kind.id)) (bytes_of 4 offset) (kind.hash toc)) in
    one (record { is_framed = subst (λ (b : List ℕ). Framed b (ext EOIE body)) e f; is_allowed = optional EOIE-optional })

-- ---- all of them

pub extensions_spelled : (kind : Kind) (writes : Bool) (tree : List ℕ) (sparse has : Bool) (offset : ℕ) (toc : List ℕ) → (writes ≡ true → length tree < 2 ^ 32)
    → Extensions (extensions_of (extensions_for writes tree sparse) ++ eoie_part kind has offset toc) (extensions_meant writes tree sparse has (bytes_of 4 offset ++ kind.hash toc))
extensions_spelled kind writes tree sparse has offset toc h =
    let first : Fill Extension (extensions_of (extensions_for writes tree sparse)) (pick writes (ext TREE tree ∷ []) [] ++ pick sparse (ext sdir [] ∷ []) [])
    = subst (Fill Extension (extensions_of (extensions_for writes tree sparse))) (meanings_for writes tree sparse) (list_spelled (sound_for writes tree sparse h)) in
    subst (Extensions (extensions_of (extensions_for writes tree sparse) ++ eoie_part kind has offset toc))
    (append_assoc (pick writes (ext TREE tree ∷ []) []) (pick sparse (ext sdir [] ∷ []) []) (pick has (ext EOIE (bytes_of 4 offset ++ kind.hash toc) ∷ []) []))
    (fill_append first (eoie_part_lem kind has offset toc))

-- ---- the mark

some_length : {P : Ext → Type 0} {es : List Ext} → Some P es → 0 < length es
some_length (this x) = omega arith
some_length (other x) = omega arith

no_more : HasSdir [] → ⊥
no_more x = omega (arith, some_length x)

pub marks_sdir : (writes : Bool) (tree : List ℕ) (sparse has : Bool) (body : List ℕ) → Tells (HasSdir (extensions_meant writes tree sparse has body)) sparse
marks_sdir writes tree sparse has body = go writes sparse has
  where
    skip : {e : Ext} {es : List Ext} {t : Bool} → (e.signature ≡ sdir → ⊥) → Tells (HasSdir es) t → Tells (HasSdir (e ∷ es)) t
    skip d (it_is x) = it_is (other x)
    skip {e} {es} d (it_is_not k) = it_is_not no
      where
        no : HasSdir (e ∷ es) → ⊥
        no (this x) = d x
        no (other x) = k x

    last : (has : Bool) → Tells (HasSdir (pick has (ext EOIE body ∷ []) [])) false
    last false = it_is_not no_more
    last true = skip (λ (e : EOIE ≡ sdir). let z : ◌≡◌ {A = ℕ} 69 115 = ap (λ (l : List ℕ). get_or l 0 0) e in omega arith) (it_is_not no_more)

    middle : (sparse has : Bool) → Tells (HasSdir (pick sparse (ext sdir [] ∷ []) [] ++ pick has (ext EOIE body ∷ []) [])) sparse
    middle false has = last has
    middle true has = it_is (this refl)

    go : (writes sparse has : Bool) → Tells (HasSdir (extensions_meant writes tree sparse has body)) sparse
    go false sparse has = middle sparse has
    go true sparse has = skip (λ (e : TREE ≡ sdir). let z : ◌≡◌ {A = ℕ} 84 115 = ap (λ (l : List ℕ). get_or l 0 0) e in omega arith) (middle sparse has)

-- ---- the tree

-- behind TREE there is no other
none_behind : (sparse has : Bool) (body : List ℕ) → NoneSigned TREE (pick sparse (ext sdir [] ∷ []) [] ++ pick has (ext EOIE body ∷ []) [])
none_behind sparse has body = go sparse has
  where
    last : (has : Bool) → NoneSigned TREE (pick has (ext EOIE body ∷ []) [])
    last false = none_left
    last true = another (λ (e : EOIE ≡ TREE). let z : ◌≡◌ {A = ℕ} 69 84 = ap (λ (l : List ℕ). get_or l 0 0) e in omega arith) none_left

    go : (sparse has : Bool) → NoneSigned TREE (pick sparse (ext sdir [] ∷ []) [] ++ pick has (ext EOIE body ∷ []) [])
    go false has = last has
    go true has = another (λ (e : sdir ≡ TREE). let z : ◌≡◌ {A = ℕ} 115 84 = ap (λ (l : List ℕ). get_or l 0 0) e in omega arith) (last has)

pub last_tree : (at : ℕ) (tree : List ℕ) (sparse has : Bool) (body : List ℕ) → LastSigned TREE at (extensions_meant true tree sparse has body) (at + 8) tree
last_tree at tree sparse has body =
    let l : LastSigned TREE at (extensions_meant true tree sparse has body) (at + 0 + 8) tree
    = last_signed [] {e = ext TREE tree} (pick sparse (ext sdir [] ∷ []) [] ++ pick has (ext EOIE body ∷ []) []) refl refl (none_behind sparse has body) in
    let e : at + 0 + 8 ≡ at + 8 = omega arith in
    subst (λ (j : ℕ). LastSigned TREE at (extensions_meant true tree sparse has body) j tree) e l

pub no_tree : (tree : List ℕ) (sparse has : Bool) (body : List ℕ) → NoneSigned TREE (extensions_meant false tree sparse has body)
no_tree tree sparse has body = none_behind sparse has body
