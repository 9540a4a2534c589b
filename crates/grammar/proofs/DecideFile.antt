-- What decides whether a list of bytes is an index file, after the relations of File. It is no reader of the project: it only settles, for given bytes, whether a relation
-- holds, and so that it holds of one meaning at most. Assumes nothing.
use Rattle.std.specs.Prelude.{ℕ, ◌+◌, ◌-◌, ◌≤◌, ◌<◌, ◌≡◌, refl, Bool, true, false, List, [], ◌∷◌, ◌++◌, leb, eqb, length, take, drop}
use Rattle.std.proofs.Common.{sym, ap, ◌∙◌, subst, append_assoc, arith, length-append, length-drop, take-append-drop, take_at, le-leb}
use Rattle.std.proofs.Math.Option.{Option, some, none as nothing}
use Rattle.laws.specs.Pick.{pick}
use Rattle.laws.specs.Tests.{AtMost, at_most, above, at_most?, Same, same, differs, same?}
use Rattle.laws.specs.Read.{Got, got, none, Says, spelled, refused, next, says_next, says_if_at_most}
use Rattle.laws.specs.Fill.{Filled, filled, broken}
use Rattle.grammar.specs.Number.{BigEndian}
use Rattle.grammar.specs.Entry.{Meaning, start, Entries}
use Rattle.grammar.specs.Extension.{Ext, sdir, TREE, Extensions, LastSigned}
use Rattle.grammar.specs.Tree.{Tree, Node}
use Rattle.grammar.specs.File.{Index, DIRC, header_length, Supported, Header, header, directory_mode, Some, Sparse, by_entry, by_sdir, Tells, it_is, it_is_not, CacheTree, malformed, absent, Trailer, File, file}
use Rattle.grammar.specs.File.Some.{this, other}
use Rattle.grammar.specs.File.CacheTree.{spelled as spells}
use Rattle.grammar.specs.DecideNumber.{big_endian_length, Bytes, bytes, read_bytes, bytes_reads, read_big, big_reads, Whole, means, nothing_said}
use Rattle.grammar.proofs.DecideEntry.{read_entries, entries_reads}
use Rattle.grammar.proofs.DecideExtension.{SameList, same_list_lem, other_list, same_list, same_list?, list_true, read_extensions, extensions_accepts, read_last, SaysLast, last_is, none_is, last_says, none_not_last, last_unique}
use Rattle.grammar.proofs.DecideTree.{read_tree, SaysTree, is_tree, no_tree, tree_says, tree_unique}

-- ---- the header

data HeaderOf : List ℕ → ℕ × ℕ → Type 0 where
  header_of_lem : {b : List ℕ} {version count : ℕ} → Header b version count → HeaderOf b (version, count)

the_header : {b : List ℕ} {v : ℕ × ℕ} → HeaderOf b v → Header b v.0 v.1
the_header (header_of_lem x) = x

unfoldable pub read_header : List ℕ → Got (ℕ × ℕ)
read_header xs =
    next (read_bytes 4 xs) (λ s r. pick (same_list s DIRC) (next (read_big 4 r) (λ v q. pick (leb 2 v) (pick (leb v 4) (next (read_big 4 q) (λ c t. got (v, c) t)) none) none)) none)

header_says : (xs : List ℕ) → Says HeaderOf xs (read_header xs)
unfolding read_header
header_says xs = says_next ((bytes_reads 4).says xs) (λ b s r i x. go b r i x (same_list? s DIRC))
  where
    of : {a b c s : List ℕ} {v k : ℕ} → Bytes 4 a s → s ≡ DIRC → BigEndian 4 b v → Supported v → BigEndian 4 c k → HeaderOf (a ++ (b ++ c)) (v, k)
    of (bytes h) e y z w = rw e (header_of_lem (header y z w))

    go : {s : List ℕ} (b r : List ℕ) → xs ≡ b ++ r → Bytes 4 b s → {t : Bool} → SameList s DIRC t
        → Says HeaderOf xs (pick t (next (read_big 4 r) (λ v q. pick (leb 2 v) (pick (leb v 4) (next (read_big 4 q) (λ c t. got (v, c) t)) none) none)) none)
    go b r i x (other_list d) = refused
    go b r i x (same_list_lem e) =
        says_next ((big_reads 4).says r) (λ c v q j y. says_if_at_most 2 v (λ h. says_if_at_most v 4 (λ l. says_next ((big_reads 4).says q) (λ d k t m w.
        spelled (b ++ (c ++ d)) (rw (append_assoc, append_assoc, ← m, ← j) i) (of x e y (record { oldest = h; newest = l }) w)))))

header_complete : {b : List ℕ} {v : ℕ × ℕ} → HeaderOf b v → (rest : List ℕ) → read_header (b ++ rest) ≡ got v rest
unfolding read_header
header_complete (header_of_lem (header {v = v} {c = c} {version = version} x y z)) rest =
    rw (append_assoc v c rest, (bytes_reads 4).complete (bytes {b = DIRC} refl) (v ++ (c ++ rest)), list_true {a = DIRC} {b = DIRC} refl, (big_reads 4).complete x (c ++ rest), le-leb 2 version y.oldest, le-leb version 4 y.newest, (big_reads 4).complete z rest)

pub header_length_lem : {b : List ℕ} {version count : ℕ} → Header b version count → length b ≡ header_length
header_length_lem (header {v = v} {c = c} x y z) = omega (arith, big_endian_length x, big_endian_length z, length-append v c)

-- ---- the mark

unfoldable pub any_of : {A : Type 0} → (A → Bool) → List A → Bool
any_of f [] = false
any_of f (a ∷ l) = pick (f a) true (any_of f l)

some_length : {A : Type 0} {P : A → Type 0} {l : List A} → Some P l → 0 < length l
some_length (this x) = omega arith
some_length (other x) = omega arith

any_tells : {A : Type 0} {P : A → Type 0} (f : A → Bool) → ((a : A) → Tells (P a) (f a)) → (l : List A) → Tells (Some P l) (any_of f l)
unfolding any_of
any_tells f tells [] = it_is_not (λ x. omega (arith, some_length x))
any_tells {P = P} f tells (a ∷ l) = go (tells a) (any_tells f tells l)
  where
    neither : (P a → ⊥) → (Some P l → ⊥) → Some P (a ∷ l) → ⊥
    neither d k (this e) = d e
    neither d k (other x) = k x

    go : {t u : Bool} → Tells (P a) t → Tells (Some P l) u → Tells (Some P (a ∷ l)) (pick t true u)
    go (it_is e) u = it_is (this e)
    go (it_is_not d) (it_is x) = it_is (other x)
    go (it_is_not d) (it_is_not k) = it_is_not (neither d k)

unfoldable pub sparse_of : List Meaning → List Ext → Bool
sparse_of ms es = pick (any_of (λ m. eqb m.stat.mode directory_mode) ms) true (any_of (λ e. same_list e.signature sdir) es)

pub sparse_tells : (ms : List Meaning) (es : List Ext) → Tells (Sparse ms es) (sparse_of ms es)
unfolding sparse_of
sparse_tells ms es = go (any_tells (λ m. eqb m.stat.mode directory_mode) by_mode ms) (any_tells (λ e. same_list e.signature sdir) by_signature es)
  where
    by_mode : (m : Meaning) → Tells (m.stat.mode ≡ directory_mode) (eqb m.stat.mode directory_mode)
    by_mode m = to (same? m.stat.mode directory_mode)
      where
        to : {t : Bool} → Same m.stat.mode directory_mode t → Tells (m.stat.mode ≡ directory_mode) t
        to (same e) = it_is e
        to (differs d) = it_is_not d

    by_signature : (e : Ext) → Tells (e.signature ≡ sdir) (same_list e.signature sdir)
    by_signature e = to (same_list? e.signature sdir)
      where
        to : {t : Bool} → SameList e.signature sdir t → Tells (e.signature ≡ sdir) t
        to (same_list_lem i) = it_is i
        to (other_list d) = it_is_not d

    neither : (Some (λ (m : Meaning). m.stat.mode ≡ directory_mode) ms → ⊥) → (Some (λ (e : Ext). e.signature ≡ sdir) es → ⊥) → Sparse ms es → ⊥
    neither a b (by_entry x) = a x
    neither a b (by_sdir x) = b x

    go : {t u : Bool} → Tells (Some (λ (m : Meaning). m.stat.mode ≡ directory_mode) ms) t → Tells (Some (λ (e : Ext). e.signature ≡ sdir) es) u → Tells (Sparse ms es) (pick t true u)
    go (it_is x) u = it_is (by_entry x)
    go (it_is_not a) (it_is x) = it_is (by_sdir x)
    go (it_is_not a) (it_is_not b) = it_is_not (neither a b)

pub tells_unique : {P : Type 0} {a b : Bool} → Tells P a → Tells P b → a ≡ b
tells_unique (it_is x) (it_is y) = refl
tells_unique (it_is x) (it_is_not k) = absurd (k x)
tells_unique (it_is_not k) (it_is x) = absurd (k x)
tells_unique (it_is_not k) (it_is_not l) = refl

-- ---- the tree

abbrev pub on_last : ℕ → Option (ℕ × List ℕ) → Option Tree
on_last n nothing = nothing
on_last n (some (place, body)) = read_tree n place body

unfoldable pub read_cache_tree : ℕ → ℕ → List Ext → Option Tree
read_cache_tree n at es = on_last n (read_last TREE at es)

pub cache_tree_says : (n at : ℕ) (es : List Ext) → CacheTree n at es (read_cache_tree n at es)
unfolding read_cache_tree
cache_tree_says n at es = go (last_says TREE at es)
  where
    to : {place : ℕ} {body : List ℕ} {o : Option Tree} → LastSigned TREE at es place body → SaysTree n place body o → CacheTree n at es o
    to l (is_tree x) = spells l x
    to l (no_tree k) = malformed l k

    go : {o : Option (ℕ × List ℕ)} → SaysLast TREE at es o → CacheTree n at es (on_last n o)
    go (last_is {place = place} {body = body} l) = to l (tree_says n place body)
    go (none_is x) = absent x

-- the last one is at one place, with one body
same_body : {n at place place₂ : ℕ} {es : List Ext} {body body₂ : List ℕ} {t : Tree} → LastSigned TREE at es place body → LastSigned TREE at es place₂ body₂ → Node n place body t → Node n place₂ body₂ t
same_body {n} {place₂ = place₂} {body = body} {t = t} l m x =
    let (e, f) = last_unique l m in
    subst (λ (b : List ℕ). Node n place₂ b t) f (subst (λ (p : ℕ). Node n p body t) e x)

pub cache_tree_unique : {n at : ℕ} {es : List Ext} {o p : Option Tree} → CacheTree n at es o → CacheTree n at es p → o ≡ p
cache_tree_unique (spells l x) (spells m y) = ap {B = Option Tree} some (tree_unique x (same_body m l y))
cache_tree_unique (spells {t = t} l x) (malformed m k) = absurd (k t (same_body l m x))
cache_tree_unique (spells l x) (absent m) = absurd (none_not_last m l)
cache_tree_unique (malformed l k) (spells {t = u} m y) = absurd (k u (same_body m l y))
cache_tree_unique (malformed l k) (malformed m j) = refl
cache_tree_unique (malformed l k) (absent m) = refl
cache_tree_unique (absent l) (spells m y) = absurd (none_not_last l m)
cache_tree_unique (absent l) (malformed m k) = refl
cache_tree_unique (absent l) (absent m) = refl

-- ---- the file

abbrev index_of : ℕ → ℕ → ℕ → List Meaning → List Ext → Index
index_of n version place ms es = record { version = version; sparse = sparse_of ms es; entries = ms; tree = read_cache_tree n place es }

-- the entries' space was so long
abbrev on_extensions : ℕ → ℕ → ℕ → List Meaning → Filled Ext → Option Index
on_extensions n version place ms (filled es) = some (index_of n version place ms es)
on_extensions n version place ms (broken es) = nothing

abbrev on_entries : ℕ → ℕ → ℕ → Got (List Meaning) → Option Index
on_entries n version long none = nothing
on_entries n version long (got ms q) = on_extensions n version (header_length + (long - length q)) ms (read_extensions q)

abbrev on_header : ℕ → Got (ℕ × ℕ) → Option Index
on_header n none = nothing
on_header n (got (version, count) r) = pick (leb n (length r)) (on_entries n version (length (take (length r - n) r)) (read_entries n version start count (take (length r - n) r))) nothing

unfoldable pub read_file : ℕ → List ℕ → Option Index
read_file n xs = on_header n (read_header xs)

-- behind a header that is spelled: r is what is left
module _ (n : ℕ) (xs h r : List ℕ) (version count : ℕ) (i : xs ≡ h ++ r) (x : Header h version count) (l : n ≤ length r) where
  trailer : Trailer n (drop (length r - n) r)
  trailer = record { size = omega (arith, length-drop (length r - n) r) }

  extensions_says : (b q : List ℕ) (ms : List Meaning) → take (length r - n) r ≡ b ++ q → Entries n version start count b ms → (f : Filled Ext) → read_extensions q ≡ f
      → Whole (File n xs) (on_extensions n version (header_length + (length (take (length r - n) r) - length q)) ms f)
  extensions_says b q ms j y (broken es) e = nothing_said
  extensions_says b q ms j y (filled es) e =
      let z : Extensions q es = (extensions_accepts q es).0 e in
      let k : length (take (length r - n) r) - length q ≡ length b = omega (arith, simp length-append at (ap length j)) in
      let m : xs ≡ h ++ (b ++ (q ++ drop (length r - n) r)) =
      i ∙ ap (λ (s : List ℕ). h ++ s) (sym (take-append-drop (length r - n) r) ∙ ap (λ (s : List ℕ). s ++ drop (length r - n) r) j ∙ append_assoc b q (drop (length r - n) r)) in
      rw (k, m) (means (file x y z trailer (sparse_tells ms es) (cache_tree_says n (header_length + length b) es)))

  entries_says : {g : Got (List Meaning)} → Says (Entries n version start count) (take (length r - n) r) g → Whole (File n xs) (on_entries n version (length (take (length r - n) r)) g)
  entries_says refused = nothing_said
  entries_says (spelled {v = ms} {rest = q} b j y) = extensions_says b q ms j y (read_extensions q) refl

pub file_says : (n : ℕ) (xs : List ℕ) → Whole (File n xs) (read_file n xs)
unfolding read_file
file_says n xs = go (header_says xs)
  where
    to : (h r : List ℕ) (version count : ℕ) → xs ≡ h ++ r → Header h version count → {t : Bool} → AtMost n (length r) t
        → Whole (File n xs) (pick t (on_entries n version (length (take (length r - n) r)) (read_entries n version start count (take (length r - n) r))) nothing)
    to h r version count i x (at_most l) = entries_says n xs h r version count i x l ((entries_reads n version start count).says (take (length r - n) r))
    to h r version count i x (above l) = nothing_said

    go : {g : Got (ℕ × ℕ)} → Says HeaderOf xs g → Whole (File n xs) (on_header n g)
    go refused = nothing_said
    go (spelled {rest = r} h i (header_of_lem {version = version} {count = count} x)) = to h r version count i x (at_most? n (length r))

pub file_complete : {n : ℕ} {xs : List ℕ} {m : Index} → File n xs m → read_file n xs ≡ some m
unfolding read_file
file_complete {n} (file {h = h} {b = b} {c = c} {trailer = t} {version = version} {count = count} {ms = ms} {es = es} {sparse = sparse} {tree = tree} x y z w s o) =
    let r : List ℕ = b ++ (c ++ t) in
    let long : length (b ++ (c ++ t)) ≡ length (b ++ c) + n = simp length-append (omega (arith, w.size)) in
    let space : take (length (b ++ (c ++ t)) - n) (b ++ (c ++ t)) ≡ b ++ c =
    ap (λ (l : List ℕ). take (length (b ++ (c ++ t)) - n) l) (sym (append_assoc b c t)) ∙ take_at (b ++ c) t (length (b ++ (c ++ t)) - n) (omega arith) in
    let k : length (b ++ c) - length c ≡ length b = omega (arith, length-append b c) in
    let marks : sparse_of ms es ≡ sparse = tells_unique (sparse_tells ms es) s in
    let grows : read_cache_tree n (header_length + length b) es ≡ tree = cache_tree_unique (cache_tree_says n (header_length + length b) es) o in
    rw (header_complete (header_of_lem x) (b ++ (c ++ t)), le-leb n (length (b ++ (c ++ t))) (omega arith), space, (entries_reads n version start count).complete y c, (extensions_accepts c es).1 z, k, marks, grows)
