-- The writer writes as many bytes as `Sizes` says: of the entries, of the tree of a proper table, of which each node is written once, before EOIE's place, and of the whole file. Assumes
-- nothing.
use Prim.Native.Nat.{ℕ, zero, suc, ◌+◌, ◌*◌, ◌/◌, ◌%◌, ◌≤◌, ◌<◌}
use Rattle.std.specs.Prelude.{◌≡◌, Bool, ◌&&◌, ◌||◌, ltb, eqb, take, drop}
use Rattle.std.proofs.Math.Path.{refl}
use Rattle.std.proofs.Common.{sym, ap, ◌∙◌, lt-ltb, ne_eqb}
use Rattle.std.proofs.Math.Bool.{true, false}
use mathlib.Core.List.{List, [], ◌∷◌, ◌++◌}
use native.Mathlib.Omega.{arith}
use Rattle.std.proofs.Math.ListN.{length, length-append}
use Rattle.laws.specs.Pick.{pick}
use Rattle.laws.specs.Lists.{length_part}
use Rattle.laws.specs.Tests.{Same, same, differs, same?}
use Rattle.format.specs.Format.{depth_limit, id_room}
use Rattle.wire.specs.Written.{digits_by, digits_of}
use Rattle.kind.specs.Kind.{Kind}
use Rattle.entry.specs.Flags.{bit, extended, removed}
use Rattle.entry.specs.Paths.{Paths}
use Rattle.entry.specs.Record.{records_in, flags_at, path_at}
use Rattle.node.specs.Head.{minus_one}
use Rattle.node.specs.Store.{nodes_in, count_at, subtrees_at, id_at, name_at}
use Rattle.proper.specs.Table.{Proper}
use Rattle.tree_write.specs.Kids.{Mem, here, there}
use Rattle.tree_write.specs.Tree.{count_bytes, front_bytes, number_bytes, id_bytes, head_bytes, each, node_bytes, tree_bytes}
use Rattle.write.specs.declared.Options.{Options}
use Rattle.write_entries.specs.Entries.{fixed_of, entry_of, record_bytes, before_at, entries_bytes, count_of, table_bytes}
use Rattle.write_entries.specs.Size.{length_entry}
use Rattle.write.specs.File.{header_of, version_of, writes_other, contents, eoie_part, trailer_of, front_of, extensions_of, extensions_asked, body_of, offset_of, head_size, writes_tree, has_eoie, body_bytes, file_bytes}
use Rattle.write.specs.Extensions.{length-extensions, signed_for, size_for}
use Rattle.write.specs.Parts.{file_parts, length-header, length_eoie, length-trailer}
use Rattle.claims_write.specs.Tree.{total, hits, total_zero, total_sum, total_same, kids_of, kids_are, Level, root, below, level_within}
use Rattle.claims_write.specs.Count.{walk, walk_inside, met_once}
use Rattle.claims_write.specs.Sizes.{tree_asked, eoie_asked, fixed_size, entry_size, written_size, entries_size, extensions_place, digits_within, digits, count_size, node_size, tree_size, extension_size, size_before_eoie, file_size}

-- ---- entries

pub fixed_is : (id flags : ℕ) → fixed_of id flags ≡ fixed_size id flags
unfolding fixed_of
fixed_is id flags = by (bit extended flags)
  where
    by : (t : Bool) → pick t (44 + id) (42 + id) ≡ 10 * 4 + id + 2 + pick t 2 0
    by true = omega arith
    by false = omega arith

module _ (id : ℕ) (rs : List ℕ) (ps : Paths) (small : id ≤ 32) where
  record_length : (i : ℕ) → i < records_in rs → length (record_bytes id rs ps (before_at rs ps i) i) ≡ written_size id rs ps i
  unfolding record_bytes
  record_length i h = by (bit removed (flags_at rs i))
    where
      by : (t : Bool) → length (pick t [] (entry_of id rs i (path_at rs ps i))) ≡ pick t 0 (entry_size id rs ps i)
      by true = refl
      by false = omega (arith, length_entry id rs i (path_at rs ps i) small h, fixed_is id (flags_at rs i))

  pub entries_length : (k i : ℕ) → i + k ≤ records_in rs → length (entries_bytes id rs ps k i) ≡ total (written_size id rs ps) k i
  unfolding entries_bytes total
  entries_length zero i h = refl
  entries_length (suc k) i h =
      omega (arith, length-append (record_bytes id rs ps (before_at rs ps i) i) (entries_bytes id rs ps k (i + 1)), record_length i (omega arith), entries_length k (i + 1) (omega arith))

pub table_length : (id : ℕ) (rs : List ℕ) (ps : Paths) → id ≤ 32 → length (table_bytes id rs ps) ≡ entries_size id rs ps
table_length id rs ps small = entries_length id rs ps small (records_in rs) 0 (omega arith)

pub offset_is : (id : ℕ) → id ≤ id_room → (rs : List ℕ) (ps : Paths) → offset_of id rs ps ≡ extensions_place id rs ps
offset_is id small rs ps = omega (arith, table_length id rs ps small)

-- ---- a node's head

digits_length : (most x : ℕ) → length (digits_by 10 most x) ≡ digits_within most x
unfolding digits_by digits_within
digits_length zero x = refl
digits_length (suc most) x = by (ltb x 10) (digits_length most (x / 10))
  where
    by : (t : Bool) → length (digits_by 10 most (x / 10)) ≡ digits_within most (x / 10)
        → length (pick t ((48 + x) ∷ []) (digits_by 10 most (x / 10) ++ ((48 + x % 10) ∷ []))) ≡ pick t 1 (digits_within most (x / 10) + 1)
    by true h = refl
    by false h = omega (arith, length-append (digits_by 10 most (x / 10)) ((48 + x % 10) ∷ []))

decimal_length : (x : ℕ) → length (digits_of 10 x) ≡ digits x
unfolding digits_of
decimal_length x = digits_length (suc x) x

count_length : (v : ℕ) → length (count_bytes v) ≡ count_size v
unfolding count_bytes
count_length v = by (eqb v minus_one)
  where
    by : (t : Bool) → length (pick t (45 ∷ 49 ∷ []) (digits_of 10 v)) ≡ pick t 2 (digits v)
    by true = refl
    by false = decimal_length v

id_length : (id : ℕ) (ns : List ℕ) (i : ℕ) → id ≤ 32 → i < nodes_in ns → length (id_bytes id ns i) ≡ pick (eqb (count_at ns i) minus_one) 0 id
unfolding id_bytes id_at
id_length id ns i small h = by (eqb (count_at ns i) minus_one)
  where
    by : (t : Bool) → length (pick t [] (pick (ltb i (nodes_in ns)) (take id (drop (i * 72 + 40) ns)) [])) ≡ pick t 0 id
    by true = refl
    by false = rw (lt-ltb i (nodes_in ns) h) (length_part id (i * 72 + 40) ns (omega arith))

head_length : (id : ℕ) (ns nm : List ℕ) (i : ℕ) → id ≤ 32 → i < nodes_in ns → length (head_bytes id ns nm i) ≡ node_size id ns nm i
unfolding head_bytes front_bytes number_bytes
head_length id ns nm i small h =
    let name : List ℕ = name_at nm ns i in
    let c : List ℕ = count_bytes (count_at ns i) in
    let k : List ℕ = digits_of 10 (subtrees_at ns i) in
    omega (
      arith,
      length-append ((((name ++ (0 ∷ [])) ++ c)) ++ (((32 ∷ []) ++ k) ++ (10 ∷ []))) (id_bytes id ns i),
      length-append ((name ++ (0 ∷ [])) ++ c) (((32 ∷ []) ++ k) ++ (10 ∷ [])),
      length-append (name ++ (0 ∷ [])) c,
      length-append name (0 ∷ []),
      length-append ((32 ∷ []) ++ k) (10 ∷ []),
      length-append (32 ∷ []) k,
      count_length (count_at ns i),
      decimal_length (subtrees_at ns i),
      id_length id ns i small h,
    )

-- ---- a sum over a list is the sum over the numbers, each as often as it stands in the list

unfoldable sum_over : (ℕ → ℕ) → List ℕ → ℕ
sum_over f [] = 0
sum_over f (x ∷ l) = f x + sum_over f l

sum-append : (f : ℕ → ℕ) (a b : List ℕ) → sum_over f (a ++ b) ≡ sum_over f a + sum_over f b
unfolding sum_over
sum-append f [] b = omega arith
sum-append f (x ∷ a) b = omega (arith, sum-append f a b)

-- what stands at j in such a sum
unfoldable share : (ℕ → ℕ) → List ℕ → ℕ → ℕ
share f [] j = 0
share f (x ∷ l) j = pick (eqb x j) (f x) 0 + share f l j

share_none : (f : ℕ → ℕ) (l : List ℕ) (j : ℕ) → hits l j ≡ 0 → share f l j ≡ 0
unfolding share hits
share_none f [] j h = refl
share_none f (x ∷ l) j h = by (eqb x j) h (λ q. share_none f l j q)
  where
    by : (t : Bool) → pick t 1 0 + hits l j ≡ 0 → (hits l j ≡ 0 → share f l j ≡ 0) → pick t (f x) 0 + share f l j ≡ 0
    by true h ih = absurd (omega arith)
    by false h ih = omega (arith, ih (omega arith))

share_once : (f : ℕ → ℕ) (l : List ℕ) (j : ℕ) → hits l j ≡ 1 → share f l j ≡ f j
unfolding share hits
share_once f [] j h = absurd (omega arith)
share_once f (x ∷ l) j h = by (same? x j) h (λ q. share_once f l j q)
  where
    by : {t : Bool} → Same x j t → pick t 1 0 + hits l j ≡ 1 → (hits l j ≡ 1 → share f l j ≡ f j) → pick t (f x) 0 + share f l j ≡ f j
    by (same e) h ih = omega (arith, share_none f l j (omega arith), ap f e)
    by (differs d) h ih = omega (arith, ih (omega arith))

share_past : (f : ℕ → ℕ) (x k j : ℕ) → x < j → total (λ y. pick (eqb x y) (f x) 0) k j ≡ 0
unfolding total
share_past f x zero j h = refl
share_past f x (suc k) j h = let d : x ≡ j → ⊥ = λ e. omega arith in rw (ne_eqb x j d) (omega (arith, share_past f x k (j + 1) (omega arith)))

share_one : (f : ℕ → ℕ) (x k j : ℕ) → j ≤ x → x < j + k → total (λ y. pick (eqb x y) (f x) 0) k j ≡ f x
unfolding total
share_one f x zero j h l = absurd (omega arith)
share_one f x (suc k) j h l = by (same? x j) (λ a. share_one f x k (j + 1) a (omega arith))
  where
    by : {t : Bool} → Same x j t → (j + 1 ≤ x → total (λ y. pick (eqb x y) (f x) 0) k (j + 1) ≡ f x) → pick t (f x) 0 + total (λ y. pick (eqb x y) (f x) 0) k (j + 1) ≡ f x
    by (same e) ih = omega (arith, share_past f x k (j + 1) (omega arith))
    by (differs d) ih = omega (arith, ih (omega arith))

share_all : (f : ℕ → ℕ) (l : List ℕ) (k j : ℕ) → ((x : ℕ) → Mem x l → (j ≤ x) × (x < j + k)) → total (share f l) k j ≡ sum_over f l
unfolding share sum_over
share_all f [] k j h = total_zero k j
share_all f (x ∷ l) k j h =
    let (a, b) = h x here in
    total_sum (λ y. pick (eqb x y) (f x) 0) (share f l) k j ∙ omega (arith, share_one f x k j a b, share_all f l k j (λ y m. h y (there m)))

-- ---- the tree

module _ (id limit : ℕ) (ns nm : List ℕ) (small : id ≤ 32) (proper : Proper limit ns nm) where
  abbrev sizes : ℕ → ℕ
  sizes = node_size id ns nm

  each_length : (b w : ℕ → List ℕ) (l : List ℕ) → ((x : ℕ) → Mem x l → length (b x) ≡ sum_over sizes (w x)) → length (each b l) ≡ sum_over sizes (each w l)
  unfolding each sum_over
  each_length b w [] h = refl
  each_length b w (x ∷ l) h = omega (arith, length-append (b x) (each b l), sum-append sizes (w x) (each w l), h x here, each_length b w l (λ y m. h y (there m)))

  -- what is written of a node and below it is what the walk goes by
  walk_size : (d k i : ℕ) → i < nodes_in ns → Level ns k i → k + d ≡ limit + 1 → length (node_bytes id ns nm d i) ≡ sum_over sizes (walk ns nm d i)
  unfolding node_bytes walk sum_over
  walk_size zero k i h l e = absurd (omega (arith, level_within l limit (proper.depth i h)))
  walk_size (suc d) k i h l e =
      let inner : (x : ℕ) → Mem x (kids_of ns nm i) → length (node_bytes id ns nm d x) ≡ sum_over sizes (walk ns nm d x) =
      λ x m. let (a, b, c) = kids_are ns nm i x m in walk_size d (suc k) x b (below a c l) (omega arith) in
      omega (
        arith,
        length-append (head_bytes id ns nm i) (each (node_bytes id ns nm d) (kids_of ns nm i)),
        head_length id ns nm i small h,
        each_length (node_bytes id ns nm d) (walk ns nm d) (kids_of ns nm i) inner,
      )

  -- THE TREE: each node of the table is counted once
  pub tree_length : length (tree_bytes id limit ns nm) ≡ tree_size id ns nm
  tree_length =
      walk_size limit 1 0 proper.some root (omega arith)
      ∙ sym (share_all sizes (walk ns nm limit 0) (nodes_in ns) 0 (λ x m. let a = walk_inside limit ns nm proper limit 0 x proper.some m in (omega arith, omega arith)))
      ∙ total_same (share sizes (walk ns nm limit 0)) sizes (nodes_in ns) 0 (λ x a b. share_once sizes (walk ns nm limit 0) x (met_once limit ns nm proper x (omega arith)))

-- ---- the file

-- what is asked for, as the writer tests it
pub writes_tree_is : (o : Options) → writes_tree o ≡ tree_asked o
unfolding writes_tree
writes_tree_is o = by o.tree
  where
    by : (t : Bool) → pick t o.cache false ≡ (t && o.cache)
    by true = refl
    by false = refl

pub has_eoie_is : (rs : List ℕ) (o : Options) → has_eoie (records_in rs) o ≡ eoie_asked rs o
unfolding has_eoie
has_eoie_is rs o =
    ap (λ (w : Bool). pick o.eoie (pick (ltb 0 (records_in rs)) (writes_other w o.sparse) false) false) (writes_tree_is o) ∙ by o.eoie (ltb 0 (records_in rs)) (tree_asked o) o.sparse
  where
    by : (e n t s : Bool) → pick e (pick n (writes_other t s) false) false ≡ (e && (n && (t || s)))
    by false n t s = refl
    by true false t s = refl
    by true true true true = refl
    by true true true false = refl
    by true true false true = refl
    by true true false false = refl

module _ (kind : Kind) where
  no_eoie : (offset : ℕ) (toc : List ℕ) → length (eoie_part kind false offset toc) ≡ 0
  unfolding eoie_part
  no_eoie offset toc = refl

  module _ (rs : List ℕ) (ps : Paths) (ns nm : List ℕ) (o : Options) (proper : tree_asked o ≡ true → Proper depth_limit ns nm) where
    extensions_part : length (extensions_of (extensions_asked kind.id depth_limit ns nm o)) ≡ extension_size (tree_asked o) (tree_size kind.id ns nm) + extension_size o.sparse 0
    unfolding head_size
    extensions_part = length-extensions (signed_for (writes_tree o) (tree_bytes kind.id depth_limit ns nm) o.sparse) ∙ size_for (writes_tree o) (tree_bytes kind.id depth_limit ns nm) o.sparse ∙ rw (writes_tree_is o) (by (tree_asked o) o.sparse proper)
      where
        by : (t s : Bool) → (t ≡ true → Proper depth_limit ns nm)
            → pick t 8 0 + length (pick t (tree_bytes kind.id depth_limit ns nm) []) + pick s 8 0 ≡ extension_size t (tree_size kind.id ns nm) + extension_size s 0
        by true s p = omega (arith, tree_length kind.id depth_limit ns nm kind.fits (p refl))
        by false s p = refl

    pub body_length : length (body_bytes kind.id depth_limit rs ps ns nm o) ≡ size_before_eoie kind.id rs ps ns nm o
    unfolding body_bytes body_of front_of
    body_length =
        let h : List ℕ = header_of (version_of rs) (count_of rs (records_in rs) 0) in
        let x : List ℕ = extensions_of (extensions_asked kind.id depth_limit ns nm o) in
        omega (
          arith,
          length-append (h ++ table_bytes kind.id rs ps) x,
          length-append h (table_bytes kind.id rs ps),
          length-header (version_of rs) (count_of rs (records_in rs) 0),
          table_length kind.id rs ps kind.fits,
          extensions_part,
        )

    eoie_part_lem : (offset : ℕ) (toc : List ℕ) → length (eoie_part kind (has_eoie (records_in rs) o) offset toc) ≡ extension_size (eoie_asked rs o) (4 + kind.id)
    eoie_part_lem offset toc = rw (has_eoie_is rs o) (by (eoie_asked rs o))
      where
        by : (t : Bool) → length (eoie_part kind t offset toc) ≡ extension_size t (4 + kind.id)
        by true = omega (arith, length_eoie kind true offset toc refl)
        by false = no_eoie offset toc

    pub file_length : length (file_bytes kind depth_limit rs ps ns nm o) ≡ file_size kind.id rs ps ns nm o
    file_length =
        let body : List ℕ = body_bytes kind.id depth_limit rs ps ns nm o in
        let toc : List ℕ = contents (extensions_asked kind.id depth_limit ns nm o) in
        let eoie : List ℕ = eoie_part kind (has_eoie (records_in rs) o) (offset_of kind.id rs ps) toc in
        let last : List ℕ = trailer_of kind o.unhashed (body ++ eoie) in
        ap length (file_parts kind depth_limit rs ps ns nm o)
        ∙ omega (arith, length-append (body ++ eoie) last, length-append body eoie, body_length, eoie_part_lem (offset_of kind.id rs ps) toc, length-trailer kind o.unhashed (body ++ eoie))
