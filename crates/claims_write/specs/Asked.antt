-- WHAT MUST BE THERE (01, "Writing"). The file that a writer leaves which is done is header, entries, extensions and trailer: entries exactly of the records not marked REMOVE; TREE,
-- `sdir` and EOIE, each exactly as asked for, once and in this order, and nothing else; and the hash, or zeros exactly as asked for. Over the grammar's extensions and what is asked
-- for. Assumes that the node table has fewer than 2^64 bytes, as every slice has.
use Prim.Native.Nat.{ℕ, zero, suc, ◌+◌, ◌*◌, ◌^◌, min, ◌≤◌, ◌<◌}
use Rattle.std.specs.Prelude.{◌≡◌, ◌⊎◌, drop, Ok}
use Rattle.std.proofs.Math.Path.{refl, ap, subst}
use Rattle.std.proofs.Common.{sym, ◌∙◌, true≢false, inl, inr, ⊎_elim, lit<, length-append, length-drop, drop_at}
use Rattle.std.proofs.Math.Bool.{Bool, true, false}
use mathlib.Core.List.{List, [], ◌∷◌, ◌++◌, append_assoc}
use Rattle.std.proofs.Math.Option.{none}
use native.Mathlib.Omega.{arith}
use Rattle.std.proofs.Math.ListN.{length, replicate}
use Rattle.laws.specs.Pick.{pick}
use Rattle.laws.specs.Tests.{Less, less, not_less, less?}
use Rattle.format.specs.Format.{depth_limit}
use Rattle.wire.specs.BigEndian.{bytes_of}
use Rattle.kind.specs.Kind.{Kind}
use Rattle.entry.specs.Paths.{Paths}
use Rattle.entry.specs.Record.{records_in, flags_at, path_at}
use Rattle.grammar.specs.Entry.{Meaning, Flags, full_field, start, Entries}
use Rattle.grammar.specs.Extension.{Ext, ext, extension_header, sdir, TREE, Extensions}
use Rattle.grammar.specs.Tree.{Tree, Node}
use Rattle.grammar.proofs.DecideTree.{read_tree}
use Rattle.grammar.specs.File.{Index, header_length, Header, directory_mode, Some, Tells, it_is, it_is_not}
use Rattle.claims_entries.specs.Rendering.{sparse_tells}
use Rattle.claims.specs.Claims.{has_tree}
use Rattle.write.specs.declared.Options.{Options}
use Rattle.write_entries.specs.Entries.{is_gone, stated, fixed_of, front_at, flag_bytes, pad_of, entry_of, record_bytes, entries_bytes, kept_of as keptHere, count_of, table_bytes}
use Rattle.write_entries.specs.Size.{length_front}
use Rattle.write.specs.File.{header_of, version_of, extension_head, extensions_for, writes_other, contents, eoie_part, trailer_of, offset_of, closed_of, writes_tree, has_eoie, write_all}
use Rattle.write.specs.Parts.{closed_parts}
use Rattle.claims_write.specs.Meaning.{written_flags, kept_from, kept_of, meanings_of, PathsEnd}
use Rattle.claims_write.specs.Entries.{flags_spelled}
use Rattle.claims_write.specs.Extensions.{EOIE}
use Rattle.claims_write.specs.Spelled.{tree_body, tree_place, tree_meant, index_of, written, done_says, toc, behind_entries, before, written_parts, header_here, extensions_here_lem, entries_here, file_in, file_is}
use Rattle.claims_write.specs.Trees.{written_tree_is_spelled, tree_is_meant}
use Rattle.claims_write.specs.Sizes.{tree_asked, padding_size, entries_size}
use Rattle.claims_write.specs.Lengths.{fixed_is, table_length, writes_tree_is}
use Rattle.write.specs.Made.{written_with}

module _ (kind : Kind) where
  -- ---- THE WORDS

  -- the entries of these records, in what the grammar leaves open: "Padding is NUL. Paths of 4095 bytes or more store 4095", and shorter ones their length
  pub data PlainEntries (rs : List ℕ) (ps : Paths) : List ℕ → List ℕ → Type 0 where
    no_entry : PlainEntries rs ps [] []
    plain_entry : {i : ℕ} {is flags rest : List ℕ} (fields : List ℕ) → length fields ≡ 10 * 4 + kind.id
        → Flags flags (written_flags (flags_at rs i)) (min (length (path_at rs ps i)) full_field)
        → PlainEntries rs ps is rest
        → PlainEntries rs ps (i ∷ is) (fields ++ (flags ++ (path_at rs ps i ++ (replicate (padding_size kind.id rs ps i) 0 ++ rest))))

  -- "TREE if given and asked for": its body, from its place in the file on, is a tree
  pub data TreePart (o : Options) (place : ℕ) : List Ext → Type 0 where
    tree_asked_lem : {body : List ℕ} {t : Tree} → tree_asked o ≡ true → Node kind.id place body t → TreePart o place (ext TREE body ∷ [])
    tree_not_asked : tree_asked o ≡ false → TreePart o place []

  -- "`sdir` if marked sparse, never optional"
  pub data SparsePart (o : Options) : List Ext → Type 0 where
    sparse_marked : o.sparse ≡ true → SparsePart o (ext sdir [] ∷ [])
    not_marked : o.sparse ≡ false → SparsePart o []

  -- the signatures and sizes of extensions
  abbrev pub signatures_and_sizes : List Ext → List ℕ
  signatures_and_sizes [] = []
  signatures_and_sizes (e ∷ es) = e.signature ++ (bytes_of 4 (length e.body) ++ signatures_and_sizes es)

  -- "EOIE if asked for, the table holds any record (REMOVE included) and TREE or `sdir` was written": where the extensions start, and the hash of the signatures and sizes of the others
  pub data EoiePart (rs : List ℕ) (o : Options) (at : ℕ) (others : List Ext) : List Ext → Type 0 where
    eoie_asked_lem : o.eoie ≡ true → 0 < records_in rs → 0 < length others → EoiePart rs o at others (ext EOIE (bytes_of 4 at ++ kind.hash (signatures_and_sizes others)) ∷ [])
    eoie_not_asked : (o.eoie ≡ true → 0 < records_in rs → 0 < length others → ⊥) → EoiePart rs o at others []

  -- "Then SHA-1 of all before, or 20 zeros when asked."
  pub data TrailerPart (o : Options) (before : List ℕ) : List ℕ → Type 0 where
    zeros_asked : o.unhashed ≡ true → TrailerPart o before (replicate kind.id 0)
    hashed : o.unhashed ≡ false → TrailerPart o before (kind.hash before)

  -- the file s, of this version, as it was asked for
  pub record AsAsked (rs : List ℕ) (ps : Paths) (o : Options) (version : ℕ) (s : List ℕ) : Type 0 where
    -- its bytes
    pub header : List ℕ
    pub entries : List ℕ
    pub extensions : List ℕ
    pub trailer : List ℕ
    pub joins : s ≡ header ++ (entries ++ (extensions ++ trailer))
    -- this version, and as many entries as there are records not marked REMOVE
    pub header_says : Header header version (length (kept_of rs))
    -- exactly these entries, in the table's order
    pub entries_say : PathsEnd rs ps → Entries kind.id version start (length (kept_of rs)) entries (meanings_of kind.id rs ps)
    pub entries_fill : length entries ≡ entries_size kind.id rs ps
    pub entries_plain : PlainEntries rs ps (kept_of rs) entries
    -- exactly these extensions, in this order
    pub tree : List Ext
    pub sparse : List Ext
    pub eoie : List Ext
    pub extensions_say : Extensions extensions (tree ++ (sparse ++ eoie))
    pub tree_part : TreePart o (header_length + length entries + extension_header) tree
    pub sparse_part_lem : SparsePart o sparse
    pub eoie_part_lem : EoiePart rs o (header_length + length entries) (tree ++ sparse) eoie
    -- the hash of all before it, or zeros
    pub trailer_part : TrailerPart o (header ++ (entries ++ extensions)) trailer

  -- "one entry of kept mode octal 040000, or `sdir`, makes the index sparse"
  abbrev pub MakesSparse : List ℕ → Paths → Options → Type 0
  MakesSparse rs ps o = (o.sparse ≡ true) ⊎ Some (λ (m : Meaning). m.stat.mode ≡ directory_mode) (meanings_of kind.id rs ps)

  -- the index that such a file means
  pub record Means (rs : List ℕ) (ps : Paths) (o : Options) (version : ℕ) (m : Index) : Type 0 where
    pub version_is : m.version ≡ version
    pub entries_are : m.entries ≡ meanings_of kind.id rs ps
    pub sparse_tells : Tells (MakesSparse rs ps o) m.sparse
    pub tree_as_asked : has_tree m.tree ≡ tree_asked o

  -- ---- the parts

  count_kept : (rs : List ℕ) (k i : ℕ) → count_of rs k i ≡ length (kept_from rs k i)
  unfolding count_of keptHere kept_from
  count_kept rs zero i = refl
  count_kept rs (suc k) i = by (is_gone rs i) (count_kept rs k (i + 1))
    where
      by : (t : Bool) → count_of rs k (i + 1) ≡ length (kept_from rs k (i + 1)) → pick t 0 1 + count_of rs k (i + 1) ≡ length (pick t (kept_from rs k (i + 1)) (i ∷ kept_from rs k (i + 1)))
      by true h = omega arith
      by false h = omega arith

  stated_is : (len : ℕ) → stated len ≡ min len full_field
  unfolding stated
  stated_is len = by (less? len full_field)
    where
      by : {t : Bool} → Less len full_field t → pick t len full_field ≡ min len full_field
      by (less h) = omega arith
      by (not_less h) = omega arith

  plain_one : (rs : List ℕ) (ps : Paths) (i : ℕ) (is rest : List ℕ) → i < records_in rs → PlainEntries rs ps is rest
      → PlainEntries rs ps (i ∷ is) (entry_of kind.id rs i (path_at rs ps i) ++ rest)
  unfolding entry_of
  plain_one rs ps i is rest h x =
      let p : List ℕ = path_at rs ps i in
      let f : List ℕ = front_at kind.id rs i in
      let g : List ℕ = flag_bytes (flags_at rs i) (length p) in
      let pad : ℕ = pad_of (fixed_of kind.id (flags_at rs i)) (length p) in
      let k : pad ≡ padding_size kind.id rs ps i = omega (arith, fixed_is kind.id (flags_at rs i)) in
      let zeros : ℕ → List ℕ = λ n. replicate n 0 in
      let e : (((f ++ g) ++ p) ++ zeros pad) ++ rest ≡ f ++ (g ++ (p ++ (zeros (padding_size kind.id rs ps i) ++ rest))) =
      append_assoc ((f ++ g) ++ p) (zeros pad) rest
      ∙ append_assoc (f ++ g) p (zeros pad ++ rest)
      ∙ append_assoc f g (p ++ (zeros pad ++ rest))
      ∙ ap (λ (n : ℕ). f ++ (g ++ (p ++ (zeros n ++ rest)))) k in
      let flags : Flags g (written_flags (flags_at rs i)) (min (length p) full_field) = subst (Flags g (written_flags (flags_at rs i))) (stated_is (length p)) (flags_spelled (flags_at rs i) (length p)) in
      subst (PlainEntries rs ps (i ∷ is)) (sym e) (plain_entry f (length_front kind.id rs i kind.fits h) flags x)

  plain_table : (rs : List ℕ) (ps : Paths) (k i : ℕ) → i + k ≤ records_in rs → PlainEntries rs ps (kept_from rs k i) (entries_bytes kind.id rs ps k i)
  unfolding kept_from entries_bytes record_bytes
  plain_table rs ps zero i h = no_entry
  plain_table rs ps (suc k) i h = by (is_gone rs i) (plain_table rs ps k (i + 1) (omega arith))
    where
      by : (t : Bool) → PlainEntries rs ps (kept_from rs k (i + 1)) (entries_bytes kind.id rs ps k (i + 1))
          → PlainEntries rs ps (pick t (kept_from rs k (i + 1)) (i ∷ kept_from rs k (i + 1))) (pick t [] (entry_of kind.id rs i (path_at rs ps i)) ++ entries_bytes kind.id rs ps k (i + 1))
      by true x = x
      by false x = plain_one rs ps i (kept_from rs k (i + 1)) (entries_bytes kind.id rs ps k (i + 1)) (omega arith) x

  toc_is : (writes : Bool) (body : List ℕ) (marked : Bool)
      → contents (extensions_for writes body marked) ≡ signatures_and_sizes (pick writes (ext TREE body ∷ []) [] ++ pick marked (ext sdir [] ∷ []) [])
  unfolding contents extension_head
  toc_is true body true = append_assoc TREE (bytes_of 4 (length body)) ((sdir ++ bytes_of 4 0) ++ []) ∙ ap (λ (l : List ℕ). TREE ++ (bytes_of 4 (length body) ++ l)) (append_assoc sdir (bytes_of 4 0) [])
  toc_is true body false = append_assoc TREE (bytes_of 4 (length body)) []
  toc_is false body true = append_assoc sdir (bytes_of 4 0) []
  toc_is false body false = refl

  trailer_is : (o : Options) (b : List ℕ) → TrailerPart o b (trailer_of kind o.unhashed b)
  unfolding trailer_of
  trailer_is o b = by o.unhashed refl
    where
      by : (t : Bool) → o.unhashed ≡ t → TrailerPart o b (pick t (replicate kind.id 0) (kind.hash b))
      by true e = zeros_asked e
      by false e = hashed e

  sparse_is : (o : Options) → SparsePart o (pick o.sparse (ext sdir [] ∷ []) [])
  sparse_is o = by o.sparse refl
    where
      by : (t : Bool) → o.sparse ≡ t → SparsePart o (pick t (ext sdir [] ∷ []) [])
      by true e = sparse_marked e
      by false e = not_marked e

  eoie_is : (rs : List ℕ) (o : Options) (at : ℕ) (body : List ℕ) →
      let others : List Ext = pick (writes_tree o) (ext TREE body ∷ []) [] ++ pick o.sparse (ext sdir [] ∷ []) [] in
      EoiePart rs o at others (pick (has_eoie (records_in rs) o) (ext EOIE (bytes_of 4 at ++ kind.hash (signatures_and_sizes others)) ∷ []) [])
  unfolding has_eoie
  eoie_is rs o at body = by o.eoie refl (less? 0 (records_in rs)) (writes_tree o) o.sparse
    where
      others : Bool → Bool → List Ext
      others w s = pick w (ext TREE body ∷ []) [] ++ pick s (ext sdir [] ∷ []) []

      by : (e : Bool) → o.eoie ≡ e → {n : Bool} → Less 0 (records_in rs) n → (w s : Bool)
          → EoiePart rs o at (others w s) (pick (pick e (pick n (writes_other w s) false) false) (ext EOIE (bytes_of 4 at ++ kind.hash (signatures_and_sizes (others w s))) ∷ []) [])
      by false q l w s = eoie_not_asked (λ a b c. true≢false (sym a ∙ q))
      by true q (not_less l) w s = eoie_not_asked (λ a b c. omega arith)
      by true q (less l) true true = eoie_asked_lem q l (omega arith)
      by true q (less l) true false = eoie_asked_lem q l (omega arith)
      by true q (less l) false true = eoie_asked_lem q l (lit< tt)
      by true q (less l) false false = eoie_not_asked (λ a b c. omega arith)

  tells_either : {P : Type 0} (t : Bool) {b u : Bool} → t ≡ u → Tells P b → Tells ((t ≡ true) ⊎ P) (pick u true b)
  tells_either t {u = true} e x = it_is (inl e)
  tells_either t {u = false} e (it_is x) = it_is (inr x)
  tells_either t {u = false} e (it_is_not k) = it_is_not (λ y. ⊎_elim (λ q. true≢false (sym q ∙ e)) k y)

  -- ---- THE THEOREMS

  module _ (rs : List ℕ) (ps : Paths) (ns nm : List ℕ) (o : Options) (out : List ℕ) (version size : ℕ) (done : (write_all kind depth_limit rs ps ns nm o out).answer ≡ Ok (written_with version size)) where
    tree_is : length ns < 2 ^ 64 → TreePart o (tree_place kind rs ps) (pick (writes_tree o) (ext TREE (tree_body kind ns nm) ∷ []) [])
    tree_is few = by (writes_tree o) refl
      where
        by : (t : Bool) → writes_tree o ≡ t → TreePart o (tree_place kind rs ps) (pick t (ext TREE (tree_body kind ns nm) ∷ []) [])
        by true e = tree_asked_lem (sym (writes_tree_is o) ∙ e) (written_tree_is_spelled kind rs ps ns nm o out version size done few e)
        by false e = tree_not_asked (sym (writes_tree_is o) ∙ e)

    as_asked : length ns < 2 ^ 64 → AsAsked rs ps o (version_of rs) (written kind rs ps ns nm o)
    unfolding closed_of
    as_asked few =
        let d = done_says kind rs ps ns nm o out version size done in
        let body : List ℕ = tree_body kind ns nm in
        let tree : List Ext = pick (writes_tree o) (ext TREE body ∷ []) [] in
        let sparse : List Ext = pick o.sparse (ext sdir [] ∷ []) [] in
        let has : Bool = has_eoie (records_in rs) o in
        let eoie : List ℕ → List Ext = λ l. pick has (ext EOIE (bytes_of 4 (offset_of kind.id rs ps) ++ kind.hash l) ∷ []) [] in
        let heads : toc kind rs ps ns nm o ≡ signatures_and_sizes (tree ++ sparse) = toc_is (writes_tree o) body o.sparse in
        let counted : count_of rs (records_in rs) 0 ≡ length (kept_of rs) = count_kept rs (records_in rs) 0 in
        let all : before kind rs ps ns nm o ≡ header_of (version_of rs) (count_of rs (records_in rs) 0) ++ (table_bytes kind.id rs ps ++ behind_entries kind rs ps ns nm o)
        = closed_parts kind.id depth_limit rs ps ns nm o (eoie_part kind has (offset_of kind.id rs ps) (toc kind rs ps ns nm o)) in
        record {
          header = header_of (version_of rs) (count_of rs (records_in rs) 0);
          entries = table_bytes kind.id rs ps;
          extensions = behind_entries kind rs ps ns nm o;
          trailer = trailer_of kind o.unhashed (before kind rs ps ns nm o);
          joins = written_parts kind rs ps ns nm o;
          header_says = subst (λ (k : ℕ). Header (header_of (version_of rs) (count_of rs (records_in rs) 0)) (version_of rs) k) counted (header_here kind rs ps ns nm o d.few d.short);
          entries_say = λ ends. subst (λ (k : ℕ). Entries kind.id (version_of rs) start k (table_bytes kind.id rs ps) (meanings_of kind.id rs ps)) counted (entries_here kind rs ps ns nm o d.few d.short ends);
          entries_fill = table_length kind.id rs ps kind.fits;
          entries_plain = plain_table rs ps (records_in rs) 0 (omega arith);
          tree = tree;
          sparse = sparse;
          eoie = eoie (signatures_and_sizes (tree ++ sparse));
          extensions_say = subst (λ (l : List ℕ). Extensions (behind_entries kind rs ps ns nm o) (tree ++ (sparse ++ eoie l))) heads (extensions_here_lem kind rs ps ns nm o d.few d.short);
          tree_part = tree_is few;
          sparse_part_lem = sparse_is o;
          eoie_part_lem = eoie_is rs o (offset_of kind.id rs ps) body;
          trailer_part = subst (λ (l : List ℕ). TrailerPart o l (trailer_of kind o.unhashed (before kind rs ps ns nm o))) all (trailer_is o (before kind rs ps ns nm o));
        }

    -- the first `size` bytes that are left are as asked for
    pub written_as_asked : length ns < 2 ^ 64 → AsAsked rs ps o version (file_in kind rs ps ns nm o out version size done)
    written_as_asked few =
        let d = done_says kind rs ps ns nm o out version size done in
        subst (λ (v : ℕ). AsAsked rs ps o v (file_in kind rs ps ns nm o out version size done)) (sym d.version_is)
        (subst (AsAsked rs ps o (version_of rs)) (sym (file_is kind rs ps ns nm o out version size done)) (as_asked few))

    -- and what stands behind them is as it was
    pub rest_as_it_was : drop size (write_all kind depth_limit rs ps ns nm o out).out ≡ drop size out
    rest_as_it_was =
        let d = done_says kind rs ps ns nm o out version size done in
        let w : List ℕ = written kind rs ps ns nm o in
        ap (λ (l : List ℕ). drop size l) d.after_is ∙ drop_at w (drop (length w) out) size (sym d.size_is) ∙ ap (λ (k : ℕ). drop k out) (sym d.size_is)

    pub output_as_long : length (write_all kind depth_limit rs ps ns nm o out).out ≡ length out
    output_as_long =
        let d = done_says kind rs ps ns nm o out version size done in
        let w : List ℕ = written kind rs ps ns nm o in
        ap length d.after_is ∙ length-append w (drop (length w) out) ∙ omega (arith, d.size_is, d.room, length-drop (length w) out)

    -- and this is what they mean: `written_is_spelled` says that the grammar spells this index
    pub index_means : length ns < 2 ^ 64 → Means rs ps o version (index_of kind rs ps ns nm o)
    index_means few =
        record {
          version_is = sym (done_says kind rs ps ns nm o out version size done).version_is;
          entries_are = refl;
          sparse_tells = tells_either o.sparse refl (sparse_tells (meanings_of kind.id rs ps));
          tree_as_asked = tree_there (writes_tree o) refl ∙ writes_tree_is o;
        }
      where
        tree_there : (t : Bool) → writes_tree o ≡ t → has_tree (tree_meant kind rs ps ns nm o) ≡ writes_tree o
        tree_there true e = ap has_tree (tree_is_meant kind rs ps ns nm o out version size done few e) ∙ sym e
        tree_there false e = ap (λ (t : Bool). has_tree (pick t (read_tree kind.id (tree_place kind rs ps) (tree_body kind ns nm)) none)) e ∙ sym e
