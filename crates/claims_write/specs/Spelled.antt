-- WHAT THE WRITER WRITES IS SPELLED BY THE GRAMMAR: the file that it answers `Done` for, and the index that it means. Over all tables and all that may be asked for.
-- Assumes nothing.
use Prim.Native.Nat.{ℕ, zero, suc, ◌+◌, ◌^◌, ◌≤◌, ◌<◌}
use Rattle.std.specs.Prelude.{◌≡◌, take, drop, Err, Ok}
use Rattle.std.proofs.Math.Path.{refl, ap}
use Rattle.std.proofs.Common.{sym, ◌∙◌, subst, lit≤, lit<, take_at}
use Rattle.std.proofs.Math.Bool.{Bool, true, false}
use mathlib.Core.List.{List, [], ◌++◌, append_assoc}
use Rattle.std.proofs.Math.Option.{Option, none}
use native.Mathlib.Omega.{arith}
use Rattle.std.proofs.Math.ListN.{length, length-append}
use Rattle.laws.specs.Pick.{pick}
use Rattle.laws.specs.Tests.{Less, less, not_less, less?}
use Rattle.wire.specs.BigEndian.{bytes_of}
use Rattle.format.specs.Format.{depth_limit}
use Rattle.entry.specs.Paths.{Paths}
use Rattle.entry.specs.Record.{records_in}
use Rattle.grammar.specs.Entry.{start, Entries}
use Rattle.grammar.specs.Extension.{Ext, Extensions}
use Rattle.grammar.specs.Tree.{Tree}
use Rattle.grammar.proofs.DecideTree.{read_tree, SaysTree, is_tree, no_tree, tree_says}
use Rattle.grammar.specs.File.{Index, header_length, Supported, Header, header, CacheTree, spelled, malformed, absent, File, file}
use Rattle.claims_entries.specs.Rendering.{sparse_by, sparse_tells}
use Rattle.claims_extension.specs.Said.{either_marks}
use Rattle.tree_write.specs.Tree.{tree_bytes}
use Rattle.write.specs.declared.Options.{Options}
use Rattle.write_entries.specs.Entries.{is_gone, First, found, nowhere, first_fault, on_first, kept_of, count_of, any_extended, table_bytes}
use Rattle.write.specs.File.{header_of, version_of, contents, eoie_part, trailer_of, front_of, extensions_of, extensions_asked, body_of, offset_of, closed_of, file_of, writes_tree, has_eoie, tree_fits, body_bytes, file_bytes, Outcome, outcome, most, write_file, write_all}
use Rattle.kind.specs.Kind.{Kind}
use Rattle.write.specs.Parts.{length-trailer}
use Rattle.claims_write.specs.Meaning.{meanings_of, PathsEnd}
use Rattle.claims_write.specs.Entries.{big, entries_spelled}
use Rattle.write.specs.Extensions.{length-extensions, signed_for, size_for}
use Rattle.claims_write.specs.Extensions.{extensions_meant, extensions_spelled, marks_sdir, last_tree, no_tree as no-TREE}
use Rattle.write.specs.Made.{written_with}
use Rattle.write.specs.declared.Error.TheVariants.{NotProper, PathOutside, ShortOutput, TooLarge}
use Rattle.laws.specs.Same.{ok_same}
use Rattle.write.specs.declared.Written.{Written}

module _ (kind : Kind) where
  -- ---- THE MEANING

  -- TREE's body, if it is written
  abbrev pub tree_body : List ℕ → List ℕ → List ℕ
  tree_body ns nm = tree_bytes kind.id depth_limit ns nm

  -- where TREE's body starts: behind header, entries, signature and size
  abbrev pub tree_place : List ℕ → Paths → ℕ
  tree_place rs ps = offset_of kind.id rs ps + 8

  -- the tree that is meant: the one that TREE's body spells
  abbrev pub tree_meant : List ℕ → Paths → List ℕ → List ℕ → Options → Option Tree
  tree_meant rs ps ns nm o = pick (writes_tree o) (read_tree kind.id (tree_place rs ps) (tree_body ns nm)) none

  -- the index that a record table and a node table mean: sparse if so asked, or by an entry that is a directory
  abbrev pub index_of : List ℕ → Paths → List ℕ → List ℕ → Options → Index
  index_of rs ps ns nm o =
      record {
        version = version_of rs;
        sparse = pick o.sparse true (sparse_by false (meanings_of kind.id rs ps));
        entries = meanings_of kind.id rs ps;
        tree = tree_meant rs ps ns nm o;
      }

  -- ---- what is known where the writer answers Done

  -- the bytes of the file
  abbrev pub written : List ℕ → Paths → List ℕ → List ℕ → Options → List ℕ
  written rs ps ns nm o = file_bytes kind depth_limit rs ps ns nm o

  pub record Done? (rs : List ℕ) (ps : Paths) (ns nm : List ℕ) (o : Options) (out : List ℕ) (version size : ℕ) (after : List ℕ) : Type 0 where
    pub inside : first_fault rs ps (records_in rs) 0 ≡ nowhere
    pub proper : tree_fits depth_limit ns nm (writes_tree o) ≡ true
    pub few : records_in rs ≤ most
    pub short : length (body_bytes kind.id depth_limit rs ps ns nm o) ≤ most
    pub version_is : version ≡ version_of rs
    pub size_is : size ≡ length (written rs ps ns nm o)
    pub room : size ≤ length out
    pub after_is : after ≡ written rs ps ns nm o ++ drop (length (written rs ps ns nm o)) out

  module _ (rs : List ℕ) (ps : Paths) (ns nm : List ℕ) (o : Options) (out : List ℕ) where
    abbrev writing : Outcome
    writing = write_all kind depth_limit rs ps ns nm o out

    pub done_says : (version size : ℕ) → writing.answer ≡ Ok (written_with version size) → Done? rs ps ns nm o out version size writing.out
    unfolding write_all write_file
    done_says version size e = one (first_fault rs ps (records_in rs) 0) refl (tree_fits depth_limit ns nm (writes_tree o)) refl (less? most (records_in rs)) (less? most (length body)) (less? (length out) (length whole)) e
      where
        body : List ℕ
        body = body_bytes kind.id depth_limit rs ps ns nm o

        whole : List ℕ
        whole = file_bytes kind depth_limit rs ps ns nm o

        last : Bool → Bool → Bool → Outcome
        last a b c = pick a (outcome (Err TooLarge) out) (pick b (outcome (Err TooLarge) out) (pick c (outcome (Err (ShortOutput (length whole))) out) (outcome (Ok (written_with (version_of rs) (length whole))) (whole ++ drop (length whole) out))))

        one : (f : First) → first_fault rs ps (records_in rs) 0 ≡ f → (t : Bool) → tree_fits depth_limit ns nm (writes_tree o) ≡ t → {a b c : Bool} → Less most (records_in rs) a → Less most (length body) b → Less (length out) (length whole) c
            → (on_first f (λ i. outcome (Err (PathOutside i)) out) (pick t (last a b c) (outcome (Err NotProper) out))).answer ≡ Ok (written_with version size)
            → Done? rs ps ns nm o out version size (on_first f (λ i. outcome (Err (PathOutside i)) out) (pick t (last a b c) (outcome (Err NotProper) out))).out
        one (found i) ef t et x y z q = let w : ◌≡◌ {A = ℕ} 0 1 = cc in absurd (omega arith)
        one nowhere ef false et x y z q = let w : ◌≡◌ {A = ℕ} 0 1 = cc in absurd (omega arith)
        one nowhere ef true et (less x) y z q = let w : ◌≡◌ {A = ℕ} 0 1 = cc in absurd (omega arith)
        one nowhere ef true et (not_less x) (less y) z q = let w : ◌≡◌ {A = ℕ} 0 1 = cc in absurd (omega arith)
        one nowhere ef true et (not_less x) (not_less y) (less z) q = let w : ◌≡◌ {A = ℕ} 0 1 = cc in absurd (omega arith)
        one nowhere ef true et (not_less x) (not_less y) (not_less z) q =
            let same : written_with version size ≡ written_with (version_of rs) (length whole) = sym (ok_same q) in
            let v : version ≡ version_of rs = ap (λ (w : Written). w.version) same in
            let s : size ≡ length whole = ap (λ (w : Written). w.size) same in
            record { inside = ef; proper = et; few = x; short = y; version_is = v; size_is = s; room = omega arith; after_is = refl }

  -- ---- the parts

  count_small : (rs : List ℕ) (k i : ℕ) → count_of rs k i ≤ k
  unfolding count_of kept_of
  count_small rs zero i = omega arith
  count_small rs (suc k) i = by (is_gone rs i) (count_small rs k (i + 1))
    where
      by : (t : Bool) → count_of rs k (i + 1) ≤ k → pick t 0 1 + count_of rs k (i + 1) ≤ suc k
      by true h = omega arith
      by false h = omega arith

  -- 2 or 3
  supported : (t : Bool) → Supported (pick t 3 2)
  supported true = record { oldest = lit≤ tt; newest = lit≤ tt }
  supported false = record { oldest = lit≤ tt; newest = lit≤ tt }

  not_four : (t : Bool) → ◌≡◌ {A = ℕ} (pick t 3 2) 4 → ⊥
  not_four true e = omega arith
  not_four false e = omega arith

  version_small : (t : Bool) → pick t 3 2 < 256 ^ 4
  version_small true = lit< tt
  version_small false = lit< tt

  header_spelled : (version count : ℕ) → version < 256 ^ 4 → Supported version → count < 256 ^ 4 → Header (header_of version count) version count
  unfolding header_of
  header_spelled version count h s k = header (big 4 version h) s (big 4 count k)

  module _ (rs : List ℕ) (ps : Paths) (ns nm : List ℕ) (o : Options) where
    abbrev pub records : ℕ
    records = records_in rs

    abbrev pub has : Bool
    has = has_eoie records o

    abbrev pub toc : List ℕ
    toc = contents (extensions_asked kind.id depth_limit ns nm o)

    -- EOIE's body: where the extensions start, and the hash of their signatures and sizes
    abbrev pub eoie_body : List ℕ
    eoie_body = bytes_of 4 (offset_of kind.id rs ps) ++ kind.hash toc

    abbrev pub extensions_here : List Ext
    extensions_here = extensions_meant (writes_tree o) (tree_body ns nm) o.sparse has eoie_body

    -- all but the trailer
    abbrev pub before : List ℕ
    before = closed_of kind (body_bytes kind.id depth_limit rs ps ns nm o) has (offset_of kind.id rs ps) toc

    -- what stands between the entries and the trailer
    abbrev pub behind_entries : List ℕ
    behind_entries = extensions_of (extensions_asked kind.id depth_limit ns nm o) ++ eoie_part kind has (offset_of kind.id rs ps) toc

    abbrev pub count : ℕ
    count = count_of rs records 0

    pub tree_small : length (body_bytes kind.id depth_limit rs ps ns nm o) ≤ most → writes_tree o ≡ true → length (tree_body ns nm) < 2 ^ 32
    unfolding body_bytes body_of
    tree_small h e =
        let front : List ℕ = front_of kind.id rs ps (version_of rs) count in
        let part : Bool → List ℕ = λ w. pick w (tree_body ns nm) [] in
        let same : part (writes_tree o) ≡ tree_body ns nm = ap part e in
        omega (arith, length-append front (extensions_of (extensions_asked kind.id depth_limit ns nm o)), length-extensions (signed_for (writes_tree o) (tree_body ns nm) o.sparse), size_for (writes_tree o) (tree_body ns nm) o.sparse, ap length same)

    cache_tree : CacheTree kind.id (header_length + length (table_bytes kind.id rs ps)) extensions_here (tree_meant rs ps ns nm o)
    cache_tree = by (writes_tree o)
      where
        of : {t : Option Tree} → SaysTree kind.id (header_length + length (table_bytes kind.id rs ps) + 8) (tree_body ns nm) t
            → CacheTree kind.id (header_length + length (table_bytes kind.id rs ps)) (extensions_meant true (tree_body ns nm) o.sparse has eoie_body) t
        of (is_tree x) = spelled (last_tree (header_length + length (table_bytes kind.id rs ps)) (tree_body ns nm) o.sparse has eoie_body) x
        of (no_tree f) = malformed (last_tree (header_length + length (table_bytes kind.id rs ps)) (tree_body ns nm) o.sparse has eoie_body) f

        by : (w : Bool) → CacheTree kind.id (header_length + length (table_bytes kind.id rs ps)) (extensions_meant w (tree_body ns nm) o.sparse has eoie_body) (pick w (read_tree kind.id (tree_place rs ps) (tree_body ns nm)) none)
        by true = of (tree_says kind.id (tree_place rs ps) (tree_body ns nm))
        by false = absent (no-TREE (tree_body ns nm) o.sparse has eoie_body)

    -- the bytes by their parts
    pub written_parts : written rs ps ns nm o ≡ header_of (version_of rs) count ++ (table_bytes kind.id rs ps ++ (behind_entries ++ trailer_of kind o.unhashed before))
    unfolding file_bytes file_of closed_of body_bytes body_of front_of
    written_parts =
        let h : List ℕ = header_of (version_of rs) count in
        let t : List ℕ = table_bytes kind.id rs ps in
        let x : List ℕ = extensions_of (extensions_asked kind.id depth_limit ns nm o) in
        let e : List ℕ = eoie_part kind has (offset_of kind.id rs ps) toc in
        let r : List ℕ = trailer_of kind o.unhashed (((h ++ t) ++ x) ++ e) in
        append_assoc ((h ++ t) ++ x) e r ∙ append_assoc (h ++ t) x (e ++ r) ∙ append_assoc h t (x ++ (e ++ r)) ∙ ap (λ (l : List ℕ). h ++ (t ++ l)) (sym (append_assoc x e r))

    module _ (few : records_in rs ≤ most) (short : length (body_bytes kind.id depth_limit rs ps ns nm o) ≤ most) where
      pub header_here : Header (header_of (version_of rs) count) (version_of rs) count
      header_here = header_spelled (version_of rs) count (version_small (any_extended rs records 0)) (supported (any_extended rs records 0)) (omega (arith, count_small rs records 0))

      pub extensions_here_lem : Extensions behind_entries extensions_here
      extensions_here_lem = extensions_spelled kind (writes_tree o) (tree_body ns nm) o.sparse has (offset_of kind.id rs ps) toc (tree_small short)

      pub entries_here : PathsEnd rs ps → Entries kind.id (version_of rs) start count (table_bytes kind.id rs ps) (meanings_of kind.id rs ps)
      entries_here ends = entries_spelled kind.id (version_of rs) rs ps kind.fits (not_four (any_extended rs records 0)) ends records 0 start (omega arith)

      pub file_spelled : PathsEnd rs ps → File kind.id (written rs ps ns nm o) (index_of rs ps ns nm o)
      file_spelled ends =
          subst (λ (b : List ℕ). File kind.id b (index_of rs ps ns nm o)) (sym written_parts)
          (file header_here (entries_here ends) extensions_here_lem
          (record { size = length-trailer kind o.unhashed before })
          (either_marks (sparse_tells (meanings_of kind.id rs ps)) (marks_sdir (writes_tree o) (tree_body ns nm) o.sparse has eoie_body)) cache_tree)

  -- ---- THE THEOREM: where the writer answers Done, the first `size` bytes of what the output holds are spelled, and mean the table

  module _ (rs : List ℕ) (ps : Paths) (ns nm : List ℕ) (o : Options) (out : List ℕ) (version size : ℕ) (done : (write_all kind depth_limit rs ps ns nm o out).answer ≡ Ok (written_with version size)) where
    -- the file: the first `size` bytes of the output
    abbrev pub file_in : List ℕ
    file_in = take size (write_all kind depth_limit rs ps ns nm o out).out

    pub file_is : file_in ≡ written rs ps ns nm o
    file_is =
        let d = done_says rs ps ns nm o out version size done in
        ap (λ (l : List ℕ). take size l) d.after_is ∙ take_at (written rs ps ns nm o) (drop (length (written rs ps ns nm o)) out) size (sym d.size_is)

    pub written_is_spelled : PathsEnd rs ps → File kind.id file_in (index_of rs ps ns nm o)
    written_is_spelled ends =
        let d = done_says rs ps ns nm o out version size done in
        subst (λ (b : List ℕ). File kind.id b (index_of rs ps ns nm o)) (sym file_is) (file_spelled rs ps ns nm o d.few d.short ends)
