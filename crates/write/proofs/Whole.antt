-- Laws of the whole file, turned the way that the needs ask. Assumes nothing.
use Prim.Native.Nat.{ℕ, ◌+◌, ◌≤◌, ◌<◌}
use mathlib.Core.Bool.{Bool, true, false}
use mathlib.Core.Path.{◌≡◌, refl, sym, ap, ◌∙◌}
use mathlib.Core.List.{List, [], ◌∷◌, ◌++◌, append_assoc}
use native.Mathlib.Omega.{arith}
use Rattle.std.specs.Prelude.{Option, Some, None, is_some, unwrap_or}
use lib.ListN.{length, take, drop, length-append}
use lib.Seq.{paste, take_at, length-take-le}
use borrow.Author.Tests.{lt-ltb, le-ltb, le-leb}
use Rattle.laws.specs.Put.{put_then, put, put_none, put_front, length-put, paste_put}
use Rattle.wire.specs.BigEndian.{bytes_of, length-bytes}
use Rattle.sums.specs.Cap.{cap, cap_fits, cap_cap, cap_cap_right}
use Rattle.format.specs.Format.{depth_limit, id_size}
use Rattle.kind.specs.Sha1.{sha1_kind}
use Rattle.entry.specs.Paths.{Paths}
use Rattle.tree_write.specs.Tree.{tree_bytes, put_fit}
use Rattle.proper.specs.Proper.{is_proper}
use Rattle.write.specs.declared.Options.{Options}
use Rattle.write_entries.specs.Entries.{table_bytes, put_table}
use Rattle.write_entries.specs.Fitting.{table_fits}
use Rattle.write.proofs.Laws.{eoie_none}
use Rattle.write.specs.Parts.{length-header, length_tree_head, length_sparse, length_eoie}
use Rattle.write.specs.Extensions.{length-extensions, signed_for, size_for, bytes_for, contents_for}
use Rattle.write.specs.File.{header_of, head_size, end_size, extensions_for, writes_other, extensions_of, contents, tree_head, sparse_part, heads_of, eoie_part, trailer_of, end_of, front_of, body_of, closed_of, file_of, writes_tree, has_eoie, tree_of, tree_fits}

-- ---- what is asked for

module _ (o : Options) where
  pub tree_given : o.tree ≡ true → o.cache ≡ writes_tree o
  unfolding writes_tree
  tree_given h = sym (rw h)

  pub tree_missing : o.tree ≡ false → false ≡ writes_tree o
  unfolding writes_tree
  tree_missing h = sym (rw h)

module _ (o : Options) (records : ℕ) where
  pub eoie_unasked : o.eoie ≡ false → false ≡ has_eoie records o
  unfolding has_eoie
  eoie_unasked h = sym (rw h)

  module _ (h : o.eoie ≡ true) where
    pub eoie_empty : records ≤ 0 → false ≡ has_eoie records o
    unfolding has_eoie
    eoie_empty k = sym (rw (h, le-ltb 0 records k))

    module _ (k : 0 < records) (writes : Bool) (e : writes ≡ writes_tree o) where
      opened : has_eoie records o ≡ writes_other writes o.sparse
      unfolding has_eoie writes_tree
      opened = rw (h, lt-ltb 0 records k) (ap (λ (w : Bool). writes_other w o.sparse) (sym e))

      pub eoie_tree : writes ≡ true → true ≡ has_eoie records o
      eoie_tree l = sym (opened ∙ ap (λ (w : Bool). writes_other w o.sparse) l ∙ by o.sparse)
        where
          by : (s : Bool) → writes_other true s ≡ true
          by true = refl
          by false = refl

      pub eoie_sparse : writes ≡ false → o.sparse ≡ has_eoie records o
      eoie_sparse l = sym (opened ∙ ap (λ (w : Bool). writes_other w o.sparse) l ∙ by o.sparse)
        where
          by : (s : Bool) → writes_other false s ≡ s
          by true = refl
          by false = refl

-- ---- the tree

module _ (ns nm : List ℕ) (writes : Bool) where
  pub fits_written : writes ≡ true → (t : Bool) → t ≡ is_proper depth_limit ns nm → t ≡ tree_fits depth_limit ns nm writes
  unfolding tree_fits
  fits_written h t e = e ∙ sym (rw h)

  pub fits_unwritten : writes ≡ false → true ≡ tree_fits depth_limit ns nm writes
  unfolding tree_fits
  fits_unwritten h = sym (rw h)

  written : writes ≡ true → tree_of id_size depth_limit ns nm writes ≡ tree_bytes id_size depth_limit ns nm
  unfolding tree_of
  written h = rw h

  unwritten : writes ≡ false → tree_of id_size depth_limit ns nm writes ≡ []
  unfolding tree_of
  unwritten h = rw h

  pub length-written : writes ≡ true → (n : ℕ) → n ≡ cap (length (tree_bytes id_size depth_limit ns nm)) → n ≡ cap (length (tree_of id_size depth_limit ns nm writes))
  length-written h n e = e ∙ ap (λ (t : List ℕ). cap (length t)) (sym (written h))

  pub length_unwritten : writes ≡ false → 0 ≡ cap (length (tree_of id_size depth_limit ns nm writes))
  length_unwritten h = sym (ap (λ (t : List ℕ). cap (length t)) (unwritten h) ∙ cap_fits 0 (omega arith))

  pub put_written : writes ≡ true → (d d₁ : List ℕ) (k : ℕ) → k + length (tree_of id_size depth_limit ns nm writes) ≤ length d → d₁ ≡ put_fit d k (tree_bytes id_size depth_limit ns nm) → d₁ ≡ put d k (tree_of id_size depth_limit ns nm writes)
  unfolding put_fit
  put_written h d d₁ k room e =
      let l : k + length (tree_bytes id_size depth_limit ns nm) ≤ length d = omega (arith, ap length (written h)) in
      e ∙ (rw (le-leb (k + length (tree_bytes id_size depth_limit ns nm)) (length d) l)) ∙ ap (λ (t : List ℕ). put d k t) (sym (written h))

  pub put_unwritten : writes ≡ false → (d : List ℕ) (k : ℕ) → d ≡ put d k (tree_of id_size depth_limit ns nm writes)
  put_unwritten h d k = sym (ap (λ (t : List ℕ). put d k t) (unwritten h) ∙ put_none d k)

module _ (ns nm : List ℕ) (tree : Option ℕ) where
  pub tree_end : (size k : ℕ) → tree ≡ Some size → unwrap_or tree 0 ≡ length (tree_of id_size depth_limit ns nm (is_some tree)) → k + size ≡ k + length (tree_of id_size depth_limit ns nm (is_some tree))
  tree_end size k e l = ap (λ (n : ℕ). k + n) (ap (λ (t : Option ℕ). unwrap_or t 0) (sym e) ∙ l)

  pub tree_written : (size : ℕ) → tree ≡ Some size → (d d₁ : List ℕ) (k : ℕ) → k + length (tree_of id_size depth_limit ns nm (is_some tree)) ≤ length d → d₁ ≡ put_fit d k (tree_bytes id_size depth_limit ns nm)
      → d₁ ≡ put d k (tree_of id_size depth_limit ns nm (is_some tree))
  tree_written size e = put_written ns nm (is_some tree) (ap (λ (t : Option ℕ). is_some t) e)

  module _ (e : tree ≡ None) where
    unasked : is_some tree ≡ false
    unasked = ap (λ (t : Option ℕ). is_some t) e

    pub tree_stays : (k : ℕ) → k ≡ k + length (tree_of id_size depth_limit ns nm (is_some tree))
    tree_stays k = omega (arith, ap length (unwritten ns nm (is_some tree) unasked))

    pub tree_unwritten : (d : List ℕ) (k : ℕ) → d ≡ put d k (tree_of id_size depth_limit ns nm (is_some tree))
    tree_unwritten = put_unwritten ns nm (is_some tree) unasked

-- ---- bytes put side by side

pub header_put : (d d₁ d₂ d₃ : List ℕ) (version count : ℕ) → 12 ≤ length d → d₁ ≡ paste d 0 (68 ∷ 73 ∷ 82 ∷ 67 ∷ []) 4 → d₂ ≡ paste d₁ 4 (bytes_of 4 version) 4 → d₃ ≡ paste d₂ 8 (bytes_of 4 count) 4 → d₃ ≡ put d 0 (header_of version count)
unfolding header_of
header_put d d₁ d₂ d₃ version count room e₁ e₂ e₃ =
    let s : List ℕ = 68 ∷ 73 ∷ 82 ∷ 67 ∷ [] in
    let v : List ℕ = bytes_of 4 version in
    let c : List ℕ = bytes_of 4 count in
    let q₁ : d₁ ≡ put d 0 s = e₁ ∙ paste_put d s 0 4 refl in
    let q₂ : d₂ ≡ put d 0 (s ++ v) = put_then d d₁ d₂ s v 0 4 q₁ refl (e₂ ∙ paste_put d₁ v 4 4 (sym (length-bytes 4 version))) (omega arith) in
    let p₂ : 8 ≡ 0 + length (s ++ v) = omega (arith, length-append s v, length-bytes 4 version) in
    put_then d d₂ d₃ (s ++ v) c 0 8 q₂ p₂ (e₃ ∙ paste_put d₂ c 8 4 (sym (length-bytes 4 count))) (omega arith)

-- ---- header and entries

module _ (rs : List ℕ) (ps : Paths) (version count : ℕ) where
  abbrev h : List ℕ
  h = header_of version count

  abbrev es : List ℕ
  es = table_bytes id_size rs ps

  pub length-front_of : length (front_of id_size rs ps version count) ≡ 12 + length (table_bytes id_size rs ps)
  unfolding front_of
  length-front_of = omega (arith, length-header version count, length-append h es)

  module _ (d : List ℕ) (room : length (front_of id_size rs ps version count) ≤ length d) where
    pub front_header : 12 ≤ length d
    front_header = omega (arith, length-front_of)

    module _ (d₁ : List ℕ) (e₁ : d₁ ≡ put d 0 (header_of version count)) where
      front_entries : 12 + length (table_bytes id_size rs ps) ≤ length d₁
      front_entries = omega (arith, length-front_of, ap length e₁, length-put d h 0 (omega (arith, length-front_of, length-header version count)))

      module _ (r : ℕ) (d₂ : List ℕ) (e₂ : (r, d₂) ≡ put_table id_size rs ps 12 d₁) where
        all : ◌≡◌ {A = ℕ × List ℕ} (r, d₂) (12 + length (table_bytes id_size rs ps), put d₁ 12 (table_bytes id_size rs ps))
        all = e₂ ∙ table_fits id_size rs ps 12 d₁ front_entries

        pub front_next : r ≡ 12 + length (table_bytes id_size rs ps)
        front_next = ap (λ (x : ℕ × List ℕ). x.0) all

        pub front_put : d₂ ≡ put d 0 (front_of id_size rs ps version count)
        unfolding front_of
        front_put = put_then d d₁ d₂ h es 0 12 e₁ (omega (arith, length-header version count)) (ap (λ (x : ℕ × List ℕ). x.1) all) (omega arith)

-- ---- TREE and `sdir`

module _ (writes : Bool) (ns nm : List ℕ) (sparse : Bool) where
  abbrev t : List ℕ
  t = tree_of id_size depth_limit ns nm writes

  abbrev th : List ℕ
  th = tree_head writes (length t)

  both : extensions_of (extensions_for writes (tree_bytes id_size depth_limit ns nm) sparse) ≡ (th ++ t) ++ sparse_part sparse
  unfolding tree_of
  both = bytes_for writes (tree_bytes id_size depth_limit ns nm) sparse

  pub length_both : length (extensions_of (extensions_for writes (tree_bytes id_size depth_limit ns nm) sparse)) ≡ head_size writes + length (tree_of id_size depth_limit ns nm writes) + head_size sparse
  unfolding tree_of
  length_both = length-extensions (signed_for writes (tree_bytes id_size depth_limit ns nm) sparse) ∙ size_for writes (tree_bytes id_size depth_limit ns nm) sparse

  pub heads_both : (n : ℕ) → n ≡ length (tree_of id_size depth_limit ns nm writes) → heads_of writes n sparse ≡ contents (extensions_for writes (tree_bytes id_size depth_limit ns nm) sparse)
  unfolding tree_of
  heads_both n en = ap (λ (x : ℕ). heads_of writes x sparse) en ∙ sym (contents_for writes (tree_bytes id_size depth_limit ns nm) sparse)

  module _ (n : ℕ) (en : n ≡ length (tree_of id_size depth_limit ns nm writes)) (d : List ℕ) (k : ℕ)
      (room : k + length (extensions_of (extensions_for writes (tree_bytes id_size depth_limit ns nm) sparse)) ≤ length d) where
    headed : length (tree_head writes n) ≡ head_size writes
    headed = length_tree_head writes n

    pub extensions_head : k + length (tree_head writes n) ≤ length d
    extensions_head = omega (arith, length_both, headed)

    module _ (k₁ : ℕ) (p₁ : k₁ ≡ k + length (tree_head writes n)) (d₁ : List ℕ) (e₁ : d₁ ≡ put d k (tree_head writes n)) where
      long₁ : length d₁ ≡ length d
      long₁ = ap length e₁ ∙ length-put d (tree_head writes n) k extensions_head

      pub extensions_tree : k₁ + length (tree_of id_size depth_limit ns nm writes) ≤ length d₁
      extensions_tree = omega (arith, length_both, headed, long₁)

      module _ (k₂ : ℕ) (p₂ : k₂ ≡ k₁ + length (tree_of id_size depth_limit ns nm writes)) (d₂ : List ℕ) (e₂ : d₂ ≡ put d₁ k₁ (tree_of id_size depth_limit ns nm writes)) where
        pub extensions_sparse : k₂ + length (sparse_part sparse) ≤ length d₂
        extensions_sparse = omega (arith, length_both, headed, length_sparse sparse, long₁, ap length e₂, length-put d₁ t k₁ extensions_tree)

        pub extensions_next : (k₃ : ℕ) → k₃ ≡ k₂ + length (sparse_part sparse) → k₃ ≡ k + length (extensions_of (extensions_for writes (tree_bytes id_size depth_limit ns nm) sparse))
        extensions_next k₃ p₃ = omega (arith, length_both, headed, length_sparse sparse)

        pub extensions_put : (d₃ : List ℕ) → d₃ ≡ put d₂ k₂ (sparse_part sparse) → d₃ ≡ put d k (extensions_of (extensions_for writes (tree_bytes id_size depth_limit ns nm) sparse))
        extensions_put d₃ e₃ =
            let z : tree_head writes n ≡ th = ap (λ (x : ℕ). tree_head writes x) en in
            let q₁ : d₁ ≡ put d k th = e₁ ∙ ap (λ (x : List ℕ). put d k x) z in
            let q₂ : d₂ ≡ put d k (th ++ t) = put_then d d₁ d₂ th t k k₁ q₁ (p₁ ∙ ap (λ (x : List ℕ). k + length x) z) e₂ (omega arith) in
            let n₂ : k₂ ≡ k + length (th ++ t) = omega (arith, length-append th t, ap length z) in
            put_then d d₂ d₃ (th ++ t) (sparse_part sparse) k k₂ q₂ n₂ e₃ (omega arith) ∙ ap (λ (x : List ℕ). put d k x) (sym both)

-- ---- EOIE and the trailer

module _ (skips : Bool) (d e : List ℕ) (k : ℕ) (room : k + (length e + id_size) ≤ length d) where
  pub end_eoie : k + length e ≤ length d
  end_eoie = omega arith

  module _ (d₁ : List ℕ) (k₁ : ℕ) (p₁ : k₁ ≡ k + length e) (e₁ : d₁ ≡ put d k e) where
    pub end_trailer : k₁ + id_size ≤ length d₁
    end_trailer = omega (arith, ap length e₁, length-put d e k end_eoie)

    before : take k₁ d₁ ≡ take k d ++ e
    unfolding put
    before = (λ j. take (p₁ j) (e₁ j)) ∙ take_at (take k d ++ e) (drop (k + length e) d) (k + length e) (omega (arith, length-append (take k d) e, length-take-le k d (omega arith)))

    pub end_put : (d₂ : List ℕ) → d₂ ≡ put d₁ k₁ (trailer_of sha1_kind skips (take k₁ d₁)) → d₂ ≡ put d k (end_of sha1_kind skips (take k d) e)
    unfolding end_of
    end_put d₂ e₂ = put_then d d₁ d₂ e (trailer_of sha1_kind skips (take k d ++ e)) k k₁ e₁ p₁ (e₂ ∙ ap (λ (x : List ℕ). put d₁ k₁ (trailer_of sha1_kind skips x)) before) (omega arith)

-- ---- sizes

module _ (there : Bool) where
  pub head_there : there ≡ true → 8 ≡ head_size there
  unfolding head_size
  head_there h = sym (rw h)

  pub head_absent : there ≡ false → 0 ≡ head_size there
  unfolding head_size
  head_absent h = sym (rw h)

  pub end_there : there ≡ true → 52 ≡ end_size id_size there
  unfolding end_size
  end_there h = sym (rw h)

  pub end_absent : there ≡ false → id_size ≡ end_size id_size there
  unfolding end_size
  end_absent h = sym (rw h)

pub sizes_sum : (front tree h l a b r : ℕ) (writes sparse : Bool) → h ≡ head_size writes → l ≡ head_size sparse → a ≡ cap (front + h) → b ≡ cap (a + tree) → r ≡ cap (b + l)
    → r ≡ cap (cap (cap (front + head_size writes) + tree) + head_size sparse)
sizes_sum front tree h l a b r writes sparse eh el ea eb er =
    er ∙ (λ j. cap (eb j + el j)) ∙ (λ j. cap (cap (ea j + tree) + head_size sparse)) ∙ ap (λ (x : ℕ). cap (cap (cap (front + x) + tree) + head_size sparse)) eh

pub length_eoie_part : (has : Bool) (offset : ℕ) (toc : List ℕ) → length (eoie_part sha1_kind has offset toc) + id_size ≡ end_size id_size has
unfolding end_size
length_eoie_part true offset toc = omega (arith, length_eoie sha1_kind true offset toc refl)
length_eoie_part false offset toc = omega (arith, eoie_none false offset toc refl 0)

module _ (rs : List ℕ) (ps : Paths) (ns nm : List ℕ) (version count : ℕ) (writes sparse : Bool) where
  abbrev front : List ℕ
  front = front_of id_size rs ps version count

  abbrev extensions : List ℕ
  extensions = extensions_of (extensions_for writes (tree_bytes id_size depth_limit ns nm) sparse)

  abbrev body : List ℕ
  body = body_of id_size rs ps version count (extensions_for writes (tree_bytes id_size depth_limit ns nm) sparse)

  -- THE BODY'S LENGTH
  pub length-body : length (body_of id_size rs ps version count (extensions_for writes (tree_bytes id_size depth_limit ns nm) sparse)) ≡ 12 + length (table_bytes id_size rs ps) + head_size writes + length (tree_of id_size depth_limit ns nm writes) + head_size sparse
  unfolding body_of
  length-body = omega (arith, length-append front extensions, length-front_of rs ps version count, length_both writes ns nm sparse)

  pub body_size : (size tree r : ℕ) → size ≡ cap (12 + length (table_bytes id_size rs ps)) → tree ≡ cap (length (tree_of id_size depth_limit ns nm writes)) → r ≡ cap (cap (cap (size + head_size writes) + tree) + head_size sparse)
      → r ≡ cap (length (body_of id_size rs ps version count (extensions_for writes (tree_bytes id_size depth_limit ns nm) sparse)))
  body_size size tree r es et er =
      let a : ℕ = 12 + length (table_bytes id_size rs ps) in
      let t : List ℕ = tree_of id_size depth_limit ns nm writes in
      let q₁ : cap (size + head_size writes) ≡ cap (a + head_size writes) = ap (λ (x : ℕ). cap (x + head_size writes)) es ∙ cap_cap a (head_size writes) in
      let q₂ : cap (cap (size + head_size writes) + tree) ≡ cap (a + head_size writes + length t)
      = (λ j. cap (q₁ j + et j)) ∙ cap_cap (a + head_size writes) (cap (length t)) ∙ cap_cap_right (a + head_size writes) (length t) in
      er ∙ ap (λ (x : ℕ). cap (x + head_size sparse)) q₂ ∙ cap_cap (a + head_size writes + length t) (head_size sparse) ∙ ap cap (sym length-body)

  -- the filling, from what its three steps ensure
  module _ (has : Bool) (n : ℕ) (en : n ≡ length (tree_of id_size depth_limit ns nm writes)) (skips : Bool) (d : List ℕ)
      (room : length (body_of id_size rs ps version count (extensions_for writes (tree_bytes id_size depth_limit ns nm) sparse)) + end_size id_size has ≤ length d) where
    pub fill_front : length (front_of id_size rs ps version count) ≤ length d
    fill_front = omega (arith, length-body, length-front_of rs ps version count)

    module _ (d₁ : List ℕ) (k₁ : ℕ) (p₁ : k₁ ≡ 12 + length (table_bytes id_size rs ps)) (e₁ : d₁ ≡ put d 0 (front_of id_size rs ps version count)) where
      filled₁ : length d₁ ≡ length d
      filled₁ = ap length e₁ ∙ length-put d front 0 (omega (arith, fill_front))

      pub fill_extensions : k₁ + length (extensions_of (extensions_for writes (tree_bytes id_size depth_limit ns nm) sparse)) ≤ length d₁
      fill_extensions = omega (arith, filled₁, length-body, length_both writes ns nm sparse)

      module _ (d₂ : List ℕ) (k₂ : ℕ) (p₂ : k₂ ≡ k₁ + length (extensions_of (extensions_for writes (tree_bytes id_size depth_limit ns nm) sparse)))
          (e₂ : d₂ ≡ put d₁ k₁ (extensions_of (extensions_for writes (tree_bytes id_size depth_limit ns nm) sparse))) where
        filled₂ : length d₂ ≡ length d
        filled₂ = ap length e₂ ∙ length-put d₁ extensions k₁ fill_extensions ∙ filled₁

        place : k₂ ≡ length (body_of id_size rs ps version count (extensions_for writes (tree_bytes id_size depth_limit ns nm) sparse))
        place = omega (arith, length-body, length_both writes ns nm sparse)

        pub fill_end_room : k₂ + (length (eoie_part sha1_kind has k₁ (heads_of writes n sparse)) + id_size) ≤ length d₂
        fill_end_room = omega (arith, filled₂, place, length_eoie_part has k₁ (heads_of writes n sparse))

        laid : d₂ ≡ put d 0 body
        unfolding body_of
        laid = put_then d d₁ d₂ front extensions 0 k₁ e₁ (omega (arith, length-front_of rs ps version count)) e₂ (omega arith)

        before_end : take k₂ d₂ ≡ body
        before_end = (λ j. take (place j) ((laid ∙ put_front d body) j)) ∙ take_at body (drop (length body) d) (length body) refl

        pub fill_put : (d₃ : List ℕ) → d₃ ≡ put d₂ k₂ (end_of sha1_kind skips (take k₂ d₂) (eoie_part sha1_kind has k₁ (heads_of writes n sparse)))
            → d₃ ≡ put d 0 (file_of sha1_kind (closed_of sha1_kind (body_of id_size rs ps version count (extensions_for writes (tree_bytes id_size depth_limit ns nm) sparse)) has (12 + length (table_bytes id_size rs ps)) (contents (extensions_for writes (tree_bytes id_size depth_limit ns nm) sparse))) skips)
        unfolding file_of closed_of end_of
        fill_put d₃ e₃ =
            let e : List ℕ = eoie_part sha1_kind has k₁ (heads_of writes n sparse) in
            let q : d₃ ≡ put d 0 (body ++ (e ++ trailer_of sha1_kind skips (body ++ e)))
            = put_then d d₂ d₃ body (e ++ trailer_of sha1_kind skips (body ++ e)) 0 k₂ laid (omega (arith, place)) (e₃ ∙ ap (λ (x : List ℕ). put d₂ k₂ (e ++ trailer_of sha1_kind skips (x ++ e))) before_end) (omega arith) in
            let same : e ≡ eoie_part sha1_kind has (12 + length (table_bytes id_size rs ps)) (contents (extensions_for writes (tree_bytes id_size depth_limit ns nm) sparse))
            = λ j. eoie_part sha1_kind has (p₁ j) (heads_both writes ns nm sparse n en j) in
            q
            ∙ ap (λ (x : List ℕ). put d 0 x) (sym (append_assoc body e (trailer_of sha1_kind skips (body ++ e))))
            ∙ ap (λ (x : List ℕ). put d 0 ((body ++ x) ++ trailer_of sha1_kind skips (body ++ x))) same

pub ruleset whole = (tree_given, tree_missing, eoie_unasked, eoie_empty, eoie_tree, eoie_sparse, fits_written, fits_unwritten, length-written, length_unwritten, header_put, tree_end, tree_written, tree_stays, tree_unwritten, front_header, front_next, front_put, extensions_head, extensions_tree, extensions_sparse, extensions_next, extensions_put, end_eoie, end_trailer, end_put, head_there, head_absent, end_there, end_absent, sizes_sum)

pub ruleset fills = (fill_front, fill_extensions, fill_end_room, fill_put)
