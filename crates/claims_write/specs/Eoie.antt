-- EOIE AS IT IS WRITTEN IS FOUND by the EOIE reader, with the offset at which the extensions start. Assumes nothing.
use Prim.Native.Nat.{ℕ, suc, ◌+◌, ◌^◌, ◌≤◌, ◌<◌}
use Rattle.std.proofs.Math.Path.{◌≡◌, refl, sym, ap}
use Rattle.std.proofs.Common.{◌∙◌, subst, take_at, drop_at, drop-drop}
use Rattle.std.proofs.Math.Bool.{Bool, true, false}
use mathlib.Core.List.{List, [], ◌∷◌, ◌++◌, append_assoc, flatten}
use native.Mathlib.Omega.{arith}
use Rattle.std.proofs.Math.Dec.{lit<}
use Rattle.std.specs.Prelude.{ltb, drop, Ok, Some}
use Rattle.std.proofs.Math.ListN.{length, take, length-append}
use Rattle.laws.specs.Pick.{pick}
use Rattle.wire.specs.BigEndian.{be_at, bytes_of, length-bytes, be_left, be_right, be_bytes}
use Rattle.wire.specs.Places.{file_at}
use Rattle.format.specs.Format.{depth_limit}
use Rattle.entry.specs.Paths.{Paths}
use Rattle.entry.specs.Record.{records_in}
use Rattle.extension.specs.Signatures as reader
use Rattle.extension.specs.Iter.{Found, filled}
use Rattle.extension.specs.EndOfIndexEntry.{headers_of, offset_in}
use Rattle.extension.specs.Theorems.{Chain, chain_filled, chain_more}
use Rattle.extension.proofs.Telling.{beginning, Tells, tells_told}
use Rattle.write.specs.declared.Options.{Options}
use Rattle.write_entries.specs.Entries.{table_bytes}
use Rattle.write.specs.File.{header_of, extension_head, Extension, extensions_for, writes_other, extensions_of, contents, extensions_asked, eoie_part, trailer_of, front_of, body_of, offset_of, closed_of, file_of, writes_tree, has_eoie, body_bytes, file_bytes, most, version_of, write_all}
use Rattle.kind.specs.Kind.{Kind}
use Rattle.write.specs.Parts.{length-head, length-header, length-trailer}
use Rattle.claims_write.specs.Extensions.{EOIE}
use Rattle.claims_write.specs.Spelled.{tree_body, written, done_says, file_in, file_is, tree_small, count, before}
use Rattle.write.specs.Made.{written_with}

-- ---- extensions whose signatures and sizes have four bytes

pub data Sized : List Extension → Type 0 where
  none_left : Sized []
  one_sized : {e : Extension} {es : List Extension} → length e.signature ≡ 4 → length e.body < 2 ^ 32 → Sized es → Sized (e ∷ es)

-- ---- a head where it stands

module _ (p signature : List ℕ) (size : ℕ) (rest : List ℕ) (four : length signature ≡ 4) where
  size_here : size < 2 ^ 32 → be_at 4 (p ++ (extension_head signature size ++ rest)) (length p + 4) ≡ size
  unfolding extension_head
  size_here h =
      be_right 4 p ((signature ++ bytes_of 4 size) ++ rest) (length p) 4 refl
      ∙ be_left 4 (signature ++ bytes_of 4 size) rest 4 (omega (arith, length-append signature (bytes_of 4 size), length-bytes 4 size))
      ∙ be_right 4 signature (bytes_of 4 size) 4 0 four
      ∙ be_bytes 4 size h

  head_here : take 8 (drop (length p) (p ++ (extension_head signature size ++ rest))) ≡ extension_head signature size
  head_here = ap (λ (l : List ℕ). take 8 l) (drop_at p (extension_head signature size ++ rest) (length p) refl) ∙ take_at (extension_head signature size) rest 8 (length-head signature size four)

-- ---- the chain

unfoldable found_from : List ℕ → ℕ → List Extension → List Found
found_from w at [] = []
found_from w at (e ∷ es) =
    record { signature = be_at 4 w at; place = at; start = file_at (at + 8); stop = file_at (at + 8 + length e.body) } ∷ found_from w (at + 8 + length e.body) es

found_length : (w : List ℕ) (es : List Extension) (at : ℕ) → length (found_from w at es) ≡ length es
unfolding found_from
found_length w [] at = refl
found_length w (e ∷ es) at = ap suc (found_length w es (at + 8 + length e.body))

module _ (w : List ℕ) (end : ℕ) (inside : end ≤ length w) where
  -- the bytes around the first of them
  around : (e : Extension) (es : List Extension) (p q : List ℕ) → w ≡ p ++ (extensions_of (e ∷ es) ++ q) → w ≡ p ++ (extension_head e.signature (length e.body) ++ (e.body ++ (extensions_of es ++ q)))
  unfolding extensions_of
  around e es p q i =
      let h : List ℕ = extension_head e.signature (length e.body) in
      i ∙ ap (λ (l : List ℕ). p ++ l) (append_assoc (h ++ e.body) (extensions_of es) q ∙ append_assoc h e.body (extensions_of es ++ q))

  past : (e : Extension) (es : List Extension) (p q : List ℕ) → w ≡ p ++ (extensions_of (e ∷ es) ++ q) → w ≡ (p ++ (extension_head e.signature (length e.body) ++ e.body)) ++ (extensions_of es ++ q)
  unfolding extensions_of
  past e es p q i =
      let h : List ℕ = extension_head e.signature (length e.body) in
      i ∙ ap (λ (l : List ℕ). p ++ l) (append_assoc (h ++ e.body) (extensions_of es) q) ∙ sym (append_assoc p (h ++ e.body) (extensions_of es ++ q))

  -- how far the first of them goes
  step : (e : Extension) (p : List ℕ) → length e.signature ≡ 4 → length (p ++ (extension_head e.signature (length e.body) ++ e.body)) ≡ length p + 8 + length e.body
  step e p l =
      let h : List ℕ = extension_head e.signature (length e.body) in
      omega (arith, length-append p (h ++ e.body), length-append h e.body, length-head e.signature (length e.body) l)

  length_framed : (e : Extension) (es : List Extension) → length e.signature ≡ 4 → length (extensions_of (e ∷ es)) ≡ 8 + length e.body + length (extensions_of es)
  unfolding extensions_of
  length_framed e es l =
      let h : List ℕ = extension_head e.signature (length e.body) in
      omega (arith, length-append (h ++ e.body) (extensions_of es), length-append h e.body, length-head e.signature (length e.body) l)

  framed_none : length (extensions_of []) ≡ 0
  unfolding extensions_of
  framed_none = refl

  chain_of : {es : List Extension} → Sized es → (p q : List ℕ) (at : ℕ) → at ≡ length p → w ≡ p ++ (extensions_of es ++ q) → end ≡ length p + length (extensions_of es) → Chain w end at (found_from w at es) filled
  unfolding found_from
  chain_of none_left p q at a i f = let e : at ≡ end = omega (arith, framed_none) in chain_filled inside e
  chain_of (one_sized {e = e} {es = es} l h rest) p q at a i f =
      let z : be_at 4 w (at + 4) ≡ length e.body =
      ap (λ (j : ℕ). be_at 4 w (j + 4)) a ∙ ap (λ (s : List ℕ). be_at 4 s (length p + 4)) (around e es p q i) ∙ size_here p e.signature (length e.body) (e.body ++ (extensions_of es ++ q)) l h in
      let g : at + 8 + length e.body ≤ end = omega (arith, length_framed e es l) in
      chain_more {at = at} (record { fits = record { inside = inside; whole = omega arith }; begins = refl; named = refl; starts = refl; stops = ap (λ (j : ℕ). file_at (at + 8 + j)) (sym z) })
      (chain_of rest (p ++ (extension_head e.signature (length e.body) ++ e.body)) q (at + 8 + length e.body) (omega (arith, step e p l)) (past e es p q i) (omega (arith, step e p l, length_framed e es l)))

  heads_of_lem : {es : List Extension} → Sized es → (p q : List ℕ) (at : ℕ) → at ≡ length p → w ≡ p ++ (extensions_of es ++ q) → flatten (headers_of w (found_from w at es)) ≡ contents es
  unfolding found_from headers_of contents flatten
  heads_of_lem none_left p q at a i = refl
  heads_of_lem (one_sized {e = e} {es = es} l h rest) p q at a i =
      let x : take 8 (drop at w) ≡ extension_head e.signature (length e.body) =
      ap (λ (j : ℕ). take 8 (drop j w)) a ∙ ap (λ (s : List ℕ). take 8 (drop (length p) s)) (around e es p q i) ∙ head_here p e.signature (length e.body) (e.body ++ (extensions_of es ++ q)) l in
      let y = heads_of_lem rest (p ++ (extension_head e.signature (length e.body) ++ e.body)) q (at + 8 + length e.body) (omega (arith, step e p l)) (past e es p q i) in
      λ j. x j ++ y j

module _ (kind : Kind) where
  -- ---- EOIE behind them

  -- EOIE as it is written: where the extensions start, and the hash of their signatures and sizes
  abbrev pub eoie_of : ℕ → List ℕ → List ℕ
  eoie_of offset heads = (extension_head EOIE (4 + kind.id) ++ bytes_of 4 offset) ++ kind.hash heads

  module _ (front r : List ℕ) (offset : ℕ) (es : List Extension) (offset_is : offset ≡ length front) (low : 12 ≤ length front) (high : length front < 2 ^ 32) (trailer : length r ≡ kind.id) (sized : Sized es) where
    -- a file: what stands before the extensions, they, EOIE and the trailer
    abbrev whole : List ℕ
    whole = front ++ (extensions_of es ++ (eoie_of offset (contents es) ++ r))

    abbrev until : List ℕ
    until = front ++ extensions_of es

    whole_is : whole ≡ until ++ (eoie_of offset (contents es) ++ r)
    whole_is = sym (append_assoc front (extensions_of es) (eoie_of offset (contents es) ++ r))

    -- EOIE from its head on
    eoie_is : eoie_of offset (contents es) ++ r ≡ extension_head EOIE (4 + kind.id) ++ (bytes_of 4 offset ++ (kind.hash (contents es) ++ r))
    eoie_is = append_assoc (extension_head EOIE (4 + kind.id) ++ bytes_of 4 offset) (kind.hash (contents es)) r ∙ append_assoc (extension_head EOIE (4 + kind.id)) (bytes_of 4 offset) (kind.hash (contents es) ++ r)

    length_eoie : length (eoie_of offset (contents es)) ≡ 12 + kind.id
    length_eoie =
        omega (arith, length-append (extension_head EOIE (4 + kind.id) ++ bytes_of 4 offset) (kind.hash (contents es)), length-append (extension_head EOIE (4 + kind.id)) (bytes_of 4 offset), length-head EOIE (4 + kind.id) refl, length-bytes 4 offset, kind.answers (contents es))

    long_enough : length whole ≡ length until + (12 + kind.id + kind.id)
    long_enough = ap length whole_is ∙ omega (arith, length-append until (eoie_of offset (contents es) ++ r), length-append (eoie_of offset (contents es)) r, length_eoie)

    begins : beginning kind.id whole ≡ length until
    begins = omega (arith, long_enough)

    at_eoie : whole ≡ until ++ (extension_head EOIE (4 + kind.id) ++ (bytes_of 4 offset ++ (kind.hash (contents es) ++ r)))
    at_eoie = whole_is ∙ ap (λ (l : List ℕ). until ++ l) eoie_is

    eoie_named : (rest : List ℕ) → be_at 4 (extension_head EOIE (4 + kind.id) ++ rest) 0 ≡ reader.EOIE
    unfolding extension_head be_at
    eoie_named rest = refl

    named : be_at 4 whole (length until) ≡ reader.EOIE
    named =
        let rest : List ℕ = bytes_of 4 offset ++ (kind.hash (contents es) ++ r) in
        let e : length until ≡ length until + 0 = omega arith in
        (λ j. be_at 4 (at_eoie j) (e j)) ∙ be_right 4 until (extension_head EOIE (4 + kind.id) ++ rest) (length until) 0 refl ∙ eoie_named rest

    size_is : be_at 4 whole (length until + 4) ≡ 4 + kind.id
    size_is = ap (λ (s : List ℕ). be_at 4 s (length until + 4)) at_eoie ∙ size_here until EOIE (4 + kind.id) (bytes_of 4 offset ++ (kind.hash (contents es) ++ r)) refl (omega (arith, kind.fits))

    told : be_at 4 whole (length until + 8) ≡ offset
    told =
        let h : List ℕ = extension_head EOIE (4 + kind.id) in
        let rest : List ℕ = kind.hash (contents es) ++ r in
        ap (λ (s : List ℕ). be_at 4 s (length until + 8)) at_eoie
        ∙ be_right 4 until (h ++ (bytes_of 4 offset ++ rest)) (length until) 8 refl
        ∙ be_right 4 h (bytes_of 4 offset ++ rest) 8 0 (length-head EOIE (4 + kind.id) refl)
        ∙ be_left 4 (bytes_of 4 offset) rest 0 (omega (arith, length-bytes 4 offset))
        ∙ be_bytes 4 offset (omega arith)

    hash_is : take kind.id (drop (length until + 12) whole) ≡ kind.hash (contents es)
    hash_is =
        let h : List ℕ = extension_head EOIE (4 + kind.id) in
        let rest : List ℕ = kind.hash (contents es) ++ r in
        let l : length (h ++ bytes_of 4 offset) ≡ 12 = omega (arith, length-append h (bytes_of 4 offset), length-head EOIE (4 + kind.id) refl, length-bytes 4 offset) in
        let i : whole ≡ until ++ ((h ++ bytes_of 4 offset) ++ rest) = at_eoie ∙ ap (λ (s : List ℕ). until ++ s) (sym (append_assoc h (bytes_of 4 offset) rest)) in
        ap (λ (s : List ℕ). take kind.id (drop (length until + 12) s)) i
        ∙ ap (λ (s : List ℕ). take kind.id s) (sym (drop-drop 12 (length until) (until ++ ((h ++ bytes_of 4 offset) ++ rest))) ∙ ap (λ (s : List ℕ). drop 12 s) (drop_at until ((h ++ bytes_of 4 offset) ++ rest) (length until) refl) ∙ drop_at (h ++ bytes_of 4 offset) rest 12 l)
        ∙ take_at (kind.hash (contents es)) r kind.id (kind.answers (contents es))

    inside : length until ≤ length whole
    inside = omega (arith, long_enough)

    chained : Chain whole (length until) offset (found_from whole offset es) filled
    chained = chain_of whole (length until) inside sized front (eoie_of offset (contents es) ++ r) offset offset_is refl (length-append front (extensions_of es))

    heads : flatten (headers_of whole (found_from whole offset es)) ≡ contents es
    heads = heads_of_lem whole (length until) inside sized front (eoie_of offset (contents es) ++ r) offset offset_is refl

    true_told : 0 < length es → Tells kind whole offset
    true_told some = go (found_from whole offset es) (found_length whole es offset) chained heads
      where
        go : (fs : List Found) → length fs ≡ length es → Chain whole (length until) offset fs filled → flatten (headers_of whole fs) ≡ contents es → Tells kind whole offset
        go [] l c e = absurd (omega arith)
        go (f ∷ fs) l c e =
            record {
              long = omega (arith, long_enough);
              named = ap (λ (j : ℕ). be_at 4 whole j) begins ∙ named;
              sized = ap (λ (j : ℕ). be_at 4 whole (j + 4)) begins ∙ size_is;
              told = ap (λ (j : ℕ). be_at 4 whole (j + 8)) begins ∙ told;
              low = omega arith;
              high = omega (arith, begins, length-append front (extensions_of es));
              first = f;
              rest = fs;
              fills = subst (λ (j : ℕ). Chain whole j offset (f ∷ fs) filled) (sym begins) c;
              hashed = ap kind.hash e ∙ sym (ap (λ (j : ℕ). take kind.id (drop (j + 12) whole)) begins ∙ hash_is);
            }

  -- ---- the extensions before EOIE

  sized_others : (writes : Bool) (tree : List ℕ) (sparse : Bool) → (writes ≡ true → length tree < 2 ^ 32) → Sized (extensions_for writes tree sparse)
  sized_others true tree true h = one_sized refl (h refl) (one_sized refl (lit< tt) none_left)
  sized_others true tree false h = one_sized refl (h refl) none_left
  sized_others false tree true h = one_sized refl (lit< tt) none_left
  sized_others false tree false h = none_left

  -- EOIE is written only where there is one of them
  some_other : (n : ℕ) (o : Options) (tree : List ℕ) → has_eoie n o ≡ true → 0 < length (extensions_for (writes_tree o) tree o.sparse)
  unfolding has_eoie
  some_other n o tree e = by o.eoie (ltb 0 n) (writes_tree o) o.sparse e
    where
      by : (a b c d : Bool) → pick a (pick b (writes_other c d) false) false ≡ true → 0 < length (extensions_for c tree d)
      by false b c d e = let z : ◌≡◌ {A = ℕ} 0 1 = cc in absurd (omega arith)
      by true false c d e = let z : ◌≡◌ {A = ℕ} 0 1 = cc in absurd (omega arith)
      by true true false false e = let z : ◌≡◌ {A = ℕ} 0 1 = cc in absurd (omega arith)
      by true true false true e = lit< tt
      by true true true true e = lit< tt
      by true true true false e = lit< tt

  -- ---- THE THEOREM

  module _ (rs : List ℕ) (ps : Paths) (ns nm : List ℕ) (o : Options) where
    abbrev before_extensions : List ℕ
    before_extensions = header_of (version_of rs) (count kind rs ps ns nm o) ++ table_bytes kind.id rs ps

    abbrev here : List Extension
    here = extensions_asked kind.id depth_limit ns nm o

    abbrev last : List ℕ
    last = trailer_of kind o.unhashed (before kind rs ps ns nm o)

    with_eoie : has_eoie (records_in rs) o ≡ true → written kind rs ps ns nm o ≡ before_extensions ++ (extensions_of here ++ (eoie_of (offset_of kind.id rs ps) (contents here) ++ last))
    unfolding file_bytes file_of closed_of body_bytes body_of front_of eoie_part
    with_eoie e =
        let x : List ℕ = extensions_of here in
        let part : Bool → List ℕ = λ t. pick t (eoie_of (offset_of kind.id rs ps) (contents here)) [] in
        let r : List ℕ = trailer_of kind o.unhashed ((before_extensions ++ x) ++ part (has_eoie (records_in rs) o)) in
        append_assoc (before_extensions ++ x) (part (has_eoie (records_in rs) o)) r
        ∙ append_assoc before_extensions x (part (has_eoie (records_in rs) o) ++ r)
        ∙ ap (λ (t : Bool). before_extensions ++ (x ++ (part t ++ r))) e

    module _ (few : records_in rs ≤ most) (short : length (body_bytes kind.id depth_limit rs ps ns nm o) ≤ most) where
      offset_is : offset_of kind.id rs ps ≡ length before_extensions
      offset_is = omega (arith, length-append (header_of (version_of rs) (count kind rs ps ns nm o)) (table_bytes kind.id rs ps), length-header (version_of rs) (count kind rs ps ns nm o))

      offset_small : length before_extensions ≤ most
      unfolding body_bytes body_of front_of
      offset_small = omega (arith, length-append before_extensions (extensions_of here))

      found_in_written : has_eoie (records_in rs) o ≡ true → offset_in kind (written kind rs ps ns nm o) ≡ Some (file_at (offset_of kind.id rs ps))
      found_in_written e =
          let t = true_told before_extensions last (offset_of kind.id rs ps) here offset_is (omega (arith, offset_is)) (omega (arith, offset_small)) (length-trailer kind o.unhashed (before kind rs ps ns nm o))
          (sized_others (writes_tree o) (tree_body kind ns nm) o.sparse (tree_small kind rs ps ns nm o short)) (some_other (records_in rs) o (tree_body kind ns nm) e) in
          ap (λ (s : List ℕ). offset_in kind s) (with_eoie e) ∙ tells_told kind (before_extensions ++ (extensions_of here ++ (eoie_of (offset_of kind.id rs ps) (contents here) ++ last))) (offset_of kind.id rs ps) t

  -- where the writer answers Done and EOIE is written, the EOIE reader finds it and tells where the extensions start
  pub eoie_is_found : (rs : List ℕ) (ps : Paths) (ns nm : List ℕ) (o : Options) (out : List ℕ) (version size : ℕ) (done : (write_all kind depth_limit rs ps ns nm o out).answer ≡ Ok (written_with version size)) → has_eoie (records_in rs) o ≡ true
      → offset_in kind (file_in kind rs ps ns nm o out version size done) ≡ Some (file_at (offset_of kind.id rs ps))
  eoie_is_found rs ps ns nm o out version size done e =
      let d = done_says kind rs ps ns nm o out version size done in
      ap (λ (s : List ℕ). offset_in kind s) (file_is kind rs ps ns nm o out version size done) ∙ found_in_written rs ps ns nm o d.few d.short e
