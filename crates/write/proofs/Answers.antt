-- Each answer of the writer, from what its passes found. Assumes nothing.
use Prim.Native.Nat.{ℕ, zero, suc, ◌+◌, ◌≤◌, ◌<◌}
use mathlib.Core.Bool.{Bool, true, false}
use mathlib.Core.Path.{◌≡◌, refl, sym, ap, ◌∙◌}
use mathlib.Core.List.{List, ◌++◌}
use Rattle.std.specs.Prelude.{Option, is_some, unwrap_or}
use Rattle.std.specs.Bool.{then_some}
use native.Mathlib.Omega.{arith}
use lib.ListN.{length, drop, length-append}
use borrow.Author.Tests.{lt-ltb, le-ltb}
use Rattle.laws.specs.Pick.{pick}
use Rattle.laws.specs.Put.{put, put_front}
use Rattle.sums.specs.Cap.{cap, cap_fits, cap_le, cap_below}
use Rattle.format.specs.Format.{depth_limit, id_size}
use Rattle.kind.specs.Sha1.{sha1_kind}
use Rattle.tree_write.specs.Tree.{tree_bytes}
use Rattle.entry.specs.Paths.{Paths}
use Rattle.entry.specs.Record.{records_in}
use Rattle.write.specs.declared.Options.{Options}
use Rattle.write_entries.specs.Entries.{is_gone, table_bytes, kept_of, count_of, First, found, nowhere, first_fault, on_first, size_table}
use Rattle.write_entries.specs.Size.{size_is}
use Rattle.write.specs.Parts.{length-trailer}
use Rattle.write.proofs.Whole.{length-body, body_size, length_eoie_part}
use Rattle.write.specs.File.{version_of, head_size, end_size, extensions_for, extensions_asked, contents, eoie_part, trailer_of, body_of, offset_of, closed_of, file_of, writes_tree, has_eoie, tree_of, tree_fits, body_bytes, file_bytes, Counted, most, outcome, write_file, write_table, write_all}
use Rattle.std.specs.Prelude.{Err, Ok, Result}
use Rattle.write.specs.Made.{written_with}
use Rattle.write.specs.declared.Error.{Error as WriteError}
use Rattle.write.specs.declared.Error.TheVariants.{NotProper, PathOutside, ShortOutput, TooLarge}
use Rattle.write.specs.declared.Written.{Written}
use Rattle.write_entries.specs.Made.{outside_at, sized_as}
use Rattle.write_entries.specs.declared.Outside.{Outside}
use Rattle.write_entries.specs.declared.Sized.{Sized}
use Rattle.laws.specs.Same.{ok_same, err_same}

-- ---- counts

kept_most : (rs : List ℕ) (i : ℕ) → kept_of rs i ≤ 1
unfolding kept_of
kept_most rs i = by (is_gone rs i)
  where
    by : (t : Bool) → pick t 0 1 ≤ 1
    by true = omega arith
    by false = omega arith

count_most : (rs : List ℕ) (n i : ℕ) → count_of rs n i ≤ n
unfolding count_of
count_most rs zero i = omega arith
count_most rs (suc n) i = omega (arith, kept_most rs i, count_most rs n (i + 1))

pub count_small : (rs : List ℕ) (ps : Paths) (version count size n : ℕ) → Counted id_size rs ps version count size → n ≡ records_in rs → n ≤ most → count ≤ most
count_small rs ps version count size n known en few = omega (arith, known.counted, count_most rs (records_in rs) 0)

pub tree_small : (a t h b : ℕ) → b ≡ cap (cap (a + t) + h) → b ≤ most → t ≤ most
tree_small a t h b e small =
    let p : cap (a + t) + h ≤ most = cap_below (cap (a + t) + h) most (omega arith) (omega arith) in
    omega (arith, cap_below (a + t) most (omega arith) (omega arith))

pub end_bound : (has : Bool) (e : ℕ) → e ≡ end_size id_size has → e ≤ 52
unfolding end_size
end_bound true e q = omega arith
end_bound false e q = omega arith

-- ---- the size of TREE, if TREE is written

is_there : (asked : Option ℕ) (writes : Bool) (n : ℕ) → asked ≡ then_some writes n → is_some asked ≡ writes
is_there asked writes n e = ap (λ (t : Option ℕ). is_some t) e ∙ by writes
  where
    by : (w : Bool) → is_some (then_some w n) ≡ w
    by true = refl
    by false = refl

asked_size : (ns nm : List ℕ) (writes : Bool) (n : ℕ) (asked : Option ℕ) → asked ≡ then_some writes n → n ≡ length (tree_of id_size depth_limit ns nm writes)
    → unwrap_or asked 0 ≡ length (tree_of id_size depth_limit ns nm (is_some asked))
unfolding tree_of
asked_size ns nm writes n asked e = by writes e
  where
    by : (w : Bool) → asked ≡ then_some w n → n ≡ length (tree_of id_size depth_limit ns nm w) → unwrap_or asked 0 ≡ length (tree_of id_size depth_limit ns nm (is_some asked))
    by true q l = ap (λ (t : Option ℕ). unwrap_or t 0) q ∙ l ∙ ap (λ (t : Option ℕ). length (tree_of id_size depth_limit ns nm (is_some t))) (sym q)
    by false q l = ap (λ (t : Option ℕ). unwrap_or t 0) q ∙ ap (λ (t : Option ℕ). length (tree_of id_size depth_limit ns nm (is_some t))) (sym q)

-- ---- a table that was sized

module _ (rs : List ℕ) (ps : Paths) (ns nm : List ℕ) (o : Options) where
  abbrev body : List ℕ
  body = body_bytes id_size depth_limit rs ps ns nm o

  -- THE FILE'S LENGTH
  pub length-file : length (file_bytes sha1_kind depth_limit rs ps ns nm o) ≡ length (body_bytes id_size depth_limit rs ps ns nm o) + end_size id_size (has_eoie (records_in rs) o)
  unfolding file_bytes file_of closed_of
  length-file =
      let toc : List ℕ = contents (extensions_asked id_size depth_limit ns nm o) in
      let e : List ℕ = eoie_part sha1_kind (has_eoie (records_in rs) o) (offset_of id_size rs ps) toc in
      omega (arith, length-append (body ++ e) (trailer_of sha1_kind o.unhashed (body ++ e)), length-append body e, length-trailer sha1_kind o.unhashed (body ++ e), length_eoie_part (has_eoie (records_in rs) o) (offset_of id_size rs ps) toc)

  abbrev answer : List ℕ → Result Written WriteError → List ℕ → Type 0
  answer out a out₁ = outcome a out₁ ≡ write_table sha1_kind depth_limit rs ps ns nm o out

  pub records_many : (out : List ℕ) (n : ℕ) → n ≡ records_in rs → most < n → answer out (Err TooLarge) out
  unfolding write_file
  records_many out n en h = sym (rw (← en, lt-ltb most n h))

  module _ (n version count size t b : ℕ) (writes : Bool) (en : n ≡ records_in rs) (few : n ≤ most) (ew : writes ≡ writes_tree o) (known : Counted id_size rs ps version count size)
      (et : t ≡ cap (length (tree_of id_size depth_limit ns nm writes))) (eb : b ≡ cap (cap (cap (size + head_size writes) + t) + head_size o.sparse)) where
    few_records : records_in rs ≤ most
    few_records = omega arith

    body_is : b ≡ cap (length (body_bytes id_size depth_limit rs ps ns nm o))
    unfolding body_bytes
    body_is =
        body_size rs ps ns nm (version_of rs) (count_of rs (records_in rs) 0) (writes_tree o) o.sparse size t b known.sized (et ∙ ap (λ (w : Bool). cap (length (tree_of id_size depth_limit ns nm w))) ew)
        (eb ∙ ap (λ (w : Bool). cap (cap (cap (size + head_size w) + t) + head_size o.sparse)) ew)

    pub body_large : (out : List ℕ) → most < b → answer out (Err TooLarge) out
    unfolding write_file
    body_large out h =
        let l : most < length (body_bytes id_size depth_limit rs ps ns nm o) = omega (arith, body_is, cap_le (length (body_bytes id_size depth_limit rs ps ns nm o))) in
        sym (rw (le-ltb most (records_in rs) few_records, lt-ltb most (length (body_bytes id_size depth_limit rs ps ns nm o)) l))

    module _ (small : b ≤ most) where
      body_small : length (body_bytes id_size depth_limit rs ps ns nm o) ≤ most
      body_small = cap_below (length (body_bytes id_size depth_limit rs ps ns nm o)) most (omega (arith, body_is)) (omega arith)

      body_same : b ≡ length (body_bytes id_size depth_limit rs ps ns nm o)
      body_same = body_is ∙ cap_fits (length (body_bytes id_size depth_limit rs ps ns nm o)) (omega (arith, body_small))

      parts : length (body_bytes id_size depth_limit rs ps ns nm o) ≡ 12 + length (table_bytes id_size rs ps) + head_size (writes_tree o) + length (tree_of id_size depth_limit ns nm (writes_tree o)) + head_size o.sparse
      unfolding body_bytes
      parts = length-body rs ps ns nm (version_of rs) (count_of rs (records_in rs) 0) (writes_tree o) o.sparse

      pub offset_small : offset_of id_size rs ps ≤ most
      offset_small = omega (arith, body_small, parts)

      tree_own : length (tree_of id_size depth_limit ns nm writes) ≡ length (tree_of id_size depth_limit ns nm (writes_tree o))
      tree_own = ap (λ (w : Bool). length (tree_of id_size depth_limit ns nm w)) ew

      tree_same : t ≡ length (tree_of id_size depth_limit ns nm writes)
      tree_same = et ∙ cap_fits (length (tree_of id_size depth_limit ns nm writes)) (omega (arith, body_small, parts, tree_own))

      pub tree_asked : (asked : Option ℕ) → asked ≡ then_some writes t → unwrap_or asked 0 ≡ length (tree_of id_size depth_limit ns nm (is_some asked))
      tree_asked asked ea = asked_size ns nm writes t asked ea tree_same

      module _ (h : Bool) (eh : h ≡ has_eoie n o) (e : ℕ) (ee : e ≡ end_size id_size h) where
        has_is : h ≡ has_eoie (records_in rs) o
        has_is = eh ∙ ap (λ (x : ℕ). has_eoie x o) en

        whole_is : b + e ≡ length (file_bytes sha1_kind depth_limit rs ps ns nm o)
        whole_is = omega (arith, body_same, length-file, ap (λ (x : Bool). end_size id_size x) has_is)

        pub file_short : (out : List ℕ) → length out < b + e → answer out (Err (ShortOutput (b + e))) out
        unfolding write_file
        file_short out l =
            let k : length out < length (file_bytes sha1_kind depth_limit rs ps ns nm o) = omega (arith, whole_is) in
            ap (λ (x : ℕ). outcome (Err (ShortOutput x)) out) whole_is ∙ sym (rw (le-ltb most (records_in rs) few_records, le-ltb most (length (body_bytes id_size depth_limit rs ps ns nm o)) body_small, lt-ltb (length out) (length (file_bytes sha1_kind depth_limit rs ps ns nm o)) k))

        -- TREE's size, as the plan has it
        module _ (asked : Option ℕ) (ea : asked ≡ then_some writes t) where
          there : is_some asked ≡ writes_tree o
          there = is_there asked writes t ea ∙ ew

          same_body : body_of id_size rs ps version count (extensions_for (is_some asked) (tree_bytes id_size depth_limit ns nm) o.sparse) ≡ body_bytes id_size depth_limit rs ps ns nm o
          unfolding body_bytes
          same_body = λ j. body_of id_size rs ps (known.versioned j) (known.counted j) (extensions_for (there j) (tree_bytes id_size depth_limit ns nm) o.sparse)

          pub file_room : (m : ℕ) → b + e ≤ m → length (body_of id_size rs ps version count (extensions_for (is_some asked) (tree_bytes id_size depth_limit ns nm) o.sparse)) + end_size id_size h ≤ m
          file_room m fits = omega (arith, ap length same_body, body_same)

          same_file : file_of sha1_kind (closed_of sha1_kind (body_of id_size rs ps version count (extensions_for (is_some asked) (tree_bytes id_size depth_limit ns nm) o.sparse)) h (offset_of id_size rs ps) (contents (extensions_for (is_some asked) (tree_bytes id_size depth_limit ns nm) o.sparse))) o.unhashed ≡ file_bytes sha1_kind depth_limit rs ps ns nm o
          unfolding file_bytes
          same_file =
              λ j. file_of sha1_kind (closed_of sha1_kind (same_body j) (has_is j) (offset_of id_size rs ps) (contents (extensions_for (there j) (tree_bytes id_size depth_limit ns nm) o.sparse))) o.unhashed

          pub file_done : (out : List ℕ) → b + e ≤ length out → (out₁ : List ℕ)
              → out₁ ≡ put out 0 (file_of sha1_kind (closed_of sha1_kind (body_of id_size rs ps version count (extensions_for (is_some asked) (tree_bytes id_size depth_limit ns nm) o.sparse)) h (offset_of id_size rs ps) (contents (extensions_for (is_some asked) (tree_bytes id_size depth_limit ns nm) o.sparse))) o.unhashed)
              → answer out (Ok (written_with version (b + e))) out₁
          unfolding write_file
          file_done out fits out₁ q =
              let f : List ℕ = file_bytes sha1_kind depth_limit rs ps ns nm o in
              let k : length (file_bytes sha1_kind depth_limit rs ps ns nm o) ≤ length out = omega (arith, whole_is) in
              let z : out₁ ≡ f ++ drop (length f) out = q ∙ ap (λ (x : List ℕ). put out 0 x) same_file ∙ put_front out f in
              (λ j. outcome (Ok (written_with (known.versioned j) (whole_is j))) (z j))
              ∙ sym (rw (le-ltb most (records_in rs) few_records, le-ltb most (length (body_bytes id_size depth_limit rs ps ns nm o)) body_small, le-ltb (length out) (length (file_bytes sha1_kind depth_limit rs ps ns nm o)) k))

-- ---- the whole writer

of_not_outside : {v c k j : ℕ} → Ok (sized_as v c k) ≡ Err (outside_at j) → ⊥
of_not_outside e = let w : ◌≡◌ {A = ℕ} 0 1 = cc in omega arith

of_outside : (m : First) (v c k j : ℕ) → on_first m (λ i. Err (outside_at i)) (Ok (sized_as v c k)) ≡ Err (outside_at j) → m ≡ found j
of_outside (found i) v c k j e = ap (λ (x : Outside). found x.index) (err_same e)
of_outside nowhere v c k j e = absurd (of_not_outside e)

of_size : (m : First) (v c k v₁ c₁ k₁ : ℕ) → on_first m (λ i. Err (outside_at i)) (Ok (sized_as v c k)) ≡ Ok (sized_as v₁ c₁ k₁) → (m ≡ nowhere) × (v₁ ≡ v) × (c₁ ≡ c) × (k₁ ≡ k)
of_size (found i) v c k v₁ c₁ k₁ e = absurd (of_not_outside (sym e))
of_size nowhere v c k v₁ c₁ k₁ e =
    let q : sized_as v₁ c₁ k₁ ≡ sized_as v c k = sym (ok_same e) in
    (refl, ap (λ (x : Sized). x.version) q, ap (λ (x : Sized). x.count) q, ap (λ (x : Sized). x.size) q)

module _ (rs : List ℕ) (ps : Paths) (a : Result Sized Outside) (is : a ≡ size_table id_size rs ps) where
  sized_is : a ≡ on_first (first_fault rs ps (records_in rs) 0) (λ i. Err (outside_at i)) (Ok (sized_as (version_of rs) (0 + count_of rs (records_in rs) 0) (cap (12 + length (table_bytes id_size rs ps)))))
  sized_is = is ∙ size_is id_size rs ps (records_in rs) 0 2 0 12 (omega arith)

  pub write_outside : (ns nm out : List ℕ) (o : Options) (w : Outside) → a ≡ Err w → outcome (Err (PathOutside w.index)) out ≡ write_all sha1_kind depth_limit rs ps ns nm o out
  unfolding write_all
  write_outside ns nm out o w q = sym (rw (of_outside (first_fault rs ps (records_in rs) 0) (version_of rs) (0 + count_of rs (records_in rs) 0) (cap (12 + length (table_bytes id_size rs ps))) w.index (sym sized_is ∙ q)))

  module _ (z : Sized) (q : a ≡ Ok z) where
    all : (first_fault rs ps (records_in rs) 0 ≡ nowhere) × (z.version ≡ version_of rs) × (z.count ≡ 0 + count_of rs (records_in rs) 0) × (z.size ≡ cap (12 + length (table_bytes id_size rs ps)))
    all = of_size (first_fault rs ps (records_in rs) 0) (version_of rs) (0 + count_of rs (records_in rs) 0) (cap (12 + length (table_bytes id_size rs ps))) z.version z.count z.size (sym sized_is ∙ q)

    pub write_counted : Counted id_size rs ps z.version z.count z.size
    write_counted = record { versioned = all.1; counted = omega (arith, all.2); sized = all.3 }

    module _ (ns nm out : List ℕ) (o : Options) (writes : Bool) (ew : writes ≡ writes_tree o) (t : Bool) (et : t ≡ tree_fits depth_limit ns nm writes) where
      fitting : {u : Bool} → t ≡ u → tree_fits depth_limit ns nm (writes_tree o) ≡ u
      fitting h = ap (λ (w : Bool). tree_fits depth_limit ns nm w) (sym ew) ∙ sym et ∙ h

      pub write_improper : t ≡ false → outcome (Err NotProper) out ≡ write_all sha1_kind depth_limit rs ps ns nm o out
      unfolding write_all
      write_improper h = sym (rw (all.0, fitting h))

      pub write_fitting : t ≡ true → (r : Result Written WriteError) (out₁ : List ℕ)
          → outcome r out₁ ≡ write_table sha1_kind depth_limit rs ps ns nm o out → outcome r out₁ ≡ write_all sha1_kind depth_limit rs ps ns nm o out
      unfolding write_all
      write_fitting h r out₁ e = e ∙ sym (rw (all.0, fitting h))

pub ruleset answers = (records_many, body_large, offset_small, tree_asked, file_short, file_room, file_done)

pub ruleset writes = (write_outside, write_counted, write_improper, write_fitting)
