-- THAT EVERY LISTING FITS the room that is lent for it (01, Marked pages: "with room for 512 records, 65,536 path bytes and 256 nodes"), so that the listing program prints the whole text of
-- every input. A line is 51 bytes and a path; the paths of the records that were read lie one behind the other in the path store, so that together they are no longer than it; and a refusal is
-- one short line. Assumes that the file's elements are bytes, as those of every slice are: a version and a signature are printed in decimal.
use Prim.Native.Nat.{ℕ, zero, suc, ◌+◌, ◌-◌, ◌*◌, ◌^◌, ◌≤◌, ◌<◌}
use Rattle.std.proofs.Math.Path.{◌≡◌, refl, ap, subst}
use Rattle.std.proofs.Common.{sym, ◌∙◌, inl, ⊎_elim, length-take, le-ltb, ne_eqb}
use Rattle.std.specs.Prelude.{Bool, get_or, take, drop, Err, None, Ok, Option, Result, Some}
use Rattle.std.proofs.Math.Bool.{true, false}
use mathlib.Core.List.{List, []}
use native.Mathlib.Omega.{arith}
use Rattle.std.proofs.Math.Nat.{min-le_left}
use Rattle.std.proofs.Math.Dec.{lit≤}
use Rattle.std.proofs.Math.ListN.{length, replicate, length-append, length-replicate}
use Rattle.laws.specs.Pick.{pick}
use Rattle.laws.specs.Put.{put}
use Rattle.format.specs.Format.{id_size, header_size, depth_limit}
use Rattle.wire.specs.BigEndian.{be_at, be_small}
use Rattle.wire.specs.Places.{file_at, path_at as placed}
use Rattle.wire.specs.declared.FileAt.{FileAt}
use Rattle.wire.specs.declared.PathAt.{PathAt}
use Rattle.entry.specs.Layout.{record_size, id_place, start_place, end_place}
use Rattle.entry.specs.Paths.{Paths, lying_in}
use Rattle.entry.specs.Record.{records_in, put_record, field_at, start_at, end_at, lies_inside, path_at}
use Rattle.entry.specs.Found.{kept_field, put_start, put_end}
use Rattle.measure.specs.Inside.{Inside, measured_inside}
use Rattle.measure.specs.Entry.{measure_at}
use Rattle.decode.specs.Header.{signature, header_at, on_version}
use Rattle.decode.specs.Entries as entries
use Rattle.decode.specs.Stores.{Ran, done, unspelled, full, stored, ran, reached, lengths_kept, Reaches, done_reaches, read_is_run}
use Rattle.extension.specs.Decode.{all_at}
use Rattle.extension.specs.Theorems.{by_less, by_same, Chain, chain_more, chain_filled, chain_stray}
use Rattle.extension.specs.Iter.{Found, Ending}
use Rattle.extension.proofs.Filling.{FirstForbidden, refused_here, refused_later, SaysAll, is_mandatory, all_says, fault_inside}
use Rattle.node.specs.Store.{node_size}
use Rattle.tree.specs.Tree.{read_tree}
use Rattle.file.specs.Answer.{number_of, carries_of, value_of}
use Rattle.file.specs.Read.{Outcome, outcome, marked, grown_into, on_tree, on_space, extensions_into, nothing_before, on_entries, after_entries, entries_into, on_header, read_file}
use Rattle.file.specs.Trailer.{good_trailer}
use Rattle.file.specs.declared.Entries.{Entries}
use Rattle.lines.specs.Lines.{line_at, lines_from, refused_text, refused_flag}
use Rattle.lines.specs.Written as lines
use Rattle.sums.specs.Cap.{cap, cap_fits}
use Rattle.lines.proofs.Laws.{line_length, digits_fit, refused_some, refused_none}
use Rattle.wire.specs.Written.{digits_of}
use Rattle.kind.specs.Sha1.{sha1_kind}
use Rattle.list_text.specs.Listed.{text_of, text_of_outcome, listed}
use Rattle.extension.specs.declared.decode.Error.TheVariants as of_space
use Rattle.tree.specs.declared.Error.TheVariants as grown
use Rattle.file.specs.declared.Error.TheVariants as answer
use Rattle.decode.specs.Made.{done_at, header_with, done_same}
use Rattle.decode.specs.declared.entries.Done.{Done}
use Rattle.decode.specs.declared.entries.Error.{Error as EntriesError}
use Rattle.decode.specs.declared.entries.Error.TheVariants.{NoRoom, NotSpelled}
use Rattle.decode.specs.declared.header.Error.{Error as HeaderError}
use Rattle.decode.specs.declared.header.Header.{Header}
use Rattle.extension.specs.declared.decode.Error.{Error as SpaceError}
use Rattle.extension.specs.declared.decode.Filled.{Filled}
use Rattle.extension.specs.declared.iter.Body.{Body}
use Rattle.file.specs.declared.Error.{Error as FileError}
use Rattle.file.specs.declared.Reading.{Reading}
use Rattle.tree.specs.declared.Error.{Error as TreeError}

-- a line but for its path: six digits, a space, two digits for each byte of an id, a space, the stage, a tab and the newline
abbrev pub line_size : ℕ
line_size = 11 + id_size * 2

-- the room that is lent for a text: 512 lines and 65,536 path bytes
abbrev pub listing_room : ℕ
listing_room = 512 * line_size + 65536

-- ---- lines and paths

module _ (rs : List ℕ) (ps : Paths) where
  -- how long the paths of the n records from record i on are together
  unfoldable paths_length : ℕ → ℕ → ℕ
  paths_length zero i = 0
  paths_length (suc n) i = length (path_at rs ps i) + paths_length n (i + 1)

  lines_length : (n i : ℕ) → length (lines_from id_size rs ps n i) ≡ n * line_size + paths_length n i
  unfolding lines_from paths_length
  lines_length zero i = refl
  lines_length (suc n) i =
      length-append (line_at id_size rs ps i) (lines_from id_size rs ps n (i + 1))
      ∙ omega (arith, line_length rs ps i (path_at rs ps i) refl, lines_length n (i + 1))

  path_at_most : (i : ℕ) → length (path_at rs ps i) ≤ end_at rs i - start_at rs i
  unfolding path_at
  path_at_most i = by (lies_inside rs ps i)
    where
      by : (t : Bool) → length (pick t (take (end_at rs i - start_at rs i) (drop (start_at rs i) ps.store)) []) ≤ end_at rs i - start_at rs i
      by true = subst (λ (k : ℕ). k ≤ end_at rs i - start_at rs i) (sym (length-take (end_at rs i - start_at rs i) (drop (start_at rs i) ps.store))) (min-le_left _ _)
      by false = omega arith

-- ---- a run of entries

module _ (s : List ℕ) (end : FileAt) (version : ℕ) where
  -- a record before a run is as it was
  field_stays : {n i : ℕ} {at : FileAt} {used : PathAt} {first : Bool} {prev : ℕ} {sparse : Bool} {rs ps : List ℕ} {o : entries.Outcome} → Ran id_size s end version n i at used first prev sparse rs ps o
      → (j w k : ℕ) → j < i → k + w ≤ record_size → field_at w k o.records j ≡ field_at w k rs j
  field_stays done j w k h l = refl
  field_stays unspelled j w k h l = refl
  field_stays full j w k h l = refl
  field_stays (stored {i = i} {at = at} {used = used} {rs = rs} flags keep suffix len next e hi room r) j w k h l =
      field_stays r j w k (omega arith) l ∙ kept_field id_size s at.0 flags used.0 (used.0 + (keep + len)) rs i (lit≤ tt) j (inl h) w k l

  -- the paths of the records that a run stored lie one behind the other
  paths_lie_behind : {n i : ℕ} {at : FileAt} {used : PathAt} {first : Bool} {prev : ℕ} {sparse : Bool} {rs ps : List ℕ} {o : entries.Outcome} → Ran id_size s end version n i at used first prev sparse rs ps o
      → prev ≤ used.0 → used.0 ≤ length ps → length ps < 2 ^ 64 → (next : FileAt) (used' : PathAt) (sparse' : Bool) → o.answer ≡ Ok (done_at next used' sparse')
      → used.0 + paths_length o.records (lying_in o.paths) n i ≤ used'.0
  unfolding paths_length
  paths_lie_behind (done {used = used}) hp hu small next used' sparse' q =
      let b : used ≡ used' = (done_same q).used in
      let b' : used.0 ≡ used'.0 = ap (λ (y : PathAt). y.0) b in
      omega arith
  paths_lie_behind unspelled hp hu small next used' sparse' q = let z : ◌≡◌ {A = ℕ} 0 1 = cc in absurd (omega arith)
  paths_lie_behind full hp hu small next used' sparse' q = let z : ◌≡◌ {A = ℕ} 0 1 = cc in absurd (omega arith)
  paths_lie_behind (stored {n = n} {i = i} {at = at} {used = used} {first = first} {prev = prev} {rs = rs} {ps = ps} {o = o} flags keep suffix len mid e hi room r) hp hu small next used' sparse' q =
      let stop : ℕ = used.0 + (keep + len) in
      let rs' : List ℕ = put_record id_size s at.0 flags used.0 stop rs i in
      let l = lengths_kept id_size (lit≤ tt) s end version (stored {n = 0} {i = i} {at = at} {used = used} {first = first} {prev = prev} {sparse = false} {rs = rs} {ps = ps} flags keep suffix len mid e hi room done) hp hu in
      let a : Inside id_size s at.0 end.0 prev keep suffix len mid = measured_inside id_size s at.0 end.0 version first prev flags keep suffix len mid (measure_at id_size s at.0 end.0 version first prev) refl e in
      let front : at.0 + (id_place + id_size) ≤ length s = omega (arith, a.file, a.least) in
      let starts : start_at o.records i ≡ used.0 = field_stays r i 8 start_place (omega arith) (lit≤ tt) ∙ put_start id_size s at.0 flags used.0 stop rs i (lit≤ tt) front hi (omega arith) in
      let ends : end_at o.records i ≡ stop = field_stays r i 8 end_place (omega arith) (lit≤ tt) ∙ put_end id_size s at.0 flags used.0 stop rs i (lit≤ tt) front hi (omega arith) in
      let rest = paths_lie_behind r (omega arith) (omega (arith, l.paths)) (omega (arith, l.paths)) next used' sparse' q in
      omega (arith, rest, starts, ends, path_at_most o.records (lying_in o.paths) i)

  -- where a run stops is within its count
  stops_within : {n i : ℕ} {at : FileAt} {used : PathAt} {first : Bool} {prev : ℕ} {sparse : Bool} {rs ps : List ℕ} {o : entries.Outcome} → Ran id_size s end version n i at used first prev sparse rs ps o
      → reached n i o.answer ≤ i + n
  stops_within done = omega arith
  stops_within unspelled = omega arith
  stops_within full = omega arith
  stops_within (stored {n = n} {i = i} {o = o} flags keep suffix len next e hi room r) = by o.answer (stops_within r)
    where
      by : (a : Result Done EntriesError) → reached n (i + 1) a ≤ i + 1 + n → reached (suc n) i a ≤ i + suc n
      by (Ok d) h = omega arith
      by (Err (NotSpelled y)) h = omega arith
      by (Err (NoRoom y)) h = omega arith

-- ---- a refusal

-- the largest number of 64 bits, and room enough for the line of any refusal that carries at most that
abbrev most : ℕ
most = 18446744073709551615

abbrev refusal_room : ℕ
refusal_room = 50

refusal_short : (number value : ℕ) (carries : Bool) → number ≤ most → value ≤ most → length (refused_text number carries value) ≤ refusal_room
refusal_short number value true h k =
    omega (arith, refused_some number (length (digits_of 10 number)) (Some value) refl value (length (digits_of 10 value)) refl refl, digits_fit number _ refl h, digits_fit value _ refl k)
refusal_short number value false h k = omega (arith, refused_none number (length (digits_of 10 number)) None refl refl, ap length (refused_flag number value false), digits_fit number _ refl h)

answer_short : (a : Result Reading FileError) (rs : List ℕ) (ps : Paths) → (number_of a ≡ 0 → ⊥) → number_of a ≤ most → value_of a ≤ most → length (text_of id_size a rs ps) ≤ refusal_room
unfolding text_of
answer_short a rs ps d h k = rw (ne_eqb (number_of a) 0 d) (refusal_short (number_of a) (value_of a) (carries_of a) h k)

-- ---- what was read, and what was refused

module _ (s : List ℕ) (bytes : (i : ℕ) → get_or s i 0 < 256) (m : ℕ) (line : refusal_room ≤ m) where
  -- a number of four bytes
  word_small : (at : ℕ) → be_at 4 s at ≤ most
  word_small at = omega (arith, be_small 4 s at bytes)

  -- the signature that 8 carries stands in the file
  mandatory_small : {end at : ℕ} {fs : List Found} {e : Ending} {signature : ℕ} → Chain s end at fs e → FirstForbidden fs signature → signature ≤ most
  mandatory_small (chain_filled _ _) f = elim f [ ]
  mandatory_small (chain_stray _ _) f = elim f [ ]
  mandatory_small {at = at} (chain_more w c) (refused_here q) = omega (arith, w.named, word_small at)
  mandatory_small (chain_more w c) (refused_later q f) = mandatory_small c f

  module _ (rs : List ℕ) (ps : Paths) where
    -- the text of an answer to which these stores belong
    abbrev Fits : Result Reading FileError → Type 0
    Fits a = length (text_of id_size a rs ps) ≤ m

    refusal_fits : (a : Result Reading FileError) → (number_of a ≡ 0 → ⊥) → number_of a ≤ most → value_of a ≤ most → Fits a
    refusal_fits a d h k = omega (arith, answer_short a rs ps d h k)

    tree_fits_lem : (e : Entries) → length (lines_from id_size rs ps e.records 0) ≤ m → (t : Result (Option ℕ) TreeError × List ℕ) → Fits (grown_into e t).0
    unfolding text_of
    tree_fits_lem e fit (Ok (Some n), ns) = fit
    tree_fits_lem e fit (Ok None, ns) = fit
    tree_fits_lem e fit (Err grown.TooDeep, ns) = refusal_fits (Err answer.TooDeep) (λ z. omega arith) (lit≤ tt) (lit≤ tt)
    tree_fits_lem e fit (Err grown.NoRoom, ns) = refusal_fits (Err answer.NoNodeRoom) (λ z. omega arith) (lit≤ tt) (lit≤ tt)

    module _ (e : Entries) (fit : length (lines_from id_size rs ps e.records 0) ≤ m) (next : ℕ) (inside : next ≤ length s - id_size) (small : length s ≤ most) (ns : List ℕ) where
      space_fits : (w : Result Filled SpaceError) → all_at s next (length s - id_size) ≡ w → Fits (on_space id_size depth_limit s e ns w).0
      unfolding text_of
      space_fits (Ok f) q = body_fits f.bodies.tree
        where
          body_fits : (b : Option Body) → Fits (on_tree id_size depth_limit s (marked e f.sparse) ns b).0
          body_fits None = fit
          body_fits (Some b) = tree_fits_lem (marked e f.sparse) fit (read_tree id_size depth_limit s b.start.0 b.stop.0 ns)
      space_fits (Err (of_space.NotFilled place)) q =
          let (a, b) = fault_inside s next (length s - id_size) place q inside (omega arith) in
          refusal_fits (Err (answer.NotFilled place.0)) (λ z. omega arith) (lit≤ tt) (omega (arith, b))
      space_fits (Err (of_space.Mandatory signature)) q =
          refusal_fits (Err (answer.Mandatory signature)) (λ z. omega arith) (lit≤ tt) (by (subst (SaysAll s next (length s - id_size)) q (all_says s next (length s - id_size))))
        where
          by : {v : ℕ} → SaysAll s next (length s - id_size) (Err (of_space.Mandatory v)) → v ≤ most
          by (is_mandatory c f) = mandatory_small c f

      extensions_fit : Fits (extensions_into id_size depth_limit s next (length s - id_size) e ns).0
      unfolding extensions_into
      extensions_fit = space_fits (all_at s next (length s - id_size)) refl

  -- ---- the whole file, into any stores that have no more room than there is for their lines

  module _ (rs ps ns : List ℕ) (room : records_in rs * line_size + length ps ≤ m) (lent : length ps < 2 ^ 64) (small : length s ≤ most) where
    abbrev FitsAll : Outcome → Type 0
    FitsAll o = length (text_of_outcome id_size o) ≤ m

    abbrev end : FileAt
    end = file_at (length s - id_size)

    ran_fits : (version count : ℕ) → count ≤ most → header_size + id_size ≤ length s → (o : entries.Outcome) → Ran id_size s end version count 0 (file_at header_size) (placed 0) true 0 false rs ps o
        → (a : Result Done EntriesError) → o.answer ≡ a → FitsAll (on_entries id_size depth_limit s version count o.records o.paths ns a)
    ran_fits version count few long o r (Ok d₁) q =
        let d : Reaches id_size (lit≤ tt) s end version count 0 header_size 0 rs ps d₁.next.0 d₁.used.0 = done_reaches id_size (lit≤ tt) s end version r (omega arith) (omega arith) d₁.next d₁.used d₁.sparse q in
        let paths = paths_lie_behind s end version r (omega arith) (omega arith) lent d₁.next d₁.used d₁.sparse q in
        let records : count ≤ records_in rs = ⊎_elim (λ z. omega arith) (λ z. omega arith) d.slots in
        let fit : length (lines_from id_size o.records (lying_in o.paths) count 0) ≤ m = omega (arith, lines_length o.records (lying_in o.paths) count 0, paths, d.within) in
        extensions_fit o.records (lying_in o.paths) (record { version = version; sparse = d₁.sparse; records = count; used = d₁.used.0 }) fit d₁.next.0 (d.stops (omega arith)) small ns
    ran_fits version count few long o r (Err (NotSpelled k)) q =
        refusal_fits o.records (lying_in o.paths) (Err (answer.NotSpelled k)) (λ z. omega arith) (lit≤ tt) (omega (arith, ap (reached count 0) q, stops_within s end version r))
    ran_fits version count few long o r (Err (NoRoom k)) q =
        refusal_fits o.records (lying_in o.paths) (Err (answer.NoEntryRoom k)) (λ z. omega arith) (lit≤ tt) (omega (arith, ap (reached count 0) q, stops_within s end version r))

    entries_fit : (version count : ℕ) → count ≤ most → header_size + id_size ≤ length s → FitsAll (entries_into id_size depth_limit s version count rs ps ns)
    unfolding entries_into
    entries_fit version count few long =
        let o : entries.Outcome = entries.run id_size s end version count 0 (file_at header_size) (placed 0) true 0 false rs ps in
        let e : entries.read_entries id_size s end version count 0 (file_at header_size) nothing_before rs ps ≡ o = read_is_run id_size s end version count 0 (file_at header_size) nothing_before rs ps (omega arith) (omega arith) in
        subst (λ (x : entries.Outcome). FitsAll (after_entries id_size depth_limit s version count ns x)) (sym e)
        (ran_fits version count few long o (ran id_size s end version count 0 (file_at header_size) (placed 0) true 0 false rs ps) o.answer refl)

    opens_fits : (version count : ℕ) → count ≤ most → header_size + id_size ≤ length s → (t : Bool)
        → FitsAll (pick t (entries_into id_size depth_limit s version count rs ps ns) (outcome (Err answer.BadTrailer) rs ps ns))
    opens_fits version count few long true = entries_fit version count few long
    opens_fits version count few long false = refusal_fits rs (lying_in ps) (Err answer.BadTrailer) (λ z. omega arith) (lit≤ tt) (lit≤ tt)

    file_fits : FitsAll (read_file sha1_kind depth_limit s rs ps ns)
    unfolding read_file header_at on_version
    file_fits =
        by_less P (length s) (header_size + id_size) (λ h. refusal_fits rs (lying_in ps) (Err answer.ShortFile) (λ z. omega arith) (lit≤ tt) (lit≤ tt))
        (λ long. by_same P (be_at 4 s 0) signature
        (λ d. by_same P version 2 (λ e. opens long) (λ e. by_same P version 3 (λ e. opens long) (λ e. by_same P version 4 (λ e. opens long)
        (λ e. refusal_fits rs (lying_in ps) (Err (answer.OtherVersion version)) (λ z. omega arith) (lit≤ tt) (word_small 4)))))
        (λ d. refusal_fits rs (lying_in ps) (Err answer.NoSignature) (λ z. omega arith) (lit≤ tt) (lit≤ tt)))
      where
        version : ℕ
        version = be_at 4 s 4

        P : Result Header HeaderError → Type 0
        P h = FitsAll (on_header sha1_kind depth_limit s rs ps ns h)

        opens : header_size + id_size ≤ length s → P (Ok (header_with version (be_at 4 s 8)))
        opens long = opens_fits version (be_at 4 s 8) (word_small 8) long (good_trailer sha1_kind s)

-- ---- THE CLAIM

module _ (s : List ℕ) (bytes : (i : ℕ) → get_or s i 0 < 256) where
  pub every_listing_fits : length (listed sha1_kind depth_limit s) ≤ listing_room
  unfolding listed
  every_listing_fits =
      by_less (λ (t : List ℕ). length t ≤ listing_room) 65536 (length s) (λ h. lit≤ tt)
      (λ h.
      let rs : List ℕ = replicate (512 * record_size) 0 in
      let ps : List ℕ = replicate 65536 0 in
      let r : length rs ≡ 512 * record_size = length-replicate {A = ℕ} (512 * record_size) 0 in
      let p : length ps ≡ 65536 = length-replicate {A = ℕ} 65536 0 in
      file_fits s bytes listing_room (lit≤ tt) rs ps (replicate (256 * node_size) 0) (omega arith) (omega arith) (omega arith))

  -- so whoever meets the contract of `list_file` answers a size that is within that room
  pub listing_within : (r : ℕ) (out out' : List ℕ) → lines.outcome r out' ≡ lines.written (listed sha1_kind depth_limit s) out → r ≤ listing_room
  unfolding lines.written
  listing_within r out out' e =
      let n : length (listed sha1_kind depth_limit s) ≤ listing_room = every_listing_fits in
      let q : r ≡ cap (length (listed sha1_kind depth_limit s)) = ap (λ (o : lines.Outcome). o.size) e in
      omega (arith, cap_fits (length (listed sha1_kind depth_limit s)) (omega arith))

  -- and, where it is lent, puts the whole text
  pub listing_whole : (r : ℕ) (out out' : List ℕ) → lines.outcome r out' ≡ lines.written (listed sha1_kind depth_limit s) out → listing_room ≤ length out
      → (r ≡ length (listed sha1_kind depth_limit s)) × (out' ≡ put out 0 (listed sha1_kind depth_limit s))
  unfolding lines.written
  listing_whole r out out' e h =
      let text : List ℕ = listed sha1_kind depth_limit s in
      let n : length text ≤ listing_room = every_listing_fits in (
        ap (λ (o : lines.Outcome). o.size) e ∙ cap_fits (length text) (omega arith),
        ap (λ (o : lines.Outcome). o.out) e ∙ ap (λ (t : Bool). pick t out (put out 0 text)) (le-ltb (length out) (length text) (omega arith)),
      )
