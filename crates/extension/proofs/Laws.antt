-- Laws of the crate's definitions in the directions that the code's proofs ask. Assumes nothing.
use mathlib.Core.Path.{◌≡◌, refl, sym, ap, ◌∙◌}
use mathlib.Core.Bool.{Bool, true, false}
use mathlib.Core.List.{List, [], flatten}
use Prim.Native.Nat.{ℕ, ◌+◌, ◌-◌, ◌*◌, ◌≤◌, ◌<◌}
use native.Mathlib.Omega.{arith}
use lib.ListN.{length, take, drop}
use lib.Seq.{take_all}
use borrow.Author.Tests.{le-ltb, eq-eqb, ne_eqb}
use Rattle.slices.specs.Bytes.{same_bytes}
use Rattle.wire.specs.BigEndian.{be_at}
use Rattle.format.specs.Format.{id_size}
use Rattle.sha1_hash.specs.Sha1.{sha1}
use Rattle.sha1_hash.specs.Length.{length-sha1}
use Rattle.sha1_hash.specs.Pieces.{digest_after, fed, finished, fed_all}
use Rattle.sha1_hash.specs.Theorems.{pieces_finish}
use Rattle.sha1_hash.specs.declared.Digest.{Digest}
use Rattle.kind.specs.Sha1.{sha1_kind}
use Rattle.extension.specs.Signatures.{EOIE}
use Rattle.extension.specs.Iter.{step_at, Run, run_at, first_where, last_where, first_at}
use Rattle.extension.specs.Theorems.{Met, met, Tabled, tabled, run_done, run_broken, run_more}
use Rattle.extension.specs.Decode.{forbidden, marks, latest_of, sparse_in, judged, all_from}
use Rattle.extension.specs.IndexEntryOffsetTable.{table_at}
use Rattle.extension.specs.EndOfIndexEntry.{headers_of, last_body, prior_at, offset_at, offset_in}
use Rattle.extension.specs.declared.end_of_index_entry.Prior.{Prior}
use Rattle.extension.specs.declared.iter.Cursor.{Cursor}
use Rattle.extension.specs.declared.decode.Bodies.{Bodies}
use Rattle.std.specs.Prelude.{Err, None, Ok, Option, Result, Some}
use Rattle.extension.specs.Made.{broken, filled_by}
use Rattle.extension.specs.declared.decode.Error.{Error as SpaceError}
use Rattle.extension.specs.declared.decode.Error.TheVariants.{Mandatory, NotFilled}
use Rattle.extension.specs.declared.decode.Filled.{Filled}
use Rattle.extension.specs.declared.iter.Body.{Body}
use Rattle.extension.specs.declared.iter.Broken.{Broken}
use Rattle.extension.specs.declared.iter.Extension.{Extension}

-- ---- the walks: from cursor c, x stands there

module _ (s : List ℕ) (c : Cursor) (x : Result (Option Extension) Broken) (e : x ≡ step_at s c.at.0 c.end.0) where
  meets : (f : Extension) → x ≡ Ok (Some f) → Met s c.at.0 c.end.0 f.signature f.body.start f.body.stop f.next
  meets f q = met s c.at.0 c.end.0 (sym e ∙ q)

  pub step_less : (f : Extension) → x ≡ Ok (Some f) → f.next.end.0 - f.next.at.0 < c.end.0 - c.at.0
  step_less f q = let m = meets f q in omega (arith, m.forward, m.within, m.place, m.bound)

  -- the first of a signature: what is left to look at answers r
  module _ (wanted : ℕ) (r : Option Body) (inv : first_at s c.at.0 c.end.0 wanted ≡ r) where
    pub first_done : x ≡ Ok None → None ≡ r
    unfolding first_at first_where
    first_done q = sym (rw (run_done s c.at.0 c.end.0 (sym e ∙ q))) ∙ inv

    pub first_broken : x ≡ Err broken → None ≡ r
    unfolding first_at first_where
    first_broken q = sym (rw (run_broken s c.at.0 c.end.0 (sym e ∙ q))) ∙ inv

    module _ (f : Extension) (q : x ≡ Ok (Some f)) where
      pub first_here : f.signature ≡ wanted → Some f.body ≡ r
      unfolding first_at first_where
      first_here w = sym (rw (run_more s c.at.0 c.end.0 (sym e ∙ q), eq-eqb f.signature wanted w)) ∙ inv

      pub first_next : (f.signature ≡ wanted → ⊥) → first_at s f.next.at.0 f.next.end.0 wanted ≡ r
      unfolding first_at first_where
      first_next w = let m = meets f q in rw (m.place, m.bound) (sym (rw (run_more s c.at.0 c.end.0 (sym e ∙ q), ne_eqb f.signature wanted w)) ∙ inv)

  -- all of them: what is left comes to r
  module _ (sparse : Bool) (last : Bodies) (r : Result Filled SpaceError) (inv : all_from sparse last (run_at s c.at.0 c.end.0) ≡ r) where
    pub all_done : x ≡ Ok None → Ok (filled_by sparse last) ≡ r
    unfolding judged sparse_in last_where
    all_done q = sym (rw (run_done s c.at.0 c.end.0 (sym e ∙ q))) ∙ inv

    pub all_broken : x ≡ Err broken → Err (NotFilled c.at) ≡ r
    unfolding judged
    all_broken q = sym (rw (run_broken s c.at.0 c.end.0 (sym e ∙ q))) ∙ inv

    module _ (f : Extension) (q : x ≡ Ok (Some f)) (t : Bool) (o : t ≡ forbidden f.signature f.body.start.0 f.body.stop.0) where
      pub all_forbidden : t ≡ true → Err (Mandatory f.signature) ≡ r
      unfolding judged
      all_forbidden y = sym (rw (run_more s c.at.0 c.end.0 (sym e ∙ q), ← o, y)) ∙ inv

      pub all_next : t ≡ false → (sparse' : Bool) (last' : Bodies) → sparse' ≡ marks f.signature sparse → last' ≡ latest_of f.signature f.body.start f.body.stop last
          → all_from sparse' last' (run_at s f.next.at.0 f.next.end.0) ≡ r
      unfolding judged sparse_in last_where
      all_next y sparse' last' a b = let m = meets f q in rw (m.place, m.bound, a, b) (sym (rw (run_more s c.at.0 c.end.0 (sym e ∙ q), ← o, y)) ∙ inv)

pub ruleset firsts = (first_done, first_broken)

-- ---- IEOT

-- a pair of a table lies in it, and so in the file
pub pair_inside : (s : List ℕ) (start stop k : ℕ) (t : Option ℕ) → t ≡ table_at s start stop → (n : ℕ) → t ≡ Some n → k < n → start + 4 + k * 8 + 8 ≤ length s
pair_inside s start stop k t e n q h = let f : Tabled s start stop n = tabled s start stop n (sym e ∙ q) in omega (arith, f.inside, f.size)

-- ---- EOIE: what is left of the extensions in front of it, from the present cursor, comes to r

abbrev pub left_over : List ℕ → Digest → Option Body → Run → Prior
left_over s d last r = record { sum = finished (fed_all d (headers_of s r.items)); last = last_where (λ f. true) last r.items }

pub prior_start : (s : List ℕ) (from end : ℕ) (d : Digest) → d ≡ digest_after [] → left_over s d None (run_at s from end) ≡ prior_at sha1_kind s from end
unfolding prior_at
prior_start s from end d e = rw (e, pieces_finish)

module _ (s : List ℕ) (c : Cursor) (x : Result (Option Extension) Broken) (e : x ≡ step_at s c.at.0 c.end.0) where
  -- the header that is fed, and the body behind it, lie in the file
  module _ (f : Extension) (q : x ≡ Ok (Some f)) where
    pub head_ordered : c.at.0 ≤ f.body.start.0
    head_ordered = let m = meets s c x e f q in omega (arith, m.body)

    pub head_inside : f.body.start.0 ≤ length s
    head_inside = let m = meets s c x e f q in omega (arith, m.body, m.forward, m.within, m.inside)

    pub body_ordered : c.at.0 ≤ f.body.stop.0
    body_ordered = let m = meets s c x e f q in omega (arith, m.forward)

    pub body_inside : f.body.stop.0 ≤ length s
    body_inside = let m = meets s c x e f q in omega (arith, m.within, m.inside)

  module _ (d : Digest) (last : Option Body) (r : Prior) (inv : left_over s d last (run_at s c.at.0 c.end.0) ≡ r) where
    pub prior_end : ((f : Extension) → x ≡ Ok (Some f) → ⊥) → (sum : List ℕ) → sum ≡ finished d → record { sum = sum; last = last } ≡ r
    unfolding headers_of fed_all last_where
    prior_end n sum y = by x refl
      where
        by : (z : Result (Option Extension) Broken) → x ≡ z → record { sum = sum; last = last } ≡ r
        by (Ok None) q = rw y (sym (rw (run_done s c.at.0 c.end.0 (sym e ∙ q))) ∙ inv)
        by (Ok (Some f)) q = absurd (n f q)
        by (Err b) q = rw y (sym (rw (run_broken s c.at.0 c.end.0 (sym e ∙ q))) ∙ inv)

    pub prior_next : (f : Extension) → x ≡ Ok (Some f) → (d' : Digest) → d' ≡ fed d (take (f.body.start.0 - c.at.0) (drop c.at.0 s))
        → left_over s d' (Some f.body) (run_at s f.next.at.0 f.next.end.0) ≡ r
    unfolding headers_of fed_all last_where
    prior_next f q d' y =
        let m = meets s c x e f q in
        let l : f.body.start.0 - c.at.0 ≡ 8 = omega (arith, m.body) in
        rw (m.place, m.bound, y, l) (sym (rw (run_more s c.at.0 c.end.0 (sym e ∙ q))) ∙ inv)

sum-length : (s : List ℕ) (offset start : ℕ) (p : Prior) → p ≡ prior_at sha1_kind s offset start → length p.sum ≡ id_size
unfolding prior_at
sum-length s offset start p e = ap (λ (x : Prior). length x.sum) e ∙ length-sha1 (flatten (headers_of s (run_at s offset start).items))

-- EOIE has the hash of the extensions in front of it, or not, as t says
module _ (s : List ℕ) (offset start : ℕ) (p : Prior) (e : p ≡ prior_at sha1_kind s offset start) where
  pub sum_room : id_size ≤ length p.sum
  sum_room = omega (arith, sum-length s offset start p e)

  module _ (t : Bool) (y : t ≡ same_bytes (take id_size (drop 0 p.sum)) (take id_size (drop (start + 12) s))) where
    pub told : t ≡ same_bytes (sha1 (flatten (headers_of s (run_at s offset start).items))) (take id_size (drop (start + 12) s))
    unfolding prior_at
    told =
        y ∙ ap (λ (l : List ℕ). same_bytes l (take id_size (drop (start + 12) s)))
        (take_all id_size p.sum (omega (arith, sum-length s offset start p e)) ∙ ap (λ (x : Prior). x.sum) e)

  pub ends : p.last ≡ last_body (run_at s offset start).items
  unfolding prior_at
  ends = ap (λ (x : Prior). x.last) e

pub ruleset sums = (sum_room, told, ends)

pub ruleset bodies = (head_ordered, head_inside, body_ordered, body_inside)

-- where an EOIE would lie stands an extension of another size
module _ (s : List ℕ) where
  module _ (h : 52 ≤ length s) (a : ℕ) (ea : a ≡ be_at 4 s (length s - 52)) where
    module _ (wa : a ≡ EOIE) (b : ℕ) (eb : b ≡ be_at 4 s (length s - 52 + 4)) where
      pub offset_size_lem : (b ≡ 24 → ⊥) → None ≡ offset_in sha1_kind s
      unfolding offset_in offset_at
      offset_size_lem w = sym (rw (le-ltb (length s) 52 h, ← ea, eq-eqb a EOIE wa, ← eb, ne_eqb b 24 w))

pub ruleset priors = (prior_start)
