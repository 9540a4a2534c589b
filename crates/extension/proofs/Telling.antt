-- What EOIE's answer says: an offset is told exactly if the 32 bytes before the trailer are an EOIE with that offset, the extensions from it fill the space up to EOIE,
-- there are some, and the hash is that of their headers. Assumes nothing.
use Rattle.std.specs.Prelude.{ℕ, ◌+◌, ◌-◌, ◌≤◌, Bool, ◌≡◌, take, drop, eqb, None, Option, Some}
use Rattle.std.proofs.Math.Bool.{true, false}
use mathlib.Core.List.{List, [], ◌∷◌, flatten}
use Rattle.std.proofs.Math.Path.{refl, subst}
use native.Mathlib.Omega.{arith}
use Rattle.std.proofs.Math.ListN.{length}
use Rattle.std.proofs.Common.{le-ltb, eq-eqb}
use Rattle.laws.specs.Pick.{pick}
use Rattle.slices.specs.Bytes.{same_bytes}
use Rattle.slices.specs.Laws.{same_refl, same_equal}
use Rattle.wire.specs.BigEndian.{be_at}
use Rattle.wire.specs.Places.{file_at}
use Rattle.wire.specs.declared.FileAt.{FileAt}
use Rattle.format.specs.Format.{header_size, extension_header_size, offset_size, eoie_size, eoie_whole_size}
use Rattle.kind.specs.Kind.{Kind}
use Rattle.extension.specs.Signatures.{EOIE}
use Rattle.extension.specs.Iter.{Found, Ending, filled, run_at, body_of, last_where, on_body}
use Rattle.extension.specs.EndOfIndexEntry.{headers_of, last_body, verified_at, offset_at, offset_in}
use Rattle.extension.specs.Theorems.{by_less, by_same, Chain, chain_filled, chain_stray, chain_more, run_chain, chain_run}
use Rattle.extension.specs.declared.iter.Body.{Body}
use Rattle.wire.specs.declared.FileAt.{FileAt}

-- where EOIE begins, over the length of an id
abbrev pub beginning : ℕ → List ℕ → ℕ
beginning h s = length s - (eoie_whole_size h + h)

-- an EOIE that tells an offset truly
pub record Tells (kind : Kind) (s : List ℕ) (offset : ℕ) : Type 0 where
  pub long : eoie_whole_size kind.id + kind.id ≤ length s
  pub named : be_at 4 s (beginning kind.id s) ≡ EOIE
  pub sized : be_at 4 s (beginning kind.id s + 4) ≡ eoie_size kind.id
  pub told : be_at 4 s (beginning kind.id s + 8) ≡ offset
  pub low : header_size ≤ offset
  pub high : offset ≤ beginning kind.id s
  pub first : Found
  pub rest : List Found
  pub fills : Chain s (beginning kind.id s) offset (first ∷ rest) filled
  pub hashed : kind.hash (flatten (headers_of s (first ∷ rest))) ≡ take kind.id (drop (beginning kind.id s + (extension_header_size + offset_size)) s)

-- the last of some extensions ends where the chain does
pub last_ends : {s : List ℕ} {end at : ℕ} (f : Found) (fs : List Found) {e : Ending} (b : Option Body) → Chain s end at (f ∷ fs) e
    → (g : Found) × (last_where (λ x. true) b (f ∷ fs) ≡ body_of g) × Chain s end g.stop.0 [] e
unfolding last_where
last_ends f [] b (chain_more w c) = (f, refl, c)
last_ends f (g ∷ fs) b (chain_more w c) = last_ends g fs (body_of f) c

ends_filled : {s : List ℕ} {end at : ℕ} {e : Ending} → Chain s end at [] e → end ≤ length s → at ≡ end → e ≡ filled
ends_filled (chain_filled i q) h p = refl
ends_filled (chain_stray d f) h p = absurd (d h p)

filled_ends : {s : List ℕ} {end at : ℕ} → Chain s end at [] filled → at ≡ end
filled_ends (chain_filled i q) = q

-- ---- what is told is true

pub data SaysTold (kind : Kind) (s : List ℕ) : Option FileAt → Type 0 where
  is_told : {place : FileAt} → Tells kind s place.0 → SaysTold kind s (Some place)
  is_nothing : SaysTold kind s None

module _ (kind : Kind) (s : List ℕ) (long : eoie_whole_size kind.id + kind.id ≤ length s) (named : be_at 4 s (beginning kind.id s) ≡ EOIE) (sized : be_at 4 s (beginning kind.id s + 4) ≡ eoie_size kind.id) (offset : ℕ)
    (told : be_at 4 s (beginning kind.id s + 8) ≡ offset) (low : header_size ≤ offset) (high : offset ≤ beginning kind.id s) where
  ended_says : (fs : List Found) {e : Ending} → Chain s (beginning kind.id s) offset fs e → kind.hash (flatten (headers_of s fs)) ≡ take kind.id (drop (beginning kind.id s + (extension_header_size + offset_size)) s)
      → SaysTold kind s (on_body (last_body fs) None (λ first behind. pick (eqb behind (beginning kind.id s)) (Some (file_at offset)) None))
  unfolding last_where
  ended_says [] c y = is_nothing
  ended_says (f ∷ fs) {e} c y = by (last_ends f fs None c)
    where
      by : (g : Found) × (last_where (λ x. true) (body_of f) fs ≡ body_of g) × Chain s (beginning kind.id s) g.stop.0 [] e
          → SaysTold kind s (on_body (last_where (λ x. true) (body_of f) fs) None (λ first behind. pick (eqb behind (beginning kind.id s)) (Some (file_at offset)) None))
      by (g, q, d) = rw q (by_same (SaysTold kind s) g.stop.0 (beginning kind.id s) (λ z. truly z) (λ z. is_nothing))
        where
          truly : g.stop.0 ≡ beginning kind.id s → SaysTold kind s (Some (file_at offset))
          truly z =
              let l : beginning kind.id s ≤ length s = omega arith in
              let t : Tells kind s offset =
              record { long = long; named = named; sized = sized; told = told; low = low; high = high; first = f; rest = fs; fills = subst (Chain s (beginning kind.id s) offset (f ∷ fs)) (ends_filled d l z) c; hashed = y } in
              is_told t

  verified_says : SaysTold kind s (verified_at kind s (beginning kind.id s) offset)
  unfolding verified_at
  verified_says = by (same_bytes (kind.hash (flatten (headers_of s (run_at s offset (beginning kind.id s)).items))) (take kind.id (drop (beginning kind.id s + (extension_header_size + offset_size)) s))) refl
    where
      by : (t : Bool) → same_bytes (kind.hash (flatten (headers_of s (run_at s offset (beginning kind.id s)).items))) (take kind.id (drop (beginning kind.id s + (extension_header_size + offset_size)) s)) ≡ t
          → SaysTold kind s (pick t (on_body (last_body (run_at s offset (beginning kind.id s)).items) None (λ first behind. pick (eqb behind (beginning kind.id s)) (Some (file_at offset)) None)) None)
      by true q = ended_says (run_at s offset (beginning kind.id s)).items (run_chain s offset (beginning kind.id s)) (same_equal _ _ q)
      by false q = is_nothing

pub told_says : (kind : Kind) (s : List ℕ) → SaysTold kind s (offset_in kind s)
unfolding offset_in offset_at
told_says kind s =
    by_less (SaysTold kind s) (length s) (eoie_whole_size kind.id + kind.id) (λ l. is_nothing)
    (λ long. by_same (SaysTold kind s) (be_at 4 s (beginning kind.id s)) EOIE
    (λ named. by_same (SaysTold kind s) (be_at 4 s (beginning kind.id s + 4)) (eoie_size kind.id)
    (λ sized. by_less (SaysTold kind s) (be_at 4 s (beginning kind.id s + 8)) header_size (λ l. is_nothing)
    (λ low. by_less (SaysTold kind s) (beginning kind.id s) (be_at 4 s (beginning kind.id s + 8)) (λ l. is_nothing)
    (λ high. verified_says kind s long named sized (be_at 4 s (beginning kind.id s + 8)) refl low high)))
    (λ d. is_nothing))
    (λ d. is_nothing))

pub told_tells : (kind : Kind) (s : List ℕ) (place : FileAt) → offset_in kind s ≡ Some place → Tells kind s place.0
told_tells kind s place e = by (subst (SaysTold kind s) e (told_says kind s))
  where
    by : SaysTold kind s (Some place) → Tells kind s place.0
    by (is_told t) = t

-- ---- what is true is told

pub tells_told : (kind : Kind) (s : List ℕ) (offset : ℕ) → Tells kind s offset → offset_in kind s ≡ Some (file_at offset)
unfolding offset_in offset_at verified_at
tells_told kind s offset t =
    let r : run_at s offset (beginning kind.id s) ≡ record { items = t.first ∷ t.rest; ending = filled } = chain_run t.fills in
    let l = last_ends t.first t.rest None t.fills in
    let z : l.0.stop.0 ≡ beginning kind.id s = filled_ends l.2 in
    rw (
      le-ltb (length s) (eoie_whole_size kind.id + kind.id) t.long,
      eq-eqb (be_at 4 s (beginning kind.id s)) EOIE t.named,
      eq-eqb (be_at 4 s (beginning kind.id s + 4)) (eoie_size kind.id) t.sized,
      t.told,
      le-ltb offset header_size t.low,
      le-ltb (beginning kind.id s) offset t.high,
      r,
      t.hashed,
      same_refl,
      l.1,
      eq-eqb l.0.stop.0 (beginning kind.id s) z,
    )
