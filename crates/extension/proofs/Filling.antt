-- What the walk's answers say of the space behind the entries: success, that extensions fill it exactly and none is forbidden; 7, where in the space no extension
-- stands; 8, the first forbidden one; and which extension is the last of a signature. Assumes nothing.
use Rattle.std.specs.Prelude.{ℕ, ◌+◌, ◌≤◌, ◌<◌, Bool, true, false, List, [], ◌∷◌, ◌≡◌, refl, length, eqb, Err, None, Ok, Option, Result}
use Rattle.std.proofs.Common.{ap, subst, ⊎_elim, arith, eq-eqb, ne_eqb}
use Rattle.laws.specs.Pick.{pick}
use Rattle.laws.specs.Tests.{Same, same, differs, same?, lt_or_ge}
use Rattle.wire.specs.BigEndian.{be_at}
use Rattle.wire.specs.Places.{file_at}
use Rattle.wire.specs.declared.FileAt.{FileAt}
use Rattle.format.specs.Format.{extension_header_size}
use Rattle.extension.specs.Signatures.{TREE, sdir}
use Rattle.extension.specs.Iter.{Found, Ending, filled, stray, run_at, body_of, of_signature, last_where}
use Rattle.extension.specs.Decode.{is_forbidden, marks, sparse_in, judged, no_bodies, bodies_in, all_at}
use Rattle.extension.specs.Theorems.{Chain, chain_stray, chain_more, chain_filled, run_chain, chain_run}
use Rattle.extension.specs.declared.decode.Bodies.{Bodies}
use Rattle.extension.specs.Made.{filled_by}
use Rattle.extension.specs.declared.decode.Error.{Error as SpaceError}
use Rattle.extension.specs.declared.decode.Error.TheVariants.{Mandatory, NotFilled}
use Rattle.extension.specs.declared.decode.Filled.{Filled}
use Rattle.extension.specs.declared.iter.Body.{Body}

-- ---- the last of a signature

pub data NoneSigned (wanted : ℕ) : List Found → Type 0 where
  none_left : NoneSigned wanted []
  another : {f : Found} {fs : List Found} → (f.signature ≡ wanted → ⊥) → NoneSigned wanted fs → NoneSigned wanted (f ∷ fs)

pub data LastSigned (wanted : ℕ) : List Found → Found → Type 0 where
  this : {f : Found} {fs : List Found} → f.signature ≡ wanted → NoneSigned wanted fs → LastSigned wanted (f ∷ fs) f
  further : {f g : Found} {fs : List Found} → LastSigned wanted fs f → LastSigned wanted (g ∷ fs) f

-- what is answered of a list where b was met before it
pub data SaysLast (wanted : ℕ) (b : Option Body) (fs : List Found) : Option Body → Type 0 where
  as_before : NoneSigned wanted fs → SaysLast wanted b fs b
  the_last : {f : Found} → LastSigned wanted fs f → SaysLast wanted b fs (body_of f)

pub last_says : (wanted : ℕ) (b : Option Body) (fs : List Found) → SaysLast wanted b fs (last_where (of_signature wanted) b fs)
unfolding last_where
last_says wanted b [] = as_before none_left
last_says wanted b (f ∷ fs) = by (λ c. last_says wanted c fs) (same? f.signature wanted)
  where
    behind : f.signature ≡ wanted → {c : Option Body} → SaysLast wanted (body_of f) fs c → SaysLast wanted b (f ∷ fs) c
    behind e (as_before n) = the_last (this e n)
    behind e (the_last l) = the_last (further l)

    over : (f.signature ≡ wanted → ⊥) → {c : Option Body} → SaysLast wanted b fs c → SaysLast wanted b (f ∷ fs) c
    over d (as_before n) = as_before (another d n)
    over d (the_last l) = the_last (further l)

    by : ((c : Option Body) → SaysLast wanted c fs (last_where (of_signature wanted) c fs)) → {t : Bool} → Same f.signature wanted t
        → SaysLast wanted b (f ∷ fs) (last_where (of_signature wanted) (pick t (body_of f) b) fs)
    by ih (same e) = behind e (ih (body_of f))
    by ih (differs d) = over d (ih b)

-- the mark: an `sdir` is among the extensions, or the mark is as before
pub data SaysSparse (b : Bool) (fs : List Found) : Bool → Type 0 where
  marked : {f : Found} → LastSigned sdir fs f → SaysSparse b fs true
  unmarked : NoneSigned sdir fs → SaysSparse b fs b

pub sparse_says : (b : Bool) (fs : List Found) → SaysSparse b fs (sparse_in b fs)
unfolding sparse_in
sparse_says b [] = unmarked none_left
sparse_says b (f ∷ fs) = by (λ c. sparse_says c fs) (same? f.signature sdir)
  where
    behind : f.signature ≡ sdir → {c : Bool} → SaysSparse true fs c → SaysSparse b (f ∷ fs) c
    behind e (marked l) = marked (further l)
    behind e (unmarked n) = marked (this e n)

    over : (f.signature ≡ sdir → ⊥) → {c : Bool} → SaysSparse b fs c → SaysSparse b (f ∷ fs) c
    over d (marked l) = marked (further l)
    over d (unmarked n) = unmarked (another d n)

    by : ((c : Bool) → SaysSparse c fs (sparse_in c fs)) → {t : Bool} → Same f.signature sdir t → SaysSparse b (f ∷ fs) (sparse_in (pick t true b) fs)
    by ih (same e) = behind e (ih true)
    by ih (differs d) = over d (ih b)

-- the bodies: each is the last of its signature
pub record SaysBodies (fs : List Found) (bodies : Bodies) : Type 0 where
  pub tree : SaysLast TREE None fs bodies.tree

pub bodies_say : (fs : List Found) → SaysBodies fs (bodies_in no_bodies fs)
bodies_say fs = record { tree = last_says TREE None fs }

-- ---- the first fault

pub data NoneForbidden : List Found → Type 0 where
  all_allowed : NoneForbidden []
  allowed : {f : Found} {fs : List Found} → is_forbidden f ≡ false → NoneForbidden fs → NoneForbidden (f ∷ fs)

pub data FirstForbidden : List Found → ℕ → Type 0 where
  refused_here : {f : Found} {fs : List Found} → is_forbidden f ≡ true → FirstForbidden (f ∷ fs) f.signature
  refused_later : {f : Found} {fs : List Found} {signature : ℕ} → is_forbidden f ≡ false → FirstForbidden fs signature → FirstForbidden (f ∷ fs) signature

-- what is answered of a list and the run's end, where `good` is to be answered if there is no fault
pub data SaysJudged (good : Result Filled SpaceError) (fs : List Found) : Ending → Result Filled SpaceError → Type 0 where
  no_fault : NoneForbidden fs → SaysJudged good fs filled good
  fault_7 : {place : ℕ} → NoneForbidden fs → SaysJudged good fs (stray place) (Err (NotFilled (file_at place)))
  fault_8 : {e : Ending} {signature : ℕ} → FirstForbidden fs signature → SaysJudged good fs e (Err (Mandatory signature))

pub judged_says : (good : Result Filled SpaceError) (fs : List Found) (e : Ending) → SaysJudged good fs e (judged fs e good)
unfolding judged
judged_says good [] filled = no_fault all_allowed
judged_says good [] (stray place) = fault_7 all_allowed
judged_says good (f ∷ fs) e = by (judged_says good fs e) (is_forbidden f) refl
  where
    over : is_forbidden f ≡ false → {d : Ending} {w : Result Filled SpaceError} → SaysJudged good fs d w → SaysJudged good (f ∷ fs) d w
    over q (no_fault n) = no_fault (allowed q n)
    over q (fault_7 n) = fault_7 (allowed q n)
    over q (fault_8 n) = fault_8 (refused_later q n)

    by : SaysJudged good fs e (judged fs e good) → (t : Bool) → is_forbidden f ≡ t → SaysJudged good (f ∷ fs) e (pick t (Err (Mandatory f.signature)) (judged fs e good))
    by ih true q = fault_8 (refused_here q)
    by ih false q = over q ih

-- ---- what the walk's answers say

-- where a chain breaks off
pub stray_inside : {s : List ℕ} {end at p : ℕ} {fs : List Found} → Chain s end at fs (stray p) → at ≤ end → end ≤ length s → (at ≤ p) × (p < end)
stray_inside {s} {end} {at} (chain_stray d f) h i = (omega arith, ⊎_elim (λ l. l) (λ g. absurd (d i (omega arith))) (lt_or_ge at end))
stray_inside {s} {end} {at} {p} (chain_more {f = f} w c) h i =
    let q : f.stop.0 ≡ at + extension_header_size + be_at 4 s (at + 4) = ap (λ (x : FileAt). x.0) w.stops in
    let k : (f.stop.0 ≤ p) × (p < end) = stray_inside c (omega (arith, w.fits.whole)) i in
    (omega (arith, k.0), k.1)

-- all that is said of a space
pub data SaysAll (s : List ℕ) (from end : ℕ) : Result Filled SpaceError → Type 0 where
  -- extensions fill it exactly, none of them forbidden
  is_filled : {fs : List Found} {sparse : Bool} {bodies : Bodies} → Chain s end from fs filled → NoneForbidden fs → SaysSparse false fs sparse → SaysBodies fs bodies → SaysAll s from end (Ok (filled_by sparse bodies))
  -- none of them forbidden, and none stands at a place before the end
  is_not_filled : {fs : List Found} {place : ℕ} → Chain s end from fs (stray place) → NoneForbidden fs → SaysAll s from end (Err (NotFilled (file_at place)))
  -- one that is forbidden, and none before it is; whatever stands behind it
  is_mandatory : {fs : List Found} {e : Ending} {signature : ℕ} → Chain s end from fs e → FirstForbidden fs signature → SaysAll s from end (Err (Mandatory signature))

pub all_says : (s : List ℕ) (from end : ℕ) → SaysAll s from end (all_at s from end)
unfolding all_at
all_says s from end =
    by (run_at s from end).items (run_chain s from end)
    (judged_says (Ok (filled_by (sparse_in false (run_at s from end).items) (bodies_in no_bodies (run_at s from end).items))) (run_at s from end).items (run_at s from end).ending)
  where
    by : (fs : List Found) {e : Ending} {w : Result Filled SpaceError} → Chain s end from fs e → SaysJudged (Ok (filled_by (sparse_in false fs) (bodies_in no_bodies fs))) fs e w → SaysAll s from end w
    by fs c (no_fault n) = is_filled c n (sparse_says false fs) (bodies_say fs)
    by fs c (fault_7 n) = is_not_filled c n
    by fs c (fault_8 n) = is_mandatory c n

-- ---- and no other answer could be said

none_last : {wanted : ℕ} {fs : List Found} (b : Option Body) → NoneSigned wanted fs → last_where (of_signature wanted) b fs ≡ b
unfolding last_where
none_last b none_left = refl
none_last {wanted} b (another {f = f} d n) = rw (ne_eqb f.signature wanted d) (none_last b n)

signed_last : {wanted : ℕ} {fs : List Found} {f : Found} (b : Option Body) → LastSigned wanted fs f → last_where (of_signature wanted) b fs ≡ body_of f
unfolding last_where
signed_last {wanted} {f = f} b (this e n) = rw (eq-eqb f.signature wanted e) (none_last (body_of f) n)
signed_last {wanted} b (further {g = g} l) = signed_last (pick (eqb g.signature wanted) (body_of g) b) l

pub last_only : {wanted : ℕ} {b c : Option Body} {fs : List Found} → SaysLast wanted b fs c → last_where (of_signature wanted) b fs ≡ c
last_only {b = b} (as_before n) = none_last b n
last_only {b = b} (the_last l) = signed_last b l

bodies_only : {bodies : Bodies} {fs : List Found} → SaysBodies fs bodies → bodies_in no_bodies fs ≡ bodies
bodies_only b = λ i. record { tree = last_only b.tree i }

none_sparse : {fs : List Found} (b : Bool) → NoneSigned sdir fs → sparse_in b fs ≡ b
unfolding sparse_in
none_sparse b none_left = refl
none_sparse b (another {f = f} d n) = rw (ne_eqb f.signature sdir d) (none_sparse b n)

signed_sparse : {fs : List Found} {f : Found} (b : Bool) → LastSigned sdir fs f → sparse_in b fs ≡ true
unfolding sparse_in
signed_sparse {f = f} b (this e n) = rw (eq-eqb f.signature sdir e) (none_sparse true n)
signed_sparse b (further {g = g} l) = signed_sparse (marks g.signature b) l

pub sparse_only : {b c : Bool} {fs : List Found} → SaysSparse b fs c → sparse_in b fs ≡ c
sparse_only {b} (marked l) = signed_sparse b l
sparse_only {b} (unmarked n) = none_sparse b n

judged_none : {fs : List Found} (good : Result Filled SpaceError) → NoneForbidden fs → judged fs filled good ≡ good
unfolding judged
judged_none good all_allowed = refl
judged_none good (allowed q n) = rw q (judged_none good n)

judged_stops : {fs : List Found} (place : ℕ) (good : Result Filled SpaceError) → NoneForbidden fs → judged fs (stray place) good ≡ Err (NotFilled (file_at place))
unfolding judged
judged_stops place good all_allowed = refl
judged_stops place good (allowed q n) = rw q (judged_stops place good n)

judged_first : {fs : List Found} {signature : ℕ} (e : Ending) (good : Result Filled SpaceError) → FirstForbidden fs signature → judged fs e good ≡ Err (Mandatory signature)
unfolding judged
judged_first e good (refused_here q) = rw q
judged_first e good (refused_later q n) = rw q (judged_first e good n)

pub all_only : {s : List ℕ} {from end : ℕ} {w : Result Filled SpaceError} → SaysAll s from end w → all_at s from end ≡ w
unfolding all_at
all_only (is_filled {fs = fs} {sparse = sparse} {bodies = bodies} c n m l) =
    rw (chain_run c, judged_none (Ok (filled_by (sparse_in false fs) (bodies_in no_bodies fs))) n, sparse_only m) (ap (λ (b : Bodies). Ok (filled_by sparse b)) (bodies_only l))
all_only (is_not_filled {fs = fs} {place = place} c n) = rw (chain_run c, judged_stops place (Ok (filled_by (sparse_in false fs) (bodies_in no_bodies fs))) n)
all_only (is_mandatory {fs = fs} {e = e} c n) = rw (chain_run c, judged_first e (Ok (filled_by (sparse_in false fs) (bodies_in no_bodies fs))) n)

-- success means that the space is exactly filled
pub all_fills : (s : List ℕ) (from end : ℕ) (sparse : Bool) (bodies : Bodies) → all_at s from end ≡ Ok (filled_by sparse bodies) → (fs : List Found) × Chain s end from fs filled × NoneForbidden fs
all_fills s from end sparse bodies e = by (subst (SaysAll s from end) e (all_says s from end))
  where
    by : SaysAll s from end (Ok (filled_by sparse bodies)) → (fs : List Found) × Chain s end from fs filled × NoneForbidden fs
    by (is_filled {fs = fs} c n m l) = (fs, c, n)

-- 7's offset lies in the space
pub fault_inside : (s : List ℕ) (from end : ℕ) (place : FileAt) → all_at s from end ≡ Err (NotFilled place) → from ≤ end → end ≤ length s → (from ≤ place.0) × (place.0 < end)
fault_inside s from end place e h i = by (subst (SaysAll s from end) e (all_says s from end)) refl
  where
    by : {w : Result Filled SpaceError} → SaysAll s from end w → w ≡ Err (NotFilled place) → (from ≤ place.0) × (place.0 < end)
    by (is_not_filled {place = p} c n) q = let r : file_at p ≡ place = cc in subst (λ (x : FileAt). (from ≤ x.0) × (x.0 < end)) r (stray_inside c h i)
    by (is_filled c n m l) q = cc
    by (is_mandatory c n) q = cc

-- the body that is answered lies in the space
pub body_inside : {s : List ℕ} {end at : ℕ} {fs : List Found} {e : Ending} {wanted : ℕ} {f : Found} → Chain s end at fs e → LastSigned wanted fs f
    → (at + extension_header_size ≤ f.start.0) × (f.start.0 ≤ f.stop.0) × (f.stop.0 ≤ end) × (end ≤ length s)
body_inside (chain_filled _ _) l = elim l [ ]
body_inside (chain_stray _ _) l = elim l [ ]
body_inside {s} {end} {at} (chain_more {f = f} w c) (this x n) =
    let p : f.start.0 ≡ at + extension_header_size = ap (λ (y : FileAt). y.0) w.starts in
    let q : f.stop.0 ≡ at + extension_header_size + be_at 4 s (at + 4) = ap (λ (y : FileAt). y.0) w.stops in
    (omega arith, omega arith, omega (arith, w.fits.whole), w.fits.inside)
body_inside {s} {end} {at} {f = g} (chain_more {f = f} w c) (further l) =
    let q : f.stop.0 ≡ at + extension_header_size + be_at 4 s (at + 4) = ap (λ (y : FileAt). y.0) w.stops in
    let k : (f.stop.0 + extension_header_size ≤ g.start.0) × (g.start.0 ≤ g.stop.0) × (g.stop.0 ≤ end) × (end ≤ length s) = body_inside c l in
    (omega (arith, k.0), k.1, k.2, k.3)
