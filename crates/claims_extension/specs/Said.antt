-- What the claims say: the rule of each answer of the walk over the extensions, in the grammar's terms. Of the reader only its answers are named here (01, "Extensions" and
-- "When the desk says no", 7 and 8). Assumes nothing.
use Rattle.std.specs.Prelude.{ℕ, ◌+◌, ◌≡◌, Bool, true, List, [], ◌∷◌, ◌++◌, length, take, drop, Err, None, Ok, Option, Result, Some as There}
use Rattle.std.proofs.Common.{arith}
use Rattle.laws.specs.Pick.{pick}
use Rattle.wire.specs.Places.{file_at}
use Rattle.extension.specs.declared.decode.Bodies.{Bodies}
use Rattle.grammar.specs.Number.{big_endian}
use Rattle.grammar.specs.Entry.{Meaning}
use Rattle.grammar.specs.Extension.{Ext, sdir, TREE, Extensions, NoneSigned, none_left, another, LastSigned, last_signed}
use Rattle.grammar.specs.File.{directory_mode, Some, this, other, Sparse, by_entry, by_sdir, Tells, it_is, it_is_not}
use Rattle.grammar.specs.Fault.{stray, refused, Faulty}
use Rattle.grammar.proofs.Fault.{fault_unique, fault_not_spelled}
use Rattle.grammar.proofs.Unique.{extensions_unique}
use Rattle.grammar.proofs.DecideExtension.{none_not_last, last_unique}
use Rattle.grammar.proofs.DecideFile.{tells_unique}
use Rattle.extension.specs.Made.{body_between, filled_by}
use Rattle.extension.specs.declared.decode.Error.{Error as SpaceError}
use Rattle.extension.specs.declared.decode.Error.TheVariants.{Mandatory, NotFilled}
use Rattle.extension.specs.declared.decode.Filled.{Filled}
use Rattle.extension.specs.declared.iter.Body.{Body}

-- the extensions' space: from `from` to `end`
abbrev pub extensions_space : List ℕ → ℕ → ℕ → List ℕ
extensions_space s from end = drop from (take end s)

-- one of them is `sdir`
abbrev pub HasSdir : List Ext → Type 0
HasSdir es = Some (λ (e : Ext). e.signature ≡ sdir) es

-- of extensions that begin at a place: where the body of the last one with this signature lies
pub data SaysBody (signature : List ℕ) (from : ℕ) (es : List Ext) : Option Body → Type 0 where
  says_missing : NoneSigned signature es → SaysBody signature from es None
  says_lies : {place : ℕ} {body : List ℕ} → LastSigned signature from es place body → SaysBody signature from es (There (body_between (file_at place) (file_at (place + length body))))

-- the signatures whose last bodies the reader goes into, each with where its answer has that body; and what is said of all of them
pub data Handed : List ℕ → (Bodies → Option Body) → Type 0 where
  tree_handed : Handed TREE (λ bodies. bodies.tree)

pub record SaysBodies (from : ℕ) (es : List Ext) (bodies : Bodies) : Type 0 where
  pub tree : SaysBody TREE from es bodies.tree

-- what each answer of the walk says: xs is the extensions' space, which starts at `from`
pub data SaysExtensions (from : ℕ) (xs : List ℕ) : Result Filled SpaceError → Type 0 where
  -- extensions that may stand fill it
  says_filled : {es : List Ext} {sparse : Bool} {bodies : Bodies} → Extensions xs es → Tells (HasSdir es) sparse → SaysBodies from es bodies → SaysExtensions from xs (Ok (filled_by sparse bodies))
  -- 7: behind some of them stand bytes that begin with no extension
  says_not_filled : {place : ℕ} → Faulty from xs (stray place) → SaysExtensions from xs (Err (NotFilled (file_at place)))
  -- 8: behind some of them stands one that may not
  says_mandatory : {signature : List ℕ} → Faulty from xs (refused signature) → SaysExtensions from xs (Err (Mandatory (big_endian signature)))

-- an answer is Filled
abbrev pub IsFilled : Result Filled SpaceError → Type 0
IsFilled w = (sparse : Bool) × (bodies : Bodies) × (w ≡ Ok (filled_by sparse bodies))

-- the space is spelled
abbrev pub AllSpelled : List ℕ → Type 0
AllSpelled xs = (es : List Ext) × Extensions xs es

-- ---- the rules leave one answer at most

pub one_body : {signature : List ℕ} {from : ℕ} {es : List Ext} {b c : Option Body} → SaysBody signature from es b → SaysBody signature from es c → b ≡ c
one_body (says_missing x) (says_missing y) = λ i. None
one_body (says_missing x) (says_lies m) = absurd (none_not_last x m)
one_body (says_lies l) (says_missing y) = absurd (none_not_last y l)
one_body (says_lies l) (says_lies m) = let (p, q) = last_unique l m in λ i. There (body_between (file_at (p i)) (file_at (p i + length (q i))))

-- what is said of all bodies is said of each
pub handed_says : {wanted : List ℕ} {of : Bodies → Option Body} {from : ℕ} {es : List Ext} {bodies : Bodies} → Handed wanted of → SaysBodies from es bodies → SaysBody wanted from es (of bodies)
handed_says tree_handed b = b.tree

one_bodies : {from : ℕ} {es : List Ext} {b c : Bodies} → SaysBodies from es b → SaysBodies from es c → b ≡ c
one_bodies x y = λ i. record { tree = one_body x.tree y.tree i }

two_faults : {place : ℕ} {signature : List ℕ} → stray place ≡ refused signature → ⊥
two_faults e = cc

pub one_answer : {from : ℕ} {xs : List ℕ} {v w : Result Filled SpaceError} → SaysExtensions from xs v → SaysExtensions from xs w → v ≡ w
one_answer {from} {xs} (says_filled {es = es} {sparse = a} {bodies = b} x m l) (says_filled {es = fs} {sparse = c} {bodies = d} y n k) =
    let e : fs ≡ es = extensions_unique xs fs es y x in
    let n₂ : Tells (HasSdir es) c = rw e at n in
    let k₂ : SaysBodies from es d = rw e at k in
    let p : a ≡ c = tells_unique m n₂ in
    let q : b ≡ d = one_bodies l k₂ in
    λ i. Ok (filled_by (p i) (q i))
one_answer (says_filled x m l) (says_not_filled f) = absurd (fault_not_spelled f x)
one_answer (says_filled x m l) (says_mandatory f) = absurd (fault_not_spelled f x)
one_answer (says_not_filled f) (says_filled x m l) = absurd (fault_not_spelled f x)
one_answer (says_not_filled {place = p} f) (says_not_filled {place = q} g) = let e : stray p ≡ stray q = fault_unique f g in cc
one_answer (says_not_filled f) (says_mandatory g) = absurd (two_faults (fault_unique f g))
one_answer (says_mandatory f) (says_filled x m l) = absurd (fault_not_spelled f x)
one_answer (says_mandatory f) (says_not_filled g) = absurd (two_faults (fault_unique g f))
one_answer (says_mandatory {signature = a} f) (says_mandatory {signature = b} g) = let e : refused a ≡ refused b = fault_unique f g in cc

-- ---- the mark

-- the one that is last is one of them
pub last_is_some : {signature : List ℕ} {from place : ℕ} {es : List Ext} {body : List ℕ} → LastSigned signature from es place body → Some (λ (e : Ext). e.signature ≡ signature) es
last_is_some {signature} (last_signed before {e = e} behind i x n) = rw i (go before)
  where
    go : (before : List Ext) → Some (λ (a : Ext). a.signature ≡ signature) (before ++ (e ∷ behind))
    go [] = this x
    go (d ∷ before) = other (go before)

pub none_is_some : {signature : List ℕ} {es : List Ext} → NoneSigned signature es → Some (λ (e : Ext). e.signature ≡ signature) es → ⊥
none_is_some none_left x = elim x [ ]
none_is_some (another d n) (this x) = d x
none_is_some (another d n) (other x) = none_is_some n x

-- an entry's mark and the extensions' mark together are the index's
pub either_marks : {ms : List Meaning} {es : List Ext} {a b : Bool} → Tells (Some (λ (m : Meaning). m.stat.mode ≡ directory_mode) ms) a → Tells (HasSdir es) b → Tells (Sparse ms es) (pick b true a)
either_marks {ms} {es} x y = go x y
  where
    neither : (Some (λ (m : Meaning). m.stat.mode ≡ directory_mode) ms → ⊥) → (HasSdir es → ⊥) → Sparse ms es → ⊥
    neither k l (by_entry z) = k z
    neither k l (by_sdir z) = l z

    go : {a b : Bool} → Tells (Some (λ (m : Meaning). m.stat.mode ≡ directory_mode) ms) a → Tells (HasSdir es) b → Tells (Sparse ms es) (pick b true a)
    go x (it_is z) = it_is (by_sdir z)
    go (it_is z) (it_is_not l) = it_is (by_entry z)
    go (it_is_not k) (it_is_not l) = it_is_not (neither k l)
