-- THE CLAIMS on extensions: what `all_at` answers of the space behind the entries is said by the grammar alone. `SaysExtensions` has one rule for each answer; the walk gives an
-- answer of which its rule holds, and the only one. Filled, with the mark and, for each signature that the reader goes into, the last body, exactly if extensions that may stand
-- fill the space; 7 and 8 exactly where the grammar has that fault. Assumes that the file is bytes and that the space lies in it, each a premise with a name.
use Rattle.std.specs.Prelude.{ℕ, ◌+◌, ◌≤◌, ◌≡◌, refl, Bool, List, ◌↔◌, length, Err, None, Ok, Option, Result, Some}
use Rattle.std.proofs.Common.{sym, subst}
use Rattle.wire.specs.Places.{file_at}
use Rattle.extension.specs.Decode.{all_at}
use Rattle.extension.proofs.Filling.{SaysAll, is_filled, is_not_filled, is_mandatory, all_says}
use Rattle.extension.specs.declared.decode.Bodies.{Bodies}
use Rattle.grammar.specs.Number.{big_endian}
use Rattle.grammar.specs.Extension.{Ext, Extensions, NoneSigned, LastSigned}
use Rattle.grammar.specs.File.{Tells}
use Rattle.grammar.specs.Fault.{stray, refused, Faulty}
use Rattle.grammar.proofs.Fault.{fault_not_spelled}
use Rattle.grammar.proofs.Unique.{extensions_unique}
use Rattle.claims_entries.specs.Rendering.{Bytes}
use Rattle.claims_extension.specs.Words.{bytes_within, FourBytes, TREE-bytes, signature_injective}
use Rattle.claims_extension.specs.Said.{extensions_space, IsFilled, AllSpelled, HasSdir, SaysBody, says_missing, says_lies, Handed, SaysBodies, SaysExtensions, says_filled, says_not_filled, says_mandatory, one_body, handed_says, one_answer}
use Rattle.claims_extension.specs.Body.{BodyAt, body_at, refused_is_four_bytes}
use Rattle.claims_extension.specs.Means.{body_says, mark_says, chain_fills, chain_strays, chain_refused}
use Rattle.extension.specs.Made.{body_between, filled_by}
use Rattle.extension.specs.declared.decode.Error.{Error as SpaceError}
use Rattle.extension.specs.declared.decode.Error.TheVariants.{Mandatory, NotFilled}
use Rattle.extension.specs.declared.decode.Filled.{Filled}
use Rattle.extension.specs.declared.iter.Body.{Body}

-- ---- what a rule tells of its answer

missing : {wanted : List ℕ} {from : ℕ} {es : List Ext} → SaysBody wanted from es None → NoneSigned wanted es
missing (says_missing n) = n

lies : {wanted : List ℕ} {from start stop : ℕ} {es : List Ext} → SaysBody wanted from es (Some (body_between (file_at start) (file_at stop))) → (body : List ℕ) × LastSigned wanted from es start body × (stop ≡ start + length body)
lies (says_lies {body = body} l) = (body, l, refl)

strayed : {from place : ℕ} {xs : List ℕ} → SaysExtensions from xs (Err (NotFilled (file_at place))) → Faulty from xs (stray place)
strayed (says_not_filled f) = f

named : {from n : ℕ} {xs : List ℕ} → SaysExtensions from xs (Err (Mandatory n)) → (signature : List ℕ) × Faulty from xs (refused signature) × (n ≡ big_endian signature)
named (says_mandatory {signature = signature} f) = (signature, f, refl)

-- ---- the answer that is given

module _ (s : List ℕ) (bytes : Bytes s) (from end : ℕ) (ahead : from ≤ end) (inside : end ≤ length s) where
  abbrev space : List ℕ
  space = extensions_space s from end

  -- what the reader's contract cites
  abbrev walked : Result Filled SpaceError
  walked = all_at s from end

  -- of the answer that is given its rule holds
  pub answer_says : SaysExtensions from space walked
  answer_says = of (all_says s from end)
    where
      of : {w : Result Filled SpaceError} → SaysAll s from end w → SaysExtensions from space w
      of (is_filled c n m l) = let (es, x, y) = chain_fills s bytes end inside c n in says_filled y (mark_says x m) (record { tree = body_says TREE-bytes x l.tree })
      of (is_not_filled c n) = says_not_filled (chain_strays s bytes end inside ahead c n)
      of (is_mandatory c n) = let (signature, x, e) = chain_refused s bytes end inside c n in rw e (says_mandatory x)

  -- and of no other
  pub no_second_answer : {w : Result Filled SpaceError} → SaysExtensions from space w → walked ≡ w
  no_second_answer x = one_answer answer_says x

  -- where the space is spelled a mark and bodies are told
  told : (es : List Ext) → Extensions space es → (sparse : Bool) × (bodies : Bodies) × Tells (HasSdir es) sparse × SaysBodies from es bodies
  told es x = of answer_says
    where
      of : {w : Result Filled SpaceError} → SaysExtensions from space w → (sparse : Bool) × (bodies : Bodies) × Tells (HasSdir es) sparse × SaysBodies from es bodies
      of (says_filled {es = fs} {sparse = sparse} {bodies = bodies} y m l) = let e : fs ≡ es = extensions_unique space fs es y x in (sparse, bodies, (rw e at m), (rw e at l))
      of (says_not_filled f) = absurd (fault_not_spelled f x)
      of (says_mandatory f) = absurd (fault_not_spelled f x)

  -- ---- THE THEOREMS

  pub says_exactly : (w : Result Filled SpaceError) → (walked ≡ w) ↔ SaysExtensions from space w
  says_exactly w = ((λ e. subst (SaysExtensions from space) e answer_says), no_second_answer)

  -- the mark and the bodies
  pub filled_exactly : (es : List Ext) → Extensions space es → (sparse : Bool) (bodies : Bodies) → (walked ≡ Ok (filled_by sparse bodies)) ↔ (Tells (HasSdir es) sparse × SaysBodies from es bodies)
  filled_exactly es x sparse bodies = ((λ e. of (subst (SaysExtensions from space) e answer_says)), (λ (m, l). no_second_answer (says_filled x m l)))
    where
      of : SaysExtensions from space (Ok (filled_by sparse bodies)) → Tells (HasSdir es) sparse × SaysBodies from es bodies
      of (says_filled {es = fs} y m l) = let e : fs ≡ es = extensions_unique space fs es y x in ((rw e at m), (rw e at l))

  -- Filled exactly if the space is spelled
  pub filled_exactly_if_spelled : IsFilled walked ↔ AllSpelled space
  filled_exactly_if_spelled = ((λ (sparse, bodies, e). of (subst (SaysExtensions from space) e answer_says)), (λ (es, x). let (sparse, bodies, m, l) = told es x in (sparse, bodies, no_second_answer (says_filled x m l))))
    where
      of : {sparse : Bool} {bodies : Bodies} → SaysExtensions from space (Ok (filled_by sparse bodies)) → AllSpelled space
      of (says_filled {es = es} x m l) = (es, x)

  -- marked exactly if one of them is `sdir`
  pub marked_exactly_if_sdir : (es : List Ext) → Extensions space es → (sparse : Bool) → ((bodies : Bodies) × (walked ≡ Ok (filled_by sparse bodies))) ↔ Tells (HasSdir es) sparse
  marked_exactly_if_sdir es x sparse = ((λ (bodies, e). ((filled_exactly es x sparse bodies).0 e).0), (λ m. let (a, bodies, n, l) = told es x in (bodies, no_second_answer (says_filled x m l))))

  -- ---- each signature that the reader goes into
  module _ {wanted : List ℕ} {of : Bodies → Option Body} (handed : Handed wanted of) (es : List Ext) (x : Extensions space es) where
    -- an answer that tells this body of the signature
    abbrev Holds : Option Body → Type 0
    Holds body = (sparse : Bool) × (bodies : Bodies) × (walked ≡ Ok (filled_by sparse bodies)) × (of bodies ≡ body)

    holds_exactly : (body : Option Body) → Holds body ↔ SaysBody wanted from es body
    holds_exactly body = (
      (λ (sparse, bodies, e, i). subst (λ (b : Option Body). SaysBody wanted from es b) i (handed_says handed ((filled_exactly es x sparse bodies).0 e).1)),
      (λ y. let (sparse, bodies, m, l) = told es x in (sparse, bodies, no_second_answer (says_filled x m l), one_body (handed_says handed l) y)),
    )

    -- no body exactly if none of them has the signature
    pub missing_exactly_if_none_signed : Holds None ↔ NoneSigned wanted es
    missing_exactly_if_none_signed = ((λ h. missing ((holds_exactly None).0 h)), (λ n. (holds_exactly None).1 (says_missing n)))

    -- a body exactly where the last of them has it
    pub lies_exactly_where_the_last_lies : (start stop : ℕ) → Holds (Some (body_between (file_at start) (file_at stop))) ↔ ((body : List ℕ) × LastSigned wanted from es start body × (stop ≡ start + length body))
    lies_exactly_where_the_last_lies start stop = (
      (λ h. lies ((holds_exactly (Some (body_between (file_at start) (file_at stop)))).0 h)),
      (λ (body, l, i). rw i ((holds_exactly (Some (body_between (file_at start) (file_at (start + length body))))).1 (says_lies l))),
    )

  -- and that body is the bytes of the file there
  pub body_is_the_bytes : {wanted : List ℕ} (es : List Ext) → Extensions space es → (place : ℕ) (body : List ℕ) → LastSigned wanted from es place body → BodyAt s end place body
  body_is_the_bytes es x place body l = body_at s from end ahead inside x l

  -- 7: the space is not exactly filled, from this place on
  pub refusal_7_exactly : (place : ℕ) → (walked ≡ Err (NotFilled (file_at place))) ↔ Faulty from space (stray place)
  refusal_7_exactly place = ((λ e. strayed (subst (SaysExtensions from space) e answer_says)), (λ f. no_second_answer (says_not_filled f)))

  -- 8: an extension that may not stand, with its signature as a number
  pub refusal_8_exactly : (n : ℕ) → (walked ≡ Err (Mandatory n)) ↔ ((signature : List ℕ) × Faulty from space (refused signature) × (n ≡ big_endian signature))
  refusal_8_exactly n = ((λ e. named (subst (SaysExtensions from space) e answer_says)), (λ (signature, f, i). rw i (no_second_answer (says_mandatory f))))

  -- the same, by the signature's four bytes
  pub refusal_8_names_the_signature : (signature : List ℕ) → FourBytes signature → (walked ≡ Err (Mandatory (big_endian signature))) ↔ Faulty from space (refused signature)
  refusal_8_names_the_signature signature is-four = (
    (λ e.
        let (other, f, i) = (refusal_8_exactly (big_endian signature)).0 e in
        subst (λ (a : List ℕ). Faulty from space (refused a)) (signature_injective (refused_is_four_bytes (bytes_within s from end bytes) f) is-four (sym i)) f),
    (λ f. no_second_answer (says_mandatory f)),
  )
