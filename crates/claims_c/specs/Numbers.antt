-- FROM NUMBERS BACK TO ANSWERS: what a call of `sparrowpivot_read` returned and told is the reader's answer and no other, since the number and the first value of a refusal say which it is and what
-- it carries. Assumes nothing.
use Rattle.std.specs.Prelude.{ℕ, ◌≤◌, ◌≡◌, refl, Bool, true, false, List, [], ◌∷◌, ◌↔◌, eqb, Err, Ok, Result}
use Rattle.std.proofs.Common.{sym, ap, ◌∙◌, subst, arith, lit≤}
use Rattle.laws.specs.Pick.{pick}
use Rattle.refusal.specs.Refusal.{short_file, no_signature, other_version, bad_trailer, not_spelled, no_entry_room, not_filled, mandatory, too_deep, no_node_room}
use Rattle.format.specs.Format.{depth_limit}
use Rattle.kind.specs.Sha1.{sha1_kind}
use Rattle.file.specs.Answer.{number_of, carried_of, value_of}
use Rattle.file.specs.Read.{Outcome, outcome, read_file}
use Rattle.claims.specs.Claims.{IsRead, has_tree, nodes_of}
use Rattle.sparrowpivot.specs.Told.{Told, eight}
use Rattle.claims_settled.specs.Exports.{ReadCall, read_tells}
use Rattle.claims_c.specs.Terms.{value}
use Rattle.std.proofs.Math.Option.{Option, none, some}
use Rattle.grammar.specs.Tree.{Tree}
use Rattle.refusal.specs.Bit.{bit}
use Rattle.file.specs.Made.{read_with_all}
use Rattle.file.specs.declared.Error.TheVariants as answer
use Rattle.file.specs.declared.Error.{Error as FileError}
use Rattle.file.specs.declared.Reading.{Reading}

-- ---- an answer by its number and its first value

-- the refusal of a number, and what it carries
abbrev pub refusal_of : ℕ → ℕ → Result Reading FileError
refusal_of number carried =
    pick (eqb number short_file) (Err answer.ShortFile)
    (pick (eqb number no_signature) (Err answer.NoSignature)
    (pick (eqb number other_version) (Err (answer.OtherVersion carried))
    (pick (eqb number bad_trailer) (Err answer.BadTrailer)
    (pick (eqb number not_spelled) (Err (answer.NotSpelled carried))
    (pick (eqb number no_entry_room) (Err (answer.NoEntryRoom carried))
    (pick (eqb number not_filled) (Err (answer.NotFilled carried))
    (pick (eqb number mandatory) (Err (answer.Mandatory carried))
    (pick (eqb number too_deep) (Err answer.TooDeep) (Err answer.NoNodeRoom)))))))))

refusal_is : (a : Result Reading FileError) → (number_of a ≡ 0 → ⊥) → a ≡ refusal_of (number_of a) (value (carried_of a) 0)
refusal_is (Ok r) h = absurd (h refl)
refusal_is (Err answer.ShortFile) h = refl
refusal_is (Err answer.NoSignature) h = refl
refusal_is (Err (answer.OtherVersion version)) h = refl
refusal_is (Err answer.BadTrailer) h = refl
refusal_is (Err (answer.NotSpelled k)) h = refl
refusal_is (Err (answer.NoEntryRoom k)) h = refl
refusal_is (Err (answer.NotFilled place)) h = refl
refusal_is (Err (answer.Mandatory signature)) h = refl
refusal_is (Err answer.TooDeep) h = refl
refusal_is (Err answer.NoNodeRoom) h = refl

is_read : (a : Result Reading FileError) → number_of a ≡ 0 → IsRead a
is_read (Ok r) e = (r, refl)
is_read (Err answer.ShortFile) e = absurd (omega arith)
is_read (Err answer.NoSignature) e = absurd (omega arith)
is_read (Err (answer.OtherVersion version)) e = absurd (omega arith)
is_read (Err answer.BadTrailer) e = absurd (omega arith)
is_read (Err (answer.NotSpelled k)) e = absurd (omega arith)
is_read (Err (answer.NoEntryRoom k)) e = absurd (omega arith)
is_read (Err (answer.NotFilled place)) e = absurd (omega arith)
is_read (Err (answer.Mandatory signature)) e = absurd (omega arith)
is_read (Err answer.TooDeep) e = absurd (omega arith)
is_read (Err answer.NoNodeRoom) e = absurd (omega arith)

-- the eight numbers that tell what was read, of a tree or of none
pub tree_told : (version records paths : ℕ) (sparse : Bool) (t : Option Tree) → eight (carried_of (Ok (read_with_all version sparse (has_tree t) records paths (nodes_of t))))
    ≡ version ∷ bit sparse ∷ bit (has_tree t) ∷ records ∷ paths ∷ nodes_of t ∷ 0 ∷ 0 ∷ []
tree_told version records paths sparse (some t) = refl
tree_told version records paths sparse none = refl

pub asked_told : (version records paths nodes : ℕ) (sparse tree : Bool) → eight (carried_of (Ok (read_with_all version sparse tree records paths (pick tree nodes 0))))
    ≡ version ∷ bit sparse ∷ bit tree ∷ records ∷ paths ∷ pick tree nodes 0 ∷ 0 ∷ 0 ∷ []
asked_told version records paths nodes sparse true = refl
asked_told version records paths nodes sparse false = refl

number_small : (a : Result Reading FileError) → number_of a ≤ no_node_room
number_small (Ok r) = lit≤ tt
number_small (Err answer.ShortFile) = lit≤ tt
number_small (Err answer.NoSignature) = lit≤ tt
number_small (Err (answer.OtherVersion version)) = lit≤ tt
number_small (Err answer.BadTrailer) = lit≤ tt
number_small (Err (answer.NotSpelled k)) = lit≤ tt
number_small (Err (answer.NoEntryRoom k)) = lit≤ tt
number_small (Err (answer.NotFilled place)) = lit≤ tt
number_small (Err (answer.Mandatory signature)) = lit≤ tt
number_small (Err answer.TooDeep) = lit≤ tt
number_small (Err answer.NoNodeRoom) = lit≤ tt

-- ---- a call of `sparrowpivot_read`

abbrev pub reading : List ℕ → List ℕ → List ℕ → List ℕ → Outcome
reading = read_file sha1_kind depth_limit

module _ {s rs ps ns values rs' ps' ns' : List ℕ} {code : ℕ} (call : ReadCall s rs ps ns code values rs' ps' ns') where
  abbrev given : Result Reading FileError
  given = (reading s rs ps ns).answer

  pub number_told : code ≡ number_of given
  number_told = ap (λ (t : Told). t.code) (read_tells call)

  pub values_told : values ≡ eight (carried_of given)
  values_told = ap (λ (t : Told). t.values) (read_tells call)

  -- what the reader answers, with the stores as they were left
  pub left : reading s rs ps ns ≡ outcome given rs' ps' ns'
  left =
      let e = ap (λ (t : Told). t.stores) (read_tells call) in
      let a : rs' ≡ (reading s rs ps ns).records = cc in
      let b : ps' ≡ (reading s rs ps ns).paths = cc in
      let c : ns' ≡ (reading s rs ps ns).nodes = cc in
      (λ i. outcome given (sym a i) (sym b i) (sym c i))

  pub code_small : code ≤ no_node_room
  code_small = subst (λ (c : ℕ). c ≤ no_node_room) (sym number_told) (number_small given)

  -- 0 is Read
  pub zero_is_read : code ≡ 0 → IsRead given
  zero_is_read e = is_read given (sym number_told ∙ e)

  pub read_is_zero : IsRead given → code ≡ 0
  read_is_zero (r, q) = number_told ∙ ap number_of q

  -- any other number is its refusal
  pub refused : (code ≡ 0 → ⊥) → given ≡ refusal_of code (value values 0)
  refused h = refusal_is given (λ e. h (number_told ∙ e)) ∙ (λ i. refusal_of (sym number_told i) (value (sym values_told i) 0))

  -- so a number is returned exactly when its refusal is answered
  pub by_number : {number : ℕ} {a : Result Reading FileError} {P : Type 0} → ((given ≡ a) ↔ P) → (number ≡ 0 → ⊥) → number_of a ≡ number → ((x : ℕ) → refusal_of number x ≡ a)
      → (code ≡ number) ↔ P
  by_number both refuses n is = (
    (λ e. both.0 (refused (λ z. refuses (sym e ∙ z)) ∙ ap (λ (c : ℕ). refusal_of c (value values 0)) e ∙ is (value values 0))),
    (λ p. number_told ∙ ap number_of (both.1 p) ∙ n),
  )

  -- and with what it carries
  pub by_number_and_value : {number k : ℕ} {a : Result Reading FileError} {P : Type 0} → ((given ≡ a) ↔ P) → (number ≡ 0 → ⊥) → number_of a ≡ number
      → value (carried_of a) 0 ≡ k → refusal_of number k ≡ a
      → ((code ≡ number) × (value values 0 ≡ k)) ↔ P
  by_number_and_value both refuses n v is = (
    (λ (e, f). both.0 (refused (λ z. refuses (sym e ∙ z)) ∙ (λ i. refusal_of (e i) (f i)) ∙ is)),
    (λ p. (number_told ∙ ap number_of (both.1 p) ∙ n, ap (λ (l : List ℕ). value l 0) (values_told ∙ ap (λ (a : Result Reading FileError). eight (carried_of a)) (both.1 p)) ∙ v)),
  )

-- a refusal tells one value, and seven zeros
one_value : (a : Result Reading FileError) → (number_of a ≡ 0 → ⊥) → eight (carried_of a) ≡ eight (value_of a ∷ [])
one_value (Ok r) h = absurd (h refl)
one_value (Err answer.ShortFile) h = refl
one_value (Err answer.NoSignature) h = refl
one_value (Err (answer.OtherVersion version)) h = refl
one_value (Err answer.BadTrailer) h = refl
one_value (Err (answer.NotSpelled k)) h = refl
one_value (Err (answer.NoEntryRoom k)) h = refl
one_value (Err (answer.NotFilled place)) h = refl
one_value (Err (answer.Mandatory signature)) h = refl
one_value (Err answer.TooDeep) h = refl
one_value (Err answer.NoNodeRoom) h = refl

-- and that is 0 but where one is carried
nothing_carried : (a : Result Reading FileError) → (number_of a ≡ other_version → ⊥) → (number_of a ≡ not_spelled → ⊥) → (number_of a ≡ no_entry_room → ⊥)
    → (number_of a ≡ not_filled → ⊥) → (number_of a ≡ mandatory → ⊥)
    → value_of a ≡ 0
nothing_carried (Ok r) c₃ c₅ c₆ c₇ c₈ = refl
nothing_carried (Err answer.ShortFile) c₃ c₅ c₆ c₇ c₈ = refl
nothing_carried (Err answer.NoSignature) c₃ c₅ c₆ c₇ c₈ = refl
nothing_carried (Err (answer.OtherVersion version)) c₃ c₅ c₆ c₇ c₈ = absurd (c₃ refl)
nothing_carried (Err answer.BadTrailer) c₃ c₅ c₆ c₇ c₈ = refl
nothing_carried (Err (answer.NotSpelled k)) c₃ c₅ c₆ c₇ c₈ = absurd (c₅ refl)
nothing_carried (Err (answer.NoEntryRoom k)) c₃ c₅ c₆ c₇ c₈ = absurd (c₆ refl)
nothing_carried (Err (answer.NotFilled place)) c₃ c₅ c₆ c₇ c₈ = absurd (c₇ refl)
nothing_carried (Err (answer.Mandatory signature)) c₃ c₅ c₆ c₇ c₈ = absurd (c₈ refl)
nothing_carried (Err answer.TooDeep) c₃ c₅ c₆ c₇ c₈ = refl
nothing_carried (Err answer.NoNodeRoom) c₃ c₅ c₆ c₇ c₈ = refl

module _ {s rs ps ns values rs' ps' ns' : List ℕ} {code : ℕ} (call : ReadCall s rs ps ns code values rs' ps' ns') (some : code ≡ 0 → ⊥) where
  carried_told : values ≡ eight (value_of (reading s rs ps ns).answer ∷ [])
  carried_told = values_told call ∙ one_value (reading s rs ps ns).answer (λ e. some (number_told call ∙ e))

  pub one_value_told : values ≡ eight (value values 0 ∷ [])
  one_value_told = carried_told ∙ ap (λ (l : List ℕ). eight (value l 0 ∷ [])) (sym carried_told)

  pub nothing_told : (code ≡ other_version → ⊥) → (code ≡ not_spelled → ⊥) → (code ≡ no_entry_room → ⊥) → (code ≡ not_filled → ⊥) → (code ≡ mandatory → ⊥)
      → value values 0 ≡ 0
  nothing_told c₃ c₅ c₆ c₇ c₈ =
      let e = number_told call in
      ap (λ (l : List ℕ). value l 0) carried_told
      ∙ nothing_carried (reading s rs ps ns).answer (λ q. c₃ (e ∙ q)) (λ q. c₅ (e ∙ q)) (λ q. c₆ (e ∙ q)) (λ q. c₇ (e ∙ q)) (λ q. c₈ (e ∙ q))
