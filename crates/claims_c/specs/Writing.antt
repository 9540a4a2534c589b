-- FROM NUMBERS BACK TO ANSWERS, for the writer: what a call of `sparrowpivot_write` returned and told is the writer's answer and no other. Assumes nothing.
use Rattle.std.specs.Prelude.{ℕ, ◌≡◌, refl, List, [], ◌∷◌, ◌↔◌, ◌⊎◌, eqb, Err, Ok, Result}
use Rattle.std.proofs.Common.{sym, ap, ◌∙◌, inl, inr}
use Rattle.laws.specs.Pick.{pick}
use Rattle.refusal.specs.Refusal.{path_outside, short_output, too_large, not_proper}
use Rattle.format.specs.Format.{depth_limit}
use Rattle.kind.specs.Sha1.{sha1_kind}
use Rattle.entry.specs.Paths.{Paths}
use Rattle.write.specs.File.{Outcome, number_of, carried_of, write_all}
use Rattle.claims_write.specs.Answers.{IsDone}
use Rattle.sparrowpivot.specs.Told.{Told, eight}
use Rattle.sparrowpivot.specs.Writing.{options_from}
use Rattle.claims_settled.specs.Exports.{WriteCall, write_tells}
use Rattle.claims_c.specs.Terms.{value}
use Rattle.write.specs.declared.Error.TheVariants as answer
use Rattle.write.specs.Made.{written_with}
use Rattle.write.specs.declared.Error.{Error as WriteError}
use Rattle.write.specs.declared.Written.{Written}

-- the answer of a number and the first two values
abbrev pub answer_told : ℕ → ℕ → ℕ → Result Written WriteError
answer_told number v w =
    pick (eqb number 0) (Ok (written_with v w))
    (pick (eqb number path_outside) (Err (answer.PathOutside v))
    (pick (eqb number short_output) (Err (answer.ShortOutput v))
    (pick (eqb number too_large) (Err answer.TooLarge) (Err answer.NotProper))))

answer_is : (a : Result Written WriteError) → a ≡ answer_told (number_of a) (value (carried_of a) 0) (value (carried_of a) 1)
answer_is (Ok w) = refl
answer_is (Err (answer.PathOutside index)) = refl
answer_is (Err answer.NotProper) = refl
answer_is (Err answer.TooLarge) = refl
answer_is (Err (answer.ShortOutput size)) = refl

-- version and size, or the one value of a refusal; the others are 0
two_values : (a : Result Written WriteError) → eight (carried_of a) ≡ eight (value (carried_of a) 0 ∷ value (carried_of a) 1 ∷ [])
two_values (Ok w) = refl
two_values (Err (answer.PathOutside index)) = refl
two_values (Err answer.NotProper) = refl
two_values (Err answer.TooLarge) = refl
two_values (Err (answer.ShortOutput size)) = refl

one_value : (a : Result Written WriteError) → (number_of a ≡ 0 → ⊥) → value (carried_of a) 1 ≡ 0
one_value (Ok w) h = absurd (h refl)
one_value (Err (answer.PathOutside index)) h = refl
one_value (Err answer.NotProper) h = refl
one_value (Err answer.TooLarge) h = refl
one_value (Err (answer.ShortOutput size)) h = refl

abbrev pub OneOfFive : ℕ → Type 0
OneOfFive code = (code ≡ 0) ⊎ ((code ≡ path_outside) ⊎ ((code ≡ short_output) ⊎ ((code ≡ too_large) ⊎ (code ≡ not_proper))))

one_of_five : (a : Result Written WriteError) → OneOfFive (number_of a)
one_of_five (Ok w) = inl refl
one_of_five (Err (answer.PathOutside index)) = inr (inl refl)
one_of_five (Err (answer.ShortOutput size)) = inr (inr (inl refl))
one_of_five (Err answer.TooLarge) = inr (inr (inr (inl refl)))
one_of_five (Err answer.NotProper) = inr (inr (inr (inr refl)))

module _ {rs : List ℕ} {ps : Paths} {ns nm out values out' : List ℕ} {options code : ℕ} (call : WriteCall rs ps ns nm options out code values out') where
  abbrev writing : Outcome
  writing = write_all sha1_kind depth_limit rs ps ns nm (options_from options) out

  number_told : code ≡ number_of writing.answer
  number_told = ap (λ (t : Told). t.code) (write_tells call)

  values_told : values ≡ eight (carried_of writing.answer)
  values_told = ap (λ (t : Told). t.values) (write_tells call)

  pub output : writing.out ≡ out'
  output =
      let e = ap (λ (t : Told). t.stores) (write_tells call) in
      let q : writing.out ≡ out' = cc in
      q

  pub two_values_told : values ≡ eight (value values 0 ∷ value values 1 ∷ [])
  two_values_told = values_told ∙ two_values writing.answer ∙ ap (λ (l : List ℕ). eight (value l 0 ∷ value l 1 ∷ [])) (sym values_told)

  pub second_is_zero : (code ≡ 0 → ⊥) → value values 1 ≡ 0
  second_is_zero n = ap (λ (l : List ℕ). value l 1) values_told ∙ one_value writing.answer (λ e. n (number_told ∙ e))

  given : writing.answer ≡ answer_told code (value values 0) (value values 1)
  given = answer_is writing.answer ∙ (λ i. answer_told (sym number_told i) (value (sym values_told i) 0) (value (sym values_told i) 1))

  pub zero_is_done : code ≡ 0 → writing.answer ≡ Ok (written_with (value values 0) (value values 1))
  zero_is_done e = given ∙ ap (λ (c : ℕ). answer_told c (value values 0) (value values 1)) e

  pub done_is_zero : IsDone writing.answer → code ≡ 0
  done_is_zero (version, size, q) = number_told ∙ ap number_of q

  pub code_is_one_of_five : OneOfFive code
  code_is_one_of_five = rw number_told (one_of_five writing.answer)

  -- a number is returned exactly when its answer is given
  pub by_number : {number : ℕ} {a : Result Written WriteError} {P : Type 0} → ((writing.answer ≡ a) ↔ P) → number_of a ≡ number → ((v w : ℕ) → answer_told number v w ≡ a)
      → (code ≡ number) ↔ P
  by_number both n is = (
    (λ e. both.0 (given ∙ ap (λ (c : ℕ). answer_told c (value values 0) (value values 1)) e ∙ is (value values 0) (value values 1))),
    (λ p. number_told ∙ ap number_of (both.1 p) ∙ n),
  )

  -- and with what it carries
  pub by_number_and_value : {number k : ℕ} {a : Result Written WriteError} {P : Type 0} → ((writing.answer ≡ a) ↔ P) → number_of a ≡ number → value (carried_of a) 0 ≡ k
      → ((w : ℕ) → answer_told number k w ≡ a) → ((code ≡ number) × (value values 0 ≡ k)) ↔ P
  by_number_and_value both n v is = (
    (λ (e, f). both.0 (given ∙ (λ i. answer_told (e i) (f i) (value values 1)) ∙ is (value values 1))),
    (λ p. (number_told ∙ ap number_of (both.1 p) ∙ n, ap (λ (l : List ℕ). value l 0) (values_told ∙ ap (λ (a : Result Written WriteError). eight (carried_of a)) (both.1 p)) ∙ v)),
  )
