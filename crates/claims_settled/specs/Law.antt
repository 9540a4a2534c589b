-- WHAT IT MEANS THAT A CONTRACT SETTLES A CALL (01, "Settling every answer": "Each callable entry has a promise that determines the answer and every lent byte, refused calls too. Show that
-- no second answer could satisfy it"), and the one law by which every contract does. A contract enters as `Learnt`, which Rattle makes of the function's own `ensures`: what a caller learns of
-- the arguments, the result and the parameters at the exit. So the theorems are about the contracts themselves and not about copies. Assumes nothing.
use Rattle.std.specs.Prelude.{ℕ, ◌≡◌, List}
use Rattle.std.proofs.Common.{sym, ap, ◌∙◌}
use contract.Lifetimes.{Lfts}
use denote.Triple.Clauses.{Lasts, at_exit}
use borrow.Fn.Kinds.{ParamKind, ResultKind, Out, Dens, res_t, ended_of}

module _ {n : ℕ} (ps : List (ParamKind n)) (r : ResultKind n) where
  -- what a function answers
  abbrev pub Result : Lfts n → Type 0
  Result κs = (res_t r κs).Denot

  -- what all that was lent holds at the end: for each `&mut` parameter its last contents, for any other nothing
  abbrev pub Stores : (κs : Lfts n) → Dens κs ps → Type 0
  Stores κs a = Lasts (ended_of n ps r) κs a

  -- a call with the arguments a that answers z and leaves w meets the contract
  abbrev pub Meets : Out n ps r → (κs : Lfts n) (a : Dens κs ps) → Result κs → Stores κs a → Type 0
  Meets learnt κs a z w = learnt κs a z (at_exit (ended_of n ps r) κs a w)

  -- two calls with the same arguments that meet the contract have the same answer and leave the same in every store
  abbrev pub Settles : Out n ps r → Type 0
  Settles learnt =
      (κs : Lfts n) (a : Dens κs ps) (z z' : Result κs) (w w' : Stores κs a) → Meets learnt κs a z w → Meets learnt κs a z' w' → ◌≡◌ {A = Result κs × Stores κs a} (z, w) (z', w')

  -- where the answer is a reference: the same bytes are seen through it. Where in memory they lie is not told, and a caller cannot ask
  abbrev pub SettlesSeen : {X : Type 0} → ((κs : Lfts n) → Result κs → X) → Out n ps r → Type 0
  SettlesSeen {X} see learnt =
      (κs : Lfts n) (a : Dens κs ps) (z z' : Result κs) (w w' : Stores κs a) → Meets learnt κs a z w → Meets learnt κs a z' w' → ◌≡◌ {A = X × Stores κs a} (see κs z, w) (see κs z', w')

-- ---- THE LAW: a contract is one equation of a joined value with a definition, and all of the call can be taken out of the joined value again

pub settled : {A B : Type 0} (apart : B → A) {x y d : B} → x ≡ d → y ≡ d → apart x ≡ apart y
settled apart p q = ap apart (p ∙ sym q)

-- two equations, of which each settles a part
pub both : {A X Y : Type 0} (join : X → Y → A) {x x' d : X} {y y' e : Y} → x ≡ d → x' ≡ d → y ≡ e → y' ≡ e → join x y ≡ join x' y'
both join p p' q q' i = join ((p ∙ sym p') i) ((q ∙ sym q') i)
