use Rattle.std.proofs.Common.{rules, ◌≡◌, ◌∙◌, Some, None}
use Rattle.wire.proofs.Laws.{digits}
use Rattle.wire.proofs.Part.run_of_digits.Goals as goal

pub returns-in_default : goal.returns-in_default
returns-in_default c = search (digits, rules)

pub returns-in_err-v : goal.returns-in_err-v
returns-in_err-v c =
    let none : c.grow.result ≡ None = search rules in
    let out : c.from_residual.result ≡ None = search rules in
    out ∙ search (digits, rules)

pub loop-i-preserved : goal.loop-i-preserved
loop-i-preserved c = let grew : c.grow.result ≡ Some c.in_ok-v.v = search rules in search (digits, rules)

pub returns : goal.returns
returns c = search (digits, rules)
