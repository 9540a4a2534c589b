-- `slices::first_nul` meets its contract. Assumes nothing.
use Rattle.std.proofs.Common.{rules, ◌≡◌, ◌∙◌, None}
use native.Mathlib.Omega.{arith}
use Rattle.slices.specs.Laws.{nul_past, nul_absent, nul_found}
use Rattle.slices.proofs.first_nul.Goals as goal

pub returns-then-end-at : goal.returns-then-end-at
returns-then-end-at c = nul_past c.args.s.now c.args.at c.args.end (omega arith)

pub returns-in_err-n : goal.returns-in_err-n
returns-in_err-n c =
    let out : c.from_residual.result ≡ None = search rules in
    out ∙ nul_absent c.args.s.now c.args.at c.args.end (search rules)

pub returns : goal.returns
returns c = nul_found c.args.s.now c.args.at c.args.end c.in_ok-n.n (search rules) (search rules) (search rules)
