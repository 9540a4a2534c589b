-- `access::order::compare`: eight bytes stand as the numbers that they spell. Assumes nothing.
use Rattle.std.proofs.Common.{◌∙◌, refl, arith}
use Rattle.access.proofs.Laws.{numbers_ranked}
use Rattle.access.proofs.order.compare.Goals as goal

pub returns-in-DifferAt : goal.returns-in-DifferAt
returns-in-DifferAt c =
    c.cmp.ensures ∙ numbers_ranked _ _ _ _ c.in-DifferAt.ensures refl _ _ c.be64.ensures c.be64-in-DifferAt.ensures (λ i. omega (arith, c.type_inv.a i)) (λ i. omega (arith, c.type_inv.b i))
