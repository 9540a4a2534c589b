-- `access::order::compare_from`: no byte ranks before any byte, as the end of a path does. Each answer is `gets_ranked` at what the two paths have at the place. Assumes nothing.
use Rattle.access.proofs.Laws.{gets_ranked}
use Rattle.access.proofs.order.compare_from.Goals as goal

pub returns-in-None-None : goal.returns-in-None-None
returns-in-None-None c =
    let x = c.get.ensures.lookup in
    let y = c.get-2.ensures.lookup in
    rw (c.in-None-None.is-0, c.in-None-None.is-1) at (gets_ranked _ _ _ _ c.agree_from-k.ensures _ _ x.0 y.0 x.1 y.1)

pub returns-in-None-Some : goal.returns-in-None-Some
returns-in-None-Some c =
    let x = c.get.ensures.lookup in
    let y = c.get-2.ensures.lookup in
    rw (c.in-None-Some.is-0, c.in-None-Some.is-1) at (gets_ranked _ _ _ _ c.agree_from-k.ensures _ _ x.0 y.0 x.1 y.1)

pub returns-in-Some-None : goal.returns-in-Some-None
returns-in-Some-None c =
    let x = c.get.ensures.lookup in
    let y = c.get-2.ensures.lookup in
    rw (c.in-Some-None.is-0, c.in-Some-None.is-1) at (gets_ranked _ _ _ _ c.agree_from-k.ensures _ _ x.0 y.0 x.1 y.1)

pub returns-in-Some-Some : goal.returns-in-Some-Some
returns-in-Some-Some c =
    let x = c.get.ensures.lookup in
    let y = c.get-2.ensures.lookup in
    let ranked = rw (c.in-Some-Some.is-0, c.in-Some-Some.is-1) at (gets_ranked _ _ _ _ c.agree_from-k.ensures _ _ x.0 y.0 x.1 y.1) in
    cc
