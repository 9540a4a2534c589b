-- `walk_order::in_walk_order` meets its contract. Assumes nothing.
use Rattle.std.specs.Prelude.{◌-◌, refl}
use Rattle.std.proofs.Common.{rules, tests, ◌∙◌}
use Rattle.std.proofs.lemmas.Iterator.{YieldsList-from_range}
use Rattle.std.proofs.lemmas.Iterator.Search.{all_from_yields_List}
use Rattle.walk_order.specs.Depth.{all_is}
use Rattle.walk_order.proofs.Laws.{follows, walk_is}
use Rattle.walk_order.proofs.in_walk_order.Goals as goal

pub returns : goal.returns
returns c =
    let n = c.nodes_in.result in
    let each = follows c.args.nodes.now in
    let all = all_from_yields_List each _ _ _ c.all.ensures.ran (YieldsList-from_range 1 n (n - 1) refl refl) (λ x b q k. search (rules, tests)) in
    all ∙ all_is each (n - 1) 1 ∙ walk_is c.args.nodes.now n c.nodes_in.ensures
