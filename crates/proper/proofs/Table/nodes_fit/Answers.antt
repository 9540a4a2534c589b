-- `proper::Table::nodes_fit` meets its contract. Assumes nothing.
use native.Mathlib.Nat.{sub-zero}
use Rattle.std.specs.Prelude.{refl}
use Rattle.std.proofs.Common.{rules, tests, ◌∙◌, ap}
use Rattle.std.proofs.lemmas.Iterator.{YieldsList-from_range}
use Rattle.std.proofs.lemmas.Iterator.Search.{all_from_yields_List}
use Rattle.format.specs.Format.{depth_limit}
use Rattle.walk_order.specs.Depth.{all_is}
use Rattle.proper.specs.Proper.{all_in, node_fits}
use Rattle.proper.proofs.Table.nodes_fit.Goals as goal

pub returns : goal.returns
returns c =
    let n = c.nodes_in.result in
    let each = node_fits depth_limit c.args.self.nodes.now c.args.self.names.now in
    let all = all_from_yields_List each _ _ _ c.all.ensures.ran (YieldsList-from_range 0 n n refl (sub-zero n)) (λ x b q k. search (rules, tests)) in
    all ∙ all_is each n 0 ∙ ap (λ k. all_in each k 0) c.nodes_in.ensures
