-- `proper::Table::child_count` meets its contract. Assumes nothing.
use Rattle.std.specs.Prelude.{◌-◌, refl}
use Rattle.std.proofs.Common.{rules, tests, ◌∙◌, ap}
use Rattle.std.proofs.lemmas.Iterator.{YieldsList-from_range}
use Rattle.std.proofs.lemmas.Iterator.Consumers.{YieldsList-from_filter, count_from_yields_List}
use Rattle.siblings.specs.Siblings.{is_child}
use Rattle.proper.specs.Proper.{child_count}
use Rattle.proper.proofs.Fits.{count_is}
use Rattle.proper.proofs.Table.child_count.Goals as goal

pub returns : goal.returns
returns c =
    let n = c.nodes_in.result in
    let ns = c.args.self.nodes.now in
    let p = c.args.p in
    count_from_yields_List c.filter.result _ c.count.ensures.ran
    (YieldsList-from_filter _ (is_child ns p) (YieldsList-from_range 1 n (n - 1) (search rules) refl) c.filter.ensures.closure (λ x b q k. search (rules, tests)))
    ∙ count_is ns p (n - 1) 1 ∙ ap (λ k. child_count ns p (k - 1) 1) c.nodes_in.ensures
