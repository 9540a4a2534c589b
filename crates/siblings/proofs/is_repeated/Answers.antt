-- `siblings::is_repeated` meets its contract. Assumes nothing.
use Rattle.std.specs.Prelude.{◌-◌, refl}
use Rattle.std.proofs.Common.{rules, tests, ◌∙◌}
use Rattle.std.proofs.lemmas.Iterator.{YieldsList-from_range}
use Rattle.std.proofs.lemmas.Iterator.Search.{any_from_yields_List}
use Rattle.siblings.specs.Siblings.{twin}
use Rattle.siblings.proofs.Laws.{any_is, repeats_child, repeats_other}
use Rattle.siblings.proofs.is_repeated.Goals as goal

pub returns-then-parent : goal.returns-then-parent
returns-then-parent c =
    let each = twin c.args.file.now c.args.nodes.now c.args.parent c.args.i in
    let found = any_from_yields_List each _ _ _ c.any.ensures.ran (YieldsList-from_range c.args.first c.args.i (c.args.i - c.args.first) refl refl) (λ x b q k. search (rules, tests)) in
    repeats_child _ _ _ _ _ _ c.parent.ensures c.if-parent.true _ (found ∙ any_is each (c.args.i - c.args.first) c.args.first)

pub returns-else-parent : goal.returns-else-parent
returns-else-parent c = search (rules, repeats_other)
