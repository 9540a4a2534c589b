-- `siblings::siblings_differ` meets its contract. Assumes nothing.
use Rattle.std.specs.Prelude.{◌-◌, refl}
use Rattle.std.proofs.Common.{rules, tests, ◌∙◌}
use Rattle.std.proofs.lemmas.Iterator.{YieldsList-from_range}
use Rattle.std.proofs.lemmas.Iterator.Search.{any_from_yields_List}
use Rattle.siblings.specs.Siblings.{repeats}
use Rattle.siblings.proofs.Laws.{any_is, differ_is}
use Rattle.siblings.proofs.siblings_differ.Goals as goal

pub returns : goal.returns
returns c =
    let each = repeats c.args.file.now c.args.nodes.now c.args.parent c.args.first in
    let found = any_from_yields_List each _ _ _ c.any.ensures.ran (YieldsList-from_range c.args.first c.args.used (c.args.used - c.args.first) refl refl) (λ x b q k. search (rules, tests)) in
    differ_is _ _ _ _ _ _ (found ∙ any_is each (c.args.used - c.args.first) c.args.first)
