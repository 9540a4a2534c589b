-- `siblings::rises` meets its contract. Assumes nothing.
use Rattle.std.specs.Prelude.{◌≡◌}
use Rattle.std.proofs.Common.{rules}
use Rattle.siblings.specs.Rising.{and}
use Rattle.siblings.proofs.Laws.{risen_first, risen_next}
use Rattle.siblings.proofs.rises.Goals.{then-so, else-so}
use Rattle.siblings.proofs.rises.Goals as goal

pub returns-then-so-me : goal.returns-then-so-me
returns-then-so-me c = search (rules, risen_first)

pub returns-then-so-2 : goal.returns-then-so-2
returns-then-so-2 c =
    let bytes : c.if-so.result ≡ and c.args.so.bytes c.comes_before-less.result = elim c.if-so.branch [ then-so w ↦ search rules | else-so w ↦ search rules ] in
    risen_next _ _ _ _ _ c.if-so-me.false _ _ c.name-a.ensures c.name-b.ensures _ c.comes_before-less.ensures _ _ bytes (rw c.if-so-2.true c.ahead_in_git.ensures)

pub returns-else-so-2 : goal.returns-else-so-2
returns-else-so-2 c =
    let bytes : c.if-so.result ≡ and c.args.so.bytes c.comes_before-less.result = elim c.if-so.branch [ then-so w ↦ search rules | else-so w ↦ search rules ] in
    risen_next _ _ _ _ _ c.if-so-me.false _ _ c.name-a.ensures c.name-b.ensures _ c.comes_before-less.ensures _ _ bytes (search rules)
