use mathlib.Core.Path.{sym, ◌∙◌}
use native.Mathlib.Omega.{arith}
use Rattle.walk_order.specs.Child.{whole_below}
use Rattle.walk_order.specs.Kid.{kid_none}
use Rattle.tree_write.specs.Span.{kid_is}
use Rattle.tree_write.proofs.folder.Folder.last_kid.Goals as goal

pub returns-then-leaf-self : goal.returns-then-leaf-self
returns-then-leaf-self c = record { kid = sym (kid_none _ _ _ (omega arith)); kept = c.requires.spine }

pub climb-kid-requires : goal.climb-kid-requires
climb-kid-requires c = record {
  leaf = omega (arith, c.args.self.span.within, c.args.self.span.behind);
  above = c.find_foot-from.ensures;
  spine = (c.requires.spine, c.requires.depth.1);
}

pub returns-then-self-kid : goal.returns-then-self-kid
returns-then-self-kid c = record {
  kid = kid_is _ (whole_below _ _ c.args.self.walk) _ _ c.args.self.span _ c.if-self-kid.true (sym c.parent.ensures ∙ c.if-parent-self.true) c.climb-kid.ensures.0;
  kept = c.climb-kid.ensures.1;
}
