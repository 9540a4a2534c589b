use Rattle.link_sort.proofs.Laws.{sort_both}
use Rattle.link_sort.proofs.+sort.Goals as goal

pub returns : goal.returns
returns t c = sort_both _ _ _ _ _ _ c.if-levels-eq0.false c.if-n-lt2.false _ _ _ _ _ _ c.sort-a.ensures c.sort-b.ensures c.merge-first.ensures
