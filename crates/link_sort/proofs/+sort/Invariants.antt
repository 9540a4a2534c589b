-- `link_sort::sort` meets its contract. Assumes nothing.
use Rattle.link_sort.proofs.+sort.Given as goal

abbrev pub decreases-sort : goal.decreases-sort
decreases-sort l = l.levels
