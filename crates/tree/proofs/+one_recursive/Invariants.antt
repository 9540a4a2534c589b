-- `tree::one_recursive` meets its contract. The remaining depth falls. The invariant: the children so far are in the order that is noted and below their parent in walk order, and what is left of the subtrees gives the whole answer. Assumes nothing.
use mathlib.Core.Path.{◌≡◌}
use lib.ListN.{length}
use Prim.Native.Nat.{◌-◌, ◌^◌, ◌<◌}
use Rattle.siblings.specs.InOrder.{SoFar}
use Rattle.link_sort.specs.Folder.{Folder}
use Rattle.tree.specs.Tree.{kids, node_at}
use Rattle.format.specs.Format.{id_size}
use Rattle.tree.proofs.+one_recursive.Given as goal

abbrev pub decreases-one_recursive : goal.decreases-one_recursive
decreases-one_recursive l = l.depth

abbrev pub invariant-loop : goal.invariant-loop
invariant-loop l =
    record {
      long : length l.nodes ≡ length l.initial.nodes;
      sized : length l.nodes < 256 ^ 8;
      order : SoFar l.file l.nodes l.used l.have l.so;
      folder : Folder l.nodes l.used l.have l.so.last;
      same : kids (node_at id_size l.file l.end-2 l.below l.used) (l.end - l.counter) l.next l.have l.nodes ≡ kids (node_at id_size l.file l.end-2 l.below l.used) l.end l.initial.next l.initial.have l.initial.nodes;
    }
