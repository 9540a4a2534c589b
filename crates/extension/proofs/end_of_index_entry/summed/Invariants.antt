-- `extension::end_of_index_entry::summed` meets its contract. The invariant: the headers that are left, fed to the digest so far, and the last body so far come to what all extensions do; the measure is what is left to walk. Assumes nothing.
use Prim.Native.Nat.{◌-◌}
use mathlib.Core.Path.{◌≡◌}
use Rattle.extension.specs.Iter.{run_at}
use Rattle.extension.specs.EndOfIndexEntry.{prior_at}
use Rattle.kind.specs.Sha1.{sha1_kind}
use Rattle.extension.proofs.Laws.{left_over}
use Rattle.extension.proofs.end_of_index_entry.summed.Given as goal

abbrev pub invariant-loop-found : goal.invariant-loop-found
invariant-loop-found l = left_over l.file l.digest l.last (run_at l.file l.here.at.0 l.here.end.0) ≡ prior_at sha1_kind l.file l.initial.here.at.0 l.initial.here.end.0

abbrev pub decreases-loop-found : goal.decreases-loop-found
decreases-loop-found l = l.here.end.0 - l.here.at.0
