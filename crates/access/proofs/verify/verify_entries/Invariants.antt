-- What the check answers from record i on is its answer. Assumes nothing.
use Rattle.std.specs.Prelude.{◌≡◌, ◌-◌}
use Rattle.entry.specs.Paths.{lying_in}
use Rattle.access.specs.Verify.{verify_from, verify_at}
use Rattle.access.proofs.verify.verify_entries.Given as goal

abbrev pub invariant-loop-i : goal.invariant-loop-i
invariant-loop-i l = verify_from l.records (lying_in l.paths) (l.n - l.i) l.i ≡ verify_at l.records (lying_in l.paths)
