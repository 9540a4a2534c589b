-- `entry::put_record` meets its contract. Assumes nothing.
use native.Mathlib.Omega.{arith}
use mathlib.Core.Path.{refl}
use lib.ListN.{replicate}
use Rattle.entry.proofs.Laws.{record_put}
use Rattle.entry.proofs.put_record.Goals as goal

pub returns : goal.returns
returns c =
    record_put _ _ (replicate 96 0) _ _ _ _ _ _ _ _ c.put_front.ensures c.put_rest.ensures c.copy_bytes.ensures refl (omega (arith, c.if-file-lt-ZEROS_AT.false)) (omega (arith, c.if-file-at.false))
    (omega (arith, c.if-records_in-i.false, c.records_in.ensures))
