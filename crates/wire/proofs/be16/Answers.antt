-- `wire::be16` meets its contract. Assumes nothing.
use native.Mathlib.Nat.{add-zero}
use native.Mathlib.Omega.{arith}
use Rattle.wire.specs.BigEndian.{be_at}
use Rattle.wire.proofs.be16.Goals as goal

pub returns : goal.returns
unfolding be_at
returns c = rw (add-zero c.args.at) (omega (arith, c.from_be_bytes.ensures))
