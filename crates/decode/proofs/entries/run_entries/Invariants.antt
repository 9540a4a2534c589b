-- `decode::entries::run_entries` meets its contract. The invariant, `State`: what is left to read, from here, comes to what the whole does. Assumes nothing.
use Prim.Native.Nat.{◌+◌, ◌-◌}
use Rattle.format.specs.Format.{id_size}
use Rattle.decode.proofs.Laws.{State}
use Rattle.decode.specs.Entries.{run_of}
use Rattle.decode.proofs.entries.run_entries.Given as goal

abbrev pub invariant-loop-k : goal.invariant-loop-k
invariant-loop-k l = State l.file l.r.end l.r.version l.fn.records l.fn.paths (run_of id_size l.file l.r l.fn.b l.fn.records l.fn.paths) l.r.index (l.k-end - l.k) (l.r.index + l.k) l.at l.used l.path l.sparse l.records l.paths
