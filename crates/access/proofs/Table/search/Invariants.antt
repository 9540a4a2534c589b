-- The turns that are left suffice, and what they come to is the answer. Assumes nothing.
use Rattle.std.specs.Prelude.{◌≡◌, ◌+◌, ◌-◌, ◌≤◌}
use Rattle.entry.specs.Paths.{lying_in}
use Rattle.access.specs.Lookup.{probe_at, halve, search_at}
use Rattle.access.proofs.Table.search.Given as goal

abbrev pub invariant-loop-low : goal.invariant-loop-low
invariant-loop-low l =
    record {
      inside : l.high ≤ l.n;
      enough : l.high - l.low + l.compared ≤ l.n;
      same : halve (probe_at l.self.records.now (lying_in l.self.paths.now) l.key.path.now l.key.stage) (l.n - l.compared) l.low l.high l.compared ≡ search_at l.self.records.now (lying_in l.self.paths.now) l.key.path.now l.key.stage;
    }

abbrev pub decreases-loop-low : goal.decreases-loop-low
decreases-loop-low l = l.high - l.low
