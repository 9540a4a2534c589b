-- The times and the other fields of the file system, as a struct of their own (01, How an entry is spelled). Assumes nothing.
use Rattle.std.specs.Prelude.{ℕ, ◌+◌, List}
use Rattle.wire.specs.BigEndian.{be_at}
use Rattle.entry.specs.Layout.{ctime_place, mtime_place, dev_place, ino_place, uid_place, gid_place, size_place}
use Rattle.entry.specs.Record.{field_at}
use Rattle.entry.specs.declared.stat.Time.{Time}
use Rattle.entry.specs.declared.stat.Stat.{Stat}

-- from the number at each place: of an entry, or of a record
abbrev pub time_of : (ℕ → ℕ) → ℕ → Time
time_of f k = record { secs = f k; nsecs = f (k + 4) }

abbrev pub stat_of : (ℕ → ℕ) → Stat
stat_of f = record { mtime = time_of f mtime_place; ctime = time_of f ctime_place; dev = f dev_place; ino = f ino_place; uid = f uid_place; gid = f gid_place; size = f size_place }

-- of record i
abbrev pub stat_at : List ℕ → ℕ → Stat
stat_at rs i = stat_of (λ k. field_at 4 k rs i)

-- of the entry at `at`
abbrev pub stat_in : List ℕ → ℕ → Stat
stat_in s at = stat_of (λ k. be_at 4 s (at + k))
