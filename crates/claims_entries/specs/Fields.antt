-- That a record of a table shows a meaning, field for field, through the accessors. Assumes nothing.
use Rattle.std.specs.Prelude.{ℕ, ◌+◌, ◌<◌, ◌≡◌, true}
use mathlib.Core.List.{List}
use Rattle.std.proofs.Math.ListN.{length}
use Rattle.entry.specs.Flags.{stage_raw}
use Rattle.entry.specs.Paths.{Paths}
use Rattle.entry.specs.Record.{records_in, mode_at, flags_at, stage_at, start_at, end_at, id_at, lies_inside, path_at}
use Rattle.entry.specs.Stat.{stat_at}
use Rattle.entry.specs.declared.stat.Stat.{Stat as ShownStat}
use Rattle.grammar.specs.Entry.{Stat, Meaning}

-- the fields of the file system, as the accessors answer them
abbrev pub stat_shown : Stat → ShownStat
stat_shown t =
    record {
      mtime = record { secs = t.mtime; nsecs = t.mtime_nanos };
      ctime = record { secs = t.ctime; nsecs = t.ctime_nanos };
      dev = t.dev;
      ino = t.ino;
      uid = t.uid;
      gid = t.gid;
      size = t.size;
    }

-- record i shows the meaning m, and its path lies where paths lie
pub record Shows (n : ℕ) (rs : List ℕ) (ps : Paths) (i : ℕ) (m : Meaning) : Type 0 where
  pub there : i < records_in rs
  pub stat : stat_at rs i ≡ stat_shown m.stat
  pub mode : mode_at rs i ≡ m.stat.mode
  pub id : id_at n rs i ≡ m.id
  pub flags : flags_at rs i ≡ m.flags
  pub stage : stage_at rs i ≡ stage_raw m.flags
  pub start : ℕ
  pub starts : start_at rs i ≡ start
  pub ends : end_at rs i ≡ start + length m.path
  pub inside : lies_inside rs ps i ≡ true
  pub path : path_at rs ps i ≡ m.path
