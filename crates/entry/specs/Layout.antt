-- The numbers of a record's layout: 96 bytes, of which the ten fields and the id stand as in an entry (01, How an entry is spelled). Assumes nothing.
use Rattle.std.specs.Prelude.{ℕ}

abbrev pub record_size : ℕ
record_size = 96

-- where the fields start, in an entry and in a record
abbrev pub ctime_place : ℕ
ctime_place = 0

abbrev pub mtime_place : ℕ
mtime_place = 8

abbrev pub dev_place : ℕ
dev_place = 16

abbrev pub ino_place : ℕ
ino_place = 20

abbrev pub mode_place : ℕ
mode_place = 24

abbrev pub uid_place : ℕ
uid_place = 28

abbrev pub gid_place : ℕ
gid_place = 32

abbrev pub size_place : ℕ
size_place = 36

abbrev pub id_place : ℕ
id_place = 40

-- where the rest starts, in a record
abbrev pub flags_place : ℕ
flags_place = 72

abbrev pub start_place : ℕ
start_place = 76

abbrev pub end_place : ℕ
end_place = 84
