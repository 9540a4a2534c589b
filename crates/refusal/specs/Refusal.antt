-- The numbers of 01's table "When the desk says no", each named once. Assumes nothing.
use Rattle.std.specs.Prelude.{ℕ}

abbrev pub short_file : ℕ
short_file = 1

abbrev pub no_signature : ℕ
no_signature = 2

abbrev pub other_version : ℕ
other_version = 3

abbrev pub bad_trailer : ℕ
bad_trailer = 4

abbrev pub not_spelled : ℕ
not_spelled = 5

abbrev pub no_entry_room : ℕ
no_entry_room = 6

abbrev pub not_filled : ℕ
not_filled = 7

abbrev pub mandatory : ℕ
mandatory = 8

abbrev pub too_deep : ℕ
too_deep = 9

abbrev pub no_node_room : ℕ
no_node_room = 10

abbrev pub no_stage : ℕ
no_stage = 11

abbrev pub path_outside : ℕ
path_outside = 12

abbrev pub not_after : ℕ
not_after = 13

abbrev pub short_output : ℕ
short_output = 14

abbrev pub too_large : ℕ
too_large = 15

abbrev pub not_proper : ℕ
not_proper = 16
