-- The number of 01's table "When the desk says no" for each answer of the reader, and what goes with it. Assumes nothing.
use Rattle.std.specs.Prelude.{ℕ, Bool, true, false, List, [], ◌∷◌, ◌≡◌, refl, Err, None, Ok, Option, Result, Some, is_some, unwrap_or}
use Rattle.laws.specs.Pick.{pick}
use Rattle.refusal.specs.Refusal as refusal
use Rattle.refusal.specs.Bit.{bit}
use Rattle.file.specs.declared.Error.{Error as FileError}
use Rattle.file.specs.declared.Error.TheVariants.{BadTrailer, Mandatory, NoEntryRoom, NoNodeRoom, NoSignature, NotFilled, NotSpelled, OtherVersion, ShortFile, TooDeep}
use Rattle.file.specs.declared.Reading.{Reading}
use Rattle.decode.specs.declared.header.Error.{Error as HeaderError}
use Rattle.decode.specs.declared.header.Error.TheVariants as header
use Rattle.decode.specs.declared.entries.Error.{Error as EntriesError}
use Rattle.decode.specs.declared.entries.Error.TheVariants as entries
use Rattle.extension.specs.declared.decode.Error.{Error as SpaceError}
use Rattle.extension.specs.declared.decode.Error.TheVariants as space
use Rattle.tree.specs.declared.Error.{Error as TreeError}
use Rattle.tree.specs.declared.Error.TheVariants as tree

-- 0 where the file was read
abbrev pub number_of : Result Reading FileError → ℕ
number_of (Ok r) = 0
number_of (Err ShortFile) = refusal.short_file
number_of (Err NoSignature) = refusal.no_signature
number_of (Err (OtherVersion version)) = refusal.other_version
number_of (Err BadTrailer) = refusal.bad_trailer
number_of (Err (NotSpelled k)) = refusal.not_spelled
number_of (Err (NoEntryRoom k)) = refusal.no_entry_room
number_of (Err (NotFilled place)) = refusal.not_filled
number_of (Err (Mandatory signature)) = refusal.mandatory
number_of (Err TooDeep) = refusal.too_deep
number_of (Err NoNodeRoom) = refusal.no_node_room

-- what goes with it: the version, whether the index is sparse, whether there is a tree, how many records, path bytes and nodes are used; or what a refusal carries
abbrev pub carried_of : Result Reading FileError → List ℕ
carried_of (Ok r) = r.version ∷ bit r.sparse ∷ bit (is_some r.tree) ∷ r.records ∷ r.path_bytes ∷ (unwrap_or r.tree 0) ∷ []
carried_of (Err ShortFile) = []
carried_of (Err NoSignature) = []
carried_of (Err (OtherVersion version)) = version ∷ []
carried_of (Err BadTrailer) = []
carried_of (Err (NotSpelled k)) = k ∷ []
carried_of (Err (NoEntryRoom k)) = k ∷ []
carried_of (Err (NotFilled place)) = place ∷ []
carried_of (Err (Mandatory signature)) = signature ∷ []
carried_of (Err TooDeep) = []
carried_of (Err NoNodeRoom) = []

-- ---- the refusals of the parts

abbrev pub of_header : HeaderError → FileError
of_header header.ShortFile = ShortFile
of_header header.NoSignature = NoSignature
of_header (header.OtherVersion version) = OtherVersion version

abbrev pub of_entries : EntriesError → FileError
of_entries (entries.NotSpelled k) = NotSpelled k
of_entries (entries.NoRoom k) = NoEntryRoom k

abbrev pub of_space : SpaceError → FileError
of_space (space.NotFilled place) = NotFilled place.0
of_space (space.Mandatory signature) = Mandatory signature

abbrev pub of_tree : TreeError → FileError
of_tree tree.TooDeep = TooDeep
of_tree tree.NoRoom = NoNodeRoom

-- ---- the line of a refusal

-- whether a value stands in it, and which, 0 where none does
abbrev pub carries_of : Result Reading FileError → Bool
carries_of (Ok r) = false
carries_of (Err ShortFile) = false
carries_of (Err NoSignature) = false
carries_of (Err (OtherVersion version)) = true
carries_of (Err BadTrailer) = false
carries_of (Err (NotSpelled k)) = true
carries_of (Err (NoEntryRoom k)) = true
carries_of (Err (NotFilled place)) = true
carries_of (Err (Mandatory signature)) = true
carries_of (Err TooDeep) = false
carries_of (Err NoNodeRoom) = false

abbrev pub value_of : Result Reading FileError → ℕ
value_of (Ok r) = 0
value_of (Err ShortFile) = 0
value_of (Err NoSignature) = 0
value_of (Err (OtherVersion version)) = version
value_of (Err BadTrailer) = 0
value_of (Err (NotSpelled k)) = k
value_of (Err (NoEntryRoom k)) = k
value_of (Err (NotFilled place)) = place
value_of (Err (Mandatory signature)) = signature
value_of (Err TooDeep) = 0
value_of (Err NoNodeRoom) = 0

abbrev pub value_carried : Result Reading FileError → Option ℕ
value_carried a = pick (carries_of a) (Some (value_of a)) None

-- and it shows all that the refusal carries
pub line_shows_what_is_carried : (a : Result Reading FileError) → (number_of a ≡ 0 → ⊥) → carried_of a ≡ pick (carries_of a) (value_of a ∷ []) []
line_shows_what_is_carried (Ok r) h = absurd (h refl)
line_shows_what_is_carried (Err ShortFile) h = refl
line_shows_what_is_carried (Err NoSignature) h = refl
line_shows_what_is_carried (Err (OtherVersion version)) h = refl
line_shows_what_is_carried (Err BadTrailer) h = refl
line_shows_what_is_carried (Err (NotSpelled k)) h = refl
line_shows_what_is_carried (Err (NoEntryRoom k)) h = refl
line_shows_what_is_carried (Err (NotFilled place)) h = refl
line_shows_what_is_carried (Err (Mandatory signature)) h = refl
line_shows_what_is_carried (Err TooDeep) h = refl
line_shows_what_is_carried (Err NoNodeRoom) h = refl
