-- WHAT EACH REFUSAL LEAVES (01, "When the desk says no", the third column), number by number: of all that a call can leave. Assumes that the file is bytes and that no
-- slice has 2^64 bytes or more, the premise `Slices` of the reader's claims.
use Prim.Native.Nat.{ℕ}
use Rattle.std.specs.Prelude.{◌≡◌, refl, Bool, true, false, ltb, length, drop, Err, Ok, Result}
use Rattle.std.proofs.Common.{sym, subst}
use mathlib.Core.List.{List, ◌++◌}
use Rattle.laws.specs.Pick.{pick}
use Rattle.format.specs.Format.{depth_limit, id_size}
use Rattle.kind.specs.Sha1.{sha1_kind}
use Rattle.entry.specs.Paths.{Paths}
use Rattle.entry.specs.Record.{records_in}
use Rattle.access.proofs as access
use Rattle.grammar.specs.Entry.{Meaning, start, Entries}
use Rattle.grammar.specs.File.{version_of, count_of, space}
use Rattle.file.specs.Read as file
use Rattle.write_entries.specs.Entries.{First, found, nowhere, first_fault, on_first}
use Rattle.write.specs.File as write
use Rattle.write.specs.declared.Options.{Options}
use Rattle.claims_entries.specs.Rendering.{records_bytes, paths_bytes}
use Rattle.claims_entries.specs.Said.{filled}
use Rattle.claims_tree.specs.Said.{zeroed}
use Rattle.claims.specs.Premises.{Slices}
use Rattle.claims.specs.Said.{SaysFile, says_short, says_no_signature, says_other_version, says_bad_trailer, says_not_spelled, says_no_entry_room, says_not_filled, says_mandatory, says_too_deep, says_no_node_room}
use Rattle.claims.specs.Reading.{answer_says}
use Rattle.claims_settled.specs.Law.{Stores}
use Rattle.claims_settled.specs.Calls.{FileReadCall, file_read_answers, WriteToCall, write_to_answers}
use Rattle.file.specs.declared.Error.TheVariants as answer
use Rattle.file.specs.declared.Error.{Error as FileError}
use Rattle.file.specs.declared.Reading.{Reading}
use Rattle.write.specs.Made.{written_with}
use Rattle.write.specs.declared.Error.{Error as WriteError}
use Rattle.write.specs.declared.Error.TheVariants.{NotProper, PathOutside, ShortOutput, TooLarge}
use Rattle.write.specs.declared.Written.{Written}

-- ---- THE READER, 1 to 10

-- the three stores are as they were
pub record AsTheyWere (rs ps ns rs' ps' ns' : List ℕ) : Type 0 where
  pub records : rs' ≡ rs
  pub paths : ps' ≡ ps
  pub nodes : ns' ≡ ns

-- records and paths of the first k entries of the file s, the rest of both stores as it was, and a node store
pub record FirstEntries (s rs ps : List ℕ) (k : ℕ) (nodes rs' ps' ns' : List ℕ) : Type 0 where
  pub before : List ℕ
  pub behind : List ℕ
  pub ms : List Meaning
  pub joins : space id_size s ≡ before ++ behind
  pub spelled : Entries id_size (version_of s) start k before ms
  pub records : rs' ≡ filled rs (records_bytes id_size 0 ms)
  pub paths : ps' ≡ filled ps (paths_bytes ms)
  pub node_store : ns' ≡ nodes

module _ (s rs ps ns : List ℕ) (slices : Slices s ps ns) (rs' ps' ns' : List ℕ) where
  -- a call of `file::read` that answers a and leaves the three stores so
  abbrev pub Leaves : Result Reading FileError → Type 0
  Leaves a = FileReadCall s rs ps ns a rs' ps' ns'

  -- whatever it answers and leaves is as the rule of that answer says
  pub call_says : {a : Result Reading FileError} → Leaves a → SaysFile sha1_kind s rs ps ns (file.outcome a rs' ps' ns')
  call_says c = subst (SaysFile sha1_kind s rs ps ns) (sym (file_read_answers c)) (answer_says sha1_kind s rs ps ns slices)

  abbrev pub Untouched : Type 0
  Untouched = AsTheyWere rs ps ns rs' ps' ns'

  abbrev pub Holds : ℕ → List ℕ → Type 0
  Holds k nodes = FirstEntries s rs ps k nodes rs' ps' ns'

  -- 1 to 4: untouched
  pub after_1 : Leaves (Err answer.ShortFile) → Untouched
  after_1 e = to (call_says e)
    where
      to : {r p n : List ℕ} → SaysFile sha1_kind s rs ps ns (file.outcome (Err answer.ShortFile) r p n) → AsTheyWere rs ps ns r p n
      to (says_short h) = record { records = refl; paths = refl; nodes = refl }

  pub after_2 : Leaves (Err answer.NoSignature) → Untouched
  after_2 e = to (call_says e)
    where
      to : {r p n : List ℕ} → SaysFile sha1_kind s rs ps ns (file.outcome (Err answer.NoSignature) r p n) → AsTheyWere rs ps ns r p n
      to (says_no_signature h d) = record { records = refl; paths = refl; nodes = refl }

  pub after_3 : (version : ℕ) → Leaves (Err (answer.OtherVersion version)) → Untouched
  after_3 version e = to (call_says e)
    where
      to : {version : ℕ} {r p n : List ℕ} → SaysFile sha1_kind s rs ps ns (file.outcome (Err (answer.OtherVersion version)) r p n) → AsTheyWere rs ps ns r p n
      to (says_other_version h d f) = record { records = refl; paths = refl; nodes = refl }

  pub after_4 : Leaves (Err answer.BadTrailer) → Untouched
  after_4 e = to (call_says e)
    where
      to : {r p n : List ℕ} → SaysFile sha1_kind s rs ps ns (file.outcome (Err answer.BadTrailer) r p n) → AsTheyWere rs ps ns r p n
      to (says_bad_trailer g t) = record { records = refl; paths = refl; nodes = refl }

  -- 5 and 6: the entries before k, rest untouched
  pub after_5 : (k : ℕ) → Leaves (Err (answer.NotSpelled k)) → Holds k ns
  after_5 k e = to (call_says e)
    where
      to : {k : ℕ} {r p n : List ℕ} → SaysFile sha1_kind s rs ps ns (file.outcome (Err (answer.NotSpelled k)) r p n) → FirstEntries s rs ps k ns r p n
      to (says_not_spelled o {b = b} {ms = ms} rest h i x f none_left) = record { before = b; behind = rest; ms = ms; joins = i; spelled = x; records = refl; paths = refl; node_store = refl }

  pub after_6 : (k : ℕ) → Leaves (Err (answer.NoEntryRoom k)) → Holds k ns
  after_6 k e = to (call_says e)
    where
      to : {k : ℕ} {r p n : List ℕ} → SaysFile sha1_kind s rs ps ns (file.outcome (Err (answer.NoEntryRoom k)) r p n) → FirstEntries s rs ps k ns r p n
      to (says_no_entry_room o {b = b} {ms = ms} rest q h i x f y lacks) = record { before = b; behind = rest; ms = ms; joins = i; spelled = x; records = refl; paths = refl; node_store = refl }

  -- 7 and 8: all entries, nodes untouched
  pub after_7 : (place : ℕ) → Leaves (Err (answer.NotFilled place)) → Holds (count_of s) ns
  after_7 place e = to (call_says e)
    where
      to : {place : ℕ} {r p n : List ℕ} → SaysFile sha1_kind s rs ps ns (file.outcome (Err (answer.NotFilled place)) r p n) → FirstEntries s rs ps (count_of s) ns r p n
      to (says_not_filled o {b = b} {c = c} {ms = ms} a f) = record { before = b; behind = c; ms = ms; joins = a.joins; spelled = a.spelled; records = refl; paths = refl; node_store = refl }

  pub after_8 : (signature : ℕ) → Leaves (Err (answer.Mandatory signature)) → Holds (count_of s) ns
  after_8 signature e = to (call_says e)
    where
      to : {signature : ℕ} {r p n : List ℕ} → SaysFile sha1_kind s rs ps ns (file.outcome (Err (answer.Mandatory signature)) r p n) → FirstEntries s rs ps (count_of s) ns r p n
      to (says_mandatory o {b = b} {c = c} {ms = ms} a f) = record { before = b; behind = c; ms = ms; joins = a.joins; spelled = a.spelled; records = refl; paths = refl; node_store = refl }

  -- 9 and 10: all entries, node store zeroed
  pub after_9 : Leaves (Err answer.TooDeep) → Holds (count_of s) (zeroed ns)
  after_9 e = to (call_says e)
    where
      to : {r p n : List ℕ} → SaysFile sha1_kind s rs ps ns (file.outcome (Err answer.TooDeep) r p n) → FirstEntries s rs ps (count_of s) (zeroed ns) r p n
      to (says_too_deep o {b = b} {c = c} {ms = ms} w d) = record { before = b; behind = c; ms = ms; joins = w.entries.joins; spelled = w.entries.spelled; records = refl; paths = refl; node_store = refl }

  pub after_10 : Leaves (Err answer.NoNodeRoom) → Holds (count_of s) (zeroed ns)
  after_10 e = to (call_says e)
    where
      to : {r p n : List ℕ} → SaysFile sha1_kind s rs ps ns (file.outcome (Err answer.NoNodeRoom) r p n) → FirstEntries s rs ps (count_of s) (zeroed ns) r p n
      to (says_no_node_room o {b = b} {c = c} {ms = ms} w u d) = record { before = b; behind = c; ms = ms; joins = w.entries.joins; spelled = w.entries.spelled; records = refl; paths = refl; node_store = refl }

-- ---- LOOKUP AND ORDER CHECK, 11 to 13: nothing is lent to be written, so whatever they answer there is nothing that a call could leave otherwise

pub after_11 : (κs : _) (a : _) (w w' : Stores access.lookup.Kinds.ps access.lookup.Kinds.r κs a) → w ≡ w'
after_11 κs a w w' = refl

pub after_13 : (κs : _) (a : _) (w w' : Stores access.verify.verify_entries.Kinds.ps access.verify.verify_entries.Kinds.r κs a) → w ≡ w'
after_13 κs a w w' = refl

-- ---- THE WRITER, 12 and 14 to 16: the output is as it was

module _ (rs : List ℕ) (ps : Paths) (ns nm : List ℕ) (o : Options) (out : List ℕ) where
  -- what writing comes to: it is done, or the output is as it was
  data Kept : write.Outcome → Type 0 where
    done : (version size : ℕ) (out' : List ℕ) → Kept (write.outcome (Ok (written_with version size)) out')
    refused : (a : Result Written WriteError) → Kept (write.outcome a out)

  kept : Kept (write.write_all sha1_kind depth_limit rs ps ns nm o out)
  unfolding write.write_all write.write_file
  kept = by (first_fault rs ps (records_in rs) 0) (write.tree_fits depth_limit ns nm (write.writes_tree o)) (ltb write.most (records_in rs)) (ltb write.most (length body)) (ltb (length out) (length whole))
    where
      body : List ℕ
      body = write.body_bytes id_size depth_limit rs ps ns nm o

      whole : List ℕ
      whole = write.file_bytes sha1_kind depth_limit rs ps ns nm o

      by : (f : First) (t a b c : Bool)
          → Kept (on_first f (λ i. write.outcome (Err (PathOutside i)) out) (pick t (pick a (write.outcome (Err TooLarge) out) (pick b (write.outcome (Err TooLarge) out) (pick c (write.outcome (Err (ShortOutput (length whole))) out) (write.outcome (Ok (written_with (write.version_of rs) (length whole))) (whole ++ drop (length whole) out))))) (write.outcome (Err NotProper) out)))
      by (found i) t a b c = refused (Err (PathOutside i))
      by nowhere false a b c = refused (Err NotProper)
      by nowhere true true b c = refused (Err TooLarge)
      by nowhere true false true c = refused (Err TooLarge)
      by nowhere true false false true = refused (Err (ShortOutput (length whole)))
      by nowhere true false false false = done (write.version_of rs) (length whole) (whole ++ drop (length whole) out)

  module _ (out' : List ℕ) where
    -- a call of `write::write_to` that answers a and leaves the output so
    abbrev pub Writes : Result Written WriteError → Type 0
    Writes a = WriteToCall rs ps ns nm o out a out'

    says : {a : Result Written WriteError} → Writes a → Kept (write.outcome a out')
    says c = subst Kept (sym (write_to_answers c)) kept

    pub after_12 : (index : ℕ) → Writes (Err (PathOutside index)) → out' ≡ out
    after_12 index e = to (says e)
      where
        to : {i : ℕ} {x : List ℕ} → Kept (write.outcome (Err (PathOutside i)) x) → x ≡ out
        to (refused a) = refl

    pub after_14 : (size : ℕ) → Writes (Err (ShortOutput size)) → out' ≡ out
    after_14 size e = to (says e)
      where
        to : {n : ℕ} {x : List ℕ} → Kept (write.outcome (Err (ShortOutput n)) x) → x ≡ out
        to (refused a) = refl

    pub after_15 : Writes (Err TooLarge) → out' ≡ out
    after_15 e = to (says e)
      where
        to : {x : List ℕ} → Kept (write.outcome (Err TooLarge) x) → x ≡ out
        to (refused a) = refl

    pub after_16 : Writes (Err NotProper) → out' ≡ out
    after_16 e = to (says e)
      where
        to : {x : List ℕ} → Kept (write.outcome (Err NotProper) x) → x ≡ out
        to (refused a) = refl
