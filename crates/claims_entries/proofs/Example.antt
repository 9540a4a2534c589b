-- The premises can be met, and matter: an entry that two stores of just its size hold; a store of one byte less gives refusal 6, and a space of one byte less refusal 5.
-- Assumes nothing.
use Rattle.std.specs.Prelude.{ℕ, zero, suc, ◌<◌, ◌≡◌, refl, List, [], ◌∷◌, ◌++◌, Bool, true, false, ltb, get_or, replicate, Err, Ok}
use Rattle.std.proofs.Common.{sym, subst, inl, inr, arith, lit≤, lit<}
use Rattle.laws.specs.Pick.{pick}
use Rattle.laws.specs.Read.{Begins, refuses}
use Rattle.laws.specs.Tests.{Less, less, not_less, less?}
use Rattle.laws.specs.Times.{read_times, done}
use Rattle.wire.specs.Places.{file_at, path_at}
use Rattle.format.specs.Format.{id_size}
use Rattle.grammar.specs.Entry.{Meaning, meaning, start, Entry, Entries}
use Rattle.grammar.specs.DecideNumber.{read_bytes, read_big, decided}
use Rattle.grammar.proofs.DecideEntry.{read_words, read_fields, read_flags, read_counted, read_name, read_entry, read_entries, entry_reads, entries_reads}
use Rattle.grammar.proofs.Unique.{entries_unique}
use Rattle.claims_entries.specs.Rendering.{paths_bytes, sparse_by, Bytes}
use Rattle.claims_entries.specs.Said.{entries_space, SpaceIn, reading_of, holding, Fits, says_not_spelled, RoomFor}
use Rattle.claims_entries.proofs.Claims.{no_second_answer, stores_are_the_meaning, no_room_exactly}
use Rattle.decode.specs.Made.{done_at}
use Rattle.decode.specs.declared.entries.Error.TheVariants.{NoRoom, NotSpelled}

-- "a" of version 2, with one byte of padding, a 7, and a mode of which some bits are dropped
abbrev one : List ℕ
one = replicate 24 0 ++ (255 ∷ 255 ∷ 129 ∷ 164 ∷ replicate 12 0) ++ replicate 20 3 ++ (32 ∷ 1 ∷ 97 ∷ 7 ∷ [])

abbrev means : Meaning
means = meaning (record { ctime = 0; ctime_nanos = 0; mtime = 0; mtime_nanos = 0; dev = 0; ino = 0; mode = 0o100644; uid = 0; gid = 0; size = 0 }) (replicate 20 3) 0x2000 (97 ∷ [])

one_spelled : Entry id_size 2 start one means
unfolding read_bytes read_big read_words read_fields read_flags read_counted read_name read_entry
one_spelled = decided (entry_reads id_size 2 start) one means refl

all_spelled : Entries id_size 2 start 1 one (means ∷ [])
unfolding read_times read_bytes read_big read_words read_fields read_flags read_counted read_name read_entry read_entries
all_spelled = decided (entries_reads id_size 2 start 1) one (means ∷ []) refl

-- ---- the premises

abbrev all_bytes : List ℕ → Bool
all_bytes [] = true
all_bytes (c ∷ l) = pick (ltb c 256) (all_bytes l) false

all_bytes_lem : (l : List ℕ) → all_bytes l ≡ true → Bytes l
all_bytes_lem [] e i = lit< tt
all_bytes_lem (c ∷ l) e i = go (less? c 256) e i (λ q. all_bytes_lem l q)
  where
    go : {t : Bool} → Less c 256 t → pick t (all_bytes l) false ≡ true → (i : ℕ) → (all_bytes l ≡ true → Bytes l) → get_or (c ∷ l) i 0 < 256
    go (less h) q zero rec = h
    go (less h) q (suc i) rec = rec q i
    go (not_less h) q i rec = let z : ◌≡◌ {A = ℕ} 0 1 = cc in absurd (omega arith)

one_bytes : Bytes one
one_bytes = all_bytes_lem one refl

one_inside : SpaceIn one 0 64
one_inside = record { ahead = lit≤ tt; inside = lit≤ tt }

-- there is room in two stores of just this size
pub room_met : RoomFor id_size 2 (entries_space one 0 64) 1 (replicate 96 0) (replicate 1 0)
unfolding paths_bytes
room_met zero ms rest h (b, i, done) = record { records = lit≤ tt; paths = lit≤ tt }
room_met (suc zero) ms rest h x =
    let (e, f, g) = entries_unique id_size 2 start 1 one ms (means ∷ []) rest [] x (one, refl, all_spelled) in
    subst (λ (l : List Meaning). Fits (replicate 96 0) (replicate 1 0) 1 l) (sym e) (record { records = lit≤ tt; paths = lit≤ tt })
room_met (suc (suc k)) ms rest h x = absurd (omega arith)

-- ---- what then follows

pub one_is_read : reading_of id_size one 2 0 64 1 (replicate 96 0) (replicate 1 0) ≡ holding id_size (replicate 96 0) (replicate 1 0) (means ∷ []) (Ok (done_at (file_at 64) (path_at 1) false))
unfolding paths_bytes sparse_by
one_is_read = stores_are_the_meaning id_size (lit≤ tt) one one_bytes 2 0 64 1 one_inside (replicate 96 0) (replicate 1 0) room_met (means ∷ []) [] (one, refl, all_spelled)

pub one_record_byte_short : (reading_of id_size one 2 0 64 1 (replicate 95 0) (replicate 1 0)).answer ≡ Err (NoRoom 0)
unfolding paths_bytes
one_record_byte_short =
    (no_room_exactly id_size (lit≤ tt) one one_bytes 2 0 64 1 one_inside (replicate 95 0) (replicate 1 0) 0).1
    (lit< tt, ([], one, means, [], ([], refl, done), record { records = lit≤ tt; paths = lit≤ tt }, (one, refl, one_spelled), inl (lit< tt)))

pub one_path_byte_short : (reading_of id_size one 2 0 64 1 (replicate 96 0) []).answer ≡ Err (NoRoom 0)
unfolding paths_bytes
one_path_byte_short =
    (no_room_exactly id_size (lit≤ tt) one one_bytes 2 0 64 1 one_inside (replicate 96 0) [] 0).1
    (lit< tt, ([], one, means, [], ([], refl, done), record { records = lit≤ tt; paths = lit≤ tt }, (one, refl, one_spelled), inr (lit< tt)))

-- without its padding it is no entry
not_one : (m : Meaning) (rest : List ℕ) → ¬ Begins (Entry id_size 2 start) (entries_space one 0 63) m rest
unfolding read_bytes read_big read_words read_fields read_flags read_counted read_name read_entry
not_one = (refuses (entry_reads id_size 2 start) (entries_space one 0 63)).0 refl

pub one_space_byte_short : reading_of id_size one 2 0 63 1 (replicate 96 0) (replicate 1 0) ≡ holding id_size (replicate 96 0) (replicate 1 0) [] (Err (NotSpelled 0))
unfolding paths_bytes
one_space_byte_short =
    no_second_answer id_size (lit≤ tt) one one_bytes 2 0 63 1 (record { ahead = lit≤ tt; inside = lit≤ tt }) (replicate 96 0) (replicate 1 0)
    (says_not_spelled (entries_space one 0 63) (lit< tt) refl done (record { records = lit≤ tt; paths = lit≤ tt }) not_one)
