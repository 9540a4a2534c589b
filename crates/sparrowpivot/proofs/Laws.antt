-- The id of a node, as it is copied out of the store, and what goes with a reading that was refused. Assumes nothing.
use Prim.Native.Nat.{ℕ, ◌+◌, ◌*◌, ◌≤◌, ◌<◌}
use native.Mathlib.Omega.{arith}
use mathlib.Core.List.{List, [], ◌∷◌, ◌++◌, append-nil}
use mathlib.Core.Path.{◌≡◌, refl, sym, ap, ◌∙◌}
use lib.ListN.{length, take, replicate, drop_of_length-le}
use lib.Seq.{paste, take_all}
use borrow.Author.Tests.{lt-ltb, le-ltb}
use Rattle.laws.specs.Lists.{length_part}
use Rattle.format.specs.Format.{id_size}
use Rattle.node.specs.Store.{node_size, id_place, nodes_in, id_at}
use Rattle.std.specs.Prelude.{Err, Ok, Result}
use Rattle.file.specs.Answer.{carried_of, value_of}
use Rattle.file.specs.declared.Error.{Error}
use Rattle.file.specs.declared.Error.TheVariants.{BadTrailer, Mandatory, NoEntryRoom, NoNodeRoom, NoSignature, NotFilled, NotSpelled, OtherVersion, ShortFile, TooDeep}
use Rattle.file.specs.declared.Reading.{Reading}
use Rattle.sparrowpivot.specs.Told.{eight}
use Rattle.sparrowpivot.specs.Tables.{node_id}

module _ (ns : List ℕ) (i : ℕ) where
  pub no_id : {n : ℕ} → n ≡ nodes_in ns → n ≤ i → replicate id_size 0 ≡ node_id ns i
  unfolding node_id
  no_id e h = sym (rw (le-ltb i (nodes_in ns) (omega arith)))

  id_length : i < nodes_in ns → length (id_at id_size ns i) ≡ id_size
  unfolding id_at
  id_length h = rw (lt-ltb i (nodes_in ns) h) (length_part id_size (i * node_size + id_place) ns (omega arith))

  pub id_long : {n : ℕ} {part : List ℕ} → part ≡ id_at id_size ns i → n ≡ nodes_in ns → i < n → id_size ≤ length part
  id_long p e h = omega (arith, ap length p, id_length (omega arith))

  pub id_copied : (part d : List ℕ) {r : List ℕ} {n : ℕ} → r ≡ paste d 0 part id_size → length d ≡ id_size → part ≡ id_at id_size ns i → n ≡ nodes_in ns → i < n → r ≡ node_id ns i
  unfolding node_id
  id_copied part d q l p e h =
      let small : i < nodes_in ns = omega arith in
      let there : length part ≡ id_size = ap length p ∙ id_length small in
      q ∙ (λ k. take id_size part ++ drop_of_length-le d {i = id_size} (omega arith) k) ∙ append-nil (take id_size part) ∙ take_all id_size part (omega arith) ∙ p ∙ sym (rw (lt-ltb i (nodes_in ns) small))

pub ruleset laws = (no_id, id_long, id_copied)

-- a refusal carries one number
pub refused : (a : Result Reading Error) {v : ℕ} → v ≡ value_of a → ((r : Reading) → a ≡ Ok r → ⊥) → eight (v ∷ []) ≡ eight (carried_of a)
refused (Ok r) e h = absurd (h r refl)
refused (Err ShortFile) e h = ap (λ (x : ℕ). eight (x ∷ [])) e
refused (Err NoSignature) e h = ap (λ (x : ℕ). eight (x ∷ [])) e
refused (Err (OtherVersion version)) e h = ap (λ (x : ℕ). eight (x ∷ [])) e
refused (Err BadTrailer) e h = ap (λ (x : ℕ). eight (x ∷ [])) e
refused (Err (NotSpelled k)) e h = ap (λ (x : ℕ). eight (x ∷ [])) e
refused (Err (NoEntryRoom k)) e h = ap (λ (x : ℕ). eight (x ∷ [])) e
refused (Err (NotFilled place)) e h = ap (λ (x : ℕ). eight (x ∷ [])) e
refused (Err (Mandatory signature)) e h = ap (λ (x : ℕ). eight (x ∷ [])) e
refused (Err TooDeep) e h = ap (λ (x : ℕ). eight (x ∷ [])) e
refused (Err NoNodeRoom) e h = ap (λ (x : ℕ). eight (x ∷ [])) e
