-- WHERE PATHS LIE (01, How an entry is spelled: "A record holds all fields above and its path's start and end"): in the path store. Whoever asks for a record's path
-- hands this over as one thing; a second place for paths (02, A7) is a second field here. Assumes nothing.
use Rattle.std.specs.Prelude.{ℕ, List}

pub record Paths : Type 0 where
  pub store : List ℕ

-- the paths of a store
abbrev pub lying_in : List ℕ → Paths
lying_in store = record { store = store }
