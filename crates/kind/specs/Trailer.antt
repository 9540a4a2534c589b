-- THE TRAILER'S RULE, the file's last bytes (01, "When the desk says no", 4: "trailer neither zeros nor SHA-1 of the rest"), over the kind. Assumes nothing.
use Rattle.std.specs.Prelude.{ℕ, ◌-◌, ◌≡◌, List, length, take, drop, replicate}
use Rattle.kind.specs.Kind.{Kind}

-- the file without its trailer, and the trailer, over the length of an id
abbrev pub content : ℕ → List ℕ → List ℕ
content id s = take (length s - id) s

abbrev pub trailer : ℕ → List ℕ → List ℕ
trailer id s = drop (length s - id) s

-- it is zeros, or the hash of the rest
pub data GoodTrailer (kind : Kind) (s : List ℕ) : Type 0 where
  zeros : trailer kind.id s ≡ replicate kind.id 0 → GoodTrailer kind s
  hashed : trailer kind.id s ≡ kind.hash (content kind.id s) → GoodTrailer kind s
