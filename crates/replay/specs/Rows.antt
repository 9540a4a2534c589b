-- A row of a node table that a program makes. Assumes nothing.
use Rattle.std.specs.Prelude.{ℕ, ◌≡◌, List}
use Rattle.node.specs.Store.{put_at}
use Rattle.node.specs.declared.Node.{Node}
use Rattle.replay.specs.declared.Row.{Row}

-- the store xs with node i written, whose counts and parent are the row's, and whose id is the first twenty bytes of the names, is ys
abbrev pub PutsRow : List ℕ → Row → List ℕ → ℕ → List ℕ → Type 0
PutsRow names row xs i ys =
    (n : Node) × (n.count ≡ row.count) × (n.subtrees ≡ row.subtrees) × (n.id ≡ 0) × (n.next ≡ 20) × (ys ≡ put_at names n row.parent xs i)
