-- The bytes of a tree (01, Extensions and Writing, and tree/write.rs), over the length of an id and the depth: a node's head, its children in byte order of name,
-- and a node with all that is below it. Defined for every table; only a proper one is written. Assumes nothing.
use Rattle.std.specs.Prelude.{Bool, true, ◌≡◌, List, [], ◌∷◌, ◌++◌, ℕ, zero, suc, ◌+◌, ◌-◌, leb, eqb, length}
use Rattle.laws.specs.Pick.{pick}
use Rattle.laws.specs.Put.{put}
use Rattle.wire.specs.Written.{digits_of}
use Rattle.node.specs.Head.{minus_one}
use Rattle.node.specs.Store.{nodes_in, count_at, subtrees_at, parent_at, id_at, name_at}
use Rattle.tree_write.specs.Order.{before}

-- the bytes are put at a place, and end where it is said
abbrev pub Puts : List ℕ → ℕ → List ℕ → List ℕ → ℕ → Type 0
Puts bytes at out new end = (end ≡ at + length bytes) × (new ≡ put out at bytes)

-- ---- a node's head

-- -1 or decimal digits
unfoldable pub count_bytes : ℕ → List ℕ
count_bytes count = pick (eqb count minus_one) (45 ∷ 49 ∷ []) (digits_of 10 count)

-- name, NUL, entry count
unfoldable pub front_bytes : List ℕ → List ℕ → ℕ → List ℕ
front_bytes ns nm i = (name_at nm ns i ++ (0 ∷ [])) ++ count_bytes (count_at ns i)

-- space, subtree count, newline
unfoldable pub number_bytes : List ℕ → ℕ → List ℕ
number_bytes ns i = ((32 ∷ []) ++ digits_of 10 (subtrees_at ns i)) ++ (10 ∷ [])

-- an id unless the count is negative
unfoldable pub id_bytes : ℕ → List ℕ → ℕ → List ℕ
id_bytes id ns i = pick (eqb (count_at ns i) minus_one) [] (id_at id ns i)

unfoldable pub head_bytes : ℕ → List ℕ → List ℕ → ℕ → List ℕ
head_bytes id ns nm i = (front_bytes ns nm i ++ number_bytes ns i) ++ id_bytes id ns i

-- ---- the children, each the first after the last one; 0, the root, is no child

-- node j comes after the last child
unfoldable pub after : List ℕ → List ℕ → ℕ → ℕ → Bool
after ns nm last j = pick (eqb last 0) true (before ns nm last j)

-- node j comes before the best one so far
unfoldable pub ahead : List ℕ → List ℕ → ℕ → ℕ → Bool
ahead ns nm j best = pick (eqb best 0) true (before ns nm j best)

unfoldable pub better : List ℕ → List ℕ → ℕ → ℕ → ℕ → ℕ → ℕ
better ns nm p last best j = pick (eqb (parent_at ns j) p) (pick (after ns nm last j) (pick (ahead ns nm j best) j best) best) best

-- the best of k nodes from j on
unfoldable pub best_run : List ℕ → List ℕ → ℕ → ℕ → ℕ → ℕ → ℕ → ℕ
best_run ns nm p last zero j best = best
best_run ns nm p last (suc k) j best = best_run ns nm p last k (j + 1) (better ns nm p last best j)

-- the first child of p after the last one, or 0
unfoldable pub next_kid : List ℕ → List ℕ → ℕ → ℕ → ℕ
next_kid ns nm p last = best_run ns nm p last (nodes_in ns - 1) 1 0

-- the children of p after the last one, in order
unfoldable pub kids : List ℕ → List ℕ → ℕ → ℕ → ℕ → List ℕ
kids ns nm p zero last = []
kids ns nm p (suc k) last = pick (eqb (next_kid ns nm p last) 0) [] (next_kid ns nm p last ∷ kids ns nm p k (next_kid ns nm p last))

-- ---- the tree

unfoldable pub each : (ℕ → List ℕ) → List ℕ → List ℕ
each f [] = []
each f (x ∷ xs) = f x ++ each f xs

-- a node and what is below it, at most so many levels deep
unfoldable pub node_bytes : ℕ → List ℕ → List ℕ → ℕ → ℕ → List ℕ
node_bytes id ns nm zero i = []
node_bytes id ns nm (suc d) i = head_bytes id ns nm i ++ each (node_bytes id ns nm d) (kids ns nm i (nodes_in ns) 0)

abbrev pub tree_bytes : ℕ → ℕ → List ℕ → List ℕ → List ℕ
tree_bytes id limit ns nm = node_bytes id ns nm limit 0

-- the output with a tree put at a place; as it was where the tree does not fit
unfoldable pub put_fit : List ℕ → ℕ → List ℕ → List ℕ
put_fit out at tree = pick (leb (at + length tree) (length out)) (put out at tree) out
