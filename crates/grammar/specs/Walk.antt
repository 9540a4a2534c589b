-- How far a walk of a cache tree comes: after how many heads, and at which depth, a node should begin; after 01, "When the desk says no": "first met when the tree is walked
-- in file order; where a node should begin 9, then 10, then its bytes; a repeated name when its parent's last subtree is done". n is the length of an id. Assumes nothing.
use Rattle.std.specs.Prelude.{ℕ, zero, suc, ◌≡◌, List, [], ◌∷◌, ◌++◌, length}
use Rattle.grammar.specs.Tree.{Head, NodeHead, Distinct}

-- a group of siblings that the walk is in: how many of them are to come, and the names of those that came
pub data Group : Type 0 where
  group : (left : ℕ) (came : List (List ℕ)) → Group

-- after k heads the bytes x of the body are left; the walk is in a group, and in others around it
pub data Walked (n : ℕ) (body : List ℕ) : ℕ → List ℕ → Group → List Group → Type 0 where
  -- the root is to come, and has no siblings
  begins : Walked n body zero body (group 1 []) []
  -- a head is spelled, and then its subtrees are to come
  head : {k left : ℕ} {x h y : List ℕ} {came : List (List ℕ)} {around : List Group} {v : Head} → Walked n body k x (group (suc left) came) around → NodeHead n h v → x ≡ h ++ y
      → Walked n body (suc k) y (group v.subtrees []) (group left (came ++ (v.name ∷ [])) ∷ around)
  -- a group is finished where none of it is to come, and then its names differ
  finished : {k : ℕ} {x : List ℕ} {came : List (List ℕ)} {g : Group} {around : List Group} → Walked n body k x (group zero came) (g ∷ around) → Distinct came
      → Walked n body k x g around

-- after k heads a node should begin at depth d; "the root has depth 1"
pub data Reaches (n : ℕ) (body : List ℕ) : ℕ → ℕ → Type 0 where
  reaches : {k left : ℕ} {x : List ℕ} {came : List (List ℕ)} {around : List Group} → Walked n body k x (group (suc left) came) around → Reaches n body (suc (length around)) k
