-- Names in strict order, by bytes (a prefix first) and in git's own order (the shorter first, then by bytes), and what is known of the children that were read so
-- far. Assumes nothing.
use Rattle.std.specs.Prelude.{ℕ, Bool, true, false, List, length, ltb, eqb}
use Rattle.laws.specs.Pick.{pick}
use Rattle.laws.specs.Order.{Comparison, below, equal, beyond, compared}
use Rattle.node.specs.Store.{name_at}
use Rattle.siblings.specs.declared.Rising.{Rising}

abbrev pub is_below : Comparison → Bool
is_below below = true
is_below equal = false
is_below beyond = false

unfoldable pub before : List ℕ → List ℕ → Bool
before a b = is_below (compared a b)

-- of names of m and n bytes, the first of which is less by bytes, or is not
unfoldable pub git_before : ℕ → ℕ → Bool → Bool
git_before m n less = pick (ltb m n) true (pick (ltb n m) false less)

abbrev pub and : Bool → Bool → Bool
and a b = pick a b false

-- the children so far, whose parent is `me`, with one child more
unfoldable pub risen : List ℕ → List ℕ → ℕ → Rising → ℕ → Rising
risen names ns me so child =
    pick (eqb so.last me) (record { last = child; bytes = so.bytes; git = so.git })
    (record {
      last = child;
      bytes = and so.bytes (before (name_at names ns so.last) (name_at names ns child));
      git = and so.git (git_before (length (name_at names ns so.last)) (length (name_at names ns child)) (before (name_at names ns so.last) (name_at names ns child)));
    })
