-- The head of a node of the TREE extension (01, Extensions): name, NUL, signed decimal entry count, space, unsigned decimal subtree count, newline, and an id
-- unless the count is negative. Defined over the id's length. Assumes nothing.
use Rattle.std.specs.Prelude.{ℕ, ◌+◌, ◌-◌, List, length, get_or, ltb, leb, eqb, None, Option, Some}
use Rattle.laws.specs.Pick.{pick}
use Rattle.slices.specs.Bytes.{nul_at}
use Rattle.wire.specs.Digits.{unsigned_at, signed_at}
use Rattle.node.specs.declared.Node.{Node}
use Rattle.wire.specs.declared.Signed.{Signed}
use Rattle.wire.specs.declared.Signed.TheVariants.{Negative, Plain}

-- the count fits 32 signed bits, the subtree count 64 unsigned
abbrev pub count_half : ℕ
count_half = 2147483648

abbrev pub most_subtrees : ℕ
most_subtrees = 18446744073709551615

-- -1 in 64 bits, for any negative count, and for the root's parent
abbrev pub minus_one : ℕ
minus_one = 18446744073709551615

-- a space, and then the subtree count
unfoldable pub spaced_at : List ℕ → ℕ → ℕ → Option (ℕ × ℕ)
spaced_at s at end =
    pick (leb end at) None
    (pick (eqb (get_or s at 0) 32) (unsigned_at 10 most_subtrees s (at + 1) end) None)

-- behind the subtree count: a newline, and an id of so many bytes
unfoldable pub ended_at : List ℕ → ℕ → ℕ → ℕ → ℕ → ℕ → Option (ℕ × ℕ) → Option Node
ended_at s end start stop count bytes None = None
ended_at s end start stop count bytes (Some (subtrees, at)) =
    pick (leb end at) None
    (pick (eqb (get_or s at 0) 10)
    (pick (ltb (end - (at + 1)) bytes) None
    (Some (record { start = start; stop = stop; count = count; subtrees = subtrees; id = at + 1; next = at + 1 + bytes })))
    None)

-- behind the entry count; a negative one has an id of no bytes
unfoldable pub counted_at : ℕ → List ℕ → ℕ → ℕ → ℕ → Option (Signed × ℕ) → Option Node
counted_at idLength s end start stop None = None
counted_at idLength s end start stop (Some (Plain v, n)) = ended_at s end start stop v idLength (spaced_at s n end)
counted_at idLength s end start stop (Some (Negative v, n)) = ended_at s end start stop minus_one 0 (spaced_at s n end)

-- behind the name
unfoldable pub named_at : ℕ → List ℕ → ℕ → ℕ → Option ℕ → Option Node
named_at idLength s end start None = None
named_at idLength s end start (Some stop) = counted_at idLength s end start stop (signed_at 10 count_half s (stop + 1) end)

-- the head at `at`, of a tree whose bytes end at `end`
unfoldable pub head_at : ℕ → List ℕ → ℕ → ℕ → Option Node
head_at idLength s at end = pick (ltb (length s) end) None (named_at idLength s end at (nul_at s at end))
