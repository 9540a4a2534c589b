-- The numbers of a node's head, computed (01, Extensions: signs and leading zeros as the Rust's `btoi`): `-0` is 0 and has an id, `+3` and `007` are read, the count
-- fits 32 signed bits and the subtree count 64 unsigned. Assumes nothing.
use Rattle.std.specs.Prelude.{◌≡◌, refl, List, [], ◌∷◌, ◌++◌, ℕ, ◌+◌, length, replicate, None, Option, Some}
use Rattle.slices.specs.Bytes.{nul_in, nul_at}
use Rattle.wire.specs.Digits.{is_digit, grown, digits_in, unsigned_at, signed_at}
use Rattle.node.specs.Head.{minus_one, spaced_at, ended_at, counted_at, named_at, head_at}
use Rattle.node.specs.declared.Node.{Node}

-- the head of a node with no name, a count and a subtree count as they are spelled, and then 20 bytes
abbrev read : List ℕ → List ℕ → Option Node
read count subtrees = let s : List ℕ = 0 ∷ (count ++ (32 ∷ (subtrees ++ (10 ∷ replicate 20 9)))) in head_at 20 s 0 (length s)

-- a head with these numbers, whose id stands at a place and has so many bytes
abbrev head : ℕ → ℕ → ℕ → ℕ → Option Node
head count subtrees id bytes = Some (record { start = 0; stop = 0; count = count; subtrees = subtrees; id = id; next = id + bytes })

-- `-0`
minus_zero_lem : read (45 ∷ 48 ∷ []) (48 ∷ []) ≡ head 0 0 6 20
unfolding head_at named_at counted_at ended_at spaced_at nul_at nul_in signed_at unsigned_at digits_in is_digit grown
minus_zero_lem = refl

-- `+3`
plus_three : read (43 ∷ 51 ∷ []) (48 ∷ []) ≡ head 3 0 6 20
unfolding head_at named_at counted_at ended_at spaced_at nul_at nul_in signed_at unsigned_at digits_in is_digit grown
plus_three = refl

-- `007`, in both
leading_zeros : read (48 ∷ 48 ∷ 55 ∷ []) (48 ∷ 48 ∷ 55 ∷ []) ≡ head 7 7 9 20
unfolding head_at named_at counted_at ended_at spaced_at nul_at nul_in signed_at unsigned_at digits_in is_digit grown
leading_zeros = refl

-- 2^31 - 1, and 2^64 - 1
largest : read (50 ∷ 49 ∷ 52 ∷ 55 ∷ 52 ∷ 56 ∷ 51 ∷ 54 ∷ 52 ∷ 55 ∷ []) (49 ∷ 56 ∷ 52 ∷ 52 ∷ 54 ∷ 55 ∷ 52 ∷ 52 ∷ 48 ∷ 55 ∷ 51 ∷ 55 ∷ 48 ∷ 57 ∷ 53 ∷ 53 ∷ 49 ∷ 54 ∷ 49 ∷ 53 ∷ []) ≡ head 2147483647 18446744073709551615 33 20
unfolding head_at named_at counted_at ended_at spaced_at nul_at nul_in signed_at unsigned_at digits_in is_digit grown
largest = refl

-- -2^31: -1 for any negative, and no id
smallest : read (45 ∷ 50 ∷ 49 ∷ 52 ∷ 55 ∷ 52 ∷ 56 ∷ 51 ∷ 54 ∷ 52 ∷ 56 ∷ []) (48 ∷ []) ≡ head minus_one 0 15 0
unfolding head_at named_at counted_at ended_at spaced_at nul_at nul_in signed_at unsigned_at digits_in is_digit grown
smallest = refl

-- 2^31
count_above : read (50 ∷ 49 ∷ 52 ∷ 55 ∷ 52 ∷ 56 ∷ 51 ∷ 54 ∷ 52 ∷ 56 ∷ []) (48 ∷ []) ≡ None
unfolding head_at named_at counted_at ended_at spaced_at nul_at nul_in signed_at unsigned_at digits_in is_digit grown
count_above = refl

-- -2^31 - 1
count_below : read (45 ∷ 50 ∷ 49 ∷ 52 ∷ 55 ∷ 52 ∷ 56 ∷ 51 ∷ 54 ∷ 52 ∷ 57 ∷ []) (48 ∷ []) ≡ None
unfolding head_at named_at counted_at ended_at spaced_at nul_at nul_in signed_at unsigned_at digits_in is_digit grown
count_below = refl

-- 2^64
subtrees_above : read (48 ∷ []) (49 ∷ 56 ∷ 52 ∷ 52 ∷ 54 ∷ 55 ∷ 52 ∷ 52 ∷ 48 ∷ 55 ∷ 51 ∷ 55 ∷ 48 ∷ 57 ∷ 53 ∷ 53 ∷ 49 ∷ 54 ∷ 49 ∷ 54 ∷ []) ≡ None
unfolding head_at named_at counted_at ended_at spaced_at nul_at nul_in signed_at unsigned_at digits_in is_digit grown
subtrees_above = refl

-- a sign before a subtree count
subtrees_signed : read (48 ∷ []) (43 ∷ 48 ∷ []) ≡ None
unfolding head_at named_at counted_at ended_at spaced_at nul_at nul_in signed_at unsigned_at digits_in is_digit grown
subtrees_signed = refl

-- `+-1`
two_signs : read (43 ∷ 45 ∷ 49 ∷ []) (48 ∷ []) ≡ None
unfolding head_at named_at counted_at ended_at spaced_at nul_at nul_in signed_at unsigned_at digits_in is_digit grown
two_signs = refl

-- `-`
sign_alone : read (45 ∷ []) (48 ∷ []) ≡ None
unfolding head_at named_at counted_at ended_at spaced_at nul_at nul_in signed_at unsigned_at digits_in is_digit grown
sign_alone = refl
