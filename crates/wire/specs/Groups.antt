-- The number in groups of seven bits (01, How an entry is spelled): the first group's low 7 bits; while a group has its high bit, value = (value + 1) * 128 + the
-- next group's low 7 bits. A value above 2^64 - 1 is none. Assumes nothing.
use Rattle.std.specs.Prelude.{◌≡◌, ℕ, zero, suc, ◌+◌, ◌-◌, ◌*◌, ◌%◌, ◌^◌, ◌≤◌, ◌<◌, List, [], ◌∷◌, length, get_or, drop, ltb, Err, Ok, Result}
use Rattle.std.proofs.Common.{sym, ap, ◌∙◌, arith, lt-ltb}
use Rattle.laws.specs.Lists.{drop-next}
use Rattle.laws.specs.Pick.{pick}
use Rattle.wire.specs.declared.NumberError.{NumberError}
use Rattle.wire.specs.declared.NumberError.TheVariants.{Cut, Over}

-- the groups that stand first in l, at most f of them, after a value of a; the first is byte i of the file. A value of 2^57 - 1 or more that goes on comes to
-- 2^64 or more, whatever follows, so it is over at once; where the bytes end too soon, the value so far is told
unfoldable pub groups_in : ℕ → List ℕ → ℕ → ℕ → Result (ℕ × ℕ) NumberError
groups_in zero l i a = Err (Cut a)
groups_in (suc f) [] i a = Err (Cut a)
groups_in (suc f) (c ∷ l) i a =
    pick (ltb c 128) (Ok (a * 128 + c % 128, i + 1))
    (pick (ltb (a * 128 + c % 128) (2 ^ 57 - 1)) (groups_in f l (i + 1) (a * 128 + c % 128 + 1)) (Err Over))

-- the number from `at` on, before `end`
unfoldable pub number_at : List ℕ → ℕ → ℕ → Result (ℕ × ℕ) NumberError
number_at s at end = groups_in (end - at) (drop at s) at 0

-- a group below 128 is the last
pub groups_end : (s : List ℕ) (i end a c : ℕ) → c ≡ get_or s i 0 → i < end → end ≤ length s → c < 128 → groups_in (end - i) (drop i s) i a ≡ Ok (a * 128 + c % 128, i + 1)
unfolding groups_in
groups_end s i end a c same h k m =
    let left : end - i ≡ suc (end - (i + 1)) = omega arith in
    let here : drop i s ≡ c ∷ drop (i + 1) s = drop-next s i (omega arith) ∙ ap (λ (x : ℕ). x ∷ drop (i + 1) s) (sym same) in
    rw (left, here, lt-ltb c 128 m)
