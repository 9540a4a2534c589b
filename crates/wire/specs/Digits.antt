-- Numbers in digits, over the base and the largest value (01, Extensions: TREE's counts are decimal; `btoi` as settled by running it): one or more digits, leading
-- zeros allowed; a signed one may begin with `+` or `-`, and `-0` is 0. Assumes nothing.
use Rattle.std.specs.Prelude.{ℕ, zero, suc, ◌+◌, ◌-◌, ◌*◌, Bool, false, List, [], ◌∷◌, get_or, drop, ltb, leb, eqb, None, Option, Some}
use Rattle.laws.specs.Pick.{pick}
use Rattle.wire.specs.declared.Signed.{Signed}
use Rattle.wire.specs.declared.Signed.TheVariants.{Negative, Plain}

-- a byte is a digit of the base: '0' and the next base - 1
unfoldable pub is_digit : ℕ → ℕ → Bool
is_digit base x = pick (ltb x 48) false (ltb (x - 48) base)

-- a value with one digit more, where that is at most `most`
unfoldable pub grown : ℕ → ℕ → ℕ → ℕ → Option ℕ
grown v digit base most = pick (leb (v * base + digit) most) (Some (v * base + digit)) None

abbrev pub on_grown : Option ℕ → Option (ℕ × ℕ) → (ℕ → Option (ℕ × ℕ)) → Option (ℕ × ℕ)
on_grown (Some w) bad good = good w
on_grown None bad good = bad

-- the digits that stand first in l, at most f of them, after a value of v; the first is byte i of the file. What would exceed `most` is no number
unfoldable pub digits_in : ℕ → ℕ → ℕ → List ℕ → ℕ → ℕ → Option (ℕ × ℕ)
digits_in base most zero l i v = Some (v, i)
digits_in base most (suc f) [] i v = Some (v, i)
digits_in base most (suc f) (x ∷ l) i v =
    pick (is_digit base x) (on_grown (grown v (x - 48) base most) None (λ w. digits_in base most f l (i + 1) w)) (Some (v, i))

-- a number without sign from `at` on, before `end`
unfoldable pub unsigned_at : ℕ → ℕ → List ℕ → ℕ → ℕ → Option (ℕ × ℕ)
unsigned_at base most s at end =
    pick (leb end at) None
    (pick (is_digit base (get_or s at 0)) (digits_in base most (end - at) (drop at s) at 0) None)

abbrev pub plain : Option (ℕ × ℕ) → Option (Signed × ℕ)
plain (Some (v, e)) = Some (Plain v, e)
plain None = None

abbrev pub negated : Option (ℕ × ℕ) → Option (Signed × ℕ)
negated (Some (v, e)) = pick (eqb v 0) (Some (Plain 0, e)) (Some (Negative v, e))
negated None = None

-- a signed number: half is 2^31 for 32 bits, so that values reach from -half to half - 1
unfoldable pub signed_at : ℕ → ℕ → List ℕ → ℕ → ℕ → Option (Signed × ℕ)
signed_at base half s at end =
    pick (leb end at) None
    (pick (eqb (get_or s at 0) 43) (plain (unsigned_at base (half - 1) s (at + 1) end))
    (pick (eqb (get_or s at 0) 45) (negated (unsigned_at base half s (at + 1) end))
    (plain (unsigned_at base (half - 1) s at end))))
