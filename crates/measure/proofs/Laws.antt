-- Bounds that the code's sums and differences rest on. Assumes nothing.
use mathlib.Core.Path.{◌≡◌, refl, sym, ◌∙◌}
use mathlib.Core.Bool.{Bool, true, false}
use mathlib.Core.List.{List}
use Prim.Native.Nat.{ℕ, ◌-◌, ◌*◌, ◌%◌, ◌^◌, ◌≤◌, ◌<◌}
use native.Mathlib.Omega.{arith}
use lib.ListN.{drop}
use lib.Dec.{ltb, eqb}
use borrow.Author.Tests.{ltb-false}
use Rattle.laws.specs.Pick.{pick}
use Rattle.slices.specs.Bytes.{nul_at}
use Rattle.slices.specs.Laws.{nul_bounds}
use Rattle.wire.specs.Groups.{number_at}
use Rattle.entry.specs.Flags.{extended_to_memory}
use Rattle.measure.specs.Numbers.{groups_cut_fit}
use Rattle.std.specs.Prelude.{Err, None, Option, Result, Some}
use Rattle.wire.specs.declared.NumberError.{NumberError}
use Rattle.wire.specs.declared.NumberError.TheVariants.{Cut}

-- the bits that are kept are 29 and 30
pub extended_small : (w b : ℕ) (t : Option ℕ) → t ≡ extended_to_memory w → t ≡ Some b → b < 2147483648
unfolding extended_to_memory
extended_small w b t e q = by (ltb 32767 w) (eqb (w % 8192) 0) refl (sym e ∙ q)
  where
    by : (u v : Bool) → ltb 32767 w ≡ u → pick u None (pick v (Some (w * 65536)) None) ≡ Some b → b < 2147483648
    by true v g f = let z : ◌≡◌ {A = ℕ} 0 1 = cc in absurd (omega arith)
    by false true g f = let z : w * 65536 ≡ b = cc in omega (arith, ltb-false 32767 w g)
    by false false g f = let z : ◌≡◌ {A = ℕ} 0 1 = cc in absurd (omega arith)

-- where a text that was found ends
pub nul_after : (s : List ℕ) (p end z : ℕ) (n : Option ℕ) → n ≡ nul_at s p end → n ≡ Some z → p ≤ z
nul_after s p end z n e q = (nul_bounds s p end z (sym e ∙ q)).0

pub nul_below : (s : List ℕ) (p end z : ℕ) (n : Option ℕ) → n ≡ nul_at s p end → n ≡ Some z → z < end
nul_below s p end z n e q = (nul_bounds s p end z (sym e ∙ q)).1

-- a number that is cut
pub cut_small : (s : List ℕ) (i end b : ℕ) (n : Result (ℕ × ℕ) NumberError) → n ≡ number_at s i end → n ≡ Err (Cut b) → b * 128 < 2 ^ 64
unfolding number_at
cut_small s i end b n e q = let r = groups_cut_fit (end - i) (drop i s) i 0 b (omega arith) (sym e ∙ q) in omega (arith, r.small)
