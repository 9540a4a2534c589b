-- Laws of the definitions of access in the directions that the code's proofs ask: turns of the loops, and each answer by its tests. Assumes nothing.
use mathlib.Core.Path.{◌≡◌, refl, sym, ap, subst, ◌∙◌}
use mathlib.Core.Bool.{Bool, true, false}
use mathlib.Core.List.{List, [], ◌∷◌}
use mathlib.Core.Logic.{⊎_elim}
use Prim.Native.Nat.{min, ℕ, zero, suc, ◌+◌, ◌-◌, ◌*◌, ◌/◌, ◌^◌, ◌≤◌, ◌<◌}
use native.Mathlib.Nat.{add-zero, sub-zero, mul-le-mul_right}
use native.Mathlib.Numerals.{one-add}
use native.Mathlib.Omega.{arith}
use lib.ListN.{length, get_or, drop, length-drop, drop_of_length-le}
use lib.Dec.{eqb, ltb}
use lib.Seq.{get_or-drop}
use denote.Bor.{Bor}
use borrow.Author.Tests.{ltb-true, ltb-false, lt-ltb, le-ltb, eq-eqb, ne_eqb}
use Rattle.laws.specs.Pick.{pick}
use Rattle.laws.specs.Tests.{Same, same, differs, same?, tri, lt_or_ge}
use Rattle.laws.specs.Lists.{drop-next}
use Rattle.laws.specs.Order.{below, compared, compared_lt, compared_gt, compared_eq, flip, compared_flip}
use Rattle.wire.specs.BigEndian.{be_at, be_join, be_small, bytes_same}
use Rattle.entry.specs.Paths.{Paths}
use Rattle.entry.specs.Record.{records_in, lies_inside}
use Rattle.access.specs.Order.{order_of, stage_order, then_by, agreeing, Passed, EightsOf, differ_at, agree_to}
use Rattle.access.specs.Verify.{is_less, follows_at, verify_from}
use Rattle.access.specs.Lookup.{probe_at, turn, halve, search_at}
use Rattle.access.specs.declared.order.Eights.{Eights}
use Rattle.access.specs.declared.order.Eights.TheVariants.{DifferAt, AgreeTo}
use Rattle.std.specs.Option.{is_some, IfSome, option_cmp}
use Rattle.std.proofs.lemmas.List.{get_or_default}
use Rattle.std.specs.Ordering.{ordering_then, nat_cmp, is_lt}
use Rattle.std.proofs.lemmas.Bool.Decides.{nat_tests}
use Rattle.std.specs.Prelude.{Err, None, Ok, Option, Result, Some, ⊤}
use Rattle.access.specs.declared.Error.{Error as LookupError}
use Rattle.access.specs.declared.Error.TheVariants.{PathOutside}
use Rattle.access.specs.declared.Found.{Found}
use Rattle.access.specs.declared.Found.TheVariants.{Absent, At}
use Rattle.access.specs.declared.verify.Error.{Error as VerifyError}
use Rattle.std.specs.declared.cmp.Ordering.{Ordering}
use Rattle.std.specs.declared.cmp.Ordering.TheVariants.{Equal, Greater, Less}

-- ---- the leading bytes that agree: k are found, and what is left answers r

-- past the end of either nothing agrees
none_agree : (a : List ℕ) → agreeing a [] ≡ 0
unfolding agreeing
none_agree [] = refl
none_agree (x ∷ xs) = refl

pub agree_past : (a b : List ℕ) (k : ℕ) → min (length a) (length b) ≤ k → agreeing (drop k a) (drop k b) ≡ 0
unfolding agreeing
agree_past a b k h = ⊎_elim first second (lt_or_ge (length a) (length b))
  where
    first : length a < length b → agreeing (drop k a) (drop k b) ≡ 0
    first l = let e : drop k a ≡ [] = drop_of_length-le a {i = k} (omega arith) in rw e

    second : length b ≤ length a → agreeing (drop k a) (drop k b) ≡ 0
    second l = let e : drop k b ≡ [] = drop_of_length-le b {i = k} (omega arith) in rw e (none_agree (drop k a))

-- past the end of the first as many agree as were found
module _ (a b : List ℕ) (k r : ℕ) (inv : k + agreeing (drop k a) (drop k b) ≡ r) where
  pub agree_first : length a ≤ k → k ≡ r
  unfolding agreeing
  agree_first h = let e : drop k a ≡ [] = drop_of_length-le a {i = k} h in omega (arith, rw e at inv)

module _ (a b : List ℕ) (k r : ℕ) (inv : k + agreeing (drop k a) (drop k b) ≡ r) (h : k < length a) (l : k < length b) where
  pub agree_part : (get_or a k 0 ≡ get_or b k 0 → ⊥) → k ≡ r
  unfolding agreeing
  agree_part e = omega (arith, rw (drop-next a k h, drop-next b k l, ne_eqb (get_or a k 0) (get_or b k 0) e) at inv)

  pub agree_more : get_or a k 0 ≡ get_or b k 0 → k + 1 + agreeing (drop (k + 1) a) (drop (k + 1) b) ≡ r
  unfolding agreeing
  agree_more e = omega (arith, rw (drop-next a k h, drop-next b k l, eq-eqb (get_or a k 0) (get_or b k 0) e) at inv)

-- ---- the same, eight bytes at a time

-- w bytes that are equal are passed
agree_run : (w : ℕ) (a b : List ℕ) (k : ℕ) → k + w ≤ length a → k + w ≤ length b → ((m : ℕ) → m < w → get_or a (k + m) 0 ≡ get_or b (k + m) 0)
    → w + agreeing (drop (k + w) a) (drop (k + w) b) ≡ agreeing (drop k a) (drop k b)
unfolding agreeing
agree_run zero a b k ha hb e = rw (add-zero k) (omega arith)
agree_run (suc w) a b k ha hb e =
    let q : k + suc w ≡ k + 1 + w = omega arith in
    let here : get_or a k 0 ≡ get_or b k 0 = rw (add-zero k) at (e 0 (omega arith)) in
    let ih = agree_run w a b (k + 1) (omega arith) (omega arith) (λ m l. let p : k + 1 + m ≡ k + (m + 1) = omega arith in rw p (e (m + 1) (omega arith))) in
    rw (q, drop-next a k (omega arith), drop-next b k (omega arith), eq-eqb (get_or a k 0) (get_or b k 0) here) (omega (arith, ih))

-- w bytes that are equal decide nothing
compare_run : (w : ℕ) (a b : List ℕ) (k : ℕ) → k + w ≤ length a → k + w ≤ length b → ((m : ℕ) → m < w → get_or a (k + m) 0 ≡ get_or b (k + m) 0)
    → compared (drop (k + w) a) (drop (k + w) b) ≡ compared (drop k a) (drop k b)
compare_run zero a b k ha hb e = rw (add-zero k)
compare_run (suc w) a b k ha hb e =
    let q : k + suc w ≡ k + 1 + w = omega arith in
    let here : get_or a k 0 ≡ get_or b k 0 = rw (add-zero k) at (e 0 (omega arith)) in
    let ih = compare_run w a b (k + 1) (omega arith) (omega arith) (λ m l. let p : k + 1 + m ≡ k + (m + 1) = omega arith in rw p (e (m + 1) (omega arith))) in
    rw (q, drop-next a k (omega arith), drop-next b k (omega arith), compared_eq (get_or a k 0) (get_or b k 0) (drop (k + 1) a) (drop (k + 1) b) here) ih

-- n eights are in both; j of them have agreed
module _ (a b : List ℕ) (n j : ℕ) (passed : Passed a b (j * 8)) (la : n * 8 ≤ length a) (lb : n * 8 ≤ length b) where
  pub eights_done : n ≤ j → j ≤ n → EightsOf a b (AgreeTo (n * 8))
  eights_done h l = let e : j ≡ n = omega arith in agree_to (subst (λ (i : ℕ). Passed a b (i * 8)) e passed)

  module _ (h : j < n) (x y : ℕ) (ex : x ≡ be_at 8 a (j * 8)) (ey : y ≡ be_at 8 b (j * 8)) where
    pub eights_differ : (x ≡ y → ⊥) → EightsOf a b (DifferAt (j * 8))
    eights_differ ne = differ_at passed (omega arith) (omega arith) (λ e. ne (ex ∙ e ∙ sym ey))

    pub eights_next : x ≡ y → ((i : ℕ) → get_or a i 0 < 256) → ((i : ℕ) → get_or b i 0 < 256) → Passed a b ((j + 1) * 8)
    eights_next e sa sb =
        let next : j * 8 + 8 ≡ (j + 1) * 8 = omega arith in
        let same_bytes_lem = bytes_same 8 a b (j * 8) sa sb (sym ex ∙ e ∙ ey) in
        let run : 8 + agreeing (drop (j * 8 + 8) a) (drop (j * 8 + 8) b) ≡ agreeing (drop (j * 8) a) (drop (j * 8) b) = agree_run 8 a b (j * 8) (omega arith) (omega arith) same_bytes_lem in
        let whole : Passed a b (j * 8 + 8) = record { agrees = omega (arith, passed.agrees); decides = compare_run 8 a b (j * 8) (omega arith) (omega arith) same_bytes_lem ∙ passed.decides } in
        subst (Passed a b) next whole

module _ (a b : List ℕ) (e : Eights) (k : ℕ) (eights : EightsOf a b e) where
  passed_differ : e ≡ DifferAt k → Passed a b k
  passed_differ q = by (subst (EightsOf a b) q eights)
    where
      by : EightsOf a b (DifferAt k) → Passed a b k
      by (differ_at p la lb d) = p

  passed_agree : e ≡ AgreeTo k → Passed a b k
  passed_agree q = by (subst (EightsOf a b) q eights)
    where
      by : EightsOf a b (AgreeTo k) → Passed a b k
      by (agree_to p) = p

  pub room_first : e ≡ DifferAt k → k + 8 ≤ length a
  room_first q = by (subst (EightsOf a b) q eights)
    where
      by : EightsOf a b (DifferAt k) → k + 8 ≤ length a
      by (differ_at p la lb d) = la

  pub room_second : e ≡ DifferAt k → k + 8 ≤ length b
  room_second q = by (subst (EightsOf a b) q eights)
    where
      by : EightsOf a b (DifferAt k) → k + 8 ≤ length b
      by (differ_at p la lb d) = lb

  eight_apart : e ≡ DifferAt k → be_at 8 a k ≡ be_at 8 b k → ⊥
  eight_apart q = by (subst (EightsOf a b) q eights)
    where
      by : EightsOf a b (DifferAt k) → be_at 8 a k ≡ be_at 8 b k → ⊥
      by (differ_at p la lb d) = d

-- bytes that differ stand as the numbers that they spell, which are less than 256 ^ w apart from their first byte on
first_byte_lem : (w : ℕ) (a : List ℕ) (k : ℕ) → be_at (suc w) a k ≡ get_or a k 0 * 256 ^ w + be_at w a (k + 1)
unfolding be_at
first_byte_lem w a k =
    let q : 1 + w ≡ suc w = one-add w in
    ap (λ (n : ℕ). be_at n a k) (sym q) ∙ be_join 1 w a k ∙ rw (add-zero k) (let z : 0 * 256 + get_or a k 0 ≡ get_or a k 0 = omega arith in rw z)

larger : (x y p r s : ℕ) → x < y → r < p → x * p + r < y * p + s
larger x y p r s h k = let m : (x + 1) * p ≤ y * p = mul-le-mul_right p (omega arith) in omega arith

by_numbers : (w : ℕ) (a b : List ℕ) (k : ℕ) → ((j : ℕ) → get_or a j 0 < 256) → ((j : ℕ) → get_or b j 0 < 256) → k + w ≤ length a → k + w ≤ length b → be_at w a k < be_at w b k → compared (drop k a) (drop k b) ≡ below
unfolding be_at
by_numbers zero a b k ha hb la lb h = absurd (omega arith)
by_numbers (suc w) a b k ha hb la lb h =
    let la' : k + 1 + w ≤ length a = omega arith in
    let lb' : k + 1 + w ≤ length b = omega arith in
    let fa : be_at (suc w) a k ≡ get_or a k 0 * 256 ^ w + be_at w a (k + 1) = first_byte_lem w a k in
    let fb : be_at (suc w) b k ≡ get_or b k 0 * 256 ^ w + be_at w b (k + 1) = first_byte_lem w b k in
    let less-numbers : get_or a k 0 * 256 ^ w + be_at w a (k + 1) < get_or b k 0 * 256 ^ w + be_at w b (k + 1) = omega arith in
    rw (drop-next a k (omega arith), drop-next b k (omega arith))
    (⊎_elim (λ l. compared_lt (get_or a k 0) (get_or b k 0) (drop (k + 1) a) (drop (k + 1) b) l)
    (⊎_elim
    (λ l. compared_eq (get_or a k 0) (get_or b k 0) (drop (k + 1) a) (drop (k + 1) b) l ∙ by_numbers w a b (k + 1) ha hb la' lb' (let z : get_or a k 0 * 256 ^ w ≡ get_or b k 0 * 256 ^ w = ap (λ (n : ℕ). n * 256 ^ w) l in omega arith))
    (λ l. absurd (let z = larger (get_or b k 0) (get_or a k 0) (256 ^ w) (be_at w b (k + 1)) (be_at w a (k + 1)) l (be_small w b (k + 1) hb) in omega (arith, z))))
    (tri (get_or a k 0) (get_or b k 0)))

-- ---- where two paths part

not_same : (x y : ℕ) → y ≤ x → (x ≡ y → ⊥) → y < x
not_same x y u v = omega arith

part_eq : (x y : ℕ) (xs ys : List ℕ) (t : Bool) → Same x y t → compared xs ys ≡ compared (drop (agreeing xs ys) xs) (drop (agreeing xs ys) ys)
    → compared (x ∷ xs) (y ∷ ys) ≡ compared (drop (pick t (suc (agreeing xs ys)) 0) (x ∷ xs)) (drop (pick t (suc (agreeing xs ys)) 0) (y ∷ ys))
part_eq x y xs ys true (same e) ih = compared_eq x y xs ys e ∙ ih
part_eq x y xs ys false (differs e) ih = refl

-- what agrees decides nothing
pub parted : (a b : List ℕ) → compared a b ≡ compared (drop (agreeing a b) a) (drop (agreeing a b) b)
unfolding agreeing
parted [] b = refl
parted (x ∷ xs) [] = refl
parted (x ∷ xs) (y ∷ ys) = part_eq x y xs ys (eqb x y) (same? x y) (parted xs ys)

apart_eq : (x y : ℕ) (xs ys : List ℕ) (t : Bool) → Same x y t → (agreeing xs ys < length xs → agreeing xs ys < length ys → get_or xs (agreeing xs ys) 0 ≡ get_or ys (agreeing xs ys) 0 → ⊥)
    → pick t (suc (agreeing xs ys)) 0 < suc (length xs) → pick t (suc (agreeing xs ys)) 0 < suc (length ys)
    → get_or (x ∷ xs) (pick t (suc (agreeing xs ys)) 0) 0 ≡ get_or (y ∷ ys) (pick t (suc (agreeing xs ys)) 0) 0 → ⊥
apart_eq x y xs ys true (same e) ih h k q = ih (omega arith) (omega arith) q
apart_eq x y xs ys false (differs e) ih h k q = e q

-- the first bytes behind what agrees differ
pub apart : (a b : List ℕ) → agreeing a b < length a → agreeing a b < length b → get_or a (agreeing a b) 0 ≡ get_or b (agreeing a b) 0 → ⊥
unfolding agreeing
apart [] b h k q = omega arith
apart (x ∷ xs) [] h k q = omega arith
apart (x ∷ xs) (y ∷ ys) h k q = apart_eq x y xs ys (eqb x y) (same? x y) (apart xs ys) h k q

module _ (a b : List ℕ) (k : ℕ) (e : k ≡ agreeing a b) where
  at_part : compared a b ≡ compared (drop k a) (drop k b)
  at_part = rw e (parted a b)

  pub compare_equal : length a ≤ k → length b ≤ k → Equal ≡ order_of (compared a b)
  unfolding compared
  compare_equal h l = sym (rw (at_part, drop_of_length-le a {i = k} h, drop_of_length-le b {i = k} l))

  pub compare_prefix : length a ≤ k → k < length b → Less ≡ order_of (compared a b)
  unfolding compared
  compare_prefix h l = sym (rw (at_part, drop_of_length-le a {i = k} h, drop-next b k l))

  module _ (h : k < length a) where
    pub compare_longer : length b ≤ k → Greater ≡ order_of (compared a b)
    unfolding compared
    compare_longer l = sym (rw (at_part, drop-next a k h, drop_of_length-le b {i = k} l))

    module _ (l : k < length b) where
      opened : compared a b ≡ compared (get_or a k 0 ∷ drop (k + 1) a) (get_or b k 0 ∷ drop (k + 1) b)
      opened = rw (at_part, drop-next a k h, drop-next b k l)

      pub compare_less : get_or a k 0 < get_or b k 0 → Less ≡ order_of (compared a b)
      compare_less m = sym (ap order_of (opened ∙ compared_lt (get_or a k 0) (get_or b k 0) (drop (k + 1) a) (drop (k + 1) b) m))

      pub compare_greater : get_or b k 0 ≤ get_or a k 0 → Greater ≡ order_of (compared a b)
      compare_greater m =
          let ne : get_or a k 0 ≡ get_or b k 0 → ⊥ = rw (← e) at (apart a b) h l in
          sym (ap order_of (opened ∙ compared_gt (get_or a k 0) (get_or b k 0) (drop (k + 1) a) (drop (k + 1) b) (not_same (get_or a k 0) (get_or b k 0) m ne)))

-- numbers as `cmp` ranks them, where they differ
nat_less : (x y : ℕ) → x < y → nat_cmp x y ≡ Less
nat_less x y h = grind (arith, nat_tests)

nat_more : (x y : ℕ) → y < x → nat_cmp x y ≡ Greater
nat_more x y h = grind (arith, nat_tests)

rank_by : (x y : ℕ) (o : Ordering) → (x < y → Less ≡ o) → (y ≤ x → Greater ≡ o) → (x ≡ y → ⊥) → nat_cmp x y ≡ o
rank_by x y o less more apart = ⊎_elim (λ l. nat_less x y l ∙ less l) (⊎_elim (λ e. absurd (apart e)) (λ l. nat_more x y l ∙ more (omega arith))) (tri x y)

-- the same, of what stands behind `from`
module _ (a b : List ℕ) (from k : ℕ) (e : k ≡ from + agreeing (drop from a) (drop from b)) where
  abbrev rest_a : List ℕ
  rest_a = drop from a

  abbrev rest_b : List ℕ
  rest_b = drop from b

  pub from_equal : length a ≤ k → length b ≤ k → Equal ≡ order_of (compared rest_a rest_b)
  from_equal h l = compare_equal rest_a rest_b (agreeing rest_a rest_b) refl (omega (arith, length-drop from a)) (omega (arith, length-drop from b))

  pub from_prefix : length a ≤ k → k < length b → Less ≡ order_of (compared rest_a rest_b)
  from_prefix h l = compare_prefix rest_a rest_b (agreeing rest_a rest_b) refl (omega (arith, length-drop from a)) (omega (arith, length-drop from b))

  module _ (h : k < length a) where
    pub from_longer : length b ≤ k → Greater ≡ order_of (compared rest_a rest_b)
    from_longer l = compare_longer rest_a rest_b (agreeing rest_a rest_b) refl (omega (arith, length-drop from a)) (omega (arith, length-drop from b))

    module _ (l : k < length b) where
      byte_a : get_or rest_a (agreeing rest_a rest_b) 0 ≡ get_or a k 0
      byte_a = get_or-drop from a (agreeing rest_a rest_b) 0 ∙ ap (λ (n : ℕ). get_or a n 0) (sym e)

      byte_b : get_or rest_b (agreeing rest_a rest_b) 0 ≡ get_or b k 0
      byte_b = get_or-drop from b (agreeing rest_a rest_b) 0 ∙ ap (λ (n : ℕ). get_or b n 0) (sym e)

      module _ (x y : ℕ) (ex : x ≡ get_or a k 0) (ey : y ≡ get_or b k 0) where
        pub from_less : x < y → Less ≡ order_of (compared rest_a rest_b)
        from_less m = compare_less rest_a rest_b (agreeing rest_a rest_b) refl (omega (arith, length-drop from a)) (omega (arith, length-drop from b)) (omega (arith, byte_a, byte_b))

        pub from_greater : y ≤ x → Greater ≡ order_of (compared rest_a rest_b)
        from_greater m = compare_greater rest_a rest_b (agreeing rest_a rest_b) refl (omega (arith, length-drop from a)) (omega (arith, length-drop from b)) (omega (arith, byte_a, byte_b))

      -- the first bytes that differ decide, as `cmp` ranks them
      pub from_ranked : nat_cmp (get_or a k 0) (get_or b k 0) ≡ order_of (compared rest_a rest_b)
      from_ranked =
          rank_by (get_or a k 0) (get_or b k 0) (order_of (compared rest_a rest_b)) (from_less (get_or a k 0) (get_or b k 0) refl refl) (from_greater (get_or a k 0) (get_or b k 0) refl refl)
          (λ q. apart rest_a rest_b (omega (arith, length-drop from a)) (omega (arith, length-drop from b)) (byte_a ∙ q ∙ sym byte_b))

  -- and no byte ranks before any
  pub gets_ranked : (x y : Option (Bor ℕ)) → is_some x ≡ ltb k (length a) → is_some y ≡ ltb k (length b) → IfSome x (λ v. v.now ≡ get_or a k v.now) → IfSome y (λ v. v.now ≡ get_or b k v.now)
      → option_cmp (λ v w. nat_cmp v.now w.now) x y ≡ order_of (compared rest_a rest_b)
  gets_ranked None None p q u v = from_equal (ltb-false k (length a) (sym p)) (ltb-false k (length b) (sym q))
  gets_ranked None (Some y) p q u v = from_prefix (ltb-false k (length a) (sym p)) (ltb-true k (length b) (sym q))
  gets_ranked (Some x) None p q u v = from_longer (ltb-true k (length a) (sym p)) (ltb-false k (length b) (sym q))
  gets_ranked (Some x) (Some y) p q u v =
      let h : k < length a = ltb-true k (length a) (sym p) in
      let l : k < length b = ltb-true k (length b) (sym q) in
      let same_a : x.now ≡ get_or a k 0 = u ∙ get_or_default a k x.now 0 h in
      let same_b : y.now ≡ get_or b k 0 = v ∙ get_or_default b k y.now 0 l in
      rw (same_a, same_b) (from_ranked h l)

-- the whole, from what stands behind k
module _ (a b : List ℕ) (e : Eights) (k : ℕ) (eights : EightsOf a b e) where
  module _ (q : e ≡ DifferAt k) (x y : ℕ) (ex : x ≡ be_at 8 a k) (ey : y ≡ be_at 8 b k) (sa : (j : ℕ) → get_or a j 0 < 256) (sb : (j : ℕ) → get_or b j 0 < 256) where
    whole : compared a b ≡ compared (drop k a) (drop k b)
    whole = sym (passed_differ a b e k eights q).decides

    pub numbers_less : x < y → Less ≡ order_of (compared a b)
    numbers_less h = sym (ap order_of (whole ∙ by_numbers 8 a b k sa sb (room_first a b e k eights q) (room_second a b e k eights q) (omega arith)))

    pub numbers_greater : y ≤ x → Greater ≡ order_of (compared a b)
    numbers_greater h =
        let ne : x ≡ y → ⊥ = λ z. eight_apart a b e k eights q (sym ex ∙ z ∙ ey) in
        let m : y < x = not_same x y h ne in
        sym (ap order_of (whole ∙ compared_flip (drop k b) (drop k a) ∙ ap flip (by_numbers 8 b a k sb sa (room_second a b e k eights q) (room_first a b e k eights q) (omega arith))))

    pub numbers_ranked : nat_cmp x y ≡ order_of (compared a b)
    numbers_ranked = rank_by x y (order_of (compared a b)) numbers_less numbers_greater (λ z. eight_apart a b e k eights q (sym ex ∙ z ∙ ey))

-- ---- std's words for the order's

pub then_is : (o q : Ordering) → ordering_then o q ≡ then_by o q
then_is Less q = refl
then_is Equal q = refl
then_is Greater q = refl

pub stages_are : (g h : ℕ) → nat_cmp g h ≡ stage_order g h
stages_are g h = grind (arith, nat_tests)

pub less_is : (o : Ordering) → is_lt o ≡ is_less o
less_is Less = refl
less_is Equal = refl
less_is Greater = refl

-- ---- the order check: what is left of it, from record i on, answers r

pub verify_next : (rs : List ℕ) (ps : Paths) (n i : ℕ) (r : Result ⊤ VerifyError) → verify_from rs ps (n - i) i ≡ r → i < n → (t : Bool) → t ≡ lies_inside rs ps i → t ≡ true
    → (u : Bool) → u ≡ follows_at rs ps i → u ≡ true → verify_from rs ps (n - (i + 1)) (i + 1) ≡ r
unfolding verify_from
verify_next rs ps n i r inv h t et q u eu p = let left : n - i ≡ suc (n - (i + 1)) = omega arith in sym (rw (left, ← et, q, ← eu, p)) ∙ inv

-- ---- halving: what is left of it answers r

-- no record is left
halve_stop : (p : ℕ → Option Ordering) (f low high k : ℕ) → high ≤ low → halve p f low high k ≡ Ok (Absent k)
unfolding halve
halve_stop p zero low high k h = refl
halve_stop p (suc f) low high k h = rw (le-ltb low high h)

-- one turn. The turns left are n less what has been compared
halve_turn : (p : ℕ → Option Ordering) (n low high k : ℕ) (a : Option Ordering) {b : Option Ordering} → k < n → low < high → a ≡ p ((low + high) / 2) → a ≡ b
    → halve p (n - k) low high k ≡ turn (λ l h. halve p (n - (k + 1)) l h (k + 1)) low high ((low + high) / 2) (k + 1) b
unfolding halve
halve_turn p n low high k a h l e q = let f : n - k ≡ suc (n - (k + 1)) = omega arith in rw (f, lt-ltb low high l, ← e, q)

module _ (p : ℕ → Option Ordering) (n low high k : ℕ) (r : Result Found LookupError) (inv : halve p (n - k) low high k ≡ r) where
  pub found_none : high ≤ low → Ok (Absent k) ≡ r
  found_none h = sym (halve_stop p (n - k) low high k h) ∙ inv

  module _ (w : high - low + k ≤ n) (l : low < high) (a : Option Ordering) (e : a ≡ p ((low + high) / 2)) where
    pub found_outside : a ≡ None → Err (PathOutside ((low + high) / 2)) ≡ r
    found_outside q = sym (halve_turn p n low high k a (omega arith) l e q) ∙ inv

    module _ (o : Ordering) (q : a ≡ Some o) where
      pub found_at : o ≡ Equal → Ok (At ((low + high) / 2) (k + 1)) ≡ r
      found_at z = sym (halve_turn p n low high k a (omega arith) l e (q ∙ ap Some z)) ∙ inv

      pub found_low : o ≡ Less → halve p (n - (k + 1)) ((low + high) / 2 + 1) high (k + 1) ≡ r
      found_low z = sym (halve_turn p n low high k a (omega arith) l e (q ∙ ap Some z)) ∙ inv

      found_high : o ≡ Greater → halve p (n - (k + 1)) low ((low + high) / 2) (k + 1) ≡ r
      found_high z = sym (halve_turn p n low high k a (omega arith) l e (q ∙ ap Some z)) ∙ inv

-- the middle as a number of its own: it is all of `high` that the goal shows
pub found_up : (p : ℕ → Option Ordering) (n low high k m : ℕ) (r : Result Found LookupError) → halve p (n - k) low high k ≡ r → high - low + k ≤ n → low < high → (a : Option Ordering) → a ≡ p m → m ≡ (low + high) / 2 → (o : Ordering) → a ≡ Some o → o ≡ Greater
    → halve p (n - (k + 1)) low m (k + 1) ≡ r
found_up p n low high k m r inv w l a e q o y z = rw q (found_high p n low high k r inv w l a (rw q at e) o y z)

pub search_start : (rs : List ℕ) (ps : Paths) (key : List ℕ) (stage n high : ℕ) → n ≡ records_in rs → high ≡ n → halve (probe_at rs ps key stage) (n - 0) 0 high 0 ≡ search_at rs ps key stage
unfolding search_at
search_start rs ps key stage n high e h = rw (h, sub-zero n, e)

pub ruleset orderings = (then_is, stages_are, less_is)

pub ruleset agrees = (agree_past, agree_part, agree_more)

pub ruleset halves = (found_none, found_outside, found_at, found_low, search_start)
