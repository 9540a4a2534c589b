-- What a head that was read says of its places and numbers: they lie in the tree's bytes, and fit the store. Assumes nothing.
use Rattle.std.proofs.Math.Path.{◌≡◌, refl}
use Rattle.std.proofs.Common.{sym, subst, ◌∙◌, inl, inr, ⊎_elim, arith, get_or-drop, leb-true, ltb-false}
use Rattle.std.specs.Prelude.{Bool, List, [], ◌∷◌, ◌⊎◌, ℕ, zero, suc, ◌+◌, ◌-◌, ◌*◌, ◌≤◌, ◌<◌, length, get_or, drop, leb, eqb, None, Option, Some}
use Rattle.std.proofs.Math.Bool.{true, false}
use Rattle.std.proofs.Math.Dec.{ltb}
use Rattle.std.proofs.lemmas.Bool.{eqb-false}
use Rattle.std.proofs.lemmas.Option.{some_pair_parts}
use Rattle.laws.specs.Pick.{pick}
use Rattle.laws.specs.Tests.{AtMost, at_most, above, at_most?, Less, less, not_less, less?}
use Rattle.slices.specs.Bytes.{nul_in, nul_at}
use Rattle.slices.specs.Laws.{nul_bounds}
use Rattle.wire.specs.Digits.{is_digit, grown, on_grown, digits_in, unsigned_at, plain, negated, signed_at}
use Rattle.node.specs.declared.Node.{Node}
use Rattle.node.specs.Head.{count_half, most_subtrees, minus_one, spaced_at, ended_at, counted_at, named_at, head_at}
use Rattle.wire.specs.declared.Signed.{Signed}
use Rattle.wire.specs.declared.Signed.TheVariants.{Negative, Plain}

-- ---- a number that was read is at most the largest

module _ (v digit base most : ℕ) (k : ℕ → Option (ℕ × ℕ)) where
  grown_fits : leb (v * base + digit) most ≡ true → on_grown (grown v digit base most) None k ≡ k (v * base + digit)
  unfolding grown
  grown_fits e = rw e

  grown_over : leb (v * base + digit) most ≡ false → on_grown (grown v digit base most) None k ≡ None
  unfolding grown
  grown_over e = rw e

digits_small : (base most f : ℕ) (l : List ℕ) (i v w e : ℕ) → v ≤ most → digits_in base most f l i v ≡ Some (w, e) → w ≤ most
unfolding digits_in
digits_small base most zero l i v w e h q = omega (arith, some_pair_parts v w i e q)
digits_small base most (suc f) [] i v w e h q = omega (arith, some_pair_parts v w i e q)
digits_small base most (suc f) (x ∷ l) i v w e h q = by (is_digit base x) (leb (v * base + (x - 48)) most) refl (λ u k. digits_small base most f l (i + 1) u w e k) q
  where
    by : (t y : Bool) → leb (v * base + (x - 48)) most ≡ y → ((u : ℕ) → u ≤ most → digits_in base most f l (i + 1) u ≡ Some (w, e) → w ≤ most)
        → pick t (on_grown (grown v (x - 48) base most) None (λ u. digits_in base most f l (i + 1) u)) (Some (v, i)) ≡ Some (w, e) → w ≤ most
    by true true p ih r = ih (v * base + (x - 48)) (leb-true (v * base + (x - 48)) most p) (sym (grown_fits v (x - 48) base most (λ u. digits_in base most f l (i + 1) u) p) ∙ r)
    by true false p ih r = let n = sym (grown_over v (x - 48) base most (λ u. digits_in base most f l (i + 1) u) p) ∙ r in cc n
    by false y p ih r = omega (arith, some_pair_parts v w i e r)

unsigned_small : (base most : ℕ) (s : List ℕ) (i end w e : ℕ) → unsigned_at base most s i end ≡ Some (w, e) → w ≤ most
unfolding unsigned_at
unsigned_small base most s i end w e = by (leb end i) (is_digit base (get_or s i 0))
  where
    by : (t u : Bool) → pick t None (pick u (digits_in base most (end - i) (drop i s) i 0) None) ≡ Some (w, e) → w ≤ most
    by true u q = cc
    by false true q = digits_small base most (end - i) (drop i s) i 0 w e (omega arith) q
    by false false q = cc

signed_small : (base half : ℕ) (s : List ℕ) (i end v e : ℕ) → 0 < half → signed_at base half s i end ≡ Some (Plain v, e) → v < half
unfolding signed_at
signed_small base half s i end v e h = by (leb end i) (eqb (get_or s i 0) 43) (eqb (get_or s i 0) 45)
  where
    no_sign : (at : ℕ) (u : Option (ℕ × ℕ)) → unsigned_at base (half - 1) s at end ≡ u → plain u ≡ Some (Plain v, e) → v < half
    no_sign at (Some (w, n)) p q = let z : w ≡ v = cc ((some_pair_parts (Plain w) (Plain v) n e q).0) in omega (arith, unsigned_small base (half - 1) s at end w n p)
    no_sign at None p q = cc

    minus_value : (w n : ℕ) (t : Bool) → pick {A = Option (Signed × ℕ)} t (Some (Plain 0, n)) (Some (Negative w, n)) ≡ Some (Plain v, e) → v < half
    minus_value w n true q = let z : 0 ≡ v = cc ((some_pair_parts (Plain 0) (Plain v) n e q).0) in omega arith
    minus_value w n false q = cc ((some_pair_parts (Negative w) (Plain v) n e q).0)

    minus : (u : Option (ℕ × ℕ)) → negated u ≡ Some (Plain v, e) → v < half
    minus (Some (w, n)) q = minus_value w n (eqb w 0) q
    minus None q = cc

    by : (t u w : Bool) → pick t None (pick u (plain (unsigned_at base (half - 1) s (i + 1) end)) (pick w (negated (unsigned_at base half s (i + 1) end)) (plain (unsigned_at base (half - 1) s i end)))) ≡ Some (Plain v, e) → v < half
    by true u w q = cc
    by false true w q = no_sign (i + 1) (unsigned_at base (half - 1) s (i + 1) end) refl q
    by false false true q = minus (unsigned_at base half s (i + 1) end) q
    by false false false q = no_sign i (unsigned_at base (half - 1) s i end) refl q

spaced_small : (s : List ℕ) (i end w e : ℕ) → spaced_at s i end ≡ Some (w, e) → w ≤ most_subtrees
unfolding spaced_at
spaced_small s i end w e = by (leb end i) (eqb (get_or s i 0) 32)
  where
    by : (t u : Bool) → pick t None (pick u (unsigned_at 10 most_subtrees s (i + 1) end) None) ≡ Some (w, e) → w ≤ most_subtrees
    by true u q = cc
    by false true q = unsigned_small 10 most_subtrees s (i + 1) end w e q
    by false false q = cc

-- ---- no NUL stands before the first

no_nul_in : (f : ℕ) (l : List ℕ) (i z : ℕ) → nul_in f l i ≡ Some z → (k : ℕ) → i + k < z → get_or l k 0 ≡ 0 → ⊥
unfolding nul_in
no_nul_in zero l i z q k h e = cc
no_nul_in (suc f) [] i z q k h e = cc
no_nul_in (suc f) (c ∷ l) i z q k h e = by (eqb c 0) refl (no_nul_in f l (i + 1) z) q k h e
  where
    by : (t : Bool) → eqb c 0 ≡ t → (nul_in f l (i + 1) ≡ Some z → (k : ℕ) → i + 1 + k < z → get_or l k 0 ≡ 0 → ⊥) → pick t (Some i) (nul_in f l (i + 1)) ≡ Some z → (k : ℕ) → i + k < z → get_or (c ∷ l) k 0 ≡ 0 → ⊥
    by true p ih r k h e = let w : i ≡ z = cc in omega arith
    by false p ih r zero h e = eqb-false c 0 p e
    by false p ih r (suc k) h e = ih r k (omega arith) e

no_nul : (s : List ℕ) (at end z : ℕ) → nul_at s at end ≡ Some z → (k : ℕ) → at + k < z → get_or s (at + k) 0 ≡ 0 → ⊥
unfolding nul_at
no_nul s at end z q k h e = no_nul_in (end - at) (drop at s) at z q k h (get_or-drop at s k 0 ∙ e)

-- ---- the head

-- behind the counts
record Ended (end start stop count bytes : ℕ) (n : Node) : Type 0 where
  starts : n.start ≡ start
  stops : n.stop ≡ stop
  counts : n.count ≡ count
  small : n.subtrees ≤ most_subtrees
  long : n.next ≡ n.id + bytes
  ends : n.next ≤ end

abbrev whole : ℕ → ℕ → ℕ → ℕ → ℕ → ℕ → Node
whole start stop count bytes k at = record { start = start; stop = stop; count = count; subtrees = k; id = at + 1; next = at + 1 + bytes }

ended_says : (s : List ℕ) (end start stop count bytes : ℕ) (u : Option (ℕ × ℕ)) (n : Node) → ((w e : ℕ) → u ≡ Some (w, e) → w ≤ most_subtrees) → ended_at s end start stop count bytes u ≡ Some n → Ended end start stop count bytes n
unfolding ended_at
ended_says s end start stop count bytes None n h q = cc
ended_says s end start stop count bytes (Some (k, at)) n h q = by (at_most? end at) (eqb (get_or s at 0) 10) (less? (end - (at + 1)) bytes) q
  where
    by : {t v : Bool} → AtMost end at t → (u : Bool) → Less (end - (at + 1)) bytes v → pick t None (pick u (pick v None (Some (whole start stop count bytes k at))) None) ≡ Some n → Ended end start stop count bytes n
    by (at_most l) u y r = cc
    by (above l) false y r = cc
    by (above l) true (less y) r = cc
    by (above l) true (not_less y) r =
        let same : whole start stop count bytes k at ≡ n = cc in
        subst (λ (x : Node). Ended end start stop count bytes x) same (record { starts = refl; stops = refl; counts = refl; small = h k at refl; long = refl; ends = omega arith })

-- a head that was read, at `at`, of a tree whose bytes end at `end`
pub record Spelled (idLength : ℕ) (s : List ℕ) (at end : ℕ) (n : Node) : Type 0 where
  pub starts : n.start ≡ at
  pub named : at ≤ n.stop
  pub stops : n.stop < end
  pub plain : (k : ℕ) → at + k < n.stop → get_or s (at + k) 0 ≡ 0 → ⊥
  pub turned : n.id ≤ n.next
  pub short : n.next - n.id ≤ idLength
  pub ends : n.next ≤ end
  pub within : end ≤ length s
  pub counted : (n.count < count_half) ⊎ (n.count ≡ minus_one)
  pub small : n.subtrees ≤ most_subtrees

module _ (idLength : ℕ) (s : List ℕ) (at end : ℕ) (n : Node) where
  spelled_of : (stop count bytes : ℕ) → nul_at s at end ≡ Some stop → end ≤ length s → bytes ≤ idLength → (count < count_half) ⊎ (count ≡ minus_one) → Ended end at stop count bytes n → Spelled idLength s at end n
  spelled_of stop count bytes z l b c e =
      let bounds = nul_bounds s at end stop z in
      record {
        starts = e.starts;
        named = omega (arith, bounds.0, e.stops);
        stops = omega (arith, bounds.1, e.stops);
        plain = λ k h. no_nul s at end stop z k (omega (arith, e.stops));
        turned = omega (arith, e.long);
        short = omega (arith, e.long);
        ends = e.ends;
        within = l;
        counted = ⊎_elim (λ x. inl (omega (arith, e.counts))) (λ x. inr (e.counts ∙ x)) c;
        small = e.small;
      }

  counted_says : (stop : ℕ) (c : Option (Signed × ℕ)) → signed_at 10 count_half s (stop + 1) end ≡ c → nul_at s at end ≡ Some stop → end ≤ length s → counted_at idLength s end at stop c ≡ Some n → Spelled idLength s at end n
  unfolding counted_at
  counted_says stop None p z l q = cc
  counted_says stop (Some (Plain v, m)) p z l q =
      let k : v < count_half = signed_small 10 count_half s (stop + 1) end v m (omega arith) p in
      spelled_of stop v idLength z l (omega arith) (inl k) (ended_says s end at stop v idLength (spaced_at s m end) n (λ w e r. spaced_small s m end w e r) q)
  counted_says stop (Some (Negative v, m)) p z l q =
      spelled_of stop minus_one 0 z l (omega arith) (inr refl) (ended_says s end at stop minus_one 0 (spaced_at s m end) n (λ w e r. spaced_small s m end w e r) q)

  named_says : (e : Option ℕ) → nul_at s at end ≡ e → end ≤ length s → named_at idLength s end at e ≡ Some n → Spelled idLength s at end n
  unfolding named_at
  named_says None z l q = cc
  named_says (Some stop) z l q = counted_says stop (signed_at 10 count_half s (stop + 1) end) refl z l q

  pub head_spelled : head_at idLength s at end ≡ Some n → Spelled idLength s at end n
  unfolding head_at
  head_spelled = by (ltb (length s) end) refl
    where
      by : (t : Bool) → ltb (length s) end ≡ t → pick t None (named_at idLength s end at (nul_at s at end)) ≡ Some n → Spelled idLength s at end n
      by true e q = cc
      by false e q = named_says (nul_at s at end) refl (ltb-false (length s) end e) q
