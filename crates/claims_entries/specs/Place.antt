-- Bytes that lie at a place of a file, before `end`, and the two ways to say so. Assumes nothing.
use Rattle.std.specs.Prelude.{ℕ, ◌+◌, ◌-◌, ◌≤◌, ◌≡◌, refl, List, [], ◌++◌, length, take, drop}
use Rattle.std.proofs.Common.{sym, ap, ◌∙◌, subst, append_assoc, arith, length-drop, take-append-drop, take-add, drop_at, drop-drop, length-take-le}
use Rattle.std.proofs.Math.ListN.{length-append}
use Rattle.std.proofs.Math.Seq.{drop-append_seam, take-append_seam, take-append-add}
use Rattle.std.proofs.lemmas.List.{drop-append-le}
use Rattle.laws.specs.Lists.{length_part}

pub record Lies (s : List ℕ) (at end : ℕ) (b : List ℕ) : Type 0 where
  pub fits : at + length b ≤ end
  pub rest : List ℕ
  pub is : drop at s ≡ b ++ rest

module _ {s : List ℕ} {at end : ℕ} {b : List ℕ} (l : Lies s at end b) where
  pub lies_rest : drop (at + length b) s ≡ l.rest
  lies_rest = sym (drop-drop (length b) at s) ∙ rw l.is (drop-append_seam b l.rest)

  pub lies_take : take (length b) (drop at s) ≡ b
  lies_take = rw l.is (take-append_seam b l.rest)

  pub lies_at : {j : ℕ} → at ≡ j → Lies s j end b
  lies_at e = subst (λ (i : ℕ). Lies s i end b) e l

module _ {s : List ℕ} {at end : ℕ} (b c : List ℕ) where
  pub lies_left : Lies s at end (b ++ c) → Lies s at end b
  lies_left l = record { fits = omega (arith, l.fits, length-append b c); rest = c ++ l.rest; is = l.is ∙ append_assoc b c l.rest }

  pub lies_right : Lies s at end (b ++ c) → Lies s (at + length b) end c
  unfolding lies_left
  lies_right l = record { fits = omega (arith, l.fits, length-append b c); rest = l.rest; is = lies_rest (lies_left l) }

  pub lies_join : Lies s at end b → Lies s (at + length b) end c → Lies s at end (b ++ c)
  lies_join l m =
      record {
        fits = omega (arith, m.fits, length-append b c);
        rest = m.rest;
        is = l.is ∙ ap (λ (r : List ℕ). b ++ r) (sym (lies_rest l) ∙ m.is) ∙ sym (append_assoc b c m.rest);
      }

-- behind b, by the place where it ends
pub lies_then : {s : List ℕ} {at end j : ℕ} (b c : List ℕ) → Lies s at end b → Lies s j end c → j ≡ at + length b → Lies s at end (b ++ c)
lies_then b c l m e = lies_join b c l (lies_at m e)

-- nothing lies anywhere before `end`
pub lies_nothing : (s : List ℕ) (at end : ℕ) → at ≤ end → Lies s at end []
lies_nothing s at end h = record { fits = omega arith; rest = drop at s; is = refl }

-- the k bytes at a place
pub lies_part : (s : List ℕ) (at end k : ℕ) → at + k ≤ end → end ≤ length s → Lies s at end (take k (drop at s))
lies_part s at end k h e = record { fits = omega (arith, length_part k at s (omega arith)); rest = drop k (drop at s); is = sym (take-append-drop k (drop at s)) }

drop-take : (s : List ℕ) (at k : ℕ) → at ≤ length s → drop at (take (at + k) s) ≡ take k (drop at s)
drop-take s at k h = rw (take-add at k s) (drop_at (take at s) (take k (drop at s)) at (length-take-le at s h))

-- the same as first bytes of what is left before `end`
pub lies_from : (s : List ℕ) (at end : ℕ) (b rest : List ℕ) → at ≤ end → end ≤ length s → drop at (take end s) ≡ b ++ rest → Lies s at end b
lies_from s at end b rest h k e =
    let n : length (b ++ rest) ≡ end - at = ap length (sym e) ∙ length-drop at (take end s) ∙ ap (λ (j : ℕ). j - at) (length-take-le end s k) in
    let m : drop at (take end s ++ drop end s) ≡ drop at (take end s) ++ drop end s = drop-append-le at (take end s) (drop end s) (omega (arith, length-take-le end s k)) in
    record {
      fits = omega (arith, n, length-append b rest);
      rest = rest ++ drop end s;
      is = ap (λ (l : List ℕ). drop at l) (sym (take-append-drop end s)) ∙ m ∙ ap (λ (l : List ℕ). l ++ drop end s) e ∙ append_assoc b rest (drop end s);
    }

pub lies_to : (s : List ℕ) (at end : ℕ) (b : List ℕ) → at ≤ end → end ≤ length s → Lies s at end b → drop at (take end s) ≡ b ++ drop (at + length b) (take end s)
lies_to s at end b h k l =
    let e : end ≡ at + (end - at) = omega arith in
    let e₂ : end - at ≡ length b + (end - at - length b) = omega (arith, l.fits) in
    let f : drop at (take end s) ≡ b ++ take (end - at - length b) l.rest =
    ap (λ (j : ℕ). drop at (take j s)) e ∙ drop-take s at (end - at) (omega arith) ∙ ap (λ (x : List ℕ). take (end - at) x) l.is
    ∙ ap (λ (j : ℕ). take j (b ++ l.rest)) e₂ ∙ take-append-add b l.rest (end - at - length b) in
    f ∙ ap (λ (x : List ℕ). b ++ x) (sym (sym (drop-drop (length b) at (take end s)) ∙ ap (λ (x : List ℕ). drop (length b) x) f ∙ drop-append_seam b (take (end - at - length b) l.rest)))
