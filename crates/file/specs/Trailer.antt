-- The trailer's rule as a test (01, refusal 4: "trailer neither zeros nor SHA-1 of the rest"), over the kind. Assumes nothing.
use Rattle.std.specs.Prelude.{ℕ, ◌-◌, ◌≤◌, Bool, List, ◌↔◌, ◌≡◌, drop, replicate}
use Rattle.std.proofs.Math.Bool.{true, false}
use Rattle.std.proofs.Math.Path.{refl, sym, ap}
use Rattle.std.proofs.Common.{◌∙◌, arith, length-drop}
use Rattle.std.proofs.Math.ListN.{length, take}
use Rattle.std.proofs.lemmas.List.{length-replicate}
use Rattle.std.proofs.Math.Seq.{take_all}
use Rattle.laws.specs.Pick.{pick}
use Rattle.slices.specs.Bytes.{same_bytes}
use Rattle.slices.specs.Laws.{same_refl, same_equal}
use Rattle.kind.specs.Kind.{Kind}
use Rattle.kind.specs.Trailer.{content, trailer, GoodTrailer, zeros, hashed}

unfoldable pub good_trailer : Kind → List ℕ → Bool
good_trailer kind s = pick (same_bytes (trailer kind.id s) (replicate kind.id 0)) true (same_bytes (trailer kind.id s) (kind.hash (content kind.id s)))

module _ (kind : Kind) (s : List ℕ) where
  abbrev last : List ℕ
  last = trailer kind.id s

  abbrev none : List ℕ
  none = replicate kind.id 0

  abbrev sum : List ℕ
  sum = kind.hash (content kind.id s)

  -- ---- what good means
  pub good_exactly : (good_trailer kind s ≡ true) ↔ GoodTrailer kind s
  unfolding good_trailer
  good_exactly = (to (same_bytes last none) refl, from)
    where
      to : (t : Bool) → same_bytes last none ≡ t → pick t true (same_bytes last sum) ≡ true → GoodTrailer kind s
      to true e q = zeros (same_equal last none e)
      to false e q = hashed (same_equal last sum q)

      either : (t : Bool) → pick t true true ≡ true
      either true = refl
      either false = refl

      from : GoodTrailer kind s → good_trailer kind s ≡ true
      from (zeros e) = rw (e, same_refl none)
      from (hashed e) =
          let q : same_bytes last sum ≡ true = ap (λ (l : List ℕ). same_bytes l sum) e ∙ same_refl sum in
          rw q (either (same_bytes last none))

  -- ---- what the code's two comparisons come to
  module _ (n : ℕ) (h : kind.id ≤ length s) (e : n ≡ length s - kind.id) (z : List ℕ) (ez : z ≡ replicate kind.id 0) (t : Bool)
      (et : t ≡ same_bytes (take kind.id (drop n s)) (take kind.id (drop 0 z))) where
    behind : take kind.id (drop n s) ≡ last
    behind = take_all kind.id (drop n s) (omega (arith, length-drop n s)) ∙ ap (λ (k : ℕ). drop k s) e

    first_test : t ≡ same_bytes last none
    first_test = et ∙ (λ i. same_bytes (behind i) (take kind.id (drop 0 (ez i)))) ∙ ap (λ (l : List ℕ). same_bytes last l) (take_all kind.id none (omega (arith, length-replicate {A = ℕ} kind.id 0)))

    pub trailer_zeros : t ≡ true → true ≡ good_trailer kind s
    unfolding good_trailer
    trailer_zeros q = sym (rw (← first_test, q))

    pub trailer_hash : t ≡ false → (d : List ℕ) → d ≡ kind.hash (take n s) → (u : Bool) → u ≡ same_bytes (take kind.id (drop n s)) (take kind.id (drop 0 d)) → u ≡ good_trailer kind s
    unfolding good_trailer
    trailer_hash q d ed u eu =
        let g : d ≡ sum = ed ∙ ap (λ (k : ℕ). kind.hash (take k s)) e in
        let l : take kind.id (drop 0 d) ≡ sum = take_all kind.id d (omega (arith, ap length g, kind.answers (content kind.id s))) ∙ g in
        eu ∙ (λ i. same_bytes (behind i) (l i)) ∙ sym (rw (← first_test, q))

pub ruleset laws = (trailer_zeros, trailer_hash)
