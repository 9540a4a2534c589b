-- The list of a folder's children: strung from the last one backwards, it has them all, by number, and no other parent changes. Assumes nothing.
use Rattle.std.specs.Prelude.{Bool, ◌≡◌, refl, ◌⊎◌, length}
use Rattle.std.proofs.Common.{sym, ◌∙◌, inl, inr, ⊎_elim, arith}
use Rattle.std.proofs.Math.Path.{subst}
use mathlib.Core.List.{List, [], ◌∷◌}
use Prim.Native.Nat.{ℕ, zero, suc, ◌-◌, ◌^◌, ◌≤◌, ◌<◌}
use Rattle.laws.specs.Pick.{pick}
use Rattle.laws.specs.Tests.{Less, less, not_less, less?, lt_or_ge, tri}
use Rattle.node.specs.Store.{parent_at, with_parent}
use Rattle.node.specs.Parents.{parent_other, Alike, alike_refl, alike_on, with_alike}
use Rattle.walk_order.specs.Walk.{kid_above}
use Rattle.walk_order.specs.Below.{all_below}
use Rattle.walk_order.specs.Kid.{kid_none, kid_same, LastKid, kid_last}
use Rattle.link_sort.specs.declared.Strung.{Strung}
use Rattle.link_sort.specs.Runs.{no_kids, strung_from, strung_kids}
use Rattle.link_sort.specs.Enough.{one_more, earlier_low}
use Rattle.link_sort.specs.Linked.{Mem, here, there, Rising, done, more, Chain, end, no_mem, in_front}
use Rattle.link_sort.specs.Folder.{Folder}

-- node i is a child of `me` among the nodes before `used`
pub record Child (ns : List ℕ) (me used i : ℕ) : Type 0 where
  pub behind : me < i
  pub inside : i < used
  pub child : parent_at ns i ≡ me

-- the children behind node `kid` are a list, and the store is ns but for their parents
pub record Lists (ns : List ℕ) (me used kid : ℕ) (o : Strung × List ℕ) : Type 0 where
  pub ids : List ℕ
  pub chain : Chain o.1 o.0.first ids
  pub rises : Rising ◌<◌ ids
  pub many : length ids ≡ o.0.count
  pub later : (i : ℕ) → Mem i ids → kid < i
  pub from : (i : ℕ) → Mem i ids → Child ns me used i
  pub into : (i : ℕ) → kid < i → Child ns me used i → Mem i ids
  pub kept : (i : ℕ) → (Mem i ids → ⊥) → parent_at o.1 i ≡ parent_at ns i
  pub alike : Alike ns o.1

module _ (ns : List ℕ) (me used last : ℕ) (f : Folder ns me used last) (sized : length ns < 256 ^ 8) where
  -- the child before child `kid`: none behind it up to that
  record Earlier (kid y : ℕ) : Type 0 where
    child : me < y → Child ns me used y
    gap : (i : ℕ) → y < i → i < kid → Child ns me used i → ⊥

  earlier_is : (kid : ℕ) → me < kid → kid < used → Earlier kid (kid_above ns me (kid - 1))
  earlier_is kid h l = ⊎_elim found nothing (lt_or_ge me (kid - 1))
    where
      found : me < kid - 1 → Earlier kid (kid_above ns me (kid - 1))
      found m =
          let k : LastKid ns me (kid - 1) (kid_above ns me (kid - 1)) = kid_last ns me used f.below me (omega arith) (kid - 1) m (omega arith) (all_below ns me used f.below (kid - 1) (omega arith) (omega arith)) in
          record {
            child = λ b. record { behind = b; inside = omega (arith, k.within); child = k.child };
            gap = λ i a b c. k.last i a (omega arith) c.child;
          }

      nothing : kid - 1 ≤ me → Earlier kid (kid_above ns me (kid - 1))
      nothing m =
          let z : kid_above ns me (kid - 1) ≡ 0 = kid_none ns me (kid - 1) m in
          record { child = λ b. absurd (omega (arith, z)); gap = λ i a b c. omega (arith, c.behind) }

  -- a child in front
  module _ (kid : ℕ) (r : Strung) (s : List ℕ) (g : Lists ns me used kid (r, s)) (c : Child ns me used kid) where
    not_yet : Mem kid g.ids → ⊥
    not_yet m = let h : kid < kid = g.later kid m in omega arith

    -- the climb sees the parents as they were
    climb_same : kid_above s me (kid - 1) ≡ kid_above ns me (kid - 1)
    climb_same = kid_same ns me s (kid - 1) (λ j h. g.kept j (λ m. omega (arith, g.later j m, c.behind)))

    list_more : (y : ℕ) → y < kid → Earlier kid y → Lists ns me used y (one_more kid r, with_parent s kid r.first)
    list_more y low e = record {
      ids = kid ∷ g.ids;
      chain = in_front kid r.first (let z = g.alike.long in omega arith) (let z = g.alike.long in omega (arith, c.inside, f.room)) not_yet g.chain;
      rises = more (λ i m. g.later i m) g.rises;
      many = let z = g.many in omega arith;
      later = later;
      from = from;
      into = λ i h d. ⊎_elim (λ k. absurd (e.gap i h k d)) (⊎_elim (λ k. subst (λ (z : ℕ). Mem z (kid ∷ g.ids)) (sym k) here) (λ k. there (g.into i k d))) (tri i kid);
      kept = λ i m. parent_other s kid r.first i (λ z. m (subst (λ (j : ℕ). Mem j (kid ∷ g.ids)) (sym z) here)) ∙ g.kept i (λ k. m (there k));
      alike = alike_on g.alike (with_alike s kid r.first);
    }
      where
        later : (i : ℕ) → Mem i (kid ∷ g.ids) → y < i
        later i here = low
        later i (there m) = omega (arith, low, g.later i m)

        from : (i : ℕ) → Mem i (kid ∷ g.ids) → Child ns me used i
        from i here = c
        from i (there m) = g.from i m

  -- no child is left
  ended : (kid : ℕ) (r : Strung) (s : List ℕ) → kid ≤ me → Lists ns me used kid (r, s) → Lists ns me used me (r, s)
  ended kid r s h g = record {
    ids = g.ids;
    chain = g.chain;
    rises = g.rises;
    many = g.many;
    later = λ i m. (g.from i m).behind;
    from = g.from;
    into = λ i l c. g.into i (omega arith) c;
    kept = g.kept;
    alike = g.alike;
  }

  strung_from_lem : (k kid : ℕ) (r : Strung) (s : List ℕ) → kid ≤ k → Lists ns me used kid (r, s) → (me < kid → Child ns me used kid) → Lists ns me used me (strung_from me k kid r s)
  unfolding strung_from
  strung_from_lem zero kid r s h g c = ended kid r s (omega arith) g
  strung_from_lem (suc k) kid r s h g c = by (less? me kid) (λ y r s l g c. strung_from_lem k y r s l g c)
    where
      by : {t : Bool} → Less me kid t → ((y : ℕ) (q : Strung) (u : List ℕ) → y ≤ k → Lists ns me used y (q, u) → (me < y → Child ns me used y) → Lists ns me used me (strung_from me k y q u))
          → Lists ns me used me (pick t (strung_from me k (kid_above s me (kid - 1)) (one_more kid r) (with_parent s kid r.first)) (r, s))
      by (less l) ih =
          let d : Child ns me used kid = c l in
          let y : ℕ = kid_above s me (kid - 1) in
          let low : y < kid = earlier_low me s kid l in
          let e : Earlier kid y = subst (λ (z : ℕ). Earlier kid z) (sym (climb_same kid r s g d)) (earlier_is kid l d.inside) in
          ih y (one_more kid r) (with_parent s kid r.first) (omega arith) (list_more kid r s g d y low e) e.child
      by (not_less l) ih = ended kid r s l g

  -- THE LIST
  pub strung_good : Lists ns me used me (strung_kids me last ns)
  unfolding strung_kids
  strung_good = strung_from_lem last last no_kids ns (omega arith) empty (by f.child)
    where
      empty : Lists ns me used last (no_kids, ns)
      empty = record {
        ids = [];
        chain = end;
        rises = done;
        many = refl;
        later = λ i m. absurd (no_mem m);
        from = λ i m. absurd (no_mem m);
        into = λ i h c. absurd (f.others i h c.inside c.child);
        kept = λ i m. refl;
        alike = alike_refl ns;
      }

      by : (last ≡ me) ⊎ ((me < last) × ((last < used) × (parent_at ns last ≡ me))) → me < last → Child ns me used last
      by (inl e) h = absurd (omega arith)
      by (inr c) h = record { behind = h; inside = c.1.0; child = c.1.1 }
