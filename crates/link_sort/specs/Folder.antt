-- A folder in a store that the reader fills (01, Extensions: "Nodes go to a lent store in file order"): node `me`, with what is below it up to `used` in walk
-- order, and the last of its children. One subtree more keeps it so. Assumes nothing.
use Rattle.std.specs.Prelude.{◌≡◌, refl, ◌⊎◌, List, ℕ, ◌+◌, ◌-◌, ◌≤◌, ◌<◌}
use Rattle.std.proofs.Common.{sym, subst, inl, inr, ⊎_elim, arith}
use Rattle.laws.specs.Tests.{tri}
use Rattle.node.specs.Store.{nodes_in, parent_at}
use Rattle.walk_order.specs.Below.{Above, above_kept, Below, parent_before, all_below}

-- `last` is the last child, or `me` where there is none
pub record Folder (ns : List ℕ) (me used last : ℕ) : Type 0 where
  pub below : Below ns me used
  pub onward : me < used
  pub room : used ≤ nodes_in ns
  pub child : (last ≡ me) ⊎ ((me < last) × ((last < used) × (parent_at ns last ≡ me)))
  pub others : (j : ℕ) → last < j → j < used → parent_at ns j ≡ me → ⊥

-- no child yet
pub folder_start : (ns : List ℕ) (me : ℕ) → me + 1 ≤ nodes_in ns → Folder ns me (me + 1) me
folder_start ns me h = record {
  below = record { inside = λ j k l. absurd (omega arith); follows = λ j k l. absurd (omega arith) };
  onward = omega arith;
  room = h;
  child = inl refl;
  others = λ j k l e. absurd (omega arith);
}

-- a subtree more, in a store that keeps the nodes before it: its first node is a child, and the others stand below that
module _ (ns ms : List ℕ) (me used u last : ℕ) (f : Folder ns me used last) (kept : (j : ℕ) → j < used → parent_at ms j ≡ parent_at ns j) (more : used < u) (inside : u ≤ nodes_in ms) (first : parent_at ms used ≡ me) (b : Below ms used u) where
  before : Below ms me used
  before = record {
    inside = λ j h l. rw (kept j l) (f.below.inside j h l);
    follows = λ j h l.
        let moved : Above ms (parent_at ns j) (j - 1)
        = above_kept ms (λ i k. kept i (omega arith)) (λ i k m. parent_before ns me used f.below i (omega (arith, f.below.inside j h l)) (omega arith)) (f.below.follows j h l) in
        rw (kept j l) moved;
  }

  pub below_more : Below ms me u
  below_more = record { inside = ins; follows = fol }
    where
      onward : me < used
      onward = f.onward

      ins : (j : ℕ) → me < j → j < u → me ≤ parent_at ms j
      ins j h l = ⊎_elim (λ k. before.inside j h k)
          (⊎_elim (λ k. subst (λ (i : ℕ). me ≤ parent_at ms i) (sym k) (omega (arith, first))) (λ k. omega (arith, onward, b.inside j k l)))
          (tri j used)

      fol : (j : ℕ) → me < j → j < u → Above ms (parent_at ms j) (j - 1)
      fol j h l = ⊎_elim (λ k. before.follows j h k)
          (⊎_elim
          (λ k. subst (λ (i : ℕ). Above ms (parent_at ms i) (i - 1)) (sym k) (subst (λ (p : ℕ). Above ms p (used - 1)) (sym first) (all_below ms me used before (used - 1) (omega (arith, onward)) (omega (arith, onward)))))
          (λ k. b.follows j k l))
          (tri j used)

  pub folder_more : Folder ms me u used
  folder_more = record {
    below = below_more;
    onward = let h = f.onward in omega arith;
    room = inside;
    child = inr (f.onward, (more, first));
    others = λ j h l e. let m = f.onward in omega (arith, b.inside j h l);
  }
