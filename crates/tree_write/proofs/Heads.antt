-- Laws of the flat way, turned the way that the needs ask. Assumes nothing.
use mathlib.Core.Bool.{Bool, true}
use mathlib.Core.Path.{◌≡◌, refl, sym, ap, ◌∙◌}
use mathlib.Core.List.{List, [], ◌++◌}
use Prim.Native.Nat.{ℕ, suc, ◌+◌, ◌-◌, ◌≤◌, ◌<◌}
use native.Mathlib.Nat.{sub-zero}
use native.Mathlib.Omega.{arith}
use lib.ListN.{length, length-append}
use Rattle.laws.specs.Put.{put, put_none, put_put, length-put}
use Rattle.sums.specs.Cap.{largest, cap, cap_fits, cap_small, cap_cap}
use Rattle.format.specs.Format.{depth_limit, id_size}
use Rattle.node.specs.Store.{nodes_in}
use Rattle.walk_order.specs.Depth.{all_in, all_end, all_more, all_not, walks_within}
use Rattle.tree_write.specs.Tree.{head_bytes, node_bytes, tree_bytes}
use Rattle.tree_write.specs.Flat.{heads_from, rises_at, siblings_rise, is_shallow, is_flat, shallow_length, flat_is}

-- ---- the test

pub rise_start : (ns nm : List ℕ) (n : ℕ) → n ≡ nodes_in ns → all_in (rises_at ns nm) (n - 1) 1 ≡ siblings_rise ns nm
unfolding siblings_rise
rise_start ns nm n e = rw e

-- ---- what the tests settle

pub shallow_size : (ns nm : List ℕ) (w : Bool) → w ≡ is_shallow depth_limit ns → w ≡ true → (r : ℕ) → r ≡ cap (length (heads_from id_size ns nm (nodes_in ns) 0)) → r ≡ cap (length (node_bytes id_size ns nm depth_limit 0))
shallow_size ns nm w ew h r e = e ∙ ap cap (sym (shallow_length id_size depth_limit ns nm (sym ew ∙ h)))

module _ (ns nm : List ℕ) (w : Bool) (ew : w ≡ is_flat depth_limit ns nm) (h : w ≡ true) where
  tree_is : tree_bytes id_size depth_limit ns nm ≡ heads_from id_size ns nm (nodes_in ns) 0
  tree_is = flat_is id_size depth_limit ns nm (sym ew ∙ h)

  pub flat_room : (at m : ℕ) → at + length (tree_bytes id_size depth_limit ns nm) ≤ m → at + length (heads_from id_size ns nm (nodes_in ns) 0) ≤ m
  flat_room at m l = omega (arith, ap length tree_is)

  pub flat_put : (out out₁ : List ℕ) (at : ℕ) → out₁ ≡ put out at (heads_from id_size ns nm (nodes_in ns) 0) → out₁ ≡ put out at (tree_bytes id_size depth_limit ns nm)
  flat_put out out₁ at e = e ∙ ap (λ (l : List ℕ). put out at l) (sym tree_is)

-- ---- the heads that are left

module _ (ns nm : List ℕ) (n i : ℕ) where
  abbrev left : List ℕ
  left = heads_from id_size ns nm (n - i) i

  heads_none : n ≤ i → left ≡ []
  unfolding heads_from
  heads_none h = let z : n - i ≡ 0 = omega arith in rw z

  heads_cut : i < n → left ≡ head_bytes id_size ns nm i ++ heads_from id_size ns nm (n - (i + 1)) (i + 1)
  unfolding heads_from
  heads_cut h = let z : n - i ≡ suc (n - (i + 1)) = omega arith in rw z

  heads_long : i < n → length left ≡ length (head_bytes id_size ns nm i) + length (heads_from id_size ns nm (n - (i + 1)) (i + 1))
  heads_long h = ap length (heads_cut h) ∙ length-append (head_bytes id_size ns nm i) (heads_from id_size ns nm (n - (i + 1)) (i + 1))

-- ---- their size

-- the size so far and that of the heads that are left make up the whole
pub record Sizing (ns nm : List ℕ) (n i size : ℕ) : Type 0 where
  pub small : size ≤ largest
  pub run : cap (size + length (heads_from id_size ns nm (n - i) i)) ≡ cap (length (heads_from id_size ns nm (nodes_in ns) 0))

pub sizing_start : (ns nm : List ℕ) (n : ℕ) → n ≡ nodes_in ns → Sizing ns nm n 0 0
sizing_start ns nm n e = let z : 0 + length (heads_from id_size ns nm n 0) ≡ length (heads_from id_size ns nm n 0) = omega arith in record {
  small = omega arith;
  run = rw (sub-zero n, z, e);
}

module _ (ns nm : List ℕ) (n i size : ℕ) (inv : Sizing ns nm n i size) where
  pub sizing_end : n ≤ i → size ≡ cap (length (heads_from id_size ns nm (nodes_in ns) 0))
  sizing_end h = let z : cap (size + 0) ≡ cap (length (heads_from id_size ns nm (nodes_in ns) 0)) = rw (heads_none ns nm n i h) at inv.run in omega (arith, z, cap_fits (size + 0) (omega (arith, inv.small)))

  pub sizing_more : i < n → (one next : ℕ) → one ≡ cap (length (head_bytes id_size ns nm i)) → next ≡ cap (size + one) → Sizing ns nm n (i + 1) next
  sizing_more h one next eo en =
      let rest : ℕ = length (heads_from id_size ns nm (n - (i + 1)) (i + 1)) in
      let x : size + one + rest ≡ one + (size + rest) = omega arith in
      let y : length (head_bytes id_size ns nm i) + (size + rest) ≡ size + length (heads_from id_size ns nm (n - i) i) = omega (arith, heads_long ns nm n i h) in
      record {
        small = omega (arith, cap_small (size + one));
        run = ap (λ (k : ℕ). cap (k + rest)) en ∙ cap_cap (size + one) rest ∙ ap cap x ∙ ap (λ (k : ℕ). cap (k + (size + rest))) eo ∙ cap_cap (length (head_bytes id_size ns nm i)) (size + rest) ∙ ap cap y ∙ inv.run;
      }

-- ---- their bytes

-- putting the heads that are left at the present place gives the whole output, and they fit
pub record Filling (ns nm out₀ : List ℕ) (at n i pos : ℕ) (out : List ℕ) : Type 0 where
  pub long : length out ≡ length out₀
  pub room : pos + length (heads_from id_size ns nm (n - i) i) ≤ length out
  pub run : put out pos (heads_from id_size ns nm (n - i) i) ≡ put out₀ at (heads_from id_size ns nm (nodes_in ns) 0)

pub filling_start : (ns nm out : List ℕ) (at n : ℕ) → n ≡ nodes_in ns → at + length (heads_from id_size ns nm (nodes_in ns) 0) ≤ length out → Filling ns nm out at n 0 at out
filling_start ns nm out at n e h = record { long = refl; room = rw (sub-zero n, e) h; run = rw (sub-zero n, e) }

module _ (ns nm out₀ : List ℕ) (at n i pos : ℕ) (out : List ℕ) (inv : Filling ns nm out₀ at n i pos out) where
  pub filling_end : n ≤ i → out ≡ put out₀ at (heads_from id_size ns nm (nodes_in ns) 0)
  filling_end h = sym (put_none out pos) ∙ (rw (heads_none ns nm n i h) at inv.run)

  module _ (h : i < n) where
    pub filling_room : pos + length (head_bytes id_size ns nm i) ≤ length out
    filling_room = omega (arith, heads_long ns nm n i h, inv.room)

    pub filling_more : (pos₁ : ℕ) (out₁ : List ℕ) → pos₁ ≡ pos + length (head_bytes id_size ns nm i) → out₁ ≡ put out pos (head_bytes id_size ns nm i) → Filling ns nm out₀ at n (i + 1) pos₁ out₁
    filling_more pos₁ out₁ ep eo = record {
      long = ap length eo ∙ length-put out (head_bytes id_size ns nm i) pos filling_room ∙ inv.long;
      room = omega (arith, heads_long ns nm n i h, inv.room, ap length eo, length-put out (head_bytes id_size ns nm i) pos filling_room);
      run = rw (eo, ep) (put_put out (head_bytes id_size ns nm i) (heads_from id_size ns nm (n - (i + 1)) (i + 1)) pos (omega (arith, filling_room)) ∙ (rw (heads_cut ns nm n i h) at inv.run));
    }

pub ruleset flat-laws = (rise_start, all_end, all_more, all_not, shallow_size, sizing_start, sizing_end, sizing_more, filling_start, filling_end, filling_room, filling_more)
