-- Laws of writing backwards: what is kept between two children, from the last to the first, and that each last child is found. Assumes nothing.
use mathlib.Core.Bool.{Bool, true, false}
use mathlib.Core.Path.{◌≡◌, refl, sym, ap, ◌∙◌, subst}
use mathlib.Core.Logic.{◌⊎◌, inl, inr, ⊎_elim}
use mathlib.Core.List.{List, [], ◌∷◌, ◌++◌, append_assoc, append-nil}
use Prim.Native.Nat.{ℕ, ◌+◌, ◌-◌, ◌≤◌, ◌<◌}
use native.Mathlib.Omega.{arith}
use lib.Dec.{eqb}
use lib.ListN.{length, get_or, set, replicate, length-append, length-replicate, get_or-replicate, get_or-eq_default}
use lib.Seq.{get_or-set_same, get_or-set_other}
use borrow.Author.Tests.{eq-eqb, ne_eqb}
use Rattle.laws.specs.Pick.{pick}
use Rattle.laws.specs.Put.{put, put_none, put_before}
use Rattle.laws.specs.Tests.{lt_or_ge, tri}
use Rattle.sums.specs.Cap.{largest, cap, cap_fits}
use Rattle.format.specs.Format.{depth_limit, id_size}
use Rattle.node.specs.Store.{nodes_in, parent_at}
use Rattle.walk_order.specs.Walk.{walks}
use Rattle.walk_order.specs.Below.{Above, itself, higher, above_low, above_on}
use Rattle.walk_order.specs.Child.{child_behind}
use Rattle.walk_order.specs.Depth.{within_walks}
use Rattle.walk_order.specs.Kid.{kid_none}
use Rattle.std.specs.Prelude.{Option}
use Rattle.tree_write.specs.declared.runs.Kid.{Kid}
use Rattle.tree_write.specs.declared.spine.Rung.{Rung}
use Rattle.tree_write.specs.Order.{before, false_true, before_not, before_trans}
use Rattle.tree_write.specs.Tree.{ahead, head_bytes, kids, each, node_bytes, tree_bytes}
use Rattle.tree_write.specs.Kids.{Mem, here, there, Rising, done, more, not_mem, tally, tally_less, children, children_are, children_rise}
use Rattle.tree_write.specs.Children.{mem_cases}
use Rattle.tree_write.specs.Span.{Span, span_root, kid_is}
use Rattle.tree_write.specs.Flat.{is_shallow, shallow_says}
use Rattle.tree_write.specs.Runs.{Early, NoneLeft, Last, Ready}
use Rattle.tree_write.specs.Spine.{root, Spine}
use Rattle.tree_write.specs.Back.{Asked, Filed}
use Rattle.tree_write.proofs.Laws.{node_cut, node_long}
use Rattle.tree_write.proofs.Merge.{ahead_any, ahead_before, ahead_says, ahead_on}

-- ---- lists in two parts

mem_left : {j : ℕ} {a : List ℕ} (b : List ℕ) → Mem j a → Mem j (a ++ b)
mem_left b here = here
mem_left b (there m) = there (mem_left b m)

mem_right : {j : ℕ} (a : List ℕ) {b : List ℕ} → Mem j b → Mem j (a ++ b)
mem_right [] m = m
mem_right (x ∷ a) m = there (mem_right a m)

mem_part : {j : ℕ} (a b : List ℕ) → Mem j (a ++ b) → Mem j a ⊎ Mem j b
mem_part [] b m = inr m
mem_part (x ∷ a) b here = inl here
mem_part (x ∷ a) b (there m) = ⊎_elim (λ q. inl (there q)) (λ q. inr q) (mem_part a b m)

module _ {R : ℕ → ℕ → Type 0} where
  rising_left : (a b : List ℕ) → Rising R (a ++ b) → Rising R a
  rising_left [] b r = done
  rising_left (x ∷ a) b (more h r) = more (λ y m. h y (mem_left b m)) (rising_left a b r)

  rising_right : (a b : List ℕ) → Rising R (a ++ b) → Rising R b
  rising_right [] b r = r
  rising_right (x ∷ a) b (more h r) = rising_right a b r

  rising_across : {x y : ℕ} (a b : List ℕ) → Rising R (a ++ b) → Mem x a → Mem y b → R x y
  rising_across [] b r m n = absurd (not_mem m refl)
  rising_across {x} {y} (z ∷ a) b (more h r) here n = h y (mem_right a n)
  rising_across (z ∷ a) b (more h r) (there m) n = rising_across a b r m n

-- nothing, or a last one
last_of : (l : List ℕ) → (l ≡ []) ⊎ ((a : List ℕ) × (z : ℕ) × (l ≡ a ++ (z ∷ [])))
last_of [] = inl refl
last_of (x ∷ l) = by (last_of l)
  where
    by : (l ≡ []) ⊎ ((a : List ℕ) × (z : ℕ) × (l ≡ a ++ (z ∷ []))) → (x ∷ l ≡ []) ⊎ ((a : List ℕ) × (z : ℕ) × (x ∷ l ≡ a ++ (z ∷ [])))
    by (inl e) = inr ([], x, ap (λ (t : List ℕ). x ∷ t) e)
    by (inr (a, z, e)) = inr (x ∷ a, z, ap (λ (t : List ℕ). x ∷ t) e)

each_append : (f : ℕ → List ℕ) (a b : List ℕ) → each f (a ++ b) ≡ each f a ++ each f b
unfolding each
each_append f [] b = refl
each_append f (x ∷ a) b = ap (λ (l : List ℕ). f x ++ l) (each_append f a b) ∙ sym (append_assoc (f x) (each f a) (each f b))

each_one : (f : ℕ → List ℕ) (x : ℕ) (l : List ℕ) → each f (x ∷ l) ≡ f x ++ each f l
unfolding each
each_one f x l = refl

-- ---- the children that are written, and those that are left

-- the bound is the first of the list, or 0 where it is empty
pub data Starts : ℕ → List ℕ → Type 0 where
  none : Starts 0 []
  some : {x : ℕ} {xs : List ℕ} → 0 < x → Starts x (x ∷ xs)

module _ (ns nm : List ℕ) (p bound : ℕ) (front rest : List ℕ) (whole : kids ns nm p (nodes_in ns) 0 ≡ front ++ rest) (starts : Starts bound rest) where
  abbrev R : ℕ → ℕ → Type 0
  R x y = before ns nm x y ≡ true

  rise : Rising R (front ++ rest)
  unfolding children
  rise = subst (λ (l : List ℕ). Rising R l) whole (children_rise ns nm p)

  child : (j : ℕ) → Mem j front → (0 < j) × (j < nodes_in ns) × (parent_at ns j ≡ p)
  unfolding children
  child j m = (children_are ns nm p j).0 (subst (λ (l : List ℕ). Mem j l) (sym whole) (mem_left rest m))

  ahead_of : (j : ℕ) {x : ℕ} {l : List ℕ} → Starts x l → ((y : ℕ) → Mem y l → R j y) → ahead ns nm j x ≡ true
  ahead_of j none h = ahead_any ns nm j
  ahead_of j (some {x = x} r) h = ahead_before ns nm j x (h x here)

  -- a child that is left comes before the bound
  left_early : (j : ℕ) → Mem j front → Early ns nm p bound j
  left_early j m = let (a, b, e) = child j m in record { real = a; inside = b; child = e; early = ahead_of j starts (λ y n. rising_across front rest rise m n) }

  -- and the other way round
  early_left : (j : ℕ) → Early ns nm p bound j → Mem j front
  unfolding children
  early_left j e = ⊎_elim (λ m. m) (λ m. absurd (not_rest starts (rising_right front rest rise) m e.early)) (mem_part front rest (subst (λ (l : List ℕ). Mem j l) whole ((children_are ns nm p j).1 (e.real, e.inside, e.child))))
    where
      not_rest : {x : ℕ} {l : List ℕ} → Starts x l → Rising R l → Mem j l → ahead ns nm j x ≡ true → ⊥
      not_rest none r m a = not_mem m refl
      not_rest (some {x = x} pos) (more h r) m a =
          let b : before ns nm j x ≡ true = ahead_says ns nm j x (λ z. omega arith) a in
          ⊎_elim (λ z. before_not ns nm x (subst (λ (y : ℕ). before ns nm y x ≡ true) z b)) (λ n. before_not ns nm x (before_trans ns nm x j x (h j n) b)) (mem_cases m)

  pub split_end : NoneLeft ns nm p bound → front ≡ []
  split_end over = by (last_of front)
    where
      by : (front ≡ []) ⊎ ((a : List ℕ) × (y : ℕ) × (front ≡ a ++ (y ∷ []))) → front ≡ []
      by (inl e) = e
      by (inr (a, y, e)) = absurd (over y (left_early y (subst (λ (l : List ℕ). Mem y l) (sym e) (mem_right a here))))

  pub split_last : (k : ℕ) → Last ns nm p bound k → (a : List ℕ) × (front ≡ a ++ (k ∷ []))
  split_last k last = by (last_of front) (early_left k last.early)
    where
      by : (front ≡ []) ⊎ ((a : List ℕ) × (y : ℕ) × (front ≡ a ++ (y ∷ []))) → Mem k front → (a : List ℕ) × (front ≡ a ++ (k ∷ []))
      by (inl e) m = absurd (not_mem m e)
      by (inr (a, y, e)) m =
          let r : Rising R (a ++ (y ∷ [])) = subst (λ (l : List ℕ). Rising R l) e (rising_left front rest rise) in
          let up : Early ns nm p bound y = left_early y (subst (λ (l : List ℕ). Mem y l) (sym e) (mem_right a here)) in
          let same : k ≡ y =
          ⊎_elim (λ n. absurd (last.last y up (rising_across a (y ∷ []) r n here))) (λ n. ⊎_elim (λ z. z) (λ z. absurd (not_mem z refl)) (mem_cases n)) (mem_part a (y ∷ []) (subst (λ (l : List ℕ). Mem k l) e m)) in
          (a, e ∙ ap (λ (x : ℕ). a ++ (x ∷ [])) (sym same))

-- ---- the loop

-- the children that were taken are written, up to the place; the bound is the last that was taken
pub record Backing (ns nm : List ℕ) (p b : ℕ) (out₀ : List ℕ) (to : ℕ) (runs : Option ℕ) (out : List ℕ) (pos bound : ℕ) (tails : List Kid) : Type 0 where
  pub front : List ℕ
  pub rest : List ℕ
  pub whole : kids ns nm p (nodes_in ns) 0 ≡ front ++ rest
  pub starts : Starts bound rest
  pub ready : Ready ns nm p bound runs tails
  pub begins : pos + length (each (node_bytes id_size ns nm b) rest) ≡ to
  pub long : length out ≡ length out₀
  pub run : out ≡ put out₀ pos (each (node_bytes id_size ns nm b) rest)

pub backing_start : (ns nm : List ℕ) (p b : ℕ) (out : List ℕ) (to : ℕ) (runs : Option ℕ) (tails : List Kid) → Ready ns nm p 0 runs tails → Backing ns nm p b out to runs out to 0 tails
unfolding each
backing_start ns nm p b out to runs tails h = record {
  front = kids ns nm p (nodes_in ns) 0;
  rest = [];
  whole = sym (append-nil (kids ns nm p (nodes_in ns) 0));
  starts = none;
  ready = h;
  begins = omega arith;
  long = refl;
  run = sym (put_none out to);
}

module _ (ns nm : List ℕ) (p depth : ℕ) (out₀ : List ℕ) (to : ℕ) (deep : depth ≡ 0 → ⊥) (room : length (node_bytes id_size ns nm depth p) ≤ to) (inside : to ≤ length out₀) (runs : Option ℕ) (out : List ℕ) (pos bound : ℕ) (tails : List Kid)
    (inv : Backing ns nm p (depth - 1) out₀ to runs out pos bound tails) where
  abbrev f : ℕ → List ℕ
  f = node_bytes id_size ns nm (depth - 1)

  parts : length (node_bytes id_size ns nm depth p) ≡ length (head_bytes id_size ns nm p) + (length (each f inv.front) + length (each f inv.rest))
  parts =
      omega (
        arith,
        node_long ns nm depth p deep,
        ap (λ (l : List ℕ). length (each f l)) inv.whole,
        ap length (each_append f inv.front inv.rest),
        length-append (each f inv.front) (each f inv.rest),
      )

  pub backing_head : length (head_bytes id_size ns nm p) ≤ pos
  backing_head = omega (arith, parts, inv.begins)

  pub backing_inside : pos ≤ length out
  backing_inside = omega (arith, inv.begins, inv.long)

  pub backing_end : NoneLeft ns nm p bound → (new : List ℕ) (at : ℕ) → Filed (head_bytes id_size ns nm p) out pos new at → Filed (node_bytes id_size ns nm depth p) out₀ to new at
  backing_end over new at h =
      let none : inv.front ≡ [] = split_end ns nm p bound inv.front inv.rest inv.whole inv.starts over in
      let all : node_bytes id_size ns nm depth p ≡ head_bytes id_size ns nm p ++ each f inv.rest = node_cut ns nm depth p deep ∙ ap (λ (l : List ℕ). head_bytes id_size ns nm p ++ each f l) (inv.whole ∙ ap (λ (l : List ℕ). l ++ inv.rest) none) in
      record {
        start = omega (arith, ap length all, length-append (head_bytes id_size ns nm p) (each f inv.rest), h.start, inv.begins);
        run =
            h.run
            ∙ ap (λ (l : List ℕ). put l at (head_bytes id_size ns nm p)) (inv.run ∙ ap (λ (k : ℕ). put out₀ k (each f inv.rest)) (sym h.start))
            ∙ put_before out₀ (head_bytes id_size ns nm p) (each f inv.rest) at (omega (arith, h.start, inv.begins))
            ∙ ap (λ (l : List ℕ). put out₀ at l) (sym all);
      }

  module _ (kid : ℕ) (last : Last ns nm p bound kid) where
    split : (a : List ℕ) × (inv.front ≡ a ++ (kid ∷ []))
    split = split_last ns nm p bound inv.front inv.rest inv.whole inv.starts kid last

    pub backing_room : length (node_bytes id_size ns nm (depth - 1) kid) ≤ pos
    backing_room =
        let (a, e) = split in
        omega (
          arith,
          parts,
          inv.begins,
          ap (λ (l : List ℕ). length (each f l)) e,
          ap length (each_append f a (kid ∷ [])),
          length-append (each f a) (each f (kid ∷ [])),
          ap length (each_one f kid []),
          length-append (f kid) (each f []),
        )

    pub backing_more : (out₁ : List ℕ) (pos₁ : ℕ) (tails₁ : List Kid) → length out₁ ≡ length out → Filed (node_bytes id_size ns nm (depth - 1) kid) out pos out₁ pos₁ → Ready ns nm p kid runs tails₁
        → Backing ns nm p (depth - 1) out₀ to runs out₁ pos₁ kid tails₁
    backing_more out₁ pos₁ tails₁ long h t =
        let (a, e) = split in
        record {
          front = a;
          rest = kid ∷ inv.rest;
          whole = inv.whole ∙ ap (λ (l : List ℕ). l ++ inv.rest) e ∙ append_assoc a (kid ∷ []) inv.rest;
          starts = some last.early.real;
          ready = t;
          begins = omega (arith, ap length (each_one f kid inv.rest), length-append (f kid) (each f inv.rest), h.start, inv.begins);
          long = long ∙ inv.long;
          run =
              h.run
              ∙ ap (λ (l : List ℕ). put l pos₁ (f kid)) (inv.run ∙ ap (λ (k : ℕ). put out₀ k (each f inv.rest)) (sym h.start))
              ∙ put_before out₀ (f kid) (each f inv.rest) pos₁ (omega (arith, h.start, inv.begins))
              ∙ ap (λ (l : List ℕ). put out₀ pos₁ l) (sym (each_one f kid inv.rest));
        }

-- ---- how many children are left

module _ (ns nm : List ℕ) (p : ℕ) where
  unfoldable pub early : ℕ → ℕ → Bool
  early bound i = pick (eqb i 0) false (pick (eqb (parent_at ns i) p) (ahead ns nm i bound) false)

  -- those before the bound
  unfoldable pub left_at : ℕ → ℕ
  left_at bound = tally (early bound) (nodes_in ns)

  early_on : (k b i : ℕ) → (k ≡ 0 → ⊥) → ahead ns nm k b ≡ true → early k i ≡ true → early b i ≡ true
  unfolding early
  early_on k b i d a h = by (eqb i 0) (eqb (parent_at ns i) p) h
    where
      by : (x y : Bool) → pick x false (pick y (ahead ns nm i k) false) ≡ true → pick x false (pick y (ahead ns nm i b) false) ≡ true
      by true y e = absurd (false_true e)
      by false false e = absurd (false_true e)
      by false true e = ahead_on ns nm i k b (ahead_says ns nm i k d e) a

  early_not : (k : ℕ) → (k ≡ 0 → ⊥) → (t : Bool) → early k k ≡ t → t ≡ false
  unfolding early
  early_not k d false e = refl
  early_not k d true e = absurd (by (eqb k 0) (eqb (parent_at ns k) p) e)
    where
      by : (x y : Bool) → pick x false (pick y (ahead ns nm k k) false) ≡ true → ⊥
      by true y q = false_true q
      by false false q = false_true q
      by false true q = before_not ns nm k (ahead_says ns nm k k d q)

  early_yes : (b k : ℕ) → Early ns nm p b k → early b k ≡ true
  unfolding early
  early_yes b k e = let d : k ≡ 0 → ⊥ = λ z. omega (arith, e.real) in rw (ne_eqb k 0 d, eq-eqb (parent_at ns k) p e.child) e.early

  pub left_less : (b k : ℕ) → Last ns nm p b k → left_at k < left_at b
  unfolding left_at
  left_less b k l =
      let e : Early ns nm p b k = l.early in
      let r : k ≡ 0 → ⊥ = λ z. omega (arith, e.real) in
      tally_less (early k) (early b) (λ i h. early_on k b i r e.early h) (nodes_in ns) k e.inside (early_yes b k e) (early_not k r (early k k) refl)

-- ---- the head

pub head_fits : (n m to size : ℕ) → n ≤ to → to ≤ m → m < largest → size ≡ cap n → size ≡ n
head_fits n m to size a b c e = e ∙ cap_fits n (omega arith)

pub head_filed : (bytes out new : List ℕ) (to size at : ℕ) → size ≡ length bytes → length bytes ≤ to → at ≡ to - size → new ≡ put out at bytes → Filed bytes out to new at
head_filed bytes out new to size at e a h q = record { start = omega arith; run = q }

pub node_none : (ns nm : List ℕ) (depth me : ℕ) (out : List ℕ) (to : ℕ) → depth ≡ 0 → Filed (node_bytes id_size ns nm depth me) out to out to
unfolding node_bytes
node_none ns nm depth me out to z = rw z (record { start = omega arith; run = sym (put_none out to) })

-- ---- the spine

abbrev Kept : List ℕ → Rung → Type 0
Kept ns r = Above ns r.node r.leaf

module _ (ns : List ℕ) (spine : List Rung) (k node leaf : ℕ) (s : Spine ns spine) (l : k < length spine) (a : Above ns node leaf) where
  abbrev new : Rung
  new = record { node = node; leaf = leaf }

  other : (i : ℕ) → (i ≡ k → ⊥) → Kept ns (get_or (set spine k new) i root)
  other i d = subst (Kept ns) (sym (get_or-set_other spine k i new root d)) (s.up i)

  pub spine_set : Spine ns (set spine k (record { node = node; leaf = leaf }))
  spine_set = record { up = λ i. by (tri i k) }
    where
      by : {i : ℕ} → (i < k) ⊎ ((i ≡ k) ⊎ (k < i)) → Kept ns (get_or (set spine k new) i root)
      by {i} (inl m) = other i (λ z. omega arith)
      by {i} (inr (inl m)) = subst (λ (x : ℕ). Kept ns (get_or (set spine k new) x root)) (sym m) (subst (Kept ns) (sym (get_or-set_same spine k new root l)) a)
      by {i} (inr (inr m)) = other i (λ z. omega arith)

-- the parent of a node above the leaf stands above it too
pub climb_up : (ns : List ℕ) (leaf node up p : ℕ) → walks depth_limit ns ≡ true → leaf < nodes_in ns → Above ns node leaf → up ≡ parent_at ns node → p < node → Above ns up leaf
climb_up ns leaf node up p w l a e h =
    let low : node ≤ leaf = above_low a in
    let less : parent_at ns node < node = child_behind depth_limit ns w node (omega arith) (omega arith) in
    subst (λ (x : ℕ). Above ns x leaf) (sym e) (above_on (higher less itself) a)

pub kept_above : (ns : List ℕ) (spine : List Rung) (i leaf : ℕ) → Spine ns spine → (get_or spine i root).leaf ≡ leaf → Above ns (get_or spine i root).node leaf
kept_above ns spine i leaf s e = subst (λ (x : ℕ). Above ns (get_or spine i root).node x) e (s.up i)

abbrev pub roots : ℕ → List Rung
roots n = replicate n root

roots_at : (n i : ℕ) → get_or (roots n) i root ≡ root
roots_at n i = ⊎_elim (λ l. get_or-replicate n i root root l) (λ l. get_or-eq_default (roots n) root (omega (arith, length-replicate {A = Rung} n root))) (lt_or_ge i n)

pub spine_roots : (ns : List ℕ) (n : ℕ) → Spine ns (roots n)
spine_roots ns n = record { up = λ i. subst (Kept ns) (sym (roots_at n i)) itself }

-- ---- the whole tree

module _ (ns : List ℕ) (h : is_shallow depth_limit ns ≡ true) where
  pub root_walk : walks depth_limit ns ≡ true
  root_walk = within_walks depth_limit ns (shallow_says depth_limit ns h).1

  pub root_span : (n : ℕ) → n ≡ nodes_in ns → Span ns 0 n
  root_span n e = subst (λ (x : ℕ). Span ns 0 x) (sym e) (span_root ns (shallow_says depth_limit ns h).0)

pub asked_root : (ns nm out : List ℕ) (to : ℕ) → length (tree_bytes id_size depth_limit ns nm) ≤ to → to ≤ length out → Asked ns nm 0 depth_limit out to (roots depth_limit)
asked_root ns nm out to room inside = record {
  room = room;
  inside = inside;
  levels = omega (arith, length-replicate {A = Rung} depth_limit root);
  kept = spine_roots ns depth_limit;
}

pub filed_at : (bytes out : List ℕ) (to at : ℕ) (new : List ℕ) (r : ℕ) → Filed bytes out to new r → to ≡ at + length bytes → new ≡ put out at bytes
filed_at bytes out to at new r h e = let z : r ≡ at = omega (arith, h.start) in h.run ∙ ap (λ (k : ℕ). put out k bytes) z

pub ruleset back-laws = (head_fits, head_filed, node_none, spine_set, climb_up, kept_above, kid_is, kid_none)
