-- Laws of the pass over a table in walk order: the children of a node listed from the last to the first, and the nodes that each climb leaves. Assumes nothing.
use mathlib.Core.Bool.{Bool, true, false, ◌||◌}
use mathlib.Core.Path.{◌≡◌, refl, sym, ap, ◌∙◌, subst}
use mathlib.Core.Logic.{◌⊎◌, inl, inr, ⊎_elim}
use mathlib.Core.List.{List}
use Prim.Native.Nat.{ℕ, zero, suc, ◌+◌, ◌-◌, ◌≤◌, ◌<◌}
use native.Mathlib.Omega.{arith}
use lib.Dec.{eqb}
use borrow.Author.Tests.{eq-eqb, ne_eqb}
use Rattle.laws.specs.Pick.{pick}
use Rattle.laws.specs.Tests.{lt_or_ge, tri, Same, same, differs, same?}
use Rattle.laws.specs.Order.{Before, irreflexive, transitive}
use Rattle.slices.specs.Bytes.{same_bytes}
use Rattle.format.specs.Format.{depth_limit}
use Rattle.node.specs.Store.{nodes_in, subtrees_at, parent_at, name_at}
use Rattle.walk_order.specs.Walk.{walks, kid_above}
use Rattle.walk_order.specs.Below.{Above, itself, higher, above_same, above_low, above_cases, above_on, Below, all_below, left_behind, nested}
use Rattle.walk_order.specs.Child.{false_true, child_behind, whole_below}
use Rattle.walk_order.specs.Kid.{LastKid, kid_last, kid_none}
use Rattle.walk_order.specs.Depth.{all_each, each_all, walks_within, within_walks}
use Rattle.siblings.specs.declared.Rising.{Rising}
use Rattle.siblings.specs.Siblings.{is_child, some, twin, repeats, siblings_differ}
use Rattle.siblings.specs.Rising.{risen}
use Rattle.siblings.specs.InOrder.{any_false, any_true, repeats_is, distinct_differ, GitBefore, git_irreflexive, git_transitive, risen_bytes, risen_git}
use Rattle.proper.specs.declared.WalkedKids.{WalkedKids}
use Rattle.proper.specs.Proper.{child_count, kids_fit, all_kids_fit}
use Rattle.proper.specs.Walked.{Child, Complete, Seen, Left, Closed}

-- ---- counting

count_add : (ns : List ℕ) (p k m j : ℕ) → child_count ns p (k + m) j ≡ child_count ns p k j + child_count ns p m (j + k)
unfolding child_count
count_add ns p zero m j = let a : 0 + m ≡ m = omega arith in let b : j + 0 ≡ j = omega arith in rw (a, b) (omega arith)
count_add ns p (suc k) m j =
    let a : suc k + m ≡ suc (k + m) = omega arith in
    let b : j + 1 + k ≡ j + suc k = omega arith in
    let c : child_count ns p m (j + 1 + k) ≡ child_count ns p m (j + suc k) = ap (λ (x : ℕ). child_count ns p m x) b in
    rw a (omega (arith, count_add ns p k m (j + 1)))

count_none : (ns : List ℕ) (p k j : ℕ) → ((i : ℕ) → j ≤ i → i < j + k → parent_at ns i ≡ p → ⊥) → child_count ns p k j ≡ 0
unfolding child_count
count_none ns p zero j h = refl
count_none ns p (suc k) j h = rw (ne_eqb (parent_at ns j) p (h j (omega arith) (omega arith))) (omega (arith, count_none ns p k (j + 1) (λ i a b. h i (omega arith) (omega arith))))

-- no child of p behind b and before the end
count_to : (ns : List ℕ) (p b e : ℕ) → b ≤ e → ((i : ℕ) → b < i → i ≤ e → parent_at ns i ≡ p → ⊥) → child_count ns p e 1 ≡ child_count ns p b 1
count_to ns p b e h none =
    let z : b + (e - b) ≡ e = omega arith in
    let a : child_count ns p (b + (e - b)) 1 ≡ child_count ns p e 1 = ap (λ (k : ℕ). child_count ns p k 1) z in
    omega (arith, count_add ns p b (e - b) 1, count_none ns p (e - b) (1 + b) (λ i x y. none i (omega arith) (omega arith)))

count_one : (ns : List ℕ) (p c : ℕ) → 0 < c → parent_at ns c ≡ p → child_count ns p c 1 ≡ child_count ns p (c - 1) 1 + 1
unfolding child_count
count_one ns p c h e =
    let z : c - 1 + 1 ≡ c = omega arith in
    let y : 1 + (c - 1) ≡ c = omega arith in
    let a : child_count ns p (c - 1 + 1) 1 ≡ child_count ns p c 1 = ap (λ (k : ℕ). child_count ns p k 1) z in
    let b : child_count ns p 1 (1 + (c - 1)) ≡ child_count ns p 1 c = ap (λ (k : ℕ). child_count ns p 1 k) y in
    let one : child_count ns p 1 c ≡ 1 = rw (eq-eqb (parent_at ns c) p e) in
    omega (arith, count_add ns p (c - 1) 1 1)

-- ---- the child before

-- y is the last child of p at x or before, or 0 and there is none
record Prev (ns : List ℕ) (p x y : ℕ) : Type 0 where
  child : (y ≡ 0 → ⊥) → Child ns p y
  low : y ≤ x
  none : (j : ℕ) → 0 < j → y < j → j ≤ x → parent_at ns j ≡ p → ⊥

module _ (ns : List ℕ) (w : walks depth_limit ns ≡ true) (p : ℕ) where
  abbrev whole : Below ns 0 (nodes_in ns)
  whole = whole_below depth_limit ns w

  prev_kid : (x : ℕ) → x < nodes_in ns → Above ns p x → Prev ns p x (kid_above ns p x)
  prev_kid x h a = ⊎_elim (λ l. found (kid_last ns 0 (nodes_in ns) whole p (omega arith) x l h a)) (λ l. subst (λ (y : ℕ). Prev ns p x y) (sym (kid_none ns p x l)) (nothing l)) (lt_or_ge p x)
    where
      found : LastKid ns p x (kid_above ns p x) → Prev ns p x (kid_above ns p x)
      found k = record {
        child = λ q. record { real = omega (arith, k.behind); inside = omega (arith, k.within); parent = k.child };
        low = k.within;
        none = λ j r l m e. k.last j l m e;
      }

      nothing : x ≤ p → Prev ns p x 0
      nothing l = record { child = λ q. absurd (q refl); low = omega arith; none = λ j r k m e. omega (arith, child_behind depth_limit ns w j r (omega arith)) }

  prev_child : (c : ℕ) → Child ns p c → Prev ns p (c - 1) (kid_above ns p (c - 1))
  prev_child c k =
      let r : 0 < c = k.real in
      let h : c < nodes_in ns = k.inside in
      prev_kid (c - 1) (omega arith) (subst (λ (x : ℕ). Above ns x (c - 1)) k.parent (whole.follows c r h))

  prev_last : (last : ℕ) → Complete ns p last → Prev ns p last (kid_above ns p last)
  prev_last last k = prev_kid last k.inside k.up

  -- behind the last child stands none
  behind_last : (last c : ℕ) → Complete ns p last → Prev ns p last c → (j : ℕ) → 0 < j → c < j → j < nodes_in ns → parent_at ns j ≡ p → ⊥
  behind_last last c k v j r l m e = ⊎_elim (λ q. k.none j q m e) (λ q. v.none j r l q e) (lt_or_ge last j)

-- ---- the list

-- the children of p behind c are counted, and those from c on are in order as far as the marks say so
pub record Listing (ns nm : List ℕ) (p last c count : ℕ) (so : Rising) : Type 0 where
  pub at : (c ≡ 0 → ⊥) → Child ns p c
  pub few : count + c ≤ last
  pub run : count + child_count ns p c 1 ≡ child_count ns p (nodes_in ns - 1) 1
  pub bytes : so.bytes ≡ true → (i j : ℕ) → 0 < j → c ≤ j → j < i → i < nodes_in ns → parent_at ns i ≡ p → parent_at ns j ≡ p → Before (name_at nm ns j) (name_at nm ns i)
  pub git : so.git ≡ true → (i j : ℕ) → 0 < j → c ≤ j → j < i → i < nodes_in ns → parent_at ns i ≡ p → parent_at ns j ≡ p → GitBefore (name_at nm ns j) (name_at nm ns i)

module _ (ns nm : List ℕ) (w : walks depth_limit ns ≡ true) (p last : ℕ) where
  pub listing_start : Complete ns p last → (c : ℕ) → c ≡ kid_above ns p last → Listing ns nm p last c 0 (record { last = last; bytes = true; git = true })
  listing_start k c e = record {
    at = v.child;
    few = omega (arith, v.low);
    run = omega (arith, count_to ns p c (nodes_in ns - 1) (omega (arith, v.low, k.inside)) (λ i a b q. behind i (omega arith) a (omega (arith, k.inside)) q));
    bytes = λ t i j a b l m q r. absurd (behind i (omega arith) (omega arith) m q);
    git = λ t i j a b l m q r. absurd (behind i (omega arith) (omega arith) m q);
  }
    where
      v : Prev ns p last c
      v = subst (λ (x : ℕ). Prev ns p last x) (sym e) (prev_last ns w p last k)

      behind : (j : ℕ) → 0 < j → c < j → j < nodes_in ns → parent_at ns j ≡ p → ⊥
      behind = behind_last ns w p last c k v

  module _ (c count : ℕ) (so : Rising) (inv : Listing ns nm p last c count so) where
    module _ (real : c ≡ 0 → ⊥) (b : ℕ) (eb : b ≡ kid_above ns p (c - 1)) where
      here : Child ns p c
      here = inv.at real

      prev : Prev ns p (c - 1) b
      prev = subst (λ (x : ℕ). Prev ns p (c - 1) x) (sym eb) (prev_child ns w p c here)

      pub listing_less : b < c
      listing_less = omega (arith, here.real, prev.low)

      -- a child behind b is c or stands behind it
      onward : (j : ℕ) → 0 < j → b < j → parent_at ns j ≡ p → c ≤ j
      onward j a l q = ⊎_elim (λ m. absurd (prev.none j a l (omega arith) q)) (λ m. m) (lt_or_ge j c)

      -- once over any order
      falls : (R : List ℕ → List ℕ → Type 0) → ((x y z : List ℕ) → R x y → R y z → R x z) → (b ≡ 0) ⊎ R (name_at nm ns b) (name_at nm ns c)
          → ((i j : ℕ) → 0 < j → c ≤ j → j < i → i < nodes_in ns → parent_at ns i ≡ p → parent_at ns j ≡ p → R (name_at nm ns j) (name_at nm ns i))
          → (i j : ℕ) → 0 < j → b ≤ j → j < i → i < nodes_in ns → parent_at ns i ≡ p → parent_at ns j ≡ p → R (name_at nm ns j) (name_at nm ns i)
      falls R trans first old i j a l m n q r = ⊎_elim (λ k. old i j a (onward j a k r) m n q r) (λ k. at_b (omega arith) first) (lt_or_ge b j)
        where
          from_c : R (name_at nm ns b) (name_at nm ns c) → b ≡ j → R (name_at nm ns j) (name_at nm ns i)
          from_c s e =
              subst (λ (x : ℕ). R (name_at nm ns x) (name_at nm ns i)) e
              (⊎_elim (λ k. trans (name_at nm ns b) (name_at nm ns c) (name_at nm ns i) s (old i c here.real (omega arith) k n q here.parent))
              (λ k. let z : c ≡ i = omega (arith, onward i (omega arith) (omega arith) q) in subst (λ (x : ℕ). R (name_at nm ns b) (name_at nm ns x)) z s) (lt_or_ge c i))

          at_b : b ≡ j → (b ≡ 0) ⊎ R (name_at nm ns b) (name_at nm ns c) → R (name_at nm ns j) (name_at nm ns i)
          at_b e (inl z) = absurd (omega arith)
          at_b e (inr s) = from_c s e

      pub listing_more : (so₁ : Rising) → so₁ ≡ risen nm ns 0 (record { last = b; bytes = so.bytes; git = so.git }) c → Listing ns nm p last b (count + 1) so₁
      listing_more so₁ es = record {
        at = prev.child;
        few = omega (arith, inv.few, listing_less);
        run = omega (arith, inv.run, count_one ns p c here.real here.parent, count_to ns p b (c - 1) prev.low (λ i x y q. prev.none i (omega arith) x y q));
        bytes = λ t. let m = risen_bytes nm ns 0 pair c (sym (ap (λ (s : Rising). s.bytes) es) ∙ t) in falls Before (λ x y z p q. transitive p q) m.1 (inv.bytes m.0);
        git = λ t. let m = risen_git nm ns 0 pair c (sym (ap (λ (s : Rising). s.git) es) ∙ t) in falls GitBefore git_transitive m.1 (inv.git m.0);
      }
        where
          pair : Rising
          pair = record { last = b; bytes = so.bytes; git = so.git }

    pub listing_end : c ≡ 0 → (rising : Bool) → rising ≡ pick so.bytes true so.git → Seen ns nm p (record { count = count; rising = rising })
    unfolding child_count
    listing_end z rising e = record {
      count = let none : child_count ns p c 1 ≡ 0 = rw z in omega (arith, inv.run);
      differ = λ h. sym (by so.bytes refl so.git refl (sym e ∙ h));
    }
      where
        by : (s : Bool) → so.bytes ≡ s → (t : Bool) → so.git ≡ t → pick s true t ≡ true → true ≡ siblings_differ nm ns p 1 (nodes_in ns)
        by true es t et q =
            distinct_differ nm ns p 1 (nodes_in ns) (λ i j a l m x y n. irreflexive (subst (λ (v : List ℕ). Before (name_at nm ns j) v) n (inv.bytes es i j a (omega arith) l m x y)))
        by false es t et q =
            distinct_differ nm ns p 1 (nodes_in ns) (λ i j a l m x y n. git_irreflexive (name_at nm ns j) (subst (λ (v : List ℕ). GitBefore (name_at nm ns j) v) n (inv.git (et ∙ q) i j a (omega arith) l m x y)))

    -- as `kids` says it
    pub listing_either : c ≡ 0 → (rising : Bool) → rising ≡ (so.bytes || so.git) → Seen ns nm p (record { count = count; rising = rising })
    listing_either z rising e = listing_end z rising (e ∙ by so.bytes)
      where
        by : (s : Bool) → (s || so.git) ≡ pick s true so.git
        by true = refl
        by false = refl

    pub listing_bytes : c ≡ 0 → so.bytes ≡ true → Seen ns nm p (record { count = count; rising = so.bytes })
    listing_bytes z h = listing_end z so.bytes (h ∙ sym (rw h))

    pub listing_git : c ≡ 0 → so.bytes ≡ false → Seen ns nm p (record { count = count; rising = so.git })
    listing_git z h = listing_end z so.git (sym (rw h))

-- ---- in pairs

module _ (ns nm : List ℕ) (p i : ℕ) where
  twin_not : (j : ℕ) → (parent_at ns j ≡ p → ⊥) → twin nm ns p i j ≡ false
  unfolding twin
  twin_not j d = rw (ne_eqb (parent_at ns j) p d)

  twin_says : (j : ℕ) → parent_at ns j ≡ p → (t : Bool) → t ≡ same_bytes (name_at nm ns i) (name_at nm ns j) → twin nm ns p i j ≡ t
  unfolding twin
  twin_says j e t q = rw (eq-eqb (parent_at ns j) p e) (sym q)

  repeats_not : (parent_at ns i ≡ p → ⊥) → repeats nm ns p 1 i ≡ false
  unfolding repeats
  repeats_not d = rw (ne_eqb (parent_at ns i) p d)

  repeats_none : ((j : ℕ) → 0 < j → j < i → parent_at ns j ≡ p → twin nm ns p i j ≡ false) → repeats nm ns p 1 i ≡ false
  unfolding repeats
  repeats_none h = by (is_child ns p i)
    where
      each : (j : ℕ) → 0 < j → j < i → {t : Bool} → Same (parent_at ns j) p t → twin nm ns p i j ≡ false
      each j a b (same e) = h j a b e
      each j a b (differs d) = twin_not j d

      by : (t : Bool) → pick t (some (twin nm ns p i) 1 i) false ≡ false
      by true = any_false (twin nm ns p i) (i - 1) 1 (λ j a b. each j a (omega arith) (same? (parent_at ns j) p))
      by false = refl

-- no child of p behind b and before its child c has the name of c
pub record Twinless (ns nm : List ℕ) (p c b : ℕ) : Type 0 where
  pub at : (b ≡ 0 → ⊥) → Child ns p b
  pub low : b < c
  pub none : (j : ℕ) → 0 < j → b < j → j < c → parent_at ns j ≡ p → twin nm ns p c j ≡ false

module _ (ns nm : List ℕ) (w : walks depth_limit ns ≡ true) (p c : ℕ) (k : Child ns p c) where
  pub twinless_some : c ≡ 0 → ⊥
  twinless_some z = omega (arith, k.real)

  pub twinless_start : (b : ℕ) → b ≡ kid_above ns p (c - 1) → Twinless ns nm p c b
  twinless_start b e = let v : Prev ns p (c - 1) b = subst (λ (x : ℕ). Prev ns p (c - 1) x) (sym e) (prev_child ns w p c k) in record {
    at = v.child;
    low = omega (arith, k.real, v.low);
    none = λ j a l m q. absurd (v.none j a l (omega arith) q);
  }

  module _ (b : ℕ) (inv : Twinless ns nm p c b) where
    pub twinless_end : b ≡ 0 → false ≡ repeats nm ns p 1 c
    twinless_end z = sym (repeats_none ns nm p c (λ j a l q. inv.none j a (omega arith) l q))

    module _ (real : b ≡ 0 → ⊥) (t : Bool) (et : t ≡ same_bytes (name_at nm ns c) (name_at nm ns b)) where
      here_b : Child ns p b
      here_b = inv.at real

      pub twinless_found : t ≡ true → true ≡ repeats nm ns p 1 c
      twinless_found h = sym (repeats_is nm ns p 1 c b k.parent here_b.real inv.low (twin_says ns nm p c b here_b.parent t et ∙ h))

      module _ (a : ℕ) (ea : a ≡ kid_above ns p (b - 1)) where
        prev_b : Prev ns p (b - 1) a
        prev_b = subst (λ (x : ℕ). Prev ns p (b - 1) x) (sym ea) (prev_child ns w p b here_b)

        pub twinless_less : a < b
        twinless_less = omega (arith, here_b.real, prev_b.low)

        pub twinless_more : t ≡ false → Twinless ns nm p c a
        twinless_more h = record { at = prev_b.child; low = omega (arith, twinless_less, inv.low); none = λ j x l m q. by j x l m q (tri j b) }
          where
            by : (j : ℕ) → 0 < j → a < j → j < c → parent_at ns j ≡ p → (j < b) ⊎ ((j ≡ b) ⊎ (b < j)) → twin nm ns p c j ≡ false
            by j x l m q (inl n) = absurd (prev_b.none j x l (omega arith) q)
            by j x l m q (inr (inl n)) = subst (λ (z : ℕ). twin nm ns p c z ≡ false) (sym n) (twin_says ns nm p c b here_b.parent t et ∙ h)
            by j x l m q (inr (inr n)) = inv.none j x n m q

-- no child of p behind c has the name of an earlier one
pub record Differing (ns nm : List ℕ) (p c : ℕ) : Type 0 where
  pub at : (c ≡ 0 → ⊥) → Child ns p c
  pub none : (i : ℕ) → c < i → i < nodes_in ns → repeats nm ns p 1 i ≡ false

module _ (ns nm : List ℕ) (w : walks depth_limit ns ≡ true) (p : ℕ) where
  no_child : (i : ℕ) → (parent_at ns i ≡ p → ⊥) → repeats nm ns p 1 i ≡ false
  no_child i d = repeats_not ns nm p i d

  pub differing_start : (last : ℕ) → Complete ns p last → (c : ℕ) → c ≡ kid_above ns p last → Differing ns nm p c
  differing_start last k c e =
      let v : Prev ns p last c = subst (λ (x : ℕ). Prev ns p last x) (sym e) (prev_last ns w p last k) in
      record { at = v.child; none = λ i l m. no_child i (behind_last ns w p last c k v i (omega arith) l m) }

  module _ (c : ℕ) (inv : Differing ns nm p c) where
    pub differing_end : c ≡ 0 → true ≡ siblings_differ nm ns p 1 (nodes_in ns)
    unfolding siblings_differ
    differing_end z = sym (rw (any_false (repeats nm ns p 1) (nodes_in ns - 1) 1 (λ i a b. inv.none i (omega arith) (omega arith))))

    module _ (real : c ≡ 0 → ⊥) where
      pub differing_child : Child ns p c
      differing_child = inv.at real

      module _ (t : Bool) (et : t ≡ repeats nm ns p 1 c) where
        pub differing_found : t ≡ true → false ≡ siblings_differ nm ns p 1 (nodes_in ns)
        unfolding siblings_differ
        differing_found h = sym (rw (any_true (repeats nm ns p 1) (nodes_in ns - 1) 1 c (omega (arith, differing_child.real)) (omega (arith, differing_child.inside)) (sym et ∙ h)))

        module _ (a : ℕ) (ea : a ≡ kid_above ns p (c - 1)) where
          prev_c : Prev ns p (c - 1) a
          prev_c = subst (λ (x : ℕ). Prev ns p (c - 1) x) (sym ea) (prev_child ns w p c differing_child)

          pub differing_less : a < c
          differing_less = omega (arith, differing_child.real, prev_c.low)

          pub differing_more : t ≡ false → Differing ns nm p a
          differing_more h = record { at = prev_c.child; none = λ i l m. by i l m (tri i c) }
            where
              by : (i : ℕ) → a < i → i < nodes_in ns → (i < c) ⊎ ((i ≡ c) ⊎ (c < i)) → repeats nm ns p 1 i ≡ false
              by i l m (inl n) = no_child i (λ q. prev_c.none i (omega arith) l (omega arith) q)
              by i l m (inr (inl n)) = subst (λ (z : ℕ). repeats nm ns p 1 z ≡ false) (sym n) (sym et ∙ h)
              by i l m (inr (inr n)) = inv.none i n m

-- ---- what the list settles

module _ (ns nm : List ℕ) (i said : ℕ) (kids : WalkedKids) (es : said ≡ subtrees_at ns i) (seen : Seen ns nm i kids) where
  pub seen_miscounted : (said ≡ kids.count → ⊥) → eqb said kids.count ≡ kids_fit ns nm i
  unfolding kids_fit
  seen_miscounted h = rw (← es, ← seen.count, ne_eqb said kids.count h)

  module _ (h : said ≡ kids.count) where
    pub seen_rising : kids.rising ≡ true → kids.rising ≡ kids_fit ns nm i
    unfolding kids_fit
    seen_rising k = k ∙ sym (rw (← es, ← seen.count, eq-eqb said kids.count h) (seen.differ k))

    pub seen_compared : (t : Bool) → t ≡ siblings_differ nm ns i 1 (nodes_in ns) → t ≡ kids_fit ns nm i
    unfolding kids_fit
    seen_compared t q = q ∙ sym (rw (← es, ← seen.count, eq-eqb said kids.count h))

-- ---- the nodes that a climb leaves

not_all : (ns nm : List ℕ) (i : ℕ) → i < nodes_in ns → kids_fit ns nm i ≡ false → all_kids_fit ns nm ≡ false
not_all ns nm i h e = by (all_kids_fit ns nm) refl
  where
    by : (t : Bool) → all_kids_fit ns nm ≡ t → t ≡ false
    by true q = absurd (false_true (sym e ∙ all_each (kids_fit ns nm) (nodes_in ns) 0 q i (omega arith) (omega arith)))
    by false q = refl

-- the nodes below x are done, and those of x up to the end are left; no child of x stands behind `last`
pub record Closing (ns nm : List ℕ) (from to x last : ℕ) : Type 0 where
  pub here : Above ns x from
  pub up : Above ns to x
  pub done : (i : ℕ) → Above ns i from → (Above ns i x) ⊎ (kids_fit ns nm i ≡ true)
  pub complete : to < x → Complete ns x last

module _ (ns nm : List ℕ) (w : walks depth_limit ns ≡ true) (from to : ℕ) (l : Left ns from to) where
  pub closing_start : Closing ns nm from to from from
  closing_start = record {
    here = itself;
    up = l.up;
    done = λ i a. inl a;
    complete = λ h. record { inside = l.inside; up = itself; none = λ j a b e. l.gone from j h (omega arith) a b e };
  }

  module _ (x last : ℕ) (inv : Closing ns nm from to x last) where
    pub closing_end : x ≤ to → Closed ns nm from to true
    closing_end h = record {
      fit = λ t i a. let z : x ≡ to = omega (arith, above_low inv.up) in ⊎_elim (λ b. inl (subst (λ (y : ℕ). Above ns i y) z b)) (λ b. inr b) (inv.done i a);
      unfit = λ t. absurd (false_true (sym t));
    }

    module _ (h : to < x) where
      inside : x < nodes_in ns
      inside = omega (arith, l.inside, above_low inv.here)

      lower : parent_at ns x < x
      lower = child_behind depth_limit ns w x (omega arith) inside

      pub closing_less : (y : ℕ) → y ≡ parent_at ns x → y < x
      closing_less y e = omega (arith, lower)

      pub closing_complete : Complete ns x last
      closing_complete = inv.complete h

      module _ (t : Bool) (et : t ≡ kids_fit ns nm x) where
        pub closing_not : t ≡ false → Closed ns nm from to false
        closing_not q = record { fit = λ s. absurd (false_true s); unfit = λ s. not_all ns nm x inside (sym et ∙ q) }

        pub closing_more : t ≡ true → (y : ℕ) → y ≡ parent_at ns x → Closing ns nm from to y x
        closing_more q y e = subst (λ (z : ℕ). Closing ns nm from to z x) (sym e) (record {
          here = above_on parent_above inv.here;
          up = ⊎_elim (λ z. absurd (omega arith)) (λ z. z.1) (above_cases inv.up);
          done = λ i a. ⊎_elim (λ b. ⊎_elim (λ z. inr (subst (λ (j : ℕ). kids_fit ns nm j ≡ true) (sym z) (sym et ∙ q))) (λ z. inl z.1) (above_cases b)) (λ b. inr b) (inv.done i a);
          complete = λ k. record { inside = inside; up = parent_above; none = λ j a b d. none k j a b d (lt_or_ge from j) };
        })
          where
            parent_above : Above ns (parent_at ns x) x
            parent_above = higher {x = x} lower itself

            none : to < parent_at ns x → (j : ℕ) → x < j → j < nodes_in ns → parent_at ns j ≡ parent_at ns x → (from < j) ⊎ (j ≤ from) → ⊥
            none k j a b d (inl m) = l.gone (parent_at ns x) j k (omega (arith, lower, above_low inv.here)) m b d
            none k j a b d (inr m) =
                let z : from ≡ j + (from - j) = omega arith in
                left_behind ns 0 (nodes_in ns) (whole_below depth_limit ns w) x j (omega arith) a (omega (arith, lower)) (from - j) (omega (arith, l.inside)) (subst (λ (v : ℕ). Above ns x v) z inv.here)

-- ---- the pass

-- the nodes before j fit, save those that node j - 1 is or stands below
pub record Walking (ns nm : List ℕ) (n j : ℕ) : Type 0 where
  pub low : 1 ≤ j
  pub high : j ≤ n
  pub size : n ≡ nodes_in ns
  pub done : (i : ℕ) → i < j → (Above ns i (j - 1)) ⊎ (kids_fit ns nm i ≡ true)

pub walking_start : (ns nm : List ℕ) (n : ℕ) → 0 < nodes_in ns → n ≡ nodes_in ns → Walking ns nm n 1
walking_start ns nm n h e = record { low = omega arith; high = omega arith; size = e; done = λ i l. inl (above_same ns i (1 - 1) (omega arith)) }

module _ (ns nm : List ℕ) (w : walks depth_limit ns ≡ true) (n j : ℕ) (inv : Walking ns nm n j) where
  module _ (h : j < n) (p : ℕ) (ep : p ≡ parent_at ns j) where
    pub walking_left : Left ns (j - 1) p
    walking_left = record {
      inside = omega (arith, inv.size);
      up = subst (λ (x : ℕ). Above ns x (j - 1)) (sym ep) ((whole_below depth_limit ns w).follows j inv.low (omega (arith, inv.size)));
      gone = λ x k a b c d e. gone x k a b c d e (lt_or_ge j k);
    }
      where
        gone : (x k : ℕ) → p < x → x ≤ j - 1 → j - 1 < k → k < nodes_in ns → parent_at ns k ≡ x → (j < k) ⊎ (k ≤ j) → ⊥
        gone x k a b c d e (inl m) = nested ns 0 (nodes_in ns) (whole_below depth_limit ns w) x j k (omega arith) (omega (arith, inv.low)) m d (omega arith) e
        gone x k a b c d e (inr m) = let z : k ≡ j = omega arith in omega (arith, ap (λ (y : ℕ). parent_at ns y) z)

    module _ (t : Bool) (closed : Closed ns nm (j - 1) p t) where
      pub walking_not : t ≡ false → false ≡ all_kids_fit ns nm
      walking_not q = sym (closed.unfit q)

      pub walking_more : t ≡ true → Walking ns nm n (j + 1)
      walking_more q = record {
        low = omega arith;
        high = omega arith;
        size = inv.size;
        done = λ i l. ⊎_elim (λ m. ⊎_elim (λ a. ⊎_elim (λ b. inl (under i m b)) (λ b. inr b) (closed.fit q i a)) (λ a. inr a) (inv.done i m)) (λ m. inl (above_same ns i (j + 1 - 1) (omega arith))) (lt_or_ge i j);
      }
        where
          under : (i : ℕ) → i < j → Above ns i p → Above ns i (j + 1 - 1)
          under i m a = let z : j ≡ j + 1 - 1 = omega arith in subst (λ (x : ℕ). Above ns i x) z (higher {x = j} m (subst (λ (x : ℕ). Above ns i x) ep a))

  module _ (h : n ≤ j) where
    last_inside : n - 1 < nodes_in ns
    last_inside = omega (arith, inv.size, inv.low, inv.high)

    root_above : Above ns 0 (n - 1)
    root_above = all_below ns 0 (nodes_in ns) (whole_below depth_limit ns w) (n - 1) (omega arith) last_inside

    pub walking_last : Left ns (n - 1) 0
    walking_last = record { inside = last_inside; up = root_above; gone = λ x k a b c d e. omega (arith, inv.size) }

    pub walking_root : Complete ns 0 (n - 1)
    walking_root = record { inside = last_inside; up = root_above; none = λ k a b e. omega (arith, inv.size) }

    module _ (t : Bool) (closed : Closed ns nm (n - 1) 0 t) where
      pub walking_unfit : t ≡ false → false ≡ all_kids_fit ns nm
      walking_unfit q = sym (closed.unfit q)

      pub walking_end : t ≡ true → (r : Bool) → r ≡ kids_fit ns nm 0 → r ≡ all_kids_fit ns nm
      walking_end q r er = by r refl
        where
          same_end : j - 1 ≡ n - 1
          same_end = omega (arith, inv.high)

          each : (i : ℕ) → i < nodes_in ns → kids_fit ns nm 0 ≡ true → kids_fit ns nm i ≡ true
          each i l root = ⊎_elim (λ a. ⊎_elim (λ b. let z : i ≡ 0 = omega (arith, above_low b) in subst (λ (x : ℕ). kids_fit ns nm x ≡ true) (sym z) root) (λ b. b) (closed.fit q i (subst (λ (x : ℕ). Above ns i x) same_end a))) (λ a. a) (inv.done i (omega (arith, inv.size)))

          by : (v : Bool) → r ≡ v → r ≡ all_kids_fit ns nm
          by true e = e ∙ sym (each_all (kids_fit ns nm) (nodes_in ns) 0 (λ i a b. each i (omega arith) (sym er ∙ e)))
          by false e = e ∙ sym (not_all ns nm 0 (omega (arith, last_inside)) (sym er ∙ e))

-- a shallow table is in walk order
pub shallow_walks : (ns : List ℕ) (t : Bool) → t ≡ walks_within depth_limit ns → t ≡ true → walks depth_limit ns ≡ true
shallow_walks ns t e h = within_walks depth_limit ns (sym e ∙ h)

pub ruleset listing-laws = (listing_start, listing_less, listing_more, listing_either)

pub ruleset pair-laws = (twinless_some, twinless_start, twinless_end, twinless_found, twinless_less, twinless_more, differing_start, differing_end, differing_child, differing_found, differing_less, differing_more)

pub ruleset folder-laws = (seen_miscounted, seen_rising, seen_compared)

pub ruleset closing-laws = (closing_start, closing_end, closing_less, closing_complete, closing_not, closing_more)

pub ruleset walking-laws = (walking_start, walking_left, walking_not, walking_more, walking_last, walking_root, walking_unfit, walking_end, shallow_walks)
