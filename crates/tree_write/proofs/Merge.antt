-- Laws of the runs: what the search for the last tail, a step and the beginning keep, and that the last tail is the last child. Assumes nothing.
use mathlib.Core.Bool.{Bool, true, false}
use mathlib.Core.Path.{◌≡◌, refl, sym, ap, ◌∙◌, subst}
use mathlib.Core.Logic.{◌⊎◌, inl, inr, ⊎_elim}
use mathlib.Core.List.{List}
use Prim.Native.Nat.{ℕ, zero, suc, ◌+◌, ◌-◌, ◌≤◌, ◌<◌}
use native.Mathlib.Nat.{pos_of_ne-zero}
use native.Mathlib.Omega.{arith}
use Rattle.std.specs.Prelude.{Option, Some, None, MatchOption}
use Rattle.std.specs.Option.{unwrap_or}
use lib.ListN.{length, get_or, set, length-set}
use lib.Seq.{get_or-set_same, get_or-set_other, get_or-take}
use borrow.Rule.Slice.PartMut.{put_mid, take_put}
use borrow.Author.Tests.{eq-eqb, ne_eqb}
use Rattle.laws.specs.Pick.{pick}
use Rattle.laws.specs.Tests.{lt_or_ge, tri, Same, same, differs, same?}
use Rattle.format.specs.Format.{depth_limit}
use Rattle.node.specs.Store.{nodes_in, parent_at}
use Rattle.walk_order.specs.Walk.{walks, kid_above}
use Rattle.walk_order.specs.Child.{whole_below}
use Rattle.tree_write.specs.declared.runs.Kid.{Kid}
use Rattle.tree_write.specs.Order.{before, false_true, before_not, before_trans, before_total}
use Rattle.tree_write.specs.Tree.{after, ahead}
use Rattle.tree_write.specs.Span.{Span, Cut, Prior, cut_end, cut_child, span_child, prior}
use Rattle.tree_write.specs.Runs.{Early, NoneLeft, Found, between, goes_on, lead, Run, ends, goes, nobody, tail_at, stop_at, Tailed, Apart, Covers, Ready, later, AllDead, Greatest, Stepped, Taken}

zero_or : (m : ℕ) → (m ≡ 0) ⊎ (m ≡ 0 → ⊥)
zero_or zero = inl refl
zero_or (suc m) = inr (λ e. omega arith)

-- ---- the order beside a bound

module _ (ns nm : List ℕ) where
  pub ahead_any : (j : ℕ) → ahead ns nm j 0 ≡ true
  unfolding ahead
  ahead_any j = refl

  -- what comes before a child comes before the bound behind it
  pub ahead_before : (j bound : ℕ) → before ns nm j bound ≡ true → ahead ns nm j bound ≡ true
  unfolding ahead
  ahead_before j bound h = by (same? bound 0)
    where
      by : {s : Bool} → Same bound 0 s → pick s true (before ns nm j bound) ≡ true
      by (same e) = refl
      by (differs e) = h

  pub ahead_says : (j bound : ℕ) → (bound ≡ 0 → ⊥) → ahead ns nm j bound ≡ true → before ns nm j bound ≡ true
  unfolding ahead
  ahead_says j bound d h = rw (ne_eqb bound 0 d) at h

  pub ahead_on : (i j bound : ℕ) → before ns nm i j ≡ true → ahead ns nm j bound ≡ true → ahead ns nm i bound ≡ true
  ahead_on i j bound h k = ⊎_elim (λ z. subst (λ (b : ℕ). ahead ns nm i b ≡ true) (sym z) (ahead_any i)) (λ d. ahead_before i bound (before_trans ns nm i j bound h (ahead_says j bound d k))) (zero_or bound)

  after_says : (kid j : ℕ) (t : Bool) → after ns nm kid j ≡ t → (kid ≡ 0 → ⊥) → before ns nm kid j ≡ t
  unfolding after
  after_says kid j t h d = rw (ne_eqb kid 0 d) at h

  after_none : (kid j : ℕ) → kid ≡ 0 → after ns nm kid j ≡ true
  unfolding after
  after_none kid j e = rw (eq-eqb kid 0 e)

-- ---- a run

module _ (ns nm : List ℕ) (c e end : ℕ) where
  goes_says : goes_on ns nm c e end ≡ true → (e ≡ end → ⊥) × (before ns nm c e ≡ true)
  unfolding goes_on
  goes_says h = by (same? e end) h
    where
      by : {s : Bool} → Same e end s → pick s false (before ns nm c e) ≡ true → (e ≡ end → ⊥) × (before ns nm c e ≡ true)
      by (same q) k = absurd (false_true k)
      by (differs q) k = (q, k)

  goes_not : goes_on ns nm c e end ≡ false → (e ≡ end → ⊥) → before ns nm c e ≡ false
  unfolding goes_on
  goes_not h d = rw (ne_eqb e end d) at h

module _ (ns nm : List ℕ) (p x y : ℕ) (e : y ≡ kid_above ns p (x - 1)) where
  module _ (h : y ≡ 0 → ⊥) (t : Bool) (et : t ≡ before ns nm y x) where
    pub lead_next : t ≡ true → y ≡ lead ns nm p x
    unfolding lead
    lead_next k = sym (rw (← e, ne_eqb y 0 h, sym et ∙ k))

    pub lead_falls : t ≡ false → 0 ≡ lead ns nm p x
    unfolding lead
    lead_falls k = sym (rw (← e, ne_eqb y 0 h, sym et ∙ k))

module _ (ns nm : List ℕ) (p : ℕ) where
  lead_says : (x : ℕ) → (lead ns nm p x ≡ 0 → ⊥) → (lead ns nm p x ≡ kid_above ns p (x - 1)) × (before ns nm (lead ns nm p x) x ≡ true)
  unfolding lead
  lead_says x h = by (same? (kid_above ns p (x - 1)) 0) (before ns nm (kid_above ns p (x - 1)) x) refl h
    where
      y : ℕ
      y = kid_above ns p (x - 1)

      by : {s : Bool} → Same y 0 s → (t : Bool) → before ns nm y x ≡ t → (pick s 0 (pick t y 0) ≡ 0 → ⊥) → (pick s 0 (pick t y 0) ≡ y) × (before ns nm (pick s 0 (pick t y 0)) x ≡ true)
      by (same e) t et q = absurd (q refl)
      by (differs e) true et q = (refl, et)
      by (differs e) false et q = absurd (q refl)

  run_before : {c j : ℕ} → Run ns nm p c j → (j ≡ c) ⊎ (before ns nm j c ≡ true)
  run_before ends = inl refl
  run_before (goes {x = x} {j = j} h r) =
      let b : before ns nm (lead ns nm p x) x ≡ true = (lead_says x h).1 in
      inr (⊎_elim (λ e. subst (λ (k : ℕ). before ns nm k x ≡ true) (sym e) b) (λ q. before_trans ns nm j (lead ns nm p x) x q b) (run_before r))

  run_on : {c x : ℕ} → Run ns nm p c x → (lead ns nm p x ≡ 0 → ⊥) → Run ns nm p c (lead ns nm p x)
  run_on ends h = goes h ends
  run_on (goes k r) h = goes k (run_on r h)

  -- a run with nothing before its beginning has no more
  run_stops : {x j : ℕ} → Run ns nm p x j → lead ns nm p x ≡ 0 → j ≡ x
  run_stops ends z = refl
  run_stops (goes h r) z = absurd (h z)

-- ---- the last tail

module _ (ns nm : List ℕ) (kid tail : ℕ) where
  later_says : later ns nm kid tail ≡ true → (tail ≡ 0 → ⊥) × (after ns nm kid tail ≡ true)
  unfolding later
  later_says h = by (same? tail 0) h
    where
      by : {s : Bool} → Same tail 0 s → pick s false (after ns nm kid tail) ≡ true → (tail ≡ 0 → ⊥) × (after ns nm kid tail ≡ true)
      by (same q) k = absurd (false_true k)
      by (differs q) k = (q, k)

  later_not : later ns nm kid tail ≡ false → (tail ≡ 0 → ⊥) → after ns nm kid tail ≡ false
  unfolding later
  later_not h d = rw (ne_eqb tail 0 d) at h

-- kid, at its place, is the last of the tails before k; or there is none, and it is 0
abbrev pub Searched : List ℕ → List ℕ → List Kid → ℕ → ℕ → Option ℕ → Type 0
Searched ns nm tails k kid place = MatchOption place ((kid ≡ 0) × AllDead k tails) (λ m. (kid ≡ tail_at tails m) × Greatest ns nm k tails m)

module _ (ns nm : List ℕ) (tails : List Kid) where
  pub searched_start : Searched ns nm tails 0 0 None
  searched_start = (refl, λ i l. absurd (omega arith))

  module _ (k kid tail : ℕ) (e : tail ≡ tail_at tails k) (t : Bool) (et : t ≡ later ns nm kid tail) where
    last_or : (i : ℕ) → i < k + 1 → (i < k) ⊎ (i ≡ k)
    last_or i h = ⊎_elim (λ l. inl l) (λ l. inr (omega arith)) (lt_or_ge i k)

    at_k : (i : ℕ) → i ≡ k → tail_at tails i ≡ tail
    at_k i q = ap (λ (x : ℕ). tail_at tails x) q ∙ sym e

    earlier : (place : Option ℕ) → Searched ns nm tails k kid place → (i : ℕ) → i < k → (tail_at tails i ≡ 0 → ⊥) → before ns nm tail (tail_at tails i) ≡ true → after ns nm kid tail ≡ true → ⊥
    earlier None inv i q d z a = d (inv.1 i q)
    earlier (Some m) inv i q d z a =
        let real : kid ≡ 0 → ⊥ = λ w. inv.1.live (sym inv.0 ∙ w) in
        inv.1.last i q d (subst (λ (x : ℕ). before ns nm x (tail_at tails i) ≡ true) inv.0 (before_trans ns nm kid tail (tail_at tails i) (after_says ns nm kid tail true a real) z))

    pub searched_tail : (place : Option ℕ) → Searched ns nm tails k kid place → t ≡ true → Searched ns nm tails (k + 1) tail (Some k)
    searched_tail place inv h =
        let s = later_says ns nm kid tail (sym et ∙ h) in
        let as_tail : (i : ℕ) → before ns nm (tail_at tails k) (tail_at tails i) ≡ true → before ns nm tail (tail_at tails i) ≡ true = λ i z. subst (λ (x : ℕ). before ns nm x (tail_at tails i) ≡ true) (sym e) z in (
          e,
          record {
            low = omega arith;
            live = λ z. s.0 (e ∙ z);
            last = λ i l d z. ⊎_elim (λ q. earlier place inv i q d (as_tail i z) s.1) (λ q. before_not ns nm tail (subst (λ (x : ℕ). before ns nm tail x ≡ true) (at_k i q) (as_tail i z))) (last_or i l);
          },
        )

    pub searched_kid : (place : Option ℕ) → Searched ns nm tails k kid place → t ≡ false → Searched ns nm tails (k + 1) kid place
    searched_kid None inv h = (inv.0, λ i l. ⊎_elim (λ q. inv.1 i q) (λ q. at_k i q ∙ dead (zero_or tail)) (last_or i l))
      where
        dead : (tail ≡ 0) ⊎ (tail ≡ 0 → ⊥) → tail ≡ 0
        dead (inl z) = z
        dead (inr d) = absurd (false_true (sym (later_not ns nm kid tail (sym et ∙ h) d) ∙ after_none ns nm kid tail inv.0))
    searched_kid (Some m) inv h = (inv.0, record { low = omega (arith, inv.1.low); live = inv.1.live; last = λ i l d z. ⊎_elim (λ q. inv.1.last i q d z) (λ q. late i q d z) (last_or i l) })
      where
        real : kid ≡ 0 → ⊥
        real w = inv.1.live (sym inv.0 ∙ w)

        late : (i : ℕ) → i ≡ k → (tail_at tails i ≡ 0 → ⊥) → before ns nm (tail_at tails m) (tail_at tails i) ≡ true → ⊥
        late i q d z =
            let not : before ns nm kid tail ≡ false = after_says ns nm kid tail false (later_not ns nm kid tail (sym et ∙ h) (λ w. d (at_k i q ∙ w))) real in
            false_true (sym not ∙ subst (λ (x : ℕ). before ns nm x tail ≡ true) (sym inv.0) (subst (λ (x : ℕ). before ns nm (tail_at tails m) x ≡ true) (at_k i q) z))

  pub searched_end : (used k kid : ℕ) (place : Option ℕ) → Searched ns nm tails k kid place → used ≤ k → k ≤ used → MatchOption place (AllDead used tails) (Greatest ns nm used tails)
  searched_end used k kid None inv a b = λ i l. inv.1 i (omega arith)
  searched_end used k kid (Some m) inv a b = let z : k ≡ used = omega arith in subst (λ (n : ℕ). Greatest ns nm n tails m) z inv.1

-- ---- a step

equal_or : (a b : ℕ) → (a ≡ b) ⊎ (a ≡ b → ⊥)
equal_or a b = ⊎_elim (λ l. inr (λ z. omega arith)) (⊎_elim (λ e. inl e) (λ l. inr (λ z. omega arith))) (tri a b)

module _ (ns nm : List ℕ) (p end bound used : ℕ) (tails : List Kid) (w : walks depth_limit ns ≡ true) (sp : Span ns p end) (c : Covers ns nm p bound tails used) where
  -- a child that is left stands in a run whose tail comes after it or is it
  run_tail : (i : ℕ) → Early ns nm p bound i → (j : ℕ) × (j < used) × (tail_at tails j ≡ 0 → ⊥) × ((i ≡ tail_at tails j) ⊎ (before ns nm i (tail_at tails j) ≡ true))
  run_tail i e = let t : Tailed ns nm p used tails i = c.whole i e in (t.place, t.low, t.some, run_before ns nm p t.run)

  none_left : AllDead used tails → NoneLeft ns nm p bound
  none_left dead i e = let (j, l, d, r) = run_tail i e in d (dead j l)

  module _ (place : ℕ) (g : Greatest ns nm used tails place) where
    abbrev t : ℕ
    t = tail_at tails place

    chosen : Early ns nm p bound t
    chosen = (c.live place g.low g.live).0

    late : (i : ℕ) → Early ns nm p bound i → before ns nm t i ≡ true → ⊥
    late i e h =
        let (j, l, d, r) = run_tail i e in
        g.last j l d (⊎_elim (λ z. subst (λ (x : ℕ). before ns nm t x ≡ true) z h) (λ z. before_trans ns nm t i (tail_at tails j) h z) r)

    pub step_found : Found ns nm p bound (get_or tails place nobody)
    step_found = record { last = record { early = chosen; last = late }; span = (c.live place g.low g.live).1 }

    abbrev next : ℕ
    next = lead ns nm p t

    abbrev back : Kid
    back = record { node = next; end = t }

    abbrev tails₁ : List Kid
    tails₁ = set tails place back

    placed : get_or tails₁ place nobody ≡ back
    placed = get_or-set_same tails place back nobody (omega (arith, g.low, c.few))

    differs_at : (i : ℕ) → (i ≡ place → ⊥) → get_or tails₁ i nobody ≡ get_or tails i nobody
    differs_at i d = get_or-set_other tails place i back nobody d

    at_place : (i : ℕ) → i ≡ place → tail_at tails₁ i ≡ next
    at_place i z = ap (λ (x : ℕ). tail_at tails₁ x) z ∙ ap (λ (k : Kid). k.node) placed

    at_other : (i : ℕ) → (i ≡ place → ⊥) → tail_at tails₁ i ≡ tail_at tails i
    at_other i d = ap (λ (k : Kid). k.node) (differs_at i d)

    old_at : (i : ℕ) → i ≡ place → tail_at tails i ≡ t
    old_at i z = ap (λ (x : ℕ). tail_at tails x) z

    before_it : Prior ns p t (kid_above ns p (t - 1))
    before_it = prior ns (whole_below depth_limit ns w) p end sp t (cut_child ns (whole_below depth_limit ns w) p end sp t chosen.real chosen.inside chosen.child)

    next_prior : (next ≡ 0 → ⊥) → Prior ns p t next
    next_prior h = subst (λ (x : ℕ). Prior ns p t x) (sym (lead_says ns nm p t h).0) before_it

    next_live : (next ≡ 0 → ⊥) → Early ns nm p t next × Span ns next t
    next_live h =
        let k : Prior ns p t next = next_prior h in
        (record { real = pos_of_ne-zero h; inside = omega (arith, k.before h, chosen.inside); child = k.child h; early = ahead_before ns nm next t (lead_says ns nm p t h).1 }, k.span h)

    other_live : (i : ℕ) → i < used → (i ≡ place → ⊥) → (tail_at tails i ≡ 0 → ⊥) → Early ns nm p t (tail_at tails i)
    other_live i l d h =
        let e : Early ns nm p bound (tail_at tails i) = (c.live i l h).0 in
        record {
          real = e.real;
          inside = e.inside;
          child = e.child;
          early = ahead_before ns nm (tail_at tails i) t (⊎_elim (λ z. absurd (twice z (tri i place))) (⊎_elim (λ z. z) (λ z. absurd (g.last i l h z))) (before_total ns nm (tail_at tails i) t));
        }
      where
        twice : tail_at tails i ≡ t → (i < place) ⊎ ((i ≡ place) ⊎ (place < i)) → ⊥
        twice z (inl m) = omega (arith, c.apart i place (tail_at tails i) m g.low h g.live ends)
        twice z (inr (inl m)) = d m
        twice z (inr (inr m)) = omega (arith, c.apart place i (tail_at tails place) m l g.live h ends)

    step_live : (i : ℕ) → i < used → (tail_at tails₁ i ≡ 0 → ⊥) → Early ns nm p t (tail_at tails₁ i) × Span ns (tail_at tails₁ i) (stop_at tails₁ i)
    step_live i l h = by (equal_or i place)
      where
        by : (i ≡ place) ⊎ (i ≡ place → ⊥) → Early ns nm p t (tail_at tails₁ i) × Span ns (tail_at tails₁ i) (stop_at tails₁ i)
        by (inl z) =
            let stop : stop_at tails₁ i ≡ t = ap (λ (x : ℕ). stop_at tails₁ x) z ∙ ap (λ (k : Kid). k.end) placed in
            let k = next_live (λ q. h (at_place i z ∙ q)) in
            rw (at_place i z, stop) k
        by (inr d) =
            let stop : stop_at tails₁ i ≡ stop_at tails i = ap (λ (k : Kid). k.end) (differs_at i d) in
            let h₀ : tail_at tails i ≡ 0 → ⊥ = λ q. h (at_other i d ∙ q) in
            rw (at_other i d, stop) (other_live i l d h₀, (c.live i l h₀).1)

    run_rest : {tail j : ℕ} → Run ns nm p tail j → tail ≡ t → (j ≡ t → ⊥) → (next ≡ 0 → ⊥) × Run ns nm p next j
    run_rest ends e d = absurd (d e)
    run_rest (goes {x = x} {j = j} h r) e d = subst (λ (k : ℕ). (lead ns nm p k ≡ 0 → ⊥) × Run ns nm p (lead ns nm p k) j) e (h, r)

    step_whole : (j : ℕ) → Early ns nm p t j → Tailed ns nm p used tails₁ j
    step_whole j k =
        let b : before ns nm j t ≡ true = ahead_says ns nm j t g.live k.early in
        let h : Tailed ns nm p used tails j = c.whole j (record { real = k.real; inside = k.inside; child = k.child; early = ahead_on ns nm j t bound b chosen.early }) in
        by h b (equal_or h.place place)
      where
        tailed : (h : Tailed ns nm p used tails j) (x : ℕ) → tail_at tails₁ h.place ≡ x → (x ≡ 0 → ⊥) → Run ns nm p x j → Tailed ns nm p used tails₁ j
        tailed h x e s r = record { place = h.place; low = h.low; some = λ z. s (sym e ∙ z); run = subst (λ (y : ℕ). Run ns nm p y j) (sym e) r }

        by : (h : Tailed ns nm p used tails j) → before ns nm j t ≡ true → (h.place ≡ place) ⊎ (h.place ≡ place → ⊥) → Tailed ns nm p used tails₁ j
        by h b (inl z) =
            let r = run_rest h.run (old_at h.place z) (λ q. before_not ns nm t (subst (λ (x : ℕ). before ns nm x t ≡ true) q b)) in
            tailed h next (at_place h.place z) r.0 r.1
        by h b (inr d) = tailed h (tail_at tails h.place) (at_other h.place d) h.some h.run

    step_apart : Apart ns nm p used tails₁
    step_apart i j x l m di dj r = by (equal_or i place) (equal_or j place)
      where
        by : (i ≡ place) ⊎ (i ≡ place → ⊥) → (j ≡ place) ⊎ (j ≡ place → ⊥) → tail_at tails₁ j < x
        by (inl a) (inl b) = absurd (omega arith)
        by (inl a) (inr b) =
            let q : next ≡ 0 → ⊥ = λ z. di (at_place i a ∙ z) in
            let run : Run ns nm p (tail_at tails i) x = subst (λ (y : ℕ). Run ns nm p y x) (sym (old_at i a)) (goes q (subst (λ (y : ℕ). Run ns nm p y x) (at_place i a) r)) in
            subst (λ (y : ℕ). y < x) (sym (at_other j b)) (c.apart i j x l m (λ z. g.live (sym (old_at i a) ∙ z)) (λ z. dj (at_other j b ∙ z)) run)
        by (inr a) (inl b) =
            let q : next ≡ 0 → ⊥ = λ z. dj (at_place j b ∙ z) in
            let run : Run ns nm p (tail_at tails i) x = subst (λ (y : ℕ). Run ns nm p y x) (at_other i a) r in
            let up : tail_at tails j < x = c.apart i j x l m (λ z. di (at_other i a ∙ z)) (λ z. g.live (sym (old_at j b) ∙ z)) run in
            omega (arith, old_at j b, at_place j b, (next_prior q).before q)
        by (inr a) (inr b) =
            subst (λ (y : ℕ). y < x) (sym (at_other j b)) (c.apart i j x l m (λ z. di (at_other i a ∙ z)) (λ z. dj (at_other j b ∙ z)) (subst (λ (y : ℕ). Run ns nm p y x) (at_other i a) r))

    pub step_covers : Covers ns nm p t tails₁ used
    step_covers = record { few = omega (arith, c.few, length-set tails place back); live = step_live; whole = step_whole; apart = step_apart }

-- a tail that was taken is the last child
pub taken_quick : (ns nm : List ℕ) (p end bound used : ℕ) (tails tails₁ : List Kid) (kid : Option Kid) → walks depth_limit ns ≡ true → Span ns p end → Covers ns nm p bound tails used → Stepped ns nm p used tails tails₁ kid
    → MatchOption kid (NoneLeft ns nm p bound) (Taken ns nm p bound (Some used) tails₁)
taken_quick ns nm p end bound used tails tails₁ None w sp c s = none_left ns nm p end bound used tails w sp c s
taken_quick ns nm p end bound used tails tails₁ (Some kid) w sp c s =
    rw (s.taken, s.moved) (record { found = step_found ns nm p end bound used tails w sp c s.place s.greatest; ready = step_covers ns nm p end bound used tails w sp c s.place s.greatest })

-- what is known needs only the tails of the runs
pub covers_kept : (ns nm : List ℕ) (p bound used : ℕ) (tails tails₁ : List Kid) → Covers ns nm p bound tails used → length tails₁ ≡ length tails → ((i : ℕ) → i < used → get_or tails₁ i nobody ≡ get_or tails i nobody) → Covers ns nm p bound tails₁ used
covers_kept ns nm p bound used tails tails₁ c long kept = record {
  few = omega (arith, c.few);
  live = λ i l d. subst (λ (k : Kid). Early ns nm p bound k.node × Span ns k.node k.end) (sym (kept i l)) (c.live i l (λ z. d (node i l ∙ z)));
  whole = λ j e. whole j (c.whole j e);
  apart = apart;
}
  where
    node : (i : ℕ) → i < used → tail_at tails₁ i ≡ tail_at tails i
    node i l = ap (λ (k : Kid). k.node) (kept i l)

    whole : (j : ℕ) → Tailed ns nm p used tails j → Tailed ns nm p used tails₁ j
    whole j a = record {
      place = a.place;
      low = a.low;
      some = λ z. a.some (sym (node a.place a.low) ∙ z);
      run = subst (λ (x : ℕ). Run ns nm p x j) (sym (node a.place a.low)) a.run;
    }

    apart : Apart ns nm p used tails₁
    apart i j x l m di dj r =
        let a : tail_at tails₁ i ≡ tail_at tails i = node i (omega arith) in
        let b : tail_at tails₁ j ≡ tail_at tails j = node j m in
        subst (λ (y : ℕ). y < x) (sym b) (c.apart i j x l m (λ z. di (a ∙ z)) (λ z. dj (b ∙ z)) (subst (λ (y : ℕ). Run ns nm p y x) a r))

part_kept : (used k : ℕ) (old part : List Kid) → used ≤ length old → (i : ℕ) → i < used → get_or (put_mid used k old part) i nobody ≡ get_or old i nobody
part_kept used k old part few i l =
    sym (get_or-take used (put_mid used k old part) i nobody l) ∙ ap (λ (xs : List Kid). get_or xs i nobody) (take_put used k old part few) ∙ get_or-take used old i nobody l

-- a store whose part behind those was lent
pub ready_part : (ns nm : List ℕ) (p bound : ℕ) (runs : Option ℕ) (used k : ℕ) (tails part : List Kid) → used ≡ unwrap_or runs 0 → Ready ns nm p bound runs tails → length (put_mid used k tails part) ≡ length tails
    → Ready ns nm p bound runs (put_mid used k tails part)
ready_part ns nm p bound None used k tails part z h long = tt
ready_part ns nm p bound (Some u) used k tails part z h long =
    let c : Covers ns nm p bound tails used = subst (λ (n : ℕ). Covers ns nm p bound tails n) (sym z) h in
    subst (λ (n : ℕ). Covers ns nm p bound (put_mid used k tails part) n) z (covers_kept ns nm p bound used tails (put_mid used k tails part) c long (part_kept used k tails part c.few))

-- ---- the beginning

-- the children of p from e on stand in the runs so far, and c is the one before
pub record Begun (ns nm : List ℕ) (p end e c used : ℕ) (tails : List Kid) : Type 0 where
  pub few : used ≤ length tails
  pub cut : Cut ns p end e
  pub next : c ≡ kid_above ns p (e - 1)
  pub fresh : e ≡ end → used ≡ 0
  pub live : (i : ℕ) → i < used → Early ns nm p 0 (tail_at tails i) × Span ns (tail_at tails i) (stop_at tails i)
  pub whole : (j : ℕ) → 0 < j → e ≤ j → j < nodes_in ns → parent_at ns j ≡ p → Tailed ns nm p used tails j
  pub reach : (i x : ℕ) → i < used → Run ns nm p (tail_at tails i) x → (e ≤ x) ⊎ Run ns nm p e x
  pub apart : Apart ns nm p used tails

module _ (ns nm : List ℕ) (p end : ℕ) (w : walks depth_limit ns ≡ true) (sp : Span ns p end) where
  pub begun_start : (c : ℕ) (tails : List Kid) → c ≡ kid_above ns p (end - 1) → Begun ns nm p end end c 0 tails
  begun_start c tails e = record {
    few = omega arith;
    cut = cut_end ns (whole_below depth_limit ns w) p end sp;
    next = e;
    fresh = λ z. refl;
    live = λ i l. absurd (omega arith);
    whole = λ j r l m q. absurd (omega (arith, (span_child ns (whole_below depth_limit ns w) p end sp j r m q).1));
    reach = λ i x l. absurd (omega arith);
    apart = λ i j x l m. absurd (omega arith);
  }

  module _ (e c used : ℕ) (tails : List Kid) (inv : Begun ns nm p end e c used tails) where
    before_e : Prior ns p e c
    before_e = subst (λ (x : ℕ). Prior ns p e x) (sym inv.next) (prior ns (whole_below depth_limit ns w) p end sp e inv.cut)

    pub begun_end : c ≡ 0 → Covers ns nm p 0 tails used
    begun_end z = record { few = inv.few; live = λ i l d. inv.live i l; whole = λ j k. inv.whole j k.real (reached j k) k.inside k.child; apart = inv.apart }
      where
        reached : (j : ℕ) → Early ns nm p 0 j → e ≤ j
        reached j k = ⊎_elim (λ l. absurd (before_e.none j k.real (omega (arith, k.real)) l k.child)) (λ l. l) (lt_or_ge j e)

    module _ (real : c ≡ 0 → ⊥) where
      pub begun_less : c < e
      begun_less = before_e.before real

      inside : c < nodes_in ns
      inside = omega (arith, begun_less, inv.cut.within, sp.within)

      cut_c : Cut ns p end c
      cut_c = cut_child ns (whole_below depth_limit ns w) p end sp c (pos_of_ne-zero real) inside (before_e.child real)

      -- a child from c on is c, or stands from e on
      from_c : (j : ℕ) → 0 < j → c ≤ j → parent_at ns j ≡ p → (j ≡ c) ⊎ (e ≤ j)
      from_c j r l q = ⊎_elim (λ m. ⊎_elim (λ k. absurd (before_e.none j r k m q)) (λ k. inl (omega arith)) (lt_or_ge c j)) (λ m. inr m) (lt_or_ge j e)

      not_end : (e ≡ end → ⊥) → (parent_at ns e ≡ p) × ((0 < e) × (e < nodes_in ns))
      not_end d = ⊎_elim (λ z. absurd (d z)) (λ z. (z, (omega (arith, inv.cut.behind), low))) inv.cut.is
        where
          low : e < nodes_in ns
          low = ⊎_elim (λ l. omega (arith, sp.within)) (λ l. absurd (d (omega (arith, inv.cut.within)))) (lt_or_ge e end)

      module _ (t : Bool) (et : t ≡ goes_on ns nm c e end) (c₁ : ℕ) (ec : c₁ ≡ kid_above ns p (c - 1)) where
        pub begun_same : t ≡ true → Begun ns nm p end c c₁ used tails
        begun_same h =
            let s = goes_says ns nm c e end (sym et ∙ h) in
            let on : c ≡ lead ns nm p e = lead_next ns nm p e c inv.next real (before ns nm c e) refl s.1 in
            let k = not_end s.0 in
            let at-e : Tailed ns nm p used tails e = inv.whole e k.1.0 (omega arith) k.1.1 k.0 in
            let at_c : Tailed ns nm p used tails c = record { place = at-e.place; low = at-e.low; some = at-e.some; run = subst (λ (x : ℕ). Run ns nm p (tail_at tails at-e.place) x) (sym on) (run_on ns nm p at-e.run (λ z. real (on ∙ z))) } in
            record {
              few = inv.few;
              cut = cut_c;
              next = ec;
              fresh = λ z. absurd (omega (arith, begun_less, inv.cut.within));
              live = inv.live;
              whole = λ j r l m q. ⊎_elim (λ z. subst (λ (x : ℕ). Tailed ns nm p used tails x) (sym z) at_c) (λ z. inv.whole j r z m q) (from_c j r l q);
              reach = λ i x l r. ⊎_elim (λ z. inl (omega (arith, begun_less))) (λ z. reached on z) (inv.reach i x l r);
              apart = inv.apart;
            }
          where
            reached : c ≡ lead ns nm p e → {x : ℕ} → Run ns nm p e x → (c ≤ x) ⊎ Run ns nm p c x
            reached on ends = inl (omega (arith, begun_less))
            reached on (goes {j = j} d r) = inr (subst (λ (y : ℕ). Run ns nm p y j) (sym on) r)

        module _ (h : t ≡ false) (less : used < length tails) where
          abbrev one : Kid
          one = record { node = c; end = e }

          abbrev more : List Kid
          more = set tails used one

          placed₂ : get_or more used nobody ≡ one
          placed₂ = get_or-set_same tails used one nobody less

          differs₂ : (i : ℕ) → i < used → get_or more i nobody ≡ get_or tails i nobody
          differs₂ i l = get_or-set_other tails used i one nobody (λ z. omega arith)

          new : (i : ℕ) → i ≡ used → tail_at more i ≡ c
          new i z = ap (λ (x : ℕ). tail_at more x) z ∙ ap (λ (k : Kid). k.node) placed₂

          old : (i : ℕ) → i < used → tail_at more i ≡ tail_at tails i
          old i l = ap (λ (k : Kid). k.node) (differs₂ i l)

          new_or : (i : ℕ) → i < used + 1 → (i < used) ⊎ (i ≡ used)
          new_or i l = ⊎_elim (λ m. inl m) (λ m. inr (omega arith)) (lt_or_ge i used)

          -- the runs so far end before e
          stopped : (i x : ℕ) → i < used → Run ns nm p (tail_at tails i) x → e ≤ x
          stopped i x l r = ⊎_elim (λ z. z) (λ z. omega (arith, run_stops ns nm p z stop)) (inv.reach i x l r)
            where
              other : e ≡ end → ⊥
              other z = omega (arith, inv.fresh z)

              stop : lead ns nm p e ≡ 0
              stop = sym (lead_falls ns nm p e c inv.next real (before ns nm c e) refl (goes_not ns nm c e end (sym et ∙ h) other))

          kept : (j : ℕ) → Tailed ns nm p used tails j → Tailed ns nm p (used + 1) more j
          kept j a = record {
            place = a.place;
            low = omega (arith, a.low);
            some = λ z. a.some (sym (old a.place a.low) ∙ z);
            run = subst (λ (x : ℕ). Run ns nm p x j) (sym (old a.place a.low)) a.run;
          }

          at_new : Tailed ns nm p (used + 1) more c
          at_new = record {
            place = used;
            low = omega arith;
            some = λ z. real (sym (new used refl) ∙ z);
            run = subst (λ (x : ℕ). Run ns nm p x c) (sym (new used refl)) ends;
          }

          new_live : (i : ℕ) → i < used + 1 → Early ns nm p 0 (tail_at more i) × Span ns (tail_at more i) (stop_at more i)
          new_live i l = by (new_or i l)
            where
              by : (i < used) ⊎ (i ≡ used) → Early ns nm p 0 (tail_at more i) × Span ns (tail_at more i) (stop_at more i)
              by (inl m) =
                  let stop : stop_at more i ≡ stop_at tails i = ap (λ (k : Kid). k.end) (differs₂ i m) in
                  rw (old i m, stop) (inv.live i m)
              by (inr z) =
                  let stop : stop_at more i ≡ e = ap (λ (x : ℕ). stop_at more x) z ∙ ap (λ (k : Kid). k.end) placed₂ in
                  rw (new i z, stop) (record { real = pos_of_ne-zero real; inside = inside; child = before_e.child real; early = ahead_any ns nm c }, before_e.span real)

          new_reach : (i x : ℕ) → i < used + 1 → Run ns nm p (tail_at more i) x → (c ≤ x) ⊎ Run ns nm p c x
          new_reach i x l r = by (new_or i l)
            where
              by : (i < used) ⊎ (i ≡ used) → (c ≤ x) ⊎ Run ns nm p c x
              by (inl m) = inl (omega (arith, begun_less, stopped i x m (subst (λ (y : ℕ). Run ns nm p y x) (old i m) r)))
              by (inr z) = inr (subst (λ (y : ℕ). Run ns nm p y x) (new i z) r)

          new_apart : Apart ns nm p (used + 1) more
          new_apart i j x l m di dj r = by (new_or j m)
            where
              run : i < used → Run ns nm p (tail_at tails i) x
              run k = subst (λ (y : ℕ). Run ns nm p y x) (old i k) r

              by : (j < used) ⊎ (j ≡ used) → tail_at more j < x
              by (inl k) = let a : i < used = omega arith in subst (λ (y : ℕ). y < x) (sym (old j k)) (inv.apart i j x l k (λ z. di (old i a ∙ z)) (λ z. dj (old j k ∙ z)) (run a))
              by (inr z) = let a : i < used = omega arith in omega (arith, new j z, begun_less, stopped i x a (run a))

          pub begun_new : Begun ns nm p end c c₁ (used + 1) more
          begun_new = record {
            few = omega (arith, length-set tails used one, less);
            cut = cut_c;
            next = ec;
            fresh = λ z. absurd (omega (arith, begun_less, inv.cut.within));
            live = new_live;
            whole = λ j r l m q. ⊎_elim (λ z. subst (λ (x : ℕ). Tailed ns nm p (used + 1) more x) (sym z) at_new) (λ z. kept j (inv.whole j r z m q)) (from_c j r l q);
            reach = new_reach;
            apart = new_apart;
          }

-- ---- the children as they stand

between_says : (ns nm : List ℕ) (kid c bound : ℕ) (t : Bool) → between ns nm kid c bound ≡ t → ((ahead ns nm c bound ≡ true) × (after ns nm kid c ≡ t)) ⊎ ((ahead ns nm c bound ≡ false) × (t ≡ false))
unfolding between
between_says ns nm kid c bound t h = by (ahead ns nm c bound) refl h
  where
    by : (s : Bool) → ahead ns nm c bound ≡ s → pick s (after ns nm kid c) false ≡ t → ((ahead ns nm c bound ≡ true) × (after ns nm kid c ≡ t)) ⊎ ((ahead ns nm c bound ≡ false) × (t ≡ false))
    by true e q = inl (e, q)
    by false e q = inr (e, sym q)

-- kid is the last of the children from e on that come before the bound, or 0 and there is none; c is the child before e
pub record Listing (ns nm : List ℕ) (p end bound e c : ℕ) (kid : Kid) : Type 0 where
  pub cut : Cut ns p end e
  pub next : c ≡ kid_above ns p (e - 1)
  pub found : (kid.node ≡ 0 → ⊥) → Early ns nm p bound kid.node × Span ns kid.node kid.end
  pub some : (i : ℕ) → e ≤ i → Early ns nm p bound i → kid.node ≡ 0 → ⊥
  pub last : (i : ℕ) → e ≤ i → Early ns nm p bound i → before ns nm kid.node i ≡ true → ⊥

module _ (ns nm : List ℕ) (p end bound : ℕ) (w : walks depth_limit ns ≡ true) (sp : Span ns p end) where
  pub listing_start : (c : ℕ) → c ≡ kid_above ns p (end - 1) → Listing ns nm p end bound end c nobody
  listing_start c e = record {
    cut = cut_end ns (whole_below depth_limit ns w) p end sp;
    next = e;
    found = λ h. absurd (h refl);
    some = λ i l k z. late i l k;
    last = λ i l k z. late i l k;
  }
    where
      late : (i : ℕ) → end ≤ i → Early ns nm p bound i → ⊥
      late i l k = omega (arith, (span_child ns (whole_below depth_limit ns w) p end sp i k.real k.inside k.child).1)

  module _ (e c : ℕ) (kid : Kid) (inv : Listing ns nm p end bound e c kid) where
    before_it₂ : Prior ns p e c
    before_it₂ = subst (λ (x : ℕ). Prior ns p e x) (sym inv.next) (prior ns (whole_below depth_limit ns w) p end sp e inv.cut)

    from : c ≡ 0 → (i : ℕ) → Early ns nm p bound i → e ≤ i
    from z i k = ⊎_elim (λ l. absurd (before_it₂.none i k.real (omega (arith, k.real)) l k.child)) (λ l. l) (lt_or_ge i e)

    pub listing_none : c ≡ 0 → kid.node ≡ 0 → NoneLeft ns nm p bound
    listing_none z w i k = inv.some i (from z i k) k w

    pub listing_found : c ≡ 0 → (kid.node ≡ 0 → ⊥) → Found ns nm p bound kid
    listing_found z d = record { last = record { early = (inv.found d).0; last = λ i k. inv.last i (from z i k) k }; span = (inv.found d).1 }

    module _ (real : c ≡ 0 → ⊥) where
      pub listing_less : c < e
      listing_less = before_it₂.before real

      inside₂ : c < nodes_in ns
      inside₂ = omega (arith, listing_less, inv.cut.within, sp.within)

      cut₂ : Cut ns p end c
      cut₂ = cut_child ns (whole_below depth_limit ns w) p end sp c (pos_of_ne-zero real) inside₂ (before_it₂.child real)

      from₂ : (i : ℕ) → c ≤ i → Early ns nm p bound i → (i ≡ c) ⊎ (e ≤ i)
      from₂ i l k = ⊎_elim (λ m. ⊎_elim (λ q. absurd (before_it₂.none i k.real q m k.child)) (λ q. inl (omega arith)) (lt_or_ge c i)) (λ m. inr m) (lt_or_ge i e)

      module _ (t : Bool) (et : t ≡ between ns nm kid.node c bound) (c₁ : ℕ) (ec : c₁ ≡ kid_above ns p (c - 1)) where
        pub listing_take : t ≡ true → Listing ns nm p end bound c c₁ (record { node = c; end = e })
        listing_take h = record {
          cut = cut₂;
          next = ec;
          found = λ d. (record { real = pos_of_ne-zero real; inside = inside₂; child = before_it₂.child real; early = says.0 }, before_it₂.span real);
          some = λ i l k z. real z;
          last = λ i l k z. ⊎_elim (λ q. before_not ns nm c (subst (λ (x : ℕ). before ns nm c x ≡ true) q z)) (λ q. later_one i q k z (zero_or kid.node)) (from₂ i l k);
        }
          where
            says : (ahead ns nm c bound ≡ true) × (after ns nm kid.node c ≡ true)
            says = ⊎_elim (λ z. z) (λ z. absurd (false_true (sym z.1))) (between_says ns nm kid.node c bound true (sym et ∙ h))

            later_one : (i : ℕ) → e ≤ i → Early ns nm p bound i → before ns nm c i ≡ true → (kid.node ≡ 0) ⊎ (kid.node ≡ 0 → ⊥) → ⊥
            later_one i q k z (inl v) = inv.some i q k v
            later_one i q k z (inr v) = inv.last i q k (before_trans ns nm kid.node c i (after_says ns nm kid.node c true says.1 v) z)

        pub listing_pass : t ≡ false → Listing ns nm p end bound c c₁ kid
        listing_pass h = record {
          cut = cut₂;
          next = ec;
          found = inv.found;
          some = λ i l k z. ⊎_elim (λ q. here (subst (λ (x : ℕ). Early ns nm p bound x) q k) (inl z)) (λ q. inv.some i q k z) (from₂ i l k);
          last = λ i l k z. ⊎_elim (λ q. here (subst (λ (x : ℕ). Early ns nm p bound x) q k) (inr (subst (λ (x : ℕ). before ns nm kid.node x ≡ true) q z))) (λ q. inv.last i q k z) (from₂ i l k);
        }
          where
            here : Early ns nm p bound c → (kid.node ≡ 0) ⊎ (before ns nm kid.node c ≡ true) → ⊥
            here k v = ⊎_elim (λ z. by z.1 v (zero_or kid.node)) (λ z. false_true (sym z.0 ∙ k.early)) (between_says ns nm kid.node c bound false (sym et ∙ h))
              where
                by : after ns nm kid.node c ≡ false → (kid.node ≡ 0) ⊎ (before ns nm kid.node c ≡ true) → (kid.node ≡ 0) ⊎ (kid.node ≡ 0 → ⊥) → ⊥
                by z v (inl u) = false_true (sym z ∙ after_none ns nm kid.node c u)
                by z (inl q) (inr u) = u q
                by z (inr q) (inr u) = false_true (sym (after_says ns nm kid.node c false z u) ∙ q)

pub ruleset runs-laws = (searched_start, searched_tail, searched_kid, searched_end, begun_start, begun_less, begun_same, begun_new, begun_end, listing_start, listing_less, listing_take, listing_pass, listing_none, listing_found)
