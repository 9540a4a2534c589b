-- THE CLAIM: the list, the sort and the walk together answer whether the names of a folder's children differ, and leave the store as it was. Assumes nothing.
use Rattle.std.proofs.Math.Bool.{Bool}
use Rattle.std.specs.Prelude.{true, false, ◌≡◌, refl, ◌⊎◌, ℕ, ◌+◌, ◌^◌, ◌≤◌, ◌<◌, length}
use Rattle.std.proofs.Common.{sym, ◌∙◌, inl, inr, ⊎_elim}
use Rattle.std.proofs.Math.Path.{ap, subst}
use mathlib.Core.List.{List, [], append-nil}
use native.Mathlib.Omega.{arith}
use Rattle.laws.specs.Tests.{Same, same, differs, same?, lt_or_ge, tri}
use Rattle.laws.specs.Order.{Before, irreflexive}
use Rattle.node.specs.Store.{parent_at, name_at}
use Rattle.node.specs.Parents.{Alike, alike_on, Bytes, store_same}
use Rattle.siblings.specs.Siblings.{siblings_differ}
use Rattle.siblings.specs.InOrder.{Distinct, distinct_differ, differ_distinct}
use Rattle.link_sort.specs.declared.Strung.{Strung}
use Rattle.link_sort.specs.Runs.{Out, levels, no_kids, strung_kids, sort_run, released, begun, sorted_differ}
use Rattle.link_sort.specs.Enough.{strung_few}
use Rattle.link_sort.specs.Linked.{Mem, Rising, Chain, Spells, spells_on, rising_pair}
use Rattle.link_sort.specs.Sorting.{Sorts, room, sort_good}
use Rattle.link_sort.specs.Walked.{Verdict, as_was, twins, Released, walk_good}
use Rattle.link_sort.specs.Folder.{Folder}
use Rattle.link_sort.specs.Listing.{Child, Lists, strung_good}

module _ (file ns : List ℕ) (me used last : ℕ) (f : Folder ns me used last) (sized : length ns < 256 ^ 8) where
  abbrev K : ℕ → List ℕ
  K = name_at file ns

  abbrev list : Strung × List ℕ
  list = strung_kids me last ns

  g : Lists ns me used me list
  g = strung_good ns me used last f sized

  spells : Spells file K ns
  spells = record { names = λ i. refl; sized = sized }

  abbrev sorted : Out
  sorted = sort_run file levels true list.0.first list.0.count list.1

  fit : (n : ℕ) → n < 256 ^ 8 → n ≤ room levels
  unfolding room
  fit n h = omega arith

  few : list.0.count ≤ last
  unfolding strung_kids
  few = omega (arith, strung_few me last last no_kids ns)

  last_inside : last < used
  last_inside = by f.child
    where
      by : (last ≡ me) ⊎ ((me < last) × ((last < used) × (parent_at ns last ≡ me))) → last < used
      by (inl e) = omega (arith, f.onward)
      by (inr c) = c.1.0

  h : Sorts K true list.1 g.ids [] sorted
  h = sort_good file K levels true list.0.first list.0.count list.1 g.ids [] (spells_on g.alike spells) (fit list.0.count (omega (arith, few, last_inside, f.room))) g.many
      (subst (λ (l : List ℕ). Chain list.1 list.0.first l) (sym (append-nil g.ids)) g.chain) (subst (λ (l : List ℕ). Rising ◌<◌ l) (sym (append-nil g.ids)) g.rises)

  abbrev end : Bool × List ℕ
  end = released file me list.0.count sorted

  w : Released K me sorted.1 h.sorted true end
  w = walk_good K file me (omega (arith, f.onward, f.room)) list.0.count sorted.1 (begun sorted.0.first) h.sorted (spells_on h.alike (spells_on g.alike spells)) h.chain h.rises (h.many ∙ g.many)

  -- every parent is as it was
  parents : (i : ℕ) → parent_at end.1 i ≡ parent_at ns i
  parents i = ⊎_elim (λ l. ⊎_elim (λ m. by l m (same? (parent_at ns i) me)) (λ m. other (λ c. omega (arith, c.inside))) (lt_or_ge i used)) (λ l. other (λ c. omega (arith, c.behind))) (lt_or_ge me i)
    where
      other : (Child ns me used i → ⊥) → parent_at end.1 i ≡ parent_at ns i
      other out = w.kept i (λ m. out (g.from i (h.from i m))) ∙ h.kept i (λ m. out (g.from i m)) ∙ g.kept i (λ m. out (g.from i m))

      by : me < i → i < used → {t : Bool} → Same (parent_at ns i) me t → parent_at end.1 i ≡ parent_at ns i
      by l m (same e) = w.back i (h.into i (g.into i l (record { behind = l; inside = m; child = e }))) ∙ sym e
      by l m (differs e) = other (λ c. e c.child)

  -- names that rise are distinct
  apart : Rising (λ i j. Before (K i) (K j)) h.sorted → Distinct file ns me (me + 1) used
  apart q i j a b c p r e = ⊎_elim (λ z. omega arith) (⊎_elim (λ z. irreflexive (subst (λ (x : List ℕ). Before x (K j)) e z)) (λ z. irreflexive (subst (λ (x : List ℕ). Before (K j) x) e z)))
      (rising_pair q i j (in_sorted i (omega arith) c p) (in_sorted j (omega arith) (omega arith) r))
    where
      in_sorted : (k : ℕ) → me < k → k < used → parent_at ns k ≡ me → Mem k h.sorted
      in_sorted k x y z = h.into k (g.into k x (record { behind = x; inside = y; child = z }))

  -- what the walk says is what is asked
  says : Verdict K h.sorted true end.0 → end.0 ≡ siblings_differ file ns me (me + 1) used
  says (as_was e q) = e ∙ distinct_differ file ns me (me + 1) used (apart q)
  says (twins e t) = e ∙ repeated (siblings_differ file ns me (me + 1) used) refl
    where
      one : Child ns me used t.one
      one = g.from t.one (h.from t.one t.one_is)

      two : Child ns me used t.two
      two = g.from t.two (h.from t.two t.two_is)

      never : Distinct file ns me (me + 1) used → ⊥
      never d = ⊎_elim (λ l. d t.two t.one (omega (arith, one.behind)) l two.inside two.child one.child (sym t.same))
          (⊎_elim (λ l. t.apart l) (λ l. d t.one t.two (omega (arith, two.behind)) l one.inside one.child two.child t.same))
          (tri t.one t.two)

      repeated : (b : Bool) → siblings_differ file ns me (me + 1) used ≡ b → false ≡ b
      repeated true q = absurd (never (differ_distinct file ns me (me + 1) used q))
      repeated false q = refl

  pub answered : Bytes ns → (b : Bool) (ms : List ℕ) → Bytes ms → (b, ms) ≡ sorted_differ file me last ns → ◌≡◌ {A = Bool × List ℕ} (b, ms) (siblings_differ file ns me (me + 1) used, ns)
  unfolding sorted_differ
  answered bytes b ms bytes₂ e =
      let store : ms ≡ end.1 = ap (λ (o : Bool × List ℕ). o.1) e in
      let said : b ≡ end.0 = ap (λ (o : Bool × List ℕ). o.0) e in
      let alike : Alike ns ms = subst (λ (x : List ℕ). Alike ns x) (sym store) (alike_on (alike_on g.alike h.alike) w.alike) in
      let back : (i : ℕ) → parent_at ms i ≡ parent_at ns i = λ i. ap (λ (x : List ℕ). parent_at x i) store ∙ parents i in
      λ k. ((said ∙ says w.verdict) k, store_same bytes bytes₂ alike back k)
