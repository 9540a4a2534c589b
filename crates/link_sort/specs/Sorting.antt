-- The sort of the first nodes of a list: they are a list in order, the list goes on behind them front it did, and no other parent changes. Assumes nothing.
use Rattle.std.specs.Prelude.{Bool, ◌≡◌, refl, take, drop}
use Rattle.std.proofs.Common.{sym, ap, ◌∙◌, ⊎_elim, arith, length-append, length-drop, take-append-drop, length-take-le}
use Rattle.std.proofs.Math.Path.{subst}
use mathlib.Core.List.{List, [], ◌∷◌, ◌++◌, append_assoc}
use Prim.Native.Nat.{ℕ, zero, suc, ◌+◌, ◌*◌, ◌-◌, ◌/◌, ◌≤◌, ◌<◌}
use Rattle.std.proofs.Math.ListN.{length}
use Rattle.laws.specs.Pick.{pick}
use Rattle.laws.specs.Tests.{Less, less, not_less, less?, Same, same, differs, same?}
use Rattle.node.specs.Store.{nodes_in, parent_at}
use Rattle.node.specs.Parents.{Alike, alike_refl, alike_on}
use Rattle.link_sort.specs.declared.Runs.{Runs}
use Rattle.link_sort.specs.Runs.{Out, merge_run, lone_of, opposite, both_of, joined, halves, sort_run}
use Rattle.link_sort.specs.Order.{Fore, turned}
use Rattle.link_sort.specs.Linked.{Mem, Rising, done, more, Chain, end, link, no_mem, Spells, spells_on, Opened, opened, chain_kept, rising_as, mem_left, mem_right, mem_cases, rising_right, rising_across}
use Rattle.link_sort.specs.Merge.{In, in_left, in_right, in_out, Held, Merged, merge_good}

-- the nodes `ids`, behind which a list goes on with `rest`, are a list in order, and the store is s but for their parents
pub record Sorts (K : ℕ → List ℕ) (up : Bool) (s ids rest : List ℕ) (o : Out) : Type 0 where
  pub sorted : List ℕ
  pub chain : Chain o.1 o.0.first sorted
  pub rises : Rising (Fore K up) sorted
  pub from : (i : ℕ) → Mem i sorted → Mem i ids
  pub into : (i : ℕ) → Mem i ids → Mem i sorted
  pub kept : (i : ℕ) → (Mem i ids → ⊥) → parent_at o.1 i ≡ parent_at s i
  pub alike : Alike s o.1
  pub many : length sorted ≡ length ids
  pub goes : Chain o.1 o.0.rest rest

-- how many nodes so many levels hold
unfoldable pub room : ℕ → ℕ
room zero = 1
room (suc d) = 2 * room d

-- nodes of different parts of a list differ
parts_apart : (a b : List ℕ) → Rising ◌<◌ (a ++ b) → (i : ℕ) → Mem i a → Mem i b → ⊥
parts_apart a b r i m n = let h : i < i = rising_across a b r i i m n in omega arith

-- ---- two parts, sorted the other way, are merged

module _ (file : List ℕ) (K : ℕ → List ℕ) (up : Bool) (s : List ℕ) (n : ℕ) (front back rest : List ℕ) (a b : Out) (spells : Spells file K s) (one : length front ≡ n / 2) (two : length back ≡ n - n / 2)
    (rise : Rising ◌<◌ (front ++ (back ++ rest))) (g : Sorts K (opposite up) s front (back ++ rest) a) (h : Sorts K (opposite up) a.1 back rest b) where
  abbrev both : Runs
  both = both_of (n / 2) (n - n / 2) a.0 b.0

  abbrev out : ℕ × List ℕ
  out = merge_run file (opposite up) n b.1 both

  apart : (i : ℕ) → Mem i front → Mem i back → ⊥
  apart i p q = parts_apart front (back ++ rest) rise i p (mem_left rest q)

  held : Held file K (opposite up) b.1 both g.sorted h.sorted []
  held = record {
    spells = spells_on h.alike (spells_on g.alike spells);
    left = chain_kept b.1 h.alike.long (λ i m. h.kept i (λ q. apart i (g.from i m) q)) g.chain;
    right = h.chain;
    took = end;
    many_left = g.many ∙ one;
    many_right = h.many ∙ two;
    rise_left = g.rises;
    rise_right = h.rises;
    fall_took = done;
    past_left = λ o i m n. absurd (no_mem m);
    past_right = λ o i m n. absurd (no_mem m);
    apart = λ i m n. apart i (g.from i m) (h.from i n);
  }

  in_whole : (i : ℕ) → In i g.sorted h.sorted [] → Mem i (front ++ back)
  in_whole i (in_left m) = mem_left back (g.from i m)
  in_whole i (in_right m) = mem_right front (h.from i m)
  in_whole i (in_out m) = absurd (no_mem m)

  -- behind both the list goes on
  behind : (i : ℕ) → Mem i rest → Mem i (front ++ back) → ⊥
  behind i r w = ⊎_elim (λ p. parts_apart front (back ++ rest) rise i p (mem_right back r)) (λ q. parts_apart back rest (rising_right front (back ++ rest) rise) i q r) (mem_cases front back w)

  whole : Merged K (opposite up) b.1 g.sorted h.sorted [] out → Sorts K up s (front ++ back) rest (joined file (opposite up) n a.0 b)
  whole m = record {
    sorted = m.ids;
    chain = m.chain;
    rises = rising_as (λ i j r. turned K up i j r) m.falls;
    from = λ i k. in_whole i (m.from i k);
    into = λ i w. m.into i (⊎_elim (λ p. in_left (g.into i p)) (λ q. in_right (h.into i q)) (mem_cases front back w));
    kept = λ i out. m.kept i (λ k. out (mem_left back (g.from i k))) (λ k. out (mem_right front (h.from i k))) ∙ h.kept i (λ q. out (mem_right front q)) ∙ g.kept i (λ p. out (mem_left back p));
    alike = alike_on (alike_on g.alike h.alike) m.alike;
    many = omega (arith, m.many, g.many, h.many, length-append front back);
    goes = chain_kept out.1 m.alike.long (λ i r. m.kept i (λ k. behind i r (mem_left back (g.from i k))) (λ k. behind i r (mem_right front (h.from i k)))) h.goes;
  }

  join_good : n / 2 + (n - n / 2) ≡ n → Sorts K up s (front ++ back) rest (joined file (opposite up) n a.0 b)
  join_good e = whole (merge_good file K (opposite up) n b.1 both g.sorted h.sorted [] held e)

-- ---- no node, or one

module _ (K : ℕ → List ℕ) (up : Bool) (first n : ℕ) (s rest : List ℕ) where
  none : Chain s first rest → Sorts K up s [] rest (record { first = first; rest = first }, s)
  none c = record { sorted = []; chain = end; rises = done; from = λ i m. m; into = λ i m. m; kept = λ i k. refl; alike = alike_refl s; many = refl; goes = c }

  one : first < nodes_in s → Chain s (parent_at s first) rest → Sorts K up s (first ∷ []) rest (record { first = first; rest = parent_at s first }, s)
  one h c = record {
    sorted = first ∷ [];
    chain = link {x = first} h end;
    rises = more (λ y m. absurd (no_mem m)) done;
    from = λ i m. m;
    into = λ i m. m;
    kept = λ i k. refl;
    alike = alike_refl s;
    many = refl;
    goes = c;
  }

  few : (ids : List ℕ) → n < 2 → length ids ≡ n → Chain s first (ids ++ rest) → Sorts K up s ids rest (lone_of first n s, s)
  unfolding lone_of
  few [] h l c = by (same? n 0)
    where
      by : {t : Bool} → Same n 0 t → Sorts K up s [] rest (pick t (record { first = first; rest = first }) (record { first = first; rest = parent_at s first }), s)
      by (same e) = none c
      by (differs e) = absurd (e (sym l))
  few (x ∷ []) h l c = by (same? n 0) (opened c (omega arith))
    where
      by : {t : Bool} → Same n 0 t → Opened s first (x ∷ rest) → Sorts K up s (x ∷ []) rest (pick t (record { first = first; rest = first }) (record { first = first; rest = parent_at s first }), s)
      by (same e) o = absurd (omega (arith, l, e))
      by (differs e) o =
          let head : first ≡ x = cc o.is in
          let tail : o.rest ≡ rest = cc o.is in
          subst (λ (y : ℕ). Sorts K up s (y ∷ []) rest (record { first = first; rest = parent_at s first }, s)) head (one o.inside (subst (λ (l : List ℕ). Chain s (parent_at s first) l) tail o.goes))
  few (x ∷ (y ∷ ids)) h l c = absurd (omega arith)

-- ---- the sort

module _ (file : List ℕ) (K : ℕ → List ℕ) where
  -- two halves
  module _ (rec : ℕ → ℕ → List ℕ → Out) (up : Bool) (most : ℕ)
      (good : (first n : ℕ) (s ids rest : List ℕ) → Spells file K s → n ≤ most → length ids ≡ n → Chain s first (ids ++ rest) → Rising ◌<◌ (ids ++ rest) → Sorts K (opposite up) s ids rest (rec first n s))
      (first n : ℕ) (s ids rest : List ℕ) (spells : Spells file K s) (fits : n ≤ 2 * most) (many : length ids ≡ n) (c : Chain s first (ids ++ rest)) (rise : Rising ◌<◌ (ids ++ rest)) where
    abbrev front : List ℕ
    front = take (n / 2) ids

    abbrev back : List ℕ
    back = drop (n / 2) ids

    cut : ids ++ rest ≡ front ++ (back ++ rest)
    cut = ap (λ (l : List ℕ). l ++ rest) (sym (take-append-drop (n / 2) ids)) ∙ append_assoc front back rest

    rising : Rising ◌<◌ (front ++ (back ++ rest))
    rising = subst (λ (l : List ℕ). Rising ◌<◌ l) cut rise

    long_front : length front ≡ n / 2
    long_front = length-take-le (n / 2) ids (omega arith)

    long_back : length back ≡ n - n / 2
    long_back = omega (arith, length-drop (n / 2) ids)

    abbrev a : Out
    a = rec first (n / 2) s

    abbrev b : Out
    b = rec a.0.rest (n - n / 2) a.1

    g : Sorts K (opposite up) s front (back ++ rest) a
    g = good first (n / 2) s front (back ++ rest) spells (omega arith) long_front (subst (λ (l : List ℕ). Chain s first l) cut c) rising

    h : Sorts K (opposite up) a.1 back rest b
    h = good a.0.rest (n - n / 2) a.1 back rest (spells_on g.alike spells) (omega arith) long_back g.goes (rising_right front (back ++ rest) rising)

    halves_good : Sorts K up s ids rest (halves file rec up first n s)
    halves_good = subst (λ (l : List ℕ). Sorts K up s l rest (halves file rec up first n s)) (take-append-drop (n / 2) ids) (join_good file K up s n front back rest a b spells long_front long_back rising g h (omega arith))

  pub sort_good : (d : ℕ) (up : Bool) (first n : ℕ) (s ids rest : List ℕ) → Spells file K s → n ≤ room d → length ids ≡ n → Chain s first (ids ++ rest) → Rising ◌<◌ (ids ++ rest)
      → Sorts K up s ids rest (sort_run file d up first n s)
  unfolding sort_run room
  sort_good zero up first n s ids rest k f l c r = few K up first n s rest ids (omega arith) l c
  sort_good (suc d) up first n s ids rest k f l c r = by (less? n 2) (λ x m t js ms w g q e z. sort_good d (opposite up) x m t js ms w g q e z)
    where
      by : {t : Bool} → Less n 2 t
          → ((x m : ℕ) (u js ms : List ℕ) → Spells file K u → m ≤ room d → length js ≡ m → Chain u x (js ++ ms) → Rising ◌<◌ (js ++ ms) → Sorts K (opposite up) u js ms (sort_run file d (opposite up) x m u))
          → Sorts K up s ids rest (pick t (lone_of first n s, s) (halves file (sort_run file d (opposite up)) up first n s))
      by (less e) j = few K up first n s rest ids e l c
      by (not_less e) j = halves_good (sort_run file d (opposite up)) up (room d) j first n s ids rest k f l c r
