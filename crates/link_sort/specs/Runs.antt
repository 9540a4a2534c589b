-- What the code does to the store, step by step: definitions that compute, of how "sibling names differ" (01, Extensions) is found by sorting. Answer says that they
-- find it. Assumes nothing.
use Rattle.std.specs.Prelude.{Bool, true, false, List, ℕ, zero, suc, ◌+◌, ◌-◌, ◌/◌, ltb, eqb}
use Rattle.laws.specs.Pick.{pick}
use Rattle.laws.specs.Order.{compared}
use Rattle.node.specs.Store.{parent_at, name_at, with_parent}
use Rattle.walk_order.specs.Walk.{kid_above}
use Rattle.access.specs.Order.{order_of}
use Rattle.link_sort.specs.declared.Runs.{Runs}
use Rattle.link_sort.specs.declared.Strung.{Strung}
use Rattle.link_sort.specs.declared.Sorted.{Sorted}
use Rattle.link_sort.specs.declared.Walk.{Walk}
use Rattle.std.specs.declared.cmp.Ordering.{Ordering}
use Rattle.std.specs.declared.cmp.Ordering.TheVariants.{Equal, Greater, Less}

-- how often a list can be halved
abbrev pub levels : ℕ
levels = 64

abbrev pub opposite : Bool → Bool
opposite up = pick up false true

-- ---- the merge

-- by name, and where the names are equal by number
abbrev pub foremost : Ordering → Bool → Bool
foremost Less less = true
foremost Equal less = less
foremost Greater less = false

-- node i comes before node j
unfoldable pub is_before : List ℕ → List ℕ → ℕ → ℕ → Bool
is_before file s i j = foremost (order_of (compared (name_at file s i) (name_at file s j))) (ltb i j)

unfoldable pub takes_left : List ℕ → Bool → List ℕ → Runs → Bool
takes_left file up s r =
    pick (eqb r.nx 0) false
    (pick (eqb r.ny 0) true
    (pick up (is_before file s r.x r.y) (opposite (is_before file s r.x r.y))))

-- the first node of a list is put in front of those that were taken
abbrev pub taken : List ℕ → Runs → Bool → Runs × List ℕ
taken s r true = (record { x = parent_at s r.x; nx = r.nx - 1; y = r.y; ny = r.ny; out = r.x }, with_parent s r.x r.out)
taken s r false = (record { x = r.x; nx = r.nx; y = parent_at s r.y; ny = r.ny - 1; out = r.y }, with_parent s r.y r.out)

unfoldable pub turn_of : List ℕ → Bool → List ℕ → Runs → Runs × List ℕ
turn_of file up s r = taken s r (takes_left file up s r)

unfoldable pub merge_run : List ℕ → Bool → ℕ → List ℕ → Runs → ℕ × List ℕ
merge_run file up zero s r = (r.out, s)
merge_run file up (suc n) s r = merge_run file up n (turn_of file up s r).1 (turn_of file up s r).0

-- ---- the sort

abbrev pub Out : Type 0
Out = Sorted × List ℕ

-- a part of one node or none
unfoldable pub lone_of : ℕ → ℕ → List ℕ → Sorted
lone_of first n s = pick (eqb n 0) (record { first = first; rest = first }) (record { first = first; rest = parent_at s first })

-- two lists, of m and n nodes
abbrev pub both_of : ℕ → ℕ → Sorted → Sorted → Runs
both_of m n a b = record { x = a.first; nx = m; y = b.first; ny = n; out = 0 }

abbrev pub headed : ℕ → ℕ × List ℕ → Out
headed rest m = (record { first = m.0; rest = rest }, m.1)

-- two halves, of which the second is in the store as it is now, are merged
abbrev pub joined : List ℕ → Bool → ℕ → Sorted → Out → Out
joined file up n a b = headed b.0.rest (merge_run file up n b.1 (both_of (n / 2) (n - n / 2) a b.0))

abbrev pub halves : List ℕ → (ℕ → ℕ → List ℕ → Out) → Bool → ℕ → ℕ → List ℕ → Out
halves file rec up first n s = joined file (opposite up) n (rec first (n / 2) s).0 (rec (rec first (n / 2) s).0.rest (n - n / 2) (rec first (n / 2) s).1)

-- the first n nodes of the list that starts at `first`, halved at most so many times
unfoldable pub sort_run : List ℕ → ℕ → Bool → ℕ → ℕ → List ℕ → Out
sort_run file zero up first n s = (lone_of first n s, s)
sort_run file (suc d) up first n s = pick (ltb n 2) (lone_of first n s, s) (halves file (sort_run file d (opposite up)) up first n s)

-- ---- the walk

-- no where two names are equal
abbrev pub unless_equal : Ordering → Bool → Bool
unless_equal Less was = was
unless_equal Equal was = false
unless_equal Greater was = was

unfoldable pub still_of : List ℕ → List ℕ → Bool → ℕ → ℕ → ℕ → Bool
still_of file s was left x next = pick (ltb left 2) was (unless_equal (order_of (compared (name_at file s x) (name_at file s next))) was)

-- one node of a list gets its parent back
unfoldable pub step_of : List ℕ → ℕ → ℕ → List ℕ → Walk → Walk × List ℕ
step_of file me left s w = (record { x = parent_at s w.x; differ = still_of file s w.differ left w.x (parent_at s w.x) }, with_parent s w.x me)

abbrev pub begun : ℕ → Walk
begun first = record { x = first; differ = true }

unfoldable pub walk_run : List ℕ → ℕ → ℕ → List ℕ → Walk → Bool × List ℕ
walk_run file me zero s w = (w.differ, s)
walk_run file me (suc n) s w = walk_run file me n (step_of file me (suc n) s w).1 (step_of file me (suc n) s w).0

-- ---- the list

abbrev pub no_kids : Strung
no_kids = record { first = 0; count = 0 }

-- child `kid` of `me` and those before it are put in front of a list, over at most k children
unfoldable pub strung_from : ℕ → ℕ → ℕ → Strung → List ℕ → Strung × List ℕ
strung_from me zero kid r s = (r, s)
strung_from me (suc k) kid r s = pick (ltb me kid) (strung_from me k (kid_above s me (kid - 1)) (record { first = kid; count = r.count + 1 }) (with_parent s kid r.first)) (r, s)

unfoldable pub strung_kids : ℕ → ℕ → List ℕ → Strung × List ℕ
strung_kids me last s = strung_from me last last no_kids s

-- ---- the whole

abbrev pub released : List ℕ → ℕ → ℕ → Out → Bool × List ℕ
released file me count o = walk_run file me count o.1 (begun o.0.first)

abbrev pub sorted_list : List ℕ → ℕ → Strung × List ℕ → Bool × List ℕ
sorted_list file me l = released file me l.0.count (sort_run file levels true l.0.first l.0.count l.1)

-- the children of `me`, of which `last` is the last, are strung, sorted and looked through
unfoldable pub sorted_differ : List ℕ → ℕ → ℕ → List ℕ → Bool × List ℕ
sorted_differ file me last s = sorted_list file me (strung_kids me last s)
