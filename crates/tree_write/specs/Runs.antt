-- The children of a node from the last to the first (01, Writing: "siblings in byte order of name"), as runs of rising names in a table in walk order: where
-- every child that is left stands in a run whose tail is kept, the last child is the last of the tails. Assumes nothing.
use Rattle.std.specs.Prelude.{Bool, true, false, ◌≡◌, List, ℕ, ◌-◌, ◌≤◌, ◌<◌, eqb, length, get_or, set, Option, IfSome, MatchOption}
use Rattle.laws.specs.Pick.{pick}
use Rattle.node.specs.Store.{nodes_in, parent_at}
use Rattle.walk_order.specs.Walk.{kid_above}
use Rattle.tree_write.specs.declared.runs.Kid.{Kid}
use Rattle.tree_write.specs.Order.{before}
use Rattle.tree_write.specs.Tree.{after, ahead}
use Rattle.tree_write.specs.Span.{Span}

-- ---- the last child before a bound

-- a child of p that comes before the bound; 0 is no bound
pub record Early (ns nm : List ℕ) (p bound i : ℕ) : Type 0 where
  pub real : 0 < i
  pub inside : i < nodes_in ns
  pub child : parent_at ns i ≡ p
  pub early : ahead ns nm i bound ≡ true

-- none of them is left
abbrev pub NoneLeft : List ℕ → List ℕ → ℕ → ℕ → Type 0
NoneLeft ns nm p bound = (i : ℕ) → Early ns nm p bound i → ⊥

-- k is the last of them by name
pub record Last (ns nm : List ℕ) (p bound k : ℕ) : Type 0 where
  pub early : Early ns nm p bound k
  pub last : (i : ℕ) → Early ns nm p bound i → before ns nm k i ≡ true → ⊥

-- the same, and what stands below it ends where it is said
pub record Found (ns nm : List ℕ) (p bound : ℕ) (kid : Kid) : Type 0 where
  pub last : Last ns nm p bound kid.node
  pub span : Span ns kid.node kid.end

-- it is found, or none is left
abbrev pub Finds : List ℕ → List ℕ → ℕ → ℕ → Option Kid → Type 0
Finds ns nm p bound o = MatchOption o (NoneLeft ns nm p bound) (Found ns nm p bound)

-- child c comes before the bound and after the last one so far
unfoldable pub between : List ℕ → List ℕ → ℕ → ℕ → ℕ → Bool
between ns nm kid c bound = pick (ahead ns nm c bound) (after ns nm kid c) false

-- ---- a run

-- child c goes on the run that begins with e; at the end there is none yet
unfoldable pub goes_on : List ℕ → List ℕ → ℕ → ℕ → ℕ → Bool
goes_on ns nm c e end = pick (eqb e end) false (before ns nm c e)

-- the child that comes before x in its run, or 0: the child of p before it, if it comes before x by name too
unfoldable pub lead : List ℕ → List ℕ → ℕ → ℕ → ℕ
lead ns nm p x = pick (eqb (kid_above ns p (x - 1)) 0) 0 (pick (before ns nm (kid_above ns p (x - 1)) x) (kid_above ns p (x - 1)) 0)

-- j stands in the run that ends with x
pub data Run (ns nm : List ℕ) (p : ℕ) : ℕ → ℕ → Type 0 where
  ends : {x : ℕ} → Run ns nm p x x
  goes : {x j : ℕ} → (lead ns nm p x ≡ 0 → ⊥) → Run ns nm p (lead ns nm p x) j → Run ns nm p x j

-- the tail at a place, 0 where none is left of its run, and where what stands below it ends
abbrev pub nobody : Kid
nobody = record { node = 0; end = 0 }

abbrev pub tail_at : List Kid → ℕ → ℕ
tail_at tails i = (get_or tails i nobody).node

abbrev pub stop_at : List Kid → ℕ → ℕ
stop_at tails i = (get_or tails i nobody).end

-- j stands in a run whose tail is kept
pub record Tailed (ns nm : List ℕ) (p used : ℕ) (tails : List Kid) (j : ℕ) : Type 0 where
  pub place : ℕ
  pub low : place < used
  pub some : tail_at tails place ≡ 0 → ⊥
  pub run : Run ns nm p (tail_at tails place) j

-- each run stands before the one whose tail is kept before its own
abbrev pub Apart : List ℕ → List ℕ → ℕ → ℕ → List Kid → Type 0
Apart ns nm p used tails = (i j x : ℕ) → i < j → j < used → (tail_at tails i ≡ 0 → ⊥) → (tail_at tails j ≡ 0 → ⊥) → Run ns nm p (tail_at tails i) x → tail_at tails j < x

-- the tails are children of p before the bound, and every such child stands in a run of theirs
pub record Covers (ns nm : List ℕ) (p bound : ℕ) (tails : List Kid) (used : ℕ) : Type 0 where
  pub few : used ≤ length tails
  pub live : (i : ℕ) → i < used → (tail_at tails i ≡ 0 → ⊥) → Early ns nm p bound (tail_at tails i) × Span ns (tail_at tails i) (stop_at tails i)
  pub whole : (j : ℕ) → Early ns nm p bound j → Tailed ns nm p used tails j
  pub apart : Apart ns nm p used tails

-- what is known of the tails between two children: nothing, where there is no number of runs
abbrev pub Ready : List ℕ → List ℕ → ℕ → ℕ → Option ℕ → List Kid → Type 0
Ready ns nm p bound runs tails = IfSome runs (Covers ns nm p bound tails)

-- ---- the last tail

-- a tail comes after the last one so far
unfoldable pub later : List ℕ → List ℕ → ℕ → ℕ → Bool
later ns nm kid tail = pick (eqb tail 0) false (after ns nm kid tail)

-- no run has a child left
abbrev pub AllDead : ℕ → List Kid → Type 0
AllDead used tails = (i : ℕ) → i < used → tail_at tails i ≡ 0

-- at this place stands a tail that comes before no other
pub record Greatest (ns nm : List ℕ) (used : ℕ) (tails : List Kid) (place : ℕ) : Type 0 where
  pub low : place < used
  pub live : tail_at tails place ≡ 0 → ⊥
  pub last : (i : ℕ) → i < used → (tail_at tails i ≡ 0 → ⊥) → before ns nm (tail_at tails place) (tail_at tails i) ≡ true → ⊥

-- ---- a step

-- this tail is the last one, and is taken: in its place stands the child before it in its run, with where what stands below that ends
pub record Step (ns nm : List ℕ) (p used : ℕ) (tails tails₁ : List Kid) (kid : Kid) : Type 0 where
  pub place : ℕ
  pub greatest : Greatest ns nm used tails place
  pub taken : kid ≡ get_or tails place nobody
  pub moved : tails₁ ≡ set tails place (record { node = lead ns nm p (tail_at tails place); end = tail_at tails place })

abbrev pub Stepped : List ℕ → List ℕ → ℕ → ℕ → List Kid → List Kid → Option Kid → Type 0
Stepped ns nm p used tails tails₁ o = MatchOption o (AllDead used tails) (Step ns nm p used tails tails₁)

-- what is known of a child that was taken
pub record Taken (ns nm : List ℕ) (p bound : ℕ) (runs : Option ℕ) (tails : List Kid) (kid : Kid) : Type 0 where
  pub found : Found ns nm p bound kid
  pub ready : Ready ns nm p kid.node runs tails

-- one is taken, or none is left
abbrev pub Takes : List ℕ → List ℕ → ℕ → ℕ → Option ℕ → List Kid → Option Kid → Type 0
Takes ns nm p bound runs tails o = MatchOption o (NoneLeft ns nm p bound) (Taken ns nm p bound runs tails)
