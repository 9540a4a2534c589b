-- HOW A LIST IN A STORE IS DESCRIBED. `Chain s f ids`: the list that starts at node f in the store s has the nodes `ids`, in this order. The parent of each names
-- the next; that of the last is of no account, since the code counts its lists. So there is no end mark, and a list of no nodes may start anywhere.
-- WHICH LAWS CARRY THE PROOF. A chain depends on the parents of its own nodes only (`chain_kept`). A parent that is set, of a node x, therefore keeps every list
-- that x is not in (`other_kept`), and puts x in front of one (`in_front`). That x is in no other list comes from the order: all lists are in a strict order of
-- nodes (`Rising`), which nothing stands in to itself. So the merge (Merge) needs no parts of lists: it takes the less of two first nodes and puts it in front of
-- those that were taken, which are in the opposite order; the sort (Sorting) merges two parts of a list; the walk (Walked) takes each node for the last time,
-- gives it its parent back, and sees two equal names side by side. Assumes nothing.
use Rattle.std.specs.Prelude.{◌≡◌, refl, ◌⊎◌, List, [], ◌∷◌, ◌++◌, ℕ, ◌^◌, ◌<◌, length}
use Rattle.std.proofs.Common.{sym, ◌∙◌, subst, inl, inr, ⊎_elim, arith}
use Rattle.node.specs.Store.{nodes_in, parent_at, name_at, with_parent}
use Rattle.node.specs.Parents.{with_long, parent_other, parent_same, Alike, alike_name}

pub data Mem (x : ℕ) : List ℕ → Type 0 where
  here : {xs : List ℕ} → Mem x (x ∷ xs)
  there : {y : ℕ} {xs : List ℕ} → Mem x xs → Mem x (y ∷ xs)

-- each stands in R to every later one
pub data Rising (R : ℕ → ℕ → Type 0) : List ℕ → Type 0 where
  done : Rising R []
  more : {x : ℕ} {xs : List ℕ} → ((y : ℕ) → Mem y xs → R x y) → Rising R xs → Rising R (x ∷ xs)

pub data Chain (s : List ℕ) : ℕ → List ℕ → Type 0 where
  end : {f : ℕ} → Chain s f []
  link : {x : ℕ} {l : List ℕ} → x < nodes_in s → Chain s (parent_at s x) l → Chain s x (x ∷ l)

-- ---- members

pub mem_long : {i : ℕ} {l : List ℕ} → Mem i l → 0 < length l
mem_long here = omega arith
mem_long (there m) = omega arith

pub no_mem : {i : ℕ} → Mem i [] → ⊥
no_mem m = let h : 0 < 0 = mem_long m in omega arith

-- ---- stores

-- a store whose names are K, and whose nodes have numbers that a parent can hold
pub record Spells (file : List ℕ) (K : ℕ → List ℕ) (s : List ℕ) : Type 0 where
  pub names : (i : ℕ) → name_at file s i ≡ K i
  pub sized : length s < 256 ^ 8

pub spells_on : {file : List ℕ} {K : ℕ → List ℕ} {s t : List ℕ} → Alike s t → Spells file K s → Spells file K t
spells_on {file} a k = record { names = λ i. alike_name a i file ∙ k.names i; sized = let e = a.long in let h = k.sized in omega arith }

-- ---- lists

-- a list that is not empty starts at its first
pub record Opened (s : List ℕ) (f : ℕ) (l : List ℕ) : Type 0 where
  pub rest : List ℕ
  pub is : l ≡ f ∷ rest
  pub inside : f < nodes_in s
  pub goes : Chain s (parent_at s f) rest

pub opened : {s : List ℕ} {f : ℕ} {l : List ℕ} → Chain s f l → 0 < length l → Opened s f l
opened end h = absurd (omega arith)
opened (link {l = l} h c) p = record { rest = l; is = refl; inside = h; goes = c }

-- where the parents of its nodes stay, a list stays
pub chain_kept : {s : List ℕ} {f : ℕ} {l : List ℕ} (t : List ℕ) → length t ≡ length s → ((i : ℕ) → Mem i l → parent_at t i ≡ parent_at s i) → Chain s f l → Chain t f l
chain_kept t e k end = end
chain_kept {s} t e k (link {x = x} {l = l} h c) =
    let g : x < nodes_in t = rw e h in
    link {x = x} g (subst (λ (f : ℕ). Chain t f l) (sym (k x here)) (chain_kept t e (λ i m. k i (there m)) c))

-- a parent that is set, of a node that is not in the list
pub other_kept : {s : List ℕ} {f : ℕ} {l : List ℕ} (x o : ℕ) → (Mem x l → ⊥) → Chain s f l → Chain (with_parent s x o) f l
other_kept {s} {f} {l} x o n c = chain_kept (with_parent s x o) (with_long s x o) (λ i m. parent_other s x o i (λ e. n (subst (λ (z : ℕ). Mem z l) e m))) c

-- a node is put in front of a list
pub in_front : {s : List ℕ} {l : List ℕ} (x o : ℕ) → length s < 256 ^ 8 → x < nodes_in s → (Mem x l → ⊥) → Chain s o l → Chain (with_parent s x o) x (x ∷ l)
in_front {s} x o z h n end = link {x = x} (rw (with_long s x o) h) end
in_front {s} x o z h n (link {l = l} g c) =
    let small : o < 256 ^ 8 = omega arith in
    link {x = x} (rw (with_long s x o) h) (subst (λ (f : ℕ). Chain (with_parent s x o) f (o ∷ l)) (sym (parent_same s x o h small)) (other_kept x o n (link g c)))

-- ---- order

pub rising_as : {R S : ℕ → ℕ → Type 0} {l : List ℕ} → ((x y : ℕ) → R x y → S x y) → Rising R l → Rising S l
rising_as f done = done
rising_as f (more {x = x} h r) = more (λ y m. f x y (h y m)) (rising_as f r)

pub rising_first : {R : ℕ → ℕ → Type 0} {x : ℕ} {l : List ℕ} → Rising R (x ∷ l) → (y : ℕ) → Mem y l → R x y
rising_first (more h r) = h

pub rising_rest : {R : ℕ → ℕ → Type 0} {x : ℕ} {l : List ℕ} → Rising R (x ∷ l) → Rising R l
rising_rest (more h r) = r

-- the first of a list comes before the others
pub lead : {R : ℕ → ℕ → Type 0} {s : List ℕ} {f : ℕ} {l : List ℕ} → Chain s f l → Rising R l → (i : ℕ) → Mem i l → (i ≡ f) ⊎ R f i
lead end r i m = absurd (no_mem m)
lead (link h c) (more g r) i here = inl refl
lead (link h c) (more g r) i (there m) = inr (g i m)

-- of two in a rising list one comes before the other
pub rising_pair : {R : ℕ → ℕ → Type 0} {l : List ℕ} → Rising R l → (i j : ℕ) → Mem i l → Mem j l → (i ≡ j) ⊎ (R i j ⊎ R j i)
rising_pair done i j m n = elim m [ ]
rising_pair (more h r) i j here here = inl refl
rising_pair (more h r) i j here (there m) = inr (inl (h j m))
rising_pair (more h r) i j (there m) here = inr (inr (h i m))
rising_pair (more h r) i j (there m) (there n) = rising_pair r i j m n

-- ---- two lists side by side

pub mem_left : {i : ℕ} {a : List ℕ} (b : List ℕ) → Mem i a → Mem i (a ++ b)
mem_left b here = here
mem_left b (there m) = there (mem_left b m)

pub mem_right : {i : ℕ} (a : List ℕ) {b : List ℕ} → Mem i b → Mem i (a ++ b)
mem_right [] m = m
mem_right (x ∷ a) m = there (mem_right a m)

pub mem_cases : {i : ℕ} (a b : List ℕ) → Mem i (a ++ b) → Mem i a ⊎ Mem i b
mem_cases [] b m = inr m
mem_cases (x ∷ a) b here = inl here
mem_cases (x ∷ a) b (there m) = ⊎_elim (λ n. inl (there n)) (λ n. inr n) (mem_cases a b m)

module _ {R : ℕ → ℕ → Type 0} where
  pub rising_left : (a b : List ℕ) → Rising R (a ++ b) → Rising R a
  rising_left [] b r = done
  rising_left (x ∷ a) b (more h r) = more (λ y m. h y (mem_left b m)) (rising_left a b r)

  pub rising_right : (a b : List ℕ) → Rising R (a ++ b) → Rising R b
  rising_right [] b r = r
  rising_right (x ∷ a) b (more h r) = rising_right a b r

  pub rising_across : (a b : List ℕ) → Rising R (a ++ b) → (i j : ℕ) → Mem i a → Mem j b → R i j
  rising_across [] b r i j m n = elim m [ ]
  rising_across (x ∷ a) b (more h r) i j here n = h j (mem_right a n)
  rising_across (x ∷ a) b (more h r) i j (there m) n = rising_across a b r i j m n
