-- n items, each read in a state that the items before it leave.
use Prim.Native.Nat.{ℕ, zero, suc, ◌<◌}
use Rattle.std.specs.Prelude.{◌≡◌, ◌↔◌}
use Rattle.std.proofs.Math.Path.{refl}
use Rattle.std.proofs.Common.{ap, ◌∙◌, subst}
use mathlib.Core.List.{List, [], ◌∷◌, ◌++◌, append_assoc, append-nil}
use native.Mathlib.Omega.{arith}
use Rattle.laws.specs.Read.{Got, got, none, Begins, Says, spelled, refused, cut, Reads, refuses}

pub data Many (A : Type 0) : Type 0 where
  all : List A → List ℕ → Many A
  stopped : ℕ → List A → Many A

-- THE GRAMMAR
pub data Times {S A : Type 0} (E : S → List ℕ → A → Type 0) (after : S → A → S) : S → ℕ → List ℕ → List A → Type 0 where
  done : {s : S} → Times E after s zero [] []
  more : {s : S} {n : ℕ} {v : A} {vs : List A} {b c : List ℕ} → E s b v → Times E after (after s v) n c vs → Times E after s (suc n) (b ++ c) (v ∷ vs)

-- THE READER
abbrev pub on_item : {A B : Type 0} → Got A → (A → List ℕ → Many B) → Many B
on_item (got a r) k = k a r
on_item none k = stopped zero []

abbrev pub cons : {A : Type 0} → A → Many A → Many A
cons v (all vs r) = all (v ∷ vs) r
cons v (stopped k vs) = stopped (suc k) (v ∷ vs)

module _ {S A : Type 0} (read : S → List ℕ → Got A) (after : S → A → S) where
  unfoldable pub read_times : S → ℕ → List ℕ → Many A
  read_times s zero xs = all [] xs
  read_times s (suc n) xs = on_item (read s xs) (λ v r. cons v (read_times (after s v) n r))

abbrev pub as_got : {A : Type 0} → Many A → Got (List A)
as_got (all vs r) = got vs r
as_got (stopped k vs) = none

abbrev pub later : {S A : Type 0} → (S → A → S) → S → List A → S
later after s [] = s
later after s (v ∷ vs) = later after (after s v) vs

-- the first k can be spelled, and what is left begins with no item
abbrev pub Stops : {S A : Type 0} (E : S → List ℕ → A → Type 0) (after : S → A → S) → S → ℕ → List ℕ → ℕ → List A → Type 0
Stops E after s n xs k vs =
    (k < n) × ((rest : List ℕ) × Begins (Times E after s k) xs vs rest × ((v : _) (q : List ℕ) → ¬ Begins (E (later after s vs)) rest v q))

-- what an answer says
pub data SaysMany {S A : Type 0} (E : S → List ℕ → A → Type 0) (after : S → A → S) (s : S) (n : ℕ) (xs : List ℕ) : Many A → Type 0 where
  whole : {vs : List A} {rest : List ℕ} → Begins (Times E after s n) xs vs rest → SaysMany E after s n xs (all vs rest)
  part : {k : ℕ} {vs : List A} → Stops E after s n xs k vs → SaysMany E after s n xs (stopped k vs)

-- one more at the end, as a loop goes
pub times_snoc : {S A : Type 0} {E : S → List ℕ → A → Type 0} {after : S → A → S} {s : S} {n : ℕ} {b c : List ℕ} {v : A} {vs : List A}
    → Times E after s n b vs → E (later after s vs) c v → Times E after s (suc n) (b ++ c) (vs ++ (v ∷ []))
times_snoc {c = c} done e = rw (← (append-nil c)) (more e done)
times_snoc {c = c} (more {b = b} {c = d} x t) e = rw (append_assoc b d c) (more x (times_snoc t e))

pub later_snoc : {S A : Type 0} (after : S → A → S) (s : S) (vs : List A) (v : A) → later after s (vs ++ (v ∷ [])) ≡ after (later after s vs) v
later_snoc after s [] v = refl
later_snoc after s (w ∷ vs) v = later_snoc after (after s w) vs v

module _ {S A : Type 0} {E : S → List ℕ → A → Type 0} {read : S → List ℕ → Got A} (after : S → A → S) (p : (s : S) → Reads (E s) (read s)) where
  times_complete : {s : S} {n : ℕ} {b : List ℕ} {vs : List A} → Times E after s n b vs → (rest : List ℕ) → read_times read after s n (b ++ rest) ≡ all vs rest
  unfolding read_times
  times_complete done rest = refl
  times_complete {s} (more {c = c} e t) rest = rw (append_assoc, (p s).complete e (c ++ rest), times_complete t rest)

  times_says : (s : S) (n : ℕ) (xs : List ℕ) → SaysMany E after s n xs (read_times read after s n xs)
  unfolding read_times
  times_says s zero xs = whole ([], refl, done)
  times_says s (suc n) xs = go (read s xs) refl ((p s).says xs) (λ v. times_says (after s v) n)
    where
      put : {v : A} {r b : List ℕ} → E s b v → xs ≡ b ++ r → {m : Many A} → SaysMany E after (after s v) n r m → SaysMany E after s (suc n) xs (cons v m)
      put {r = r} {b = b} e i (whole {rest = rest} (c, j, t)) = whole (b ++ c, cut xs b c r rest i j, more e t)
      put {r = r} {b = b} e i (part {k = k} (l, (rest, (c, j, t), q))) = part {k = suc k} (omega arith, (rest, (b ++ c, cut xs b c r rest i j, more e t), q))

      go : (g : Got A) → read s xs ≡ g → Says (E s) xs g → ((v : A) (r : List ℕ) → SaysMany E after (after s v) n r (read_times read after (after s v) n r))
          → SaysMany E after s (suc n) xs (on_item g (λ v r. cons v (read_times read after (after s v) n r)))
      go none x y ih = part {k = 0} (omega arith, (xs, ([], refl, done), (refuses (p s) xs).0 x))
      go (got v r) x (spelled b i e) ih = put e i (ih v r)

  times_stops : {s : S} {k : ℕ} {b : List ℕ} {vs : List A} → Times E after s k b vs → (n : ℕ) → k < n → (rest : List ℕ) → read (later after s vs) rest ≡ none
      → read_times read after s n (b ++ rest) ≡ stopped k vs
  unfolding read_times
  times_stops done zero h rest x = absurd (omega arith)
  times_stops done (suc n) h rest x = rw x
  times_stops (more e t) zero h rest x = absurd (omega arith)
  times_stops {s} (more {c = c} e t) (suc n) h rest x = rw (append_assoc, (p s).complete e (c ++ rest), times_stops t n (omega arith) rest x)

  -- THE THEOREMS
  pub times_accepts : (s : S) (n : ℕ) (xs : List ℕ) (vs : List A) (rest : List ℕ) → (read_times read after s n xs ≡ all vs rest) ↔ Begins (Times E after s n) xs vs rest
  times_accepts s n xs vs rest = ((λ e. to (subst (SaysMany E after s n xs) e (times_says s n xs))), (λ x. ap (read_times read after s n) x.1 ∙ times_complete x.2 rest))
    where
      to : SaysMany E after s n xs (all vs rest) → Begins (Times E after s n) xs vs rest
      to (whole x) = x

  pub times_stopped : (s : S) (n : ℕ) (xs : List ℕ) (k : ℕ) (vs : List A) → (read_times read after s n xs ≡ stopped k vs) ↔ Stops E after s n xs k vs
  times_stopped s n xs k vs = ((λ e. to (subst (SaysMany E after s n xs) e (times_says s n xs))), from)
    where
      to : SaysMany E after s n xs (stopped k vs) → Stops E after s n xs k vs
      to (part x) = x

      from : Stops E after s n xs k vs → read_times read after s n xs ≡ stopped k vs
      from (h, (rest, (b, e, t), q)) = ap (read_times read after s n) e ∙ times_stops t n h rest ((refuses (p _) rest).1 q)

  -- where it does not matter which item is not there
  pub times_reads : (s : S) (n : ℕ) → Reads (Times E after s n) (λ xs. as_got (read_times read after s n xs))
  times_reads s n = record { says = λ xs. go (times_says s n xs); complete = λ t rest. ap as_got (times_complete t rest) }
    where
      go : {xs : List ℕ} {m : Many A} → SaysMany E after s n xs m → Says (Times E after s n) xs (as_got m)
      go (whole (b, e, t)) = spelled b e t
      go (part x) = refused
