-- The head of a node: what `head_at` answers is spelled, and what is spelled is read. Assumes nothing.
use Prim.Native.Nat.{ℕ, ◌+◌, ◌-◌, ◌≤◌, ◌<◌}
use Rattle.std.specs.Prelude.{◌≡◌, Bool, get_or, take, drop, None, Option, Some}
use Rattle.std.proofs.Math.Path.{refl}
use Rattle.std.proofs.Common.{sym, ap, ◌∙◌, subst, arith, length-append, le-ltb}
use mathlib.Core.List.{List, [], ◌∷◌, ◌++◌, append_assoc}
use Rattle.std.proofs.Math.ListN.{length}
use Rattle.std.proofs.lemmas.Bool.{lt-leb}
use Rattle.laws.specs.Pick.{pick}
use Rattle.laws.specs.Lists.{length_part}
use Rattle.laws.specs.Read.{Begins}
use Rattle.laws.specs.Tests.{Less, less, not_less, less?, AtMost, at_most, above, at_most?, Same, same, differs, same?}
use Rattle.node.specs.declared.Node.{Node as Fields}
use Rattle.node.specs.Head.{most_subtrees, minus_one, spaced_at, ended_at, counted_at, named_at, head_at}
use Rattle.grammar.specs.Number.{Count, covers, invalid, Unsigned as UnsignedNumber, Signed as SignedNumber}
use Rattle.grammar.specs.Entry.{NoNul}
use Rattle.grammar.specs.Tree.{Head, Id, of_tree, no_id, NodeHead, node_head}
use Rattle.claims_entries.specs.Place.{Lies, lies_take, lies_left, lies_right, lies_then, lies_part, lies_from, lies_to}
use Rattle.claims_entries.specs.Parts.{SaysNul, ends, never, nul_says, nul_complete}
use Rattle.claims_tree.specs.Place.{part, lies_cons, lies_head, lies_tail}
use Rattle.claims_tree.specs.Digits.{SaysUnsigned, value, bad, unsigned_says, unsigned_complete, Counts, counts_plain, counts_negative, SaysSigned, count, no_count, signed_says, signed_complete}
use Rattle.claims_tree.specs.Rendering.{count_word}
use Rattle.node.specs.declared.Node.{Node}
use Rattle.wire.specs.declared.Signed.{Signed}

-- ---- what stands behind the count: a space, the subtree count, a newline, and an id of so many bytes

data SaysSpaced (s : List ℕ) (at end : ℕ) : Option (ℕ × ℕ) → Type 0 where
  spaced : {w e : ℕ} (k : List ℕ) → Lies s at end (32 ∷ k) → e ≡ at + 1 + length k → UnsignedNumber k w → SaysSpaced s at end (Some (w, e))
  not_spaced : SaysSpaced s at end None

spaced_says : (s : List ℕ) (at end : ℕ) → end ≤ length s → SaysSpaced s at end (spaced_at s at end)
unfolding spaced_at
spaced_says s at end inside = go (at_most? end at) (same? (get_or s at 0) 32) (unsigned_says most_subtrees s (at + 1) end inside)
  where
    of : at < end → get_or s at 0 ≡ 32 → {u : Option (ℕ × ℕ)} → SaysUnsigned most_subtrees s (at + 1) end u → SaysSpaced s at end u
    of h e bad = not_spaced
    of h e (value k l f y m) = spaced k (lies_cons s at end 32 h inside e l) f (record { digits = y; fits = omega arith })

    go : {t v : Bool} {u : Option (ℕ × ℕ)} → AtMost end at t → Same (get_or s at 0) 32 v → SaysUnsigned most_subtrees s (at + 1) end u → SaysSpaced s at end (pick t None (pick v u None))
    go (at_most h) b c = not_spaced
    go (above h) (differs b) c = not_spaced
    go (above h) (same b) c = of h b c

data SaysBehind (s : List ℕ) (at end start stop word bytes : ℕ) : Option Node → Type 0 where
  behind : {subtrees i : ℕ} (k : List ℕ) → UnsignedNumber k subtrees → i ≡ at + 1 + length k + 1 → Lies s at end (32 ∷ (k ++ (10 ∷ take bytes (drop i s)))) → i + bytes ≤ end
      → SaysBehind s at end start stop word bytes (Some (record { start = start; stop = stop; count = word; subtrees = subtrees; id = i; next = i + bytes }))
  nothing : SaysBehind s at end start stop word bytes None

behind_says : (s : List ℕ) (at end start stop word bytes : ℕ) → end ≤ length s → SaysBehind s at end start stop word bytes (ended_at s end start stop word bytes (spaced_at s at end))
unfolding ended_at
behind_says s at end start stop word bytes inside = of (spaced_says s at end inside)
  where
    whole : {w e : ℕ} (k : List ℕ) → Lies s at end (32 ∷ k) → e ≡ at + 1 + length k → UnsignedNumber k w → {t u v : Bool} → AtMost end e t → Same (get_or s e 0) 10 u → Less (end - (e + 1)) bytes v
        → SaysBehind s at end start stop word bytes
        (pick t None (pick u (pick v None (Some (record { start = start; stop = stop; count = word; subtrees = w; id = e + 1; next = e + 1 + bytes }))) None))
    whole k l f y (at_most a) b c = nothing
    whole k l f y (above a) (differs b) c = nothing
    whole k l f y (above a) (same b) (less c) = nothing
    whole {w} {e} k l f y (above a) (same b) (not_less c) =
        let i : e + 1 ≡ at + 1 + length k + 1 = omega arith in
        let id : Lies s (e + 1) end (take bytes (drop (e + 1) s)) = lies_part s (e + 1) end bytes (omega arith) inside in
        let m : Lies s e end (10 ∷ take bytes (drop (e + 1) s)) = lies_cons s e end 10 a inside b id in
        behind k y i (lies_then (32 ∷ k) (10 ∷ take bytes (drop (e + 1) s)) l m (omega arith)) (omega arith)

    of : {u : Option (ℕ × ℕ)} → SaysSpaced s at end u → SaysBehind s at end start stop word bytes (ended_at s end start stop word bytes u)
    of not_spaced = nothing
    of (spaced {e = e} k l f y) = whole k l f y (at_most? end e) (same? (get_or s e 0) 10) (less? (end - (e + 1)) bytes)

-- ---- the head

-- what the fields of a head that was read say
pub record Told (s : List ℕ) (at : ℕ) (h : List ℕ) (v : Head) (m : Fields) : Type 0 where
  pub starts : m.start ≡ at
  pub stops : m.stop ≡ at + length v.name
  pub counts : m.count ≡ count_word v.count
  pub subtrees : m.subtrees ≡ v.subtrees
  pub next : m.next ≡ at + length h
  pub id : take (m.next - m.id) (drop m.id s) ≡ v.id
  pub id_length : m.next - m.id ≡ length v.id
  pub named : take (length v.name) (drop at s) ≡ v.name

data SaysHead (n : ℕ) (s : List ℕ) (at end : ℕ) : Option Node → Type 0 where
  is_head : {m : Fields} (h : List ℕ) (v : Head) → Lies s at end h → NodeHead n h v → Told s at h v m → SaysHead n s at end (Some m)
  nothing : SaysHead n s at end None

-- the id that stands behind a count
data Sized (n : ℕ) : Count → ℕ → ℕ → Type 0 where
  sized : {v : ℕ} → Sized n (covers v) v n
  unsized : Sized n invalid minus_one 0

id_of_lem : {n : ℕ} {c : Count} {word bytes : ℕ} → Sized n c word bytes → (id : List ℕ) → length id ≡ bytes → Id n c id
id_of_lem sized id e = of_tree e
id_of_lem unsized [] e = no_id
id_of_lem unsized (x ∷ id) e = absurd (omega arith)

word_of : {n : ℕ} {c : Count} {word bytes : ℕ} → Sized n c word bytes → word ≡ count_word c
word_of sized = refl
word_of unsized = refl

module _ (n : ℕ) (s : List ℕ) (at end : ℕ) (ahead : at ≤ end) (inside : end ≤ length s) where
  joined : {c : Count} {word bytes stop : ℕ} (name b : List ℕ) → Lies s at end (name ++ (0 ∷ [])) → stop ≡ at + length name → NoNul name → Lies s (stop + 1) end b → SignedNumber b c → Sized n c word bytes
      → {g : Option Node} → SaysBehind s (stop + 1 + length b) end at stop word bytes g → SaysHead n s at end g
  joined name b l e y m z w nothing = nothing
  joined {c} {word} {bytes} {stop} name b l e y m z w (behind {subtrees = subtrees} {i = i} k u f o j) =
      let id : List ℕ = take bytes (drop i s) in
      let li : length id ≡ bytes = length_part bytes i s (omega arith) in
      let tail : List ℕ = b ++ (32 ∷ (k ++ (10 ∷ id))) in
      let p : Lies s (stop + 1) end tail = lies_then b (32 ∷ (k ++ (10 ∷ id))) m o refl in
      let q : Lies s at end ((name ++ (0 ∷ [])) ++ tail) = lies_then (name ++ (0 ∷ [])) tail l p (omega (arith, length-append name (0 ∷ []))) in
      let whole : Lies s at end (name ++ (0 ∷ tail)) = subst (λ (x : List ℕ). Lies s at end x) (append_assoc name (0 ∷ []) tail) q in
      let sub : i + bytes - i ≡ bytes = omega arith in
      let ends : i + bytes ≡ at + length (name ++ (0 ∷ tail)) = omega (arith, length-append name (0 ∷ tail), length-append b (32 ∷ (k ++ (10 ∷ id))), length-append k (10 ∷ id)) in
      is_head (name ++ (0 ∷ tail)) (record { name = name; count = c; subtrees = subtrees; id = id }) whole (node_head y z u (id_of_lem w id li))
      (record {
        starts = refl;
        stops = e;
        counts = word_of w;
        subtrees = refl;
        next = ends;
        id = ap (λ (x : ℕ). take x (drop i s)) sub;
        id_length = sub ∙ sym li;
        named = lies_take (lies_left name (0 ∷ tail) whole);
      })

  head_says : SaysHead n s at end (head_at n s at end)
  unfolding head_at named_at counted_at
  head_says = rw (le-ltb (length s) end inside) (of (nul_says s at end ahead))
    where
      counted : {stop : ℕ} (name : List ℕ) → Lies s at end (name ++ (0 ∷ [])) → stop ≡ at + length name → NoNul name → {g : Option (Signed × ℕ)} → SaysSigned s (stop + 1) end g → SaysHead n s at end (counted_at n s end at stop g)
      counted name l e y no_count = nothing
      counted {stop} name l e y (count b m z k) = by b m z k
        where
          by : (b : List ℕ) {c : Count} {g : Option (Signed × ℕ)} → Lies s (stop + 1) end b → SignedNumber b c → Counts c (stop + 1 + length b) g → SaysHead n s at end (counted_at n s end at stop g)
          by b m z counts_plain = joined name b l e y m z sized (behind_says s (stop + 1 + length b) end at stop _ n inside)
          by b m z counts_negative = joined name b l e y m z unsized (behind_says s (stop + 1 + length b) end at stop minus_one 0 inside)

      of : {g : Option ℕ} → SaysNul s at end g → SaysHead n s at end (named_at n s end at g)
      of never = nothing
      of (ends {z = stop} name l e y) = counted name l e y (signed_says s (stop + 1) end inside)

-- ---- what is spelled is read

behind_complete : {k : List ℕ} (id : List ℕ) {w : ℕ} → UnsignedNumber k w → (s : List ℕ) (at end start stop word bytes : ℕ) → Lies s at end (32 ∷ (k ++ (10 ∷ id))) → length id ≡ bytes
    → (m : Fields) × (ended_at s end start stop word bytes (spaced_at s at end) ≡ Some m)
unfolding ended_at spaced_at
behind_complete {k} id {w} u s at end start stop word bytes l e =
    let l₁ : Lies s (at + 1) end (k ++ (10 ∷ id)) = lies_tail l in
    let l₂ : Lies s (at + 1 + length k) end (10 ∷ id) = lies_right k (10 ∷ id) l₁ in
    let a : at < end = omega (arith, l.fits) in
    let b : at + 1 + length k < end = omega (arith, l₂.fits) in
    let c : bytes ≤ end - (at + 1 + length k + 1) = omega (arith, l₂.fits) in (
      record { start = start; stop = stop; count = word; subtrees = w; id = at + 1 + length k + 1; next = at + 1 + length k + 1 + bytes },
      rw (lt-leb end at a, lies_head l, unsigned_complete u.digits most_subtrees (omega (arith, u.fits)) 10 (omega arith) id l₁, lt-leb end (at + 1 + length k) b, lies_head l₂, le-ltb (end - (at + 1 + length k + 1)) bytes c),
    )

module _ (n : ℕ) (s : List ℕ) (at end : ℕ) (inside : end ≤ length s) where
  head_complete : {h : List ℕ} {v : Head} → NodeHead n h v → Lies s at end h → (m : Fields) × (head_at n s at end ≡ Some m)
  unfolding head_at named_at counted_at
  head_complete (node_head {name = name} {c = c} {k = k} {id = id} x y z w) l =
      let stop : ℕ = at + length name in
      let tail : List ℕ = c ++ (32 ∷ (k ++ (10 ∷ id))) in
      let l₁ : Lies s (stop + 1) end tail = lies_tail (lies_right name (0 ∷ tail) l) in
      let l₂ : Lies s (stop + 1 + length c) end (32 ∷ (k ++ (10 ∷ id))) = lies_right c (32 ∷ (k ++ (10 ∷ id))) l₁ in
      rw (le-ltb (length s) end inside, nul_complete x tail l) (of stop id z l₂ w (signed_complete y 32 (omega arith) (k ++ (10 ∷ id)) l₁))
    where
      of : (stop : ℕ) {q subtrees : ℕ} {k : List ℕ} (id : List ℕ) {count : Count} {g : Option (Signed × ℕ)} → UnsignedNumber k subtrees → Lies s q end (32 ∷ (k ++ (10 ∷ id))) → Id n count id → Counts count q g
          → (m : Fields) × (counted_at n s end at stop g ≡ Some m)
      of stop {q} id u l (of_tree e) counts_plain = behind_complete id u s q end at stop _ n l e
      of stop {q} id u l no_id counts_negative = behind_complete id u s q end at stop minus_one 0 l refl

-- ---- THE VIEW

pub data HeadSaid (n : ℕ) (s : List ℕ) (at end : ℕ) : Option Node → Type 0 where
  head_there : {m : Fields} (h : List ℕ) (v : Head) → at + length h ≤ end → part s at end ≡ h ++ part s (at + length h) end → NodeHead n h v → Told s at h v m → HeadSaid n s at end (Some m)
  head_missing : ((v : Head) (rest : List ℕ) → ¬ Begins (NodeHead n) (part s at end) v rest) → HeadSaid n s at end None

pub head_said : (n : ℕ) (s : List ℕ) (at end : ℕ) → at ≤ end → end ≤ length s → HeadSaid n s at end (head_at n s at end)
head_said n s at end ahead inside = go (head_at n s at end) refl (head_says n s at end ahead inside)
  where
    go : (g : Option Node) → head_at n s at end ≡ g → SaysHead n s at end g → HeadSaid n s at end g
    go g e (is_head h v l u t) = head_there h v l.fits (lies_to s at end h ahead inside l) u t
    go g e nothing = head_missing (λ v rest (h, i, u).
        let (m, f) = head_complete n s at end inside u (lies_from s at end h rest ahead inside i) in
        let z : ◌≡◌ {A = ℕ} 0 1 = cc in
        omega arith)
