-- Where the extensions of a file first go wrong; after 01, "When the desk says no": 7, "extension space not exactly filled; offset of fault", and 8, "non-empty `sdir`, other
-- mandatory extension; signature"; "first fault in file order, at one header 7 before 8; 7's offset is the first byte of that header or of the stray bytes". Assumes nothing.
use Rattle.std.specs.Prelude.{ℕ, ◌+◌, ◌<◌, ◌≡◌, refl, List, ◌++◌, ◌⊎◌, length, take}
use Rattle.std.proofs.Common.{sym, ap, ◌∙◌, subst, inl, inr, arith, length-append, take_at}
use Rattle.std.proofs.lemmas.List.{append_cancel_left}
use Rattle.laws.specs.Read.{Got, got, none, Begins, sound, refuses}
use Rattle.laws.specs.Fill.{done, more, Filled, filled, broken}
use Rattle.grammar.specs.Extension.{Ext, Framed, framed, extension_header, Allowed, Extension, Extensions, bytes_of}
use Rattle.grammar.specs.DecideNumber.{big_endian_length}
use Rattle.grammar.proofs.DecideExtension.{read_framed, framed_reads, read_extensions, extensions_accepts, extensions_broken}
use Rattle.grammar.proofs.Unique.{framed_unique}
use Rattle.grammar.specs.Fault.{Fault, stray, refused, Faulty, stray_bytes, refused_extension}

-- ---- extensions are as long as they say

framed_length : {b : List ℕ} {e : Ext} → Framed b e → length b ≡ extension_header + length e.body
framed_length (framed {signature = s} {size = z} {body = d} h x) = omega (arith, length-append s (z ++ d), length-append z d, big_endian_length x)

pub extensions_length : {b : List ℕ} {es : List Ext} → Extensions b es → length b ≡ bytes_of es
extensions_length done = refl
extensions_length (more {b = b} {c = c} x xs) = omega (arith, length-append b c, framed_length x.is_framed, extensions_length xs)

-- ---- what is behind them begins with no extension that may stand

record Broken (xs : List ℕ) (b rest : List ℕ) (es : List Ext) : Type 0 where
  joins : xs ≡ b ++ rest
  stand : Extensions b es
  some_left : 0 < length rest
  no_more : (e : Ext) (q : List ℕ) → ¬ Begins Extension rest e q

breaks : {xs b rest : List ℕ} {es : List Ext} → Broken xs b rest es → read_extensions xs ≡ broken es
breaks {xs} {b} {rest} {es} x = (extensions_broken xs es).1 (b, rest, x.joins, x.stand, x.some_left, x.no_more)

framed_some : {b : List ℕ} {e : Ext} → Framed b e → 0 < length b
framed_some x = omega (arith, framed_length x)

refused_broken : {xs b rest q : List ℕ} {es : List Ext} {e : Ext} → xs ≡ b ++ rest → Extensions b es → Begins Framed rest e q → (Allowed e → ⊥) → Broken xs b rest es
refused_broken {rest = rest} {q} {e = e} i x (c, j, y) a =
    record {
      joins = i;
      stand = x;
      some_left = omega (arith, framed_some y, ap length j, length-append c q);
      no_more = λ d r (c₂, j₂, z). a (subst Allowed (framed_unique rest d e r q (c₂, j₂, z.is_framed) (c, j, y)).0 z.is_allowed);
    }

stray_broken : {xs b rest : List ℕ} {es : List Ext} → xs ≡ b ++ rest → Extensions b es → 0 < length rest → ((e : Ext) (q : List ℕ) → ¬ Begins Framed rest e q) → Broken xs b rest es
stray_broken i x l k = record { joins = i; stand = x; some_left = l; no_more = λ e q (c, j, y). k e q (c, j, y.is_framed) }

-- two ways to break are one
same_break : {xs b c r s : List ℕ} {es fs : List Ext} → Broken xs b r es → Broken xs c s fs → (b ≡ c) × (r ≡ s)
same_break {xs} {b} {c} {r} {s} {es} {fs} x y =
    let f : read_extensions xs ≡ broken es = breaks x in
    let g : read_extensions xs ≡ broken fs = breaks y in
    let e : es ≡ fs = cc in
    let l : length b ≡ length c = extensions_length x.stand ∙ ap bytes_of e ∙ sym (extensions_length y.stand) in
    let i : b ++ r ≡ c ++ s = sym x.joins ∙ y.joins in
    let bc : b ≡ c = sym (take_at b r (length c) l) ∙ ap (λ (a : List ℕ). take (length c) a) i ∙ take_at c s (length c) refl in
    (bc, append_cancel_left b r s (i ∙ ap (λ (a : List ℕ). a ++ s) (sym bc)))

-- ---- THE THEOREMS

-- one fault at most
pub fault_unique : {at : ℕ} {xs : List ℕ} {f g : Fault} → Faulty at xs f → Faulty at xs g → f ≡ g
fault_unique {at} (stray_bytes r i x l k) (stray_bytes r₂ i₂ x₂ l₂ k₂) =
    ap (λ (b : List ℕ). stray (at + length b)) (same_break (stray_broken i x l k) (stray_broken i₂ x₂ l₂ k₂)).0
fault_unique (stray_bytes r i x l k) (refused_extension {e = e} r₂ q i₂ x₂ y a) =
    let (b₌, r₌) = same_break (stray_broken i x l k) (refused_broken i₂ x₂ y a) in
    absurd (k e q (subst (λ (z : List ℕ). Begins Framed z e q) (sym r₌) y))
fault_unique (refused_extension {e = e} r q i x y a) (stray_bytes r₂ i₂ x₂ l₂ k₂) =
    let (b₌, r₌) = same_break (refused_broken i x y a) (stray_broken i₂ x₂ l₂ k₂) in
    absurd (k₂ e q (subst (λ (z : List ℕ). Begins Framed z e q) r₌ y))
fault_unique (refused_extension {e = e} r q i x y a) (refused_extension {e = e₂} r₂ q₂ i₂ x₂ y₂ a₂) =
    let (b₌, r₌) = same_break (refused_broken i x y a) (refused_broken i₂ x₂ y₂ a₂) in
    let s : e ≡ e₂ = (framed_unique r₂ e e₂ q q₂ (subst (λ (z : List ℕ). Begins Framed z e q) r₌ y) y₂).0 in
    ap (λ (z : Ext). refused z.signature) s

-- none where the extensions are spelled
pub fault_not_spelled : {at : ℕ} {xs : List ℕ} {f : Fault} {es : List Ext} → Faulty at xs f → Extensions xs es → ⊥
fault_not_spelled {at} {xs} {es = es} x y = apart (breaks_of x)
  where
    breaks_of : {f : Fault} → Faulty at xs f → (fs : List Ext) × (read_extensions xs ≡ broken fs)
    breaks_of (stray_bytes {es = fs} r i z l k) = (fs, breaks (stray_broken i z l k))
    breaks_of (refused_extension {es = fs} r q i z w a) = (fs, breaks (refused_broken i z w a))

    apart : (fs : List Ext) × (read_extensions xs ≡ broken fs) → ⊥
    apart (fs, e) = let g : read_extensions xs ≡ filled es = (extensions_accepts xs es).1 y in let z : ◌≡◌ {A = ℕ} 0 1 = cc in omega arith

-- and one of the two
pub spelled_or_fault : (at : ℕ) (xs : List ℕ) → ((es : List Ext) × Extensions xs es) ⊎ ((f : Fault) × Faulty at xs f)
spelled_or_fault at xs = go (read_extensions xs) refl
  where
    of : (b rest : List ℕ) (es : List Ext) → xs ≡ b ++ rest → Extensions b es → 0 < length rest → ((e : Ext) (q : List ℕ) → ¬ Begins Extension rest e q) → (g : Got Ext) → read_framed rest ≡ g
        → (f : Fault) × Faulty at xs f
    of b rest es i x l k none e = (stray (at + length b), stray_bytes rest i x l ((refuses framed_reads rest).0 e))
    of b rest es i x l k (got d q) e =
        let (c, j, y) = sound framed_reads rest d q e in
        (refused d.signature, refused_extension rest q i x (c, j, y) (λ a. k d q (c, j, record { is_framed = y; is_allowed = a })))

    go : (f : Filled Ext) → read_extensions xs ≡ f → ((es : List Ext) × Extensions xs es) ⊎ ((f : Fault) × Faulty at xs f)
    go (filled es) e = inl (es, (extensions_accepts xs es).0 e)
    go (broken es) e = let (b, rest, i, x, l, k) = (extensions_broken xs es).0 e in inr (of b rest es i x l k (read_framed rest) refl)
