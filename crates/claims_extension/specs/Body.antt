-- Where the body of an extension lies, by the grammar alone: the body that counts is the bytes of the file at its place. Assumes nothing.
use Rattle.std.specs.Prelude.{ℕ, ◌+◌, ◌-◌, ◌≤◌, ◌≡◌, refl, List, [], ◌∷◌, ◌++◌, length, take, drop}
use Rattle.std.proofs.Common.{sym, ap, ◌∙◌, subst, append_assoc, arith, length-append, length-drop, drop_at, drop-drop, take_at, take-add, take-take, length-take-le}
use Rattle.laws.specs.Fill.{done, more}
use Rattle.grammar.specs.Extension.{Ext, Framed, framed, extension_header, Extensions, bytes_of, LastSigned, last_signed}
use Rattle.grammar.specs.Fault.{refused, Faulty, refused_extension}
use Rattle.grammar.proofs.Fault.{extensions_length}
use Rattle.grammar.specs.DecideNumber.{big_endian_length}
use Rattle.claims_entries.specs.Rendering.{Bytes}
use Rattle.claims_entries.proofs.Fields.{bytes_left, bytes_right}
use Rattle.claims_extension.specs.Words.{FourBytes}
use Rattle.claims_extension.specs.Said.{extensions_space}

-- xs, which begins at one place, has the body at another
record Within (at : ℕ) (xs : List ℕ) (place : ℕ) (body : List ℕ) : Type 0 where
  front : List ℕ
  rest : List ℕ
  joins : xs ≡ front ++ (body ++ rest)
  place_is : at + length front ≡ place

framed_within : {b : List ℕ} {e : Ext} → Framed b e → (at : ℕ) (c : List ℕ) → Within at (b ++ c) (at + extension_header) e.body
framed_within (framed {signature = s} {size = z} {body = d} h x) at c =
    record {
      front = s ++ z;
      rest = c;
      joins = append_assoc s (z ++ d) c ∙ ap (λ (l : List ℕ). s ++ l) (append_assoc z d c) ∙ sym (append_assoc s z (d ++ c));
      place_is = omega (arith, length-append s z, big_endian_length x);
    }

within : (before : List Ext) (e : Ext) (behind : List Ext) {xs : List ℕ} {es : List Ext} → Extensions xs es → es ≡ before ++ (e ∷ behind) → (at : ℕ)
    → Within at xs (at + bytes_of before + extension_header) e.body
within [] e behind done i at = cc
within (d ∷ before) e behind done i at = cc
within [] e behind (more {v = v} {b = b} {c = c} x y) i at =
    let j : v ≡ e = cc in
    let z : at + extension_header ≡ at + 0 + extension_header = omega arith in
    let w : Within at (b ++ c) (at + extension_header) v.body = framed_within x.is_framed at c in
    subst (λ (a : Ext). Within at (b ++ c) (at + 0 + extension_header) a.body) j (subst (λ (n : ℕ). Within at (b ++ c) n v.body) z w)
within (d ∷ before) e behind (more {v = v} {vs = vs} {b = b} {c = c} x y) i at =
    let j : v ≡ d = cc in
    let k : vs ≡ before ++ (e ∷ behind) = cc in
    let l : length b ≡ extension_header + length d.body =
    omega (arith, length-append b [], extensions_length (more x done), ap (λ (a : Ext). length a.body) j) in
    let w = within before e behind y k (at + length b) in
    record {
      front = b ++ w.front;
      rest = w.rest;
      joins = ap (λ (a : List ℕ). b ++ a) w.joins ∙ sym (append_assoc b w.front (e.body ++ w.rest));
      place_is = omega (arith, length-append b w.front, w.place_is);
    }

-- the bytes of a file from a place on, before `end`
pub record BodyAt (s : List ℕ) (end place : ℕ) (body : List ℕ) : Type 0 where
  pub fits : place + length body ≤ end
  pub is : drop place (take (place + length body) s) ≡ body

pub body_at : {signature : List ℕ} {place : ℕ} {body : List ℕ} {es : List Ext} (s : List ℕ) (from end : ℕ) → from ≤ end → end ≤ length s → Extensions (extensions_space s from end) es
    → LastSigned signature from es place body → BodyAt s end place body
body_at s from end ahead inside x lies = go from ahead x lies
  where
    go : (from : ℕ) {signature : List ℕ} {place : ℕ} {body : List ℕ} {es : List Ext} → from ≤ end → Extensions (extensions_space s from end) es → LastSigned signature from es place body → BodyAt s end place body
    go from ahead x (last_signed before {e = e} behind i signed none) =
        let w = within before e behind x i from in
        let d : List ℕ = e.body in
        let place : ℕ = from + bytes_of before + extension_header in
        let p : from + length w.front ≡ from + bytes_of before + extension_header = w.place_is in
        let l : length (take end s) ≡ end = length-take-le end s inside in
        let n : length (drop from (take end s)) ≡ end - from = length-drop from (take end s) ∙ ap (λ (j : ℕ). j - from) l in
        let m : length (drop from (take end s)) ≡ length w.front + length e.body + length w.rest =
        ap length w.joins ∙ length-append w.front (d ++ w.rest) ∙ omega (arith, length-append d w.rest) in
        let h : from + bytes_of before + extension_header + length e.body ≤ end = omega arith in
        let there : drop place (take end s) ≡ d ++ w.rest =
        ap (λ (j : ℕ). drop j (take end s)) (sym p) ∙ sym (drop-drop (length w.front) from (take end s)) ∙ ap (λ (a : List ℕ). drop (length w.front) a) w.joins
        ∙ drop_at w.front (d ++ w.rest) (length w.front) refl in
        let cuts : take (place + length d) s ≡ take place (take end s) ++ d =
        sym (take-take (place + length d) end s h) ∙ take-add place (length d) (take end s) ∙ ap (λ (a : List ℕ). take place (take end s) ++ a) (ap (λ (a : List ℕ). take (length d) a) there ∙ take_at d w.rest (length d) refl) in
        record { fits = h; is = ap (λ (a : List ℕ). drop place a) cuts ∙ drop_at (take place (take end s)) d place (length-take-le place (take end s) (omega arith)) }

-- a signature that is refused is four bytes of the space
framed_signature : {b : List ℕ} {e : Ext} → Framed b e → (c : List ℕ) → Bytes (b ++ c) → FourBytes e.signature
framed_signature (framed {signature = s} {size = z} {body = d} h x) c k = record { four = h; small = bytes_left s (z ++ d) (bytes_left (s ++ (z ++ d)) c k) }

pub refused_is_four_bytes : {at : ℕ} {xs signature : List ℕ} → Bytes xs → Faulty at xs (refused signature) → FourBytes signature
refused_is_four_bytes k (refused_extension {b = b} rest q i x (c, j, y) a) = framed_signature y q (subst Bytes j (bytes_right b rest (subst Bytes i k)))
