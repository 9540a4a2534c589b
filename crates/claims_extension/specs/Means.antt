-- What the extensions that the walk finds mean in the grammar: an extension that stands at a place is framed there, one that is forbidden is one that may not stand, and the
-- chain from a place on fills the space, or is faulty where it breaks off or has a forbidden one. Assumes that the file is bytes and that the space lies in it.
use Rattle.std.specs.Prelude.{ℕ, ◌+◌, ◌-◌, ◌≤◌, ◌<◌, ◌≡◌, refl, Bool, true, false, List, [], ◌∷◌, ◌++◌, length, get_or, take, drop, None, Option, Some}
use Rattle.std.proofs.Common.{sym, ap, ◌∙◌, subst, append_assoc, ⊎_elim, arith, length-append, length-drop, take-append-drop, drop-drop, take_at, drop_at, length-take-le}
use Rattle.std.proofs.Math.Seq.{drop-length}
use Rattle.laws.specs.Pick.{pick}
use Rattle.laws.specs.Tests.{Less, less, not_less, less?, Same, same, differs, same?, lt_or_ge}
use Rattle.laws.specs.Read.{Begins, cut}
use Rattle.laws.specs.Fill.{done, more}
use Rattle.laws.specs.Lists.{length_part}
use Rattle.wire.specs.BigEndian.{be_at}
use Rattle.wire.specs.Places.{file_at}
use Rattle.wire.specs.declared.FileAt.{FileAt}
use Rattle.extension.specs.Signatures as reader
use Rattle.extension.specs.Iter.{Found, filled, stray, body_of}
use Rattle.extension.specs.Decode.{forbidden, is_forbidden, optional as optionalFirst}
use Rattle.extension.specs.Theorems.{Fits, Stands, Chain, chain_filled, chain_stray, chain_more}
use Rattle.extension.proofs.Filling as filling
use Rattle.grammar.specs.Number.{big_endian, BigEndian, big_endian_lem}
use Rattle.grammar.specs.Extension.{Ext, ext, Framed, framed, extension_header, Mandatory, sdir, Allowed, optional, empty_sdir, Extension, Extensions, NoneSigned, none_left, another, bytes_of, LastSigned, last_signed}
use Rattle.grammar.specs.Fault as fault
use Rattle.grammar.specs.Fault.{Faulty, stray_bytes, refused_extension}
use Rattle.grammar.specs.File.{Tells, it_is, it_is_not}
use Rattle.grammar.specs.DecideNumber.{big_endian_length}
use Rattle.grammar.proofs.DecideExtension.{is_optional, OptionalOrNot, is_optional_lem, is_mandatory, optional?}
use Rattle.claims_entries.specs.Rendering.{Bytes}
use Rattle.claims_entries.proofs.Fields.{bytes_left}
use Rattle.claims_extension.specs.Words.{bytes_within, FourBytes, signature_injective, big_endian_before, big_endian_value, first_byte_lem, sdir_bytes}
use Rattle.claims_extension.specs.Said.{HasSdir, SaysBody, says_missing, says_lies, last_is_some, none_is_some}
use Rattle.extension.specs.Made.{body_between}
use Rattle.extension.specs.declared.iter.Body.{Body}

-- ---- which may stand

-- an extension that was found, which begins at a place, and one of the grammar say the same
pub record SameExtension (at : ℕ) (f : Found) (e : Ext) : Type 0 where
  pub named : f.signature ≡ big_endian e.signature
  pub four : FourBytes e.signature
  pub starts : f.start ≡ file_at (at + extension_header)
  pub stops : f.stop ≡ file_at (at + extension_header + length e.body)

pub data Judged (e : Ext) : Bool → Type 0 where
  may_stand : Allowed e → Judged e false
  may_not : (Allowed e → ⊥) → Judged e true

must_be_sdir : {e : Ext} → Mandatory e.signature → Allowed e → (e.signature ≡ sdir) × (e.body ≡ [])
must_be_sdir m (optional o) = absurd (m o)
must_be_sdir m empty_sdir = (refl, refl)

no_bytes_lem : (b : List ℕ) → length b ≤ 0 → b ≡ []
no_bytes_lem [] h = refl
no_bytes_lem (c ∷ b) h = absurd (omega arith)

pub judged : {at : ℕ} {f : Found} {e : Ext} → SameExtension at f e → Judged e (is_forbidden f)
unfolding forbidden is_optional
judged {at} {f} {e} x =
    let p : f.start.0 ≡ at + extension_header = ap (λ (y : FileAt). y.0) x.starts in
    let q : f.stop.0 ≡ at + extension_header + length e.body = ap (λ (y : FileAt). y.0) x.stops in
    let first : get_or e.signature 0 0 ≡ reader.first_byte f.signature = sym (ap reader.first_byte x.named ∙ first_byte_lem x.four) in
    let o : OptionalOrNot e.signature (optionalFirst (reader.first_byte f.signature))
    = subst (λ (b : ℕ). OptionalOrNot e.signature (optionalFirst b)) first (optional? e.signature) in
    go p q o (same? f.signature reader.sdir) (less? f.start.0 f.stop.0)
  where
    go : f.start.0 ≡ at + extension_header → f.stop.0 ≡ at + extension_header + length e.body
        → {t v w : Bool} → OptionalOrNot e.signature t → Same f.signature reader.sdir v → Less f.start.0 f.stop.0 w → Judged e (pick (pick t false true) (pick v w true) false)
    go p q (is_optional_lem o) v w = may_stand (optional {e = e} o)
    go p q (is_mandatory m) (differs d) w = may_not (λ a. d (x.named ∙ ap big_endian (must_be_sdir m a).0))
    go p q (is_mandatory m) (same i) (less l) = may_not (λ a. omega (arith, ap length (must_be_sdir m a).1))
    go p q (is_mandatory m) (same i) (not_less l) =
        let s : e.signature ≡ sdir = signature_injective x.four sdir_bytes (sym x.named ∙ i) in
        let b : e.body ≡ [] = no_bytes_lem e.body (omega arith) in
        let j : ext sdir [] ≡ e = λ n. ext (sym s n) (sym b n) in
        may_stand (subst Allowed j empty_sdir)

pub allowed_if : {at : ℕ} {f : Found} {e : Ext} → SameExtension at f e → is_forbidden f ≡ false → Allowed e
allowed_if {f = f} {e} x q = go (judged x) q
  where
    go : {t : Bool} → Judged e t → t ≡ false → Allowed e
    go (may_stand a) r = a
    go (may_not k) r = cc

pub refused_if : {at : ℕ} {f : Found} {e : Ext} → SameExtension at f e → is_forbidden f ≡ true → Allowed e → ⊥
refused_if {f = f} {e} x q = go (judged x) q
  where
    go : {t : Bool} → Judged e t → t ≡ true → Allowed e → ⊥
    go (may_stand a) r = cc
    go (may_not k) r = k

-- ---- lists that say the same

pub data SameExtensions : ℕ → List Found → List Ext → Type 0 where
  none_found : {at : ℕ} → SameExtensions at [] []
  one_found : {at : ℕ} {f : Found} {fs : List Found} {e : Ext} {es : List Ext} → SameExtension at f e → SameExtensions f.stop.0 fs es → SameExtensions at (f ∷ fs) (e ∷ es)

module _ {signature : List ℕ} (four : FourBytes signature) where
  none_signed : {at : ℕ} {fs : List Found} {es : List Ext} → SameExtensions at fs es → filling.NoneSigned (big_endian signature) fs → NoneSigned signature es
  none_signed none_found filling.none_left = none_left
  none_signed (one_found x y) (filling.another d n) = another (λ i. d (x.named ∙ ap big_endian i)) (none_signed y n)

  -- the last one, and where it lies
  record Last (at : ℕ) (f : Found) (es : List Ext) : Type 0 where
    before : List Ext
    e : Ext
    behind : List Ext
    joins : es ≡ before ++ (e ∷ behind)
    signed : e.signature ≡ signature
    none : NoneSigned signature behind
    starts : f.start ≡ file_at (at + bytes_of before + extension_header)
    stops : f.stop ≡ file_at (at + bytes_of before + extension_header + length e.body)

  last_found : {at : ℕ} {fs : List Found} {f : Found} {es : List Ext} → SameExtensions at fs es → filling.LastSigned (big_endian signature) fs f → Last at f es
  last_found none_found l = elim l [ ]
  last_found {at} (one_found {e = d} {es = es} x y) (filling.this i n) =
      let z : at + extension_header ≡ at + 0 + extension_header = omega arith in
      record {
        before = [];
        e = d;
        behind = es;
        joins = refl;
        signed = signature_injective x.four four (sym x.named ∙ i);
        none = none_signed y n;
        starts = x.starts ∙ ap file_at z;
        stops = x.stops ∙ ap (λ (j : ℕ). file_at (j + length d.body)) z;
      }
  last_found {at} (one_found {f = g} {e = d} x y) (filling.further l) =
      let r = last_found y l in
      let q : g.stop.0 ≡ at + extension_header + length d.body = ap (λ (j : FileAt). j.0) x.stops in
      let z : g.stop.0 + bytes_of r.before + extension_header ≡ at + bytes_of (d ∷ r.before) + extension_header = omega arith in
      record {
        before = d ∷ r.before;
        e = r.e;
        behind = r.behind;
        joins = ap (λ (j : List Ext). d ∷ j) r.joins;
        signed = r.signed;
        none = r.none;
        starts = r.starts ∙ ap file_at z;
        stops = r.stops ∙ ap (λ (j : ℕ). file_at (j + length r.e.body)) z;
      }

  signed_body : {at : ℕ} {f : Found} {es : List Ext} → Last at f es → (place : ℕ) × (body : List ℕ) × LastSigned signature at es place body × (body_of f ≡ Some (body_between (file_at place) (file_at (place + length body))))
  signed_body {at} l =
      (at + bytes_of l.before + extension_header, l.e.body, last_signed l.before l.behind l.joins l.signed l.none, (λ i. Some (body_between (l.starts i) (l.stops i))))

  -- the body that is answered
  pub body_says : {at : ℕ} {fs : List Found} {es : List Ext} {b : Option Body} → SameExtensions at fs es → filling.SaysLast (big_endian signature) None fs b → SaysBody signature at es b
  body_says x (filling.as_before n) = says_missing (none_signed x n)
  body_says {at} {es = es} x (filling.the_last l) =
      let (place, body, m, e) = signed_body (last_found x l) in
      subst (SaysBody signature at es) (sym e) (says_lies m)

-- the mark that is answered
pub mark_says : {at : ℕ} {fs : List Found} {es : List Ext} {t : Bool} → SameExtensions at fs es → filling.SaysSparse false fs t → Tells (HasSdir es) t
mark_says x (filling.marked l) = let (place, body, m, e) = signed_body sdir_bytes (last_found sdir_bytes x l) in it_is (last_is_some m)
mark_says x (filling.unmarked n) = it_is_not (none_is_some (none_signed sdir_bytes x n))

-- ---- an extension in front of a fault

pub fault_behind : {at place : ℕ} {xs b ys : List ℕ} {e : Ext} {f : fault.Fault} → Extension b e → xs ≡ b ++ ys → at + length b ≡ place → Faulty place ys f → Faulty at xs f
fault_behind {at} {place} {xs} {b} {ys} x i p (stray_bytes {b = c} rest j y l k) =
    let q : at + length (b ++ c) ≡ place + length c = omega (arith, length-append b c) in
    subst (λ (n : ℕ). Faulty at xs (fault.stray n)) q (stray_bytes rest (cut xs b c ys rest i j) (more x y) l k)
fault_behind {xs = xs} {b} {ys} x i p (refused_extension {b = c} rest q j y z a) = refused_extension rest q (cut xs b c ys rest i j) (more x y) z a

-- ---- at the places of a file

module _ (s : List ℕ) (bytes : Bytes s) (end : ℕ) (inside : end ≤ length s) where
  abbrev space : ℕ → List ℕ
  space at = drop at (take end s)

  long : length (take end s) ≡ end
  long = length-take-le end s inside

  -- an extension that stands at a place is framed there
  record Means (at : ℕ) (f : Found) : Type 0 where
    e : Ext
    b : List ℕ
    is_framed : Framed b e
    here : space at ≡ b ++ space f.stop.0
    size : at + length b ≡ f.stop.0
    says : SameExtension at f e

  means : (at : ℕ) (f : Found) → Stands s at end f → Means at f
  means at f w =
      let n : ℕ = be_at 4 s (at + 4) in
      let h : at + extension_header + be_at 4 s (at + 4) ≤ end = w.fits.whole in
      let a : List ℕ = take 4 (space at) in
      let z : List ℕ = take 4 (space (at + 4)) in
      let d : List ℕ = take (be_at 4 s (at + 4)) (space (at + extension_header)) in
      let la : length (take 4 (space at)) ≡ 4 = length_part 4 at (take end s) (omega (arith, long)) in
      let lz : length (take 4 (space (at + 4))) ≡ 4 = length_part 4 (at + 4) (take end s) (omega (arith, long)) in
      let ld : length (take (be_at 4 s (at + 4)) (space (at + extension_header))) ≡ be_at 4 s (at + 4) = length_part (be_at 4 s (at + 4)) (at + extension_header) (take end s) (omega (arith, long)) in
      let v : big_endian z ≡ length d = big_endian_before 4 s (at + 4) end (omega (arith, long)) ∙ sym ld in
      let i : space at ≡ a ++ space (at + 4) = sym (take-append-drop 4 (space at)) ∙ ap (λ (l : List ℕ). a ++ l) (drop-drop 4 at (take end s)) in
      let k : at + 4 + 4 ≡ at + extension_header = omega arith in
      let j : space (at + 4) ≡ z ++ space (at + extension_header) =
      sym (take-append-drop 4 (space (at + 4))) ∙ ap (λ (l : List ℕ). z ++ l) (drop-drop 4 (at + 4) (take end s) ∙ ap space k) in
      let q : f.stop.0 ≡ at + extension_header + be_at 4 s (at + 4) = ap (λ (y : FileAt). y.0) w.stops in
      let m : space (at + extension_header) ≡ d ++ space f.stop.0 =
      sym (take-append-drop n (space (at + extension_header))) ∙ ap (λ (l : List ℕ). d ++ l) (drop-drop n (at + extension_header) (take end s) ∙ ap space (sym q)) in
      record {
        e = ext a d;
        b = a ++ (z ++ d);
        is_framed = framed la (subst (BigEndian 4 z) v (big_endian_lem lz));
        here = i ∙ ap (λ (l : List ℕ). a ++ l) (j ∙ ap (λ (l : List ℕ). z ++ l) m ∙ sym (append_assoc z d (space f.stop.0))) ∙ sym (append_assoc a (z ++ d) (space f.stop.0));
        size = omega (arith, length-append a (z ++ d), length-append z d, la, lz, ld);
        says = record {
          named = w.named ∙ sym (big_endian_before 4 s at end (omega (arith, long)));
          four = record { four = la; small = bytes_left a (space (at + 4)) (subst Bytes i (bytes_within s at end bytes)) };
          starts = w.starts;
          stops = w.stops ∙ ap (λ (l : ℕ). file_at (at + extension_header + l)) (sym ld);
        };
      }

  -- and where one is framed it stands
  fits : (at : ℕ) → at ≤ end → (e : Ext) (q : List ℕ) → Begins Framed (space at) e q → Fits s at end
  fits at h e q (b, i, framed {signature = a} {size = z} {body = d} la x) =
      let lz : length z ≡ 4 = big_endian_length x in
      let all : length (space at) ≡ end - at = length-drop at (take end s) ∙ ap (λ (n : ℕ). n - at) long in
      let parts : length (space at) ≡ 8 + length d + length q =
      ap length i ∙ length-append (a ++ (z ++ d)) q ∙ omega (arith, length-append a (z ++ d), length-append z d) in
      let j : space (at + 4) ≡ z ++ (d ++ q) =
      sym (drop-drop 4 at (take end s)) ∙ ap (λ (l : List ℕ). drop 4 l) (i ∙ append_assoc a (z ++ d) q) ∙ drop_at a ((z ++ d) ++ q) 4 la ∙ append_assoc z d q in
      let v : be_at 4 s (at + 4) ≡ length d =
      sym (big_endian_before 4 s (at + 4) end (omega (arith, long))) ∙ ap (λ (l : List ℕ). big_endian (take 4 l)) j ∙ ap big_endian (take_at z (d ++ q) 4 lz) ∙ sym (big_endian_value x) in
      record { inside = inside; whole = omega arith }

  nothing_left : space end ≡ []
  nothing_left = ap (λ (n : ℕ). drop n (take end s)) (sym long) ∙ drop-length (take end s)

  stop_inside : {at : ℕ} {f : Found} → Stands s at end f → f.stop.0 ≤ end
  stop_inside w = omega (arith, ap (λ (y : FileAt). y.0) w.stops, w.fits.whole)

  -- ---- a chain of them

  pub chain_fills : {at : ℕ} {fs : List Found} → Chain s end at fs filled → filling.NoneForbidden fs → (es : List Ext) × SameExtensions at fs es × Extensions (space at) es
  chain_fills {at} (chain_filled i q) filling.all_allowed = ([], none_found, rw (ap space q ∙ nothing_left) done)
  chain_fills {at} (chain_more {f = f} w c) (filling.allowed a n) =
      let m = means at f w in
      let (es, x, y) = chain_fills c n in
      (m.e ∷ es, one_found m.says x, rw m.here (more (record { is_framed = m.is_framed; is_allowed = allowed_if m.says a }) y))

  pub chain_strays : {at p : ℕ} {fs : List Found} → at ≤ end → Chain s end at fs (stray p) → filling.NoneForbidden fs → Faulty at (space at) (fault.stray p)
  chain_strays {at} h (chain_stray d k) filling.all_allowed =
      let l : at < end = ⊎_elim (λ l. l) (λ g. absurd (d inside (omega arith))) (lt_or_ge at end) in
      let z : at + 0 ≡ at = omega arith in
      subst (λ (n : ℕ). Faulty at (space at) (fault.stray n)) z (stray_bytes (space at) refl done (omega (arith, length-drop at (take end s), long)) (λ e q x. k (fits at h e q x)))
  chain_strays {at} h (chain_more {f = f} w c) (filling.allowed a n) =
      let m = means at f w in
      fault_behind (record { is_framed = m.is_framed; is_allowed = allowed_if m.says a }) m.here m.size (chain_strays (stop_inside w) c n)

  pub chain_refused : {at n : ℕ} {fs : List Found} {e : _} → Chain s end at fs e → filling.FirstForbidden fs n → (signature : List ℕ) × Faulty at (space at) (fault.refused signature) × (n ≡ big_endian signature)
  chain_refused (chain_filled i q) r = elim r [ ]
  chain_refused (chain_stray d k) r = elim r [ ]
  chain_refused {at} (chain_more {f = f} w c) (filling.refused_here a) =
      let m = means at f w in
      (m.e.signature, refused_extension (space at) (space f.stop.0) refl done (m.b, m.here, m.is_framed) (refused_if m.says a), m.says.named)
  chain_refused {at} (chain_more {f = f} w c) (filling.refused_later a n) =
      let m = means at f w in
      let (signature, x, y) = chain_refused c n in
      (signature, fault_behind (record { is_framed = m.is_framed; is_allowed = allowed_if m.says a }) m.here m.size x, y)
