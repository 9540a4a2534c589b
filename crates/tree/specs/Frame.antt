-- What the reading of a node leaves as it was: the store's length, every byte of the nodes before it and, where it is read, every byte behind the nodes used. The nodes used grow, and never past the store. By induction
-- on the depth, over the id's length. Assumes nothing.
use Rattle.std.specs.Prelude.{Bool, true, false, ◌≡◌, refl, List, ℕ, zero, suc, ◌+◌, ◌*◌, ◌-◌, ◌/◌, ◌^◌, ◌≤◌, ◌<◌, length, get_or, Err, None, Ok, Option, Result, Some}
use Rattle.std.proofs.Common.{ap, ◌∙◌, arith, lit≤}
use Rattle.std.proofs.Math.Seq.{paste}
use Rattle.laws.specs.Paste.{get_d_after}
use Rattle.laws.specs.Pick.{pick}
use Rattle.laws.specs.Tests.{AtMost, at_most, above, at_most?}
use Rattle.node.specs.declared.Node.{Node}
use Rattle.node.specs.Head.{head_at}
use Rattle.wire.specs.BigEndian.{be_at}
use Rattle.node.specs.Store.{put_at, node_of, word_at, name_start_at, name_end_at, count_at, subtrees_at, parent_at}
use Rattle.node.specs.Spelled.{Spelled, head_spelled}
use Rattle.node.specs.Laws.{length_node, length-put, byte_before, put_is, word_put, start_found, stop_found, count_found, subtrees_found, parent_found}
use Rattle.siblings.specs.Siblings.{siblings_differ}
use Rattle.tree.specs.declared.Fault.{Fault}
use Rattle.tree.specs.declared.Fault.TheVariants.{Unspelled, Deep, Full}
use Rattle.tree.specs.Tree.{Out, and_then, kids, settled_as, body, node_at}
use Rattle.node.specs.declared.Node.{Node}
use Rattle.tree.specs.Made.{read_up_to}
use Rattle.tree.specs.declared.Read.{Read}

-- an outcome o from `used` nodes in the store ns, that uses at least `least`
pub record Kept (used least : ℕ) (ns : List ℕ) (o : Out) : Type 0 where
  pub long : length o.1 ≡ length ns
  pub low : (k : ℕ) → k < used * 72 → get_or o.1 k 0 ≡ get_or ns k 0
  pub high : (n u : ℕ) → o.0 ≡ Ok (read_up_to n u) → (k : ℕ) → u * 72 ≤ k → get_or o.1 k 0 ≡ get_or ns k 0
  pub onward : (n u : ℕ) → o.0 ≡ Ok (read_up_to n u) → least ≤ u
  pub room : (n u : ℕ) → o.0 ≡ Ok (read_up_to n u) → used ≤ length ns / 72 → u ≤ length ns / 72

pub not_read : (f : Fault) (n u : ℕ) → ◌≡◌ {A = Result Read Fault} (Err f) (Ok (read_up_to n u)) → ⊥
not_read f n u e = cc

-- what two equal readings say of the nodes used
pub read_used : (n u m v : ℕ) → ◌≡◌ {A = Result Read Fault} (Ok (read_up_to n u)) (Ok (read_up_to m v)) → u ≡ v
read_used n u m v e = let same : read_up_to n u ≡ read_up_to m v = cc in ap (λ (r : Read). r.used) same

stopped : (used least : ℕ) (ns : List ℕ) (f : Fault) → Kept used least ns (Err f, ns)
stopped used least ns f = record { long = refl; low = λ k h. refl; high = λ n u e. cc; onward = λ n u e. cc; room = λ n u e h. cc }

-- an outcome that is kept, and then what goes on from it
pub then_kept : (used least : ℕ) (ns : List ℕ) (o : Out) (k : ℕ → ℕ → List ℕ → Out) → used ≤ least → Kept used least ns o → ((n u : ℕ) (ms : List ℕ) → Kept u u ms (k n u ms)) → Kept used least ns (and_then o k)
then_kept used least ns (Ok r, ms) k h a b =
    let long : length ms ≡ length ns = a.long in
    record {
      long = (b r.next r.used ms).long ∙ a.long;
      low = λ i l. (b r.next r.used ms).low i (omega (arith, a.onward r.next r.used refl)) ∙ a.low i l;
      high = λ m v e i l. (b r.next r.used ms).high m v e i l ∙ a.high r.next r.used refl i (omega (arith, (b r.next r.used ms).onward m v e));
      onward = λ m v e. omega (arith, a.onward r.next r.used refl, (b r.next r.used ms).onward m v e);
      room = λ m v e l. let q : r.used ≤ length ms / 72 = rw long (a.room r.next r.used refl l) in rw long at ((b r.next r.used ms).room m v e q);
    }
then_kept used least ns (Err f, ms) k h a b = record { long = a.long; low = a.low; high = a.high; onward = a.onward; room = a.room }

pub kids_kept : (f : ℕ → ℕ → List ℕ → Out) → ((at used : ℕ) (ns : List ℕ) → Kept used (used + 1) ns (f at used ns)) → (l at used : ℕ) (ns : List ℕ) → Kept used used ns (kids f l at used ns)
unfolding kids
kids_kept f a zero at used ns = record { long = refl; low = λ k h. refl; high = λ n u e k h. refl; onward = λ n u e. omega (arith, read_used at used n u e); room = λ n u e h. omega (arith, read_used at used n u e) }
kids_kept f a (suc l) at used ns = then_kept used used ns (f at used ns) (kids f l) (omega arith) weaker (λ n u ms. kids_kept f a l n u ms)
  where
    weaker : Kept used used ns (f at used ns)
    weaker = let k = a at used ns in record { long = k.long; low = k.low; high = k.high; onward = λ n u e. omega (arith, k.onward n u e); room = k.room }

pub settled_used : (s : List ℕ) (me next used : ℕ) (ns : List ℕ) (n u : ℕ) → settled_as s ns me next used ≡ Ok (read_up_to n u) → used ≡ u
unfolding settled_as
settled_used s me next used ns n u = by (siblings_differ s ns me (me + 1) used)
  where
    by : (t : Bool) → pick t (Ok (read_up_to next used)) (Err Unspelled) ≡ Ok (read_up_to n u) → used ≡ u
    by true e = read_used next used n u e
    by false e = cc

pub settled_kept : (s : List ℕ) (me next used : ℕ) (ns : List ℕ) → Kept used used ns (settled_as s ns me next used, ns)
settled_kept s me next used ns =
    record {
      long = refl;
      low = λ k h. refl;
      high = λ n u e k h. refl;
      onward = λ n u e. omega (arith, settled_used s me next used ns n u e);
      room = λ n u e h. omega (arith, settled_used s me next used ns n u e);
    }

-- a node that is put, from a head that was read
module _ (idLength : ℕ) (fits : idLength ≤ 32) (s : List ℕ) (at end : ℕ) (n : Node) (parent : ℕ) (ns : List ℕ) (used : ℕ) (h : used < length ns / 72) (q : head_at idLength s at end ≡ Some n) where
  pub spelled : Spelled idLength s at end n
  spelled = head_spelled idLength s at end n q

  pub turned : n.id ≤ n.next
  turned = spelled.turned

  pub small : n.next - n.id ≤ 32
  small = omega (arith, spelled.short)

  pub inside : n.next ≤ length s
  inside = omega (arith, spelled.ends, spelled.within)

  pub full : length (node_of s n parent) ≡ 72
  full = length_node s n parent turned small inside

  pub put_paste : put_at s n parent ns used ≡ paste ns (used * 72) (node_of s n parent) 72
  put_paste = put_is s n parent ns used h turned small inside

  pub put_long : length (put_at s n parent ns used) ≡ length ns
  put_long = ap length put_paste ∙ length-put ns used (node_of s n parent) full h

  pub put_low : (k : ℕ) → k < used * 72 → get_or (put_at s n parent ns used) k 0 ≡ get_or ns k 0
  put_low k l = ap (λ (x : List ℕ). get_or x k 0) put_paste ∙ byte_before ns used (node_of s n parent) full h k l

  pub put_high : (k : ℕ) → (used + 1) * 72 ≤ k → get_or (put_at s n parent ns used) k 0 ≡ get_or ns k 0
  put_high k l = ap (λ (x : List ℕ). get_or x k 0) put_paste ∙ get_d_after ns (used * 72) (node_of s n parent) 72 k (omega arith) (omega (arith, full)) (omega arith)

module _ (idLength : ℕ) (fits : idLength ≤ 32) (s : List ℕ) (at end : ℕ) (n : Node) (parent : ℕ) (ns : List ℕ) (used : ℕ) (h : used < length ns / 72) (q : head_at idLength s at end ≡ Some n) where
  word_of : (k : ℕ) → k + 8 ≤ 72 → word_at k (put_at s n parent ns used) used ≡ be_at 8 (node_of s n parent) k
  word_of k l =
      ap (λ (x : List ℕ). word_at k x used) (put_paste idLength fits s at end n parent ns used h q)
      ∙ word_put ns used (node_of s n parent) (full idLength fits s at end n parent ns used h q) h k l

  abbrev t : n.id ≤ n.next
  t = turned idLength fits s at end n parent ns used h q

  abbrev m : n.next - n.id ≤ 32
  m = small idLength fits s at end n parent ns used h q

  abbrev i : n.next ≤ length s
  i = inside idLength fits s at end n parent ns used h q

  -- what was put is found
  pub put_start : n.start < 256 ^ 8 → name_start_at (put_at s n parent ns used) used ≡ n.start
  put_start l = word_of 0 (lit≤ tt) ∙ start_found s n parent t m i l

  pub put_stop : n.stop < 256 ^ 8 → name_end_at (put_at s n parent ns used) used ≡ n.stop
  put_stop l = word_of 8 (lit≤ tt) ∙ stop_found s n parent t m i l

  pub put_count : n.count < 256 ^ 8 → count_at (put_at s n parent ns used) used ≡ n.count
  put_count l = word_of 16 (lit≤ tt) ∙ count_found s n parent t m i l

  pub put_subtrees : n.subtrees < 256 ^ 8 → subtrees_at (put_at s n parent ns used) used ≡ n.subtrees
  put_subtrees l = word_of 24 (lit≤ tt) ∙ subtrees_found s n parent t m i l

  pub put_parent : parent < 256 ^ 8 → parent_at (put_at s n parent ns used) used ≡ parent
  put_parent l = word_of 32 (lit≤ tt) ∙ parent_found s n parent t m i l

body_kept : (idLength : ℕ) → idLength ≤ 32 → (s : List ℕ) (at end : ℕ) (rec : ℕ → ℕ → ℕ → List ℕ → Out) → ((parent at used : ℕ) (ns : List ℕ) → Kept used (used + 1) ns (rec parent at used ns))
    → (parent used : ℕ) (ns : List ℕ) → used < length ns / 72 → (h : Option Node) → head_at idLength s at end ≡ h → Kept used (used + 1) ns (body s rec parent used ns h)
body_kept idLength fits s at end rec a parent used ns l None q = stopped used (used + 1) ns Unspelled
body_kept idLength fits s at end rec a parent used ns l (Some n) q =
    then_kept used (used + 1) ns (kids (rec used) n.subtrees n.next (used + 1) (put_at s n parent ns used)) (λ m v ms. (settled_as s ms used m v, ms)) (omega arith) walked
    (λ m v ms. settled_kept s used m v ms)
  where
    walked : Kept used (used + 1) ns (kids (rec used) n.subtrees n.next (used + 1) (put_at s n parent ns used))
    walked =
        let k = kids_kept (rec used) (λ at u ms. a used at u ms) n.subtrees n.next (used + 1) (put_at s n parent ns used) in
        let long : length (put_at s n parent ns used) ≡ length ns = put_long idLength fits s at end n parent ns used l q in
        record {
          long = k.long ∙ long;
          low = λ i m. k.low i (omega arith) ∙ put_low idLength fits s at end n parent ns used l q i m;
          high = λ m v e i r. k.high m v e i r ∙ put_high idLength fits s at end n parent ns used l q i (omega (arith, k.onward m v e));
          onward = k.onward;
          room = λ m v e r. let z : used + 1 ≤ length (put_at s n parent ns used) / 72 = rw long (omega arith) in rw long at (k.room m v e z);
        }

-- THE FRAME
pub node_kept : (idLength : ℕ) → idLength ≤ 32 → (s : List ℕ) (end d parent at used : ℕ) (ns : List ℕ) → Kept used (used + 1) ns (node_at idLength s end d parent at used ns)
unfolding node_at
node_kept idLength fits s end zero parent at used ns = stopped used (used + 1) ns Deep
node_kept idLength fits s end (suc d) parent at used ns = by (node_at idLength s end d) (λ p a u ms. node_kept idLength fits s end d p a u ms) (at_most? (length ns / 72) used)
  where
    by : (rec : ℕ → ℕ → ℕ → List ℕ → Out) → ((p a u : ℕ) (ms : List ℕ) → Kept u (u + 1) ms (rec p a u ms)) → {t : Bool} → AtMost (length ns / 72) used t
        → Kept used (used + 1) ns (pick t (Err Full, ns) (body s rec parent used ns (head_at idLength s at end)))
    by rec a (at_most h) = stopped used (used + 1) ns Full
    by rec a (above h) = body_kept idLength fits s at end rec a parent used ns h (head_at idLength s at end) refl

pub kids_frame : (idLength : ℕ) → idLength ≤ 32 → (s : List ℕ) (end d me l at used : ℕ) (ns : List ℕ) → Kept used used ns (kids (node_at idLength s end d me) l at used ns)
kids_frame idLength fits s end d me l at used ns = kids_kept (node_at idLength s end d me) (λ a u ms. node_kept idLength fits s end d me a u ms) l at used ns
