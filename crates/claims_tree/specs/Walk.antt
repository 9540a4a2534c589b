-- The reading of a node and of its subtrees, step by step beside the grammar: what is read is spelled and stored as its rendering, and where the reading stops, the walk
-- of the grammar stops for the same reason. By induction on the depth that is left, over the id's length. Assumes nothing.
use Prim.Native.Nat.{ℕ, zero, suc, ◌+◌, ◌-◌, ◌*◌, ◌/◌, ◌^◌, ◌≤◌, ◌<◌}
use Rattle.std.specs.Prelude.{◌≡◌, Bool, take, drop, Err, Ok, Option, Some}
use Rattle.std.proofs.Math.Path.{refl, ap, subst}
use Rattle.std.proofs.Common.{sym, ◌∙◌, lit≤, length-append}
use mathlib.Core.List.{List, [], ◌++◌, append_assoc}
use Rattle.std.proofs.Math.Nat.{add-zero}
use native.Mathlib.Omega.{arith}
use Rattle.std.proofs.Math.ListN.{length, get_or}
use Rattle.laws.specs.Pick.{pick}
use Rattle.laws.specs.Put.{put, put_none, put_put, paste_put}
use Rattle.laws.specs.Tests.{AtMost, at_most, above, at_most?}
use Rattle.node.specs.declared.Node.{Node as Fields}
use Rattle.node.specs.Head.{head_at}
use Rattle.node.specs.Store.{numbers_of, id_of, node_of, put_at, name_start_at, name_end_at, parent_at, name_at}
use Rattle.node.specs.Laws.{word_same, name_same, name_part}
use Rattle.siblings.specs.InOrder.{Grows}
use Rattle.tree.specs.declared.Fault.TheVariants.{Unspelled, Deep, Full}
use Rattle.tree.specs.Tree.{Out, and_then, kids, settled_as, settled, body, node_at}
use Rattle.tree.specs.Frame.{Kept, node_kept, kids_frame, spelled, full, put_paste, put_long, put_start, put_stop, put_parent}
use Rattle.tree.specs.Inside.{node_grows}
use Rattle.grammar.specs.Tree.{Tree, tree, Subtrees, childless, beside, name_of, names, depth, deepest, nodes, nodes_of, Head, NodeHead, Node, node, Nodes, no_node, one_node_lem}
use Rattle.grammar.specs.Descent.{Comes, ComesAmong}
use Rattle.grammar.proofs.DecideTree.{IsDistinct, is_distinct, repeats}
use Rattle.claims_tree.specs.Place.{part}
use Rattle.claims_tree.specs.Rendering.{how_many, node_bytes, nodes_bytes, subtrees_bytes}
use Rattle.claims_tree.specs.Head.{Told, HeadSaid, head_there, head_missing, head_said}
use Rattle.claims_tree.specs.Siblings.{Children, no_more, child, differ?}
use Rattle.claims_tree.specs.Steps.{Faulty, Crowded, TooDeep, no_head, no_room, too_deep, below_within, below_faulty, below_crowded, below_deep, past_within, past_faulty, past_crowded, past_deep, this_faulty, this_crowded, this_deep, none_left, repeated}
use Rattle.tree.specs.Made.{read_up_to}

-- ---- what each outcome says

-- one node, at most d levels deep, with room for r nodes from number `used` on
pub data SaysNode (n : ℕ) (s : List ℕ) (end d parent at used r : ℕ) (ns : List ℕ) : Out → Type 0 where
  is_read : {b : List ℕ} {t : Tree} {ms : List ℕ} → at + length b ≤ end → part s at end ≡ b ++ part s (at + length b) end → Node n at b t → depth t ≤ d → nodes t ≤ r
      → ((e k : ℕ) → Comes n at (part s at end) e k → (e ≤ d) × (k < r)) → length (nodes_bytes parent used t) ≡ nodes t * 72 → ms ≡ put ns (used * 72) (nodes_bytes parent used t)
      → parent_at ms used ≡ parent → name_at s ms used ≡ name_of t → SaysNode n s end d parent at used r ns (Ok (read_up_to (at + length b) (used + nodes t)), ms)
  is_unspelled : {ms : List ℕ} → Faulty (Node n at) (Comes n at (part s at end)) (part s at end) d r → SaysNode n s end d parent at used r ns (Err Unspelled, ms)
  is_full : {ms : List ℕ} → Crowded (Node n at) nodes (Comes n at (part s at end)) (part s at end) d r → SaysNode n s end d parent at used r ns (Err Full, ms)
  is_deep : {ms : List ℕ} → TooDeep (Comes n at (part s at end)) d r → SaysNode n s end d parent at used r ns (Err Deep, ms)

-- so many subtrees of node `me`
data SaysKids (n : ℕ) (s : List ℕ) (end d me l at used r : ℕ) (ns : List ℕ) : Out → Type 0 where
  are_read : {b : List ℕ} {ts : Subtrees} {ms : List ℕ} → at + length b ≤ end → part s at end ≡ b ++ part s (at + length b) end → Nodes n at l b ts → deepest ts ≤ d → nodes_of ts ≤ r
      → ((e k : ℕ) → ComesAmong n at l (part s at end) e k → (e ≤ d) × (k < r)) → length (subtrees_bytes me used ts) ≡ nodes_of ts * 72 → ms ≡ put ns (used * 72) (subtrees_bytes me used ts)
      → Children s ms me used (used + nodes_of ts) (names ts) → SaysKids n s end d me l at used r ns (Ok (read_up_to (at + length b) (used + nodes_of ts)), ms)
  are_unspelled : {ms : List ℕ} → Faulty (Nodes n at l) (ComesAmong n at l (part s at end)) (part s at end) d r → SaysKids n s end d me l at used r ns (Err Unspelled, ms)
  are_full : {ms : List ℕ} → Crowded (Nodes n at l) nodes_of (ComesAmong n at l (part s at end)) (part s at end) d r → SaysKids n s end d me l at used r ns (Err Full, ms)
  are_deep : {ms : List ℕ} → TooDeep (ComesAmong n at l (part s at end)) d r → SaysKids n s end d me l at used r ns (Err Deep, ms)

-- ---- subtrees

module _ (n : ℕ) (fits : n ≤ 32) (s : List ℕ) (end : ℕ) (inside : end ≤ length s) (d : ℕ)
    (rec : (parent at used r : ℕ) (ns : List ℕ) → at ≤ end → parent < 256 ^ 8 → used + r ≡ length ns / 72 → length ns < 256 ^ 8 → SaysNode n s end d parent at used r ns (node_at n s end d parent at used ns))
    (me : ℕ) where
  abbrev reading : ℕ → ℕ → List ℕ → Out
  reading = node_at n s end d me

  -- one subtree that was read, and the others behind it
  one_more_read : {l at used r : ℕ} {ns ms : List ℕ} {b : List ℕ} {t : Tree} → me < used → used * 72 ≤ length ns → length ns < 256 ^ 8 → reading at used ns ≡ (Ok (read_up_to (at + length b) (used + nodes t)), ms)
      → part s at end ≡ b ++ part s (at + length b) end → Node n at b t → depth t ≤ d → nodes t ≤ r → ((e k : ℕ) → Comes n at (part s at end) e k → (e ≤ d) × (k < r))
      → length (nodes_bytes me used t) ≡ nodes t * 72 → ms ≡ put ns (used * 72) (nodes_bytes me used t) → parent_at ms used ≡ me → name_at s ms used ≡ name_of t → (o : Out)
      → kids reading l (at + length b) (used + nodes t) ms ≡ o → SaysKids n s end d me l (at + length b) (used + nodes t) (r - nodes t) ms o → SaysKids n s end d me (suc l) at used r ns o
  one_more_read {l} {at} {used} {r} {ns} {ms} {b} {t} less start small e i u h k w size stored par nam o f (are_read {b = c} {ts = ts} {ms = ps} a j us x y z g q ch) =
      let y₁ : List ℕ = part s (at + length b) end in
      let grows : Grows s ns ms me used (used + nodes t) = node_grows n fits s end d me at used ns ms (Ok (read_up_to (at + length b) (used + nodes t))) (at + length b) (used + nodes t) (sym e) refl small less in
      let kept : Kept (used + nodes t) (used + nodes t) ms (kids reading l (at + length b) (used + nodes t) ms) = kids_frame n fits s end d me l (at + length b) (used + nodes t) ms in
      let long : length ps ≡ length ms = ap (λ (o : Out). length o.1) (sym f) ∙ kept.long in
      let low : (m : ℕ) → m < (used + nodes t) * 72 → get_or ps m 0 ≡ get_or ms m 0 = λ m p. ap (λ (o : Out). get_or o.1 m 0) (sym f) ∙ kept.low m p in
      let onward : used < used + nodes t = grows.onward in
      let same_parent : (j : ℕ) → j < used + nodes t → parent_at ps j ≡ parent_at ms j = λ j p. word_same ms ps j long (λ m o. low (j * 72 + m) (omega arith)) 32 (lit≤ tt) in
      let same_name : name_at s ps used ≡ name_at s ms used = name_same ms ps used long (λ m o. low (used * 72 + m) (omega arith)) s in
      let both : at + length b + length c ≡ at + length (b ++ c) = omega (arith, length-append b c) in
      let count : used + nodes t + nodes_of ts ≡ used + (nodes t + nodes_of ts) = omega arith in
      let bytes : List ℕ = nodes_bytes me used t in
      let place : (used + nodes t) * 72 ≡ used * 72 + length bytes = omega arith in
      let room : r ≡ nodes t + (r - nodes t) = omega arith in
      let cut : part s at end ≡ (b ++ c) ++ part s (at + length b + length c) end = i ∙ ap (λ (m : List ℕ). b ++ m) j ∙ sym (append_assoc b c (part s (at + length b + length c) end)) in
      let read : SaysKids n s end d me (suc l) at used r ns (Ok (read_up_to (at + length (b ++ c)) (used + nodes_of (beside t ts))), ps) =
      are_read {b = b ++ c} {ts = beside t ts} {ms = ps} (omega arith) (cut ∙ ap (λ (m : ℕ). (b ++ c) ++ part s m end) both) (one_node_lem u us refl) (omega arith) (omega arith) (past_within l y₁ u i w room z)
      (omega (arith, length-append bytes (subtrees_bytes me (used + nodes t) ts)))
      (q ∙ (λ m. put (stored m) (place m) (subtrees_bytes me (used + nodes t) ts)) ∙ put_put ns bytes (subtrees_bytes me (used + nodes t) ts) (used * 72) start)
      (child {j = used + nodes t} (same_parent used onward ∙ par) (same_name ∙ nam) onward (λ k x y p. grows.others k x y (sym (same_parent k y) ∙ p)) (subst (λ (m : ℕ). Children s ps me (used + nodes t) m (names ts)) count ch)) in
      subst (λ (m : ℕ). SaysKids n s end d me (suc l) at used r ns (Ok (read_up_to m (used + nodes t + nodes_of ts)), ps)) (sym both)
      (subst (λ (m : ℕ). SaysKids n s end d me (suc l) at used r ns (Ok (read_up_to (at + length (b ++ c)) m), ps)) (sym count) read)
  one_more_read {l} {at} {r = r} {b = b} {t = t} less start small e i u h k w size stored par nam o f (are_unspelled g) =
      let room : r ≡ nodes t + (r - nodes t) = omega arith in
      are_unspelled (past_faulty l (part s (at + length b) end) u i w room g)
  one_more_read {l} {at} {r = r} {b = b} {t = t} less start small e i u h k w size stored par nam o f (are_full g) =
      let room : r ≡ nodes t + (r - nodes t) = omega arith in
      are_full (past_crowded l (part s (at + length b) end) u i w room g)
  one_more_read {l} {at} {r = r} {b = b} {t = t} less start small e i u h k w size stored par nam o f (are_deep g) =
      let room : r ≡ nodes t + (r - nodes t) = omega arith in
      are_deep (past_deep l (part s (at + length b) end) u i w room g)

  kids_say : (l at used r : ℕ) (ns : List ℕ) → at ≤ end → me < used → used + r ≡ length ns / 72 → length ns < 256 ^ 8 → SaysKids n s end d me l at used r ns (kids reading l at used ns)
  unfolding kids
  kids_say zero at used r ns h less room small =
      let a : at + 0 ≡ at = add-zero at in
      let u : used + 0 ≡ used = add-zero used in
      let read : SaysKids n s end d me 0 at used r ns (Ok (read_up_to (at + 0) (used + 0)), ns) =
      are_read {b = []} {ts = childless} (omega arith) (ap (λ (m : ℕ). part s m end) (sym a)) no_node (omega arith) (omega arith) none_left refl (sym (put_none ns (used * 72))) (rw u no_more) in
      rw (a, u) at read
  kids_say (suc l) at used r ns h less room small = go (reading at used ns) refl (rec me at used r ns h (omega arith) room small) (λ p v q ms. kids_say l p v q ms)
    where
      go : (o : Out) → reading at used ns ≡ o → SaysNode n s end d me at used r ns o
          → ((p v q : ℕ) (ms : List ℕ) → p ≤ end → me < v → v + q ≡ length ms / 72 → length ms < 256 ^ 8 → SaysKids n s end d me l p v q ms (kids reading l p v ms))
          → SaysKids n s end d me (suc l) at used r ns (and_then o (kids reading l))
      go o e (is_unspelled f) next = are_unspelled (this_faulty f)
      go o e (is_full f) next = are_full (this_crowded f)
      go o e (is_deep f) next = are_deep (this_deep f)
      go o e (is_read {b = b} {t = t} {ms = ms} a i u x y w size stored par nam) next =
          let long : length ms ≡ length ns = ap (λ (o : Out). length o.1) (sym e) ∙ (node_kept n fits s end d me at used ns).long in
          let room₂ : used + nodes t + (r - nodes t) ≡ length ms / 72 = rw long (omega arith) in
          let small₂ : length ms < 256 ^ 8 = rw long small in
          one_more_read {l = l} less (omega arith) small e i u x y w size stored par nam (kids reading l (at + length b) (used + nodes t) ms) refl
          (next (at + length b) (used + nodes t) (r - nodes t) ms a (omega arith) room₂ small₂)

-- ---- a node

-- how many subtrees a head says is how many there are
pub how_many_lem : {n p l : ℕ} {b : List ℕ} {ts : Subtrees} → Nodes n p l b ts → l ≡ how_many ts
how_many_lem no_node = refl
how_many_lem (one_node_lem u us i) = ap suc (how_many_lem us)

node_bytes_lem : {s : List ℕ} {at : ℕ} {h : List ℕ} {v : Head} {m : Fields} → Told s at h v m → (parent : ℕ) → node_of s m parent ≡ node_bytes at v.name v.count v.subtrees parent v.id
unfolding node_of numbers_of id_of node_bytes
node_bytes_lem t parent = rw (t.starts, t.stops, t.counts, t.subtrees, t.id, t.id_length)

module _ (n : ℕ) (fits : n ≤ 32) (s : List ℕ) (end : ℕ) (inside : end ≤ length s) (short : length s < 256 ^ 8) where
  -- the store with the node itself
  record Put (parent at used : ℕ) (ns ps : List ℕ) (v : Head) : Type 0 where
    long : length ps ≡ length ns
    size : length (node_bytes at v.name v.count v.subtrees parent v.id) ≡ 72
    stored : ps ≡ put ns (used * 72) (node_bytes at v.name v.count v.subtrees parent v.id)
    parented : parent_at ps used ≡ parent
    named : name_at s ps used ≡ v.name

  put_node : {parent at used : ℕ} {ns h : List ℕ} {v : Head} {m : Fields} → at ≤ end → parent < 256 ^ 8 → used < length ns / 72 → head_at n s at end ≡ Some m → Told s at h v m → Put parent at used ns (put_at s m parent ns used) v
  put_node {parent} {at} {used} {ns} {h} {v} {m} ahead low room q t =
      let sp = spelled n fits s at end m parent ns used room q in
      let w : length (node_of s m parent) ≡ 72 = full n fits s at end m parent ns used room q in
      let b : at ≡ name_start_at (put_at s m parent ns used) used = sym (put_start n fits s at end m parent ns used room q (omega (arith, t.starts)) ∙ t.starts) in
      let e : at + length v.name ≡ name_end_at (put_at s m parent ns used) used = sym (put_stop n fits s at end m parent ns used room q (omega (arith, sp.stops)) ∙ t.stops) in
      let sub : at + length v.name - at ≡ length v.name = omega arith in
      record {
        long = put_long n fits s at end m parent ns used room q;
        size = ap length (sym (node_bytes_lem t parent)) ∙ w;
        stored = put_paste n fits s at end m parent ns used room q ∙ paste_put ns (node_of s m parent) (used * 72) 72 (sym w) ∙ ap (put ns (used * 72)) (node_bytes_lem t parent);
        parented = put_parent n fits s at end m parent ns used room q low;
        named = sym (name_part s (put_at s m parent ns used) used at (at + length v.name) b e (omega arith) (omega (arith, t.stops, sp.stops)))
            ∙ ap (λ (k : ℕ). take k (drop at s)) sub ∙ t.named;
      }

  -- its last subtree is done
  settle : {d parent at used r next v : ℕ} {ns ps h b : List ℕ} {head : Head} {ts : Subtrees} {ms : List ℕ} → at + length h ≤ end → part s at end ≡ h ++ part s (at + length h) end → NodeHead n h head
      → Put parent at used ns ps head → used * 72 ≤ length ns → parent_at ms used ≡ parent_at ps used → name_at s ms used ≡ name_at s ps used → at + length h + length b ≤ end
      → part s (at + length h) end ≡ b ++ part s (at + length h + length b) end → Nodes n (at + length h) head.subtrees b ts → deepest ts ≤ d → nodes_of ts ≤ r
      → ((e k : ℕ) → ComesAmong n (at + length h) head.subtrees (part s (at + length h) end) e k → (e ≤ d) × (k < r)) → length (subtrees_bytes used (used + 1) ts) ≡ nodes_of ts * 72
      → ms ≡ put ps ((used + 1) * 72) (subtrees_bytes used (used + 1) ts) → next ≡ at + length h + length b → v ≡ used + 1 + nodes_of ts → {t : Bool} → IsDistinct (names ts) t
      → SaysNode n s end (suc d) parent at used (suc r) ns (pick t (Ok (read_up_to next v)) (Err Unspelled), ms)
  settle {at = at} {h = h} {b = b} a i u put start par nam c j us x y w size stored en ev (repeats not) =
      is_unspelled (repeated at (part s (at + length h) end) (part s (at + length h + length b) end) u i us j not w)
  settle {d} {parent} {at} {used} {r} {next} {v} {ns} {ps} {h} {b} {head} {ts} {ms} a i u put₁ start par nam c j us x y w size stored en ev (is_distinct dd) =
      let t : Tree = tree at head.name head.count head.id ts in
      let both : next ≡ at + length (h ++ b) = omega (arith, length-append h b) in
      let count : v ≡ used + nodes t = omega arith in
      let own : List ℕ = node_bytes at head.name head.count head.subtrees parent head.id in
      let subs : List ℕ = subtrees_bytes used (used + 1) ts in
      let same : own ++ subs ≡ nodes_bytes parent used t = ap (λ (k : ℕ). node_bytes at head.name head.count k parent head.id ++ subs) (how_many_lem us) in
      let place : (used + 1) * 72 ≡ used * 72 + length own = omega (arith, put₁.size) in
      let cut : part s at end ≡ (h ++ b) ++ part s (at + length h + length b) end = i ∙ ap (λ (m : List ℕ). h ++ m) j ∙ sym (append_assoc h b (part s (at + length h + length b) end)) in
      let read : SaysNode n s end (suc d) parent at used (suc r) ns (Ok (read_up_to (at + length (h ++ b)) (used + nodes t)), ms) =
      is_read {b = h ++ b} {t = t} {ms = ms} (omega arith) (cut ∙ ap (λ (m : ℕ). (h ++ b) ++ part s m end) (sym en ∙ both)) (node u us dd refl) (omega arith) (omega arith)
      (below_within at (part s (at + length h) end) u i w)
      (ap length (sym same) ∙ omega (arith, length-append own subs, put₁.size))
      (stored ∙ (λ m. put (put₁.stored m) (place m) subs) ∙ put_put ns own subs (used * 72) start ∙ ap (put ns (used * 72)) same)
      (par ∙ put₁.parented) (nam ∙ put₁.named) in
      subst (λ (m : ℕ). SaysNode n s end (suc d) parent at used (suc r) ns (Ok (read_up_to m v), ms)) (sym both)
      (subst (λ (m : ℕ). SaysNode n s end (suc d) parent at used (suc r) ns (Ok (read_up_to (at + length (h ++ b)) m), ms)) (sym count) read)

  module _ (d : ℕ)
      (rec : (parent at used r : ℕ) (ns : List ℕ) → at ≤ end → parent < 256 ^ 8 → used + r ≡ length ns / 72 → length ns < 256 ^ 8 → SaysNode n s end d parent at used r ns (node_at n s end d parent at used ns))
      (parent at used r : ℕ) (ns : List ℕ) (ahead : at ≤ end) (low : parent < 256 ^ 8) (room : used + suc r ≡ length ns / 72) (small : length ns < 256 ^ 8) where
    below : {h : List ℕ} {v : Head} {ps : List ℕ} → at + length h ≤ end → part s at end ≡ h ++ part s (at + length h) end → NodeHead n h v → Put parent at used ns ps v
        → (o : Out) → kids (node_at n s end d used) v.subtrees (at + length h) (used + 1) ps ≡ o → SaysKids n s end d used v.subtrees (at + length h) (used + 1) r ps o
        → SaysNode n s end (suc d) parent at used (suc r) ns (settled s used o)
    unfolding settled_as
    below {h} a i u put₁ o e (are_unspelled f) = is_unspelled (below_faulty at (part s (at + length h) end) u i f)
    below {h} a i u put₁ o e (are_full f) = is_full (below_crowded at (part s (at + length h) end) u i f)
    below {h} a i u put₁ o e (are_deep f) = is_deep (below_deep at (part s (at + length h) end) u i f)
    below {h} {v} {ps} a i u put₁ o e (are_read {b = b} {ts = ts} {ms = ms} c j us x y w size stored ch) =
        let kept : Kept (used + 1) (used + 1) ps (kids (node_at n s end d used) v.subtrees (at + length h) (used + 1) ps) = kids_frame n fits s end d used v.subtrees (at + length h) (used + 1) ps in
        let long : length ms ≡ length ps = ap (λ (o : Out). length o.1) (sym e) ∙ kept.long in
        let same : (k : ℕ) → k < 72 → get_or ms (used * 72 + k) 0 ≡ get_or ps (used * 72 + k) 0 = λ k p. ap (λ (o : Out). get_or o.1 (used * 72 + k) 0) (sym e) ∙ kept.low (used * 72 + k) (omega arith) in
        settle {b = b} {ts = ts} a i u put₁ (omega arith) (word_same ps ms used long same 32 (lit≤ tt)) (name_same ps ms used long same s) c j us x y w size stored refl refl (differ? ch)

    from_head : (g : Option Fields) → head_at n s at end ≡ g → HeadSaid n s at end g → SaysNode n s end (suc d) parent at used (suc r) ns (body s (node_at n s end d) parent used ns g)
    from_head g q (head_missing none) = is_unspelled (no_head none)
    from_head g q (head_there {m = m} h v a i u t) =
        let ps : List ℕ = put_at s m parent ns used in
        let put₁ : Put parent at used ns ps v = put_node {used = used} {ns = ns} ahead low (omega arith) q t in
        let room₂ : used + 1 + r ≡ length ps / 72 = rw put₁.long (omega arith) in
        let small₂ : length ps < 256 ^ 8 = rw put₁.long small in
        let said : SaysKids n s end d used v.subtrees (at + length h) (used + 1) r ps (kids (node_at n s end d used) v.subtrees (at + length h) (used + 1) ps) =
        kids_say n fits s end inside d rec used v.subtrees (at + length h) (used + 1) r ps a (omega arith) room₂ small₂ in
        subst (λ (l : ℕ). SaysNode n s end (suc d) parent at used (suc r) ns (settled s used (kids (node_at n s end d used) l m.next (used + 1) ps))) (sym t.subtrees)
        (subst (λ (p : ℕ). SaysNode n s end (suc d) parent at used (suc r) ns (settled s used (kids (node_at n s end d used) v.subtrees p (used + 1) ps))) (sym t.next)
        (below a i u put₁ (kids (node_at n s end d used) v.subtrees (at + length h) (used + 1) ps) refl said))

  -- THE WALK
  pub node_says : (d parent at used r : ℕ) (ns : List ℕ) → at ≤ end → parent < 256 ^ 8 → used + r ≡ length ns / 72 → length ns < 256 ^ 8 → SaysNode n s end d parent at used r ns (node_at n s end d parent at used ns)
  unfolding node_at
  node_says zero parent at used r ns ahead low room small = is_deep (too_deep r)
  node_says (suc d) parent at used r ns ahead low room small = by (at_most? (length ns / 72) used) (λ p a u q ms. node_says d p a u q ms)
    where
      by : {t : Bool} → AtMost (length ns / 72) used t
          → ((p a u q : ℕ) (ms : List ℕ) → a ≤ end → p < 256 ^ 8 → u + q ≡ length ms / 72 → length ms < 256 ^ 8 → SaysNode n s end d p a u q ms (node_at n s end d p a u ms))
          → SaysNode n s end (suc d) parent at used r ns (pick t (Err Full, ns) (body s (node_at n s end d) parent used ns (head_at n s at end)))
      by (at_most h) rec = let z : 0 ≡ r = omega arith in subst (λ (q : ℕ). SaysNode n s end (suc d) parent at used q ns (Err Full, ns)) z (is_full no_room)
      by (above h) rec =
          let z : suc (r - 1) ≡ r = omega arith in
          let room₂ : used + suc (r - 1) ≡ length ns / 72 = omega arith in
          subst (λ (q : ℕ). SaysNode n s end (suc d) parent at used q ns (body s (node_at n s end d) parent used ns (head_at n s at end))) z
          (from_head d rec parent at used (r - 1) ns ahead low room₂ small (head_at n s at end) refl (head_said n s at end ahead inside))
