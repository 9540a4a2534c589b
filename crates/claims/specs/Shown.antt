-- WHAT IS READ IS SHOWN, of a whole file: where the answer is Read, record i of the record store shows entry i of the one meaning of the file through every
-- accessor, and its path lies in the path store; and where that meaning has a tree, node i of the node store shows node i of it. So do the first records and
-- nodes alone, as many as the answer tells. Assumes that the file is bytes and that no slice has 2^64 bytes or more, the premise `Slices`.
use Rattle.std.specs.Prelude.{ℕ, ◌+◌, ◌-◌, ◌*◌, ◌≤◌, ◌≡◌, Bool, List, [], ◌∷◌, length, take, drop, Ok, Some}
use Rattle.std.proofs.Common.{ap, subst, arith, length-append, length-take-le}
use Rattle.std.proofs.Math.Option.{Option, none, some}
use Rattle.format.specs.Format.{depth_limit}
use Rattle.kind.specs.Kind.{Kind}
use Rattle.entry.specs.Layout.{record_size}
use Rattle.entry.specs.Paths.{Paths, lying_in}
use Rattle.entry.specs.Record.{records_in}
use Rattle.node.specs.Head.{minus_one}
use Rattle.node.specs.Store.{node_size, nodes_in}
use Rattle.tree.specs.Tree.{read_tree}
use Rattle.file.specs.Read.{Outcome, outcome, read_file}
use Rattle.grammar.specs.Entry.{Meaning}
use Rattle.grammar.specs.Extension.{Ext, TREE, Extensions, LastSigned}
use Rattle.grammar.specs.Tree.{Tree, depth, nodes, Node}
use Rattle.grammar.specs.File.{Index, header_length, spelled, malformed, absent, File, version_of, count_of}
use Rattle.grammar.proofs.Space.{spells, space_spelled}
use Rattle.grammar.proofs.Unique.{tree_unique}
use Rattle.claims_entries.specs.Rendering.{records_bytes, paths_bytes}
use Rattle.claims_entries.specs.Said.{SpaceIn, filled}
use Rattle.claims_entries.proofs.Fields.{meaning_at_lem}
use Rattle.claims_entries.specs.Shown.{EachShown}
use Rattle.claims_entries.proofs.Shown.{stored_entries_show}
use Rattle.claims_tree.specs.Rendering.{tree_bytes}
use Rattle.claims_tree.specs.Said as tree
use Rattle.claims_tree.specs.Said.{lent}
use Rattle.claims_tree.specs.Shown.{ShowsTree, tree_length, read_is_shown}
use Rattle.claims.specs.Premises.{Slices}
use Rattle.claims.specs.Said.{Opened, AllEntries, SaysFile, says_no_TREE, says_tree, says_malformed}
use Rattle.claims.specs.Reading as reader
use Rattle.claims.specs.Claims.{nodes_of, Renders, IsRead, accepted_is_the_one_meaning}
use Rattle.claims.specs.First.{each_shown_first, tree_shown_first}
use Rattle.file.specs.Made.{read_with_all}
use Rattle.file.specs.declared.Reading.{Reading}

no_tree : {A : Type 0} {t : Tree} → ◌≡◌ {A = Option Tree} none (some t) → A
no_tree e = let z : ◌≡◌ {A = ℕ} 0 1 = cc in absurd (omega arith)

same_tree : {t u : Tree} → ◌≡◌ {A = Option Tree} (some t) (some u) → t ≡ u
same_tree e = cc

module _ (kind : Kind) where
  -- these stores show the index m of the file s: each record its entry, and each node its node, from the root, number 0, on; and they have that many
  pub record ShowsIndex (s rs : List ℕ) (ps : Paths) (ns : List ℕ) (m : Index) : Type 0 where
    pub records : length m.entries ≤ records_in rs
    pub entries : EachShown kind.id rs ps m.entries
    pub nodes : nodes_of m.tree ≤ nodes_in ns
    pub tree : (t : Tree) → m.tree ≡ some t → ShowsTree s ns minus_one 0 t

  -- and then the first records and nodes show it, as many as the index has
  pub shown_by_the_first : {s rs : List ℕ} {ps : Paths} {ns : List ℕ} (m : Index) → ShowsIndex s rs ps ns m
      → ShowsIndex s (take (length m.entries * record_size) rs) ps (take (nodes_of m.tree * node_size) ns) m
  shown_by_the_first {s} {rs} {ps} {ns} m x =
      record {
        records = omega (arith, length-take-le (length m.entries * record_size) rs (omega (arith, x.records)));
        nodes = omega (arith, length-take-le (nodes_of m.tree * node_size) ns (omega (arith, x.nodes)));
        entries = each_shown_first kind.fits (length m.entries) rs ps m.entries (omega arith) x.entries;
        tree = λ t e. tree_shown_first (nodes_of m.tree) s ns t minus_one 0 (omega (arith, ap nodes_of e)) (x.tree t e);
      }

  -- each record that shows an entry is there
  all_there : {rs : List ℕ} {ps : Paths} (ms : List Meaning) → EachShown kind.id rs ps ms → length ms ≤ records_in rs
  all_there [] shown = omega arith
  all_there (m ∷ ms) shown = let (o, e) = meaning_at_lem (m ∷ ms) (length ms) (omega arith) in (shown (length ms) o e).there

  nodes_there : {place : ℕ} {body : List ℕ} {t : Tree} (ns : List ℕ) → Node kind.id place body t → nodes t ≤ nodes_in (filled ns (tree_bytes t))
  nodes_there {t = t} ns x = omega (arith, length-append (tree_bytes t) (drop (length (tree_bytes t)) ns), tree_length kind.id kind.fits t x minus_one 0)

  module _ (s rs ps ns : List ℕ) (slices : Slices s ps ns) where
    abbrev reading : Outcome
    reading = read_file kind depth_limit s rs ps ns

    abbrev end : ℕ
    end = length s - kind.id

    module _ (o : Opened kind s) {b c : List ℕ} {ms : List Meaning} (a : AllEntries kind s rs ps ns b c ms) where
      entries_shown : EachShown kind.id (filled rs (records_bytes kind.id 0 ms)) (lying_in (filled ps (paths_bytes ms))) ms
      entries_shown =
          let there : SpaceIn s header_length end = record { ahead = omega (arith, o.header.long); inside = omega arith } in
          stored_entries_show kind.id kind.fits s slices.bytes (version_of s) header_length end (count_of s) there rs ps slices.paths (count_of s) ms c (b, a.joins, a.spelled) a.fits

      records_there : length ms ≤ records_in (filled rs (records_bytes kind.id 0 ms))
      records_there = all_there ms entries_shown

      none_there : {version : ℕ} {sparse : Bool} {l : List ℕ}
          → ShowsIndex s (filled rs (records_bytes kind.id 0 ms)) (lying_in (filled ps (paths_bytes ms))) l (record { version = version; sparse = sparse; entries = ms; tree = none })
      none_there = record { records = records_there; entries = entries_shown; nodes = omega arith; tree = λ t e. no_tree e }

      tree_shown : {es : List Ext} {place : ℕ} {body : List ℕ} {t : Tree} → Extensions c es → LastSigned TREE (header_length + length b) es place body → Node kind.id place body t
          → depth t ≤ depth_limit → nodes t ≤ lent ns → ShowsTree s (filled ns (tree_bytes t)) minus_one 0 t
      tree_shown {place = place} {body = body} {t = t} x l n h k =
          let at = reader.at_its_place kind s rs ps ns slices o a x l in
          let stop : ℕ = place + length body in
          let there : SpaceIn s place stop = record { ahead = omega arith; inside = omega (arith, at.fits) } in
          let q : read_tree kind.id depth_limit s place stop ns ≡ (Ok (Some (nodes t)), filled ns (tree_bytes t)) = reader.tree_is kind s rs ps ns slices o a x l (tree.says_tree n h k) in
          let (u, y, e, shown) = read_is_shown kind.id kind.fits depth_limit s place stop ns there slices.file slices.nodes (nodes t) (filled ns (tree_bytes t)) q in
          subst (λ (v : Tree). ShowsTree s (filled ns (tree_bytes t)) minus_one 0 v) (tree_unique (subst (λ (z : List ℕ). Node kind.id place z u) at.is y) n) shown

    -- what is said where the answer is Read is spelled and shown
    spelled_and_shown : {r : Reading} {rs₁ ps₁ ns₁ : List ℕ} → SaysFile kind s rs ps ns (outcome (Ok r) rs₁ ps₁ ns₁)
        → (m : Index) × File kind.id s m × ShowsIndex s rs₁ (lying_in ps₁) ns₁ m
    spelled_and_shown (says_no_TREE o a y t f) =
        (_, space_spelled o.header (spells a.joins a.spelled y t (absent f)), none_there o a)
    spelled_and_shown (says_tree o {t = t} w x h k) = (
      _,
      space_spelled o.header (spells w.entries.joins w.entries.spelled w.extensions w.mark (spelled w.last x)),
      record {
        records = records_there o w.entries;
        entries = entries_shown o w.entries;
        nodes = nodes_there ns x;
        tree = λ v e. subst (λ (u : Tree). ShowsTree s (filled ns (tree_bytes t)) minus_one 0 u) (same_tree e) (tree_shown o w.entries w.extensions w.last x h k);
      },
    )
    spelled_and_shown (says_malformed o w f d e) = (
      _,
      space_spelled o.header (spells w.entries.joins w.entries.spelled w.extensions w.mark (malformed w.last (λ v x. f (v, x)))),
      none_there o w.entries,
    )

    -- ---- THE THEOREM
    pub accepted_is_shown : IsRead reading.answer
        → (m : Index) × File kind.id s m × ((o : Index) → File kind.id s o → o ≡ m) × Renders kind s rs ps ns m reading × ShowsIndex s reading.records (lying_in reading.paths) reading.nodes m
    accepted_is_shown (r, q) =
        let (m, x, y, one) = accepted_is_the_one_meaning kind s rs ps ns slices (r, q) in
        let (o, z, shown) = spelled_and_shown (subst (SaysFile kind s rs ps ns) (λ i. outcome (q i) reading.records reading.paths reading.nodes) (reader.answer_says kind s rs ps ns slices)) in
        (m, x, one, y, subst (ShowsIndex s reading.records (lying_in reading.paths) reading.nodes) (one o z) shown)
