-- THE READER'S ANSWER of a whole file, `read_file`, which its contract cites, is one of which its rule holds, and the only one. Assumes that the file is bytes and that no slice has 2^64
-- bytes or more, a premise with a name.
use Rattle.std.specs.Prelude.{ℕ, ◌+◌, ◌-◌, ◌≤◌, ◌≡◌, refl, Bool, true, List, length, take, drop, Ok, Option, Result}
use Rattle.std.proofs.Common.{sym, ◌∙◌, subst, arith, length-append, length-drop, drop_at, drop-drop, length-take-le}
use Rattle.std.proofs.Math.Path.{ap}
use Rattle.std.proofs.Math.Bool.{false}
use Rattle.laws.specs.Pick.{pick}
use Rattle.format.specs.Format.{depth_limit}
use Rattle.kind.specs.Kind.{Kind}
use Rattle.decode.specs.Header.{header_at}
use Rattle.decode.specs.Entries as ran
use Rattle.extension.specs.Decode.{all_at}
use Rattle.tree.specs.Tree.{read_tree}
use Rattle.file.specs.Trailer.{good_trailer, good_exactly}
use Rattle.file.specs.Read.{Outcome, grown_into, on_space, extensions_into, with_nodes, after_entries, entries_into, read_file}
use Rattle.file.specs.declared.Entries.{Entries as Sofar}
use Rattle.grammar.specs.Entry.{Meaning}
use Rattle.grammar.specs.Extension.{Ext, TREE, Extensions, LastSigned}
use Rattle.grammar.specs.File.{header_length, Sparse, Tells, version_of, count_of, space, GoodHeader}
use Rattle.grammar.proofs.DecideFile.{tells_unique}
use Rattle.claims_entries.specs.Rendering.{records_bytes, paths_bytes, sparse_by, sparse_tells}
use Rattle.claims_entries.specs.Said as entry
use Rattle.claims_entries.proofs.Claims as entries
use Rattle.claims_extension.specs.Said as ext
use Rattle.claims_extension.proofs.Claims as extensions
use Rattle.claims_extension.specs.Body.{BodyAt}
use Rattle.claims_tree.specs.Said as tree
use Rattle.claims_tree.specs.Claims as trees
use Rattle.claims.specs.Premises.{Slices}
use Rattle.claims.specs.Header.{says_short, says_no_signature, says_other_version, says_opens, SaysHeader, header_says, one_header}
use Rattle.claims.specs.Said as said
use Rattle.decode.specs.declared.header.Error.{Error as HeaderError}
use Rattle.decode.specs.declared.header.Header.{Header}
use Rattle.extension.specs.Made.{filled_by}
use Rattle.extension.specs.declared.decode.Error.{Error as SpaceError}
use Rattle.extension.specs.declared.decode.Filled.{Filled}
use Rattle.extension.specs.declared.iter.Body.{Body}
use Rattle.tree.specs.declared.Error.{Error as TreeError}

module _ (kind : Kind) where
  module _ (s rs ps ns : List ℕ) (slices : Slices s ps ns) where
    abbrev end : ℕ
    end = length s - kind.id

    abbrev reading : Outcome
    reading = read_file kind depth_limit s rs ps ns

    -- ---- header and trailer

    headed : {h : Result Header HeaderError} → SaysHeader kind.id s h → header_at kind.id s ≡ h
    headed x = one_header (header_says kind.id s slices.bytes) x

    untrue : (t : Bool) → (t ≡ true → ⊥) → t ≡ false
    untrue true f = absurd (f refl)
    untrue false f = refl

    opened : said.Opened kind s → reading ≡ entries_into kind.id depth_limit s (version_of s) (count_of s) rs ps ns
    unfolding read_file
    opened o = rw (headed (says_opens o.header), (good_exactly kind s).1 o.trailer)

    -- ---- the entries

    space_in : said.Opened kind s → entry.SpaceIn s header_length end
    space_in o = record { ahead = omega (arith, o.header.long); inside = omega arith }

    entries_are : said.Opened kind s → {o : ran.Outcome} → entry.SaysRead kind.id (version_of s) header_length (space kind.id s) (count_of s) rs ps o
        → reading ≡ after_entries kind.id depth_limit s (version_of s) (count_of s) ns o
    unfolding entries_into
    entries_are o x = opened o ∙ ap (after_entries kind.id depth_limit s (version_of s) (count_of s) ns) (entries.no_second_answer kind.id kind.fits s slices.bytes (version_of s) header_length end (count_of s) (space_in o) rs ps x)

    -- what was read of header and entries
    abbrev sofar : List Meaning → Sofar
    sofar ms = record { version = version_of s; sparse = sparse_by false ms; records = count_of s; used = length (paths_bytes ms) }

    module _ (o : said.Opened kind s) {b c : List ℕ} {ms : List Meaning} (a : said.AllEntries kind s rs ps ns b c ms) where
      abbrev next : ℕ
      next = header_length + length b

      -- what is behind the entries, by its place
      behind : drop next (take end s) ≡ c
      behind = sym (drop-drop (length b) header_length (take end s)) ∙ ap (λ (l : List ℕ). drop (length b) l) a.joins ∙ drop_at b c (length b) refl

      ahead : next ≤ end
      ahead =
          let h : header_length + kind.id ≤ length s = o.header.long in
          let l : length (space kind.id s) ≡ end - header_length = length-drop header_length (take end s) ∙ ap (λ (k : ℕ). k - header_length) (length-take-le end s (omega arith)) in
          omega (arith, ap length a.joins, length-append b c)

      inside : end ≤ length s
      inside = omega arith

      all_read : {w : Result Filled SpaceError} → all_at s next end ≡ w
          → reading ≡ with_nodes (entry.filled rs (records_bytes kind.id 0 ms)) (entry.filled ps (paths_bytes ms)) (on_space kind.id depth_limit s (sofar ms) ns w)
      unfolding extensions_into
      all_read e =
          entries_are o (entry.says_done c a.joins a.spelled a.fits)
          ∙ ap (λ (v : Result Filled SpaceError). with_nodes (entry.filled rs (records_bytes kind.id 0 ms)) (entry.filled ps (paths_bytes ms)) (on_space kind.id depth_limit s (sofar ms) ns v)) e

      -- ---- the extensions

      all_is : {w : Result Filled SpaceError} → ext.SaysExtensions next c w → all_at s next end ≡ w
      all_is {w} x = extensions.no_second_answer s slices.bytes next end ahead inside (subst (λ (l : List ℕ). ext.SaysExtensions next l w) (sym behind) x)

      all_says : ext.SaysExtensions next c (all_at s next end)
      all_says = subst (λ (l : List ℕ). ext.SaysExtensions next l (all_at s next end)) behind (extensions.answer_says s slices.bytes next end ahead inside)

      -- where they are spelled, the walk tells the mark and the last TREE's place
      filled_space : {es : List Ext} {sparse : Bool} {body : Option Body} → Extensions c es → Tells (Sparse ms es) sparse → ext.SaysBody TREE next es body
          → (mark : Bool) × (all_at s next end ≡ Ok (filled_by mark (record { tree = body }))) × (pick mark true (sparse_by false ms) ≡ sparse)
      filled_space {es} {sparse} {body} x t l =
          let x' : Extensions (drop next (take end s)) es = subst (λ (z : List ℕ). Extensions z es) (sym behind) x in
          let (mark, bodies, e) = (extensions.filled_exactly_if_spelled s slices.bytes next end ahead inside).1 (es, x') in
          let m : Tells (ext.HasSdir es) mark = ((extensions.filled_exactly s slices.bytes next end ahead inside es x' mark bodies).0 e).0 in
          (mark, all_is (ext.says_filled x m (record { tree = l })), tells_unique (ext.either_marks (sparse_tells ms) m) t)

      -- ---- the tree

      module _ {es : List Ext} {place : ℕ} {body : List ℕ} (x : Extensions c es) (l : LastSigned TREE next es place body) where
        stop : ℕ
        stop = place + length body

        pub at_its_place : BodyAt s end place body
        at_its_place = extensions.body_is_the_bytes s slices.bytes next end ahead inside es (subst (λ (z : List ℕ). Extensions z es) (sym behind) x) place body l

        pub tree_is : {p : Result (Option ℕ) TreeError × List ℕ} → tree.SaysReadTree kind.id place body depth_limit ns p → read_tree kind.id depth_limit s place (place + length body) ns ≡ p
        tree_is {p} y =
            trees.no_second_answer kind.id kind.fits depth_limit s place (place + length body) ns (omega (arith, at_its_place.fits)) slices.file slices.nodes
            (subst (λ (z : List ℕ). tree.SaysReadTree kind.id place z depth_limit ns p) (sym at_its_place.is) y)

        tree_says : tree.SaysReadTree kind.id place body depth_limit ns (read_tree kind.id depth_limit s place (place + length body) ns)
        tree_says =
            subst (λ (z : List ℕ). tree.SaysReadTree kind.id place z depth_limit ns (read_tree kind.id depth_limit s place (place + length body) ns)) at_its_place.is
            (trees.answer_says kind.id kind.fits depth_limit s place (place + length body) ns (omega (arith, at_its_place.fits)) slices.file slices.nodes)

    -- the last TREE, read
    tree_read : said.Opened kind s → {b c : List ℕ} {ms : List Meaning} {es : List Ext} {sparse : Bool} {place : ℕ} {body : List ℕ} → (w : said.WithTree kind s rs ps ns b c ms es sparse place body)
        → {p : Result (Option ℕ) TreeError × List ℕ} → tree.SaysReadTree kind.id place body depth_limit ns p
        → reading ≡ with_nodes (entry.filled rs (records_bytes kind.id 0 ms)) (entry.filled ps (paths_bytes ms)) (grown_into (record { version = version_of s; sparse = sparse; records = count_of s; used = length (paths_bytes ms) }) p)
    tree_read o {ms = ms} w y =
        let (mark, e, q) = filled_space o w.entries w.extensions w.mark (ext.says_lies w.last) in
        all_read o w.entries e
        ∙ (λ i. with_nodes (entry.filled rs (records_bytes kind.id 0 ms)) (entry.filled ps (paths_bytes ms))
        (grown_into (record { version = version_of s; sparse = q i; records = count_of s; used = length (paths_bytes ms) }) (tree_is o w.entries w.extensions w.last y i)))

    -- ---- an answer of which its rule holds is the one that is given
    pub no_second_answer : {o : Outcome} → said.SaysFile kind s rs ps ns o → reading ≡ o
    unfolding read_file
    no_second_answer (said.says_short h) = rw (headed (says_short h))
    no_second_answer (said.says_no_signature h d) = rw (headed (says_no_signature h d))
    no_second_answer (said.says_other_version h d e) = rw (headed (says_other_version h d e))
    no_second_answer (said.says_bad_trailer g t) = rw (headed (says_opens g), untrue (good_trailer kind s) (λ e. t ((good_exactly kind s).0 e)))
    no_second_answer (said.says_not_spelled o rest h i x f none) = entries_are o (entry.says_not_spelled rest h i x f none)
    no_second_answer (said.says_no_entry_room o rest q h i x f y lacks) = entries_are o (entry.says_no_room rest q h i x f y lacks)
    no_second_answer (said.says_not_filled o a f) = all_read o a (all_is o a (ext.says_not_filled f))
    no_second_answer (said.says_mandatory o a f) = all_read o a (all_is o a (ext.says_mandatory f))
    no_second_answer (said.says_no_TREE o {ms = ms} a x t n) =
        let (mark, e, q) = filled_space o a x t (ext.says_missing n) in
        all_read o a e ∙ (λ i. said.holding kind s rs ps ns ms (said.read_as kind s rs ps ns (q i) false ms 0))
    no_second_answer (said.says_tree o w x h k) = tree_read o w (tree.says_tree x h k)
    no_second_answer (said.says_malformed o w f d e) = tree_read o w (tree.says_malformed f d e)
    no_second_answer (said.says_too_deep o w d) = tree_read o w (tree.says_too_deep d)
    no_second_answer (said.says_no_node_room o w f d) = tree_read o w (tree.says_no_room f d)

    -- ---- there is an answer of which its rule holds
    abbrev Some : Type 0
    Some = (o : Outcome) × said.SaysFile kind s rs ps ns o

    some_tree : said.Opened kind s → {b c : List ℕ} {ms : List Meaning} {es : List Ext} {sparse : Bool} {place : ℕ} {body : List ℕ} → said.WithTree kind s rs ps ns b c ms es sparse place body
        → {p : Result (Option ℕ) TreeError × List ℕ} → tree.SaysReadTree kind.id place body depth_limit ns p → Some
    some_tree o w (tree.says_tree x h k) = (_, said.says_tree o w x h k)
    some_tree o w (tree.says_too_deep d) = (_, said.says_too_deep o w d)
    some_tree o w (tree.says_no_room f d) = (_, said.says_no_node_room o w f d)
    some_tree o w (tree.says_malformed f d e) = (_, said.says_malformed o w f d e)

    some_extensions : said.Opened kind s → {b c : List ℕ} {ms : List Meaning} → said.AllEntries kind s rs ps ns b c ms → {w : Result Filled SpaceError} → ext.SaysExtensions (header_length + length b) c w → Some
    some_extensions o a (ext.says_not_filled f) = (_, said.says_not_filled o a f)
    some_extensions o a (ext.says_mandatory f) = (_, said.says_mandatory o a f)
    some_extensions o {b = b} {ms = ms} a (ext.says_filled {es = es} {sparse = mark} x m bodies) = by bodies.tree
      where
        by : {body : Option Body} → ext.SaysBody TREE (header_length + length b) es body → Some
        by (ext.says_missing n) = (_, said.says_no_TREE o a x (ext.either_marks (sparse_tells ms) m) n)
        by (ext.says_lies l) = some_tree o (record { entries = a; extensions = x; mark = ext.either_marks (sparse_tells ms) m; last = l }) (tree_says o a x l)

    some_entries : said.Opened kind s → {o : ran.Outcome} → entry.SaysRead kind.id (version_of s) header_length (space kind.id s) (count_of s) rs ps o → Some
    some_entries o (entry.says_done {b = b} {ms = ms} rest i x f) = let a : said.AllEntries kind s rs ps ns b rest ms = record { joins = i; spelled = x; fits = f } in some_extensions o a (all_says o a)
    some_entries o (entry.says_not_spelled rest h i x f none) = (_, said.says_not_spelled o rest h i x f none)
    some_entries o (entry.says_no_room rest q h i x f y lacks) = (_, said.says_no_entry_room o rest q h i x f y lacks)

    some_trailer : GoodHeader kind.id s → (t : Bool) → good_trailer kind s ≡ t → Some
    some_trailer g true e =
        let o : said.Opened kind s = record { header = g; trailer = (good_exactly kind s).0 e } in
        some_entries o (entries.answer_says kind.id kind.fits s slices.bytes (version_of s) header_length end (count_of s) (space_in o) rs ps)
    some_trailer g false e = (_, said.says_bad_trailer g (λ t. let q : good_trailer kind s ≡ true = (good_exactly kind s).1 t in let z : ◌≡◌ {A = ℕ} 0 1 = cc in omega arith))

    some_header : {h : Result Header HeaderError} → SaysHeader kind.id s h → Some
    some_header (says_short h) = (_, said.says_short h)
    some_header (says_no_signature h d) = (_, said.says_no_signature h d)
    some_header (says_other_version h d e) = (_, said.says_other_version h d e)
    some_header (says_opens g) = some_trailer g (good_trailer kind s) refl

    -- so of the answer that is given its rule holds
    pub answer_says : said.SaysFile kind s rs ps ns reading
    answer_says = let (o, x) = some_header (header_says kind.id s slices.bytes) in subst (said.SaysFile kind s rs ps ns) (sym (no_second_answer x)) x
