-- DEMAND 3, on whole files of every kind. With a good trailer, room for the entries before the first not spelled and a walk of the last TREE that stays within the depth limit and the nodes lent: the
-- reader accepts a file exactly if the grammar spells it, and answer and stores are the rendering of the one meaning. With that trailer, that room and a good header, 5 is given exactly when;
-- each other refusal is given exactly when, and what is read is spelled and rendered, whatever the file and the stores. Assumes that the file is bytes and that no slice has 2^64 bytes or
-- more, the premise `Slices`.
use Rattle.std.specs.Prelude.{ℕ, ◌+◌, ◌≤◌, ◌<◌, ◌≡◌, refl, Bool, true, false, List, ◌++◌, ◌↔◌, length, take, Err, Ok, Result}
use Rattle.std.proofs.Common.{sym, ap, ◌∙◌, subst, arith}
use Rattle.std.proofs.Math.Option.{Option, none, some}
use Rattle.format.specs.Format.{depth_limit}
use Rattle.kind.specs.Kind.{Kind}
use Rattle.file.specs.Read.{Outcome, outcome, read_file}
use Rattle.grammar.specs.Number.{big_endian}
use Rattle.grammar.specs.Entry.{Meaning, start, Entries}
use Rattle.grammar.specs.Extension.{Ext, TREE, Extensions, NoneSigned, LastSigned}
use Rattle.grammar.specs.Tree.{Tree, nodes}
use Rattle.grammar.specs.File.{Index, DIRC, header_length, Supported, Sparse, Tells, CacheTree, spelled, malformed, absent, File, version_of, count_of, space, GoodHeader}
use Rattle.grammar.proofs.Space.{Spells, spells, spelled_has_good_header, spelled_in_space, space_spelled}
use Rattle.grammar.specs.Fault.{stray, refused, Faulty}
use Rattle.grammar.proofs.Reach.{depth_within, nodes_within}
use Rattle.grammar.proofs.Unique.{one_meaning}
use Rattle.claims_entries.specs.Rendering.{records_bytes, paths_bytes}
use Rattle.claims_entries.specs.Said.{filled, StopsAt, RoomFor, LacksRoomAt}
use Rattle.claims_entries.proofs.Fields.{spelled_length}
use Rattle.claims_tree.specs.Rendering.{tree_bytes}
use Rattle.claims_tree.specs.Said.{zeroed, lent, GoesTooDeep, UsesUp, SpellsTree, KeepsWithinDepth, HasRoom}
use Rattle.claims.specs.Premises.{Slices, GoodTrailer}
use Rattle.claims.specs.Said.{Opened, holding, holding_all, read_as, AllEntries, WithTree, SaysFile, says_short, says_no_signature, says_other_version, says_bad_trailer, says_not_spelled, says_no_entry_room, says_not_filled, says_mandatory, says_no_TREE, says_tree, says_malformed, says_too_deep, says_no_node_room}
use Rattle.claims.specs.Reading as reader
use Rattle.file.specs.declared.Error.TheVariants as answer
use Rattle.file.specs.Made.{read_with_all}
use Rattle.file.specs.declared.Error.{Error as FileError}
use Rattle.file.specs.declared.Reading.{Reading}

-- ---- the answer that renders a meaning

abbrev pub has_tree : Option Tree → Bool
has_tree (some t) = true
has_tree none = false

abbrev pub nodes_of : Option Tree → ℕ
nodes_of (some t) = nodes t
nodes_of none = 0

abbrev pub answer_of : Index → Result Reading FileError
answer_of m = Ok (read_with_all m.version m.sparse (has_tree m.tree) (length m.entries) (length (paths_bytes m.entries)) (nodes_of m.tree))

-- an answer is Read
abbrev pub IsRead : Result Reading FileError → Type 0
IsRead a = (r : Reading) × (a ≡ Ok r)

module _ (kind : Kind) where
  -- ---- of the file, in the grammar's terms

  -- what is behind the entries is extensions, of which the last TREE has this body
  pub record LastTREE (s : List ℕ) (place : ℕ) (body : List ℕ) : Type 0 where
    pub b : List ℕ
    pub c : List ℕ
    pub ms : List Meaning
    pub es : List Ext
    pub joins : space kind.id s ≡ b ++ c
    pub entries : Entries kind.id (version_of s) start (count_of s) b ms
    pub extensions : Extensions c es
    pub last : LastSigned TREE (header_length + length b) es place body

  -- there is no TREE behind the entries
  pub record NoTREE (s : List ℕ) : Type 0 where
    pub b : List ℕ
    pub c : List ℕ
    pub ms : List Meaning
    pub es : List Ext
    pub joins : space kind.id s ≡ b ++ c
    pub entries : Entries kind.id (version_of s) start (count_of s) b ms
    pub extensions : Extensions c es
    pub no_last : NoneSigned TREE es

  -- the premise on the tree, of the walk alone: no node should begin deeper than the limit, and none after as many heads as nodes are lent
  abbrev pub TreeFits : List ℕ → List ℕ → Type 0
  TreeFits s ns = (place : ℕ) (body : List ℕ) → LastTREE s place body → KeepsWithinDepth kind.id body depth_limit × HasRoom kind.id body (lent ns)

  -- ---- the rendering of a meaning in the stores

  -- the node store: the tree's nodes in front; zeros where the last TREE spells none; as it was where there is no TREE
  pub data NodesAfter (s ns : List ℕ) : Option Tree → List ℕ → Type 0 where
    the_tree : {t : Tree} → NodesAfter s ns (some t) (filled ns (tree_bytes t))
    no_tree_spelled : {place : ℕ} {body : List ℕ} → LastTREE s place body → ¬ SpellsTree kind.id place body → NodesAfter s ns none (zeroed ns)
    no_TREE_there : NoTREE s → NodesAfter s ns none ns

  pub record Renders (s rs ps ns : List ℕ) (m : Index) (o : Outcome) : Type 0 where
    pub answer : o.answer ≡ answer_of m
    pub records : o.records ≡ filled rs (records_bytes kind.id 0 m.entries)
    pub paths : o.paths ≡ filled ps (paths_bytes m.entries)
    pub nodes : NodesAfter s ns m.tree o.nodes

  module _ (s rs ps ns : List ℕ) (slices : Slices s ps ns) where
    abbrev reading : Outcome
    reading = read_file kind depth_limit s rs ps ns

    says : SaysFile kind s rs ps ns reading
    says = reader.answer_says kind s rs ps ns slices

    only : {o : Outcome} → SaysFile kind s rs ps ns o → reading ≡ o
    only = reader.no_second_answer kind s rs ps ns slices

    -- what is said of an answer that is given
    given : {a : Result Reading FileError} → reading.answer ≡ a → reading ≡ outcome a reading.records reading.paths reading.nodes
    given q = λ i. outcome (q i) reading.records reading.paths reading.nodes

    told : {a : Result Reading FileError} → reading.answer ≡ a → SaysFile kind s rs ps ns (outcome a reading.records reading.paths reading.nodes)
    told q = subst (SaysFile kind s rs ps ns) (given q) says

    gives : {o : Outcome} → SaysFile kind s rs ps ns o → reading.answer ≡ o.answer
    gives x = ap (λ (o : Outcome). o.answer) (only x)

    -- ---- 1 to 4
    pub refusal_1_exactly : (reading.answer ≡ Err answer.ShortFile) ↔ (length s < header_length + kind.id)
    refusal_1_exactly = ((λ q. to (told q)), (λ h. gives (says_short h)))
      where
        to : {r p n : List ℕ} → SaysFile kind s rs ps ns (outcome (Err answer.ShortFile) r p n) → length s < header_length + kind.id
        to (says_short h) = h

    pub refusal_2_exactly : (reading.answer ≡ Err answer.NoSignature) ↔ ((header_length + kind.id ≤ length s) × ¬ (take 4 s ≡ DIRC))
    refusal_2_exactly = ((λ q. to (told q)), (λ (h, d). gives (says_no_signature h d)))
      where
        to : {r p n : List ℕ} → SaysFile kind s rs ps ns (outcome (Err answer.NoSignature) r p n) → (header_length + kind.id ≤ length s) × ¬ (take 4 s ≡ DIRC)
        to (says_no_signature h d) = (h, d)

    pub refusal_3_exactly : (v : ℕ) → (reading.answer ≡ Err (answer.OtherVersion v)) ↔ ((header_length + kind.id ≤ length s) × (take 4 s ≡ DIRC) × (¬ Supported (version_of s)) × (v ≡ version_of s))
    refusal_3_exactly v = ((λ q. to (told q)), (λ (h, d, e, f). gives (says_other_version h d e) ∙ ap (λ (k : ℕ). Err (answer.OtherVersion k)) (sym f)))
      where
        to : {v : ℕ} {r p n : List ℕ} → SaysFile kind s rs ps ns (outcome (Err (answer.OtherVersion v)) r p n) → (header_length + kind.id ≤ length s) × (take 4 s ≡ DIRC) × (¬ Supported (version_of s)) × (v ≡ version_of s)
        to (says_other_version h d e) = (h, d, e, refl)

    pub refusal_4_exactly : (reading.answer ≡ Err answer.BadTrailer) ↔ (GoodHeader kind.id s × ¬ GoodTrailer kind s)
    refusal_4_exactly = ((λ q. to (told q)), (λ (g, t). gives (says_bad_trailer g t)))
      where
        to : {r p n : List ℕ} → SaysFile kind s rs ps ns (outcome (Err answer.BadTrailer) r p n) → GoodHeader kind.id s × ¬ GoodTrailer kind s
        to (says_bad_trailer g t) = (g, t)

    -- ---- 6, which needs no room
    pub refusal_6_exactly : (k : ℕ) → (reading.answer ≡ Err (answer.NoEntryRoom k)) ↔ (Opened kind s × LacksRoomAt kind.id (version_of s) (space kind.id s) (count_of s) rs ps k)
    refusal_6_exactly k = ((λ q. to (told q)), (λ (o, (h, (ms, rest, m, q, (b, i, x), f, y, lacks))). gives (says_no_entry_room o rest q h i x f y lacks)))
      where
        to : {k : ℕ} {r p n : List ℕ} → SaysFile kind s rs ps ns (outcome (Err (answer.NoEntryRoom k)) r p n) → Opened kind s × LacksRoomAt kind.id (version_of s) (space kind.id s) (count_of s) rs ps k
        to (says_no_entry_room o {b = b} {ms = ms} {m = m} rest q h i x f y lacks) = (o, (h, (ms, rest, m, q, (b, i, x), f, y, lacks)))

    -- ---- 7 to 10, with room for all entries

    -- the space is as many entries as the header says, which have room, and what is behind them
    abbrev pub Behind : (List ℕ → List ℕ → List Meaning → Type 0) → Type 0
    Behind P = (b c : List ℕ) × (ms : List Meaning) × AllEntries kind s rs ps ns b c ms × P b c ms

    pub refusal_7_exactly : (place : ℕ) → (reading.answer ≡ Err (answer.NotFilled place)) ↔ (Opened kind s × Behind (λ b c ms. Faulty (header_length + length b) c (stray place)))
    refusal_7_exactly place = ((λ q. to (told q)), (λ (o, (b, c, ms, a, f)). gives (says_not_filled o a f)))
      where
        to : {place : ℕ} {r p n : List ℕ} → SaysFile kind s rs ps ns (outcome (Err (answer.NotFilled place)) r p n) → Opened kind s × Behind (λ b c ms. Faulty (header_length + length b) c (stray place))
        to (says_not_filled o {b = b} {c = c} {ms = ms} a f) = (o, (b, c, ms, a, f))

    pub refusal_8_exactly : (v : ℕ) → (reading.answer ≡ Err (answer.Mandatory v))
        ↔ (Opened kind s × Behind (λ b c ms. (signature : List ℕ) × Faulty (header_length + length b) c (refused signature) × (v ≡ big_endian signature)))
    refusal_8_exactly v = ((λ q. to (told q)), (λ (o, (b, c, ms, a, (signature, f, e))). gives (says_mandatory o a f) ∙ ap (λ (k : ℕ). Err (answer.Mandatory k)) (sym e)))
      where
        to : {v : ℕ} {r p n : List ℕ} → SaysFile kind s rs ps ns (outcome (Err (answer.Mandatory v)) r p n)
            → Opened kind s × Behind (λ b c ms. (signature : List ℕ) × Faulty (header_length + length b) c (refused signature) × (v ≡ big_endian signature))
        to (says_mandatory o {b = b} {c = c} {ms = ms} {signature = signature} a f) = (o, (b, c, ms, a, (signature, f, refl)))

    -- and what is behind them is extensions, of which the last TREE has this body
    abbrev pub BehindIsTREE : (ℕ → List ℕ → Type 0) → Type 0
    BehindIsTREE P = (b c : List ℕ) × (ms : List Meaning) × (es : List Ext) × (sparse : Bool) × (place : ℕ) × (body : List ℕ) × WithTree kind s rs ps ns b c ms es sparse place body × P place body

    pub refusal_9_exactly : (reading.answer ≡ Err answer.TooDeep) ↔ (Opened kind s × BehindIsTREE (λ place body. GoesTooDeep kind.id body depth_limit (lent ns)))
    refusal_9_exactly = ((λ q. to (told q)), (λ (o, (b, c, ms, es, sparse, place, body, w, d)). gives (says_too_deep o w d)))
      where
        to : {r p n : List ℕ} → SaysFile kind s rs ps ns (outcome (Err answer.TooDeep) r p n) → Opened kind s × BehindIsTREE (λ place body. GoesTooDeep kind.id body depth_limit (lent ns))
        to (says_too_deep o {b = b} {c = c} {ms = ms} {es = es} {sparse = sparse} {place = place} {body = body} w d) = (o, (b, c, ms, es, sparse, place, body, w, d))

    pub refusal_10_exactly : (reading.answer ≡ Err answer.NoNodeRoom) ↔ (Opened kind s × BehindIsTREE (λ place body. UsesUp kind.id body (lent ns) × ¬ GoesTooDeep kind.id body depth_limit (lent ns)))
    refusal_10_exactly = ((λ q. to (told q)), (λ (o, (b, c, ms, es, sparse, place, body, w, (u, d))). gives (says_no_node_room o w u d)))
      where
        to : {r p n : List ℕ} → SaysFile kind s rs ps ns (outcome (Err answer.NoNodeRoom) r p n) → Opened kind s × BehindIsTREE (λ place body. UsesUp kind.id body (lent ns) × ¬ GoesTooDeep kind.id body depth_limit (lent ns))
        to (says_no_node_room o {b = b} {c = c} {ms = ms} {es = es} {sparse = sparse} {place = place} {body = body} w u d) = (o, (b, c, ms, es, sparse, place, body, w, (u, d)))

    -- ---- 5, with a good header, a good trailer and room for the entries before the first not spelled
    module _ (open_file : Opened kind s) (room : RoomFor kind.id (version_of s) (space kind.id s) (count_of s) rs ps) where
      -- refusal 5 names k exactly when the first k entries can be spelled and the next, still within the header's count, cannot
      pub refusal_5_exactly : (k : ℕ) → (reading.answer ≡ Err (answer.NotSpelled k)) ↔ StopsAt kind.id (version_of s) (space kind.id s) (count_of s) k
      refusal_5_exactly k = ((λ q. to (told q)), (λ (h, (ms, rest, (b, i, x), none_left)). gives (says_not_spelled open_file rest h i x (room k ms rest (omega arith) (b, i, x)) none_left)))
        where
          to : {k : ℕ} {r p n : List ℕ} → SaysFile kind s rs ps ns (outcome (Err (answer.NotSpelled k)) r p n) → StopsAt kind.id (version_of s) (space kind.id s) (count_of s) k
          to (says_not_spelled o {b = b} {ms = ms} rest h i x f none_left) = (h, (ms, rest, (b, i, x), none_left))

      -- and then the stores hold the entries before it, and nothing else is touched
      pub refusal_5_stores : (k : ℕ) (x : StopsAt kind.id (version_of s) (space kind.id s) (count_of s) k) → reading ≡ holding kind s rs ps ns x.1.0 (Err (answer.NotSpelled k))
      refusal_5_stores k (h, (ms, rest, (b, i, x), none_left)) = only (says_not_spelled open_file rest h i x (room k ms rest (omega arith) (b, i, x)) none_left)

    -- ---- what is read has one meaning, and the reader's answer and all three stores are its rendering
    pub accepted_is_the_one_meaning : IsRead reading.answer → (m : Index) × File kind.id s m × Renders s rs ps ns m reading × ((o : Index) → File kind.id s o → o ≡ m)
    accepted_is_the_one_meaning (r, q) =
        let (m, x, y) = to (told q) in
        (m, x, subst (Renders s rs ps ns m) (sym (given q)) y, (λ o z. one_meaning kind.id s o m z x))
      where
        rendered : Opened kind s → {b c : List ℕ} {ms : List Meaning} {es : List Ext} {sparse : Bool} {tree : Option Tree} {l : List ℕ} → AllEntries kind s rs ps ns b c ms → Extensions c es
            → Tells (Sparse ms es) sparse → CacheTree kind.id (header_length + length b) es tree → NodesAfter s ns tree l
            → (m : Index) × File kind.id s m × Renders s rs ps ns m (holding_all kind s rs ps ns ms l (read_as kind s rs ps ns sparse (has_tree tree) ms (nodes_of tree)))
        rendered o {ms = ms} {sparse = sparse} {tree = tree} a y t z l = (
          _,
          space_spelled o.header (spells a.joins a.spelled y t z),
          record {
            answer = ap (λ (k : ℕ). Ok (read_with_all (version_of s) sparse (has_tree tree) k (length (paths_bytes ms)) (nodes_of tree))) (sym (spelled_length a.spelled));
            records = refl;
            paths = refl;
            nodes = l;
          },
        )

        lying : {b c : List ℕ} {ms : List Meaning} {es : List Ext} {sparse : Bool} {place : ℕ} {body : List ℕ} → WithTree kind s rs ps ns b c ms es sparse place body → LastTREE s place body
        lying {b} {c} {ms} {es} w = record { b = b; c = c; ms = ms; es = es; joins = w.entries.joins; entries = w.entries.spelled; extensions = w.extensions; last = w.last }

        to : {r : Reading} {rs₁ ps₁ ns₁ : List ℕ} → SaysFile kind s rs ps ns (outcome (Ok r) rs₁ ps₁ ns₁) → (m : Index) × File kind.id s m × Renders s rs ps ns m (outcome (Ok r) rs₁ ps₁ ns₁)
        to (says_no_TREE o {b = b} {c = c} {ms = ms} {es = es} a y t f) =
            rendered o a y t (absent f) (no_TREE_there (record { b = b; c = c; ms = ms; es = es; joins = a.joins; entries = a.spelled; extensions = y; no_last = f }))
        to (says_tree o w x h k) = rendered o w.entries w.extensions w.mark (spelled w.last x) the_tree
        to (says_malformed o w f d e) = rendered o w.entries w.extensions w.mark (malformed w.last (λ v x. f (v, x))) (no_tree_spelled (lying w) f)

    -- ---- DEMAND 3, under its premises
    module _ (good_trailer_lem : GoodTrailer kind s) (room : RoomFor kind.id (version_of s) (space kind.id s) (count_of s) rs ps) (tree_fits_lem : TreeFits s ns) where
      -- what is spelled is read: its header is good
      spelled_is_read : (m : Index) → File kind.id s m → IsRead reading.answer
      spelled_is_read m f = of (spelled_in_space f)
        where
          open_file : Opened kind s
          open_file = record { header = spelled_has_good_header f; trailer = good_trailer_lem }

          of : {m : Index} → Spells kind.id (version_of s) (count_of s) (space kind.id s) m → IsRead reading.answer
          of (spells {b = b} {c = c} {ms = ms} {es = es} {sparse = sparse} i x y t z) = go z
            where
              all : AllEntries kind s rs ps ns b c ms
              all = record { joins = i; spelled = x; fits = room (count_of s) ms c (omega arith) (b, i, x) }

              lying : {place : ℕ} {body : List ℕ} → LastSigned TREE (header_length + length b) es place body → LastTREE s place body
              lying l = record { b = b; c = c; ms = ms; es = es; joins = i; entries = x; extensions = y; last = l }

              within : {place : ℕ} {body : List ℕ} → LastSigned TREE (header_length + length b) es place body → WithTree kind s rs ps ns b c ms es sparse place body
              within l = record { entries = all; extensions = y; mark = t; last = l }

              go : {tree : Option Tree} → CacheTree kind.id (header_length + length b) es tree → IsRead reading.answer
              go (spelled {place = place} {body = body} {t = v} l n) =
                  let (shallow, lent-enough) = tree_fits_lem place body (lying l) in
                  (_, gives (says_tree open_file (within l) n ((depth_within kind.id body place v n depth_limit).0 shallow) ((nodes_within kind.id body place v n (lent ns)).0 lent-enough)))
              go (malformed {place = place} {body = body} l f) =
                  let (shallow, lent-enough) = tree_fits_lem place body (lying l) in
                  (_, gives (says_malformed open_file (within l) (λ (v, n). f v n) (λ (k, h, r). shallow k r) (λ (d, r). lent-enough d r)))
              go (absent n) = (_, gives (says_no_TREE open_file all y t n))

      -- 1: the reader accepts the file exactly if the grammar spells it
      pub accepted_exactly_if_spelled : IsRead reading.answer ↔ ((m : Index) × File kind.id s m)
      accepted_exactly_if_spelled = ((λ q. let (m, x, y, z) = accepted_is_the_one_meaning q in (m, x)), (λ (m, x). spelled_is_read m x))

      -- 2 is the grammar's own: `one_meaning`. 3: the reader's answer and all three stores are the rendering of that meaning
      pub stores_are_the_meaning : (m : Index) → File kind.id s m → Renders s rs ps ns m reading
      stores_are_the_meaning m x =
          let (o, y, z, one) = accepted_is_the_one_meaning (spelled_is_read m x) in
          subst (λ (i : Index). Renders s rs ps ns i reading) (sym (one m x)) z
