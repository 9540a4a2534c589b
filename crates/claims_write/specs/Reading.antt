-- The written file as the reader's claims want it: its trailer is good, it has room where the table has, and the reader's answer and stores are the rendering of the
-- table's meaning. Assumes that the file is bytes and that no slice has 2^64 bytes or more, the premise `Slices`.
use Prim.Native.Nat.{ℕ, zero, suc, ◌+◌, ◌-◌, ◌≤◌}
use Rattle.std.specs.Prelude.{◌≡◌, refl, Bool, take, drop}
use Rattle.std.proofs.Common.{sym, ◌∙◌, subst, arith, take-append-drop, take_at, drop_at}
use Rattle.std.proofs.Math.Path.{ap}
use Rattle.std.proofs.Math.Bool.{true, false}
use mathlib.Core.List.{List, [], ◌++◌, append_assoc}
use Rattle.std.proofs.Math.ListN.{length, replicate, length-append}
use Rattle.std.proofs.lemmas.List.{length-map}
use Rattle.laws.specs.Pick.{pick}
use Rattle.laws.specs.Read.{Begins}
use Rattle.laws.specs.Times.{Times, done, more}
use Rattle.format.specs.Format.{depth_limit}
use Rattle.kind.specs.Kind.{Kind}
use Rattle.entry.specs.Paths.{Paths, lying_in}
use Rattle.entry.specs.Record.{records_in}
use Rattle.grammar.specs.Entry.{Meaning, start, Entries}
use Rattle.grammar.specs.Extension.{Ext, TREE, Extensions, LastSigned}
use Rattle.grammar.specs.File.{Index, header_length, File, version_of, count_of, space}
use Rattle.grammar.proofs.Space.{Spells, spells, spelled_in_space}
use Rattle.grammar.proofs.DecideExtension.{none_not_last, last_unique}
use Rattle.grammar.proofs.Unique.{entries_unique, extensions_unique}
use Rattle.file.specs.Read.{read_file}
use Rattle.claims_entries.specs.Rendering.{records_bytes, paths_bytes, Bytes}
use Rattle.claims_entries.specs.Said.{filled, Fits, RoomFor}
use Rattle.claims_entries.specs.Shown.{EachShown}
use Rattle.claims_entries.proofs.Fields.{bytes_left, bytes_right, spelled_each_fits, spelled_length, rendered_fields, paths_append}
use Rattle.claims_tree.specs.Said.{lent, KeepsWithinDepth, HasRoom}
use Rattle.claims.specs.Premises.{Slices, GoodTrailer, zeros, hashed}
use Rattle.claims.specs.Claims.{LastTREE, TreeFits, Renders, stores_are_the_meaning}
use Rattle.write.specs.declared.Options.{Options}
use Rattle.write_entries.specs.Entries.{table_bytes}
use Rattle.write.specs.File.{header_of, trailer_of, file_of, writes_tree, body_bytes, file_bytes, most, version_of as versionWritten}
use Rattle.write.specs.Parts.{length-header, length-trailer}
use Rattle.claims_write.specs.Meaning.{meaning_of, kept_of, meanings_of, PathsEnd}
use Rattle.claims_write.specs.Extensions.{extensions_meant, last_tree, no_tree}
use Rattle.claims_write.specs.Spelled.{tree_body, index_of, written, has, eoie_body, extensions_here, before, behind_entries, written_parts, count, extensions_here_lem, entries_here, file_spelled}

-- ---- room: what every entry before the last needs, all of them have

times_take : {S A : Type 0} {E : S → List ℕ → A → Type 0} {after : S → A → S} {s : S} {n : ℕ} {b : List ℕ} {vs : List A} → Times E after s n b vs → (k : ℕ) → k ≤ n
    → (c d : List ℕ) × (b ≡ c ++ d) × Times E after s k c (take k vs)
times_take {b = b} x zero h = ([], b, refl, done)
times_take done (suc k) h = absurd (omega arith)
times_take (more {b = b} {c = c} e t) (suc k) h =
    let (c₁, d, i, x) = times_take t k (omega arith) in
    (b ++ c₁, d, ap (λ (l : List ℕ). b ++ l) i ∙ sym (append_assoc b c₁ d), more e x)

paths_take : (k : ℕ) (ms : List Meaning) → length (paths_bytes (take k ms)) ≤ length (paths_bytes ms)
paths_take k ms =
    let e : paths_bytes ms ≡ paths_bytes (take k ms) ++ paths_bytes (drop k ms) = ap paths_bytes (sym (take-append-drop k ms)) ∙ paths_append (take k ms) (drop k ms) in
    omega (arith, ap length e, length-append (paths_bytes (take k ms)) (paths_bytes (drop k ms)))

room_for : (n version : ℕ) (xs : List ℕ) (count : ℕ) (rs ps b c : List ℕ) (ms : List Meaning) → xs ≡ b ++ c → Entries n version start count b ms → Fits rs ps count ms → RoomFor n version xs count rs ps
room_for n version xs count rs ps b c ms i x f k ms₁ rest h (b₁, i₁, x₁) =
    let (b₂, d, j, y) = times_take x k h in
    let z : Begins (Entries n version start k) xs (take k ms) (d ++ c) = (b₂, i ∙ ap (λ (l : List ℕ). l ++ c) j ∙ append_assoc b₂ d c, y) in
    let (e, q, p) = entries_unique n version start k xs ms₁ (take k ms) rest (d ++ c) (b₁, i₁, x₁) z in
    let l : length (paths_bytes ms₁) ≡ length (paths_bytes (take k ms)) = ap (λ (m : List Meaning). length (paths_bytes m)) e in
    record { records = omega (arith, f.records); paths = omega (arith, f.paths, paths_take k ms) }

-- ---- what a file says of itself

version_said : {n v k : ℕ} {xs : List ℕ} {m : Index} → Spells n v k xs m → m.version ≡ v
version_said (spells i x y t o) = refl

count_said : {n v k : ℕ} {xs : List ℕ} {m : Index} → Spells n v k xs m → length m.entries ≡ k
count_said (spells i x y t o) = spelled_length x

-- the bytes between header and trailer
space_of : (h b c t : List ℕ) (n : ℕ) → length h ≡ header_length → length t ≡ n → space n (h ++ (b ++ (c ++ t))) ≡ b ++ c
space_of h b c t n e f =
    let w : List ℕ = h ++ (b ++ (c ++ t)) in
    let i : w ≡ (h ++ (b ++ c)) ++ t = ap (λ (l : List ℕ). h ++ l) (sym (append_assoc b c t)) ∙ sym (append_assoc h (b ++ c) t) in
    let k : length (h ++ (b ++ c)) ≡ length w - n = omega (arith, ap length i, length-append (h ++ (b ++ c)) t) in
    ap (λ (l : List ℕ). drop header_length (take (length w - n) l)) i ∙ ap (λ (l : List ℕ). drop header_length l) (take_at (h ++ (b ++ c)) t (length w - n) k) ∙ drop_at h (b ++ c) header_length e

module _ (kind : Kind) where
  -- ---- PREMISES

  -- where TREE is written, the walk of its body stays within the depth limit and the nodes lent
  abbrev pub TreeRoom : List ℕ → List ℕ → Options → List ℕ → Type 0
  TreeRoom ns nm o nodes' = writes_tree o ≡ true → KeepsWithinDepth kind.id (tree_body kind ns nm) depth_limit × HasRoom kind.id (tree_body kind ns nm) (lent nodes')

  -- ---- the written file, as the reader's claims want it

  module _ (rs : List ℕ) (ps : Paths) (ns nm : List ℕ) (o : Options) where
    abbrev w : List ℕ
    w = written kind rs ps ns nm o

    abbrev ms : List Meaning
    ms = meanings_of kind.id rs ps

    pub good_trailer_lem : GoodTrailer kind w
    unfolding file_bytes file_of trailer_of
    good_trailer_lem = by o.unhashed (length-trailer kind o.unhashed (before kind rs ps ns nm o))
      where
        by : (t : Bool) → length (pick t (replicate kind.id 0) (kind.hash (before kind rs ps ns nm o))) ≡ kind.id → GoodTrailer kind (before kind rs ps ns nm o ++ pick t (replicate kind.id 0) (kind.hash (before kind rs ps ns nm o)))
        by true l =
            let b : List ℕ = before kind rs ps ns nm o in
            let k : length b ≡ length (b ++ replicate kind.id 0) - kind.id = omega (arith, length-append {A = ℕ} b (replicate kind.id 0)) in
            zeros (drop_at b (replicate kind.id 0) (length (b ++ replicate kind.id 0) - kind.id) k)
        by false l =
            let b : List ℕ = before kind rs ps ns nm o in
            let k : length b ≡ length (b ++ kind.hash b) - kind.id = omega (arith, length-append b (kind.hash b)) in
            hashed (drop_at b (kind.hash b) (length (b ++ kind.hash b) - kind.id) k ∙ ap kind.hash (sym (take_at b (kind.hash b) (length (b ++ kind.hash b) - kind.id) k)))

    module _ (few : records_in rs ≤ most) (short : length (body_bytes kind.id depth_limit rs ps ns nm o) ≤ most) (ends : PathsEnd rs ps) where
      spelled_w : File kind.id w (index_of kind rs ps ns nm o)
      spelled_w = file_spelled kind rs ps ns nm o few short ends

      in_space : Spells kind.id (version_of w) (count_of w) (space kind.id w) (index_of kind rs ps ns nm o)
      in_space = spelled_in_space spelled_w

      joins_w : space kind.id w ≡ table_bytes kind.id rs ps ++ behind_entries kind rs ps ns nm o
      joins_w =
          ap (λ (l : List ℕ). space kind.id l) (written_parts kind rs ps ns nm o)
          ∙ space_of (header_of (versionWritten rs) (count kind rs ps ns nm o)) (table_bytes kind.id rs ps) (behind_entries kind rs ps ns nm o) (trailer_of kind o.unhashed (before kind rs ps ns nm o)) kind.id
          (length-header (versionWritten rs) (count kind rs ps ns nm o)) (length-trailer kind o.unhashed (before kind rs ps ns nm o))

      entries_w : Entries kind.id (version_of w) start (count_of w) (table_bytes kind.id rs ps) ms
      entries_w =
          let x = entries_here kind rs ps ns nm o few short ends in
          let v : versionWritten rs ≡ version_of w = version_said in_space in
          let c : count kind rs ps ns nm o ≡ count_of w = sym (spelled_length x) ∙ count_said in_space in
          subst (λ (j : ℕ). Entries kind.id (version_of w) start j (table_bytes kind.id rs ps) ms) c (subst (λ (j : ℕ). Entries kind.id j start (count kind rs ps ns nm o) (table_bytes kind.id rs ps) ms) v x)

      -- whatever TREE is the last behind the entries is the one that was written
      last_written : {place : ℕ} {body : List ℕ} → LastTREE kind w place body → LastSigned TREE (header_length + length (table_bytes kind.id rs ps)) (extensions_here kind rs ps ns nm o) place body
      last_written {place} {body} l =
          let (e, f, g) = entries_unique kind.id (version_of w) start (count_of w) (space kind.id w) l.ms ms l.c (behind_entries kind rs ps ns nm o) (l.b, l.joins, l.entries) (table_bytes kind.id rs ps, joins_w, entries_w) in
          let x : Extensions (behind_entries kind rs ps ns nm o) l.es = subst (λ (c : List ℕ). Extensions c l.es) f l.extensions in
          let q : l.es ≡ extensions_here kind rs ps ns nm o = extensions_unique (behind_entries kind rs ps ns nm o) l.es (extensions_here kind rs ps ns nm o) x (extensions_here_lem kind rs ps ns nm o few short) in
          subst (λ (es : List Ext). LastSigned TREE (header_length + length (table_bytes kind.id rs ps)) es place body) q (subst (λ (b : List ℕ). LastSigned TREE (header_length + length b) l.es place body) g l.last)

      tree_fits_lem : (nodes' : List ℕ) → TreeRoom ns nm o nodes' → TreeFits kind w nodes'
      tree_fits_lem nodes' room place body l = by (writes_tree o) room (last_written l)
        where
          by : (t : Bool) → (t ≡ true → KeepsWithinDepth kind.id (tree_body kind ns nm) depth_limit × HasRoom kind.id (tree_body kind ns nm) (lent nodes'))
              → LastSigned TREE (header_length + length (table_bytes kind.id rs ps)) (extensions_meant t (tree_body kind ns nm) o.sparse (has kind rs ps ns nm o) (eoie_body kind rs ps ns nm o)) place body
              → KeepsWithinDepth kind.id body depth_limit × HasRoom kind.id body (lent nodes')
          by false k x = absurd (none_not_last (no_tree (tree_body kind ns nm) o.sparse (has kind rs ps ns nm o) (eoie_body kind rs ps ns nm o)) x)
          by true k x =
              let (p, q) = last_unique (last_tree (header_length + length (table_bytes kind.id rs ps)) (tree_body kind ns nm) o.sparse (has kind rs ps ns nm o) (eoie_body kind rs ps ns nm o)) x in
              subst (λ (b : List ℕ). KeepsWithinDepth kind.id b depth_limit × HasRoom kind.id b (lent nodes')) q (k refl)

      module _ (records' paths' nodes' : List ℕ) (slices : Slices w paths' nodes') (room : Fits records' paths' (length (kept_of rs)) ms) (tree_room : TreeRoom ns nm o nodes') where
        count_w : count_of w ≡ length (kept_of rs)
        count_w = sym (count_said in_space) ∙ length-map (kept_of rs) (meaning_of kind.id rs ps)

        room_w : RoomFor kind.id (version_of w) (space kind.id w) (count_of w) records' paths'
        room_w =
            room_for kind.id (version_of w) (space kind.id w) (count_of w) records' paths' (table_bytes kind.id rs ps) (behind_entries kind rs ps ns nm o) ms joins_w entries_w
            (subst (λ (k : ℕ). Fits records' paths' k ms) (sym count_w) room)

        pub renders_w : Renders kind w records' paths' nodes' (index_of kind rs ps ns nm o) (read_file kind depth_limit w records' paths' nodes')
        renders_w = stores_are_the_meaning kind w records' paths' nodes' slices good_trailer_lem room_w (tree_fits_lem nodes' tree_room) (index_of kind rs ps ns nm o) spelled_w

        bytes_w : Bytes (table_bytes kind.id rs ps)
        bytes_w =
            let h : List ℕ = header_of (versionWritten rs) (count kind rs ps ns nm o) in
            let rest : List ℕ = behind_entries kind rs ps ns nm o ++ trailer_of kind o.unhashed (before kind rs ps ns nm o) in
            let b : Bytes (h ++ (table_bytes kind.id rs ps ++ rest)) = subst Bytes (written_parts kind rs ps ns nm o) slices.bytes in
            bytes_left (table_bytes kind.id rs ps) rest (bytes_right h (table_bytes kind.id rs ps ++ rest) b)

        pub shown_w : EachShown kind.id (filled records' (records_bytes kind.id 0 ms)) (lying_in (filled paths' (paths_bytes ms))) ms
        shown_w = rendered_fields kind.id kind.fits records' paths' ms (spelled_each_fits entries_w bytes_w) (omega (arith, room.paths, slices.paths))
