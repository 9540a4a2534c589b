-- FRAUDS OF A WRITER FAIL demand 2: one that refuses all, one that never writes the hash, one that leaves TREE, `sdir` or EOIE out. Each is stated of every such writer, and then of the
-- plainest by name: ours, which does not hear what is asked for. Assumes nothing.
use Rattle.std.specs.Prelude.{ℕ, ◌-◌, ◌^◌, ◌≤◌, ◌<◌, ◌≡◌, true, false, List, [], ◌∷◌, ◌++◌, length, take, drop, replicate, Ok, Result}
use Rattle.std.proofs.Math.Path.{refl}
use Rattle.std.proofs.Common.{sym, ap, ◌∙◌, true≢false, append_assoc, arith, lit<, length-append, drop_at}
use Rattle.std.proofs.lemmas.Bool.{false≢true}
use Rattle.std.proofs.Math.ListN.{drop_of_length-le}
use Rattle.std.proofs.lemmas.List.{length-replicate}
use Rattle.laws.specs.Fill.{done}
use Rattle.format.specs.Format.{id_size}
use Rattle.sha1_hash.specs.Length.{length-sha1}
use Rattle.sha1_hash.specs.Sha1.{sha1}
use Rattle.kind.specs.Sha1.{sha1_kind}
use Rattle.entry.specs.Paths.{Paths}
use Rattle.access.specs.Marked.{table, paths}
use Rattle.grammar.specs.Number.{big_endian, big_endian_lem}
use Rattle.grammar.specs.Entry.{Meaning, start, Entries}
use Rattle.grammar.specs.Extension.{Ext, ext, sdir, TREE, Extensions, NoneSigned, another}
use Rattle.grammar.specs.File.{DIRC, Header, header, Trailer}
use Rattle.write.specs.File as writing
use Rattle.write.specs.declared.Options.{Options}
use Rattle.claims_write.specs.Meaning.{kept_from, PathsEnd}
use Rattle.claims_write.specs.Tree.{total}
use Rattle.claims_write.specs.Extensions.{EOIE}
use Rattle.claims_write.specs.Spelled.{done_says, file_is}
use Rattle.claims_write.specs.Claims.{writable_ends}
use Rattle.claims_write.specs.Sizes.{file_size}
use Rattle.claims_write.specs.Answers.{Version, three, two, IsDone}
use Rattle.claims_write.specs.Asked.{TreePart, tree_asked_lem, tree_not_asked, SparsePart, sparse_marked, not_marked, EoiePart, eoie_asked_lem, eoie_not_asked, TrailerPart, zeros_asked, hashed, AsAsked, written_as_asked}
use Rattle.claims_frauds.specs.Demands.{Reader, Writer, Lookup, Demand2}
use Rattle.claims_frauds.specs.Ours.{writer, writer_answers}
use Rattle.claims_frauds.specs.Witness as witness
use Rattle.write.specs.Made.{written_with}
use Rattle.write.specs.declared.Error.{Error as WriteError}
use Rattle.write.specs.declared.Written.{Written}

-- a writer that is done with another size than 01's
sized_otherwise_fails : (write : Writer) (read : Reader) (lookup : Lookup) (rs : List ℕ) (ps : Paths) (ns nm : List ℕ) (o : Options) (out : List ℕ) (version size : ℕ)
    → (write rs ps ns nm o out).answer ≡ Ok (written_with version size) → ¬ (size ≡ file_size id_size rs ps ns nm o) → ¬ Demand2 sha1_kind write read lookup
sized_otherwise_fails write read lookup rs ps ns nm o out version size e other demand = other (demand.answers.done_answers rs ps ns nm o out version size e).1

-- ---- A WRITER THAT REFUSES ALL fails demand 2

pub refuses_to_write_fails : (write : Writer) (read : Reader) (lookup : Lookup)
    → ((rs : List ℕ) (ps : Paths) (ns nm : List ℕ) (o : Options) (out : List ℕ) → ¬ IsDone (write rs ps ns nm o out).answer) → ¬ Demand2 sha1_kind write read lookup
refuses_to_write_fails write read lookup never demand =
    never table paths [] [] witness.plain (replicate 232 0)
    ((demand.answers.done_exactly table paths [] [] witness.plain (replicate 232 0)).1 (witness.may_be_written, witness.room_for_it))

-- whatever it refuses with
pub refuses_to_write_with_fails : (a : Result Written WriteError) → ¬ IsDone a → (read : Reader) (lookup : Lookup) → ¬ Demand2 sha1_kind (λ rs ps ns nm o out. writing.outcome a out) read lookup
refuses_to_write_with_fails a refusal read lookup = refuses_to_write_fails (λ rs ps ns nm o out. writing.outcome a out) read lookup (λ rs ps ns nm o out. refusal)

-- ---- A WRITER THAT NEVER WRITES THE HASH fails demand 2: one whose files all end in zeros

abbrev pub EndsInZeros : Writer → Type 0
EndsInZeros write =
    (rs : List ℕ) (ps : Paths) (ns nm : List ℕ) (o : Options) (out : List ℕ) (version size : ℕ) → (write rs ps ns nm o out).answer ≡ Ok (written_with version size) → length ns < 2 ^ 64
    → drop (size - id_size) (take size (write rs ps ns nm o out).out) ≡ replicate id_size 0

-- 32 bits spell a small number in one way
spells : (n : ℕ) → n < 256 → (b : List ℕ) → length b ≡ 4 → big_endian b ≡ n → b ≡ 0 ∷ 0 ∷ 0 ∷ n ∷ []
spells n h [] l e = absurd (omega arith)
spells n h (w ∷ []) l e = absurd (omega arith)
spells n h (w ∷ x ∷ []) l e = absurd (omega arith)
spells n h (w ∷ x ∷ y ∷ []) l e = absurd (omega arith)
spells n h (w ∷ x ∷ y ∷ z ∷ []) l e =
    let p : w ≡ 0 = omega arith in
    let q : x ≡ 0 = omega arith in
    let r : y ≡ 0 = omega arith in
    let t : z ≡ n = omega arith in
    λ j. p j ∷ q j ∷ r j ∷ t j ∷ []
spells n h (w ∷ x ∷ y ∷ z ∷ a ∷ b) l e = absurd (omega arith)

-- the header of an empty index
abbrev empty_header : List ℕ
empty_header = DIRC ++ ((0 ∷ 0 ∷ 0 ∷ 2 ∷ []) ++ (0 ∷ 0 ∷ 0 ∷ 0 ∷ []))

header_is : {h : List ℕ} {version count : ℕ} → Header h version count → version ≡ 2 → count ≡ 0 → h ≡ empty_header
header_is (header (big_endian_lem {b = v} k) s (big_endian_lem {b = c} l)) e f = λ j. DIRC ++ (spells 2 (lit< tt) v k e j ++ spells 0 (lit< tt) c l f j)

version_2 : {version : ℕ} → Version [] version → version ≡ 2
version_2 (three h e) = absurd (omega arith)
version_2 (two r) = refl

module _ {version : ℕ} {s : List ℕ} (x : AsAsked sha1_kind [] witness.no_paths witness.with_hash version s) (v : version ≡ 2) where
  no_extension : x.extensions ≡ []
  no_extension = by x.tree_part x.sparse_part_lem x.eoie_part_lem x.extensions_say
    where
      none : {b : List ℕ} → Extensions b [] → b ≡ []
      none done = refl

      by : {at place : ℕ} {t m e : List Ext} {b : List ℕ}
          → TreePart sha1_kind witness.with_hash place t → SparsePart sha1_kind witness.with_hash m → EoiePart sha1_kind [] witness.with_hash at (t ++ m) e → Extensions b (t ++ (m ++ e)) → b ≡ []
      by (tree_asked_lem e y) m k z = absurd (false≢true e)
      by (tree_not_asked e) (sparse_marked f) k z = absurd (false≢true f)
      by (tree_not_asked e) (not_marked f) (eoie_asked_lem a b c) z = absurd (false≢true a)
      by (tree_not_asked e) (not_marked f) (eoie_not_asked k) z = none z

  no_entry : x.entries ≡ []
  unfolding total
  no_entry = drop_of_length-le x.entries {i = 0} (omega (arith, x.entries_fill))

  the_header : x.header ≡ empty_header
  unfolding kept_from
  the_header = header_is x.header_says v refl

  the_trailer : x.trailer ≡ sha1 empty_header
  the_trailer = by x.trailer_part ∙ ap sha1 (λ j. the_header j ++ (no_entry j ++ no_extension j))
    where
      by : {b t : List ℕ} → TrailerPart sha1_kind witness.with_hash b t → t ≡ sha1 b
      by (zeros_asked e) = absurd (false≢true e)
      by (hashed e) = refl

  -- so the file is header and hash
  the_file : s ≡ empty_header ++ sha1 empty_header
  the_file = x.joins ∙ (λ j. the_header j ++ (no_entry j ++ (no_extension j ++ the_trailer j)))

pub zero_trailer_fails : (write : Writer) (read : Reader) (lookup : Lookup) → EndsInZeros write → ¬ Demand2 sha1_kind write read lookup
zero_trailer_fails write read lookup zeros demand =
    let o : Options = witness.with_hash in
    let out : List ℕ = replicate 32 0 in
    let enough : file_size id_size [] witness.no_paths [] [] o ≤ 32 = omega (arith, witness.hash_size) in
    let (version, size, e) = (demand.answers.done_exactly [] witness.no_paths [] [] o out).1 (witness.hash_may_be_written, enough) in
    let (v, n) = demand.answers.done_answers [] witness.no_paths [] [] o out version size e in
    let x = demand.writes.as_asked [] witness.no_paths [] [] o out version size e (lit< tt) in
    let f = the_file x (version_2 v) in
    let k : size - id_size ≡ 12 = omega (arith, witness.hash_size) in
    witness.empty_hash (sym (drop_at empty_header (sha1 empty_header) 12 refl) ∙ (λ j. drop (sym k j) (sym f j)) ∙ zeros [] witness.no_paths [] [] o out version size e (lit< tt))

-- ours, which takes every file for one without a hash
abbrev pub hashless : Options → Options
hashless o = record { tree = o.tree; cache = o.cache; eoie = o.eoie; sparse = o.sparse; unhashed = true }

hashless_ends : EndsInZeros (λ rs ps ns nm o out. writer rs ps ns nm (hashless o) out)
hashless_ends rs ps ns nm o out version size e few =
    let d = done_says sha1_kind rs ps ns nm (hashless o) out version size e in
    let x = written_as_asked sha1_kind rs ps ns nm (hashless o) out version size e few in
    let s : List ℕ = take size (writer rs ps ns nm (hashless o) out).out in
    let long : length s ≡ size = ap length (file_is sha1_kind rs ps ns nm (hashless o) out version size e) ∙ sym d.size_is in
    by s x.header x.entries x.extensions long x.joins x.trailer_part
  where
    by : {b t : List ℕ} (s h m k : List ℕ) → length s ≡ size → s ≡ h ++ (m ++ (k ++ t)) → TrailerPart sha1_kind (hashless o) b t → drop (size - id_size) s ≡ replicate id_size 0
    by s h m k l i (hashed e) = absurd (true≢false e)
    by s h m k l i (zeros_asked e) =
        let front : List ℕ = (h ++ m) ++ k in
        let zeros : List ℕ = replicate id_size 0 in
        let j : s ≡ front ++ zeros = i ∙ sym (append_assoc (h ++ m) k zeros ∙ append_assoc h m (k ++ zeros)) in
        let n : length zeros ≡ id_size = length-replicate {A = ℕ} id_size 0 in
        ap (λ (r : List ℕ). drop (size - id_size) r) j ∙ drop_at front zeros (size - id_size) (omega (arith, ap length j, length-append front zeros))

pub hashless_fails : (read : Reader) (lookup : Lookup) → ¬ Demand2 sha1_kind (λ rs ps ns nm o out. writer rs ps ns nm (hashless o) out) read lookup
hashless_fails read lookup = zero_trailer_fails (λ rs ps ns nm o out. writer rs ps ns nm (hashless o) out) read lookup hashless_ends

-- ---- A WRITER THAT LEAVES TREE, `sdir` OR EOIE OUT fails demand 2: one whose files the grammar spells with no extension of that signature

pub record HasExtensions (s : List ℕ) (es : List Ext) : Type 0 where
  pub header : List ℕ
  pub entries : List ℕ
  pub extensions : List ℕ
  pub trailer : List ℕ
  pub version : ℕ
  pub count : ℕ
  pub ms : List Meaning
  pub joins : s ≡ header ++ (entries ++ (extensions ++ trailer))
  pub header_says : Header header version count
  pub entries_say : Entries id_size version start count entries ms
  pub extensions_say : Extensions extensions es
  pub trailer_says : Trailer id_size trailer

abbrev pub LeavesOut : List ℕ → Writer → Type 0
LeavesOut signature write =
    (rs : List ℕ) (ps : Paths) (ns nm : List ℕ) (o : Options) (out : List ℕ) (version size : ℕ) → (write rs ps ns nm o out).answer ≡ Ok (written_with version size)
    → (es : List Ext) → HasExtensions (take size (write rs ps ns nm o out).out) es → NoneSigned signature es

-- the extensions of a file that is as asked for
abbrev extensions_in : {rs : List ℕ} {ps : Paths} {o : Options} {version : ℕ} {s : List ℕ} → AsAsked sha1_kind rs ps o version s → List Ext
extensions_in x = x.tree ++ (x.sparse ++ x.eoie)

has_extensions : {rs : List ℕ} {ps : Paths} {o : Options} {version : ℕ} {s : List ℕ} (x : AsAsked sha1_kind rs ps o version s) → PathsEnd rs ps → HasExtensions s (extensions_in x)
has_extensions {rs} {ps} x ends =
    record {
      header = x.header;
      entries = x.entries;
      extensions = x.extensions;
      trailer = x.trailer;
      version = _;
      count = _;
      ms = _;
      joins = x.joins;
      header_says = x.header_says;
      entries_say = x.entries_say ends;
      extensions_say = x.extensions_say;
      trailer_says = record { size = long x.trailer_part };
    }
  where
    long : {o : Options} {b t : List ℕ} → TrailerPart sha1_kind o b t → length t ≡ id_size
    long (zeros_asked e) = length-replicate {A = ℕ} id_size 0
    long {b = b} (hashed e) = length-sha1 b

none_behind : (signature : List ℕ) (es fs : List Ext) → NoneSigned signature (es ++ fs) → NoneSigned signature fs
none_behind signature [] fs x = x
none_behind signature (e ∷ es) fs (another d x) = none_behind signature es fs x

-- a first extension is signed
not_first : {signature body : List ℕ} {es : List Ext} → NoneSigned signature (ext signature body ∷ es) → ⊥
not_first (another d x) = d refl

no_path : PathsEnd [] witness.no_paths
no_path i h stays = absurd (omega arith)

pub tree_left_out_fails : (write : Writer) (read : Reader) (lookup : Lookup) → LeavesOut TREE write → ¬ Demand2 sha1_kind write read lookup
tree_left_out_fails write read lookup left demand =
    let o : Options = witness.with_tree_lem in
    let out : List ℕ = replicate 65 0 in
    let enough : file_size id_size [] witness.no_paths witness.root [] o ≤ 65 = omega (arith, witness.tree_size_lem) in
    let (version, size, e) = (demand.answers.done_exactly [] witness.no_paths witness.root [] o out).1 (witness.tree_may_be_written, enough) in
    let x = demand.writes.as_asked [] witness.no_paths witness.root [] o out version size e (lit< tt) in
    by (x.sparse ++ x.eoie) x.tree_part (left [] witness.no_paths witness.root [] o out version size e (extensions_in x) (has_extensions x no_path))
  where
    by : {place : ℕ} {t : List Ext} (more : List Ext) → TreePart sha1_kind witness.with_tree_lem place t → NoneSigned TREE (t ++ more) → ⊥
    by more (tree_asked_lem e y) n = not_first n
    by more (tree_not_asked e) n = true≢false e

pub sdir_left_out_fails : (write : Writer) (read : Reader) (lookup : Lookup) → LeavesOut sdir write → ¬ Demand2 sha1_kind write read lookup
sdir_left_out_fails write read lookup left demand =
    let o : Options = witness.with_sdir in
    let out : List ℕ = replicate 40 0 in
    let enough : file_size id_size [] witness.no_paths [] [] o ≤ 40 = omega (arith, witness.sdir_size) in
    let (version, size, e) = (demand.answers.done_exactly [] witness.no_paths [] [] o out).1 (witness.sdir_may_be_written, enough) in
    let x = demand.writes.as_asked [] witness.no_paths [] [] o out version size e (lit< tt) in
    by x.eoie x.sparse_part_lem (none_behind sdir x.tree (x.sparse ++ x.eoie) (left [] witness.no_paths [] [] o out version size e (extensions_in x) (has_extensions x no_path)))
  where
    by : {m : List Ext} (more : List Ext) → SparsePart sha1_kind witness.with_sdir m → NoneSigned sdir (m ++ more) → ⊥
    by more (sparse_marked e) n = not_first n
    by more (not_marked e) n = true≢false e

pub eoie_left_out_fails : (write : Writer) (read : Reader) (lookup : Lookup) → LeavesOut EOIE write → ¬ Demand2 sha1_kind write read lookup
eoie_left_out_fails write read lookup left demand =
    let o : Options = witness.with_eoie in
    let out : List ℕ = replicate 272 0 in
    let enough : file_size id_size table paths [] [] o ≤ 272 = omega (arith, witness.eoie_size_lem) in
    let (version, size, e) = (demand.answers.done_exactly table paths [] [] o out).1 (witness.eoie_may_be_written, enough) in
    let x = demand.writes.as_asked table paths [] [] o out version size e (lit< tt) in
    let n = left table paths [] [] o out version size e (extensions_in x) (has_extensions x (writable_ends table paths witness.writable)) in
    by x.tree x.sparse_part_lem x.eoie_part_lem (none_behind EOIE x.sparse x.eoie (none_behind EOIE x.tree (x.sparse ++ x.eoie) n))
  where
    by : {at : ℕ} (t : List Ext) {m l : List Ext} → SparsePart sha1_kind witness.with_eoie m → EoiePart sha1_kind table witness.with_eoie at (t ++ m) l → NoneSigned EOIE l → ⊥
    by t (sparse_marked e) (eoie_asked_lem a b c) n = not_first n
    by t (sparse_marked e) (eoie_not_asked k) n = k refl witness.some_record (omega (arith, length-append t (ext sdir [] ∷ [])))
    by t (not_marked e) k n = true≢false e

-- ours, which takes every index for one without a tree, or for one that is not sparse
abbrev pub treeless : Options → Options
treeless o = record { tree = false; cache = o.cache; eoie = o.eoie; sparse = o.sparse; unhashed = o.unhashed }

abbrev pub markless : Options → Options
markless o = record { tree = o.tree; cache = o.cache; eoie = o.eoie; sparse = false; unhashed = o.unhashed }

pub treeless_fails : (read : Reader) (lookup : Lookup) → ¬ Demand2 sha1_kind (λ rs ps ns nm o out. writer rs ps ns nm (treeless o) out) read lookup
treeless_fails read lookup =
    let o : Options = treeless witness.with_tree_lem in
    let out : List ℕ = replicate 65 0 in
    let enough : file_size id_size [] witness.no_paths witness.root [] o ≤ 65 = omega (arith, witness.treeless_size) in
    let (version, size, e) = (writer_answers.done_exactly [] witness.no_paths witness.root [] o out).1 (witness.treeless_may_be_written, enough) in
    let n = (writer_answers.done_answers [] witness.no_paths witness.root [] o out version size e).1 in
    sized_otherwise_fails (λ rs ps ns nm o out. writer rs ps ns nm (treeless o) out) read lookup [] witness.no_paths witness.root [] witness.with_tree_lem out version size e
    (λ q. omega (arith, witness.tree_size_lem, witness.treeless_size))

pub markless_fails : (read : Reader) (lookup : Lookup) → ¬ Demand2 sha1_kind (λ rs ps ns nm o out. writer rs ps ns nm (markless o) out) read lookup
markless_fails read lookup =
    let o : Options = markless witness.with_sdir in
    let out : List ℕ = replicate 40 0 in
    let enough : file_size id_size [] witness.no_paths [] [] o ≤ 40 = omega (arith, witness.markless_size) in
    let (version, size, e) = (writer_answers.done_exactly [] witness.no_paths [] [] o out).1 (witness.markless_may_be_written, enough) in
    let n = (writer_answers.done_answers [] witness.no_paths [] [] o out version size e).1 in
    sized_otherwise_fails (λ rs ps ns nm o out. writer rs ps ns nm (markless o) out) read lookup [] witness.no_paths [] [] witness.with_sdir out version size e
    (λ q. omega (arith, witness.sdir_size, witness.markless_size))
