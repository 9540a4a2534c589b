-- The written file part by part: header, entries, extensions, EOIE and trailer, one after the other, and how long each is. Assumes nothing.
use Prim.Native.Nat.{ℕ, ◌+◌}
use Rattle.std.specs.Prelude.{Bool, ◌≡◌}
use Rattle.std.proofs.Math.Bool.{true, false}
use Rattle.std.proofs.Math.Path.{refl}
use Rattle.std.proofs.Common.{◌∙◌, arith}
use mathlib.Core.List.{List, [], ◌∷◌, ◌++◌, append_assoc}
use Rattle.std.proofs.Math.ListN.{length, length-append, length-replicate}
use Rattle.wire.specs.BigEndian.{bytes_of, length-bytes}
use Rattle.kind.specs.Kind.{Kind}
use Rattle.entry.specs.Paths.{Paths}
use Rattle.entry.specs.Record.{records_in}
use Rattle.write.specs.declared.Options.{Options}
use Rattle.write_entries.specs.Entries.{count_of, table_bytes}
use Rattle.write.specs.File.{header_of, version_of, extension_head, tree_signature, sparse_signature, eoie_signature, tree_head, sparse_part, contents, eoie_part, trailer_of, front_of, extensions_of, body_of, offset_of, closed_of, file_of, head_size, has_eoie, extensions_asked, body_bytes, file_bytes}

-- all but the trailer is header, entries, extensions and EOIE; `eoie` is the last part, whatever it holds
pub closed_parts : (id limit : ℕ) (rs : List ℕ) (ps : Paths) (ns nm : List ℕ) (o : Options) (eoie : List ℕ)
    → body_bytes id limit rs ps ns nm o ++ eoie
    ≡ header_of (version_of rs) (count_of rs (records_in rs) 0) ++ (table_bytes id rs ps ++ (extensions_of (extensions_asked id limit ns nm o) ++ eoie))
unfolding body_bytes body_of front_of
closed_parts id limit rs ps ns nm o eoie = simp append_assoc

-- the whole file is that and the trailer over it
pub file_parts : (kind : Kind) (limit : ℕ) (rs : List ℕ) (ps : Paths) (ns nm : List ℕ) (o : Options)
    → file_bytes kind limit rs ps ns nm o
    ≡ (body_bytes kind.id limit rs ps ns nm o ++ eoie_part kind (has_eoie (records_in rs) o) (offset_of kind.id rs ps) (contents (extensions_asked kind.id limit ns nm o)))
    ++ trailer_of kind o.unhashed
    (body_bytes kind.id limit rs ps ns nm o ++ eoie_part kind (has_eoie (records_in rs) o) (offset_of kind.id rs ps) (contents (extensions_asked kind.id limit ns nm o)))
unfolding file_bytes file_of closed_of
file_parts kind limit rs ps ns nm o = refl

-- ---- lengths

pub length-head : (signature : List ℕ) (size : ℕ) → length signature ≡ 4 → length (extension_head signature size) ≡ 8
unfolding extension_head
length-head signature size l = length-append signature (bytes_of 4 size) ∙ omega (arith, length-bytes 4 size)

pub length-header : (version count : ℕ) → length (header_of version count) ≡ 12
unfolding header_of
length-header version count =
    omega (arith, length-append ((68 ∷ 73 ∷ 82 ∷ 67 ∷ []) ++ bytes_of 4 version) (bytes_of 4 count), length-append (68 ∷ 73 ∷ 82 ∷ 67 ∷ []) (bytes_of 4 version), length-bytes 4 version, length-bytes 4 count)

pub length_tree_head : (writes : Bool) (n : ℕ) → length (tree_head writes n) ≡ head_size writes
unfolding tree_head head_size
length_tree_head true n = length-head tree_signature n refl
length_tree_head false n = refl

pub length_sparse : (sparse : Bool) → length (sparse_part sparse) ≡ head_size sparse
unfolding sparse_part head_size
length_sparse true = length-head sparse_signature 0 refl
length_sparse false = refl

module _ (kind : Kind) where
  pub length_eoie : (has : Bool) (offset : ℕ) (toc : List ℕ) → has ≡ true → length (eoie_part kind has offset toc) ≡ 12 + kind.id
  unfolding eoie_part
  length_eoie has offset toc h =
      let e : List ℕ = extension_head eoie_signature (4 + kind.id) in
      let l : length e ≡ 8 = length-head eoie_signature (4 + kind.id) refl in
      rw h (omega (arith, length-append (e ++ bytes_of 4 offset) (kind.hash toc), length-append e (bytes_of 4 offset), length-bytes 4 offset, kind.answers toc))

  pub length-trailer : (skips : Bool) (x : List ℕ) → length (trailer_of kind skips x) ≡ kind.id
  unfolding trailer_of
  length-trailer true x = length-replicate {A = ℕ} kind.id 0
  length-trailer false x = kind.answers x
