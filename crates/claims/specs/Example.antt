-- That the premises of demand 3 can be met: the smallest index file, and what the claims say of it. That they matter is shown where each arises: `claims_entries` (a store one byte short gives
-- 6) and `claims_tree` (a tree of a level too many gives 9, a node too few 10). Assumes nothing.
use Rattle.std.specs.Prelude.{ℕ, ◌≡◌, refl, List, [], ◌∷◌, ◌++◌, ◌↔◌, length, replicate}
use Rattle.std.proofs.Common.{sym, ap, ◌∙◌, arith, lit≤, lit<, length-append}
use Rattle.laws.specs.Times.{done, more}
use Rattle.format.specs.Format.{id_size, depth_limit}
use Rattle.kind.specs.Sha1.{sha1_kind}
use Rattle.grammar.specs.Extension.{Ext, LastSigned, last_signed, bytes_of}
use Rattle.file.specs.Read.{read_file}
use Rattle.grammar.specs.File.{Index, File, space}
use Rattle.grammar.proofs.Fault.{extensions_length}
use Rattle.claims_entries.specs.Rendering.{paths_bytes}
use Rattle.claims_entries.specs.Said.{RoomFor}
use Rattle.claims_extension.specs.Words.{all_bytes, bytes_if}
use Rattle.claims.specs.Premises.{Slices, GoodTrailer, zeros}
use Rattle.claims.specs.Marked.{least_file}
use Rattle.claims.specs.Claims.{TreeFits, IsRead, accepted_exactly_if_spelled}

-- two records, ten path bytes and one node are lent
abbrev records : List ℕ
records = replicate 192 9

abbrev paths : List ℕ
paths = replicate 10 9

abbrev nodes : List ℕ
nodes = replicate 72 9

slices : Slices least_file paths nodes
unfolding all_bytes
slices = record { bytes = bytes_if least_file refl; file = lit< tt; paths = lit< tt; nodes = lit< tt }

good_trailer_lem : GoodTrailer sha1_kind least_file
good_trailer_lem = zeros refl

-- no entry comes before the first not spelled, for there is none
room : RoomFor id_size 2 (space id_size least_file) 0 records paths
unfolding paths_bytes
room k ms rest h (b, i, done) = record { records = lit≤ tt; paths = lit≤ tt }
room k ms rest h (b, i, more x y) = absurd (omega arith)

-- where there is no byte of extensions there is no last TREE, and so no walk of one
no_extension : (es : List Ext) → bytes_of es ≡ 0 → (before behind : List Ext) (e : Ext) → es ≡ before ++ (e ∷ behind) → ⊥
no_extension [] h [] behind e q = let z : ◌≡◌ {A = ℕ} 0 1 = cc in omega arith
no_extension [] h (f ∷ before) behind e q = let z : ◌≡◌ {A = ℕ} 0 1 = cc in omega arith
no_extension (f ∷ es) h before behind e q = omega arith

pub none_last : {signature : List ℕ} {from : ℕ} {es : List Ext} {place : ℕ} {body : List ℕ} → LastSigned signature from es place body → bytes_of es ≡ 0 → ⊥
none_last {es = es} (last_signed before {e = e} behind q s n) h = no_extension es h before behind e q

tree_fits_lem : TreeFits sha1_kind least_file nodes
tree_fits_lem place body x =
    let empty : length x.c ≡ 0 = omega (arith, ap length x.joins, length-append x.b x.c) in
    absurd (none_last x.last (sym (extensions_length x.extensions) ∙ empty))

-- so the claims speak of it
pub claimed : IsRead (read_file sha1_kind depth_limit least_file records paths nodes).answer ↔ ((m : Index) × File id_size least_file m)
claimed = accepted_exactly_if_spelled sha1_kind least_file records paths nodes slices good_trailer_lem room tree_fits_lem
