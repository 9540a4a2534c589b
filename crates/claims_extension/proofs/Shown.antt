-- The premise that the file is bytes can be met, and matters: a space of an `sdir` and a TREE, of which the claims speak, and a list with a number above 255, of which the
-- reader's number is TREE's and the grammar's signature is not. Assumes nothing.
use Rattle.std.specs.Prelude.{ℕ, ◌≡◌, refl, true, false, List, [], ◌∷◌, Ok, Some}
use Rattle.std.proofs.Common.{subst, arith}
use Rattle.laws.specs.Fill.{done, more}
use Rattle.wire.specs.BigEndian.{be_at}
use Rattle.wire.specs.Places.{file_at}
use Rattle.extension.specs.Iter.{step_at, run_by, run_at, last_where}
use Rattle.extension.specs.Decode.{forbidden, sparse_in, judged, all_at}
use Rattle.grammar.specs.Number.{big_endian_lem}
use Rattle.grammar.specs.Extension.{Ext, ext, framed, TREE, optional, Extensions, NoneSigned, none_left, another}
use Rattle.grammar.proofs.Unique.{extensions_unique}
use Rattle.grammar.proofs.DecideExtension.{none_not_last}
use Rattle.claims_entries.specs.Rendering.{Bytes}
use Rattle.claims_extension.specs.Words.{all_bytes, bytes_if}
use Rattle.claims_extension.specs.Said.{extensions_space, SaysBody, says_lies, SaysExtensions, says_filled}
use Rattle.claims_extension.proofs.Claims.{says_exactly}
use Rattle.extension.specs.Made.{body_between, filled_by}

-- ---- met: an empty `sdir`, and a TREE of one byte

abbrev marked_tree : List ℕ
marked_tree = 115 ∷ 100 ∷ 105 ∷ 114 ∷ 0 ∷ 0 ∷ 0 ∷ 0 ∷ 84 ∷ 82 ∷ 69 ∷ 69 ∷ 0 ∷ 0 ∷ 0 ∷ 1 ∷ 65 ∷ []

marked_tree_bytes : Bytes marked_tree
unfolding all_bytes
marked_tree_bytes = bytes_if marked_tree refl

marked_tree_walk : all_at marked_tree 0 17 ≡ Ok (filled_by true (record { tree = Some (body_between (file_at 16) (file_at 17)) }))
unfolding all_at run_at run_by step_at be_at judged forbidden sparse_in last_where
marked_tree_walk = refl

pub premises_are_met : SaysExtensions 0 (extensions_space marked_tree 0 17) (Ok (filled_by true (record { tree = Some (body_between (file_at 16) (file_at 17)) })))
premises_are_met = (says_exactly marked_tree marked_tree_bytes 0 17 (omega arith) (omega arith) (Ok (filled_by true (record { tree = Some (body_between (file_at 16) (file_at 17)) })))).0 marked_tree_walk

-- ---- matters: 68 * 256 + 325 is 69 * 256 + 69

abbrev odd : List ℕ
odd = 84 ∷ 82 ∷ 68 ∷ 325 ∷ []

abbrev odd_space : List ℕ
odd_space = 84 ∷ 82 ∷ 68 ∷ 325 ∷ 0 ∷ 0 ∷ 0 ∷ 0 ∷ []

odd_walk : all_at odd_space 0 8 ≡ Ok (filled_by false (record { tree = Some (body_between (file_at 8) (file_at 8)) }))
unfolding all_at run_at run_by step_at be_at judged forbidden sparse_in last_where
odd_walk = refl

odd_spelled : Extensions odd_space (ext odd [] ∷ [])
odd_spelled =
    more {b = odd_space} {c = []} (record { is_framed = framed {signature = odd} {size = 0 ∷ 0 ∷ 0 ∷ 0 ∷ []} {body = []} refl (big_endian_lem refl); is_allowed = optional {e = ext odd []} (record { least = omega arith; most = omega arith }) })
    done

odd_none : NoneSigned TREE (ext odd [] ∷ [])
odd_none = another {e = ext odd []} (λ e. let z : ◌≡◌ {A = ℕ} 68 69 = cc in omega arith) none_left

pub bytes_matter : ¬ SaysExtensions 0 (extensions_space odd_space 0 8) (all_at odd_space 0 8)
bytes_matter x = of (subst (SaysExtensions 0 odd_space) odd_walk x)
  where
    of_body : {es : List Ext} {start stop : ℕ} → es ≡ ext odd [] ∷ [] → SaysBody TREE 0 es (Some (body_between (file_at start) (file_at stop))) → ⊥
    of_body i (says_lies l) = none_not_last (rw i odd_none) l

    of : SaysExtensions 0 odd_space (Ok (filled_by false (record { tree = Some (body_between (file_at 8) (file_at 8)) }))) → ⊥
    of (says_filled {es = es} y m l) = of_body (extensions_unique odd_space es (ext odd [] ∷ []) y odd_spelled) l.tree
