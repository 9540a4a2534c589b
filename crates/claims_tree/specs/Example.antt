-- The premises can be met, and matter: under every limit a chain of as many nodes is read into room for as many, room for one less gives 10,
-- and a chain of one more gives 9. Assumes nothing.
use Rattle.std.specs.Prelude.{ℕ, zero, suc, ◌+◌, ◌-◌, ◌*◌, ◌^◌, ◌<◌, ◌≡◌, refl, List, [], ◌∷◌, ◌++◌, length, Err, Ok, Some}
use Rattle.std.proofs.Common.{sym, subst, append-nil, arith, lit≤}
use Rattle.std.proofs.Math.Seq.{take-length}
use Rattle.tree.specs.Tree.{read_tree}
use Rattle.grammar.specs.Number.{Digit, Digits, last_digit, invalid, minus}
use Rattle.grammar.specs.Entry.{empty, byte}
use Rattle.grammar.specs.Tree.{Tree, tree, childless, beside, depth, nodes, no_id, NodeHead, node_head, alone, no_names, one_more_lem, Node, node, no_node, one_node_lem}
use Rattle.grammar.proofs.Reach.{depth_within, nodes_within}
use Rattle.claims_entries.specs.Shown.{Addressable}
use Rattle.claims_tree.specs.Place.{part}
use Rattle.claims_tree.specs.Rendering.{tree_bytes, filled}
use Rattle.claims_tree.specs.Said.{zeroed, lent}
use Rattle.claims_tree.specs.Claims.{stores_are_the_meaning, deeper_is_too_deep, larger_has_no_room}
use Rattle.tree.specs.declared.Error.TheVariants.{NoRoom, TooDeep}

-- "a", NUL, "-1", a space, "0" or "1", and a newline: an invalid node named a, with no subtree or with one
abbrev head : ℕ → List ℕ
head k = 97 ∷ 0 ∷ 45 ∷ 49 ∷ 32 ∷ (48 + k) ∷ 10 ∷ []

-- a node, in which there is one, and so on: so many below the first
abbrev pub chain : ℕ → List ℕ
chain zero = head 0
chain (suc k) = head 1 ++ chain k

abbrev pub chain_at : ℕ → ℕ → Tree
chain_at place zero = tree place (97 ∷ []) invalid [] childless
chain_at place (suc k) = tree place (97 ∷ []) invalid [] (beside (chain_at (place + 7) k) childless)

head_spelled : (k : ℕ) → k < 2 → NodeHead 20 (head k) (record { name = 97 ∷ []; count = invalid; subtrees = 0 * 10 + (48 + k - 48); id = [] })
head_spelled k h =
    let one : Digit 10 49 = record { least = omega arith; below = omega arith } in
    let subtrees : Digit 10 (48 + k) = record { least = omega arith; below = omega arith } in
    let few : 0 * 10 + (48 + k - 48) < 2 ^ 64 = omega arith in
    let below-zero : Digits 10 0 (49 ∷ []) 1 = last_digit {v = 0} one in
    node_head {c = 45 ∷ 49 ∷ []} {k = (48 + k) ∷ []} {id = []} (byte {c = 97} (omega arith) empty) (minus {v = 1} below-zero (omega arith) (omega arith))
    (record { digits = last_digit {v = 0} subtrees; fits = few }) no_id

pub chain_spelled : (place k : ℕ) → Node 20 place (chain k) (chain_at place k)
chain_spelled place zero = node (head_spelled 0 (omega arith)) no_node no_names (sym (append-nil (head 0)))
chain_spelled place (suc k) = node (head_spelled 1 (omega arith)) (one_node_lem (chain_spelled (place + 7) k) no_node (sym (append-nil (chain k)))) (one_more_lem alone no_names) refl

chain_depth : (place k : ℕ) → depth (chain_at place k) ≡ suc k
chain_depth place zero = refl
chain_depth place (suc k) = let e = chain_depth (place + 7) k in omega arith

chain_nodes : (place k : ℕ) → nodes (chain_at place k) ≡ suc k
chain_nodes place zero = refl
chain_nodes place (suc k) = let e = chain_nodes (place + 7) k in omega arith

-- the whole list is the part
whole : (l : List ℕ) → part l 0 (length l) ≡ l
whole l = take-length l

chain_there : (k : ℕ) → Node 20 0 (part (chain k) 0 (length (chain k))) (chain_at 0 k)
chain_there k = subst (λ (b : List ℕ). Node 20 0 b (chain_at 0 k)) (sym (whole (chain k))) (chain_spelled 0 k)

-- a chain is as long as its heads
chain_length : (k : ℕ) → length (chain k) ≡ suc k * 7
chain_length zero = refl
chain_length (suc k) = let e = chain_length k in omega arith

-- the limit has k levels below the first; a chain of one more can be addressed
module _ (k : ℕ) (short : suc (suc k) * 7 < 2 ^ 64) (ns : List ℕ) (small : Addressable ns) where
  -- both premises hold, and the chain is read
  pub deepest_is_read : lent ns ≡ suc k → read_tree 20 (suc k) (chain k) 0 (length (chain k)) ns ≡ (Ok (Some (suc k)), filled ns (tree_bytes (chain_at 0 k)))
  deepest_is_read room =
      let e = chain_length k in
      let d = chain_depth 0 k in
      let m = chain_nodes 0 k in
      subst (λ (n : ℕ). read_tree 20 (suc k) (chain k) 0 (length (chain k)) ns ≡ (Ok (Some n), filled ns (tree_bytes (chain_at 0 k)))) m
      (stores_are_the_meaning 20 (lit≤ tt) (suc k) (chain k) 0 (length (chain k)) ns (record { ahead = omega arith; inside = omega arith }) (omega arith) small
      ((depth_within 20 _ 0 (chain_at 0 k) (chain_there k) (suc k)).1 (omega arith)) ((nodes_within 20 _ 0 (chain_at 0 k) (chain_there k) (lent ns)).1 (omega arith)) (chain_at 0 k) (chain_there k))

  pub room_for_one_less : lent ns ≡ k → read_tree 20 (suc k) (chain k) 0 (length (chain k)) ns ≡ (Err NoRoom, zeroed ns)
  room_for_one_less room =
      let e = chain_length k in
      let d = chain_depth 0 k in
      let m = chain_nodes 0 k in
      larger_has_no_room 20 (lit≤ tt) (suc k) (chain k) 0 (length (chain k)) ns (record { ahead = omega arith; inside = omega arith }) (omega arith) small (chain_at 0 k) (chain_there k) (omega arith) (omega arith)

  pub one_level_deeper : lent ns ≡ suc (suc k) → read_tree 20 (suc k) (chain (suc k)) 0 (length (chain (suc k))) ns ≡ (Err TooDeep, zeroed ns)
  one_level_deeper room =
      let e = chain_length (suc k) in
      let d = chain_depth 0 (suc k) in
      let m = chain_nodes 0 (suc k) in
      deeper_is_too_deep 20 (lit≤ tt) (suc k) (chain (suc k)) 0 (length (chain (suc k))) ns (record { ahead = omega arith; inside = omega arith }) (omega arith) small (chain_at 0 (suc k)) (chain_there (suc k)) (omega arith) (omega arith)
