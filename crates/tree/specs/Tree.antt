-- The TREE extension read into a node store (01, Extensions, and rows 9 and 10 of "When the desk says no"), over the id's length and the depth limit. A node's
-- subtrees are read by the same rule one level down. Where a node should begin: 9 (depth), 10 (node room), then its bytes; a repeated name spoils the tree when its
-- parent's last subtree is done; nothing follows the root. Where the answer is no tree, every byte of the store is zero. Assumes nothing.
use Rattle.std.specs.Prelude.{ℕ, zero, suc, ◌+◌, List, length, replicate, ltb, leb, eqb, Err, None, Ok, Option, Result, Some}
use Rattle.laws.specs.Pick.{pick}
use Rattle.refusal.specs.Refusal.{too_deep, no_node_room}
use Rattle.node.specs.Head.{minus_one, head_at}
use Rattle.node.specs.Store.{nodes_in, put_at}
use Rattle.siblings.specs.Siblings.{siblings_differ}
use Rattle.tree.specs.declared.Fault.{Fault}
use Rattle.tree.specs.declared.Fault.TheVariants.{Unspelled, Deep, Full}
use Rattle.node.specs.declared.Node.{Node}
use Rattle.tree.specs.Made.{read_up_to}
use Rattle.tree.specs.declared.Error.{Error as TreeError}
use Rattle.tree.specs.declared.Error.TheVariants.{NoRoom, TooDeep}
use Rattle.tree.specs.declared.Fault.{Fault}
use Rattle.tree.specs.declared.Read.{Read}

-- an answer, and the store with it
abbrev pub Out : Type 0
Out = Result Read Fault × List ℕ

-- a node that was read, and then what goes on from it
abbrev pub and_then : Out → (ℕ → ℕ → List ℕ → Out) → Out
and_then (Ok r, ns) k = k r.next r.used ns
and_then (Err f, ns) k = (Err f, ns)

-- so many subtrees, each read by f from its place in the file, with so many nodes used
unfoldable pub kids : (ℕ → ℕ → List ℕ → Out) → ℕ → ℕ → ℕ → List ℕ → Out
kids f zero at used ns = (Ok (read_up_to at used), ns)
kids f (suc l) at used ns = and_then (f at used ns) (kids f l)

-- node `me`, whose last subtree is done
unfoldable pub settled_as : List ℕ → List ℕ → ℕ → ℕ → ℕ → Result Read Fault
settled_as s ns me next used = pick (siblings_differ s ns me (me + 1) used) (Ok (read_up_to next used)) (Err Unspelled)

abbrev pub settled : List ℕ → ℕ → Out → Out
settled s me o = and_then o (λ next used ns. (settled_as s ns me next used, ns))

-- node number `used`, from its head; its subtrees by rec, which takes their parent first
abbrev pub body : List ℕ → (ℕ → ℕ → ℕ → List ℕ → Out) → ℕ → ℕ → List ℕ → Option Node → Out
body s rec parent used ns None = (Err Unspelled, ns)
body s rec parent used ns (Some n) = settled s used (kids (rec used) n.subtrees n.next (used + 1) (put_at s n parent ns used))

-- the node at `at`, at most so many levels deep, of a tree whose bytes end at `end`
unfoldable pub node_at : ℕ → List ℕ → ℕ → ℕ → ℕ → ℕ → ℕ → List ℕ → Out
node_at idLength s end zero parent at used ns = (Err Deep, ns)
node_at idLength s end (suc d) parent at used ns =
    pick (leb (nodes_in ns) used) (Err Full, ns)
    (body s (node_at idLength s end d) parent used ns (head_at idLength s at end))

-- nothing follows the root
abbrev pub alone : ℕ → ℕ → ℕ → List ℕ → Out
alone end next used ns = (pick (eqb next end) (Ok (read_up_to next used)) (Err Unspelled), ns)

unfoldable pub root_at : ℕ → ℕ → List ℕ → ℕ → ℕ → List ℕ → Out
root_at idLength limit s start end ns =
    pick (ltb end start) (Err Unspelled, ns)
    (pick (ltb (length s) end) (Err Unspelled, ns)
    (and_then (node_at idLength s end limit minus_one start 0 ns) (alone end)))

abbrev pub answer_of : Fault → Result (Option ℕ) TreeError
answer_of Unspelled = Ok None
answer_of Deep = Err TooDeep
answer_of Full = Err NoRoom

-- where the answer is no tree, the store is zeroed
abbrev pub wiped : Out → Result (Option ℕ) TreeError × List ℕ
wiped (Ok r, ns) = (Ok (Some r.used), ns)
wiped (Err f, ns) = (answer_of f, replicate (length ns) 0)

-- THE DEFINITION: the body of a TREE extension, the bytes of s from start to end
unfoldable pub read_tree : ℕ → ℕ → List ℕ → ℕ → ℕ → List ℕ → Result (Option ℕ) TreeError × List ℕ
read_tree idLength limit s start end ns = wiped (root_at idLength limit s start end ns)

-- 01's numbers: 9 and 10; a malformed tree is no tree, and refuses nothing
abbrev pub number_of : Result (Option ℕ) TreeError → ℕ
number_of (Ok (Some u)) = 0
number_of (Ok None) = 0
number_of (Err TooDeep) = too_deep
number_of (Err NoRoom) = no_node_room
