-- What a record and a node of a store hold, in numbers. Where there is no such record or node every number is 0. Assumes nothing.
use Rattle.std.specs.Prelude.{ℕ, List, [], ◌∷◌, replicate, ltb}
use Rattle.laws.specs.Pick.{pick}
use Rattle.refusal.specs.Bit.{bit}
use Rattle.format.specs.Format.{id_size}
use Rattle.entry.specs.Paths.{Paths}
use Rattle.entry.specs.Record.{records_in, mode_at, flags_at, stage_at, start_at, end_at, lies_inside}
use Rattle.entry.specs.Stat.{stat_at}
use Rattle.entry.specs.declared.stat.Stat.{Stat}
use Rattle.node.specs.Store.{nodes_in, name_start_at, name_end_at, count_at, subtrees_at, parent_at, id_at}
use Rattle.sparrowpivot.specs.Told.{Told, told}

abbrev pub tell_record : List ℕ → Paths → ℕ → Told
tell_record rs ps i =
    told 0
    (mode_at rs i ∷ flags_at rs i ∷ stage_at rs i ∷ start_at rs i ∷ end_at rs i ∷ bit (lies_inside rs ps i) ∷ bit (ltb i (records_in rs)) ∷ (stat_at rs i).size ∷ [])
    []

abbrev pub stat_values : Stat → List ℕ
stat_values s = s.ctime.secs ∷ s.ctime.nsecs ∷ s.mtime.secs ∷ s.mtime.nsecs ∷ s.dev ∷ s.ino ∷ s.uid ∷ s.gid ∷ []

abbrev pub tell_stat : List ℕ → ℕ → Told
tell_stat rs i = told 0 (stat_values (stat_at rs i)) []

abbrev pub tell_node : List ℕ → ℕ → Told
tell_node ns i =
    told 0 (name_start_at ns i ∷ name_end_at ns i ∷ count_at ns i ∷ subtrees_at ns i ∷ parent_at ns i ∷ bit (ltb i (nodes_in ns)) ∷ 0 ∷ 0 ∷ []) []

-- the id of a node, zeros where there is no such node
unfoldable pub node_id : List ℕ → ℕ → List ℕ
node_id ns i = pick (ltb i (nodes_in ns)) (id_at id_size ns i) (replicate id_size 0)
