-- THE WHOLE TABLE (01, Writing: "REMOVE records are skipped"): where no record is marked REMOVE, the number of records that the reader answers for what was
-- written is the table's own. Assumes that the file is bytes and that no slice has 2^64 bytes or more, premises with names.
use Rattle.std.specs.Prelude.{ℕ, ◌^◌, ◌<◌, ◌≡◌, Bool, List, length, Ok}
use Rattle.std.proofs.Common.{ap, ◌∙◌, arith}
use Rattle.laws.specs.Pick.{pick}
use Rattle.format.specs.Format.{depth_limit}
use Rattle.kind.specs.Kind.{Kind}
use Rattle.entry.specs.Paths.{Paths}
use Rattle.entry.specs.Record.{records_in}
use Rattle.node.specs.Store.{nodes_in}
use Rattle.claims_entries.specs.Rendering.{paths_bytes}
use Rattle.claims.specs.Premises.{Slices}
use Rattle.write.specs.declared.Options.{Options}
use Rattle.write.specs.File.{writes_tree, write_all}
use Rattle.claims_write.specs.Meaning.{meanings_of, PathsEnd, NoneRemoved}
use Rattle.claims_write.specs.Kept.{kept_length}
use Rattle.claims_write.specs.Claims.{bytes, reading, index, Roomy, reads_back}
use Rattle.file.specs.Made.{read_with_all}
use Rattle.write.specs.Made.{written_with}

module _ (kind : Kind) where
  module _ (rs : List ℕ) (ps : Paths) (ns nm : List ℕ) (o : Options) (out : List ℕ) (version size : ℕ)
      (done : (write_all kind depth_limit rs ps ns nm o out).answer ≡ Ok (written_with version size)) (few : length ns < 2 ^ 64) (ends : PathsEnd rs ps)
      (records' paths' nodes' : List ℕ)
      (slices : Slices (bytes kind rs ps ns nm o out version size done few ends records' paths' nodes') paths' nodes')
      (roomy : Roomy kind rs ps ns o records' paths' nodes') where
    pub count_answered_is_the_tables : NoneRemoved rs → (sparse tree : Bool) × (used nodes : ℕ)
        × ((reading kind rs ps ns nm o out version size done few ends records' paths' nodes').answer ≡ Ok (read_with_all version sparse tree (records_in rs) used nodes))
    count_answered_is_the_tables stays =
        let sparse : Bool = (index kind rs ps ns nm o out version size done few ends records' paths' nodes').sparse in
        let tree : Bool = writes_tree o in
        let used : ℕ = length (paths_bytes (meanings_of kind.id rs ps)) in
        let nodes : ℕ = pick (writes_tree o) (nodes_in ns) 0 in (
          sparse,
          tree,
          used,
          nodes,
          reads_back kind rs ps ns nm o out version size done few ends records' paths' nodes' slices roomy
              ∙ ap (λ (k : ℕ). Ok (read_with_all version sparse tree k used nodes)) (kept_length rs (records_in rs) 0 (λ i a b. stays i (omega arith))),
        )
