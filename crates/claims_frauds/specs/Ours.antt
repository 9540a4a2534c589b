-- OURS MEET THE DEMANDS: the definitions that the contracts cite. Assumes nothing.
use Rattle.std.specs.Prelude.{ℕ, ◌≡◌, refl, Bool, true, false, ◌&&◌, List, [], ◌∷◌, take, Ok, Result, Some}
use Rattle.std.proofs.Common.{sym, ap, ◌∙◌, lit≤}
use Rattle.std.proofs.lemmas.Bool.{false≢true}
use Rattle.laws.specs.Pick.{pick}
use Rattle.wire.specs.Places.{file_at}
use Rattle.format.specs.Format.{depth_limit, id_size}
use Rattle.sha1_hash.specs.Pieces as pieces
use Rattle.sha1_hash.specs.Theorems.{each_prefix_finishes}
use Rattle.sha1_hash.specs.declared.Digest.{Digest}
use Rattle.kind.specs.Sha1.{sha1_kind}
use Rattle.node.specs.Store.{nodes_in}
use Rattle.access.specs.Lookup.{lookup_at}
use Rattle.access.specs.Finds.{absent_then_none, none_then_absent, found_then_has, has_then_found}
use Rattle.access.specs.Steps.{found_counts_the_steps, absent_counts_the_steps}
use Rattle.grammar.proofs.Unique as grammar
use Rattle.file.specs.Read.{read_file}
use Rattle.write.specs.File.{writes_tree, write_all}
use Rattle.write.specs.declared.Options.{Options}
use Rattle.claims.specs.Reading.{answer_says}
use Rattle.claims.specs.Claims as claims
use Rattle.claims_write.specs.Meaning.{PathsEnd}
use Rattle.claims_write.specs.Spelled.{index_of}
use Rattle.claims_write.specs.Spelled as spelled
use Rattle.claims_write.specs.TreeBack.{written_tree_is_the_tables, tree_reads_back_node_by_node}
use Rattle.claims_write.specs.Sizes.{tree_asked}
use Rattle.claims_write.specs.Lengths.{offset_is, writes_tree_is, has_eoie_is}
use Rattle.claims_write.specs.Answers as answers
use Rattle.claims_write.specs.Asked as asked
use Rattle.claims_write.specs.Eoie as eoie
use Rattle.claims_write.specs.Claims as claims_write
use Rattle.claims_frauds.specs.Demands.{Reader, Writer, Digester, Demand3, AnswersByTheTable, Answers, WritesAsAsked, Case, Done?, ReadsBack, Finds, Demand2, CountsTheSteps, fed_all, DigestsEachPrefix}
use Rattle.file.specs.Made.{read_with_all}
use Rattle.file.specs.declared.Error.{Error as FileError}
use Rattle.file.specs.declared.Reading.{Reading}

-- what the contracts of `file::read`, `write::write_to`, `access::lookup` and `sha1_hash::Digest` cite
abbrev pub reader : Reader
reader = read_file sha1_kind depth_limit

abbrev pub writer : Writer
writer = write_all sha1_kind depth_limit

abbrev pub digest : Digester
digest = record { State = Digest; new = pieces.digest_after []; feed = pieces.fed; finish = pieces.finished }

-- ---- demand 3

pub demand_3 : Demand3 sha1_kind reader
demand_3 =
    record {
      accepted_exactly_if_spelled = λ s rs ps ns x t. claims.accepted_exactly_if_spelled sha1_kind s rs ps ns x.slices x.trailer x.room t;
      one_meaning = λ s m o x y. grammar.one_meaning id_size s m o x y;
      stores_are_the_meaning = λ s rs ps ns x t m y. claims.stores_are_the_meaning sha1_kind s rs ps ns x.slices x.trailer x.room t m y;
      refusal_5_exactly = λ s rs ps ns x g k. claims.refusal_5_exactly sha1_kind s rs ps ns x.slices (record { header = g; trailer = x.trailer }) x.room k;
      refusal_5_stores = λ s rs ps ns x g k y. claims.refusal_5_stores sha1_kind s rs ps ns x.slices (record { header = g; trailer = x.trailer }) x.room k y;
    }

pub answers_by_the_table : AnswersByTheTable sha1_kind reader
answers_by_the_table = answer_says sha1_kind

-- ---- demand 2

pub writer_answers : Answers sha1_kind writer
writer_answers =
    record {
      done_exactly = answers.done_exactly sha1_kind;
      done_answers = answers.done_answers sha1_kind;
      refusal_12_exactly = answers.refusal_12_exactly sha1_kind;
      refusal_16_exactly = answers.refusal_16_exactly sha1_kind;
      refusal_15_exactly = answers.refusal_15_exactly sha1_kind;
      refusal_14_exactly = answers.refusal_14_exactly sha1_kind;
    }

pub writes_as_asked : WritesAsAsked sha1_kind writer
writes_as_asked =
    record {
      as_asked = asked.written_as_asked sha1_kind;
      rest_as_it_was = λ rs ps ns nm o out version size e. (asked.rest_as_it_was sha1_kind rs ps ns nm o out version size e, asked.output_as_long sha1_kind rs ps ns nm o out version size e);
      refused_as_it_was = answers.refused_leaves_the_output sha1_kind;
    }

module _ (c : Case) (x : Done? sha1_kind writer c) where
  ends : PathsEnd c.records c.paths
  ends = claims_write.writable_ends c.records c.paths x.table

  roomy : claims_write.Roomy sha1_kind c.records c.paths c.nodes c.options c.records' c.paths' c.nodes'
  roomy = record { records = x.room.records; paths = x.room.paths; nodes = λ e. x.room.nodes (sym (writes_tree_is c.options) ∙ e) }

  means : asked.Means sha1_kind c.records c.paths c.options c.version (index_of sha1_kind c.records c.paths c.nodes c.names c.options)
  means = asked.index_means sha1_kind c.records c.paths c.nodes c.names c.options c.out c.version c.size x.done x.few

-- the reader's answer in the words of what is asked for
answered : (c : Case) {sparse : Bool} {records paths : ℕ}
    → ◌≡◌ {A = Result Reading FileError} (Ok (read_with_all c.version sparse (writes_tree c.options) records paths (pick (writes_tree c.options) (nodes_in c.nodes) 0)))
    (Ok (read_with_all c.version sparse (tree_asked c.options) records paths (pick (tree_asked c.options) (nodes_in c.nodes) 0)))
answered c {sparse} {records} {paths} = ap (λ (t : Bool). Ok (read_with_all c.version sparse t records paths (pick t (nodes_in c.nodes) 0))) (writes_tree_is c.options)

-- TREE is given and asked for
both_asked : (o : Options) → tree_asked o ≡ true → (o.tree ≡ true) × (o.cache ≡ true)
both_asked o = by o.tree o.cache
  where
    by : (t c : Bool) → (t && c) ≡ true → (t ≡ true) × (c ≡ true)
    by true c e = (refl, e)
    by false c e = absurd (false≢true e)

pub reads_back : ReadsBack sha1_kind writer reader
reads_back =
    record {
      reads_back = λ c x. (
        (index_of sha1_kind c.records c.paths c.nodes c.names c.options).sparse,
        (means c x).sparse_tells,
        claims_write.reads_back sha1_kind c.records c.paths c.nodes c.names c.options c.out c.version c.size x.done x.few (ends c x) c.records' c.paths' c.nodes' x.slices (roomy c x) ∙ answered c,
      );
      written_reads_back = λ c x. claims_write.written_reads_back sha1_kind c.records c.paths c.nodes c.names c.options c.out c.version c.size x.done x.few (ends c x) c.records' c.paths' c.nodes' x.slices (roomy c x) x.table;
      tree_reads_back = λ c x e. tree_reads_back_node_by_node sha1_kind c.records c.paths c.nodes c.names c.options c.out c.version c.size x.done x.few (ends c x) c.records' c.paths' c.nodes' x.slices (roomy c x) (both_asked c.options e).0 (both_asked c.options e).1;
      written_is_spelled = λ c x. (
        index_of sha1_kind c.records c.paths c.nodes c.names c.options,
        spelled.written_is_spelled sha1_kind c.records c.paths c.nodes c.names c.options c.out c.version c.size x.done (ends c x),
        means c x,
        λ e. written_tree_is_the_tables sha1_kind c.records c.paths c.nodes c.names c.options c.out c.version c.size x.done x.few (ends c x) c.records' c.paths' c.nodes' x.slices (roomy c x) (both_asked c.options e).0 (both_asked c.options e).1,
      );
      eoie_is_found = λ c x e. eoie.eoie_is_found sha1_kind c.records c.paths c.nodes c.names c.options c.out c.version c.size x.done (has_eoie_is c.records c.options ∙ e) ∙ ap (λ (n : ℕ). Some (file_at n)) (offset_is id_size (lit≤ tt) c.records c.paths);
    }

pub finds : Finds lookup_at
finds =
    record {
      absent_exactly = λ rs ps sorted key stage small. ((λ (k, e). absent_then_none rs ps sorted key stage small k e), none_then_absent rs ps sorted key stage small);
      found_exactly = λ rs ps sorted key stage small i. ((λ (k, e). found_then_has rs ps sorted key stage small i k e), has_then_found rs ps sorted key stage small i);
    }

pub demand_2 : Demand2 sha1_kind writer reader lookup_at
demand_2 = record { answers = writer_answers; writes = writes_as_asked; reads_back = reads_back; finds = finds }

-- ---- the halving rule

pub counts_the_steps : CountsTheSteps lookup_at
counts_the_steps = record { found = found_counts_the_steps; absent = absent_counts_the_steps }

-- ---- SHA-1 after each piece

fed_alike : (d : Digest) (ps : List (List ℕ)) → fed_all digest d ps ≡ pieces.fed_all d ps
unfolding pieces.fed_all
fed_alike d [] = refl
fed_alike d (p ∷ ps) = fed_alike (pieces.fed d p) ps

pub digests_each_prefix : DigestsEachPrefix digest
digests_each_prefix ps n = ap pieces.finished (fed_alike (pieces.digest_after []) (take n ps)) ∙ each_prefix_finishes ps n
