-- CALLS, AND WHAT THEY ANSWER AND LEAVE: of each function that a demand speaks of (`file::read`, `write::write_to`, `access::lookup`, `access::verify::verify_entries`, the digest). A call enters by
-- what Rattle itself reads out of the function's contract, `Learnt`, so each theorem here is about the code; its proof is the hypothesis itself. With code and contract altered together the
-- theorem no longer holds. Assumes nothing.
use Rattle.std.specs.Prelude.{ℕ, ◌≡◌, List, [], Result, ⊤}
use contract.Lifetimes.{Lfts}
use borrow.Fn.Kinds.{ParamKind, ResultKind, Out, Dens}
use Rattle.format.specs.Format.{depth_limit}
use Rattle.kind.specs.Sha1.{sha1_kind}
use Rattle.sha1_hash.specs.Sha1 as fips
use Rattle.sha1_hash.specs.Pieces.{digest_after, fed, finished}
use Rattle.sha1_hash.specs.declared.Digest.{Digest}
use Rattle.access.specs.Lookup.{lookup_at}
use Rattle.access.specs.Verify.{verify_at}
use Rattle.file.specs.Read as reading
use Rattle.write.specs.File as writing
use Rattle.write.specs.declared.Options.{Options}
use Rattle.sha1_hash.proofs as sha1_hash
use Rattle.entry.specs.Paths.{Paths, lying_in}
use Rattle.access.proofs as access
use Rattle.file.proofs as file
use Rattle.write.proofs as write
use Rattle.claims_settled.specs.Law.{Result as Answered, Stores, Meets}
use Rattle.access.specs.declared.Error.{Error as LookupError}
use Rattle.access.specs.declared.Found.{Found}
use Rattle.access.specs.declared.verify.Error.{Error as VerifyError}
use Rattle.file.specs.declared.Error.{Error as FileError}
use Rattle.file.specs.declared.Reading.{Reading}
use Rattle.write.specs.declared.Error.{Error as WriteError}
use Rattle.write.specs.declared.Written.{Written}

-- a call that meets a contract: its arguments, what it answered and what it left
pub record Call {n : ℕ} (ps : List (ParamKind n)) (r : ResultKind n) (learnt : Out n ps r) : Type 0 where
  pub lifetimes : Lfts n
  pub args : Dens lifetimes ps
  pub answer : Answered ps r lifetimes
  pub left : Stores ps r lifetimes args
  pub meets : Meets ps r learnt lifetimes args answer left

-- ---- `file::read`, of a file and three stores: its answer, and what the stores hold then

pub data FileReadCall : (s rs ps ns : List ℕ) → Result Reading FileError → (rs' ps' ns' : List ℕ) → Type 0 where
  called : (c : Call file.read.Kinds.ps file.read.Kinds.r file.read.Reads.Learnt)
      → FileReadCall c.args.0.now c.args.1.0.now c.args.1.1.0.now c.args.1.1.1.0.now c.answer c.left.1.0 c.left.1.1.0 c.left.1.1.1.0

pub file_read_answers : {s rs ps ns rs' ps' ns' : List ℕ} {a : Result Reading FileError} → FileReadCall s rs ps ns a rs' ps' ns' → reading.outcome a rs' ps' ns' ≡ reading.read_file sha1_kind depth_limit s rs ps ns
file_read_answers (called c) = c.meets

-- ---- `write::write_to`, of a record table, a node table, what is asked for and an output: its answer, and what the output holds then

pub data WriteToCall : (rs : List ℕ) (ps : Paths) (ns nm : List ℕ) → Options → (out : List ℕ) → Result Written WriteError → (out' : List ℕ) → Type 0 where
  called : (c : Call write.write_to.Kinds.ps write.write_to.Kinds.r write.write_to.Reads.Learnt)
      → WriteToCall c.args.0.now (lying_in c.args.1.0.now) c.args.1.1.0.now c.args.1.1.1.0.now c.args.1.1.1.1.0 c.args.1.1.1.1.1.0.now c.answer c.left.1.1.1.1.1.0

pub write_to_answers : {rs : List ℕ} {ps : Paths} {ns nm out out' : List ℕ} {o : Options} {a : Result Written WriteError} → WriteToCall rs ps ns nm o out a out' → writing.outcome a out' ≡ writing.write_all sha1_kind depth_limit rs ps ns nm o out
write_to_answers (called c) = c.meets

-- ---- `access::lookup` and `access::verify::verify_entries`, of a record table: their answers

pub data AccessLookupCall : (rs : List ℕ) (ps : Paths) (key : List ℕ) (stage : ℕ) → Result Found LookupError → Type 0 where
  called : (c : Call access.lookup.Kinds.ps access.lookup.Kinds.r access.lookup.Reads.Learnt)
      → AccessLookupCall c.args.0.now (lying_in c.args.1.0.now) c.args.1.1.0.now c.args.1.1.1.0 c.answer

pub access_lookup_answers : {rs : List ℕ} {ps : Paths} {key : List ℕ} {stage : ℕ} {a : Result Found LookupError} → AccessLookupCall rs ps key stage a → a ≡ lookup_at rs ps key stage
access_lookup_answers (called c) = c.meets

pub data VerifyEntriesCall : (rs : List ℕ) (ps : Paths) → Result ⊤ VerifyError → Type 0 where
  called : (c : Call access.verify.verify_entries.Kinds.ps access.verify.verify_entries.Kinds.r access.verify.verify_entries.Reads.Learnt)
      → VerifyEntriesCall c.args.0.now (lying_in c.args.1.0.now) c.answer

pub verify_entries_answers : {rs : List ℕ} {ps : Paths} {a : Result ⊤ VerifyError} → VerifyEntriesCall rs ps a → a ≡ verify_at rs ps
verify_entries_answers (called c) = c.meets

-- ---- the digest: a new one, one fed with a piece, what it finishes with, and the SHA-1 of bytes at once

pub data DigestNewCall : Digest → Type 0 where
  called : (c : Call sha1_hash.Digest.new.Kinds.ps sha1_hash.Digest.new.Kinds.r sha1_hash.Digest.new.Reads.Learnt) → DigestNewCall c.answer

pub digest_new_answers : {d : Digest} → DigestNewCall d → d ≡ digest_after []
digest_new_answers (called c) = c.meets

pub data DigestFeedCall : Digest → (piece : List ℕ) → Digest → Type 0 where
  called : (c : Call sha1_hash.Digest.feed.Kinds.ps sha1_hash.Digest.feed.Kinds.r sha1_hash.Digest.feed.Reads.Learnt) → DigestFeedCall c.args.0 c.args.1.0.now c.answer

pub digest_feed_answers : {d d' : Digest} {piece : List ℕ} → DigestFeedCall d piece d' → d' ≡ fed d piece
digest_feed_answers (called c) = c.meets

pub data DigestFinishCall : Digest → (out : List ℕ) → Type 0 where
  called : (c : Call sha1_hash.Digest.finish.Kinds.ps sha1_hash.Digest.finish.Kinds.r sha1_hash.Digest.finish.Reads.Learnt) → DigestFinishCall c.args.0 c.answer

pub digest_finish_answers : {d : Digest} {out : List ℕ} → DigestFinishCall d out → out ≡ finished d
digest_finish_answers (called c) = c.meets

pub data Sha1OfCall : (bytes out : List ℕ) → Type 0 where
  called : (c : Call sha1_hash.sha1_of.Kinds.ps sha1_hash.sha1_of.Kinds.r sha1_hash.sha1_of.Reads.Learnt) → Sha1OfCall c.args.0.now c.answer

pub sha1_of_answers : {bytes out : List ℕ} → Sha1OfCall bytes out → out ≡ fips.sha1 bytes
sha1_of_answers (called c) = c.meets
