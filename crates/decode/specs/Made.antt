-- A header, and a run of entries that was read: each made of its parts, so that definitions and theorems can name it. Assumes nothing.
use Rattle.std.specs.Prelude.{ℕ, ◌≡◌, Bool, Ok, Result}
use Rattle.std.proofs.Common.{ap}
use Rattle.wire.specs.declared.FileAt.{FileAt}
use Rattle.wire.specs.declared.PathAt.{PathAt}
use Rattle.decode.specs.declared.header.Header.{Header}
use Rattle.decode.specs.declared.entries.Done.{Done}
use Rattle.decode.specs.declared.entries.Error.{Error as EntriesError}

abbrev pub header_with : ℕ → ℕ → Header
header_with version entries = record { version = version; entries = entries }

abbrev pub done_at : FileAt → PathAt → Bool → Done
done_at next used sparse = record { next = next; used = used; sparse = sparse }

-- two runs that are one have the same parts
pub record SameDone (a b : FileAt) (u v : PathAt) (x y : Bool) : Type 0 where
  pub next : a ≡ b
  pub used : u ≡ v
  pub sparse : x ≡ y

pub done_same : {a b : FileAt} {u v : PathAt} {x y : Bool} → ◌≡◌ {A = Result Done EntriesError} (Ok (done_at a u x)) (Ok (done_at b v y)) → SameDone a b u v x y
done_same {a} {b} {u} {v} {x} {y} q =
    let w : done_at a u x ≡ done_at b v y = cc in
    record { next = ap (λ (d : Done). d.next) w; used = ap (λ (d : Done). d.used) w; sparse = ap (λ (d : Done). d.sparse) w }
