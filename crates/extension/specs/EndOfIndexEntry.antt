-- EOIE (gitformat-index, "End of Index Entry"; 01, "Extensions": "the 32 bytes before the trailer: signature, size 24, offset, SHA-1 of the signatures and sizes of the
-- extensions from that offset"), over the kind, or over h where an id's length is all that is needed. Assumes nothing.
use Rattle.std.specs.Prelude.{ℕ, ◌+◌, ◌-◌, true, length, take, drop, ltb, eqb, None, Option, Some}
use mathlib.Core.List.{List, [], ◌∷◌, flatten}
use Rattle.laws.specs.Pick.{pick}
use Rattle.slices.specs.Bytes.{same_bytes}
use Rattle.wire.specs.BigEndian.{be_at}
use Rattle.wire.specs.Places.{file_at}
use Rattle.format.specs.Format.{header_size, extension_header_size, offset_size, eoie_size, eoie_whole_size}
use Rattle.kind.specs.Kind.{Kind}
use Rattle.extension.specs.Signatures.{EOIE}
use Rattle.extension.specs.Iter.{Found, run_at, last_where, on_body}
use Rattle.extension.specs.declared.end_of_index_entry.Prior.{Prior}
use Rattle.extension.specs.declared.iter.Body.{Body}
use Rattle.wire.specs.declared.FileAt.{FileAt}

-- the headers of extensions, which are their signatures and sizes
unfoldable pub headers_of : List ℕ → List Found → List (List ℕ)
headers_of s [] = []
headers_of s (f ∷ fs) = take extension_header_size (drop f.place s) ∷ headers_of s fs

-- the last of the extensions, whatever its signature
abbrev pub last_body : List Found → Option Body
last_body fs = last_where (λ f. true) None fs

unfoldable pub prior_at : Kind → List ℕ → ℕ → ℕ → Prior
prior_at kind s from end = record { sum = kind.hash (flatten (headers_of s (run_at s from end).items)); last = last_body (run_at s from end).items }

-- the offset, where the extensions from it up to `start` have the hash that EOIE has, there are some, and the last of them ends at `start`
unfoldable pub verified_at : Kind → List ℕ → ℕ → ℕ → Option FileAt
verified_at kind s start offset =
    pick (same_bytes (kind.hash (flatten (headers_of s (run_at s offset start).items))) (take kind.id (drop (start + (extension_header_size + offset_size)) s)))
    (on_body (last_body (run_at s offset start).items) None
    (λ first behind. pick (eqb behind start) (Some (file_at offset)) None))
    None

-- an EOIE that begins at `start`
unfoldable pub offset_at : Kind → List ℕ → ℕ → Option FileAt
offset_at kind s start =
    pick (eqb (be_at 4 s start) EOIE)
    (pick (eqb (be_at 4 s (start + 4)) (eoie_size kind.id))
    (pick (ltb (be_at 4 s (start + 8)) header_size) None
    (pick (ltb start (be_at 4 s (start + 8))) None
    (verified_at kind s start (be_at 4 s (start + 8)))))
    None)
    None

-- the EOIE in front of the trailer
unfoldable pub offset_in : Kind → List ℕ → Option FileAt
offset_in kind s = pick (ltb (length s) (eoie_whole_size kind.id + kind.id)) None (offset_at kind s (length s - (eoie_whole_size kind.id + kind.id)))
