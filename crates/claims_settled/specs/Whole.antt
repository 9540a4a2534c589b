-- That `list_file` puts the whole listing into an output of `listing_room` bytes, of all that a call can answer and leave which meets its own contract (01, Marked pages: the text of every input). Assumes that
-- the file's elements are bytes, as those of every slice are.
use Rattle.std.specs.Prelude.{ℕ, ◌≤◌, ◌<◌, ◌≡◌, length, get_or}
use borrow.Fn.Kinds.{Dens}
use Rattle.laws.specs.Put.{put}
use Rattle.format.specs.Format.{depth_limit}
use Rattle.kind.specs.Sha1.{sha1_kind}
use Rattle.list_text.specs.Listed.{listed}
use Rattle.list_text.specs.Fits.{listing_room, listing_whole}
use Rattle.list_text.proofs as list_text
use Rattle.claims_settled.specs.Law.{Result, Stores, Meets}

module _ (κs : _) (a : Dens κs list_text.list_file.Kinds.ps) (z : Result list_text.list_file.Kinds.ps list_text.list_file.Kinds.r κs) (w : Stores list_text.list_file.Kinds.ps list_text.list_file.Kinds.r κs a) where
  pub list_file_puts_the_whole_listing : Meets list_text.list_file.Kinds.ps list_text.list_file.Kinds.r list_text.list_file.Reads.Learnt κs a z w → ((i : ℕ) → get_or a.0.now i 0 < 256) → listing_room ≤ length a.1.0.now
      → (z ≡ length (listed sha1_kind depth_limit a.0.now)) × (w.1.0 ≡ put a.1.0.now 0 (listed sha1_kind depth_limit a.0.now))
  list_file_puts_the_whole_listing m bytes room = listing_whole a.0.now bytes z a.1.0.now w.1.0 m room
