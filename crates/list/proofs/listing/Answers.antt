-- `list::listing` is safe and ends: the listing is a part of the output, since every listing fits that. Assumes nothing.
use native.Mathlib.Omega.{arith}
use Rattle.list_text.specs.Fits.{listing_within}
use Rattle.list.proofs.listing.Goals as goal

pub shared_ref_as_front-result : goal.shared_ref_as_front-result
shared_ref_as_front-result c = listing_within _ (λ i. omega (arith, c.type_inv.file i)) _ _ _ c.list_file-size.ensures
