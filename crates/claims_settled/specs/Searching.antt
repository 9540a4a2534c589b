-- That the contract of each callable function of order check and lookup settles its answer; nothing is lent to be written. Assumes nothing.
use Rattle.access.proofs as access
use Rattle.claims_settled.specs.Law.{Settles, settled}

-- ---- `access`

pub lookup_settled : Settles access.lookup.Kinds.ps access.lookup.Kinds.r access.lookup.Reads.Learnt
lookup_settled κs a z z' w w' = settled (λ r. (r, w))

pub agree_settled : Settles access.order.agree.Kinds.ps access.order.agree.Kinds.r access.order.agree.Reads.Learnt
agree_settled κs a z z' w w' = settled (λ r. (r, w))

pub compare_settled : Settles access.order.compare.Kinds.ps access.order.compare.Kinds.r access.order.compare.Reads.Learnt
compare_settled κs a z z' w w' = settled (λ r. (r, w))

pub compare_stages_settled : Settles access.order.compare_stages.Kinds.ps access.order.compare_stages.Kinds.r access.order.compare_stages.Reads.Learnt
compare_stages_settled κs a z z' w w' = settled (λ r. (r, w))

pub then_settled : Settles access.order.then.Kinds.ps access.order.then.Kinds.r access.order.then.Reads.Learnt
then_settled κs a z z' w w' = settled (λ r. (r, w))

pub verify_entries_settled : Settles access.verify.verify_entries.Kinds.ps access.verify.verify_entries.Kinds.r access.verify.verify_entries.Reads.Learnt
verify_entries_settled κs a z z' w w' = settled (λ r. (r, w))
