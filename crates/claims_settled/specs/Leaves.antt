-- That the contract of each callable function of the leaves settles its answer and every lent store: sums, hexadecimal digits, byte slices, numbers on the wire, the
-- digest. Assumes nothing.
use Rattle.sums.proofs as sums
use Rattle.show.proofs as show
use Rattle.slices.proofs as slices
use Rattle.wire.proofs as wire
use Rattle.sha1_hash.proofs as sha1_hash
use Rattle.claims_settled.specs.Law.{Settles, both, settled}

-- ---- `sums`

pub saturating_add_settled : Settles sums.saturating_add.Kinds.ps sums.saturating_add.Kinds.r sums.saturating_add.Reads.Learnt
saturating_add_settled κs a z z' w w' = settled (λ r. (r, w))

pub saturating_sub_settled : Settles sums.saturating_sub.Kinds.ps sums.saturating_sub.Kinds.r sums.saturating_sub.Reads.Learnt
saturating_sub_settled κs a z z' w w' = settled (λ r. (r, w))

-- ---- `show`

pub hex_byte_settled : Settles show.hex_byte.Kinds.ps show.hex_byte.Kinds.r show.hex_byte.Reads.Learnt
hex_byte_settled κs a z z' w w' = settled (λ r. (r, w))

pub hex_line_settled : Settles show.hex_line.Kinds.ps show.hex_line.Kinds.r show.hex_line.Reads.Learnt
hex_line_settled κs a z z' w w' = settled (λ r. (r, w))

-- ---- `slices`

pub copy_bytes_settled : Settles slices.copy_bytes.Kinds.ps slices.copy_bytes.Kinds.r slices.copy_bytes.Reads.Learnt
copy_bytes_settled κs a z z' w w' = settled (λ o. (tt, (tt, (tt, (tt, (o, (tt, tt)))))))

pub copy_within_settled : Settles slices.copy_within.Kinds.ps slices.copy_within.Kinds.r slices.copy_within.Reads.Learnt
copy_within_settled κs a z z' w w' = settled (λ o. (tt, (o, (tt, (tt, (tt, tt))))))

pub clear_settled : Settles slices.clear.Kinds.ps slices.clear.Kinds.r slices.clear.Reads.Learnt
clear_settled κs a z z' w w' = settled (λ o. (tt, (o, (tt, (tt, tt)))))

pub same_settled : Settles slices.same.Kinds.ps slices.same.Kinds.r slices.same.Reads.Learnt
same_settled κs a z z' w w' = settled (λ r. (r, w))

pub first_nul_settled : Settles slices.first_nul.Kinds.ps slices.first_nul.Kinds.r slices.first_nul.Reads.Learnt
first_nul_settled κs a z z' w w' = settled (λ r. (r, w))

-- ---- `wire`

pub be16_settled : Settles wire.be16.Kinds.ps wire.be16.Kinds.r wire.be16.Reads.Learnt
be16_settled κs a z z' w w' = settled (λ r. (r, w))

pub be32_settled : Settles wire.be32.Kinds.ps wire.be32.Kinds.r wire.be32.Reads.Learnt
be32_settled κs a z z' w w' = settled (λ r. (r, w))

pub be64_settled : Settles wire.be64.Kinds.ps wire.be64.Kinds.r wire.be64.Reads.Learnt
be64_settled κs a z z' w w' = settled (λ r. (r, w))

pub put16_settled : Settles wire.put16.Kinds.ps wire.put16.Kinds.r wire.put16.Reads.Learnt
put16_settled κs a z z' w w' = settled (λ o. (tt, (o, (tt, (tt, tt)))))

pub put32_settled : Settles wire.put32.Kinds.ps wire.put32.Kinds.r wire.put32.Reads.Learnt
put32_settled κs a z z' w w' = settled (λ o. (tt, (o, (tt, (tt, tt)))))

pub put64_settled : Settles wire.put64.Kinds.ps wire.put64.Kinds.r wire.put64.Reads.Learnt
put64_settled κs a z z' w w' = settled (λ o. (tt, (o, (tt, (tt, tt)))))

pub part_first_nul_settled : Settles wire.Part.first_nul.Kinds.ps wire.Part.first_nul.Kinds.r wire.Part.first_nul.Reads.Learnt
part_first_nul_settled κs a z z' w w' = settled (λ r. (r, w))

pub seven_bit_settled : Settles wire.Part.seven_bit.Kinds.ps wire.Part.seven_bit.Kinds.r wire.Part.seven_bit.Reads.Learnt
seven_bit_settled κs a z z' w w' = settled (λ r. (r, w))

pub digits_settled : Settles wire.Part.digits.Kinds.ps wire.Part.digits.Kinds.r wire.Part.digits.Reads.Learnt
digits_settled κs a z z' w w' = settled (λ r. (r, w))

pub signed_digits_settled : Settles wire.Part.signed_digits.Kinds.ps wire.Part.signed_digits.Kinds.r wire.Part.signed_digits.Reads.Learnt
signed_digits_settled κs a z z' w w' = settled (λ r. (r, w))

pub decimal_size_settled : Settles wire.decimal_size.Kinds.ps wire.decimal_size.Kinds.r wire.decimal_size.Reads.Learnt
decimal_size_settled κs a z z' w w' = settled (λ r. (r, w))

pub put_decimal_settled : Settles wire.put_decimal.Kinds.ps wire.put_decimal.Kinds.r wire.put_decimal.Reads.Learnt
put_decimal_settled κs a z z' w w' (p, q) (p', q') = both (λ r o. (r, (o, (tt, (tt, tt))))) p p' q q'

-- ---- `sha1`

pub new_settled : Settles sha1_hash.Digest.new.Kinds.ps sha1_hash.Digest.new.Kinds.r sha1_hash.Digest.new.Reads.Learnt
new_settled κs a z z' w w' = settled (λ r. (r, w))

pub feed_settled : Settles sha1_hash.Digest.feed.Kinds.ps sha1_hash.Digest.feed.Kinds.r sha1_hash.Digest.feed.Reads.Learnt
feed_settled κs a z z' w w' = settled (λ r. (r, w))

pub finish_settled : Settles sha1_hash.Digest.finish.Kinds.ps sha1_hash.Digest.finish.Kinds.r sha1_hash.Digest.finish.Reads.Learnt
finish_settled κs a z z' w w' = settled (λ r. (r, w))

pub sha1_of_settled : Settles sha1_hash.sha1_of.Kinds.ps sha1_hash.sha1_of.Kinds.r sha1_hash.sha1_of.Reads.Learnt
sha1_of_settled κs a z z' w w' = settled (λ r. (r, w))
