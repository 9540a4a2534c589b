-- That the contract of each callable function of the listing's library settles its answer and every byte of the output. Assumes nothing.
use Rattle.lines.specs.Written.{Outcome}
use Rattle.lines.proofs as lines
use Rattle.list_text.proofs as list_text
use Rattle.claims_settled.specs.Law.{Settles, settled}

-- ---- `lines`

pub write_records_settled : Settles lines.write_records.Kinds.ps lines.write_records.Kinds.r lines.write_records.Reads.Learnt
write_records_settled κs a z z' w w' = settled (λ (o : Outcome). (o.size, (tt, (tt, (tt, (o.out, tt))))))

pub write_refused_settled : Settles lines.write_refused.Kinds.ps lines.write_refused.Kinds.r lines.write_refused.Reads.Learnt
write_refused_settled κs a z z' w w' = settled (λ (o : Outcome). (o.size, (tt, (tt, (o.out, tt)))))

-- ---- `list_text`

pub write_lines_settled : Settles list_text.write_lines.Kinds.ps list_text.write_lines.Kinds.r list_text.write_lines.Reads.Learnt
write_lines_settled κs a z z' w w' = settled (λ (o : Outcome). (o.size, (tt, (tt, (tt, (o.out, tt))))))

pub list_file_settled : Settles list_text.list_file.Kinds.ps list_text.list_file.Kinds.r list_text.list_file.Reads.Learnt
list_file_settled κs a z z' w w' = settled (λ (o : Outcome). (o.size, (tt, (o.out, tt))))
