use Rattle.std.proofs.Common.{rules, ◌≡◌, ◌∙◌, Ok, Err}
use Rattle.write.proofs.Answers.{writes}
use Rattle.write.proofs.write_to.Goals as goal

pub write_sized-requires : goal.write_sized-requires
write_sized-requires c = let sized : c.size_entries.result ≡ Ok c.in_ok-sized.sized = search rules in search (writes, rules)

pub returns-in_err-sized : goal.returns-in_err-sized
returns-in_err-sized c = search (writes, rules)

pub returns-then-not-fits : goal.returns-then-not-fits
returns-then-not-fits c = let sized : c.size_entries.result ≡ Ok c.in_ok-sized.sized = search rules in search (writes, rules)

pub returns : goal.returns
returns c = let sized : c.size_entries.result ≡ Ok c.in_ok-sized.sized = search rules in search (writes, rules)
