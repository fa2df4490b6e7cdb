use Rattle.dns_rdata.proofs.Common.{arith}
use Rattle.dns_rdata.proofs.Ipv4Lemmas.{not_read, other_end, number_read}
use Rattle.dns_rdata.proofs.ipv4.octet_and_dot.Goals as goal

pub returns-in_err-octet-clause-none : goal.returns-in_err-octet-clause-none
returns-in_err-octet-clause-none c = λ none n rest. not_read _ n rest c.in_err-octet.ensures

pub returns-in_err-dot-clause-none : goal.returns-in_err-dot-clause-none
returns-in_err-dot-clause-none c = grind (arith, other_end)

pub returns-then-dot-ne46-clause-none : goal.returns-then-dot-ne46-clause-none
returns-then-dot-ne46-clause-none c = grind (arith, other_end)

pub returns-clause-some : goal.returns-clause-some
returns-clause-some c = grind (arith, number_read)
