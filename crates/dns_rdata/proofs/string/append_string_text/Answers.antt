use Rattle.dns_rdata.proofs.Common.{arith, append_assoc, take_all}
use Rattle.dns_rdata.proofs.StringLemmas.{plain_text}
use Rattle.dns_rdata.proofs.string.append_string_text.Goals.{then-are_plain, else-are_plain+else-octets-test}
use Rattle.dns_rdata.proofs.string.append_string_text.Goals as goal

pub returns : goal.returns
returns c = grind (arith, plain_text, append_assoc, take_all)
