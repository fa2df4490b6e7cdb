use Rattle.dns_rdata.proofs.Common.{arith}
use Rattle.dns_rdata.proofs.NameFronts.{strings_after, strings_cut}
use Rattle.dns_rdata.proofs.parts.are_strings.Goals as goal

pub returns-in_default-split_at_checked : goal.returns-in_default-split_at_checked
returns-in_default-split_at_checked c = grind (arith, strings_cut)

pub strings-preserved : goal.strings-preserved
strings-preserved c = grind (arith, strings_after)
