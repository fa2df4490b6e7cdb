use Rattle.dns_name.proofs.Common.{arith}
use Rattle.dns_name.proofs.WireLemmas.{names_equal_from_octets}
use Rattle.dns_name.proofs.name.NamePartialEq.eq.Goals as goal

pub returns : goal.returns
returns c = grind (arith, names_equal_from_octets)
