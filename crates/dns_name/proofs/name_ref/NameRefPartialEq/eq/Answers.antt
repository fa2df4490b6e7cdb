use Rattle.dns_name.proofs.Common.{arith, octets_equal-decides, same_tests}
use Rattle.dns_name.proofs.WireLemmas.{names_equal_from_octets}
use Rattle.dns_name.proofs.name_ref.NameRefPartialEq.eq.Goals as goal

pub returns : goal.returns
returns c = grind (arith, octets_equal-decides, same_tests, names_equal_from_octets)
