use Rattle.dns_name.proofs.Common.{arith}
use Rattle.dns_name.proofs.PlainLemmas.{none_put, octet_put, dot_put}
use Rattle.dns_name.proofs.plain.put_lengths.Goals as goal

pub octets-init : goal.octets-init
octets-init c = none_put _ _ c.requires.room

pub octets-preserved : goal.octets-preserved
octets-preserved c = grind (arith, octet_put, dot_put)
