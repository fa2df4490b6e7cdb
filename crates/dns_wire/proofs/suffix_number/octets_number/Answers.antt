use Rattle.dns_wire.proofs.Common.{arith, le-leb, lt-leb, octets_number}
use Rattle.dns_wire.proofs.suffix_number.octets_number.Goals as goal

pub returns-then-octets-le8-clause-value : goal.returns-then-octets-le8-clause-value
unfolding octets_number
returns-then-octets-le8-clause-value c = grind (arith, le-leb)

pub returns-clause-value : goal.returns-clause-value
unfolding octets_number
returns-clause-value c = grind (arith, lt-leb)
