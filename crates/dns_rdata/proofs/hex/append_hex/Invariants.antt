use Rattle.dns_rdata.proofs.Common.{length}
use Rattle.dns_rdata.proofs.HexLemmas.{HexSoFar}
use Rattle.dns_rdata.proofs.hex.append_hex.Given as goal

abbrev pub invariant-octets : goal.invariant-octets
invariant-octets l = HexSoFar l.text l.fn.octets.items l.octets.items l.rest

abbrev pub decreases-octets : goal.decreases-octets
decreases-octets l = length l.rest
