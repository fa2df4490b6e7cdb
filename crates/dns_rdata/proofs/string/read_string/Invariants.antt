use Rattle.dns_rdata.proofs.Common.{◌≤◌, length}
use Rattle.dns_rdata.proofs.StringLemmas.{StringSoFar}
use Rattle.dns_rdata.proofs.string.read_string.Given as goal

abbrev pub invariant-octets : goal.invariant-octets
invariant-octets l = record {
  so_far : StringSoFar l.word l.octets.items l.rest;
  fits : length l.octets.items ≤ 255;
}

abbrev pub decreases-octets : goal.decreases-octets
decreases-octets l = length l.rest
