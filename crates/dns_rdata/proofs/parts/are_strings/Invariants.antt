use Rattle.dns_rdata.proofs.Common.{◌≡◌, length, are_strings}
use Rattle.dns_rdata.proofs.parts.are_strings.Given as goal

abbrev pub invariant-strings : goal.invariant-strings
invariant-strings l = are_strings 0 l.octets ≡ are_strings 0 l.rest

abbrev pub decreases-strings : goal.decreases-strings
decreases-strings l = length l.rest
