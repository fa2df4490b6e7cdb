use Rattle.dns_name.proofs.Common.{length, ReadsLabel}
use Rattle.dns_name.proofs.text.label_text.Given as goal

abbrev pub invariant-octets : goal.invariant-octets
invariant-octets l = ReadsLabel l.text l.octets.items l.rest

abbrev pub decreases-octets : goal.decreases-octets
decreases-octets l = length l.rest
