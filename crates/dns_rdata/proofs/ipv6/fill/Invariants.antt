use Rattle.dns_rdata.proofs.Common.{◌-◌, length}
use Rattle.dns_rdata.proofs.Ipv6Lemmas.{FilledSoFar}
use Rattle.dns_rdata.proofs.ipv6.fill.Given as goal

abbrev pub invariant-zeros : goal.invariant-zeros
invariant-zeros l = FilledSoFar l.fn.groups.items l.groups.items l.back

abbrev pub decreases-zeros : goal.decreases-zeros
decreases-zeros l = 8 - length l.groups.items
