use Rattle.dns_rdata.proofs.Common.{length}
use Rattle.dns_rdata.proofs.Ipv6Lemmas.{GroupsSoFar}
use Rattle.dns_rdata.proofs.ipv6.read_groups.Given as goal

abbrev pub invariant-groups : goal.invariant-groups
invariant-groups l = GroupsSoFar l.text l.groups.items l.rest

abbrev pub decreases-groups : goal.decreases-groups
decreases-groups l = length l.rest
