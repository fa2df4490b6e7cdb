use Rattle.dns_rdata.proofs.Common.{length, ◌-◌}
use Rattle.dns_rdata.proofs.Ipv6Lemmas.{GapSoFar}
use Rattle.dns_rdata.proofs.ipv6.split_at_gap.Given as goal

abbrev pub invariant-indices : goal.invariant-indices
invariant-indices l = GapSoFar l.text l.index

abbrev pub decreases-indices : goal.decreases-indices
decreases-indices l = length l.text - l.index
