use Rattle.dns_rdata.proofs.Ipv6TextLemmas.{LongestSoFar}
use Rattle.dns_rdata.proofs.ipv6_text.longest_zero_run.Given as goal

abbrev pub invariant-indices : goal.invariant-indices
invariant-indices l = LongestSoFar l.groups l.start l.index l.longest
