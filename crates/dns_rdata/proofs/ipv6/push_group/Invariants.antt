use Rattle.dns_rdata.proofs.Ipv6Lemmas.{GroupSoFar}
use Rattle.dns_rdata.proofs.ipv6.push_group.Given as goal

abbrev pub invariant-digits : goal.invariant-digits
invariant-digits l = GroupSoFar l.text l.digit-index l.group
