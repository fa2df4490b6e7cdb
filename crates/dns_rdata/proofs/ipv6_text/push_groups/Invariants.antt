use Rattle.dns_rdata.proofs.Ipv6TextLemmas.{GroupsWritten}
use Rattle.dns_rdata.proofs.ipv6_text.push_groups.Given as goal

abbrev pub invariant-groups : goal.invariant-groups
invariant-groups l = GroupsWritten l.fn.text.items l.fn.groups l.others l.group-index l.text.items
