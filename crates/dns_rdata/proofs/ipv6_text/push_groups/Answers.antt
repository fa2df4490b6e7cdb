use Rattle.dns_rdata.proofs.Common.{arith}
use Rattle.dns_rdata.proofs.Ipv6TextLemmas.{GroupsWritten-push, GroupsWritten-end}
use Rattle.dns_rdata.proofs.ipv6_text.push_groups.Goals as goal

pub groups-preserved : goal.groups-preserved
groups-preserved c = grind (arith, GroupsWritten-push)

pub returns-clause-text : goal.returns-clause-text
returns-clause-text c = GroupsWritten-end _ _ _ _ _ c.groups.invariant c.groups-test.false
