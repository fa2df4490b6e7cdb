use Rattle.dns_zone.proofs.Common.{rules}
use Rattle.dns_zone.proofs.NodeRows.{node_is}
use Rattle.dns_zone.proofs.tree.node.Node.own.Goals as goal

pub returns-clause-node : goal.returns-clause-node
returns-clause-node c = search (rules, node_is)
