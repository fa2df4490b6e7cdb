use Rattle.dns_zone.proofs.Common.{rules}
use Rattle.dns_zone.proofs.NodeRows.{child_name}
use Rattle.dns_zone.proofs.tree.children.Children.row.Goals as goal

pub returns-clause-node : goal.returns-clause-node
returns-clause-node c = search (rules, child_name)
