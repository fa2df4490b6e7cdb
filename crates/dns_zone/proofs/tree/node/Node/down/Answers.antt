use Rattle.dns_zone.proofs.Common.{rules, false≢true}
use Rattle.dns_zone.proofs.tree.node.Node.down.Goals as goal

pub returns-in_err-row-clause-child : goal.returns-in_err-row-clause-child
returns-in_err-row-clause-child c = search (rules, false≢true)

pub returns-clause-child : goal.returns-clause-child
returns-clause-child c = search rules

pub returns-clause-node : goal.returns-clause-node
returns-clause-node c = search rules
