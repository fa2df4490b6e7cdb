use Rattle.dns_zone.proofs.Common.{rules}
use Rattle.dns_zone.proofs.GrowingChildren.{row_is}
use Rattle.dns_zone.proofs.Existing.{origin-node}
use Rattle.dns_zone.proofs.tree.steps.Steps.apex.Goals as goal

pub at-requires : goal.at-requires
at-requires c = record { kept = c.self.invariant; row = c.self.invariant.tree.some }

pub returns-clause-node : goal.returns-clause-node
returns-clause-node c = search (rules, row_is)

pub returns-clause-exists : goal.returns-clause-exists
returns-clause-exists c = search (rules, origin-node)
