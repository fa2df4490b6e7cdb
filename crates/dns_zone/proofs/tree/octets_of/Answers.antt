use Rattle.dns_zone.proofs.Common.{rules, ap, ◌∙◌, labels_of, IsWireForm-wire, row_octets, row_name}
use Rattle.dns_zone.proofs.ChildRows.{owner_at}
use Rattle.dns_zone.proofs.tree.octets_of.Goals as goal

pub returns-clause-octets : goal.returns-clause-octets
unfolding row_octets
returns-clause-octets c = search (rules, owner_at)

pub returns-clause-wire : goal.returns-clause-wire
returns-clause-wire c =
    IsWireForm-wire c.split_at.result.1.now (row_name c.args.records.now c.args.row.now)
    (returns-clause-octets c ∙ c.requires.octets) c.requires.is_name

pub returns-clause-name : goal.returns-clause-name
unfolding row_name
returns-clause-name c = ap labels_of (returns-clause-octets c)
