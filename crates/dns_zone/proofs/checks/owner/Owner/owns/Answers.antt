use Rattle.dns_zone.proofs.Common.{ap, ◌∙◌, owns, NameOfZone}
use Rattle.dns_zone.proofs.PlainRecords.{owned_by}
use Rattle.dns_zone.proofs.checks.owner.Owner.owns.Goals as goal

pub returns : goal.returns
returns c =
    let o = c.self.inside in
    c.has_type.ensures
    ∙ owned_by o.context.now o.name.now c.args.rtype.0 o.own.now c.self.invariant.0.own_is
    ∙ ap (λ (o : NameOfZone). owns o.zone o.name c.args.rtype.0) c.self.view_is
