use Rattle.dns_zone.proofs.Common.{◌&&◌, ◌==◌, ap, sym, ◌∙◌, list_any, type_cname, at_or_below, ResourceRecord, ZoneContents, owns}
use Rattle.dns_zone.proofs.OwnRecords.{own_owns}
use Rattle.dns_zone.proofs.checks.context.CheckContext.name_faults.Goals as goal

pub returns-clause-alias : goal.returns-clause-alias
returns-clause-alias c =
    let z = c.args.self.now in
    let m = c.args.target.now in
    c.has_type.ensures
    ∙ ap (list_any (λ (r : ResourceRecord). r.rtype == type_cname)) c.at-is_under_cut.ensures.own
    ∙ own_owns z m type_cname
    ∙ ap (λ b. b && owns z m type_cname)
    (sym c.if-not-is_at_or_below.false ∙ c.is_at_or_below.ensures
    ∙ ap (λ (x : ZoneContents). at_or_below m x.origin) c.self.view_is)
