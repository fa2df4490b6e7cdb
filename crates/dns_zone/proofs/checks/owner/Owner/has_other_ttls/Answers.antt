use Rattle.dns_zone.proofs.Common.{◌==◌, ◌&&◌, not, ap, ◌∙◌, List, list_any, ResourceRecord, ttls_differ, NameOfZone}
use Rattle.dns_zone.proofs.SetTests.{ttls-in_pairs}
use Rattle.dns_spec.proofs.General.Pairs.{pairs_rising}
use Rattle.dns_zone.proofs.checks.owner.Owner.has_other_ttls.Goals as goal

pub returns : goal.returns
returns c =
    let own = c.self.inside.own.now in
    let by_types = pairs_rising (λ (r : ResourceRecord). r.rtype) own c.self.invariant.0.by_types in
    c.have_other_ttls.ensures ∙ ttls-in_pairs own by_types
    ∙ ap (λ (rs : List ResourceRecord). list_any (λ (r : ResourceRecord). list_any
    (λ (s : ResourceRecord). r.rtype == s.rtype && not (r.ttl == s.ttl)) rs) rs)
    c.self.invariant.0.own_is
    ∙ ap (λ (o : NameOfZone). ttls_differ o.zone o.name) c.self.view_is
