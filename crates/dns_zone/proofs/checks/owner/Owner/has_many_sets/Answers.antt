use Rattle.dns_zone.proofs.Common.{◌==◌, nat_lt, length, map, ap, sym, ◌∙◌, List, ResourceRecord, distinct, many_sets, NameOfZone}
use Rattle.dns_zone.proofs.SetTests.{types-walk}
use Rattle.dns_spec.proofs.General.Pairs.{pairs_rising}
use Rattle.dns_zone.proofs.checks.owner.Owner.has_many_sets.Goals as goal

pub returns : goal.returns
returns c =
    let own = c.self.inside.own.now in
    let by_types = pairs_rising (λ (r : ResourceRecord). r.rtype) own c.self.invariant.0.by_types in
    c.have_many_sets.ensures ∙ ap (nat_lt 32) (sym (types-walk own by_types))
    ∙ ap (λ (rs : List ResourceRecord). nat_lt 32
    (length (distinct ◌==◌ (map (λ (r : ResourceRecord). r.rtype) rs))))
    c.self.invariant.0.own_is ∙ ap (λ (o : NameOfZone). many_sets o.zone o.name) c.self.view_is
