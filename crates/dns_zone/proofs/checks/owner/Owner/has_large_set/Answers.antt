use Rattle.dns_zone.proofs.Common.{◌==◌, nat_lt, length, ap, ◌∙◌, filter, List, list_any, ResourceRecord, large_set, NameOfZone}
use Rattle.dns_zone.proofs.SetTests.{large-in_runs}
use Rattle.dns_spec.proofs.General.Pairs.{pairs_rising}
use Rattle.dns_zone.proofs.checks.owner.Owner.has_large_set.Goals as goal

pub returns : goal.returns
returns c =
    let own = c.self.inside.own.now in
    let by_types = pairs_rising (λ (r : ResourceRecord). r.rtype) own c.self.invariant.0.by_types in
    c.have_large_set.ensures ∙ large-in_runs 63 own by_types
    ∙ ap (λ (rs : List ResourceRecord). list_any (λ (r : ResourceRecord). nat_lt 64
    (length (filter (λ (s : ResourceRecord). s.rtype == r.rtype) rs))) rs)
    c.self.invariant.0.own_is ∙ ap (λ (o : NameOfZone). large_set o.zone o.name) c.self.view_is
