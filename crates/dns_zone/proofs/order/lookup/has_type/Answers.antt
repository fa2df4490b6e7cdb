use Rattle.dns_zone.proofs.Common.{eqb, ap, sym, ◌∙◌, take_rest, ResourceRecord}
use Rattle.dns_spec.proofs.General.Tests.{first_passes, first_is, first_none}
use Rattle.dns_spec.proofs.General.Pairs.{pairs_rising, found_first}
use Rattle.dns_zone.proofs.order.lookup.has_type.Goals as goal

pub returns-in-Some : goal.returns-in-Some
returns-in-Some c =
    let p = λ (r : ResourceRecord). eqb r.rtype c.args.rtype.0 in
    let rs = c.args.records.now in
    c.eq.ensures ∙ ap p c.entry.view_is ∙ first_is p c.in-Some.entry.now _ c.in-Some.ensures.value
    ∙ ap (first_passes p) (take_rest rs c.count_below.result ∙ c.count_below.ensures.others)
    ∙ sym (found_first (λ (r : ResourceRecord). r.rtype) c.args.rtype.0 rs
    (pairs_rising (λ (r : ResourceRecord). r.rtype) rs c.requires))

pub returns-in-None : goal.returns-in-None
returns-in-None c =
    let p = λ (r : ResourceRecord). eqb r.rtype c.args.rtype.0 in
    let rs = c.args.records.now in
    first_none p _ c.in-None.ensures.value
    ∙ ap (first_passes p) (take_rest rs c.count_below.result ∙ c.count_below.ensures.others)
    ∙ sym (found_first (λ (r : ResourceRecord). r.rtype) c.args.rtype.0 rs
    (pairs_rising (λ (r : ResourceRecord). r.rtype) rs c.requires))
