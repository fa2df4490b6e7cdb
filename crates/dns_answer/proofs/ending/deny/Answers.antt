use Rattle.dns_answer.proofs.Common.{◌≡◌, ◌∷◌, [], sym, ap, ◌∙◌, min, soa_minimum, type_soa, ZoneContents, rrset, set_of, records_at, authority, code_of, ZoneNode}
use Rattle.dns_answer.proofs.Offering.{Offers-nothing}
use Rattle.dns_answer.proofs.Endings.{Ends-denied, soa-item, soa-none}
use Rattle.dns_answer.proofs.ending.deny.Goals as goal

pub returns-in_default : goal.returns-in_default
returns-in_default g c =
    let z = c.args.apex.now.zone in
    let here = ap (λ (v : ZoneNode). set_of (rrset z v.name type_soa)) c.requires.apex.node in
    Ends-denied z (code_of c.args.rcode) [] (soa-none z (sym (c.in_default.ensures.set ∙ here)))
    (Offers-nothing _) c.ended.ensures

pub returns : goal.returns
returns g c =
    let z = c.args.apex.now.zone in
    let set = c.in-Some.soa in
    let kept = c.in-Some.ensures.kept.records in
    let here = ap (λ (v : ZoneNode). v.name) c.requires.apex.node in
    let origin : c.borrowed.result ≡ z.origin =
    c.borrowed.ensures.value ∙ c.origin.ensures.value
    ∙ ap (λ (y : ZoneContents). y.origin) c.requires.zone in
    let item = soa-item z c.requires.apex.exists.built set c.min-ttl.result
    (sym (c.in-Some.ensures.set ∙ ap (λ n. set_of (rrset z n type_soa)) here))
    (ap (λ n. records_at n set.ttl set) (sym here) ∙ kept ∙ ap (λ n. rrset z n set.rtype) here
    ∙ ap (rrset z z.origin) c.in-Some.ensures.rtype)
    (c.min-ttl.ensures
    ∙ (λ j. min (c.ttl.ensures j)
    ((c.soa_minimum.ensures ∙ ap soa_minimum c.rdata.ensures.value) j)))
    in
    Ends-denied z (code_of c.args.rcode) _ (item ∙ ap (λ n. record {
      section = authority;
      records = records_at n c.min-ttl.result set;
    } ∷ []) (sym origin)) c.offer.ensures c.ended-2.ensures
