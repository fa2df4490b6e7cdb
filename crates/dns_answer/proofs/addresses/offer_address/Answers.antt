use Rattle.dns_answer.proofs.Common.{true≢false, at_or_below, false_from_ne_true, sym, ap, ◌∙◌, exists, ZoneNode, addresses_of}
use Rattle.dns_answer.proofs.Offering.{Offers-is, Offers-empty, Offers-then}
use Rattle.dns_answer.proofs.TargetLaws.{none-outside, none-missing, addresses-folded}
use Rattle.dns_answer.proofs.addresses.offer_address.Goals as goal

pub returns-in_default-clause-offers : goal.returns-in_default-clause-offers
returns-in_default-clause-offers g c =
    Offers-empty _ (none-outside c.args.steps.now.zone c.args.target.now
    c.requires.start.exists.built
    (false_from_ne_true _ (λ h. true≢false (sym (c.requires.reached h)
    ∙ ap (at_or_below c.args.target.now) (sym c.name.ensures) ∙ c.in_default.ensures))))

pub returns-in-Encloser-clause-offers : goal.returns-in-Encloser-clause-offers
returns-in-Encloser-clause-offers g c =
    let z = c.args.steps.now.zone in
    Offers-empty _ (none-missing z c.args.target.now
    (ap (exists z) (sym c.in-Some.ensures.0) ∙ c.in-Encloser.ensures.way.missing))

pub returns-clause-offers : goal.returns-clause-offers
returns-clause-offers g c =
    let z = c.args.steps.now.zone in
    let node = c.or_start-node.ensures ∙ c.in-Name.ensures.way.at_name in
    Offers-is _ _ _ _ (ap (λ (v : ZoneNode). addresses_of v.zone v.name) node
    ∙ addresses-folded z c.in-Some.sought.name ∙ ap (addresses_of z) c.in-Some.ensures.0)
    (Offers-then _ _ _ _ _ c.offer_type.ensures c.offer_type-2.ensures)
