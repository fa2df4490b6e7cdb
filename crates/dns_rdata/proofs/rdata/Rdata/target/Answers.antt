use Rattle.dns_rdata.proofs.Common.{◌∷◌, Some, sym, ap, ◌∙◌, subst, first_name, labels_of_spelled, IsWireForm-wire, part_for, IsWirePart}
use Rattle.dns_rdata.proofs.NamedData.{ends_with_name}
use Rattle.dns_rdata.proofs.PartsLoop.{walked, none_left}
use Rattle.dns_rdata.proofs.rdata.Rdata.target.Goals as goal

pub split_at-requires : goal.split_at-requires
split_at-requires c = (ends_with_name
    c.args.rtype.0 c.in-Some.count c.args.octets.now c.in-Some.ensures c.requires).inside

pub new-requires : goal.new-requires
new-requires c =
    let n = ends_with_name
    c.args.rtype.0 c.in-Some.count c.args.octets.now c.in-Some.ensures c.requires in
    IsWireForm-wire c.split_at.result.1.now n.own (c.split_at.ensures.back ∙ n.whole) n.is_name

pub returns-in-Some-clause-value : goal.returns-in-Some-clause-value
returns-in-Some-clause-value c =
    let n = ends_with_name
    c.args.rtype.0 c.in-Some.count c.args.octets.now c.in-Some.ensures c.requires in
    ap Some (c.new.ensures.value ∙ labels_of_spelled c.split_at.result.1.now n.own
    (c.split_at.ensures.back ∙ n.whole) n.is_name) ∙ sym n.found

pub new-requires-in-Name : goal.new-requires-in-Name
new-requires-in-Name c =
    let w = walked _ _ _ c.parts.invariant.names c.in-Some-next.ensures.steps in
    subst IsWirePart c.in-Name.is w.borrowed

pub parts-preserved : goal.parts-preserved
parts-preserved c =
    let w = walked _ _ _ c.parts.invariant.names c.in-Some-next.ensures.steps in
    record {
      names = w.names;
      first = sym (ap first_name w.are ∙ ap (λ x. first_name (part_for x ∷ c.next.new.self))
          c.in_default-part.is) ∙ c.parts.invariant.first;
    }

pub returns-clause-value : goal.returns-clause-value
returns-clause-value c = sym (ap first_name (none_left c.parts.parts
    c.in_default-next.ensures.steps.0))
    ∙ c.parts.invariant.first
