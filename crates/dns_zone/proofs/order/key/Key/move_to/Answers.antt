use Rattle.dns_zone.proofs.Common.{rules, ◌≡◌, ◌-◌, length, take, take_at, ap, subst, ◌∙◌, arith, IsWireForm-wire, labels_of_spelled, name_key, BeginAlike}
use Rattle.std.proofs.lemmas.List.{length-take, length-take-le}
use Rattle.dns_zone.proofs.WrittenKeys.{some, alike_front, alike_itself}
use Rattle.dns_zone.proofs.order.key.Key.move_to.Goals as goal

pub overflow_sub-self : goal.overflow_sub-self
overflow_sub-self c = search (rules, some, IsWireForm-wire)

pub put_labels-requires-clause-wire : goal.put_labels-requires-clause-wire
put_labels-requires-clause-wire c =
    IsWireForm-wire _ _ c.octets-octets.ensures.value c.octets-octets.ensures.is_name

pub put_labels-requires-clause-room : goal.put_labels-requires-clause-room
put_labels-requires-clause-room c =
    let octets = c.octets-octets.ensures in
    omega (
      arith,
      length-take (length c.octets-octets.result.now - 1) c.self.inside.octets,
      octets.bound,
      some _ (IsWireForm-wire _ _ octets.value octets.is_name),
    )

pub put_labels-requires-clause-alike : goal.put_labels-requires-clause-alike
put_labels-requires-clause-alike c =
    let octets = c.self.inside.octets in
    let key : take c.self.inside.count octets ≡ name_key c.args.from.now = search rules in
    alike_front octets _ _
    (subst (BeginAlike octets) key (alike_itself octets c.self.inside.count))

pub returns : goal.returns
returns c =
    let octets = c.octets-octets.ensures in
    take_at c.put_labels.new.key _ _
    (c.put_labels.auto.key
    ∙ length-take-le _ c.self.inside.octets (omega (arith, octets.bound)))
    ∙ c.put_labels.ensures ∙ ap name_key (labels_of_spelled _ _ octets.value octets.is_name)
