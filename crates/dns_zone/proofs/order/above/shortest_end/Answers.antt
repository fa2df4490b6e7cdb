use Rattle.dns_zone.proofs.Common.{rules, ◌∙◌, arith, IsWireForm-wire, labels_of_spelled}
use Rattle.dns_zone.proofs.NameEnds.{inside, next_end, last_end}
use Rattle.dns_zone.proofs.order.above.shortest_end.Goals as goal

pub labels-init : goal.labels-init
labels-init c = search rules

pub overflow_add-next : goal.overflow_add-next
overflow_add-next c = omega (arith, c.labels.invariant.fits, c.octets-octets.ensures.bound)

pub bounds-octets-place : goal.bounds-octets-place
bounds-octets-place c = inside _ _ _ _ c.labels.invariant

pub overflow_add-next-in-labels : goal.overflow_add-next-in-labels
overflow_add-next-in-labels c = search rules

pub new-requires : goal.new-requires
new-requires c = search (rules, IsWireForm-wire)

pub returns-then-next-last : goal.returns-then-next-last
returns-then-next-last c =
    let h = c.labels.invariant in
    c.new.ensures.value
    ∙ labels_of_spelled c.split_at.result.1.now h.rest (c.split_at.ensures.back ∙ h.octets) h.name
    ∙ last_end _ _ c.octets-octets.result.now _ h
    (omega (arith, c.saturating_sub-last.ensures, c.if-next-last.true))

pub labels-smaller : goal.labels-smaller
labels-smaller c = omega (arith, c.saturating_sub-last.ensures, c.if-next-last.false)

pub labels-preserved : goal.labels-preserved
labels-preserved c = search (rules, next_end)
