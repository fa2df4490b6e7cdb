use Rattle.dns_zone.proofs.Common.{IsFront, IsPartitionedBy, List, ResourceRecord, arith, drop, length, row_octets, span, subst, sym, wire, ◌-◌, ◌<◌, ◌∙◌, ◌≡◌, ◌≤◌}
use Rattle.dns_zone.proofs.ChildRows.{is_under, owner_at}
use Rattle.dns_zone.proofs.NameRow.{under_others, ends, reached}
use Rattle.dns_zone.proofs.tree.row.Row.of.Goals as goal
use Rattle.dns_zone.proofs.tree.row.Row.of.Goals.{After-octets-2}
use Rattle.dns_spec.proofs.General.Fronts.{parted_drop}

pub count_under-requires-clause-in_front : goal.count_under-requires-clause-in_front
count_under-requires-clause-in_front c =
    let m = c.args.name.now in
    subst (λ (ys : List ResourceRecord). IsPartitionedBy (is_under m) ys)
    (sym c.split_at.ensures.back)
    (parted_drop (is_under m) (span c.args.records.now c.args.first c.args.end)
    c.max-known.result
    (under_others c.args.records.now c.requires.canonical m c.args.first
    (omega (arith, c.requires.some, c.requires.fits)) c.requires.here c.requires.before c.args.end
    (omega (arith, c.requires.some)) c.requires.after))

-- the first owner ends with the name's octets
offset : (c : After-octets-2) → (length (wire c.args.name.now) ≤ length (wire c.owner.result))
    × (drop (length (wire c.owner.result) - length (wire c.args.name.now)) (wire c.owner.result)
    ≡ wire c.args.name.now)
offset c =
    let rs = c.args.records.now in
    let fits : c.args.first < length rs = omega (arith, c.requires.some, c.requires.fits) in
    ends rs c.requires.canonical c.args.name.now c.args.first fits c.requires.here c.requires.lower
    c.owner.result
    (c.owner.ensures.value
    ∙ sym (owner_at rs c.args.first c.index-records-first.result fits c.index-records-first.is))

pub overflow_sub-result : goal.overflow_sub-result
overflow_sub-result c = let name = offset c in grind arith

pub returns-clause-row : goal.returns-clause-row
unfolding row_octets
returns-clause-row c =
    let rs = c.args.records.now in
    let m = c.args.name.now in
    let first = c.args.first in
    let end = c.args.end in
    let own = c.count_in_front-own.result in
    let count = c.count_under.result in
    let fits : first < length rs = omega (arith, c.requires.some, c.requires.fits) in
    let upto : first ≤ end = omega (arith, c.requires.some) in
    let known = c.max-known.result in
    let more : IsFront (is_under m) (drop known (span rs first end)) count =
    subst (λ (ys : List ResourceRecord). IsFront (is_under m) ys count) c.split_at.ensures.back
    c.count_under.ensures in
    let reach =
    reached rs c.requires.canonical m first fits c.requires.here c.requires.before end upto
    c.requires.after own known count c.count_in_front-own.ensures.value c.requires.some
    c.max-known.ensures more in
    let name = offset (goal.at.returns-clause-row c).After-octets-2 in
    grind (arith, owner_at)
