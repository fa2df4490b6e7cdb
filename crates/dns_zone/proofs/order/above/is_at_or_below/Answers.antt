use Rattle.dns_zone.proofs.Common.{rules, length, ap, arith}
use Rattle.dns_zone.proofs.NameEnds.{end_is}
use Rattle.dns_spec.proofs.DomainNames.WireNames.{wire_some}
use Rattle.dns_zone.proofs.order.above.is_at_or_below.Goals as goal

pub shortest_end-requires : goal.shortest_end-requires
shortest_end-requires c =
    let some = wire_some c.args.other.now in omega (arith, ap length c.octets.ensures.value)

pub returns : goal.returns
returns c = search (rules, end_is)
