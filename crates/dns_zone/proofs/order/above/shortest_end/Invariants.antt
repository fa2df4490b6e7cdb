use Rattle.dns_zone.proofs.Common.{length, ◌-◌}
use Rattle.dns_zone.proofs.NameEnds.{GoesOn}
use Rattle.dns_zone.proofs.order.above.shortest_end.Given as goal

abbrev pub invariant-labels : goal.invariant-labels
invariant-labels l = GoesOn l.least l.name l.octets l.place

abbrev pub decreases-labels : goal.decreases-labels
decreases-labels l = length l.octets - l.place
