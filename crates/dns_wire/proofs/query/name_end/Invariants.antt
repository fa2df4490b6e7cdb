use Rattle.dns_wire.proofs.Common.{length, ◌-◌}
use Rattle.dns_wire.proofs.QueryName.{ReadTo}
use Rattle.dns_wire.proofs.query.name_end.Given as goal

-- the labels so far are the first labels of the name
abbrev pub invariant-labels : goal.invariant-labels
invariant-labels l = ReadTo l.datagram l.at

abbrev pub decreases-labels : goal.decreases-labels
decreases-labels l = length l.datagram - l.at
